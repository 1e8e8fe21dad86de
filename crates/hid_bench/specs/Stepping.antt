-- What is stepped: the devices of a bus with their hosts, and the steps of a turn (our choice).
use Rattle.std.specs.Prelude.{List}
use Rattle.hid_stack.specs.Members.{Member}
use Rattle.hid_bus.specs.declared.step.Step.{Step}

-- the bus, and the steps that are made in each turn
pub record Turn : Type 0 where
  pub members : List Member
  pub steps : List Step
