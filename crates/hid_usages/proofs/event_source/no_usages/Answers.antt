use Rattle.std.proofs.Common.{arith}
use Rattle.hid_usages.proofs.event_source.no_usages.Goals as goal

pub returns : goal.returns
returns c = λ layout i. record { fits = omega arith; each = λ j low within. absurd (omega arith) }
