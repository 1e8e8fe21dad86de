-- Which descriptors readers of real devices refuse: the definitions of Faults at their limits (our choice).
use Rattle.std.specs.Prelude.{ℕ, List}
use Rattle.hid_report_descriptor.specs.declared.fault.Cause.{Cause}
use Rattle.hid_report_descriptor.specs.declared.limits.Limits.TheVariants.{Real}
use Rattle.hid_report_descriptor.specs.Items.{EncodedItem}
use Rattle.hid_report_descriptor.specs.Faults as faults

-- a real device's descriptor is refused for this cause at this place
abbrev pub Refuses : List ℕ → Cause → ℕ → Type 0
Refuses = faults.Refuses Real

-- why there is no layout of a real device: out of memory, or the one refusal
abbrev pub Explains : List ℕ → Cause → ℕ → Type 0
Explains = faults.Explains Real

-- a real device's descriptor is accepted, with these items (the last one first)
abbrev pub Accepts : List ℕ → List EncodedItem → Type 0
Accepts = faults.Accepts Real
