-- Which descriptors a virtual device and its host refuse: the definitions of Faults and Laws at the limits of the bus
-- (our choice).
use Rattle.std.specs.Prelude.{ℕ, Bool, List, Option}
use Rattle.hid_report_descriptor.specs.declared.fault.Cause.{Cause}
use Rattle.hid_report_descriptor.specs.declared.limits.Limits.TheVariants.{Bus}
use Rattle.hid_report_descriptor.specs.Items.{EncodedItem}
use Rattle.hid_report_descriptor.specs.Fields.{Field}
use Rattle.hid_report_descriptor.specs.Faults as faults
use Rattle.hid_report_descriptor.specs.Laws as laws

-- the fields are more than those of a virtual device may be
abbrev pub are_too_many : List Field → Bool
are_too_many = faults.are_too_many Bus

-- the most bits of a virtual device's report after its ID
abbrev pub report_limit : ℕ → ℕ
report_limit = faults.report_limit Bus

-- the cause for which a virtual device's Input, Output or Feature item is refused after the items before it
abbrev pub field_fault : List EncodedItem → EncodedItem → Option Cause
field_fault = faults.field_fault Bus

-- the cause for which an item of a virtual device's descriptor is refused
abbrev pub fault_of : List EncodedItem → EncodedItem → Option Cause
fault_of = faults.fault_of Bus

-- no item of a virtual device is refused (the last item first)
abbrev pub AreAccepted : List EncodedItem → Type 0
AreAccepted = faults.AreAccepted Bus

-- a virtual device's descriptor begins with these items (the last one first), which are accepted
abbrev pub Reaches : List ℕ → ℕ → List EncodedItem → Type 0
Reaches = faults.Reaches Bus

-- a virtual device's descriptor is refused for this cause at this place
abbrev pub Refuses : List ℕ → Cause → ℕ → Type 0
Refuses = faults.Refuses Bus

-- why there is no layout of a virtual device: out of memory, or the one refusal
abbrev pub Explains : List ℕ → Cause → ℕ → Type 0
Explains = faults.Explains Bus

-- a virtual device's descriptor is accepted, with these items (the last one first)
abbrev pub Accepts : List ℕ → List EncodedItem → Type 0
Accepts = faults.Accepts Bus

-- the first refused item of a virtual device after the items before it, with its cause and its place
abbrev pub first_fault : List EncodedItem → ℕ → List EncodedItem → Option (Cause × ℕ)
first_fault = faults.first_fault Bus

-- a virtual device's descriptor is accepted with one list of items at most
abbrev pub HasOneReading : Type 0
HasOneReading = laws.HasOneReading Bus

-- of virtual devices, what is accepted is not refused
abbrev pub AcceptsNoRefused : Type 0
AcceptsNoRefused = laws.AcceptsNoRefused Bus

-- a virtual device's descriptor is refused for one cause at most
abbrev pub HasOneCause : Type 0
HasOneCause = laws.HasOneCause Bus

-- a virtual device's descriptor is refused at one place at most
abbrev pub HasOnePlace : Type 0
HasOnePlace = laws.HasOnePlace Bus
