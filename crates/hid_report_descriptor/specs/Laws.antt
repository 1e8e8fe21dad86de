-- Laws of acceptance and refusal, which hold whatever reads a descriptor (HID 1.11, 6.2.2).
use Rattle.std.specs.Prelude.{◌≡◌, ◌≢◌, ℕ, List, ◌∷◌, ◌++◌, true}
use Rattle.hid_items.specs.ItemEncoding.{prefix_of}
use Rattle.hid_report_descriptor.specs.declared.fault.Cause.{Cause}
use Rattle.hid_report_descriptor.specs.declared.limits.Limits.{Limits}
use Rattle.hid_report_descriptor.specs.declared.limits.Limits.TheVariants.{Bus, Real}
use Rattle.hid_report_descriptor.specs.Items.{EncodedItem, is, PUSH, POP}
use Rattle.hid_report_descriptor.specs.Globals.{in_force, IsBetween}
use Rattle.hid_report_descriptor.specs.Faults.{Accepts, Refuses}

-- a descriptor is accepted with one list of items at most
abbrev pub HasOneReading : Limits → Type 0
HasOneReading limits = (bytes : List ℕ) (before others : List EncodedItem)
    → Accepts limits bytes before → Accepts limits bytes others → before ≡ others

-- what is accepted is not refused
abbrev pub AcceptsNoRefused : Limits → Type 0
AcceptsNoRefused limits = (bytes : List ℕ) (before : List EncodedItem) (cause : Cause) (at : ℕ)
    → Accepts limits bytes before → Refuses limits bytes cause at → ⊥

-- a descriptor is refused for one cause at most
abbrev pub HasOneCause : Limits → Type 0
HasOneCause limits = (bytes : List ℕ) (cause other : Cause) (at there : ℕ)
    → Refuses limits bytes cause at → Refuses limits bytes other there → cause ≡ other

-- a descriptor is refused at one place at most
abbrev pub HasOnePlace : Limits → Type 0
HasOnePlace limits = (bytes : List ℕ) (cause other : Cause) (at there : ℕ)
    → Refuses limits bytes cause at → Refuses limits bytes other there → at ≡ there

-- what is accepted within the limits of the bus is accepted, with the same items, within those of real devices
abbrev pub AcceptsAllOfBus : Type 0
AcceptsAllOfBus = (bytes : List ℕ) (before : List EncodedItem) → Accepts Bus bytes before → Accepts Real bytes before

-- a global after a Pop is the one that was in force before the matching Push (6.2.2.7)
abbrev pub PopRestores : Type 0
PopRestores = (prefix : ℕ) (pop push : EncodedItem) (between before : List EncodedItem)
    → prefix ≢ POP → prefix_of pop ≡ POP → is PUSH push ≡ true → IsBetween 0 between
    → in_force prefix (pop ∷ (between ++ push ∷ before)) ≡ in_force prefix before
