-- Events as they are printed (our choice: docs/SCRIPT.md).
use Rattle.std.specs.Prelude.{ℕ, List, ◌∷◌, ◌++◌, codes}
use Rattle.std.specs.Fmt.{decimal, signed_decimal}
use Rattle.hid_layout.specs.declared.control.ControlId.{ControlId}
use Rattle.hid_snapshots.specs.declared.event.Event.{Event}
use Rattle.hid_snapshots.specs.declared.event.Event.TheVariants.{Down, Up, Value, Null, Motion, Dropped}
use Rattle.hid_report_descriptor.specs.declared.usage.Usage.{Usage}
use Rattle.hid_notation.specs.Text.{usage_text}

-- what happened, after the device's number
abbrev pub event_words : Event → List ℕ
event_words (Down control usage) = codes " down " ++ usage_text usage
event_words (Up control usage) = codes " up " ++ usage_text usage
event_words (Value control usage value) = codes " value " ++ usage_text usage ++ 32 ∷ signed_decimal value
event_words (Null control usage) = codes " null " ++ usage_text usage
event_words (Motion control usage by) = codes " motion " ++ usage_text usage ++ 32 ∷ signed_decimal by
event_words (Dropped control usage by) = codes " dropped " ++ usage_text usage ++ 32 ∷ signed_decimal by

-- an event as it is printed: the device, what happened, the usage, and the number if there is one. Example: 1 down 07:04
abbrev pub event_text : ℕ → Event → List ℕ
event_text dev event = decimal dev ++ event_words event

-- a control as it is printed: its item and its place there, as values prints them. Example: @2.0
abbrev pub control_text : ControlId → List ℕ
control_text control = 64 ∷ decimal control.item ++ 46 ∷ decimal control.index

-- a usage, and the control that has it
abbrev pub placed_usage : Usage → ControlId → List ℕ
placed_usage usage control = usage_text usage ++ 32 ∷ control_text control

-- what happened, with the control after the usage
abbrev pub placed_words : Event → List ℕ
placed_words (Down control usage) = codes " down " ++ placed_usage usage control
placed_words (Up control usage) = codes " up " ++ placed_usage usage control
placed_words (Value control usage value) = codes " value " ++ placed_usage usage control ++ 32 ∷ signed_decimal value
placed_words (Null control usage) = codes " null " ++ placed_usage usage control
placed_words (Motion control usage by) = codes " motion " ++ placed_usage usage control ++ 32 ∷ signed_decimal by
placed_words (Dropped control usage by) = codes " dropped " ++ placed_usage usage control ++ 32 ∷ signed_decimal by

-- an event as it is printed with its control: the device, what happened, the usage, the control, and the number if
-- there is one. Example: 1 down 07:04 @2.4
abbrev pub placed_event_text : ℕ → Event → List ℕ
placed_event_text dev event = decimal dev ++ placed_words event
