-- Events of a recording as they are printed (our choice: docs/RECORDINGS.md).
use Rattle.std.specs.Prelude.{ℕ, Bool, List, [], ◌∷◌, ◌++◌, if◌then◌else◌, Option, None, Some}
use Rattle.std.specs.Fmt.{decimal, signed_decimal}
use Rattle.std.specs.List.{flat_map}
use Rattle.hid_report_descriptor.specs.declared.usage.Usage.{Usage}
use Rattle.hid_layout.specs.Layout.{Contents}
use Rattle.hid_layout.specs.declared.control.ControlId.{ControlId}
use Rattle.hid_snapshots.specs.declared.event.Event.{Event}
use Rattle.hid_snapshots.specs.declared.event.Event.TheVariants.{Value, Motion, Dropped}
use Rattle.hid_names.specs.Names.{Name, name_of, name_text}
use Rattle.hid_text.specs.EventText.{control_text, event_words, placed_words}
use Rattle.hid_recording.specs.declared.options.Options.{Options}
use Rattle.hid_recording.specs.EventJson.{usage_in, event_tokens, json_text}

-- a name after a space, where there is one
abbrev pub after_space : Option Name → List ℕ
after_space None = []
after_space (Some name) = 32 ∷ name_text name

-- the name of a usage
abbrev pub name_words : Usage → List ℕ
name_words usage = after_space (name_of usage.page usage.id)

-- a control after a space, if places are asked for
abbrev pub place_words : Bool → ControlId → List ℕ
place_words places control = if places then 32 ∷ control_text control else []

-- the number of an event after a space, where it has one
abbrev pub amount_words : Event → List ℕ
amount_words (Value control usage value) = 32 ∷ signed_decimal value
amount_words (Motion control usage by) = 32 ∷ signed_decimal by
amount_words (Dropped control usage by) = 32 ∷ signed_decimal by
amount_words _ = []

-- what happened, with the control after the usage if places are asked for
abbrev pub shown_words : Bool → Event → List ℕ
shown_words places event = if places then placed_words event else event_words event

-- an event, after the number of its device
abbrev pub shown_event : Bool → ℕ → Event → List ℕ
shown_event places device event = decimal device ++ shown_words places event

-- an event as a line for people: TIME D EVENT, with --places its control, and with --names the name of its usage
abbrev pub plain_line : List ℕ → ℕ → Options → Event → List ℕ
plain_line time device options event =
    time ++ 32 ∷ shown_event options.places device event ++ (if options.names then name_words (usage_in event) else [])
    ++ 10 ∷ []

-- the line of an event of a device with this layout: the time as it stands, the device, the event, with places its
-- control, and with names that of its usage. Example: 0.1 0 down 09:01 @0.0 Button 1
unfoldable pub event_line : List ℕ → ℕ → Options → Contents → Event → List ℕ
event_line time device options layout event =
    if options.json then json_text (event_tokens time device options.names layout event)
    else plain_line time device options event

-- a line for each event
abbrev pub event_lines : List ℕ → ℕ → Options → Contents → List Event → List ℕ
event_lines time device options layout events = flat_map (event_line time device options layout) events
