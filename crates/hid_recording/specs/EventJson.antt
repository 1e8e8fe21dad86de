-- Events and refusals as JSON (RFC 8259; the members: our choice, docs/RECORDINGS.md).
use Rattle.std.specs.Prelude.{ℕ, ℤ, Bool, List, [], ◌∷◌, ◌++◌, if◌then◌else◌, Option, None, Some, slice_get, codes}
use Rattle.std.specs.Fmt.{decimal, signed_decimal}
use Rattle.json.specs.Token.{Token, begin_object, end_object, key, string, number}
use Rattle.json.specs.Print.{print}
use Rattle.hid_report_descriptor.specs.declared.collection.Collection.{Collection}
use Rattle.hid_report_descriptor.specs.declared.usage.Usage.{Usage}
use Rattle.hid_layout.specs.declared.control.ControlId.{ControlId}
use Rattle.hid_layout.specs.declared.main_item.MainItem.{MainItem}
use Rattle.hid_layout.specs.Layout.{Contents}
use Rattle.hid_snapshots.specs.declared.event.Event.{Event}
use Rattle.hid_snapshots.specs.declared.event.Event.TheVariants.{Down, Up, Value, Null, Motion, Dropped}
use Rattle.hid_names.specs.Names.{Name, name_of, name_text}
use Rattle.hid_text.specs.LayoutText.{collections_text}
use Rattle.hid_recording.specs.declared.counted.Counted.{Counted}
use Rattle.hid_recording.specs.declared.counted.Counted.TheVariants.{Lines, Frames, Reports}

-- the usage of an event's control
abbrev pub usage_in : Event → Usage
usage_in (Down control usage) = usage
usage_in (Up control usage) = usage
usage_in (Value control usage value) = usage
usage_in (Null control usage) = usage
usage_in (Motion control usage by) = usage
usage_in (Dropped control usage by) = usage

-- the control that an event is of
abbrev pub control_in : Event → ControlId
control_in (Down control usage) = control
control_in (Up control usage) = control
control_in (Value control usage value) = control
control_in (Null control usage) = control
control_in (Motion control usage by) = control
control_in (Dropped control usage by) = control

-- the collections round an item, where it is listed
abbrev pub path_in : Option MainItem → Option (List Collection) → List Collection
path_in (Some item) (Some path) = path
path_in _ _ = []

-- the collections round the item of a control, the outermost first
abbrev pub path_round : Contents → ControlId → List Collection
path_round layout control = path_in (slice_get layout.items control.item) (slice_get layout.paths control.item)

-- what an event is called
abbrev pub event_word : Event → List ℕ
event_word (Down control usage) = codes "down"
event_word (Up control usage) = codes "up"
event_word (Value control usage value) = codes "value"
event_word (Null control usage) = codes "null"
event_word (Motion control usage by) = codes "motion"
event_word (Dropped control usage by) = codes "dropped"

-- the members of when and of which device a report came: "time":"T","device":D
abbrev pub source_tokens : List ℕ → ℕ → List Token
source_tokens time device = key (codes "time") ∷ string time ∷ key (codes "device") ∷ number (decimal device) ∷ []

-- the members of what an event is and of its usage: "event":"WORD","page":P,"id":I
abbrev pub usage_tokens : List ℕ → Usage → List Token
usage_tokens word usage =
    key (codes "event") ∷ string word ∷ key (codes "page") ∷ number (decimal usage.page)
    ∷ key (codes "id") ∷ number (decimal usage.id) ∷ []

-- the members of a control, by the places of its item and of itself: "item":I,"index":J
abbrev pub place_tokens : ControlId → List Token
place_tokens control =
    key (codes "item") ∷ number (decimal control.item) ∷ key (codes "index") ∷ number (decimal control.index) ∷ []

-- the member of the collections round a control, the outermost first: "path":"KIND/U KIND/U"
abbrev pub path_tokens : List Collection → List Token
path_tokens path = key (codes "path") ∷ string (collections_text path) ∷ []

-- the members of which control an event is of: "item":I,"index":J,"path":"KIND/U KIND/U"
abbrev pub control_tokens : Contents → ControlId → List Token
control_tokens layout control = place_tokens control ++ path_tokens (path_round layout control)

-- the member of a number: "value":N
abbrev pub number_tokens : ℤ → List Token
number_tokens value = key (codes "value") ∷ number (signed_decimal value) ∷ []

-- the value that an event has
abbrev pub value_tokens : Event → List Token
value_tokens (Down control usage) = []
value_tokens (Up control usage) = []
value_tokens (Value control usage value) = number_tokens value
value_tokens (Null control usage) = []
value_tokens (Motion control usage by) = number_tokens by
value_tokens (Dropped control usage by) = number_tokens by

-- the member of a name: "name":"NAME"; no token where there is no name
abbrev pub named_tokens : Option Name → List Token
named_tokens None = []
named_tokens (Some name) = key (codes "name") ∷ string (name_text name) ∷ []

-- the name of a usage as a member, if names are asked for
abbrev pub name_tokens : Bool → Option Name → List Token
name_tokens is_asked name = if is_asked then named_tokens name else []

-- an object of members
abbrev pub object : List Token → List Token
object members = begin_object ∷ members ++ end_object ∷ []

-- the members of an event:
-- "time":"T","device":D,"event":"WORD","page":P,"id":U,"item":I,"index":J,"path":"KIND/U KIND/U","value":N,"name":"NAME"
abbrev pub event_members : List ℕ → ℕ → Bool → Contents → Event → List Token
event_members time device names layout event =
    source_tokens time device ++ usage_tokens (event_word event) (usage_in event)
    ++ control_tokens layout (control_in event) ++ value_tokens event ++ name_tokens names (name_of (usage_in event).page (usage_in event).id)

-- an event as a JSON object
unfoldable pub event_tokens : List ℕ → ℕ → Bool → Contents → Event → List Token
event_tokens time device names layout event = object (event_members time device names layout event)

-- what is counted: lines of a recording, frames of a capture, or reports of a device
abbrev pub counted_word : Counted → List ℕ
counted_word Lines = codes "line"
counted_word Frames = codes "frame"
counted_word Reports = codes "report"

-- the members of a refusal: "line":N,"refused":"CODE: WORDS"; of a capture "frame":N
abbrev pub refusal_members : Counted → ℕ → List ℕ → List Token
refusal_members counted place words =
    key (counted_word counted) ∷ number (decimal place) ∷ key (codes "refused") ∷ string words ∷ []

-- a refusal as a JSON object
unfoldable pub refusal_tokens : Counted → ℕ → List ℕ → List Token
refusal_tokens counted place words = object (refusal_members counted place words)

-- a line of JSON: the text of these tokens. Example: {"line":1,"refused":"R4: the count says 14, there are 13 bytes"}
abbrev pub json_text : List Token → List ℕ
json_text tokens = print tokens ++ 10 ∷ []
