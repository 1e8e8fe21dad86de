-- What the lines of a script do to its bus, and what the text that they print reports of each device (our choice:
-- docs/SCRIPT.md; USB 2.0, 8.5.4, 8.6 and 9.4.7).
use Rattle.std.specs.Prelude.{◌≡◌, ◌⊎◌, ℕ, ◌+◌, List, [], ◌∷◌, ◌++◌, length, map, replicate, Some, None, Result, Ok, Err}
use Rattle.hid_report_descriptor.specs.declared.usage.Usage.{Usage}
use Rattle.hid_layout.specs.declared.control.ControlId.{ControlId}
use Rattle.hid_snapshots.specs.declared.event.Event.{Event}
use Rattle.hid_requests.specs.declared.boot.Boot.{Boot}
use Rattle.hid_bus.specs.declared.start.Start.{Start}
use Rattle.hid_bus.specs.declared.step.Step.TheVariants as step
use Rattle.hid_stack.specs.declared.rig.TheConstants.{MAX_DEVICES}
use Rattle.hid_stack.specs.Attaching.{Attaches, Finds}
use Rattle.hid_stack.specs.Headline.{MemberFollowsHistory}
use Rattle.hid_stack.specs.Members.{Member}
use Rattle.hid_stack.specs.Rig.{member_at}
use Rattle.hid_stack.specs.BusHistory.{Action, Attached, Taken, bus_after_actions, bus_events_of_actions, device_actions, next_number}
use Rattle.hid_text.specs.declared.line.Line.{Line}
use Rattle.hid_text.specs.declared.line.Line.TheVariants as line
use Rattle.hid_text.specs.declared.short.ShortLine.{ShortLine}
use Rattle.hid_text.specs.declared.short.ShortLine.TheVariants as short
use Rattle.hid_text.specs.Line.{meaning_of}
use Rattle.hid_text.specs.EventLines.{event_lines}
use Rattle.hid_text.specs.EventText.{event_text}
use Rattle.hid_script.specs.declared.fault.Cause.TheVariants.{Write}
use Rattle.hid_script.specs.declared.fault.ScriptFault.{ScriptFault}
use Rattle.hid_script.specs.declared.summary.Summary.{Summary}
use Rattle.hid_text.specs.declared.change_kind.ChangeKind.{ChangeKind}
use Rattle.hid_text.specs.declared.change_kind.ChangeKind.TheVariants as wanted
use Rattle.hid_script.specs.Steps.{config_of, change_of}

-- ---- what a script does to its bus

-- the device is attached under the next number
abbrev pub AttachesOne : Start → Boot → List ℕ → List Member → List Action → Type 0
AttachesOne start boot bytes members acts =
    (dev : ℕ) × (m : Member) × Attaches MAX_DEVICES (config_of boot) bytes start members (Ok dev) (members ++ m ∷ [])
    × (acts ≡ Attached m ∷ [])

-- the least control with the usage changes
abbrev pub ChangesOne : ℕ → Usage → ChangeKind → List Member → List Action → Type 0
ChangesOne dev usage wanted members acts =
    (control : ControlId) × Finds members dev usage (Ok control)
    × (acts ≡ Taken (step.Change dev (change_of wanted control)) ∷ [])

-- what a short line does, by its form
unfoldable pub DoesShort : ShortLine → List Member → List Action → Type 0
DoesShort (short.Press dev usage) members acts = ChangesOne dev usage wanted.Press members acts
DoesShort (short.Release dev usage) members acts = ChangesOne dev usage wanted.Release members acts
DoesShort (short.Null dev usage) members acts = ChangesOne dev usage wanted.Null members acts
DoesShort (short.Set dev usage value) members acts = ChangesOne dev usage (wanted.Set value) members acts
DoesShort (short.Move dev usage by) members acts = ChangesOne dev usage (wanted.Move by) members acts
DoesShort (short.Frame count) members acts = acts ≡ replicate count (Taken step.Frame)
DoesShort (short.Poll dev fate count) members acts = acts ≡ replicate count (Taken (step.Poll dev fate))
DoesShort (short.Control dev fate count) members acts = acts ≡ replicate count (Taken (step.Control dev fate))
DoesShort (short.Reset dev) members acts = acts ≡ Taken (step.Reset dev) ∷ []
DoesShort (short.Halt dev) members acts = acts ≡ Taken (step.Halt dev) ∷ []

-- What a line does, by its form.
unfoldable pub ScriptActs : Line → List Member → List Action → Type 0
ScriptActs line.Nothing members acts = acts ≡ []
ScriptActs (line.Layout bytes) members acts = acts ≡ []
ScriptActs (line.Values bytes) members acts = acts ≡ []
ScriptActs (line.Device start boot bytes) members acts = AttachesOne start boot bytes.items members acts
ScriptActs (line.Begin dev request) members acts = acts ≡ Taken (step.Begin dev request) ∷ []
ScriptActs (line.Step said) members acts = DoesShort said members acts

-- what lines do to the bus, one after the other
abbrev pub AllDo : List Member → List (List ℕ) → List Action → Type 0
AllDo members [] acts = acts ≡ []
AllDo members (bytes ∷ more) acts =
    (said : Line) × (first : List Action) × (rest : List Action)
    × (meaning_of bytes ≡ Ok said) × ScriptActs said members first
    × AllDo (bus_after_actions members first) more rest
    × (acts ≡ first ++ rest)

-- what the first of these lines begins to do: nothing, or the first of the steps that it takes
abbrev pub BeginsToDo : List Member → List (List ℕ) → List Action → Type 0
BeginsToDo members [] acts = acts ≡ []
BeginsToDo members (bytes ∷ more) acts = (acts ≡ [])
    ⊎ ((said : Line) × (others : List Action) × (meaning_of bytes ≡ Ok said)
    × ScriptActs said members (acts ++ others))

-- what lines do from the first of a script on, and what the next begins to do
abbrev pub DoUpTo : List (List ℕ) → List (List ℕ) → List Action → Type 0
DoUpTo script next acts =
    (all : List Action) × (begun : List Action) × AllDo [] script all
    × BeginsToDo (bus_after_actions [] all) next begun × (acts ≡ all ++ begun)

-- ---- the headline, of the text that is printed

-- What a script prints of each device that it attaches: the lines of its events are, in order, the texts of all that
-- is reported in its history, which its own steps after its attach make. There are none of a device that isn't
-- attached.
pub record PrintsHistories (Did : List Action → Type 0) (text : List ℕ) (members : List Member) : Type 0 where
  pub acts : List Action
  pub done : Did acts
  pub bus : members ≡ bus_after_actions [] acts
  pub history : (before since : List Action) (m : Member) → acts ≡ before ++ Attached m ∷ since
      → (n : Member) × (told : List Event) × (member_at members (next_number before) ≡ Some n)
      × (event_lines (next_number before) text ≡ map (event_text (next_number before)) told)
      × MemberFollowsHistory m (bus_events_of_actions m (device_actions before since)) n told
  pub none : (dev : ℕ) → member_at members dev ≡ None → event_lines dev text ≡ []

-- What a run prints of the histories of its devices: by all its lines; or by those before the one at which it ends,
-- and by the repetitions of that line that were carried out; their text is truncated only if the writer failed.
abbrev pub RunPrintsHistories : List (List ℕ) → List ℕ → Result Summary ScriptFault → Type 0
RunPrintsHistories script written (Ok summary) = (last : List Member) × PrintsHistories (AllDo [] script) written last
RunPrintsHistories script written (Err fault) =
    (first : List (List ℕ)) × (others : List (List ℕ)) × (text : List ℕ) × (part : List ℕ) × (last : List Member)
    × (script ≡ first ++ others) × (fault.line ≡ length first + 1)
    × (written ≡ text ++ part) × PrintsHistories (AllDo [] first) text last
    × (cut : List ℕ) × (now : List Member)
    × PrintsHistories (DoUpTo first others) (written ++ cut) now × ((fault.cause ≡ Write) ⊎ (cut ≡ []))
