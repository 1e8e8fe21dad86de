-- What waits to be expected of what was printed, and which Output reports took effect (our choice: docs/LAB.md; HID 1.11, 7.2.2).
use Rattle.std.specs.Prelude.{◌≡◌, ◌≢◌, ℕ, ◌<◌, Bool, List, [], ◌∷◌, ◌++◌, Option, None, Some, if◌then◌else◌}
use Rattle.hid_requests.specs.declared.request.Request.{Request}
use Rattle.hid_text.specs.declared.line.Line.{Line}
use Rattle.hid_text.specs.declared.line.Line.TheVariants as line
use Rattle.hid_text.specs.declared.short.ShortLine.{ShortLine}
use Rattle.hid_text.specs.declared.short.ShortLine.TheVariants as short
use Rattle.lab_expectations.specs.declared.transcript.Transcript.{Transcript}
use Rattle.lab_session.specs.declared.bench.Bench.{Bench}
use Rattle.lab_session.specs.Expecting.{Keeps}
use Rattle.lab_session.specs.Outputs.{SetOutput, awaited_at, output_set_by, output_text}
use Rattle.lab_session.specs.Parts.{Part, Says, Changes, LaysOut, ShowsValues, Attaches}

-- A part that was carried out: what it printed, and the Output report that took effect by it, if one did.
pub record Carried : Type 0 where
  pub part : Part
  pub text : List ℕ
  pub output : Option SetOutput

-- the parts that were carried out
abbrev pub carried_parts : List Carried → List Part
carried_parts [] = []
carried_parts (carried ∷ more) = carried.part ∷ carried_parts more

-- the text that they printed, without the lines of Output reports
abbrev pub carried_text : List Carried → List ℕ
carried_text [] = []
carried_text (carried ∷ more) = carried.text ++ carried_text more

-- the device of which a short line makes a try of its transfer
abbrev pub device_tried : ShortLine → Option ℕ
device_tried (short.Control dev fate count) = Some dev
device_tried _ = None

-- the device of which a line makes a try
abbrev pub line_tries : Line → Option ℕ
line_tries (line.Step said) = device_tried said
line_tries _ = None

-- the device of which a part makes a try
abbrev pub part_tries : Part → Option ℕ
part_tries (Says said) = line_tries said
part_tries _ = None

-- the line of an Output report, as it waits: it has to be expected where tries are printed; else a + stands before it
abbrev pub waiting_output : Bool → List ℕ → List ℕ
waiting_output trace line = if trace then line else 43 ∷ line

-- the line of the Output report that took effect at a device, if one did
abbrev pub output_line : Bool → Option ℕ → Option SetOutput → List ℕ
output_line trace (Some dev) (Some output) = waiting_output trace (output_text dev output.id output.bytes)
output_line trace (Some dev) None = []
output_line trace None output = []

-- The lines that wait: of each part what it printed, and then the line of the Output report that took effect by it.
abbrev pub waiting_of : Bool → List Carried → List ℕ
waiting_of trace [] = []
waiting_of trace (carried ∷ more) =
    (carried.text ++ output_line trace (part_tries carried.part) carried.output) ++ waiting_of trace more

-- A part by which no Output report took effect leaves what is awaited; if it begins a request, the report that this is to set
-- is awaited of its device, or none if it sets none. Devices are numbered to 7.
pub record LeavesAwaited (part : Part) (before after : ℕ → Option SetOutput) : Type 0 where
  pub begins : (dev : ℕ) (request : Request) → part ≡ Says (line.Begin dev request) → dev < 8 → after dev ≡ output_set_by request
  pub others : (dev : ℕ) → ((request : Request) → part ≡ Says (line.Begin dev request) → ⊥) → after dev ≡ before dev

-- An Output report took effect by a try of its device, of which it was awaited. It is awaited no more.
pub record TookEffect (part : Part) (output : SetOutput) (before after : ℕ → Option SetOutput) : Type 0 where
  pub dev : ℕ
  pub tries : part_tries part ≡ Some dev
  pub awaited : before dev ≡ Some output
  pub once : after dev ≡ None
  pub others : (other : ℕ) → other ≢ dev → after other ≡ before other

-- what a part does to what is awaited
abbrev pub TakesEffect : Part → Option SetOutput → (ℕ → Option SetOutput) → (ℕ → Option SetOutput) → Type 0
TakesEffect part None before after = LeavesAwaited part before after
TakesEffect part (Some output) before after = TookEffect part output before after

-- what parts do to what is awaited, one after the other
abbrev pub TakeEffect : List Carried → (ℕ → Option SetOutput) → (ℕ → Option SetOutput) → Type 0
TakeEffect [] before after = (dev : ℕ) → after dev ≡ before dev
TakeEffect (carried ∷ more) before after =
    (middle : ℕ → Option SetOutput) × TakesEffect carried.part carried.output before middle × TakeEffect more middle after

-- A text of these parts waits after what waited, as it was printed: in order, with the lines of Output reports where they took
-- effect. Each of these is what was awaited of its device, and waits once.
pub record Waits (trace : Bool) (old new : Transcript) (before after : ℕ → Option SetOutput) (parts : List Part)
    (text : List ℕ) : Type 0 where
  pub all : List Carried
  pub carried : carried_parts all ≡ parts
  pub printed : carried_text all ≡ text
  pub effects : TakeEffect all before after
  pub keeps : Keeps old new (waiting_of trace all)

-- a text that a bench printed of these parts waits to be expected
abbrev pub KeepsText : Bench → Bench → List Part → List ℕ → Type 0
KeepsText old new parts text =
    Waits old.options.trace old.printer.transcript new.printer.transcript (awaited_at old.outputs) (awaited_at new.outputs) parts text
