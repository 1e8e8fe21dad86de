-- What the bench carries out: lines of a script, changes of controls by their places, and descriptors and reports of any length
-- (our choice: docs/LAB.md).
use Rattle.std.specs.Prelude.{◌≡◌, ℕ, List, [], ◌∷◌, ◌++◌}
use Rattle.hid_layout.specs.declared.control.ControlId.{ControlId}
use Rattle.hid_requests.specs.declared.boot.Boot.{Boot}
use Rattle.hid_bus.specs.declared.start.Start.{Start}
use Rattle.hid_bus.specs.declared.step.Step.TheVariants as step
use Rattle.hid_text.specs.declared.change_kind.ChangeKind.{ChangeKind}
use Rattle.hid_text.specs.declared.line.Line.{Line}
use Rattle.hid_script.specs.Session.{Session, Outcome, success}
use Rattle.hid_script.specs.Steps.{DevicePrints, LayoutPrints, StepPrints, ValuesPrint, change_of}
use Rattle.hid_script.specs.LineOutput.{CarriesOut}

-- A line of a script, or the change of one control by its place. Of several controls with one usage a line of a script names
-- the least alone, and it has room for 512 bytes: longer descriptors and reports are parts too.
pub data Part : Type 0 where
  Says : Line → Part
  Changes : ℕ → ControlId → ChangeKind → Part
  LaysOut : List ℕ → Part
  ShowsValues : List ℕ → Part
  Attaches : Start → Boot → List ℕ → Part

-- the outcome of a part
unfoldable pub PartPrints : Part → Session → Outcome → Type 0
PartPrints (Says said) session o = CarriesOut session said o
PartPrints (Changes dev control wanted) session o = StepPrints (step.Change dev (change_of wanted control)) session o
PartPrints (LaysOut bytes) session o = LayoutPrints bytes session o
PartPrints (ShowsValues bytes) session o = ValuesPrint bytes session o
PartPrints (Attaches start boot bytes) session o = DevicePrints start boot bytes session o

-- all parts of a list are carried out, one after the other, and their texts, joined, are this text
abbrev pub AllCarry : Session → List Part → List ℕ → Session → Type 0
AllCarry session [] text last = (text ≡ []) × (last ≡ session)
AllCarry session (part ∷ more) text last =
    (first : List ℕ) × (next : Session) × (rest : List ℕ)
    × PartPrints part session (success first next) × AllCarry next more rest last × (text ≡ first ++ rest)
