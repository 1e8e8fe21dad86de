-- What the parts of a bench do to its bus (our choice: docs/LAB.md; USB 2.0, 8.5.4, 8.6 and 9.4.7).
use Rattle.std.specs.Prelude.{◌≡◌, List, [], ◌∷◌, ◌++◌}
use Rattle.hid_bus.specs.declared.step.Step.TheVariants as step
use Rattle.hid_stack.specs.Members.{Member}
use Rattle.hid_stack.specs.BusHistory.{Action, Taken, bus_after_actions}
use Rattle.hid_script.specs.Printing.{AttachesOne, ScriptActs}
use Rattle.hid_script.specs.Steps.{change_of}
use Rattle.lab_session.specs.Parts.{Part, Says, Changes, LaysOut, ShowsValues, Attaches}

-- what a part does: as its line of a script, or as the change, the layout, the values or the device alone
unfoldable pub PartActs : Part → List Member → List Action → Type 0
PartActs (Says said) members acts = ScriptActs said members acts
PartActs (Changes dev control wanted) members acts = acts ≡ Taken (step.Change dev (change_of wanted control)) ∷ []
PartActs (LaysOut bytes) members acts = acts ≡ []
PartActs (ShowsValues bytes) members acts = acts ≡ []
PartActs (Attaches start boot bytes) members acts = AttachesOne start boot bytes members acts

-- what parts do to a bus, one after the other
abbrev pub AllAct : List Member → List Part → List Action → Type 0
AllAct members [] acts = acts ≡ []
AllAct members (part ∷ more) acts =
    (first : List Action) × (rest : List Action)
    × PartActs part members first × AllAct (bus_after_actions members first) more rest × (acts ≡ first ++ rest)
