use Rattle.std.proofs.Common.{◌≡◌, ◌∙◌, ◌<◌, ℕ, List, length, Option, Some, ap, subst, sym}
use Rattle.std.specs.Prelude.{slice_get}
use Rattle.std.specs.Option.{option_and_then}
use Rattle.hid_device.specs.Core.{CoreState}
use Rattle.hid_device.specs.RequestTable.{Decides, output_of, reads_optional}
use Rattle.hid_device.specs.Outputs.{kept_place}
use Rattle.hid_device.proofs.OutputLemmas.{kept_there}
use Rattle.hid_device.proofs.device_core.Core.read_output.Goals as goal

pub read_kept-requires : goal.read_kept-requires
read_kept-requires c =
    subst (λ (core : CoreState). c.in-Some.place < length core.outputs) c.self.view_is
    (kept_there c.self.inside.layout c.self.inside.outputs.items c.in-Some.place c.self.invariant.sound.outputs c.in-Some.ensures.within)

pub returns-in-Some : goal.returns-in-Some
returns-in-Some c =
    let core = c.args.self.now in
    let found : kept_place core.layout.reports c.args.kind c.args.id ≡ Some c.in-Some.place
    = ap (λ (core : CoreState). kept_place core.layout.reports c.args.kind c.args.id) (sym c.self.view_is) ∙ sym c.kept_place.ensures.place ∙ c.in-Some.is in
    let is : slice_get core.outputs c.in-Some.place ≡ output_of core c.args.kind c.args.id = sym (ap (option_and_then (slice_get core.outputs)) found) in
    subst (λ (o : Option (List ℕ)). Decides core
    (reads_optional o) c.read_kept.result c.read_kept.new.self) is c.read_kept.ensures
