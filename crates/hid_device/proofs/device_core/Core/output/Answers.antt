use Rattle.std.proofs.Common.{◌≡◌, ◌∙◌, ◌<◌, length, Some, ap, sym}
use Rattle.std.specs.Prelude.{slice_get}
use Rattle.std.specs.Option.{option_and_then}
use Rattle.std.proofs.lemmas.Option.{slice_get-get_or}
use Rattle.hid_device.specs.Core.{CoreState}
use Rattle.hid_device.specs.RequestTable.{output_of}
use Rattle.hid_device.specs.Outputs.{kept_place}
use Rattle.hid_device.proofs.OutputLemmas.{kept_there}
use Rattle.hid_device.proofs.device_core.Core.output.Goals as goal

pub returns-in-Some-clause-output : goal.returns-in-Some-clause-output
returns-in-Some-clause-output c =
    let layout = c.self.inside.layout in
    let outputs = c.self.inside.outputs.items in
    let place = c.in-Some.place in
    let within : place < length outputs = kept_there layout outputs place c.self.invariant.sound.outputs c.in-Some.ensures.within in
    let found : kept_place layout.reports c.args.kind c.args.id ≡ Some place = sym c.kept_place.ensures.place ∙ c.in-Some.is in
    let at : slice_get outputs place ≡ Some c.index.result.now = slice_get-get_or outputs place c.index.result.now within ∙ ap Some (sym c.index.ensures) in
    ap Some c.bytes.ensures.bytes ∙ sym (ap (option_and_then (slice_get outputs)) found ∙ at)
    ∙ ap (λ (core : CoreState). output_of core c.args.kind c.args.id) c.self.view_is
