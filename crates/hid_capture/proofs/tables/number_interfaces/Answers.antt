use Rattle.std.proofs.Common.{◌<◌, ap, ◌∙◌, get_or, set, length, arith, false}
use Rattle.std.proofs.lemmas.List.{get_or_default}
use Rattle.std.proofs.lemmas.List.Edits.{map_over_more}
use Rattle.hid_capture.specs.declared.tables.TrackedInterface.{TrackedInterface}
use Rattle.hid_capture.specs.Tracking.{with_interface_in}
use Rattle.hid_capture.proofs.tables.number_interfaces.Goals as goal

pub loop-tracked-preserved : goal.loop-tracked-preserved
loop-tracked-preserved c =
    let interfaces = c.loop-tracked.interfaces in
    let i = c.loop-tracked.tracked-index in
    let blank : TrackedInterface = record { bus = 0; device = 0; interface = 0; is_described = false } in
    let here : TrackedInterface = get_or interfaces i blank in
    let within : i < length c.args.interfaces.now = omega arith in
    let kept : i < length interfaces = omega arith in
    ap (λ (tracked : TrackedInterface). set interfaces i tracked) c.number_interface.ensures
    ∙ map_over_more (with_interface_in c.args.active_configurations.now c.args.endpoints.now) c.args.interfaces.now interfaces i here within c.loop-tracked.invariant
    (get_or_default interfaces i blank here kept)
