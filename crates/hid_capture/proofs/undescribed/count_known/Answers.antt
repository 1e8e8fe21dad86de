use Rattle.std.proofs.Common.{◌<◌, ap, ◌∙◌, get_or, set, length, arith, false}
use Rattle.std.proofs.lemmas.List.{get_or_default}
use Rattle.std.proofs.lemmas.List.Edits.{map_over_more}
use Rattle.hid_capture.specs.declared.undescribed.UndescribedEndpoint.{UndescribedEndpoint}
use Rattle.hid_capture.specs.Undescribed.{with_transfer}
use Rattle.hid_capture.proofs.undescribed.count_known.Goals as goal

pub loop-one-preserved : goal.loop-one-preserved
loop-one-preserved c =
    let known = c.loop-one.known in
    let i = c.loop-one.one-index in
    let blank : UndescribedEndpoint = record { bus = 0; device = 0; endpoint = 0; is_hid = false; transfers = 0 } in
    let here : UndescribedEndpoint = get_or known i blank in
    let within : i < length c.args.known.now = omega arith in
    let kept : i < length known = omega arith in
    ap (λ (one : UndescribedEndpoint). set known i one) c.count_at.ensures
    ∙ map_over_more (with_transfer c.args.bus c.args.device c.args.endpoint c.args.is_hid) c.args.known.now known i here within c.loop-one.invariant
    (get_or_default known i blank here kept)
