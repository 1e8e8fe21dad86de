use Rattle.std.proofs.Common.{◌≡◌, ℕ, [], List, sym, subst, arith, rules, vec_len}
use Rattle.hid_snapshots.specs.declared.control_state.ControlState.{ControlState}
use Rattle.hid_usages.specs.Known.{Knows}
use Rattle.hid_usages.specs.Taking.{read_events}
use Rattle.hid_usages.proofs.LastLemmas.{known_by_last, planned_read}
use Rattle.hid_usages.proofs.ReaderLemmas.{quiet_again}
use Rattle.hid_usages.proofs.reader.take_one.Goals as goal

pub take_planned-requires-clause-known : goal.take_planned-requires-clause-known
take_planned-requires-clause-known g c =
    let layout = c.args.received.now.layout.now in
    let r = c.args.received.now.report in
    let bytes = c.args.received.now.bytes.now in
    let view = c.args.view.now in
    subst (λ (last : List ℕ). Knows layout r bytes last c.changed-changed.result view) (sym c.deref.ensures.value)
    (known_by_last layout r view c.args.planned.now bytes c.changed-changed.result c.items.ensures.layout c.requires.planned (omega (arith, c.requires.planned.plan.room, c.requires.received.whole)) c.changed-changed.ensures)

pub returns-clause-planned : goal.returns-clause-planned
returns-clause-planned g c =
    let layout = c.args.received.now.layout.now in
    let r = c.args.received.now.report in
    let bytes = c.args.received.now.bytes.now in
    let view = c.args.view.now in
    planned_read layout r view c.take_planned.new.self c.args.planned.now c.keep.new.self _ bytes c.items.ensures.layout c.requires.planned.plan (omega (arith, c.requires.planned.plan.room, c.requires.received.whole)) c.keep.ensures c.take_planned.ensures.view
    (λ e. subst (λ (v : List ControlState). read_events layout r bytes v ≡ []) (sym c.take_planned.ensures.view)
    (quiet_again layout r bytes view c.items.ensures.layout c.requires.received.input c.requires.fits
    (let same : vec_len c.take_planned.new.out ≡ vec_len c.args.out.now = search rules in omega (arith, same, c.take_planned.ensures.appends.len))))
