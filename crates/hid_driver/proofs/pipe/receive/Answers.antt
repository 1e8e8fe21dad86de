use Rattle.std.proofs.Common.{◌∙◌, ◌++◌, List, ap, sym}
use Rattle.hid_snapshots.specs.declared.event.Event.{Event}
use Rattle.hid_usages.specs.Receiving.{view_after_report}
use Rattle.hid_driver.proofs.AtOnceLemmas.{reads_at_once, view_changed}
use Rattle.hid_driver.proofs.pipe.receive.Goals as goal

pub returns-then-ends_at_once-clause-outcome : goal.returns-then-ends_at_once-clause-outcome
returns-then-ends_at_once-clause-outcome c =
    c.read.ensures.outcome
    ∙ sym (reads_at_once c.args.packet_size c.args.receiver.now.state c.args.bytes.now c.if-ends_at_once.ensures).outcome

pub returns-then-ends_at_once-clause-after : goal.returns-then-ends_at_once-clause-after
returns-then-ends_at_once-clause-after c =
    let before = c.args.receiver.now.state in
    view_changed before c.read.new.receiver.state (view_after_report before.layout c.args.bytes.now before.view) c.read.ensures.layout c.read.ensures.view
    c.read.ensures.collected
    ∙ sym (reads_at_once c.args.packet_size before c.args.bytes.now c.if-ends_at_once.ensures).after

pub returns-then-ends_at_once-clause-events : goal.returns-then-ends_at_once-clause-events
returns-then-ends_at_once-clause-events c =
    c.read.ensures.events
    ∙ ap (λ (es : List Event). c.args.out.now.items ++ es)
    (sym (reads_at_once c.args.packet_size c.args.receiver.now.state c.args.bytes.now c.if-ends_at_once.ensures).events)
