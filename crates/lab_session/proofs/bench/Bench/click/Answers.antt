use Rattle.std.proofs.Common.{sym, ◌∙◌}
use Rattle.lab_session.proofs.DoingLemmas.{err_is}
use Rattle.hid_text.specs.declared.change_kind.ChangeKind.TheVariants.{Press, Release}
use Rattle.lab_session.specs.Lines.{SettlesChange}
use Rattle.lab_session.proofs.CallLemmas.{lab_behind}
use Rattle.lab_session.proofs.DoingLemmas.{ok_then}
use Rattle.lab_session.proofs.bench.Bench.click.Goals as goal

pub returns : goal.returns
returns g c = record {
  does = ok_then c.settle_change-2.result (SettlesChange c.args.dev c.args.control Press) (SettlesChange c.args.dev c.args.control Release) c.args.self.now c.settle_change.new.self c.settle_change-2.new.self _ (g.W.Sink.contents c.settle_change.new.writer) _ c.in_ok-settle_change.ensures.does c.settle_change-2.ensures.does;
  unsettled = c.settle_change-2.ensures.unsettled;
  calls = lab_behind g.W.Sink.calls c.args.writer.now c.settle_change.new.writer c.settle_change-2.new.writer c.settle_change-2.result c.in_ok-settle_change.ensures.calls c.settle_change-2.ensures.calls;
}

pub returns-in_err-settle_change-clause-unsettled : goal.returns-in_err-settle_change-clause-unsettled
returns-in_err-settle_change-clause-unsettled g c = λ is. c.in_err-settle_change.ensures.unsettled (sym (err_is c.from_residual.result _ c.from_residual.ensures.1) ∙ is)
