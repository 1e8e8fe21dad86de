use Rattle.std.proofs.Common.{sym, ◌∙◌}
use Rattle.lab_session.proofs.DoingLemmas.{err_is}
use Rattle.hid_text.specs.declared.change_kind.ChangeKind.TheVariants.{Press, Release}
use Rattle.lab_session.specs.Lines.{Clicks, SettlesChange, Then}
use Rattle.lab_session.proofs.CallLemmas.{from_lab_behind, lab_behind, lab_by}
use Rattle.lab_session.proofs.DoingLemmas.{ok_then}
use Rattle.lab_session.proofs.bench.Bench.click_shifted.Goals as goal

pub returns : goal.returns
returns g c = record {
  does = ok_then c.settle_change-2.result (SettlesChange c.args.dev c.args.shift Press) (Then (Clicks c.args.dev c.args.control) (SettlesChange c.args.dev c.args.shift Release))
      c.args.self.now c.settle_change.new.self c.settle_change-2.new.self _ (g.W.Sink.contents c.settle_change.new.writer) _ c.in_ok-settle_change.ensures.does
      (ok_then c.settle_change-2.result (Clicks c.args.dev c.args.control) (SettlesChange c.args.dev c.args.shift Release)
      c.settle_change.new.self c.click.new.self c.settle_change-2.new.self _ (g.W.Sink.contents c.click.new.writer) _ c.in_ok-click.ensures.does c.settle_change-2.ensures.does);
  unsettled = c.settle_change-2.ensures.unsettled;
  calls = lab_behind g.W.Sink.calls c.args.writer.now c.settle_change.new.writer c.settle_change-2.new.writer c.settle_change-2.result c.in_ok-settle_change.ensures.calls
      (lab_behind g.W.Sink.calls c.settle_change.new.writer c.click.new.writer c.settle_change-2.new.writer c.settle_change-2.result c.in_ok-click.ensures.calls c.settle_change-2.ensures.calls);
}

pub returns-in_err-settle_change-clause-unsettled : goal.returns-in_err-settle_change-clause-unsettled
returns-in_err-settle_change-clause-unsettled g c = λ is. c.in_err-settle_change.ensures.unsettled (sym (err_is c.from_residual.result _ c.from_residual.ensures.1) ∙ is)

pub returns-in_err-click-clause-unsettled : goal.returns-in_err-click-clause-unsettled
returns-in_err-click-clause-unsettled g c = λ is. c.in_err-click.ensures.unsettled (sym (err_is c.from_residual-in_err-click.result _ c.from_residual-in_err-click.ensures.1) ∙ is)

pub returns-in_err-click-clause-calls : goal.returns-in_err-click-clause-calls
returns-in_err-click-clause-calls g c =
    lab_by g.W.Sink.calls c.args.writer.now c.click.new.writer c.in_err-click.field-0.0 c.from_residual-in_err-click.result
    (from_lab_behind g.W.Sink.calls c.args.writer.now c.settle_change.new.writer c.click.new.writer c.in_err-click.field-0.0 c.in_ok-settle_change.ensures.calls c.in_err-click.ensures.calls) c.from_residual-in_err-click.ensures.1
