use Rattle.std.proofs.Common.{◌∙◌}
use Rattle.hid_script.proofs.StreamLemmas.{all_succeed, no_calls}
use Rattle.lab_session.proofs.CallLemmas.{lab_by, from_lab_behind}
use Rattle.lab_session.proofs.DoingLemmas.{err_is}
use Rattle.std.proofs.Common.{sym}
use Rattle.lab_session.proofs.DoingLemmas.{typed_more, typed_none}
use Rattle.lab_session.proofs.bench.Bench.type_text.Goals as goal

pub loop-character-preserved : goal.loop-character-preserved
loop-character-preserved g c = (
  λ after w h.
      c.loop-character.invariant.0 after w
      (typed_more c.args.dev c.in-Some.character c.in-Some-key_of.key c.loop-character.text.rest.now c.next_character.new.self.rest.now c.loop-character.self c.click_key.new.self after _ _ w c.in-Some.ensures.next (sym c.in-Some-key_of.ensures) c.in_ok-click_key.ensures.does h),
  all_succeed g.W.Sink.calls c.args.writer.now c.loop-character.writer c.click_key.new.writer c.loop-character.invariant.1 c.in_ok-click_key.ensures.calls,
)

pub loop-character-init : goal.loop-character-init
loop-character-init g c = (λ after w h. h, no_calls g.W.Sink.calls c.args.writer.now)

pub returns : goal.returns
returns g c = record {
  does = c.loop-character.invariant.0 c.loop-character.self (g.W.Sink.contents c.loop-character.writer)
      (typed_none c.args.dev c.loop-character.text.rest.now c.loop-character.self (g.W.Sink.contents c.loop-character.writer) c.in_default.ensures.next);
  unsettled = λ e. absurd (cc);
  calls = c.loop-character.invariant.1;
}

pub returns-in_err-click_key-clause-unsettled : goal.returns-in_err-click_key-clause-unsettled
returns-in_err-click_key-clause-unsettled g c = λ is. c.in_err-click_key.ensures.unsettled (sym (err_is c.from_residual.result _ c.from_residual.ensures.1) ∙ is)

pub returns-in_err-click_key-clause-calls : goal.returns-in_err-click_key-clause-calls
returns-in_err-click_key-clause-calls g c =
    lab_by g.W.Sink.calls c.args.writer.now c.click_key.new.writer c.in_err-click_key.field-0.0 c.from_residual.result
    (from_lab_behind g.W.Sink.calls c.args.writer.now c.loop-character.writer c.click_key.new.writer c.in_err-click_key.field-0.0 c.loop-character.invariant.1 c.in_err-click_key.ensures.calls) c.from_residual.ensures.1
