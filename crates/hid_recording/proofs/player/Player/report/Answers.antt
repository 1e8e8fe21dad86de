use Rattle.std.specs.Prelude.{string_bytes, ◌||◌}
use Rattle.std.proofs.Common.{rules, tests, arith, ap}
use Rattle.std.proofs.lemmas.Grind.{common_steps}
use Rattle.hid_recording.specs.MemoryUse.{refusal_allocates}
use Rattle.hid_recording.specs.Player.{session_of}
use Rattle.hid_recording.proofs.PlayerLemmas.{played_cause, report_other, report_refused, report_untimed}
use Rattle.hid_recording.proofs.player.Player.report.Goals as goal

pub returns-in-Err-Refused-clause-outcome : goal.returns-in-Err-Refused-clause-outcome
returns-in-Err-Refused-clause-outcome g c =
    report_refused (session_of c.args.self.now) c.args.time.now c.args.bytes.now c.play.new.self.current c.play.new.self.slots.items c.in-Err-Refused.refusal _ _ (string_bytes c.clear.new.self) (string_bytes c.play.new.text) _ _ _ c.in-Err-Refused.ensures.current (rw c.in-Err-Refused.field-0-is at c.in-Err-Refused.ensures.played) c.refuse.ensures.outcome

pub returns-in_err-set_time-in-Ok-clause-outcome : goal.returns-in_err-set_time-in-Ok-clause-outcome
returns-in_err-set_time-in-Ok-clause-outcome g c =
    report_untimed (session_of c.args.self.now) _ c.args.time.now c.args.bytes.now _ _ (string_bytes c.clear.new.self) (string_bytes c.play.new.text) c.in-Ok.events
    c.play.new.self.slots.items _ _ c.clear.ensures.bytes c.in-Ok.ensures.played c.from_residual.ensures.1

pub returns-in-Err : goal.returns-in-Err
returns-in-Err g c = record {
  outcome = report_other (session_of c.args.self.now) c.args.time.now c.args.bytes.now _ _ (string_bytes c.clear.new.self) (string_bytes c.play.new.text) c.in-Err.cause
      c.play.new.self.slots.items (λ why is. first_of (search (rules, tests), cc, grind (arith, common_steps))) c.clear.ensures.bytes c.in-Err.ensures.played;
  memory = λ e. ap (λ b. b || refusal_allocates (session_of c.args.self.now)) (c.in-Err.ensures.memory (played_cause _ _ e));
}
