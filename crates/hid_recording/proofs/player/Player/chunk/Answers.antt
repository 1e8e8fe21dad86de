use Rattle.std.proofs.Common.{◌≡◌, subst, sym}
use Rattle.std.specs.Prelude.{string_bytes}
use Rattle.hid_recording.specs.Player.{session_of}
use Rattle.hid_recording.specs.LineOutput.{outcome_of_refusal, report_outcome}
use Rattle.hid_recording.proofs.PieceLemmas.{gathered_told}
use Rattle.hid_recording.proofs.PlayerLemmas.{IsWholeWith, chunk_joined, ended_told, refused_told}
use Rattle.hid_recording.proofs.player.Player.chunk.Goals as goal

pub returns-in-Err-clause-outcome : goal.returns-in-Err-clause-outcome
returns-in-Err-clause-outcome g c =
    let told = c.in_ok-joined.ensures.joined in
    chunk_joined _ _
    (session_of c.args.self.now) c.args.time.now c.args.chunk.now c.join.new.self.current c.join.new.self.slots.items told.0 (λ s. outcome_of_refusal s c.in-Err.refusal) _ _ _ c.in_ok-joined.ensures.current told.2
    (refused_told (session_of c.args.self.now) c.args.time.now c.args.chunk.now c.in_ok-joined.joined c.in-Err.refusal told.0 told.1 c.in-Err.ensures.refused) (gathered_told (g.W.Write.contents c.args.writer.now) (λ o. o ≡ outcome_of_refusal (record (session_of c.args.self.now) { current = c.join.new.self.current; devices = c.join.new.self.slots.items }) c.in-Err.refusal) c.refuse.result (string_bytes c.refuse.new.self.text) (session_of c.refuse.new.self) c.refuse.ensures.outcome)

pub returns-in-Ok-Some-clause-outcome : goal.returns-in-Ok-Some-clause-outcome
returns-in-Ok-Some-clause-outcome g c =
    let told = c.in_ok-joined.ensures.joined in
    let given = c.as_slice.result.now in
    chunk_joined _ _ (session_of c.args.self.now) c.args.time.now c.args.chunk.now c.join.new.self.current c.join.new.self.slots.items told.0 (λ s. report_outcome c.args.time.now given s) _ _ _ c.in_ok-joined.ensures.current told.2
    (ended_told (session_of c.args.self.now) c.args.time.now c.args.chunk.now given c.in_ok-joined.joined told.0 told.1
    (subst (λ j. IsWholeWith j given) (sym (rw c.in-Ok-Some.field-0-is at c.in-Ok-Some.ensures.whole)) c.as_slice.ensures.value)) c.report.ensures.outcome
