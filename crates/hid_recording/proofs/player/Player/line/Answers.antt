use Rattle.std.proofs.Common.{◌≡◌, arith, subst, IsErrAnd}
use Rattle.std.specs.Prelude.{string_bytes}
use Rattle.hid_recording.specs.Pieces.{cause_of}
use Rattle.hid_recording.specs.Player.{session_of}
use Rattle.hid_recording.proofs.PlayerLemmas.{long_line_ends, line_ends, line_written, line_unwritten, line_cause, written_cause}
use Rattle.hid_recording.proofs.player.Player.line.Goals as goal

pub returns-then-line-gt-MAX_LINE-clause-outcome : goal.returns-then-line-gt-MAX_LINE-clause-outcome
returns-then-line-gt-MAX_LINE-clause-outcome g c = long_line_ends _ (session_of c.args.self.now) c.args.line.now (omega (arith, c.if-line-gt-MAX_LINE.true))

pub returns-in_err-play_line-clause-outcome : goal.returns-in_err-play_line-clause-outcome
returns-in_err-play_line-clause-outcome g c =
    line_ends _ _ (session_of c.args.self.now) c.args.line.now _ c.in_err-play_line.field-0.0 _ _
    (omega (
      arith,
      c.if-line-gt-MAX_LINE.false,
    )) c.saturating_add-self.ensures c.in_err-play_line.ensures.outcome c.from_residual.ensures.1

pub returns-in_err-write_text-clause-outcome : goal.returns-in_err-write_text-clause-outcome
returns-in_err-write_text-clause-outcome g c =
    let h = c.in_ok-play_line.ensures.outcome in
    line_unwritten _ _ _ (session_of c.args.self.now) c.args.line.now _ h.0 (string_bytes c.play_line.new.self.text) c.as_bytes.result.now
    c.from_residual-in_err-write_text.result (session_of c.play_line.new.self) _
    (omega (
      arith,
      c.if-line-gt-MAX_LINE.false,
    )) c.saturating_add-self.ensures h.1 h.2 c.as_bytes.ensures.value c.in_err-write_text.ensures.prefix
    (subst (λ f. IsErrAnd c.from_residual-in_err-write_text.result (λ e. e ≡ cause_of f)) c.in_err-write_text.ensures.cause c.from_residual-in_err-write_text.ensures.1)

pub returns-clause-outcome : goal.returns-clause-outcome
returns-clause-outcome g c =
    let h = c.in_ok-play_line.ensures.outcome in
    line_written _ _ _ (session_of c.args.self.now) c.args.line.now _ h.0 (string_bytes c.play_line.new.self.text) c.as_bytes.result.now
    (session_of c.play_line.new.self)
    (omega (
      arith,
      c.if-line-gt-MAX_LINE.false,
    )) c.saturating_add-self.ensures h.1 h.2 c.as_bytes.ensures.value c.in_ok-write_text.ensures.ok

pub returns-in_err-play_line-clause-cause : goal.returns-in_err-play_line-clause-cause
returns-in_err-play_line-clause-cause g c =
    line_cause _ _ (session_of c.args.self.now) c.args.line.now _ c.in_err-play_line.field-0.0 _
    (omega (
      arith,
      c.if-line-gt-MAX_LINE.false,
    )) c.saturating_add-self.ensures c.in_err-play_line.ensures.outcome c.from_residual.ensures.1

pub returns-in_err-write_text-clause-cause : goal.returns-in_err-write_text-clause-cause
returns-in_err-write_text-clause-cause g c =
    let h = c.in_ok-play_line.ensures.outcome in
    written_cause (session_of c.args.self.now) c.args.line.now _ h.0 (string_bytes c.play_line.new.self.text) c.as_bytes.result.now
    c.in_err-write_text.field-0.0 c.write_text.result c.from_residual-in_err-write_text.result (session_of c.play_line.new.self)
    (omega (
      arith,
      c.if-line-gt-MAX_LINE.false,
    )) c.saturating_add-self.ensures h.2 c.as_bytes.ensures.value c.in_err-write_text.was c.write_text.ensures.nothing
    (subst (λ f. IsErrAnd c.from_residual-in_err-write_text.result (λ e. e ≡ cause_of f)) c.in_err-write_text.ensures.cause c.from_residual-in_err-write_text.ensures.1)
