use Rattle.std.proofs.Common.{◌≡◌, ◌⊎◌, inl, inr, refl, sym, subst, ℕ, List, [], Option, Ok, Err, OnOk, Bor}
use Rattle.hid_requests.specs.declared.boot.Boot.{Boot}
use Rattle.hid_bus.specs.declared.start.Start.{Start}
use Rattle.hid_script.specs.Session.{Session}
use Rattle.lab_lines.specs.declared.lab_line.LabLine.{LabLine}
use Rattle.lab_lines.specs.declared.lab_line.LabLine.TheVariants as said
use Rattle.lab_session.specs.declared.bench.Bench.{Bench}
use Rattle.std.proofs.KnownBytes.{Appends-nil}
use Rattle.hid_script.specs.Interpreter.{session_of}
use Rattle.hid_script.specs.LineOutput.{LineBegins, LinePrints}
use Rattle.lab_lines.specs.LabLines.{said_of}
use Rattle.lab_session.specs.Bench.{DoesSaid, moment_of}
use Rattle.lab_session.specs.Lines.{LineDoes, LineUnsettled}
use Rattle.lab_session.specs.Scripts.{PrintsSaid}
use Rattle.hid_host.specs.declared.fault.StackFault.TheVariants.{NoDevice}
use Rattle.hid_script.proofs.StreamLemmas.{no_calls}
use Rattle.lab_session.specs.declared.fault.LabCause.TheVariants as cause
use Rattle.lab_session.specs.Calls.{EndsLab, NeedsNoCall}
use Rattle.lab_session.proofs.CallLemmas.{lab_by, lab_quiet, none_fails, stack_needs_none}
use Rattle.lab_session.proofs.DoingLemmas.{does_nothing, err_is, however, nothing_said, stays_there}
use Rattle.lab_session.proofs.bench.Bench.carry_out.Goals as goal

-- a line of which who gives the lines does what there is to do
abbrev IsIdle : LabLine → Type 0
IsIdle l = (l ≡ said.Nothing) ⊎ (((count : ℕ) × (l ≡ said.Repeat count)) ⊎ ((l ≡ said.End) ⊎ (((name : Bor (List ℕ)) × (l ≡ said.Include name))
    ⊎ ((start : Start) × (boot : Boot) × (name : Bor (List ℕ)) × (l ≡ said.DeviceFile start boot name)))))

idle_does : (a : Bench) (u : Option (List ℕ)) (l : LabLine) → IsIdle l → DoesSaid (said_of l) a a u u
unfolding LineDoes
idle_does a u l (inl e) = subst (λ x. DoesSaid (said_of x) a a u u) (sym e) (does_nothing a u)
idle_does a u l (inr (inl e)) = subst (λ x. DoesSaid (said_of x) a a u u) (sym e.1) (does_nothing a u)
idle_does a u l (inr (inr (inl e))) = subst (λ x. DoesSaid (said_of x) a a u u) (sym e) (does_nothing a u)
idle_does a u l (inr (inr (inr (inl e)))) = subst (λ x. DoesSaid (said_of x) a a u u) (sym e.1) (does_nothing a u)
idle_does a u l (inr (inr (inr (inr e)))) = subst (λ x. DoesSaid (said_of x) a a u u) (sym e.3) (does_nothing a u)

idle_prints : (u : Option (List ℕ)) (session : Session) (l : LabLine) → IsIdle l → PrintsSaid u u (said_of l) session (Ok tt) session
idle_prints u session l (inl e) = subst (λ x. PrintsSaid u u (said_of x) session (Ok tt) session) (sym e) (Ok tt, refl, ([], Appends-nil u, nothing_said session))
idle_prints u session l (inr (inl e)) = subst (λ x. PrintsSaid u u (said_of x) session (Ok tt) session) (sym e.1) tt
idle_prints u session l (inr (inr (inl e))) = subst (λ x. PrintsSaid u u (said_of x) session (Ok tt) session) (sym e) tt
idle_prints u session l (inr (inr (inr (inl e)))) = subst (λ x. PrintsSaid u u (said_of x) session (Ok tt) session) (sym e.1) tt
idle_prints u session l (inr (inr (inr (inr e)))) = subst (λ x. PrintsSaid u u (said_of x) session (Ok tt) session) (sym e.3) tt

pub returns-in-Nothing-clause-does : goal.returns-in-Nothing-clause-does
returns-in-Nothing-clause-does g c = idle_does c.args.self.now (g.W.Sink.contents c.args.writer.now) c.args.line.now c.in-Nothing.is

pub returns-in-Nothing-clause-prints : goal.returns-in-Nothing-clause-prints
returns-in-Nothing-clause-prints g c = λ plain undrawn. idle_prints (g.W.Sink.contents c.args.writer.now) (session_of c.args.self.now.interpreter) c.args.line.now c.in-Nothing.is

pub returns-in_err-script_line-in-Script-clause-prints : goal.returns-in_err-script_line-in-Script-clause-prints
unfolding LinePrints LineBegins
returns-in_err-script_line-in-Script-clause-prints g c = λ plain undrawn.
    subst (λ l. PrintsSaid (g.W.Sink.contents c.args.writer.now) (g.W.Sink.contents c.script_line.new.writer) (said_of l) (session_of c.args.self.now.interpreter) c.from_residual.result (session_of c.script_line.new.self.interpreter))
    (sym c.in-Script.is) (Err c.in_err-script_line-in-Script.field-0.0, err_is c.from_residual.result _ c.from_residual.ensures.1, c.in_err-script_line-in-Script.ensures.prints plain)

pub returns-in_ok-script_line-in-Script-clause-prints : goal.returns-in_ok-script_line-in-Script-clause-prints
unfolding LinePrints LineBegins
returns-in_ok-script_line-in-Script-clause-prints g c = λ plain undrawn.
    subst (λ l. PrintsSaid (g.W.Sink.contents c.args.writer.now) (g.W.Sink.contents c.script_line.new.writer) (said_of l) (session_of c.args.self.now.interpreter) (Ok tt) (session_of c.script_line.new.self.interpreter))
    (sym c.in-Script.is) (Ok tt, refl, c.in_ok-script_line-in-Script.ensures.prints plain)

pub returns-in-Expect-clause-does : goal.returns-in-Expect-clause-does
returns-in-Expect-clause-does g c =
    subst (λ l. OnOk c.expect.result (DoesSaid (said_of l) c.args.self.now c.expect.new.self (g.W.Sink.contents c.args.writer.now) (g.W.Sink.contents c.args.writer.now)))
    (sym c.in-Expect.is) (however c.expect.result _ (stays_there c.args.self.now c.expect.new.self (g.W.Sink.contents c.args.writer.now) c.expect.ensures.moment c.expect.ensures.options))

pub returns-in-ExpectNone-clause-does : goal.returns-in-ExpectNone-clause-does
returns-in-ExpectNone-clause-does g c =
    subst (λ l. OnOk c.expect_none.result (DoesSaid (said_of l) c.args.self.now c.expect_none.new.self (g.W.Sink.contents c.args.writer.now) (g.W.Sink.contents c.args.writer.now)))
    (sym c.in-ExpectNone.is) (however c.expect_none.result _ (stays_there c.args.self.now c.expect_none.new.self (g.W.Sink.contents c.args.writer.now) c.expect_none.ensures.moment c.expect_none.ensures.options))

pub returns-in-Expect-clause-unsettled : goal.returns-in-Expect-clause-unsettled
returns-in-Expect-clause-unsettled g c =
    subst (λ l. LineUnsettled (said_of l) c.expect.result (moment_of c.expect.new.self)) (sym c.in-Expect.is) c.expect.ensures.settled

pub returns-in-ExpectNone-clause-unsettled : goal.returns-in-ExpectNone-clause-unsettled
returns-in-ExpectNone-clause-unsettled g c =
    subst (λ l. LineUnsettled (said_of l) c.expect_none.result (moment_of c.expect_none.new.self)) (sym c.in-ExpectNone.is) c.expect_none.ensures.settled

pub returns-in-ExpectAny-clause-does : goal.returns-in-ExpectAny-clause-does
returns-in-ExpectAny-clause-does g c =
    subst (λ l. OnOk c.expect_any.result (DoesSaid (said_of l) c.args.self.now c.expect_any.new.self (g.W.Sink.contents c.args.writer.now) (g.W.Sink.contents c.args.writer.now)))
    (sym c.in-ExpectAny.is) (however c.expect_any.result _ (stays_there c.args.self.now c.expect_any.new.self (g.W.Sink.contents c.args.writer.now) c.expect_any.ensures.moment c.expect_any.ensures.options))

pub returns-in_err-control-in-Change-clause-calls : goal.returns-in_err-control-in-Change-clause-calls
returns-in_err-control-in-Change-clause-calls g c =
    lab_by g.W.Sink.calls c.args.writer.now c.args.writer.now (cause.Script c.in_err-control-in-Change.field-0.0) c.from_residual-in_err-control-in-Change.result
    (none_fails g.W.Sink.calls c.args.writer.now c.args.writer.now c.in_err-control-in-Change.field-0.0 c.in_err-control-in-Change.ensures.err (no_calls g.W.Sink.calls c.args.writer.now)) c.from_residual-in_err-control-in-Change.ensures.1

pub returns-in_err-control-in-Click-clause-calls : goal.returns-in_err-control-in-Click-clause-calls
returns-in_err-control-in-Click-clause-calls g c =
    lab_by g.W.Sink.calls c.args.writer.now c.args.writer.now (cause.Script c.in_err-control-in-Click.field-0.0) c.from_residual-in_err-control-in-Click.result
    (none_fails g.W.Sink.calls c.args.writer.now c.args.writer.now c.in_err-control-in-Click.field-0.0 c.in_err-control-in-Click.ensures.err (no_calls g.W.Sink.calls c.args.writer.now)) c.from_residual-in_err-control-in-Click.ensures.1

pub returns-in_err-lose-in-Lose-clause-calls : goal.returns-in_err-lose-in-Lose-clause-calls
returns-in_err-lose-in-Lose-clause-calls g c =
    lab_by g.W.Sink.calls c.args.writer.now c.args.writer.now (cause.Script c.in_err-lose-in-Lose.field-0.0) c.from_residual-in_err-lose-in-Lose.result
    (none_fails g.W.Sink.calls c.args.writer.now c.args.writer.now c.in_err-lose-in-Lose.field-0.0 (subst NeedsNoCall (sym c.in_err-lose-in-Lose.ensures.err.0) (stack_needs_none NoDevice)) (no_calls g.W.Sink.calls c.args.writer.now))
    c.from_residual-in_err-lose-in-Lose.ensures.1

pub returns-in-Nothing-clause-calls : goal.returns-in-Nothing-clause-calls
returns-in-Nothing-clause-calls g c = no_calls g.W.Sink.calls c.args.writer.now

pub returns-in_ok-lose-in-Lose-clause-calls : goal.returns-in_ok-lose-in-Lose-clause-calls
returns-in_ok-lose-in-Lose-clause-calls g c = no_calls g.W.Sink.calls c.args.writer.now

pub returns-in-Expect-clause-calls : goal.returns-in-Expect-clause-calls
returns-in-Expect-clause-calls g c = lab_quiet g.W.Sink.calls c.args.writer.now c.args.writer.now c.expect.result c.expect.ensures.quiet (no_calls g.W.Sink.calls c.args.writer.now)

pub returns-in-ExpectNone-clause-calls : goal.returns-in-ExpectNone-clause-calls
returns-in-ExpectNone-clause-calls g c = lab_quiet g.W.Sink.calls c.args.writer.now c.args.writer.now c.expect_none.result c.expect_none.ensures.quiet (no_calls g.W.Sink.calls c.args.writer.now)

pub returns-in-ExpectAny-clause-calls : goal.returns-in-ExpectAny-clause-calls
returns-in-ExpectAny-clause-calls g c =
    subst (EndsLab g.W.Sink.calls c.args.writer.now c.args.writer.now) (sym c.expect_any.ensures.result) (no_calls g.W.Sink.calls c.args.writer.now)
