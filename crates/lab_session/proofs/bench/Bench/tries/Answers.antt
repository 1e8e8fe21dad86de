use Rattle.std.proofs.Common.{[], ◌++◌, ◌∙◌, ap, sym, subst, arith, add-one}
use Rattle.std.proofs.KnownBytes.{Appends-nil, Appends-trans}
use Rattle.hid_bus.specs.declared.step.Step.TheVariants.{Control}
use Rattle.hid_script.specs.Interpreter.{session_of}
use Rattle.hid_script.specs.Steps.{StepPrints}
use Rattle.hid_script.proofs.RepeatLemmas.{no_times, one_more, last_time, all_times}
use Rattle.hid_script.proofs.StreamLemmas.{all_succeed, from_behind, no_calls}
use Rattle.lab_session.specs.Chances.{chance_after}
use Rattle.lab_session.specs.Lines.{Tries}
use Rattle.lab_session.specs.Printed.{IsPlain}
use Rattle.lab_session.proofs.CallLemmas.{step_by}
use Rattle.lab_session.proofs.DoingLemmas.{all_often, does_nothing, often_more}
use Rattle.lab_session.proofs.bench.Bench.tries.Goals as goal

pub loop-init : goal.loop-init
loop-init g c = (
  does_nothing c.args.self.now _,
  λ plain none. (none, [], Appends-nil _, no_times (StepPrints (Control c.args.dev c.args.fate)) (session_of c.args.self.now.interpreter)),
  no_calls g.W.Sink.calls c.args.writer.now,
)

pub loop-preserved : goal.loop-preserved
loop-preserved g c = (
  often_more (Tries c.args.dev c.args.fate) c.loop.counter c.args.self.now c.loop.self c.try_once.new.self _ _ _ c.loop.invariant.0 c.in_ok-try_once.ensures.does,
  λ plain none.
      let before = c.loop.invariant.1 plain none in
      let told = c.in_ok-try_once.ensures.prints (subst IsPlain (sym c.loop.invariant.0.options) plain) before.0 in (
        c.in_ok-try_once.ensures.does.done.drawn.0 ∙ ap (λ x. chance_after x c.args.fate) before.0,
        before.1 ++ told.0,
        Appends-trans _ _ _ before.1 told.0 before.2 told.1,
        rw add-one
            (one_more c.loop.counter (StepPrints (Control c.args.dev c.args.fate)) (session_of c.args.self.now.interpreter)
            (session_of c.loop.self.interpreter) (session_of c.try_once.new.self.interpreter) before.1 told.0 before.3 told.2),
      ),
  all_succeed g.W.Sink.calls c.args.writer.now c.loop.writer c.try_once.new.writer c.loop.invariant.2 c.in_ok-try_once.ensures.calls,
)

pub returns-in_err-try_once-clause-calls : goal.returns-in_err-try_once-clause-calls
returns-in_err-try_once-clause-calls g c =
    step_by g.W.Sink.calls c.args.writer.now c.try_once.new.writer c.in_err-try_once.field-0.0 c.from_residual.result
    (from_behind g.W.Sink.calls c.args.writer.now c.loop.writer c.try_once.new.writer c.in_err-try_once.field-0.0 c.loop.invariant.2 c.in_err-try_once.ensures.calls) c.from_residual.ensures.1

pub returns-in_err-try_once-clause-prints : goal.returns-in_err-try_once-clause-prints
returns-in_err-try_once-clause-prints g c = λ plain none.
    let before = c.loop.invariant.1 plain none in
    let told = c.in_err-try_once.ensures.prints (subst IsPlain (sym c.loop.invariant.0.options) plain) before.0 in (
      before.1 ++ told.0,
      Appends-trans _ _ _ before.1 told.0 before.2 told.1,
      last_time c.loop.counter c.args.count (StepPrints (Control c.args.dev c.args.fate)) (session_of c.args.self.now.interpreter)
          (session_of c.loop.self.interpreter) (session_of c.try_once.new.self.interpreter) _ before.1 told.0 c.in_err-try_once.field-0.0 _
          (omega arith) before.3 told.2 c.from_residual.ensures.1,
    )

pub returns-clause-prints : goal.returns-clause-prints
returns-clause-prints g c = λ plain none.
    let before = c.loop.invariant.1 plain none in (
      before.1,
      before.2,
      all_times c.loop.counter c.args.count (StepPrints (Control c.args.dev c.args.fate)) (session_of c.args.self.now.interpreter)
          (session_of c.loop.self.interpreter) before.1 (omega arith) before.3,
    )

pub returns-clause-does : goal.returns-clause-does
returns-clause-does g c = all_often c.loop.counter c.args.count (Tries c.args.dev c.args.fate) c.args.self.now c.loop.self _ _ (omega arith) c.loop.invariant.0
