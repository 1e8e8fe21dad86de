use Rattle.std.proofs.Common.{[], ◌++◌, arith, add-one}
use Rattle.std.proofs.KnownBytes.{Appends-nil, Appends-trans}
use Rattle.hid_script.specs.LineOutput.{ShortLinePrints, short_times}
use Rattle.hid_script.specs.Interpreter.{session_of}
use Rattle.hid_script.proofs.RepeatLemmas.{no_times, one_more, last_time, all_times}
use Rattle.hid_script.proofs.StreamLemmas.{ends_by, no_calls, all_succeed, from_behind}
use Rattle.hid_script.proofs.interpreter.Interpreter.repeat.Goals as goal

pub loop-init : goal.loop-init
loop-init g c = (
  ([], Appends-nil _, no_times (ShortLinePrints c.args.line.now) (session_of c.args.self.now)),
  no_calls g.W.Sink.calls c.args.writer.now,
)

pub loop-preserved : goal.loop-preserved
loop-preserved g c =
    let before = c.loop.invariant.0 in
    let told = c.in_ok-carry_out_once.ensures.prints in (
      (
        before.0 ++ told.0,
        Appends-trans _ _ _ before.0 told.0 before.1 told.1,
        rw add-one
            (one_more c.loop.counter (ShortLinePrints c.args.line.now) (session_of c.args.self.now)
            (session_of c.loop.self) (session_of c.carry_out_once.new.self) before.0 told.0 before.2 told.2),
      ),
      all_succeed g.W.Sink.calls c.args.writer.now c.loop.writer c.carry_out_once.new.writer c.loop.invariant.1 c.in_ok-carry_out_once.ensures.outside,
    )

pub returns-in_err-carry_out_once-clause-prints : goal.returns-in_err-carry_out_once-clause-prints
returns-in_err-carry_out_once-clause-prints g c =
    let before = c.loop.invariant.0 in
    let told = c.in_err-carry_out_once.ensures.prints in (
      before.0 ++ told.0,
      Appends-trans _ _ _ before.0 told.0 before.1 told.1,
      last_time c.loop.counter (short_times c.args.line.now) (ShortLinePrints c.args.line.now)
          (session_of c.args.self.now) (session_of c.loop.self)
          (session_of c.carry_out_once.new.self) _ before.0 told.0 c.in_err-carry_out_once.field-0.0 _
          (omega (arith, c.short_times-end.ensures)) before.2 told.2 c.from_residual.ensures.1,
    )

pub returns-clause-prints : goal.returns-clause-prints
returns-clause-prints g c =
    let before = c.loop.invariant.0 in (
      before.0,
      before.1,
      all_times c.loop.counter (short_times c.args.line.now) (ShortLinePrints c.args.line.now)
          (session_of c.args.self.now) (session_of c.loop.self) before.0
          (omega (arith, c.short_times-end.ensures)) before.2,
    )

pub returns-in_err-carry_out_once-clause-outside : goal.returns-in_err-carry_out_once-clause-outside
returns-in_err-carry_out_once-clause-outside g c =
    ends_by g.W.Sink.calls c.args.writer.now c.carry_out_once.new.writer c.in_err-carry_out_once.field-0.0 _ (from_behind g.W.Sink.calls c.args.writer.now c.loop.writer c.carry_out_once.new.writer c.in_err-carry_out_once.field-0.0 c.loop.invariant.1 c.in_err-carry_out_once.ensures.outside) c.from_residual.ensures.1

pub returns-clause-outside : goal.returns-clause-outside
returns-clause-outside g c = c.loop.invariant.1
