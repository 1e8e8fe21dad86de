use Rattle.hid_text.specs.declared.line.Line.TheVariants.{Layout, Values, Device, Begin}
use Rattle.hid_script.specs.LineOutput.{LineOutcomeOnce, times}
use Rattle.hid_script.specs.Interpreter.{session_of}
use Rattle.hid_script.proofs.RepeatLemmas.{told_once}
use Rattle.hid_script.proofs.SessionLemmas.{nothing_told}
use Rattle.hid_script.proofs.StreamLemmas.{no_calls}
use Rattle.hid_script.proofs.interpreter.Interpreter.carry_out.Goals as goal

pub returns-in-Nothing-clause-prints : goal.returns-in-Nothing-clause-prints
returns-in-Nothing-clause-prints g c = rw c.in-Nothing.is (nothing_told _ (session_of c.args.self.now))

pub returns-in-Layout-clause-prints : goal.returns-in-Layout-clause-prints
unfolding LineOutcomeOnce times
returns-in-Layout-clause-prints g c =
    rw c.in-Layout.is
    (told_once _ _ (LineOutcomeOnce (Layout c.in-Layout.bytes)) (session_of c.args.self.now) _ _
    (rw c.as_slice.ensures.value at c.lay_out.ensures.prints))

pub returns-in-Values-clause-prints : goal.returns-in-Values-clause-prints
unfolding LineOutcomeOnce times
returns-in-Values-clause-prints g c =
    rw c.in-Values.is
    (told_once _ _ (LineOutcomeOnce (Values c.in-Values.bytes)) (session_of c.args.self.now) _ _
    (rw c.as_slice-in-Values.ensures.value at c.print_values_of.ensures.prints))

pub returns-in-Device-clause-prints : goal.returns-in-Device-clause-prints
unfolding LineOutcomeOnce times
returns-in-Device-clause-prints g c =
    rw c.in-Device.is
    (told_once _ _ (LineOutcomeOnce (Device c.in-Device.start c.in-Device.boot c.in-Device.bytes))
    (session_of c.args.self.now) _ _ (rw c.as_slice-in-Device.ensures.value at c.attach.ensures.prints))

pub returns-in-Begin-clause-prints : goal.returns-in-Begin-clause-prints
unfolding LineOutcomeOnce times
returns-in-Begin-clause-prints g c =
    rw c.in-Begin.is
    (told_once _ _ (LineOutcomeOnce (Begin c.in-Begin.dev c.in-Begin.request))
    (session_of c.args.self.now) _ _ c.begin.ensures.prints)

pub returns-in-Step-clause-prints : goal.returns-in-Step-clause-prints
unfolding LineOutcomeOnce times
returns-in-Step-clause-prints g c = rw c.in-Step.is c.repeat.ensures.prints

pub returns-in-Nothing-clause-outside : goal.returns-in-Nothing-clause-outside
returns-in-Nothing-clause-outside g c = no_calls g.W.Sink.calls c.args.writer.now
