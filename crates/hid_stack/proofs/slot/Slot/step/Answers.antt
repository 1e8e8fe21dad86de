use Rattle.std.proofs.Common.{ap, subst, sym}
use Rattle.std.specs.Prelude.{vec_len, vec_capacity}
use Rattle.hid_bus.specs.Rounds.{Changes, Frame, Polls}
use Rattle.hid_stack.specs.Members.{Scheduled, Begins, Halts, Resets}
use Rattle.hid_stack.specs.Rig.{NeedsNoRoom}
use Rattle.hid_stack.proofs.NamedLemmas.{begin_told, change_told, control_told}
use Rattle.hid_stack.proofs.RigLemmas.{called, polled, stepped, tried}
use Rattle.hid_stack.proofs.ServeLemmas.{begin_serves, change_serves, control_serves, frame_serves, halt_serves, poll_serves, reset_serves}
use Rattle.hid_stack.proofs.slot.Slot.step.Goals as goal

pub returns-in-Ok-clause-steps : goal.returns-in-Ok-clause-steps
returns-in-Ok-clause-steps c = change_serves c.args.self.now c.change.new.self _ c.in-Change.change c.args.step.now c.change.result _ c.args.out.now.items (vec_len c.args.out.now) (vec_capacity c.args.out.now) c.in-Change.is c.change.ensures.changes c.change.ensures.after (ap change_told c.in-Ok.is)

pub returns-in-Ok-clause-motions : goal.returns-in-Ok-clause-motions
returns-in-Ok-clause-motions c = stepped c.args.self.now c.change.new.self (Scheduled (Changes c.in-Change.change)) c.change.ensures.after

pub returns-in-Err-clause-steps : goal.returns-in-Err-clause-steps
returns-in-Err-clause-steps c = change_serves c.args.self.now c.change.new.self _ c.in-Change.change c.args.step.now c.change.result _ c.args.out.now.items (vec_len c.args.out.now) (vec_capacity c.args.out.now) c.in-Change.is c.change.ensures.changes c.change.ensures.after (ap change_told c.in-Err.is)

pub returns-in-Err-clause-motions : goal.returns-in-Err-clause-motions
returns-in-Err-clause-motions c = stepped c.args.self.now c.change.new.self (Scheduled (Changes c.in-Change.change)) c.change.ensures.after

pub returns-in-Frame-clause-steps : goal.returns-in-Frame-clause-steps
returns-in-Frame-clause-steps c = frame_serves c.args.self.now c.frame.new.self c.args.step.now _ c.args.out.now.items c.args.out.now.items _ _ _ _ c.in-Frame.is

pub returns-in-Frame-clause-motions : goal.returns-in-Frame-clause-motions
returns-in-Frame-clause-motions c = stepped c.args.self.now c.frame.new.self (Scheduled Frame) c.frame.ensures

pub returns-in-Poll-clause-steps : goal.returns-in-Poll-clause-steps
returns-in-Poll-clause-steps c = poll_serves c.args.self.now c.poll.new.self c.in-Poll.dev c.in-Poll.fate c.args.step.now c.poll.result c.args.out.now.items c.poll.new.out.items (vec_len c.args.out.now) (vec_len c.poll.new.out) (vec_capacity c.args.out.now) (vec_capacity c.poll.new.out) c.in-Poll.is c.poll.ensures.told c.poll.ensures.after c.poll.ensures.events c.poll.ensures.refused c.poll.ensures.only c.poll.ensures.err c.poll.ensures.room c.poll.ensures.few c.poll.ensures.capacity

pub returns-in-Poll-clause-motions : goal.returns-in-Poll-clause-motions
returns-in-Poll-clause-motions c = polled c.args.self.now c.poll.new.self (Scheduled (Polls c.in-Poll.fate)) c.poll.result _ c.poll.ensures.after c.poll.ensures.err

pub returns-in-Poll-clause-keeps : goal.returns-in-Poll-clause-keeps
returns-in-Poll-clause-keeps c makes = absurd (subst NeedsNoRoom c.in-Poll.is makes)

pub returns-in-Ok-begin-clause-steps : goal.returns-in-Ok-begin-clause-steps
returns-in-Ok-begin-clause-steps c = begin_serves c.args.self.now c.begin.new.self _ c.in-Begin.request c.args.step.now c.begin.result _ c.args.out.now.items (vec_len c.args.out.now) (vec_capacity c.args.out.now) c.in-Begin.is c.begin.ensures.after c.begin.ensures.refused c.begin.ensures.only c.begin.ensures.err c.begin.ensures.fits (ap begin_told c.in-Ok-begin.is)

pub returns-in-Ok-begin-clause-motions : goal.returns-in-Ok-begin-clause-motions
returns-in-Ok-begin-clause-motions c = called c.args.self.now c.begin.new.self (Begins c.in-Begin.request) c.begin.result c.begin.ensures.after c.begin.ensures.err

pub returns-in-Ok-begin-clause-keeps : goal.returns-in-Ok-begin-clause-keeps
returns-in-Ok-begin-clause-keeps c makes = absurd (subst NeedsNoRoom c.in-Begin.is makes)

pub returns-in-Err-begin-clause-steps : goal.returns-in-Err-begin-clause-steps
returns-in-Err-begin-clause-steps c = begin_serves c.args.self.now c.begin.new.self _ c.in-Begin.request c.args.step.now c.begin.result _ c.args.out.now.items (vec_len c.args.out.now) (vec_capacity c.args.out.now) c.in-Begin.is c.begin.ensures.after c.begin.ensures.refused c.begin.ensures.only c.begin.ensures.err c.begin.ensures.fits (ap begin_told c.in-Err-begin.is)

pub returns-in-Err-begin-clause-motions : goal.returns-in-Err-begin-clause-motions
returns-in-Err-begin-clause-motions c = called c.args.self.now c.begin.new.self (Begins c.in-Begin.request) c.begin.result c.begin.ensures.after c.begin.ensures.err

pub returns-in-Err-begin-clause-keeps : goal.returns-in-Err-begin-clause-keeps
returns-in-Err-begin-clause-keeps c makes = absurd (subst NeedsNoRoom c.in-Begin.is makes)

pub returns-in-Ok-control-clause-steps : goal.returns-in-Ok-control-clause-steps
returns-in-Ok-control-clause-steps c = control_serves c.args.self.now c.control.new.self c.in-Control.dev c.in-Control.fate c.args.step.now c.control.result _ c.args.out.now.items c.control.new.out.items (vec_len c.args.out.now) (vec_len c.control.new.out) (vec_capacity c.args.out.now) (vec_capacity c.control.new.out) c.in-Control.is c.control.ensures.tries c.control.ensures.between c.control.ensures.aborts c.control.ensures.events c.control.ensures.err_events c.control.ensures.room c.control.ensures.few c.control.ensures.capacity (sym (ap control_told c.in-Ok-control.is))

pub returns-in-Ok-control-clause-motions : goal.returns-in-Ok-control-clause-motions
returns-in-Ok-control-clause-motions c = tried c.in-Control.fate c.args.self.now c.control.new.self c.control.result c.control.ensures.tries

pub returns-in-Ok-control-clause-keeps : goal.returns-in-Ok-control-clause-keeps
returns-in-Ok-control-clause-keeps c makes = absurd (subst NeedsNoRoom c.in-Control.is makes)

pub returns-in-Err-control-clause-steps : goal.returns-in-Err-control-clause-steps
returns-in-Err-control-clause-steps c = control_serves c.args.self.now c.control.new.self c.in-Control.dev c.in-Control.fate c.args.step.now c.control.result _ c.args.out.now.items c.control.new.out.items (vec_len c.args.out.now) (vec_len c.control.new.out) (vec_capacity c.args.out.now) (vec_capacity c.control.new.out) c.in-Control.is c.control.ensures.tries c.control.ensures.between c.control.ensures.aborts c.control.ensures.events c.control.ensures.err_events c.control.ensures.room c.control.ensures.few c.control.ensures.capacity (sym (ap control_told c.in-Err-control.is))

pub returns-in-Err-control-clause-motions : goal.returns-in-Err-control-clause-motions
returns-in-Err-control-clause-motions c = tried c.in-Control.fate c.args.self.now c.control.new.self c.control.result c.control.ensures.tries

pub returns-in-Err-control-clause-keeps : goal.returns-in-Err-control-clause-keeps
returns-in-Err-control-clause-keeps c makes = absurd (subst NeedsNoRoom c.in-Control.is makes)

pub returns-in-Halt-clause-steps : goal.returns-in-Halt-clause-steps
returns-in-Halt-clause-steps c = halt_serves c.args.self.now c.halt.new.self c.in-Halt.dev c.args.step.now c.halt.result c.args.out.now.items c.halt.new.out.items (vec_len c.args.out.now) (vec_len c.halt.new.out) (vec_capacity c.args.out.now) (vec_capacity c.halt.new.out) c.in-Halt.is c.halt.ensures.told c.halt.ensures.only c.halt.ensures.after c.halt.ensures.events c.halt.ensures.err c.halt.ensures.room c.halt.ensures.few c.halt.ensures.capacity

pub returns-in-Halt-clause-motions : goal.returns-in-Halt-clause-motions
returns-in-Halt-clause-motions c = polled c.args.self.now c.halt.new.self Halts c.halt.result _ c.halt.ensures.after c.halt.ensures.err

pub returns-in-Halt-clause-keeps : goal.returns-in-Halt-clause-keeps
returns-in-Halt-clause-keeps c makes = absurd (subst NeedsNoRoom c.in-Halt.is makes)

pub returns-in-Reset-clause-steps : goal.returns-in-Reset-clause-steps
returns-in-Reset-clause-steps c = reset_serves c.args.self.now c.reset.new.self c.in-Reset.dev c.args.step.now c.reset.result c.args.out.now.items c.reset.new.out.items (vec_len c.args.out.now) (vec_len c.reset.new.out) (vec_capacity c.args.out.now) (vec_capacity c.reset.new.out) c.in-Reset.is c.reset.ensures.told c.reset.ensures.only c.reset.ensures.after c.reset.ensures.events c.reset.ensures.err c.reset.ensures.room c.reset.ensures.few c.reset.ensures.capacity

pub returns-in-Reset-clause-motions : goal.returns-in-Reset-clause-motions
returns-in-Reset-clause-motions c = polled c.args.self.now c.reset.new.self Resets c.reset.result _ c.reset.ensures.after c.reset.ensures.err

pub returns-in-Reset-clause-keeps : goal.returns-in-Reset-clause-keeps
returns-in-Reset-clause-keeps c makes = absurd (subst NeedsNoRoom c.in-Reset.is makes)
