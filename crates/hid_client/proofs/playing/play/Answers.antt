use Rattle.std.proofs.Common.{inr, subst, sym}
use Rattle.hid_stack.specs.Headline.{DeliversChanges, KeepsToRounds}
use Rattle.hid_stack.specs.Rig.{bus_after_done, steps_done}
use Rattle.hid_client.proofs.PlayLemmas.{played, stopped}
use Rattle.hid_client.proofs.playing.play.Goals as goal

pub returns : goal.returns
returns c =
    let members = c.attach.new.self in
    let steps = c.args.steps.now in
    let headline =
    subst (λ r. DeliversChanges members (steps_done r steps) c.new-events.result.items c.run.new.out.items) c.in-Ok.is
    c.run.ensures.headline in
    let rounds =
    subst (λ r. KeepsToRounds members (steps_done r steps) (bus_after_done members r steps)) c.in-Ok.is
    c.run.ensures.rounds in
    record {
      played = played c.args.config.now c.args.descriptor.now steps c.args.control _ members c.run.new.self c.in_ok-dev.dev _ c.run.new.out.items c.in_ok-host.field-0.now
          c.holds-is_held.result c.in_ok-rig.ensures.new c.in_ok-dev.ensures.attached c.new-events.ensures.items headline
          (subst (KeepsToRounds members steps) (sym c.in-Ok.ensures.after) rounds)
          c.in_ok-host.ensures.shows c.holds-is_held.ensures;
      refused = tt;
    }

pub returns-in-Err-clause-refused : goal.returns-in-Err-clause-refused
returns-in-Err-clause-refused c = inr (inr (stopped c.args.config.now c.args.descriptor.now c.args.steps.now _ _ c.attach.new.self c.in_ok-dev.dev c.in-Err.stopped.at c.in-Err.stopped.fault
    c.in_ok-rig.ensures.new c.in_ok-dev.ensures.attaches c.in-Err.ensures.stops))
