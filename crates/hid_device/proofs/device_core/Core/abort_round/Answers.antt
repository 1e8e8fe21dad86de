use Rattle.std.proofs.Common.{ℕ, true, Option, sym, ap, ◌∙◌}
use Rattle.std.proofs.lemmas.List.{length-set}
use Rattle.hid_device.specs.contracts.device_core.Core.{the_view}
use Rattle.hid_device.specs.Core.{CoreState}
use Rattle.hid_bus.specs.ReportState.{with_abort}
use Rattle.hid_device.proofs.device_core.Core.abort_round.Goals as goal

pub invariant_of-self : goal.invariant_of-self
invariant_of-self c =
    let before = c.self.invariant.sound in
    record {
      sound = record {
        lays = before.lays;
        empty_codes = before.empty_codes;
        zeros = before.zeros;
        inputs_first = before.inputs_first;
        snapshot = before.snapshot;
        fixed = before.fixed;
        each_frames = before.each_frames;
        each_idle = before.each_idle;
        each_cut = length-set c.self.inside.aborted.items c.in-Some.report true ∙ before.each_cut;
        of_input = before.of_input;
        piece = before.piece;
        sends = before.sends;
        quiet = before.quiet;
        outputs = before.outputs;
      };
      nothing_due = c.self.invariant.nothing_due;
      armed = c.self.invariant.armed;
      round = c.self.invariant.round;
      room = c.self.invariant.room;
    }

pub returns-in-Some : goal.returns-in-Some
returns-in-Some c =
    let core = the_view c.self.inside in
    ap (λ (round : Option ℕ). let aborted : CoreState = record core { reports = with_abort round core.reports } in aborted)
    (sym c.in-Some.is)
    ∙ ap (λ (core : CoreState). let aborted : CoreState =
    record core { reports = with_abort core.current core.reports } in aborted) c.self.view_is

pub returns-in-None : goal.returns-in-None
returns-in-None c =
    let core = the_view c.self.inside in
    sym c.self.view_is
    ∙ ap (λ (round : Option ℕ). let aborted : CoreState = record core { reports = with_abort round core.reports } in aborted)
    (sym c.in-None.is)
    ∙ ap (λ (core : CoreState). let aborted : CoreState =
    record core { reports = with_abort core.current core.reports } in aborted) c.self.view_is
