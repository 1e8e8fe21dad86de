use Rattle.std.proofs.Common.{◌≡◌, false, None, sym, ap, ◌∙◌, arith}
use Rattle.hid_layout.specs.Controls.{items_of}
use Rattle.hid_bus.specs.ReportState.{due_where}
use Rattle.hid_device.specs.Core.{CoreState}
use Rattle.hid_device.specs.contracts.device_core.Core.{the_view}
use Rattle.hid_device.proofs.DueLemmas.{none_changed}
use Rattle.hid_device.proofs.device_core.Core.note_nothing_due.Goals as goal

pub invariant_of-self : goal.invariant_of-self
invariant_of-self c =
    let core = the_view c.self.inside in
    let before = c.self.invariant.sound in
    let none : due_where (items_of core.layout) core.halted core.reports ≡ None
    = ap (λ (core : CoreState). due_where (items_of core.layout) core.halted core.reports) c.self.view_is
    ∙ c.requires in
    let going : core.halted ≡ false = sym c.halted.ensures ∙ c.if-not-halted.true in
    record {
      sound = before;
      nothing_due = λ r below. none_changed (items_of core.layout) core.reports core.halted r none going
          (omega (arith, below, before.each_frames));
      armed = c.self.invariant.armed;
      round = c.self.invariant.round;
      room = c.self.invariant.room;
    }
