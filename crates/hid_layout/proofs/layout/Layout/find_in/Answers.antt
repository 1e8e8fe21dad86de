use Rattle.std.proofs.Common.{◌≡◌, length, true, false, refl, sym, ap, ◌∙◌, arith, subst, slice_get}
use Rattle.hid_layout.specs.Layout.{Contents}
use Rattle.hid_layout.specs.Reports.{IsLayout}
use Rattle.hid_layout.specs.Controls.{items_of, form_at}
use Rattle.hid_layout.proofs.FindLemmas.{of_layout, next_range, least_here, none_there, shown_by, none_shown, other_shown, starts_at}
use Rattle.hid_report_descriptor.proofs.StartLemmas.{starts-length}
use Rattle.hid_layout.proofs.layout.Layout.find_in.Goals as goal
use Rattle.hid_layout.proofs.layout.Layout.find_in.Goals.{then-holds+in-Some+else-eq, then-holds+in_default, else-holds}

pub loop-i-init : goal.loop-i-init
loop-i-init c = record {
  at = ap (λ (l : Contents). slice_get l.entries c.args.item) (sym c.self.view_is) ∙ c.entries-entries.ensures;
  starts = starts_at _ c.self.inside.lists.entries c.args.item c.starts-starts.result.now c.entries-entries.result.now refl c.starts-starts.ensures c.entries-entries.ensures;
  end = refl;
  none = λ j lt at shown. absurd (omega (arith, lt));
}

pub bounds-starts-i : goal.bounds-starts-i
bounds-starts-i c = omega (arith, c.loop-i-test.true, ap length c.loop-i.invariant.starts, starts-length 0 c.entries-entries.result.now)

pub returns-then-eq-clause-least : goal.returns-then-eq-clause-least
returns-then-eq-clause-least c = λ i lt h. least_here (form_at (items_of c.args.self.now) c.args.item) c.entries-entries.result.now c.starts-starts.result.now c.args.usage c.loop-i.i i (record { page = 0; id = 0 }, record { page = 0; id = 0 }) c.loop-i.invariant.starts c.loop-i-test.true c.loop-i.invariant.none (sym c.holds.ensures ∙ c.if-holds.true) lt
    (of_layout c.args.self.now c.args.item c.entries-entries.result.now c.args.usage i (subst IsLayout c.self.view_is c.self.invariant.1) c.requires c.loop-i.invariant.at h)

pub loop-i-preserved : goal.loop-i-preserved
loop-i-preserved c = record {
  at = c.loop-i.invariant.at;
  starts = c.loop-i.invariant.starts;
  end = refl;
  none = next_range (form_at (items_of c.args.self.now) c.args.item) c.entries-entries.result.now c.starts-starts.result.now c.args.usage c.loop-i.i (record { page = 0; id = 0 }, record { page = 0; id = 0 }) c.loop-i.invariant.starts c.loop-i-test.true c.loop-i.invariant.none
      (λ h shown. elim c.if-holds.branch [
        | then-holds+in-Some+else-eq w ↦ other_shown c.args.usage w.control.result w.in-Some.control w.in-Some.is (sym w.eq.ensures ∙ w.if-eq.false) (shown_by (items_of c.args.self.now) c.args.item _ w.control.result c.args.usage w.control.ensures shown)
        | then-holds+in_default w ↦ none_shown c.args.usage w.control.result w.in_default.is (shown_by (items_of c.args.self.now) c.args.item _ w.control.result c.args.usage w.control.ensures shown)
        | else-holds w ↦ (let e : true ≡ false = sym h ∙ sym c.holds.ensures ∙ w.if-holds.false in absurd (cc))
      ]);
}

pub returns-clause-none : goal.returns-clause-none
returns-clause-none c = λ i h. none_there (form_at (items_of c.args.self.now) c.args.item) c.entries-entries.result.now c.args.usage c.loop-i.i i (omega (arith, c.loop-i-test.false, c.loop-i.invariant.end)) c.loop-i.invariant.none
    (of_layout c.args.self.now c.args.item c.entries-entries.result.now c.args.usage i (subst IsLayout c.self.view_is c.self.invariant.1) c.requires c.loop-i.invariant.at h)
