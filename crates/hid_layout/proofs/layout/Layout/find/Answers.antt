use Rattle.std.proofs.Common.{◌≡◌, ◌≤◌, true, false, Bool, Some, refl, arith, nat_lt}
use Rattle.std.proofs.lemmas.Bool.Decides.{nat_tests}
use Rattle.hid_layout.specs.declared.control.ControlId.{ControlId}
use Rattle.hid_layout.specs.Finding.{control_usage}
use Rattle.hid_layout.specs.Controls.{items_of}
use Rattle.hid_layout.proofs.FindLemmas.{none_past}
use Rattle.hid_layout.proofs.layout.Layout.find.Goals as goal

pub returns-clause-none : goal.returns-clause-none
returns-clause-none c = λ d h. by_place d h (nat_lt d.item c.loop-item.item) refl
  where
    by_place : (d : ControlId) → control_usage (items_of c.args.self.now) d ≡ Some c.args.usage → (b : Bool)
        → nat_lt d.item c.loop-item.item ≡ b → ⊥
    by_place d h true t = c.loop-item.invariant.none d (grind (arith, nat_tests)) h
    by_place d h false t =
        let past : c.loop-item.item ≤ d.item = grind (arith, nat_tests) in
        none_past c.args.self.now d c.args.usage (omega (arith, past, c.loop-item-test.false, c.loop-item.invariant.end)) h
