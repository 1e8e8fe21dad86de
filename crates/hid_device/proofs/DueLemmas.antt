-- The first number that passes a test, searched from the lowest on.
use Rattle.std.proofs.Common.{◌≡◌, ℕ, zero, suc, ◌+◌, ◌-◌, ◌<◌, ◌≤◌, Bool, true, false, List, length, Option, Some, None, refl, sym, ◌∙◌, arith}
use Rattle.std.specs.Prelude.{nat_eq, ◌||◌}
use Rattle.std.specs.List.{find, range_with_len}
use Rattle.hid_layout.specs.Controls.{Item}
use Rattle.hid_snapshots.specs.Parts.{is_changed}
use Rattle.hid_bus.specs.ReportState.{ReportState, is_due, due_where, first_due}
use Rattle.std.proofs.lemmas.Grind.{common_steps}

pub find_next : (p : ℕ → Bool) (n i : ℕ) → i < n → p i ≡ false → find p (range_with_len i (n - i)) ≡ find p (range_with_len (i + 1) (n - (i + 1)))
find_next p n i within missed = let e : n - i ≡ suc (n - (i + 1)) = omega arith in rw (e, missed) refl

pub find_here : (p : ℕ → Bool) (n i : ℕ) → i < n → p i ≡ true → find p (range_with_len i (n - i)) ≡ Some i
find_here p n i within hit = let e : n - i ≡ suc (n - (i + 1)) = omega arith in rw (e, hit) refl

pub find_past : (p : ℕ → Bool) (n i : ℕ) → n ≤ i → find p (range_with_len i (n - i)) ≡ None
find_past p n i past = let e : n - i ≡ 0 = omega arith in rw e refl

-- one that fails, and those after it
behind : (p : ℕ → Bool) (n i r : ℕ) → ((r : ℕ) → find p (range_with_len (i + 1) n) ≡ None → i + 1 ≤ r → r < i + 1 + n → p r ≡ false)
    → (b : Bool) → p i ≡ b → find p (range_with_len i (suc n)) ≡ None → i ≤ r → r < i + suc n → p r ≡ false
behind p n i r rest true e none low high = let hit : find p (range_with_len i (suc n)) ≡ Some i = rw e refl in absurd (let one : Some i ≡ None = sym hit ∙ none in cc)
behind p n i r rest false e none low high = by_place (nat_eq i r) refl
  where
    others : find p (range_with_len (i + 1) n) ≡ None
    others = grind (arith, common_steps)

    by_place : (b : Bool) → nat_eq i r ≡ b → p r ≡ false
    by_place true same = grind (arith, common_steps)
    by_place false other = rest r others (grind (arith, common_steps)) (omega (arith, high))

-- where none passes, each fails
pub none_found : (p : ℕ → Bool) (n i r : ℕ) → find p (range_with_len i n) ≡ None → i ≤ r → r < i + n → p r ≡ false
none_found p zero i r none low high = absurd (omega (arith, low, high))
none_found p (suc n) i r none low high = behind p n i r (none_found p n (i + 1)) (p i) refl none low high

neither : (a b c : Bool) → (a || b) || c ≡ false → a ≡ false
neither true b c none = none
neither false b c none = refl

-- where no report is due and no halt hides it, none's controls call for it
pub none_changed : (items : List Item) (d : ReportState) (halted : Bool) (r : ℕ) → due_where items halted d ≡ None
    → halted ≡ false → r < length d.frames → is_changed items r d.snapshot d.fixed ≡ false
none_changed items d true r none going within = absurd (cc)
none_changed items d false r none going within = neither _ _ _ (none_found (is_due items d) (length d.frames) 0 r none (omega arith) (omega (arith, within)))

-- what is found first is what a token opens, where no halt hides it
pub due_is : (items : List Item) (d : ReportState) (halted : Bool) (found : Option ℕ) → halted ≡ false
    → first_due items d ≡ found → found ≡ due_where items halted d
due_is items d true found going is = absurd (cc)
due_is items d false found going is = sym is
