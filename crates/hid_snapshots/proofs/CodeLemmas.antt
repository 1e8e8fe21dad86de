-- Tests as facts.
use Rattle.std.proofs.Common.{◌≡◌, ◌&&◌, Bool, true, false, refl, T}

pub test_true : (b : Bool) → T b → b ≡ true
test_true true h = refl
test_true false h = absurd h

pub true_test : (b : Bool) → b ≡ true → T b
true_test true h = tt
true_test false h = absurd (cc)

pub both_true : (a b : Bool) → (a && b) ≡ true → (a ≡ true) × (b ≡ true)
both_true true b h = (refl, h)
both_true false b h = absurd (cc)
