-- Where at most k polls in a row lose something, one of k + 1 loses nothing.
use Rattle.std.proofs.Common.{◌≡◌, ◌≤◌, ◌+◌, ◌*◌, ℕ, zero, suc, List, [], ◌∷◌, length, arith}
use Rattle.usb_transact.specs.declared.transaction.Fate.{Fate}
use Rattle.usb_transact.specs.declared.transaction.Fate.TheVariants.{Clean, TokenLost, ReplyLost, AckLost}
use Rattle.hid_bus.specs.Rounds.{closed_count}
use Rattle.hid_bus.specs.Fairness.{IsFair, IsFairFrom}

fair_count : (k left : ℕ) (polls : List Fate) → left ≤ k → IsFairFrom k left polls → length polls ≤ left + (k + 1) * closed_count polls
fair_count k left [] within fair = omega arith
fair_count k left (Clean ∷ polls) within fair = grind (arith, fair_count k k polls (omega arith) fair)
fair_count k zero (TokenLost ∷ polls) within fair = absurd fair
fair_count k (suc left) (TokenLost ∷ polls) within fair = let rest = fair_count k left polls (omega (arith, within)) fair in grind (arith, rest)
fair_count k zero (ReplyLost ∷ polls) within fair = absurd fair
fair_count k (suc left) (ReplyLost ∷ polls) within fair = let rest = fair_count k left polls (omega (arith, within)) fair in grind (arith, rest)
fair_count k zero (AckLost ∷ polls) within fair = absurd fair
fair_count k (suc left) (AckLost ∷ polls) within fair = let rest = fair_count k left polls (omega (arith, within)) fair in grind (arith, rest)

-- a product that is less than one step above another is no greater
distribute : (k c d : ℕ) → (k + 1) * (c + 1 + d) ≡ (k + 1) * c + (k + 1) + (k + 1) * d
distribute k c d = grind (arith)

no_more : (k c d : ℕ) → (k + 1) * (c + 1 + d) ≤ k + (k + 1) * c → ⊥
no_more k c d few = omega (arith, few, distribute k c d)

no_step : (k m c : ℕ) → (k + 1) * m ≤ k + (k + 1) * c → m ≤ c
no_step k zero c few = omega arith
no_step k (suc m) zero few = absurd (no_more k 0 m (grind (arith, few)))
no_step k (suc m) (suc c) few = omega (arith, no_step k m c (grind (arith, few)))

-- (k + 1) * n polls have n clean ones
pub clean_in_time : (k n : ℕ) (polls : List Fate) → IsFair k polls → (k + 1) * n ≤ length polls → n ≤ closed_count polls
clean_in_time k n polls fair few =
    let most : length polls ≤ k + (k + 1) * closed_count polls = fair_count k k polls (omega arith) fair in
    no_step k n (closed_count polls) (omega (arith, few, most))
