-- How many polls in a row may lose something (USB 2.0, 5.7.5 and 8.5.4; our choice).
use Rattle.std.specs.Prelude.{ℕ, zero, suc, List, [], ◌∷◌}
use Rattle.usb_transact.specs.declared.transaction.Fate.{Fate}
use Rattle.usb_transact.specs.declared.transaction.Fate.TheVariants.{Clean, TokenLost, ReplyLost, AckLost}

-- something is lost of at most k polls in a row; now it may be so of `left` more
abbrev pub IsFairFrom : ℕ → ℕ → List Fate → Type 0
IsFairFrom k left [] = Unit {0}
IsFairFrom k left (Clean ∷ polls) = IsFairFrom k k polls
IsFairFrom k zero (TokenLost ∷ polls) = ⊥
IsFairFrom k (suc left) (TokenLost ∷ polls) = IsFairFrom k left polls
IsFairFrom k zero (ReplyLost ∷ polls) = ⊥
IsFairFrom k (suc left) (ReplyLost ∷ polls) = IsFairFrom k left polls
IsFairFrom k zero (AckLost ∷ polls) = ⊥
IsFairFrom k (suc left) (AckLost ∷ polls) = IsFairFrom k left polls

-- something is lost of at most k polls in a row
abbrev pub IsFair : ℕ → List Fate → Type 0
IsFair k polls = IsFairFrom k k polls
