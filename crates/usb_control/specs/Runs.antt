-- A whole list of tries of a transfer, and how often its write took effect (USB 2.0, 8.5.3).
use Rattle.std.specs.Prelude.{◌≡◌, ℕ, ◌+◌, ◌≤◌, Bool, true, false, if◌then◌else◌, List, [], ◌∷◌, Option, Some, None}
use Rattle.usb_transact.specs.declared.transaction.Fate.{Fate}
use Rattle.usb_control.specs.declared.fault.ControlFault.{ControlFault}
use Rattle.usb_control.specs.declared.fault.ControlFault.TheVariants.{Stalled}
use Rattle.usb_control.specs.Transfer.{Shape, Decision, Refused, Accepted, Position, Past, Place, start, Act, Nothing, Decides, TakesEffect, act_of, place_after_try}

-- a transfer runs until it fails, or the host is past its last piece
abbrev pub is_open_at : Option ControlFault → Position → Bool
is_open_at (Some fault) host = false
is_open_at None Past = false
is_open_at None host = true

-- whether the transfer is running at a place
abbrev pub is_open : Place → Bool
is_open place = is_open_at place.fault place.host

-- The place after tries with these fates, each with what a SETUP that arrives in it is decided. Example: the status of a
-- write, answered and lost three times: one effect, and C2
abbrev pub place_after_tries : Shape → List (Fate × Decision) → Place → Place
place_after_tries shape [] place = place
place_after_tries shape (try ∷ tries) place =
    if is_open place then place_after_tries shape tries (place_after_try shape try.0 try.1 place) else place

-- what these tries do at the device
abbrev pub acts : Shape → List (Fate × Decision) → Place → List Act
acts shape [] place = []
acts shape (try ∷ tries) place =
    if is_open place
    then act_of shape try.0 try.1 place ∷ acts shape tries (place_after_try shape try.0 try.1 place)
    else []

-- the decision at the last SETUP that arrived, where it was this one before
abbrev pub last_decision : Decision → List Act → Decision
last_decision before [] = before
last_decision before (Decides decision ∷ rest) = last_decision decision rest
last_decision before (Nothing ∷ rest) = last_decision before rest
last_decision before (TakesEffect ∷ rest) = last_decision before rest

-- how often a write took effect in the whole list, where it was so often before
abbrev pub effects : ℕ → List Act → ℕ
effects before [] = before
effects before (Decides decision ∷ rest) = effects before rest
effects before (Nothing ∷ rest) = effects before rest
effects before (TakesEffect ∷ rest) = effects (before + 1) rest

-- how often a write took effect since the last SETUP that arrived, where it was so often before
abbrev pub effects_since : ℕ → List Act → ℕ
effects_since before [] = before
effects_since before (Decides decision ∷ rest) = effects_since 0 rest
effects_since before (Nothing ∷ rest) = effects_since before rest
effects_since before (TakesEffect ∷ rest) = effects_since (before + 1) rest

-- the request was accepted
abbrev pub IsAccepted : Decision → Type 0
IsAccepted Refused = ⊥
IsAccepted (Accepted answer) = Unit {0}

-- the transfer is done: the host is past the last piece, and nothing failed
abbrev pub IsDone : Place → Type 0
IsDone place = (place.fault ≡ None) × (place.host ≡ Past)

-- what is said of a transfer by the whole list of its tries: which decision counts, and how often it took effect
pub record IsOnce (shape : Shape) (tries : List (Fate × Decision)) : Type 0 where
  -- the decision that counts is that of the last SETUP that arrived
  pub decided : (place_after_tries shape tries start).decision
      ≡ last_decision Refused (acts shape tries start)
  -- what is done was accepted
  pub accepted : IsDone (place_after_tries shape tries start)
      → IsAccepted (place_after_tries shape tries start).decision
  -- a write that is done took effect exactly once
  pub once :
      IsDone (place_after_tries shape tries start) → shape.reads ≡ false
      → effects 0 (acts shape tries start) ≡ 1
  -- wherever a transfer stands, also where it failed, it took effect once at most
  pub at_most_once : effects 0 (acts shape tries start) ≤ 1
  -- what a STALL ended took no effect, and no read takes one
  pub refused :
      (place_after_tries shape tries start).fault ≡ Some Stalled → effects 0 (acts shape tries start) ≡ 0
  pub reads : shape.reads ≡ true → effects 0 (acts shape tries start) ≡ 0
  -- each effect came after the last SETUP that arrived
  pub since : effects_since 0 (acts shape tries start) ≡ effects 0 (acts shape tries start)
