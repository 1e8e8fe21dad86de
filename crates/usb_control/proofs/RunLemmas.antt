-- Lists of tries.
use Rattle.std.proofs.Common.{◌≡◌, ℕ, suc, ◌+◌, ◌≤◌, refl, sym, ◌∙◌, ap, subst, Bool, true, false, nat_lt, ◌==◌, ◌||◌, List, [], ◌∷◌, Option, Some, None, arith}
use Rattle.std.specs.Prelude.{if◌then◌else◌}
use Rattle.usb_transact.specs.declared.transaction.Fate.{Fate}
use Rattle.usb_transact.specs.declared.transaction.Fate.TheVariants.{Clean, TokenLost, ReplyLost, AckLost}
use Rattle.usb_control.specs.declared.fault.ControlFault.{ControlFault}
use Rattle.usb_control.specs.declared.fault.ControlFault.TheVariants as faults
use Rattle.usb_control.specs.Transfer.{Shape, Decision, Refused, Accepted, Position, Setup, Piece, Status, Past, Place, start, Act, Nothing, Decides, TakesEffect, act_of, comes_from_device, data_pieces, first_position, next_position, host_position_after, place_after_in, is_same, place_after_out, place_after_silence, place_after_piece, place_after_refusal, place_after_try}
use Rattle.usb_control.specs.Runs.{is_open, place_after_tries, acts, last_decision, effects, effects_since, IsAccepted, IsOnce}
use Rattle.usb_control.proofs.ActLemmas.{effect_needs}
use Rattle.usb_control.proofs.StepLemmas.{at, shaped}
use Rattle.usb_control.proofs.TryLemmas.{act_piece, act_refused, act_read, applies_piece, applies_read}

abbrev pub count_of : Bool → ℕ
count_of true = 1
count_of false = 0

-- a position after SETUP and short of the end
abbrev pub IsBetween : Position → Type 0
IsBetween Setup = ⊥
IsBetween Past = ⊥
IsBetween _ = Unit {0}

-- until SETUP is over nothing took effect, and at the end the request was accepted, and a write took effect
abbrev pub SoundAt : Bool → Position → Decision → Bool → Type 0
SoundAt reads Setup decision applied = applied ≡ false
SoundAt reads Past decision applied = IsAccepted decision × (reads ≡ false → applied ≡ true)
SoundAt reads p decision applied = Unit {0}

-- a refused request took no effect
abbrev pub SoundRefused : Decision → Bool → Type 0
SoundRefused Refused applied = applied ≡ false
SoundRefused (Accepted answer) applied = Unit {0}

-- only a refused request fails by a STALL
abbrev pub SoundFault : Option ControlFault → Decision → Type 0
SoundFault (Some faults.Stalled) decision = decision ≡ Refused
SoundFault _ decision = Unit {0}

pub record IsSound (reads : Bool) (place : Place) : Type 0 where
  pub ended : SoundAt reads place.host place.decision place.applied
  pub refused : SoundRefused place.decision place.applied
  pub fault : SoundFault place.fault place.decision

silent_sound_if : (r : Bool) (p d : Position) (q : Decision) (a : Bool) (t : ℕ) (b : Bool) → IsSound r (at p d q a t) → IsSound r (if b then at p d q a (t + 1) else record (at p d q a t) { fault = Some faults.BusFault })
silent_sound_if r p d q a t true h = record { ended = h.ended; refused = h.refused; fault = tt }
silent_sound_if r p d q a t false h = record { ended = h.ended; refused = h.refused; fault = tt }

silent_sound : (r : Bool) (p d : Position) (q : Decision) (a : Bool) (t : ℕ) → IsSound r (at p d q a t)
    → IsSound r (place_after_silence (at p d q a t))
silent_sound r p d q a t h = silent_sound_if r p d q a t (nat_lt t 2) h

sound_short : (r : Bool) (p : Position) (q : Decision) (a : Bool) → IsBetween p → SoundAt r p q a
sound_short r Setup q a h = absurd h
sound_short r (Piece k) q a h = tt
sound_short r Status q a h = tt
sound_short r Past q a h = absurd h

short_first_if : (b : Bool) → IsBetween (if b then Status else Piece 0)
short_first_if true = tt
short_first_if false = tt

short_next_if : (k : ℕ) (b : Bool) → IsBetween (if b then Piece (suc k) else Status)
short_next_if k true = tt
short_next_if k false = tt

short_got_if : (k : ℕ) (b c : Bool) → IsBetween (if b then (if c then Piece (suc k) else Status) else Piece k)
short_got_if k true c = short_next_if k c
short_got_if k false c = tt

refused_after : (q : Decision) → SoundRefused q false
refused_after Refused = refl
refused_after (Accepted x) = tt

-- a try of SETUP
setup_sound : (shape : Shape) (fate : Fate) (d : Position) (q0 q : Decision) (a : Bool) (t : ℕ)
    → IsSound shape.reads (at Setup d q a t) → IsSound shape.reads (place_after_try shape fate q0 (at Setup d q a t))
setup_sound shape TokenLost d q0 q a t h = silent_sound shape.reads Setup d q a t h
setup_sound shape ReplyLost d q0 q a t h = silent_sound shape.reads Setup _ q0 false t (record { ended = refl; refused = refused_after q0; fault = tt })
setup_sound shape AckLost d q0 q a t h = silent_sound shape.reads Setup _ q0 false t (record { ended = refl; refused = refused_after q0; fault = tt })
setup_sound shape Clean d q0 q a t h =
    record {
      ended =
          sound_short shape.reads (first_position (data_pieces shape q0)) q0 false
          (short_first_if (data_pieces shape q0 == 0));
      refused = refused_after q0;
      fault = tt;
    }

-- a piece of a refused request
refused_sound : (r : Bool) (fate : Fate) (c : Bool) (p d : Position) (a : Bool) (t : ℕ)
    → IsSound r (at p d Refused a t) → IsSound r (place_after_refusal fate c (at p d Refused a t))
refused_sound r Clean c p d a t h = record { ended = h.ended; refused = h.refused; fault = refl }
refused_sound r TokenLost c p d a t h = silent_sound r p d Refused a t h
refused_sound r ReplyLost c p d a t h = silent_sound r p d Refused a t h
refused_sound r AckLost true p d a t h = record { ended = h.ended; refused = h.refused; fault = refl }
refused_sound r AckLost false p d a t h = silent_sound r p d Refused a t h

-- a piece of an accepted request, where the next position is sound
out_sound : (r : Bool) (fate : Fate) (count : ℕ) (p d : Position) (x : Option (List ℕ)) (a : Bool) (t : ℕ)
    → SoundAt r p (Accepted x) a → SoundAt r (next_position count p) (Accepted x) a
    → IsSound r (place_after_out fate count (at p d (Accepted x) a t))
out_sound r TokenLost count p d x a t h g = silent_sound r p d (Accepted x) a t (record { ended = h; refused = tt; fault = tt })
out_sound r ReplyLost count p d x a t h g = silent_sound r p _ (Accepted x) a t (record { ended = h; refused = tt; fault = tt })
out_sound r AckLost count p d x a t h g = silent_sound r p _ (Accepted x) a t (record { ended = h; refused = tt; fault = tt })
out_sound r Clean count p d x a t h g = record { ended = g; refused = tt; fault = tt }

in_sound : (r : Bool) (fate : Fate) (count : ℕ) (p d : Position) (x : Option (List ℕ)) (a : Bool) (t : ℕ)
    → SoundAt r p (Accepted x) a → SoundAt r (host_position_after count p d) (Accepted x) a
    → IsSound r (place_after_in fate count (at p d (Accepted x) a t))
in_sound r TokenLost count p d x a t h g = silent_sound r p d (Accepted x) a t (record { ended = h; refused = tt; fault = tt })
in_sound r ReplyLost count p d x a t h g = silent_sound r p d (Accepted x) a t (record { ended = h; refused = tt; fault = tt })
in_sound r AckLost count p d x a t h g = record { ended = g; refused = tt; fault = tt }
in_sound r Clean count p d x a t h g = record { ended = g; refused = tt; fault = tt }

-- what a try leaves of the decision and the effect
record Leaves (after : Place) (q : Decision) (a : Bool) : Type 0 where
  pub decision : after.decision ≡ q
  pub applied : after.applied ≡ a

silent_leaves_if : (p d : Position) (q : Decision) (a : Bool) (t : ℕ) (b : Bool) → Leaves (if b then at p d q a (t + 1) else record (at p d q a t) { fault = Some faults.BusFault }) q a
silent_leaves_if p d q a t true = record { decision = refl; applied = refl }
silent_leaves_if p d q a t false = record { decision = refl; applied = refl }

silent_leaves : (p d : Position) (q : Decision) (a : Bool) (t : ℕ) → Leaves (place_after_silence (at p d q a t)) q a
silent_leaves p d q a t = silent_leaves_if p d q a t (nat_lt t 2)

refused_leaves : (fate : Fate) (c : Bool) (p d : Position) (q : Decision) (a : Bool) (t : ℕ)
    → Leaves (place_after_refusal fate c (at p d q a t)) q a
refused_leaves Clean c p d q a t = record { decision = refl; applied = refl }
refused_leaves TokenLost c p d q a t = silent_leaves p d q a t
refused_leaves ReplyLost c p d q a t = silent_leaves p d q a t
refused_leaves AckLost true p d q a t = record { decision = refl; applied = refl }
refused_leaves AckLost false p d q a t = silent_leaves p d q a t

out_leaves : (fate : Fate) (count : ℕ) (p d : Position) (q : Decision) (a : Bool) (t : ℕ)
    → Leaves (place_after_out fate count (at p d q a t)) q a
out_leaves TokenLost count p d q a t = silent_leaves p d q a t
out_leaves ReplyLost count p d q a t = silent_leaves p (next_position count p) q a t
out_leaves AckLost count p d q a t = silent_leaves p (next_position count p) q a t
out_leaves Clean count p d q a t = record { decision = refl; applied = refl }

in_leaves : (fate : Fate) (count : ℕ) (p d : Position) (q : Decision) (a : Bool) (t : ℕ)
    → Leaves (place_after_in fate count (at p d q a t)) q a
in_leaves TokenLost count p d q a t = silent_leaves p d q a t
in_leaves ReplyLost count p d q a t = silent_leaves p d q a t
in_leaves AckLost count p d q a t = record { decision = refl; applied = refl }
in_leaves Clean count p d q a t = record { decision = refl; applied = refl }

-- one try: the place is sound after it, and its act is what changed
pub record Moves (reads : Bool) (before after : Place) (act : Act) : Type 0 where
  pub sound : IsSound reads after
  pub decision : after.decision ≡ last_decision before.decision (act ∷ [])
  pub applied : count_of after.applied ≡ effects (count_of before.applied) (act ∷ [])
  pub since : count_of after.applied ≡ effects_since (count_of before.applied) (act ∷ [])

same_moves : (r : Bool) (p d : Position) (q : Decision) (a : Bool) (t : ℕ) (after : Place) → IsSound r after → Leaves after q a → Moves r (at p d q a t) after Nothing
same_moves r p d q a t after h l = record { sound = h; decision = l.decision; applied = ap count_of l.applied; since = ap count_of l.applied }

decide_moves : (r : Bool) (p d : Position) (q0 q : Decision) (a : Bool) (t : ℕ) (after : Place) → a ≡ false → IsSound r after → Leaves after q0 false → Moves r (at p d q a t) after (Decides q0)
decide_moves r p d q0 q a t after none h l = record { sound = h; decision = l.decision; applied = ap count_of (l.applied ∙ sym none); since = ap count_of l.applied }

effect_moves : (r : Bool) (p d : Position) (q : Decision) (t : ℕ) (after : Place) → IsSound r after → Leaves after q true → Moves r (at p d q false t) after TakesEffect
effect_moves r p d q t after h l = record { sound = h; decision = l.decision; applied = ap count_of l.applied; since = ap count_of l.applied }

setup_moves : (shape : Shape) (fate : Fate) (d : Position) (q0 q : Decision) (a : Bool) (t : ℕ)
    → IsSound shape.reads (at Setup d q a t)
    → Moves shape.reads (at Setup d q a t) (place_after_try shape fate q0 (at Setup d q a t))
    (act_of shape fate q0 (at Setup d q a t))
setup_moves shape TokenLost d q0 q a t h = same_moves shape.reads Setup d q a t _ (setup_sound shape TokenLost d q0 q a t h) (silent_leaves Setup d q a t)
setup_moves shape ReplyLost d q0 q a t h = decide_moves shape.reads Setup d q0 q a t _ h.ended (setup_sound shape ReplyLost d q0 q a t h) (silent_leaves Setup _ q0 false t)
setup_moves shape AckLost d q0 q a t h = decide_moves shape.reads Setup d q0 q a t _ h.ended (setup_sound shape AckLost d q0 q a t h) (silent_leaves Setup _ q0 false t)
setup_moves shape Clean d q0 q a t h = decide_moves shape.reads Setup d q0 q a t _ h.ended (setup_sound shape Clean d q0 q a t h) (record { decision = refl; applied = refl })

-- a data piece of an accepted request
piece_moves : (r : Bool) (len : ℕ) (fate : Fate) (k : ℕ) (d : Position) (x : Option (List ℕ)) (a : Bool) (t : ℕ)
    → Moves r (at (Piece k) d (Accepted x) a t)
    (place_after_piece (shaped r len) fate (Accepted x) (at (Piece k) d (Accepted x) a t)) Nothing
piece_moves r len fate k d x a t =
    let count = data_pieces (shaped r len) (Accepted x) in
    subst (λ (b : Bool). Moves r (at (Piece k) d (Accepted x) a t)
    (if r then place_after_in fate count (at (Piece k) d (Accepted x) (b || a) t) else place_after_out fate count
    (at (Piece k) d (Accepted x) (b || a) t)) Nothing) (sym (applies_piece (shaped r len) fate k)) (way r)
  where
    way : (c : Bool)
        → Moves r (at (Piece k) d (Accepted x) a t)
        (if c then place_after_in fate (data_pieces (shaped r len) (Accepted x))
        (at (Piece k) d (Accepted x) a t) else place_after_out fate (data_pieces (shaped r len) (Accepted x))
        (at (Piece k) d (Accepted x) a t)) Nothing
    way true = same_moves r (Piece k) d (Accepted x) a t _ (in_sound r fate _ (Piece k) d x a t tt (sound_short r _ (Accepted x) a (short_got_if k (is_same (Piece k) d) (nat_lt (suc k) (data_pieces (shaped r len) (Accepted x)))))) (in_leaves fate _ (Piece k) d (Accepted x) a t)
    way false = same_moves r (Piece k) d (Accepted x) a t _ (out_sound r fate _ (Piece k) d x a t tt (sound_short r _ (Accepted x) a (short_next_if k (nat_lt (suc k) (data_pieces (shaped r len) (Accepted x)))))) (out_leaves fate _ (Piece k) d (Accepted x) a t)

ends_read : (b : Bool) (x : Option (List ℕ)) (a : Bool) → SoundAt true (if b then Past else Status) (Accepted x) a
ends_read true x a = (tt, λ e. cc)
ends_read false x a = tt

ends_write : (b : Bool) (x : Option (List ℕ)) → SoundAt false (if b then Past else Status) (Accepted x) true
ends_write true x = (tt, λ e. refl)
ends_write false x = tt

-- the status of an accepted read
read_status_moves : (len : ℕ) (fate : Fate) (d : Position) (x : Option (List ℕ)) (a : Bool) (t : ℕ)
    → Moves true (at Status d (Accepted x) a t)
    (place_after_piece (shaped true len) fate (Accepted x) (at Status d (Accepted x) a t)) Nothing
read_status_moves len fate d x a t =
    let count = data_pieces (shaped true len) (Accepted x) in
    subst (λ (b : Bool). Moves true (at Status d (Accepted x) a t)
    (if len == 0 then place_after_in fate count
    (at Status d (Accepted x) (b || a) t) else place_after_out fate count
    (at Status d (Accepted x) (b || a) t)) Nothing) (sym (applies_read len fate)) (way (len == 0))
  where
    way : (c : Bool)
        → Moves true (at Status d (Accepted x) a t)
        (if c then place_after_in fate (data_pieces (shaped true len) (Accepted x))
        (at Status d (Accepted x) a t) else place_after_out fate (data_pieces (shaped true len) (Accepted x))
        (at Status d (Accepted x) a t)) Nothing
    way true = same_moves true Status d (Accepted x) a t _ (in_sound true fate _ Status d x a t tt (ends_read (is_same Status d) x a)) (in_leaves fate _ Status d (Accepted x) a t)
    way false = same_moves true Status d (Accepted x) a t _ (out_sound true fate _ Status d x a t tt (ends_read true x a)) (out_leaves fate _ Status d (Accepted x) a t)

-- the status of an accepted write
write_arrives : (len : ℕ) (fate : Fate) (d : Position) (x : Option (List ℕ)) (t : ℕ)
    → IsSound false
    (place_after_in fate (data_pieces (shaped false len) (Accepted x)) (at Status d (Accepted x) true t))
write_arrives len fate d x t = in_sound false fate _ Status d x true t tt (ends_write (is_same Status d) x)

write_status_moves : (len : ℕ) (fate : Fate) (d : Position) (q0 : Decision) (x : Option (List ℕ)) (a : Bool) (t : ℕ)
    → Moves false (at Status d (Accepted x) a t)
    (place_after_piece (shaped false len) fate (Accepted x) (at Status d (Accepted x) a t))
    (act_of (shaped false len) fate q0 (at Status d (Accepted x) a t))
write_status_moves len TokenLost d q0 x a t = same_moves false Status d (Accepted x) a t _ (silent_sound false Status d (Accepted x) a t (record { ended = tt; refused = tt; fault = tt })) (silent_leaves Status d (Accepted x) a t)
write_status_moves len Clean d q0 x true t = same_moves false Status d (Accepted x) true t _ (write_arrives len Clean d x t) (in_leaves Clean (data_pieces (shaped false len) (Accepted x)) Status d (Accepted x) true t)
write_status_moves len ReplyLost d q0 x true t = same_moves false Status d (Accepted x) true t _ (write_arrives len ReplyLost d x t) (in_leaves ReplyLost (data_pieces (shaped false len) (Accepted x)) Status d (Accepted x) true t)
write_status_moves len AckLost d q0 x true t = same_moves false Status d (Accepted x) true t _ (write_arrives len AckLost d x t) (in_leaves AckLost (data_pieces (shaped false len) (Accepted x)) Status d (Accepted x) true t)
write_status_moves len Clean d q0 x false t = effect_moves false Status d (Accepted x) t _ (write_arrives len Clean d x t) (in_leaves Clean (data_pieces (shaped false len) (Accepted x)) Status d (Accepted x) true t)
write_status_moves len ReplyLost d q0 x false t = effect_moves false Status d (Accepted x) t _ (write_arrives len ReplyLost d x t) (in_leaves ReplyLost (data_pieces (shaped false len) (Accepted x)) Status d (Accepted x) true t)
write_status_moves len AckLost d q0 x false t = effect_moves false Status d (Accepted x) t _ (write_arrives len AckLost d x t) (in_leaves AckLost (data_pieces (shaped false len) (Accepted x)) Status d (Accepted x) true t)

pub moves_at : (r : Bool) (len : ℕ) (fate : Fate) (p d : Position) (q0 q : Decision) (a : Bool) (t : ℕ)
    (fault : Option ControlFault) → let place : Place =
    record { host = p; device = d; decision = q; applied = a; tries = t; fault = fault } in is_open place ≡ true
    → IsSound r place
    → Moves r place (place_after_try (shaped r len) fate q0 place) (act_of (shaped r len) fate q0 place)
moves_at r len fate p d q0 q a t (Some f) going h = cc
moves_at r len fate Past d q0 q a t None going h = cc
moves_at r len fate Setup d q0 q a t None going h = setup_moves (shaped r len) fate d q0 q a t h
moves_at r len fate (Piece k) d q0 Refused a t None going h = rw (act_piece k (shaped r len) fate q0 Refused a) (same_moves r (Piece k) d Refused a t _ (refused_sound r fate r (Piece k) d a t h) (refused_leaves fate r (Piece k) d Refused a t))
moves_at r len fate (Piece k) d q0 (Accepted x) a t None going h = rw (act_piece k (shaped r len) fate q0 (Accepted x) a) (piece_moves r len fate k d x a t)
moves_at r len fate Status d q0 Refused a t None going h =
    rw (act_refused (shaped r len) fate q0 a)
    (same_moves r Status d Refused a t _ (refused_sound r fate _ Status d a t h)
    (refused_leaves fate (comes_from_device (shaped r len) Status) Status d Refused a t))
moves_at true len fate Status d q0 (Accepted x) a t None going h = rw (act_read len fate q0 x a) (read_status_moves len fate d x a t)
moves_at false len fate Status d q0 (Accepted x) a t None going h = write_status_moves len fate d q0 x a t

-- what holds after a list of tries, by what held before it
record Holds (reads : Bool) (place : Place) (decision : Decision) (count since : ℕ) : Type 0 where
  pub sound : IsSound reads place
  decision_is : place.decision ≡ decision
  count_is : count_of place.applied ≡ count
  since_is : count_of place.applied ≡ since

last_more : (d : Decision) (act : Act) (rest : List Act) → last_decision d (act ∷ rest) ≡ last_decision (last_decision d (act ∷ [])) rest
last_more d Nothing rest = refl
last_more d (Decides e) rest = refl
last_more d TakesEffect rest = refl

effects_more : (n : ℕ) (act : Act) (rest : List Act) → effects n (act ∷ rest) ≡ effects (effects n (act ∷ [])) rest
effects_more n Nothing rest = refl
effects_more n (Decides e) rest = refl
effects_more n TakesEffect rest = refl

since_more : (n : ℕ) (act : Act) (rest : List Act) → effects_since n (act ∷ rest) ≡ effects_since (effects_since n (act ∷ [])) rest
since_more n Nothing rest = refl
since_more n (Decides e) rest = refl
since_more n TakesEffect rest = refl

-- one try before the others, where the transfer runs
one_more : (reads : Bool) (before after last : Place) (act : Act) (rest : List Act) → Moves reads before after act → Holds reads last (last_decision after.decision rest) (effects (count_of after.applied) rest) (effects_since (count_of after.applied) rest) → Holds reads last (last_decision before.decision (act ∷ rest)) (effects (count_of before.applied) (act ∷ rest)) (effects_since (count_of before.applied) (act ∷ rest))
one_more reads before after last act rest m g = record {
  sound = g.sound;
  decision_is = g.decision_is ∙ ap (λ (d : Decision). last_decision d rest) m.decision ∙ sym (last_more before.decision act rest);
  count_is = g.count_is ∙ ap (λ (n : ℕ). effects n rest) m.applied ∙ sym (effects_more (count_of before.applied) act rest);
  since_is = g.since_is ∙ ap (λ (n : ℕ). effects_since n rest) m.since ∙ sym (since_more (count_of before.applied) act rest);
}

run_holds : (shape : Shape) (list : List (Fate × Decision)) (place : Place) → IsSound shape.reads place
    → Holds shape.reads (place_after_tries shape list place) (last_decision place.decision (acts shape list place))
    (effects (count_of place.applied) (acts shape list place))
    (effects_since (count_of place.applied) (acts shape list place))
run_holds shape [] place h = record { sound = h; decision_is = refl; count_is = refl; since_is = refl }
run_holds shape (try ∷ list) place h =
    by (is_open place) refl (λ sound. run_holds shape list (place_after_try shape try.0 try.1 place) sound)
  where
    by : (b : Bool) → is_open place ≡ b
        → (IsSound shape.reads (place_after_try shape try.0 try.1 place)
        → Holds shape.reads (place_after_tries shape list (place_after_try shape try.0 try.1 place))
        (last_decision (place_after_try shape try.0 try.1 place).decision
        (acts shape list (place_after_try shape try.0 try.1 place)))
        (effects (count_of (place_after_try shape try.0 try.1 place).applied)
        (acts shape list (place_after_try shape try.0 try.1 place)))
        (effects_since (count_of (place_after_try shape try.0 try.1 place).applied)
        (acts shape list (place_after_try shape try.0 try.1 place))))
        → Holds shape.reads
        (if b then place_after_tries shape list (place_after_try shape try.0 try.1 place) else place)
        (last_decision place.decision
        (if b then act_of shape try.0 try.1 place
        ∷ acts shape list (place_after_try shape try.0 try.1 place) else []))
        (effects (count_of place.applied)
        (if b then act_of shape try.0 try.1 place
        ∷ acts shape list (place_after_try shape try.0 try.1 place) else []))
        (effects_since (count_of place.applied)
        (if b then act_of shape try.0 try.1 place
        ∷ acts shape list (place_after_try shape try.0 try.1 place) else []))
    by false e rests = record { sound = h; decision_is = refl; count_is = refl; since_is = refl }
    by true e rests =
        let m = moves_at shape.reads shape.length try.0 place.host place.device try.1 place.decision place.applied place.tries place.fault e h in
        one_more shape.reads place (place_after_try shape try.0 try.1 place) _ (act_of shape try.0 try.1 place) _ m
        (rests m.sound)

-- a try in a read takes no effect
skips : (n : ℕ) (act : Act) (rest : List Act) → ¬ (act ≡ TakesEffect) → effects n (act ∷ rest) ≡ effects n rest
skips n Nothing rest h = refl
skips n (Decides e) rest h = refl
skips n TakesEffect rest h = absurd (h refl)

read_effects : (shape : Shape) (list : List (Fate × Decision)) (place : Place) → shape.reads ≡ true → effects 0 (acts shape list place) ≡ 0
read_effects shape [] place is = refl
read_effects shape (try ∷ list) place is =
    by (is_open place) (read_effects shape list (place_after_try shape try.0 try.1 place) is)
  where
    by : (b : Bool) → effects 0 (acts shape list (place_after_try shape try.0 try.1 place)) ≡ 0
        → effects 0
        (if b then act_of shape try.0 try.1 place ∷ acts shape list (place_after_try shape try.0 try.1 place) else [])
        ≡ 0
    by false rests = refl
    by true rests = skips 0 (act_of shape try.0 try.1 place) _ (λ e. let w = (effect_needs place.host shape try.0 try.1 place.decision place.applied e).writes in cc) ∙ rests

count_small : (b : Bool) → count_of b ≤ 1
count_small true = omega arith
count_small false = omega arith

-- at the end and without a fault
pub ended_is : (r : Bool) (p : Position) (q : Decision) (a : Bool) → p ≡ Past → SoundAt r p q a → IsAccepted q × (r ≡ false → a ≡ true)
ended_is r p q a e h = subst (λ (x : Position). SoundAt r x q a) e h

refused_is : (f : Option ControlFault) (q : Decision) (a : Bool) → f ≡ Some faults.Stalled → SoundFault f q → SoundRefused q a → a ≡ false
refused_is f q a e h g =
    let refused = subst (λ (x : Option ControlFault). SoundFault x q) e h in
    subst (λ (x : Decision). SoundRefused x a) refused g

pub is_once : (shape : Shape) (list : List (Fate × Decision)) → IsOnce shape list
is_once shape list =
    let h = run_holds shape list start (record { ended = refl; refused = refl; fault = tt }) in
    let last = place_after_tries shape list start in
    record {
      decided = h.decision_is;
      accepted = λ done. (ended_is shape.reads last.host last.decision last.applied done.1 h.sound.ended).0;
      once = λ done write. sym h.count_is ∙ ap count_of ((ended_is shape.reads last.host last.decision last.applied done.1 h.sound.ended).1 write);
      at_most_once = rw (sym h.count_is) (count_small last.applied);
      refused = λ stalled. sym h.count_is ∙ ap count_of (refused_is last.fault last.decision last.applied stalled h.sound.fault h.sound.refused);
      reads = λ is. read_effects shape list start is;
      since = sym h.since_is ∙ h.count_is;
    }
