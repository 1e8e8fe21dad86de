-- Each submit is answered once, and what waits is found at its place.
use Rattle.std.proofs.Common.{◌≡◌, ℕ, zero, suc, ◌+◌, ◌<◌, eqb, ltb, Bool, true, false, cond, List, [], ◌∷◌, ◌++◌, Some, None, refl, sym, ap, ◌∙◌, arith, length, get_or, take, drop}
use Rattle.std.specs.List.{remove}
use Rattle.std.proofs.lemmas.Bool.{eqb-true}
use Rattle.usbip.specs.declared.message.Status.{Status}
use Rattle.usbip.specs.declared.message.Status.TheVariants.{NoMemory}
use Rattle.usbip.specs.declared.message.Submit.{Submit}
use Rattle.usbip.specs.declared.message.SubmitReply.{SubmitReply}
use Rattle.usbip.specs.declared.pending.TheConstants.{MAX_PENDING}
use Rattle.usbip.specs.declared.pending.PendingSubmit.{PendingSubmit}
use Rattle.usbip.specs.Pending.{Happening, Submits, Unlinks, Answers, IsAnsweredOnce, answers_at, is_pending, one_if_same, one_if_to, pending_after, reply_to_oldest, submits_at, waiting, without}

waiting-append : (n : ℕ) (ps : List PendingSubmit) (p : PendingSubmit) → waiting n (ps ++ p ∷ []) ≡ waiting n ps + one_if_same n p.seqnum
waiting-append n [] p = omega arith
waiting-append n (q ∷ ps) p = omega (arith, waiting-append n ps p)

without-step : (n m : ℕ) (p : PendingSubmit) (ps : List PendingSubmit) (b : Bool) → eqb p.seqnum m ≡ b → cond (is_pending m ps) (one_if_same n m) 0 + waiting n (without m ps) ≡ waiting n ps → cond (cond b true (is_pending m ps)) (one_if_same n m) 0 + waiting n (cond b ps (p ∷ without m ps)) ≡ one_if_same n p.seqnum + waiting n ps
without-step n m p ps true e ih = ap (λ (k : ℕ). one_if_same n k + waiting n ps) (sym (eqb-true p.seqnum m e))
without-step n m p ps false e ih = omega (arith, ih)

waiting-without : (n m : ℕ) (ps : List PendingSubmit) → cond (is_pending m ps) (one_if_same n m) 0 + waiting n (without m ps) ≡ waiting n ps
waiting-without n m [] = refl
waiting-without n m (p ∷ ps) = without-step n m p ps (eqb p.seqnum m) refl (waiting-without n m ps)

refusal : Submit → SubmitReply
refusal s = record { seqnum = s.seqnum; status = NoMemory; length = 0 }

pending : Submit → PendingSubmit
pending s = record { seqnum = s.seqnum; length = s.length }

submit-step : (n : ℕ) (ps : List PendingSubmit) (s : Submit) (b : Bool) → one_if_to n (cond b None (Some (refusal s))) + waiting n (cond b (ps ++ pending s ∷ []) ps) ≡ one_if_same n s.seqnum + waiting n ps
unfolding refusal pending
submit-step n ps s true = omega (arith, waiting-append n ps (record { seqnum = s.seqnum; length = s.length }))
submit-step n ps s false = refl

oldest-step : (n : ℕ) (status : Status) (count : ℕ) (ps : List PendingSubmit) → one_if_to n (reply_to_oldest ps status count) + waiting n (drop 1 ps) ≡ 0 + waiting n ps
oldest-step n status count [] = refl
oldest-step n status count (p ∷ ps) = omega arith

once-step : (n : ℕ) (ps : List PendingSubmit) (h : Happening) → answers_at n ps h + waiting n (pending_after ps h) ≡ submits_at n h + waiting n ps
unfolding refusal pending
once-step n ps (Submits s) = submit-step n ps s (ltb (length ps) MAX_PENDING)
once-step n ps (Unlinks u) = omega (arith, waiting-without n u.submit ps)
once-step n ps (Answers status count) = oldest-step n status count ps

pub answered_once : (ps : List PendingSubmit) (hs : List Happening) → IsAnsweredOnce ps hs
answered_once ps [] n = refl
answered_once ps (h ∷ hs) n = omega (arith, once-step n ps h, answered_once (pending_after ps h) hs n)

-- ---- the place of a submit

-- the submit at a place has another number: what is found from there on is found after it
pub passed : (n i : ℕ) (xs : List PendingSubmit) (x : PendingSubmit) → i < length xs → x ≡ get_or xs i x → eqb x.seqnum n ≡ false → (is_pending n (drop (suc i) xs) ≡ is_pending n (drop i xs)) × (take (suc i) xs ++ without n (drop (suc i) xs) ≡ take i xs ++ without n (drop i xs))
passed n i [] x lt e other = absurd (omega arith)
passed n zero (y ∷ ys) x lt e other =
    let no : eqb y.seqnum n ≡ false = ap (λ (p : PendingSubmit). eqb p.seqnum n) (sym e) ∙ other in
    (rw no refl, rw no refl)
passed n (suc i) (y ∷ ys) x lt e other =
    let h = passed n i ys x (omega arith) e other in
    (h.0, ap (λ (l : List PendingSubmit). y ∷ l) h.1)

-- the submit at a place has the number: it is the oldest from there on
pub found : (n i : ℕ) (xs : List PendingSubmit) (x : PendingSubmit) → i < length xs → x ≡ get_or xs i x → eqb x.seqnum n ≡ true → (is_pending n (drop i xs) ≡ true) × (take i xs ++ without n (drop i xs) ≡ remove xs i)
found n i [] x lt e same = absurd (omega arith)
found n zero (y ∷ ys) x lt e same =
    let yes : eqb y.seqnum n ≡ true = ap (λ (p : PendingSubmit). eqb p.seqnum n) (sym e) ∙ same in
    (rw yes refl, rw yes refl)
found n (suc i) (y ∷ ys) x lt e same =
    let h = found n i ys x (omega arith) e same in
    (h.0, ap (λ (l : List PendingSubmit). y ∷ l) h.1)
