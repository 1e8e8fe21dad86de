-- A flight is found at its place, and each is answered once.
use Rattle.std.proofs.Common.{◌≡◌, ℕ, zero, suc, ◌+◌, ◌<◌, eqb, Bool, true, false, List, [], ◌∷◌, ◌++◌, Option, Some, None, refl, sym, ap, ◌∙◌, arith, length, get_or, take, drop}
use Rattle.std.specs.Prelude.{◌≤◌, count_by, cond, is_some}
use Rattle.std.proofs.lemmas.Bool.{eqb-true}
use Rattle.std.proofs.Common.{eq-eqb}
use Rattle.std.proofs.lemmas.List.Sums.{sum_by-append, sum_by-cons}
use Rattle.std.specs.Prelude.{slice_get}
use Rattle.std.specs.List.{remove}
use Rattle.usbip_import.specs.declared.flight.Flight.{Flight}
use Rattle.usbip_import.specs.Flights.{Happening, Sends, Replies, AreSingle, IsAnsweredOnce, IsInItsPlace, all_answered, all_sent, answered_at, flight_of, flights_after, flights_after_all, has_number, if_any, is_in_flight, sent_at, without}

-- the flight at a place has the number: it is the oldest from there on
pub found : (n i : ℕ) (xs : List Flight) (d : Flight) → i < length xs → (get_or xs i d).seqnum ≡ n → (flight_of n (drop i xs) ≡ slice_get xs i) × (take i xs ++ without n (drop i xs) ≡ remove xs i)
found n i [] d lt same = absurd (omega arith)
found n zero (y ∷ ys) d lt same =
    let yes : eqb y.seqnum n ≡ true = eq-eqb y.seqnum n same in
    (rw yes refl, rw yes refl)
found n (suc i) (y ∷ ys) d lt same =
    let h = found n i ys d (omega arith) same in
    (h.0, ap (λ (l : List Flight). y ∷ l) h.1)

-- ---- each is answered once

abbrev seqnum_of : Option Flight → ℕ
seqnum_of None = 0
seqnum_of (Some f) = f.seqnum

number_or_later : (n : ℕ) (x : Flight) (xs : List Flight) (f : Flight) (b : Bool) → eqb x.seqnum n ≡ b → IsInItsPlace n xs → cond b (Some x) (flight_of n xs) ≡ Some f → f.seqnum ≡ n
number_or_later n x xs f true same rest is =
    ap seqnum_of (sym is) ∙ eqb-true x.seqnum n same
number_or_later n x xs f false same rest is = rest f is

pub in_place : (n : ℕ) (xs : List Flight) → IsInItsPlace n xs
in_place n [] f is = absurd (cc)
in_place n (x ∷ xs) f is = number_or_later n x xs f (eqb x.seqnum n) refl (in_place n xs) is

-- a count of two lists
count-append : (sort : Flight → Bool) (xs ys : List Flight) → count_by sort (xs ++ ys) ≡ count_by sort xs + count_by sort ys
count-append sort xs ys = sum_by-append (λ (f : Flight). cond (sort f) 1 0) xs ys

without-step : (sort : Flight → Bool) (n : ℕ) (x : Flight) (xs : List Flight) (b : Bool)
    → count_by sort (if_any (flight_of n xs)) + count_by sort (without n xs) ≡ count_by sort xs
    → count_by sort (if_any (cond b (Some x) (flight_of n xs))) + count_by sort (cond b xs (x ∷ without n xs)) ≡ count_by sort (x ∷ xs)
without-step sort n x xs true ih =
    let one : count_by sort (x ∷ []) + count_by sort xs ≡ count_by sort (x ∷ xs) =
    sym (count-append sort (x ∷ []) xs) in
    one
without-step sort n x xs false ih =
    let one : count_by sort (x ∷ without n xs) ≡ cond (sort x) 1 0 + count_by sort (without n xs) =
    sum_by-cons (λ (f : Flight). cond (sort f) 1 0) x (without n xs) in
    let all : count_by sort (x ∷ xs) ≡ cond (sort x) 1 0 + count_by sort xs = sum_by-cons (λ (f : Flight). cond (sort f) 1 0) x xs in
    let both : count_by sort (if_any (flight_of n xs)) + count_by sort (x ∷ without n xs) ≡ count_by sort (x ∷ xs) =
    omega (arith, ih, one, all) in
    both

count-without : (sort : Flight → Bool) (n : ℕ) (xs : List Flight) → count_by sort (if_any (flight_of n xs)) + count_by sort (without n xs) ≡ count_by sort xs
count-without sort n [] = refl
count-without sort n (x ∷ xs) = without-step sort n x xs (eqb x.seqnum n) (count-without sort n xs)

once-step : (sort : Flight → Bool) (fs : List Flight) (h : Happening) → count_by sort (answered_at fs h) + count_by sort (flights_after fs h) ≡ count_by sort (sent_at fs h) + count_by sort fs
once-step sort fs (Sends f) = omega (arith, count-append sort fs (sent_at fs (Sends f)))
once-step sort fs (Replies n) = omega (arith, count-without sort n fs)

pub answered_once : (fs : List Flight) (hs : List Happening) → IsAnsweredOnce fs hs
answered_once fs [] sort = omega arith
answered_once fs (h ∷ hs) sort = omega (
  arith,
  once-step sort fs h,
  answered_once (flights_after fs h) hs sort,
  count-append sort (answered_at fs h) (all_answered (flights_after fs h) hs),
  count-append sort (sent_at fs h) (all_sent (flights_after fs h) hs),
)

-- ---- no number is in flight twice

none-step : (n : ℕ) (x : Flight) (xs : List Flight) (b : Bool) → eqb x.seqnum n ≡ b → (is_some (flight_of n xs) ≡ false → count_by (has_number n) xs ≡ 0) → is_some (cond b (Some x) (flight_of n xs)) ≡ false → count_by (has_number n) (x ∷ xs) ≡ 0
none-step n x xs true same ih none = absurd (cc)
none-step n x xs false same ih none =
    let all : count_by (has_number n) (x ∷ xs) ≡ cond (eqb x.seqnum n) 1 0 + count_by (has_number n) xs =
    sum_by-cons (λ (f : Flight). cond (has_number n f) 1 0) x xs in
    let weight : Bool → ℕ = λ b. cond b 1 0 in
    let no : weight (eqb x.seqnum n) ≡ 0 = ap weight same in
    omega (arith, all, no, ih none)

none_of : (n : ℕ) (xs : List Flight) → is_in_flight n xs ≡ false → count_by (has_number n) xs ≡ 0
none_of n [] none = refl
none_of n (x ∷ xs) none = none-step n x xs (eqb x.seqnum n) refl (none_of n xs) none

one_at_most : (sort : Flight → Bool) (f : Flight) (b : Bool) → sort f ≡ b → count_by sort (f ∷ []) ≤ 1
one_at_most sort f true is = rw is (omega arith)
one_at_most sort f false is = rw is (omega arith)

single-sent : (fs : List Flight) (f : Flight) (b c : Bool) (n : ℕ) → is_in_flight f.seqnum fs ≡ b → eqb f.seqnum n ≡ c → AreSingle fs → count_by (has_number n) (cond b [] (f ∷ [])) + count_by (has_number n) fs ≤ 1
single-sent fs f true c n used same single = omega (arith, single n)
single-sent fs f false true n used same single =
    let e : f.seqnum ≡ n = eqb-true f.seqnum n same in
    let free : count_by (has_number n) fs ≡ 0 = ap (λ (k : ℕ). count_by (has_number k) fs) (sym e) ∙ none_of f.seqnum fs used in
    omega (arith, free, one_at_most (has_number n) f true same)
single-sent fs f false false n used same single =
    let other : count_by (has_number n) (f ∷ []) ≡ 0 = rw same refl in
    omega (arith, other, single n)

pub single-step : (fs : List Flight) (h : Happening) → AreSingle fs → AreSingle (flights_after fs h)
single-step fs (Sends f) single n = omega (
  arith,
  single-sent fs f (is_in_flight f.seqnum fs) (eqb f.seqnum n) n refl refl single,
  count-append (has_number n) fs (sent_at fs (Sends f)),
)
single-step fs (Replies m) single n = omega (arith, single n, count-without (has_number n) m fs)

pub stays_single : (fs : List Flight) (hs : List Happening) → AreSingle fs → AreSingle (flights_after_all fs hs)
stays_single fs [] single = single
stays_single fs (h ∷ hs) single = stays_single (flights_after fs h) hs (single-step fs h single)
