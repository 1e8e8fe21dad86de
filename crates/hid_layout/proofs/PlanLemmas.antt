-- The places of reports: items are counted, and each place is put after those that its report has so far.
use Rattle.std.proofs.Common.{◌≡◌, ◌≢◌, ℕ, zero, suc, ◌+◌, ◌-◌, ◌<◌, ◌≤◌, List, [], ◌∷◌, ◌++◌, length, map, take, drop, get_or, set, refl, sym, subst, ap, ◌∙◌, arith, append-nil, Bool, true, false, cond, nat_eq, nat_lt, Some, pos, Vec}
use Rattle.std.specs.Vec.{with_items}
use Rattle.std.specs.List.{slice_get, slice_range}
use Rattle.std.specs.Option.{option_map}
use Rattle.std.specs.Prelude.{replicate}
use Rattle.std.proofs.lemmas.List.{length-set, length-drop, length-append, length-take-le, take-replicate, drop-replicate, drop-set-add, drop-set-lt, take-set-le, take_more_set, get_or_append_left, get_or-take, drop_at, with_items_is}
use Rattle.std.proofs.lemmas.Option.{slice_get-map, slice_get-get_or}
use Rattle.hid_report_descriptor.specs.declared.shape.Shape.TheVariants.{Padding}
use Rattle.std.proofs.lemmas.Bool.Decides.{nat_tests}
use Rattle.hid_layout.specs.declared.main_item.MainItem.{MainItem}
use Rattle.hid_report_descriptor.specs.Faults.{numbers_from}
use Rattle.hid_layout.specs.ArrayCodes.{places_from}
use Rattle.hid_layout.proofs.IndexLemmas.{made_length, numbers_from-get, take_next}
use Rattle.hid_layout.specs.Plans.{AreIn, count_of, begin_of, end_of, ArePut, plans_in, ArePlans}

-- a list made number by number, with other numbers
made-same : {A : Type 0} (f g : ℕ → A) (from n : ℕ) → ((r : ℕ) → from ≤ r → r < from + n → f r ≡ g r)
    → map f (numbers_from from n) ≡ map g (numbers_from from n)
unfolding numbers_from
made-same f g from zero h = refl
made-same f g from (suc n) h =
    ap (λ x. x ∷ map f (numbers_from (from + 1) n)) (h from (omega arith) (omega arith))
    ∙ ap (λ l. g from ∷ l) (made-same f g (from + 1) n (λ r a b. h r (omega (arith, a)) (omega (arith, b))))

pub made_same : {A : Type 0} (f g : ℕ → A) (n : ℕ) → ((r : ℕ) → r < n → f r ≡ g r)
    → map f (numbers_from 0 n) ≡ map g (numbers_from 0 n)
made_same f g n h = made-same f g 0 n (λ r a b. h r (omega (arith, b)))

pub made_zero : (f : ℕ → ℕ) (n : ℕ) → ((r : ℕ) → f r ≡ 0) → replicate n 0 ≡ map f (numbers_from 0 n)
unfolding numbers_from
made_zero f n h = zeros 0 n
  where
    zeros : (from n : ℕ) → replicate n 0 ≡ map f (numbers_from from n)
    zeros from zero = refl
    zeros from (suc n) =
        ap (λ l. 0 ∷ l) (zeros (from + 1) n) ∙ ap (λ x. x ∷ map f (numbers_from (from + 1) n)) (sym (h from))

-- one of them is set
made-set : {A : Type 0} (f g : ℕ → A) (from n q : ℕ) (v : A) → v ≡ g (from + q) → ((r : ℕ) → r ≢ from + q → f r ≡ g r)
    → set (map f (numbers_from from n)) q v ≡ map g (numbers_from from n)
unfolding numbers_from
made-set f g from zero q v e h = refl
made-set f g from (suc n) zero v e h =
    ap (λ x. x ∷ map f (numbers_from (from + 1) n)) (e ∙ ap g (omega arith))
    ∙ ap (λ l. g from ∷ l) (made-same f g (from + 1) n (λ r a b. h r (λ s. omega (arith, a, s))))
made-set f g from (suc n) (suc q) v e h =
    let same : (from + 1) + q ≡ from + suc q = omega arith in
    ap (λ x. x ∷ set (map f (numbers_from (from + 1) n)) q v) (h from (λ s. omega (arith, s)))
    ∙ ap (λ l. g from ∷ l) (made-set f g (from + 1) n q v (e ∙ ap g (sym same)) (λ r d. h r (λ s. d (s ∙ sym same))))

pub made_set : {A : Type 0} (f g : ℕ → A) (n q : ℕ) (v : A) → v ≡ g q → ((r : ℕ) → r ≢ q → f r ≡ g r)
    → set (map f (numbers_from 0 n)) q v ≡ map g (numbers_from 0 n)
made_set f g n q v e h =
    let same : 0 + q ≡ q = omega arith in
    made-set f g 0 n q v (e ∙ ap g (sym same)) (λ r d. h r (λ s. d (s ∙ sym same)))

-- one of them
made-get : (f : ℕ → ℕ) (from n r d : ℕ) → r < n → get_or (map f (numbers_from from n)) r d ≡ f (from + r)
unfolding numbers_from
made-get f from zero r d h = absurd (omega arith)
made-get f from (suc n) zero d h = ap f (omega arith)
made-get f from (suc n) (suc r) d h = made-get f (from + 1) n r d (omega arith) ∙ ap f (omega arith)

pub made_get : (f : ℕ → ℕ) (n r d : ℕ) → r < n → get_or (map f (numbers_from 0 n)) r d ≡ f r
made_get f n r d h = made-get f 0 n r d h ∙ ap f (omega arith)

-- a part of a list stays where what is set lies before or after it, and grows by what is set at its end
range-before : (xs : List ℕ) (a b k v : ℕ) → a ≤ b → b ≤ k → slice_range (set xs k v) a b ≡ slice_range xs a b
range-before xs a b k v le within =
    let at : a + (k - a) ≡ k = omega (arith, le, within) in
    ap (λ i. slice_range (set xs i v) a b) (sym at) ∙ ap (take (b - a)) (drop-set-add a xs (k - a) v) ∙ take-set-le (b - a) (drop a xs) (k - a) v (omega (arith, le, within))

range-behind : (xs : List ℕ) (a b k v : ℕ) → k < a → slice_range (set xs k v) a b ≡ slice_range xs a b
range-behind xs a b k v lt = ap (take (b - a)) (drop-set-lt a xs k v lt)

range-more : (xs : List ℕ) (a k v : ℕ) → a ≤ k → k < length xs → slice_range (set xs k v) a (k + 1) ≡ slice_range xs a k ++ v ∷ []
range-more xs a k v le lt =
    let at : a + (k - a) ≡ k = omega (arith, le) in
    let one : (k + 1) - a ≡ (k - a) + 1 = omega (arith, le) in
    ap (λ i. slice_range (set xs i v) a (k + 1)) (sym at) ∙ ap (take ((k + 1) - a)) (drop-set-add a xs (k - a) v) ∙ ap (λ n. take n (set (drop a xs) (k - a) v)) one
    ∙ take_more_set (drop a xs) (k - a) v (omega (arith, le, lt, length-drop a xs))

abbrev one_if : Bool → ℕ
one_if b = cond b 1 0

-- one more item
count-push : (items : List MainItem) (item : MainItem) (r : ℕ) → count_of (items ++ item ∷ []) r ≡ count_of items r + one_if (nat_eq item.report r)
count-push [] item r = omega arith
count-push (x ∷ items) item r = omega (arith, count-push items item r)

places-push : (k : ℕ) (items : List MainItem) (item : MainItem) (r : ℕ) → places_from k r (items ++ item ∷ []) ≡ places_from k r items ++ cond (nat_eq item.report r) ((k + length items) ∷ []) []
places-push k [] item r = ap (λ p. cond (nat_eq item.report r) (p ∷ []) []) (omega arith)
places-push k (x ∷ items) item r =
    let same : (k + 1) + length items ≡ k + suc (length items) = omega arith in
    by_case (nat_eq x.report r) (places-push (k + 1) items item r ∙ ap (λ p. places_from (k + 1) r items ++ cond (nat_eq item.report r) (p ∷ []) []) same)
  where
    by_case : (b : Bool) → places_from (k + 1) r (items ++ item ∷ []) ≡ places_from (k + 1) r items ++ cond (nat_eq item.report r) ((k + suc (length items)) ∷ []) []
        → cond b (k ∷ places_from (k + 1) r (items ++ item ∷ [])) (places_from (k + 1) r (items ++ item ∷ []))
        ≡ cond b (k ∷ places_from (k + 1) r items) (places_from (k + 1) r items) ++ cond (nat_eq item.report r) ((k + suc (length items)) ∷ []) []
    by_case true next = ap (λ l. k ∷ l) next
    by_case false next = next

pub count_next : (items : List MainItem) (i : ℕ) (item : MainItem) (r : ℕ) → slice_get items i ≡ Some item → count_of (take (i + 1) items) r ≡ count_of (take i items) r + one_if (nat_eq item.report r)
count_next items i item r at = ap (λ l. count_of l r) (take_next items i item at) ∙ count-push (take i items) item r

places_next : (items : List MainItem) (i : ℕ) (item : MainItem) (r : ℕ) → i ≤ length items → slice_get items i ≡ Some item
    → places_from 0 r (take (i + 1) items) ≡ places_from 0 r (take i items) ++ cond (nat_eq item.report r) (i ∷ []) []
places_next items i item r le at =
    let same : 0 + length (take i items) ≡ i = omega (arith, length-take-le i items le) in
    ap (places_from 0 r) (take_next items i item at) ∙ places-push 0 (take i items) item r ∙ ap (λ p. places_from 0 r (take i items) ++ cond (nat_eq item.report r) (p ∷ []) []) same

-- the first items of a report are no more than all of them, and those no more than all items
count_take : (items : List MainItem) (i r : ℕ) → count_of (take i items) r ≤ count_of items r
count_take items zero r = omega arith
count_take [] (suc i) r = omega arith
count_take (x ∷ items) (suc i) r = omega (arith, count_take items i r)

one_few : (b : Bool) → one_if b ≤ 1
one_few true = omega arith
one_few false = omega arith

count_few : (items : List MainItem) (r : ℕ) → count_of items r ≤ length items
count_few [] r = omega arith
count_few (x ∷ items) r = omega (arith, count_few items r, one_few (nat_eq x.report r))

own : (n : ℕ) → nat_eq n n ≡ true
own n = grind (arith, nat_tests)

other : (a r : ℕ) → r ≢ a → nat_eq a r ≡ false
other a r d = by_case (nat_eq a r) refl
  where
    by_case : (b : Bool) → nat_eq a r ≡ b → b ≡ false
    by_case true t = absurd (d (grind (arith, nat_tests)))
    by_case false t = refl

one : (n : ℕ) → one_if (nat_eq n n) ≡ 1
one n = ap one_if (own n)

none : (a r : ℕ) → r ≢ a → one_if (nat_eq a r) ≡ 0
none a r d = ap one_if (other a r d)

count_room : (items : List MainItem) (i : ℕ) (item : MainItem) → slice_get items i ≡ Some item → count_of (take i items) item.report + 1 ≤ count_of items item.report
count_room items i item at =
    omega (arith, count_take items (i + 1) item.report, count_next items i item item.report at, one item.report)

-- the items of the first reports are no more than all items
begin-none : (n : ℕ) → begin_of [] n ≡ 0
begin-none zero = refl
begin-none (suc n) = omega (arith, begin-none n)

one_below : (a n : ℕ) → one_if (nat_lt a (suc n)) ≡ one_if (nat_lt a n) + one_if (nat_eq a n)
one_below a n = grind (arith, nat_tests)

begin-cons : (item : MainItem) (items : List MainItem) (n : ℕ) → begin_of (item ∷ items) n ≡ begin_of items n + one_if (nat_lt item.report n)
begin-cons item items zero = grind (arith, nat_tests)
begin-cons item items (suc n) = omega (arith, begin-cons item items n, one_below item.report n)

pub begin_within : (items : List MainItem) (n : ℕ) → begin_of items n ≤ length items
begin_within [] n = omega (arith, begin-none n)
begin_within (x ∷ items) n = omega (arith, begin-cons x items n, begin_within items n, one_few (nat_lt x.report n))

-- reports lie one after the other
begin_behind : (items : List MainItem) (r q : ℕ) → r < q → begin_of items (suc r) ≤ begin_of items q
begin_behind items r zero h = absurd (omega arith)
begin_behind items r (suc q) h = by_case (nat_lt r q) refl (λ lt. begin_behind items r q lt)
  where
    by_case : (b : Bool) → nat_lt r q ≡ b → (r < q → begin_of items (suc r) ≤ begin_of items q) → begin_of items (suc r) ≤ begin_of items (suc q)
    by_case true t before = omega (arith, before (grind (arith, nat_tests)))
    by_case false t before =
        let last : r ≡ q = grind (arith, nat_tests) in
        omega (arith, ap (λ k. begin_of items (suc k)) last)

-- what the loops read where there is no item
abbrev pub no_item : MainItem
no_item = record { report = 0; offset = 0; size = 0; count = 0; flags = record { 0 = 0 }; min = pos 0; max = pos 0; shape = Padding }

-- the item at a place
abbrev pub item_at : List MainItem → ℕ → MainItem
item_at items i = get_or items i no_item

pub item_there : (items : List MainItem) (n i : ℕ) → AreIn n items → i < length items → (item_at items i).report < n
item_there items n i all h = all i (item_at items i) (slice_get-get_or items i no_item h)

-- counting: the counts of the first items, with one item more
count_at : (items : List MainItem) (n i r : ℕ) (counts : List ℕ)
    → counts ≡ map (count_of (take i items)) (numbers_from 0 n) → r < n
    → get_or counts r 0 ≡ count_of (take i items) r
count_at items n i r counts e h = ap (λ l. get_or l r 0) e ∙ made_get (count_of (take i items)) n r 0 h

pub count_small : (items : List MainItem) (n i r : ℕ) (counts : List ℕ)
    → counts ≡ map (count_of (take i items)) (numbers_from 0 n) → r < n → get_or counts r 0 ≤ length items
count_small items n i r counts e h = omega (arith, count_at items n i r counts e h, count_take items i r, count_few items r)

pub count_more : (items : List MainItem) (n i : ℕ) (counts : List ℕ) → AreIn n items → i < length items
    → counts ≡ map (count_of (take i items)) (numbers_from 0 n)
    → set counts (item_at items i).report (get_or counts (item_at items i).report 0 + 1)
    ≡ map (count_of (take (i + 1) items)) (numbers_from 0 n)
count_more items n i counts all h e =
    let item : MainItem = item_at items i in
    let q : ℕ = item.report in
    let at : slice_get items i ≡ Some item = slice_get-get_or items i no_item h in
    ap (λ l. set l q (get_or counts q 0 + 1)) e
    ∙ made_set (count_of (take i items)) (count_of (take (i + 1) items)) n q (get_or counts q 0 + 1)
    (omega (arith, count_at items n i q counts e (item_there items n i all h), count_next items i item q at, one q))
    (λ r d. omega (arith, count_next items i item r at, none q r d))

-- beginning: the first reports have where they begin, the others their counts
abbrev pub begun : List MainItem → ℕ → ℕ → ℕ
begun items i r = cond (nat_lt r i) (begin_of items r) (count_of items r)

pub begun_none : (items : List MainItem) (n : ℕ) (counts : List ℕ) → counts ≡ map (count_of items) (numbers_from 0 n)
    → counts ≡ map (begun items 0) (numbers_from 0 n)
begun_none items n counts e = e ∙ made_same (count_of items) (begun items 0) n (λ r h. grind (arith, nat_tests))

pub begun_at : (items : List MainItem) (n i d : ℕ) (counts : List ℕ) → counts ≡ map (begun items i) (numbers_from 0 n)
    → i < n → get_or counts i d ≡ count_of items i
begun_at items n i d counts e h = ap (λ l. get_or l i d) e ∙ made_get (begun items i) n i d h ∙ grind (arith, nat_tests)

pub begun_more : (items : List MainItem) (n i : ℕ) (counts : List ℕ) (v : ℕ)
    → counts ≡ map (begun items i) (numbers_from 0 n) → v ≡ begin_of items i
    → set counts i v ≡ map (begun items (i + 1)) (numbers_from 0 n)
begun_more items n i counts v e start =
    ap (λ l. set l i v) e ∙ made_set (begun items i) (begun items (i + 1)) n i v (start ∙ ap (λ b. cond b (begin_of items i) (count_of items i)) now) (λ r d. ap (λ b. cond b (begin_of items r) (count_of items r)) (before r d))
  where
    now : true ≡ nat_lt i (i + 1)
    now = grind (arith, nat_tests)

    before : (r : ℕ) → r ≢ i → nat_lt r i ≡ nat_lt r (i + 1)
    before r d = by_case (nat_lt r i) (nat_lt r (i + 1)) refl refl
      where
        by_case : (a b : Bool) → nat_lt r i ≡ a → nat_lt r (i + 1) ≡ b → a ≡ b
        by_case true true s t = refl
        by_case false false s t = refl
        by_case true false s t = absurd (grind (arith, nat_tests))
        by_case false true s t = absurd (d (grind (arith, nat_tests)))

pub begun_all : (items : List MainItem) (n i : ℕ) (counts : List ℕ) → counts ≡ map (begun items i) (numbers_from 0 n)
    → n ≤ i → counts ≡ map (begin_of items) (numbers_from 0 n)
begun_all items n i counts e le = e ∙ made_same (begun items i) (begin_of items) n (λ r h. grind (arith, nat_tests))

-- putting: where the places of each report end, and these themselves, with one item more
end_at : (items first : List MainItem) (n r : ℕ) (ends : List ℕ) → ends ≡ map (end_of items first) (numbers_from 0 n)
    → r < n → get_or ends r 0 ≡ end_of items first r
end_at items first n r ends e h = ap (λ l. get_or l r 0) e ∙ made_get (end_of items first) n r 0 h

-- there is room for one more place of the report of the item at a place
pub end_room : (items : List MainItem) (n i : ℕ) (ends : List ℕ) → AreIn n items → i < length items
    → ends ≡ map (end_of items (take i items)) (numbers_from 0 n)
    → get_or ends (item_at items i).report 0 < length items
end_room items n i ends all h e =
    let q : ℕ = (item_at items i).report in
    omega (arith, end_at items (take i items) n q ends e (item_there items n i all h), count_room items i (item_at items i) (slice_get-get_or items i no_item h), begin_within items (suc q))

pub ends_none : (items : List MainItem) (n : ℕ) (ends : List ℕ) → ends ≡ map (begin_of items) (numbers_from 0 n)
    → ends ≡ map (end_of items (take 0 items)) (numbers_from 0 n)
ends_none items n ends e = e ∙ made_same (begin_of items) (end_of items (take 0 items)) n (λ r h. omega arith)

pub ends_more : (items : List MainItem) (n i : ℕ) (ends : List ℕ) → AreIn n items → i < length items
    → ends ≡ map (end_of items (take i items)) (numbers_from 0 n)
    → set ends (item_at items i).report (get_or ends (item_at items i).report 0 + 1)
    ≡ map (end_of items (take (i + 1) items)) (numbers_from 0 n)
ends_more items n i ends all h e =
    let item : MainItem = item_at items i in
    let q : ℕ = item.report in
    let at : slice_get items i ≡ Some item = slice_get-get_or items i no_item h in
    ap (λ l. set l q (get_or ends q 0 + 1)) e
    ∙ made_set (end_of items (take i items)) (end_of items (take (i + 1) items)) n q (get_or ends q 0 + 1)
    (omega (arith, end_at items (take i items) n q ends e (item_there items n i all h), count_next items i item q at, one q))
    (λ r d. omega (arith, count_next items i item r at, none q r d))

range-none : (xs : List ℕ) (a b : ℕ) → a ≡ b → slice_range xs a b ≡ []
range-none xs a b e =
    let n : b - a ≡ 0 = omega arith in
    ap (λ k. take k (drop a xs)) n

pub put_none : (n : ℕ) (items : List MainItem) (places : List ℕ) → length places ≡ length items → ArePut n items (take 0 items) places
put_none n items places e = record {
  room = e;
  put = λ r h. range-none places (begin_of items r) (end_of items (take 0 items) r) (omega arith);
}

pub put_more : (items : List MainItem) (n i : ℕ) (ends places : List ℕ) → AreIn n items → i < length items
    → ends ≡ map (end_of items (take i items)) (numbers_from 0 n) → ArePut n items (take i items) places
    → ArePut n items (take (i + 1) items) (set places (get_or ends (item_at items i).report 0) i)
put_more items n i ends places all h e p = record {
  room = length-set places (get_or ends (item_at items i).report 0) i ∙ p.room;
  put = λ r lt.
      let item : MainItem = item_at items i in
      let q : ℕ = item.report in
      let at : slice_get items i ≡ Some item = slice_get-get_or items i no_item h in
      let end : get_or ends q 0 ≡ end_of items (take i items) q = end_at items (take i items) n q ends e (item_there items n i all h) in
      let room : get_or ends q 0 < length places = omega (arith, end_room items n i ends all h e, p.room) in
      by_case r (nat_eq q r) refl (p.put r lt) end room (count_room items i item at) (count_next items i item r at) (places_next items i item r (omega (arith, h)) at);
}
  where
    by_case : (r : ℕ) (b : Bool) → nat_eq (item_at items i).report r ≡ b → slice_range places (begin_of items r) (end_of items (take i items) r) ≡ places_from 0 r (take i items)
        → get_or ends (item_at items i).report 0 ≡ end_of items (take i items) (item_at items i).report → get_or ends (item_at items i).report 0 < length places
        → count_of (take i items) (item_at items i).report + 1 ≤ count_of items (item_at items i).report
        → count_of (take (i + 1) items) r ≡ count_of (take i items) r + one_if (nat_eq (item_at items i).report r)
        → places_from 0 r (take (i + 1) items) ≡ places_from 0 r (take i items) ++ cond (nat_eq (item_at items i).report r) (i ∷ []) []
        → slice_range (set places (get_or ends (item_at items i).report 0) i) (begin_of items r) (end_of items (take (i + 1) items) r) ≡ places_from 0 r (take (i + 1) items)
    by_case r true t old end room more count next =
        let k : ℕ = get_or ends (item_at items i).report 0 in
        let same : (item_at items i).report ≡ r = grind (arith, nat_tests) in
        let here : k ≡ end_of items (take i items) r = end ∙ ap (end_of items (take i items)) same in
        let behind : end_of items (take (i + 1) items) r ≡ k + 1 = omega (arith, here, count, ap one_if t) in
        ap (slice_range (set places k i) (begin_of items r)) behind ∙ range-more places (begin_of items r) k i (omega (arith, here)) room
        ∙ ap (λ b. slice_range places (begin_of items r) b ++ i ∷ []) here ∙ ap (λ l. l ++ i ∷ []) old ∙ sym (next ∙ ap (λ b. places_from 0 r (take i items) ++ cond b (i ∷ []) []) t)
    by_case r false t old end room more count next =
        let k : ℕ = get_or ends (item_at items i).report 0 in
        let q : ℕ = (item_at items i).report in
        let first : List MainItem = take i items in
        let still : end_of items (take (i + 1) items) r ≡ end_of items first r = omega (arith, count, ap one_if t) in
        let few : count_of first r ≤ count_of items r = count_take items i r in
        ap (slice_range (set places k i) (begin_of items r)) still
        ∙ apart (nat_lt r q) refl
        (λ lt. range-before places (begin_of items r) (end_of items first r) k i (omega arith) (omega (arith, end, few, begin_behind items r q lt)))
        (λ lt. range-behind places (begin_of items r) (end_of items first r) k i (omega (arith, end, more, begin_behind items q r lt)))
        ∙ old ∙ sym (next ∙ ap (λ b. places_from 0 r first ++ cond b (i ∷ []) []) t ∙ append-nil (places_from 0 r first))
      where
        apart : {P : Type 0} (b : Bool) → nat_lt r (item_at items i).report ≡ b → (r < (item_at items i).report → P) → ((item_at items i).report < r → P) → P
        apart true s before behind = before (grind (arith, nat_tests))
        apart false s before behind = behind (grind (arith, nat_tests))

-- what is kept: where each report begins, the first at 0 and each other where the one before it ends, and the places
abbrev pub kept_of : ℕ → List MainItem → List ℕ → List ℕ
kept_of n items places = (0 ∷ []) ++ (map (end_of items items) (numbers_from 0 n) ++ places)

bound_at : (n : ℕ) (items : List MainItem) (places : List ℕ) (r : ℕ) → r ≤ n → get_or (kept_of n items places) r 0 ≡ begin_of items r
bound_at n items places zero h = refl
bound_at n items places (suc r) h =
    get_or_append_left (map (end_of items items) (numbers_from 0 n)) places 0 r
    (omega (arith, made_length (end_of items items) n _ refl)) ∙ made_get (end_of items items) n r 0 (omega arith)

end_bound : (n : ℕ) (items : List MainItem) (places : List ℕ) (r : ℕ) → r < n → get_or (kept_of n items places) (r + 1) 0 ≡ end_of items items r
end_bound n items places r h =
    let next : r + 1 ≡ suc r = omega arith in
    ap (λ k. get_or (kept_of n items places) k 0) next ∙ bound_at n items places (suc r) (omega arith)

places_behind : (n : ℕ) (items : List MainItem) (places : List ℕ) → drop (n + 1) (kept_of n items places) ≡ places
places_behind n items places =
    let next : n + 1 ≡ suc n = omega arith in
    ap (λ k. drop k (kept_of n items places)) next
    ∙ drop_at (map (end_of items items) (numbers_from 0 n)) places n (made_length (end_of items items) n _ refl)

-- the plans that are kept
pub plans_kept : (n : ℕ) (items : List MainItem) (places : List ℕ) → ArePut n items items places
    → plans_in n (kept_of n items places) ≡ map (λ r. places_from 0 r items) (numbers_from 0 n)
plans_kept n items places p =
    made_same (λ r. slice_range (drop (n + 1) (kept_of n items places)) (get_or (kept_of n items places) r 0) (get_or (kept_of n items places) (r + 1) 0)) (λ r. places_from 0 r items) n
    (λ r h. ap (λ l. slice_range l (get_or (kept_of n items places) r 0) (get_or (kept_of n items places) (r + 1) 0)) (places_behind n items places)
    ∙ ap (λ a. slice_range places a (get_or (kept_of n items places) (r + 1) 0)) (bound_at n items places r (omega (arith, h)))
    ∙ ap (slice_range places (begin_of items r)) (end_bound n items places r h) ∙ p.put r h)

pub are_plans : (n : ℕ) (items : List MainItem) (places : List ℕ) → ArePut n items items places → ArePlans n (kept_of n items places)
are_plans n items places p = record {
  bounds_there = omega (arith, long);
  ordered = λ r h. omega (arith, bound_at n items places r (omega (arith, h)), end_bound n items places r h);
  within = λ r h. omega (arith, long, end_bound n items places r h, begin_within items (suc r), p.room);
}
  where
    long : length (kept_of n items places) ≡ suc n + length places
    long = omega (
      arith,
      length-append (map (end_of items items) (numbers_from 0 n)) places,
      made_length (end_of items items) n _ refl,
    )

-- the places of a report
plans-length : (n : ℕ) (kept : List ℕ) → length (plans_in n kept) ≡ n
plans-length n kept = made_length (λ r. slice_range (drop (n + 1) kept) (get_or kept r 0) (get_or kept (r + 1) 0)) n _ refl

pub report_there : (n : ℕ) (kept : List ℕ) (plans : List (List ℕ)) (r : ℕ) → plans_in n kept ≡ plans → r < length plans → r < n
report_there n kept plans r e h = omega (arith, h, ap length e, plans-length n kept)

pub plan_there : (n : ℕ) (kept : List ℕ) (r : ℕ) → r < n → slice_get (plans_in n kept) r ≡ Some (slice_range (drop (n + 1) kept) (get_or kept r 0) (get_or kept (r + 1) 0))
plan_there n kept r h =
    let f : ℕ → List ℕ = λ k. slice_range (drop (n + 1) kept) (get_or kept k 0) (get_or kept (k + 1) 0) in
    slice_get-map f (numbers_from 0 n) r ∙ ap (option_map f) (numbers_from-get 0 n r h)
    ∙ ap (λ k. Some (f k)) (omega arith)

-- what is kept is made of zeros: one for where the first report begins, and one for each end
pub first_zero : (kept : List ℕ) (size : ℕ) → kept ≡ replicate size 0 → 1 ≤ size → take 1 kept ≡ 0 ∷ []
first_zero kept size e h = ap (take 1) e ∙ take-replicate 1 size 0 h

pub ends_zero : (kept : List ℕ) (size n : ℕ) → kept ≡ replicate size 0 → 1 + n ≤ size
    → take n (drop 1 kept) ≡ map (count_of []) (numbers_from 0 n)
ends_zero kept size n e h =
    ap (λ l. take n (drop 1 l)) e ∙ ap (take n) (drop-replicate 1 size 0) ∙ take-replicate n (size - 1) 0 (omega (arith, h)) ∙ made_zero (count_of []) n (λ r. refl)

-- when all places are put, what is kept are the plans
pub all_put : {Z : Type 0} (v : Vec ℕ Z) (n m : ℕ) (items : List MainItem) (first ends places : List ℕ)
    → v.len ≡ 1 + n + length items → first ≡ 0 ∷ [] → m ≡ n → ends ≡ map (end_of items items) (numbers_from 0 m)
    → ArePut m items items places
    → ArePlans n (with_items v (first ++ (ends ++ places))).items
    × (plans_in n (with_items v (first ++ (ends ++ places))).items
    ≡ map (λ r. places_from 0 r items) (numbers_from 0 n))
all_put v n m items first ends places size f same e p =
    let put : ArePut n items items places = subst (λ k. ArePut k items items places) same p in
    let whole : first ++ (ends ++ places) ≡ kept_of n items places =
    ap (λ l. l ++ (ends ++ places)) f
    ∙ ap (λ l. (0 ∷ []) ++ (l ++ places)) (e ∙ ap (λ k. map (end_of items items) (numbers_from 0 k)) same) in
    let long : length (first ++ (ends ++ places)) ≡ v.len =
    omega (
      arith,
      size,
      ap length whole,
      length-append (map (end_of items items) (numbers_from 0 n)) places,
      made_length (end_of items items) n _ refl,
      put.room,
    ) in
    let kept : (with_items v (first ++ (ends ++ places))).items ≡ kept_of n items places = with_items_is v (first ++ (ends ++ places)) long ∙ whole in
    (subst (ArePlans n) (sym kept) (are_plans n items places put), ap (plans_in n) kept ∙ plans_kept n items places put)

pub bound_in : (n : ℕ) (kept bounds : List ℕ) (r : ℕ) → bounds ≡ take (n + 1) kept → r < n + 1 → get_or bounds r 0 ≡ get_or kept r 0
bound_in n kept bounds r e h = ap (λ l. get_or l r 0) e ∙ get_or-take (n + 1) kept r 0 h
