-- A descriptor is accepted or refused in one way at most.
use Rattle.std.proofs.Common.{◌≡◌, ℕ, ◌+◌, ◌<◌, ◌≤◌, Bool, true, false, List, [], ◌∷◌, ◌++◌, length, drop, reverse, refl, sym, ◌∙◌, ap, subst, arith, Option, Some, None, inl, inr, length-append, append-nil, append_assoc, nat_lt, unwrap_or}
use Rattle.std.specs.Prelude.{All, ◌⊎◌}
use Rattle.std.specs.List.{flat_map}
use Rattle.std.proofs.lemmas.Grind.{flat_map-append}
use Rattle.std.proofs.lemmas.Bool.Decides.{nat_tests}
use Rattle.std.proofs.lemmas.List.{reverse-append, reverse-reverse, append_cancel_left, take-append-drop, length-drop}
use Rattle.std.proofs.lemmas.List.Elements.{All-head, All-tail}
use Rattle.hid_items.specs.ItemEncoding.{IsItemEncoding, IsCut}
use Rattle.hid_report_descriptor.specs.declared.limits.Limits.{Limits}
use Rattle.hid_report_descriptor.specs.declared.fault.Cause.{Cause}
use Rattle.hid_report_descriptor.specs.declared.fault.Cause.TheVariants.{TooLong, Truncated, Unclosed, MixedReportId}
use Rattle.hid_report_descriptor.specs.Items.{EncodedItem}
use Rattle.hid_report_descriptor.specs.Path.{path}
use Rattle.hid_report_descriptor.specs.Faults.{fault_of, AreAccepted, is_mixed, Reaches, IsRefused, IsRefusedAsWhole, Refuses, Accepts}

-- no encoding is the beginning of another
abbrev pub ArePrefixFree : Type 0
ArePrefixFree = (item other more rest : List ℕ) → IsItemEncoding item → IsItemEncoding other → item ++ more ≡ other ++ rest → item ≡ other

abbrev all_of : List EncodedItem → List ℕ
all_of items = flat_map (λ item. item) items

some_bytes : (item : EncodedItem) → IsItemEncoding item → 0 < length item
some_bytes [] s = absurd s
some_bytes (b ∷ bytes) s = omega arith

-- of two lists of items with which some bytes begin, the shorter one stands at the front of the other
front_of : ArePrefixFree → (xs ys : List EncodedItem) (p q : List ℕ) → All IsItemEncoding xs → All IsItemEncoding ys → all_of xs ++ p ≡ all_of ys ++ q → length (all_of xs) ≤ length (all_of ys) → (zs : List EncodedItem) × (ys ≡ xs ++ zs)
front_of free [] ys p q a b e le = (ys, refl)
front_of free (x ∷ xs) [] p q a b e le =
    let n : length (all_of (x ∷ xs)) ≡ length x + length (all_of xs) = length-append x (all_of xs) in
    absurd (omega (arith, n, le, some_bytes x (All-head IsItemEncoding x xs a)))
front_of free (x ∷ xs) (y ∷ ys) p q a b e le =
    let joined : x ++ (all_of xs ++ p) ≡ y ++ (all_of ys ++ q) = sym (append_assoc x (all_of xs) p) ∙ e ∙ append_assoc y (all_of ys) q in
    let first : x ≡ y = free x y (all_of xs ++ p) (all_of ys ++ q) (All-head IsItemEncoding x xs a) (All-head IsItemEncoding y ys b) joined in
    let behind : all_of xs ++ p ≡ all_of ys ++ q = append_cancel_left y (all_of xs ++ p) (all_of ys ++ q) (subst (λ l. l ++ (all_of xs ++ p) ≡ y ++ (all_of ys ++ q)) first joined) in
    let m : length (all_of (x ∷ xs)) ≡ length x + length (all_of xs) = length-append x (all_of xs) in
    let n : length (all_of (y ∷ ys)) ≡ length y + length (all_of ys) = length-append y (all_of ys) in
    let rest = front_of free xs ys p q (All-tail IsItemEncoding x xs a) (All-tail IsItemEncoding y ys b) behind (omega (arith, m, n, le, ap length first)) in
    (rest.0, ap (λ l. y ∷ l) rest.1 ∙ ap (λ h. h ∷ (xs ++ rest.0)) (sym first))

-- the bytes that some reached items take, and the rest
split_at : (limits : Limits) (bytes : List ℕ) (at : ℕ) (before : List EncodedItem) → Reaches limits bytes at before → all_of (reverse before) ++ drop at bytes ≡ bytes
split_at limits bytes at before r = ap (λ l. l ++ drop at bytes) r.items.joined ∙ take-append-drop at bytes

taken : (limits : Limits) (bytes : List ℕ) (at : ℕ) (before : List EncodedItem) → Reaches limits bytes at before → length (all_of (reverse before)) ≡ at
taken limits bytes at before r = omega (arith, ap length (split_at limits bytes at before r), length-append (all_of (reverse before)) (drop at bytes), length-drop at bytes, r.within)

accepted_front : (limits : Limits) (more before : List EncodedItem) → AreAccepted limits (more ++ before) → AreAccepted limits before
accepted_front limits [] before a = a
accepted_front limits (m ∷ more) before a = accepted_front limits more before a.0

-- an item comes next, and it is accepted
abbrev pub GoesOn : Limits → List ℕ → ℕ → List EncodedItem → Type 0
GoesOn limits bytes at before = (item : EncodedItem) × IsItemEncoding item × ((more : List ℕ) × (drop at bytes ≡ item ++ more)) × (fault_of limits before item ≡ None)

All-tail_of : {A : Type 0} (P : A → Type 0) (xs ys : List A) → All P (xs ++ ys) → All P ys
All-tail_of P [] ys a = a
All-tail_of P (x ∷ xs) ys a = All-tail_of P xs ys (All-tail P x (xs ++ ys) a)

-- the items after some others, and what they say of them
goes_on : (limits : Limits) (bytes : List ℕ) (at there : ℕ) (before others zs : List EncodedItem) (z : EncodedItem) → Reaches limits bytes at before → Reaches limits bytes there others → reverse others ≡ reverse before ++ z ∷ zs → GoesOn limits bytes at before
goes_on limits bytes at there before others zs z r s e =
    let all : All IsItemEncoding (reverse before ++ z ∷ zs) = subst (All IsItemEncoding) e s.items.encoded in
    let encoded : IsItemEncoding z = All-head IsItemEncoding z zs (All-tail_of IsItemEncoding (reverse before) (z ∷ zs) all) in
    let behind : others ≡ reverse zs ++ z ∷ before = sym (reverse-reverse others) ∙ ap reverse e ∙ reverse-append (reverse before) (z ∷ zs) ∙ ap (λ l. reverse (z ∷ zs) ++ l) (reverse-reverse before) ∙ ap (λ l. l ++ before) (reverse-append (z ∷ []) zs) ∙ append_assoc (reverse zs) (z ∷ []) before in
    let accepted : AreAccepted limits (z ∷ before) = accepted_front limits (reverse zs) (z ∷ before) (subst (AreAccepted limits) behind s.accepted) in
    let whole : all_of (reverse before) ++ drop at bytes ≡ all_of (reverse before) ++ (z ++ (all_of zs ++ drop there bytes)) =
    split_at limits bytes at before r ∙ sym (split_at limits bytes there others s) ∙ ap (λ l. all_of l ++ drop there bytes) e ∙ ap (λ l. l ++ drop there bytes) (flat_map-append (λ item. item) (reverse before) (z ∷ zs))
    ∙ append_assoc (all_of (reverse before)) (z ++ all_of zs) (drop there bytes) ∙ ap (λ l. all_of (reverse before) ++ l) (append_assoc z (all_of zs) (drop there bytes)) in
    (z, encoded, (all_of zs ++ drop there bytes, append_cancel_left (all_of (reverse before)) (drop at bytes) (z ++ (all_of zs ++ drop there bytes)) whole), accepted.1)

-- items that reach less far go on
reaches_on : (limits : Limits) → ArePrefixFree → (bytes : List ℕ) (at there : ℕ) (before others : List EncodedItem) → Reaches limits bytes at before → Reaches limits bytes there others → at ≤ there → ((at ≡ there) × (before ≡ others)) ⊎ GoesOn limits bytes at before
reaches_on limits free bytes at there before others r s le =
    let front = front_of free (reverse before) (reverse others) (drop at bytes) (drop there bytes) r.items.encoded s.items.encoded (split_at limits bytes at before r ∙ sym (split_at limits bytes there others s)) (omega (arith, le, taken limits bytes at before r, taken limits bytes there others s)) in
    by_case front.0 front.1
  where
    by_case : (zs : List EncodedItem) → reverse others ≡ reverse before ++ zs → ((at ≡ there) × (before ≡ others)) ⊎ GoesOn limits bytes at before
    by_case [] e =
        let same : before ≡ others = sym (reverse-reverse before) ∙ ap reverse (sym (e ∙ append-nil (reverse before))) ∙ reverse-reverse others in
        inl (sym (taken limits bytes at before r) ∙ ap (λ l. length (all_of (reverse l))) same ∙ taken limits bytes there others s, same)
    by_case (z ∷ zs) e = inr (goes_on limits bytes at there before others zs z r s e)

-- no accepted item follows
abbrev pub Stops : Limits → List ℕ → ℕ → List EncodedItem → Type 0
Stops limits bytes at before = GoesOn limits bytes at before → ⊥

-- accepted items stop at one place
pub one_stop : (limits : Limits) → ArePrefixFree → (bytes : List ℕ) (at there : ℕ) (before others : List EncodedItem) → Reaches limits bytes at before → Reaches limits bytes there others → Stops limits bytes at before → Stops limits bytes there others → (at ≡ there) × (before ≡ others)
one_stop limits free bytes at there before others r s p q = by_order (le_total at there)
  where
    le_total : (m n : ℕ) → (m ≤ n) ⊎ (n ≤ m)
    le_total m n = by_test (nat_lt n m) refl
      where
        by_test : (b : Bool) → nat_lt n m ≡ b → (m ≤ n) ⊎ (n ≤ m)
        by_test true e = inr (grind (arith, nat_tests))
        by_test false e = inl (grind (arith, nat_tests))

    first : ((at ≡ there) × (before ≡ others)) ⊎ GoesOn limits bytes at before → (at ≡ there) × (before ≡ others)
    first (inl same) = same
    first (inr on) = absurd (p on)

    second : ((there ≡ at) × (others ≡ before)) ⊎ GoesOn limits bytes there others → (at ≡ there) × (before ≡ others)
    second (inl same) = (sym same.0, sym same.1)
    second (inr on) = absurd (q on)

    by_order : (at ≤ there) ⊎ (there ≤ at) → (at ≡ there) × (before ≡ others)
    by_order (inl le) = first (reaches_on limits free bytes at there before others r s le)
    by_order (inr le) = second (reaches_on limits free bytes there at others before s r le)

-- why no accepted item follows some accepted ones
pub data Why (limits : Limits) (bytes : List ℕ) (cause : Cause) (at : ℕ) (before : List EncodedItem) : Type 0 where
  at_item : (item : EncodedItem) → IsRefused limits bytes cause at before item → Why limits bytes cause at before
  cut : cause ≡ Truncated → Reaches limits bytes at before → IsCut (drop at bytes) → Why limits bytes cause at before
  unclosed : cause ≡ Unclosed → Reaches limits bytes at before → at ≡ length bytes → 0 < length (path before) → Why limits bytes cause at before
  mixed : cause ≡ MixedReportId → Reaches limits bytes at before → at ≡ length bytes → length (path before) ≡ 0 → is_mixed before ≡ true → Why limits bytes cause at before

why_reaches : (limits : Limits) (bytes : List ℕ) (cause : Cause) (at : ℕ) (before : List EncodedItem) → Why limits bytes cause at before → Reaches limits bytes at before
why_reaches limits bytes cause at before (at_item item r) = r.reaches
why_reaches limits bytes cause at before (cut c r e) = r
why_reaches limits bytes cause at before (unclosed c r l o) = r
why_reaches limits bytes cause at before (mixed c r l o m) = r

none_left : (bytes : List ℕ) (at : ℕ) (item more : List ℕ) → at ≡ length bytes → IsItemEncoding item → drop at bytes ≡ item ++ more → ⊥
none_left bytes at item more l s e = omega (arith, l, ap length e, length-drop at bytes, length-append item more, some_bytes item s)

not_both : (o : Option Cause) (cause : Cause) → o ≡ Some cause → o ≡ None → ⊥
not_both o cause a b = cc

why_stops : (limits : Limits) → ArePrefixFree → (bytes : List ℕ) (cause : Cause) (at : ℕ) (before : List EncodedItem) → Why limits bytes cause at before → Stops limits bytes at before
why_stops limits free bytes cause at before (at_item item r) (z, encoded, next, accepted) =
    let same : item ≡ z = free item z r.next.0 next.0 r.encoded encoded (sym r.next.1 ∙ next.1) in
    not_both (fault_of limits before z) cause (ap (fault_of limits before) (sym same) ∙ r.fault) accepted
why_stops limits free bytes cause at before (cut c r e) (z, encoded, next, accepted) = e.none z next.0 encoded next.1
why_stops limits free bytes cause at before (unclosed c r l o) (z, encoded, next, accepted) = none_left bytes at z next.0 l encoded next.1
why_stops limits free bytes cause at before (mixed c r l o m) (z, encoded, next, accepted) = none_left bytes at z next.0 l encoded next.1

-- at one place there is one cause
one_why : (limits : Limits) → ArePrefixFree → (bytes : List ℕ) (cause other : Cause) (at : ℕ) (before : List EncodedItem) → Why limits bytes cause at before → Why limits bytes other at before → cause ≡ other
one_why limits free bytes cause other at before (at_item item r) (at_item z s) =
    let same : item ≡ z = free item z r.next.0 s.next.0 r.encoded s.encoded (sym r.next.1 ∙ s.next.1) in
    let e : Some cause ≡ Some other = sym r.fault ∙ ap (fault_of limits before) same ∙ s.fault in
    ap (λ o. unwrap_or o cause) e
one_why limits free bytes cause other at before (at_item item r) (cut c s e) = absurd (e.none item r.next.0 r.encoded r.next.1)
one_why limits free bytes cause other at before (at_item item r) (unclosed c s l o) = absurd (none_left bytes at item r.next.0 l r.encoded r.next.1)
one_why limits free bytes cause other at before (at_item item r) (mixed c s l o m) = absurd (none_left bytes at item r.next.0 l r.encoded r.next.1)
one_why limits free bytes cause other at before (cut c r e) (at_item item s) = absurd (e.none item s.next.0 s.encoded s.next.1)
one_why limits free bytes cause other at before (cut c r e) (cut d s f) = c ∙ sym d
one_why limits free bytes cause other at before (cut c r e) (unclosed d s l o) = absurd (omega (arith, l, e.some, length-drop at bytes))
one_why limits free bytes cause other at before (cut c r e) (mixed d s l o m) = absurd (omega (arith, l, e.some, length-drop at bytes))
one_why limits free bytes cause other at before (unclosed c r l o) (at_item item s) = absurd (none_left bytes at item s.next.0 l s.encoded s.next.1)
one_why limits free bytes cause other at before (unclosed c r l o) (cut d s e) = absurd (omega (arith, l, e.some, length-drop at bytes))
one_why limits free bytes cause other at before (unclosed c r l o) (unclosed d s k p) = c ∙ sym d
one_why limits free bytes cause other at before (unclosed c r l o) (mixed d s k p m) = absurd (omega (arith, o, p))
one_why limits free bytes cause other at before (mixed c r l o m) (at_item item s) = absurd (none_left bytes at item s.next.0 l s.encoded s.next.1)
one_why limits free bytes cause other at before (mixed c r l o m) (cut d s e) = absurd (omega (arith, l, e.some, length-drop at bytes))
one_why limits free bytes cause other at before (mixed c r l o m) (unclosed d s k p) = absurd (omega (arith, o, p))
one_why limits free bytes cause other at before (mixed c r l o m) (mixed d s k p n) = c ∙ sym d

abbrev IsLong : List ℕ → Cause → ℕ → Type 0
IsLong bytes cause at = (cause ≡ TooLong) × (at ≡ 4096) × (4096 < length bytes)

whole_why : (limits : Limits) (bytes : List ℕ) (cause : Cause) (at : ℕ) → IsRefusedAsWhole limits bytes cause at → IsLong bytes cause at ⊎ ((before : List EncodedItem) × Why limits bytes cause at before)
whole_why limits bytes TooLong at w = inl (refl, w.1, w.0)
whole_why limits bytes Truncated at w = inr (w.0, cut refl w.1 w.2)
whole_why limits bytes Unclosed at w = inr (w.0, unclosed refl w.1 w.2 w.3)
whole_why limits bytes MixedReportId at w = inr (w.0, mixed refl w.1 w.2 w.3 w.4)
whole_why limits bytes cause at w = absurd w

refusal_why : (limits : Limits) (bytes : List ℕ) (cause : Cause) (at : ℕ) → Refuses limits bytes cause at → IsLong bytes cause at ⊎ ((before : List EncodedItem) × Why limits bytes cause at before)
refusal_why limits bytes cause at (inl (before, item, r)) = inr (before, at_item item r)
refusal_why limits bytes cause at (inr w) = whole_why limits bytes cause at w

same_refusal : (limits : Limits) → ArePrefixFree → (bytes : List ℕ) (cause other : Cause) (at there : ℕ) → IsLong bytes cause at ⊎ ((before : List EncodedItem) × Why limits bytes cause at before) → IsLong bytes other there ⊎ ((before : List EncodedItem) × Why limits bytes other there before) → (cause ≡ other) × (at ≡ there)
same_refusal limits free bytes cause other at there (inl long) (inl too) = (long.0 ∙ sym too.0, long.1 ∙ sym too.1)
same_refusal limits free bytes cause other at there (inl long) (inr (others, w)) = absurd (omega (arith, long.2, (why_reaches limits bytes other there others w).short))
same_refusal limits free bytes cause other at there (inr (before, w)) (inl long) = absurd (omega (arith, long.2, (why_reaches limits bytes cause at before w).short))
same_refusal limits free bytes cause other at there (inr (before, w)) (inr (others, v)) =
    let stop = one_stop limits free bytes at there before others (why_reaches limits bytes cause at before w) (why_reaches limits bytes other there others v) (why_stops limits free bytes cause at before w) (why_stops limits free bytes other there others v) in
    (one_why limits free bytes cause other there others (subst (λ n. Why limits bytes cause n others) stop.0 (subst (λ b. Why limits bytes cause at b) stop.1 w)) v, stop.0)

pub one_refusal : (limits : Limits) → ArePrefixFree → (bytes : List ℕ) (cause other : Cause) (at there : ℕ) → Refuses limits bytes cause at → Refuses limits bytes other there → (cause ≡ other) × (at ≡ there)
one_refusal limits free bytes cause other at there r s = same_refusal limits free bytes cause other at there (refusal_why limits bytes cause at r) (refusal_why limits bytes other there s)

-- all items of an accepted descriptor are there
accepted_stops : (limits : Limits) (bytes : List ℕ) (before : List EncodedItem) → Accepts limits bytes before → Stops limits bytes (length bytes) before
accepted_stops limits bytes before a (z, encoded, next, accepted) = none_left bytes (length bytes) z next.0 refl encoded next.1

pub one_list : (limits : Limits) → ArePrefixFree → (bytes : List ℕ) (before others : List EncodedItem) → Accepts limits bytes before → Accepts limits bytes others → before ≡ others
one_list limits free bytes before others a b = (one_stop limits free bytes (length bytes) (length bytes) before others a.reaches b.reaches (accepted_stops limits bytes before a) (accepted_stops limits bytes others b)).1

no_why : (limits : Limits) → ArePrefixFree → (bytes : List ℕ) (cause : Cause) (before : List EncodedItem) → Accepts limits bytes before → Why limits bytes cause (length bytes) before → ⊥
no_why limits free bytes cause before a (at_item item r) = none_left bytes (length bytes) item r.next.0 refl r.encoded r.next.1
no_why limits free bytes cause before a (cut c r e) = omega (arith, e.some, length-drop (length bytes) bytes)
no_why limits free bytes cause before a (unclosed c r l o) = omega (arith, o, a.closed)
no_why limits free bytes cause before a (mixed c r l o m) = true_not_false (sym m ∙ a.unmixed)
  where
    true_not_false : true ≡ false → ⊥
    true_not_false e = cc

pub no_refusal : (limits : Limits) → ArePrefixFree → (bytes : List ℕ) (before : List EncodedItem) (cause : Cause) (at : ℕ) → Accepts limits bytes before → Refuses limits bytes cause at → ⊥
no_refusal limits free bytes before cause at a r = by_why (refusal_why limits bytes cause at r)
  where
    by_why : IsLong bytes cause at ⊎ ((others : List EncodedItem) × Why limits bytes cause at others) → ⊥
    by_why (inl long) = omega (arith, long.2, a.reaches.short)
    by_why (inr (others, w)) =
        let stop = one_stop limits free bytes at (length bytes) others before (why_reaches limits bytes cause at others w) a.reaches (why_stops limits free bytes cause at others w) (accepted_stops limits bytes before a) in
        no_why limits free bytes cause before a (subst (λ n. Why limits bytes cause n before) stop.0 (subst (λ b. Why limits bytes cause at b) stop.1 w))
