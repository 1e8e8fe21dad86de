-- The elements of a variable item are read in place, one after another, and each tells its change.
use Rattle.std.proofs.Common.{Vec, vec_len, vec_capacity, ◌≡◌, ℕ, zero, suc, ◌+◌, ◌-◌, ◌<◌, ◌≤◌, inl, inr, not, Bool, true, false, Option, ℤ, List, [], ◌++◌, length, take, drop, Some, None, refl, sym, ap, ◌∙◌, subst, arith}
use Rattle.std.specs.List.{slice_get, slice_set, zip}
use Rattle.hid_report_descriptor.specs.declared.usage.Usage.{Usage}
use Rattle.hid_snapshots.specs.declared.event.Event.{Event}
use Rattle.hid_snapshots.specs.Events.{control_at, element_list_events, switch_event, value_event}
use Rattle.hid_layout.specs.declared.control.ControlId.{ControlId}
use Rattle.std.specs.Ordering.{int_eq}
use Rattle.std.proofs.lemmas.Bool.Decides.{Decides-int_eq}
use Rattle.hid_snapshots.proofs.FillLemmas.{filled, length_map_zip, map_zip_at, set_length, zip_next, zip_there}
use Rattle.hid_usages.specs.Appending.{Appends}
use Rattle.hid_snapshots.proofs.ItemLemmas.{got, set_here, set_same, set_there}
use Rattle.hid_usages.specs.declared.elements.Carriable.{Carriable}
use Rattle.hid_usages.specs.Elements.{switch_by_number, value_by_number, read_all}
use Rattle.hid_usages.specs.Keeping.{AreKept, FindsKept}
use Rattle.std.specs.Bool.{beq}
use Rattle.std.specs.Option.{option_eq}
use Rattle.std.proofs.lemmas.Bool.{cases_Bool, cases_lt}
use Rattle.hid_usages.proofs.EventLemmas.{all_appended, each_end, element_list_events-from, no_switch, nothing_appended, room_for, room_left, told, zip_at}

-- what is left to be told from an element on
abbrev pub left_from : {A : Type 0} → (A × ℤ → A) → (ℕ → Usage → A × A → List Event) → List Usage → List A → List ℤ → ℕ → List Event
left_from read tell us start numbers i =
    element_list_events tell i (drop i us) (drop i (zip start (read_all read start numbers)))

-- the first elements are read, and have told their events
pub record AreTaken {A : Type 0} (read : A × ℤ → A) (tell : ℕ → Usage → A × A → List Event) (us : List Usage) (start : List A) (numbers : List ℤ) (now : List A) (all done : List Event) (len room i : ℕ) : Type 0 where
  pub so_far : now ≡ take i (read_all read start numbers) ++ drop i start
  pub same_length : length now ≡ length start
  pub events : done ++ left_from read tell us start numbers i ≡ all
  pub fits : len + length (left_from read tell us start numbers i) ≤ room

-- the element that is read next, as it was and as its number leaves it
pub one_taken : {A : Type 0} (read : A × ℤ → A) (start now : List A) (numbers : List ℤ) (i : ℕ) (b : A) (v : ℤ) → length start ≡ length numbers
    → now ≡ take i (read_all read start numbers) ++ drop i start → slice_get now i ≡ Some b → slice_get numbers i ≡ Some v
    → slice_get (zip start (read_all read start numbers)) i ≡ Some (b, read (b, v))
one_taken read start now numbers i b v same so_far here number =
    let there = zip_there read start now numbers i b same so_far here in
    zip_at start (read_all read start numbers) i b (read (b, v)) there (map_zip_at read start numbers i b v (read (b, v)) there number refl)

-- what is left to be told begins with what it tells
pub left_next : {A : Type 0} (read : A × ℤ → A) (tell : ℕ → Usage → A × A → List Event) (us : List Usage) (start now : List A) (numbers : List ℤ) (i : ℕ) (u : Usage) (b : A) (v : ℤ) → length start ≡ length numbers
    → now ≡ take i (read_all read start numbers) ++ drop i start → slice_get us i ≡ Some u → slice_get now i ≡ Some b → slice_get numbers i ≡ Some v
    → left_from read tell us start numbers i ≡ tell i u (b, read (b, v)) ++ left_from read tell us start numbers (i + 1)
left_next read tell us start now numbers i u b v same so_far usage here number =
    element_list_events-from tell us (zip start (read_all read start numbers)) i u (b, read (b, v)) usage
    (one_taken read start now numbers i b v same so_far here number)

-- there is room for it
pub room_next : {A : Type 0} (read : A × ℤ → A) (tell : ℕ → Usage → A × A → List Event) (us : List Usage) (start now : List A) (numbers : List ℤ) (all done : List Event) (len room i : ℕ) (u : Usage) (b : A) (v : ℤ) → length start ≡ length numbers
    → AreTaken read tell us start numbers now all done len room i → slice_get us i ≡ Some u → slice_get now i ≡ Some b → slice_get numbers i ≡ Some v
    → len + length (tell i u (b, read (b, v))) ≤ room
room_next read tell us start now numbers all done len room i u b v same taken usage here number =
    room_for len room _ (tell i u (b, read (b, v))) _ (left_next read tell us start now numbers i u b v same taken.so_far usage here number) taken.fits

-- one element more is read
pub taken_next : {A : Type 0} {Z : Type 0} (read : A × ℤ → A) (tell : ℕ → Usage → A × A → List Event) (us : List Usage) (start now new : List A) (numbers : List ℤ) (all : List Event) (out out' : Vec Event Z) (i : ℕ) (u : Usage) (b : A) (v : ℤ) → length start ≡ length numbers
    → AreTaken read tell us start numbers now all out.items (vec_len out) (vec_capacity out) i → slice_get us i ≡ Some u → slice_get now i ≡ Some b → slice_get numbers i ≡ Some v → i < length start
    → new ≡ slice_set now i (read (b, v)) → Appends out (tell i u (b, read (b, v))) out'
    → AreTaken read tell us start numbers new all out'.items (vec_len out') (vec_capacity out') (i + 1)
taken_next read tell us start now new numbers all out out' i u b v same taken usage here number within is appends =
    let step = left_next read tell us start now numbers i u b v same taken.so_far usage here number in
    record {
      so_far = is ∙ zip_next read start now numbers i b v (read (b, v)) same taken.so_far here number within refl;
      same_length = ap length is ∙ set_length now i (read (b, v)) ∙ taken.same_length;
      events = told _ _ _ _ _ _ step taken.events appends.items;
      fits = room_left _ _ _ _ _ _ _ step taken.fits appends.len appends.room;
    }

-- an element that stays tells nothing
pub switch_stays : (c : ControlId) (u : Usage) (x : Bool) → switch_event c u x x ≡ []
switch_stays c u x = no_switch c u x x refl

pub value_stays : (c : ControlId) (u : Usage) (x : Option ℤ) → value_event c u x x ≡ []
value_stays c u None = refl
value_stays c u (Some v) =
    let same : int_eq v v ≡ true = (Decides-int_eq v v).1 refl in
    rw same refl

-- elements that stay, and tell nothing, are passed over
pub taken_over : {A : Type 0} {Z : Type 0} (read : A × ℤ → A) (tell : ℕ → Usage → A × A → List Event) (us : List Usage) (start now : List A) (numbers : List ℤ) (all : List Event) (out : Vec Event Z) (i n : ℕ) → length start ≡ length numbers → length us ≡ length start
    → i + n ≤ length start → ((j : ℕ) (u : Usage) (x : A) → tell j u (x, x) ≡ []) → AreKept read now numbers i (i + n)
    → AreTaken read tell us start numbers now all out.items (vec_len out) (vec_capacity out) i → AreTaken read tell us start numbers now all out.items (vec_len out) (vec_capacity out) (i + n)
taken_over read tell us start now numbers all out i zero same long within quiet kept taken =
    let e : i ≡ i + 0 = omega arith in
    subst (λ (k : ℕ). AreTaken read tell us start numbers now all out.items (vec_len out) (vec_capacity out) k) e taken
taken_over read tell us start now numbers all out i (suc n) same long within quiet kept taken =
    let e : (i + 1) + n ≡ i + suc n = omega arith in
    let u = got us i (omega arith) in
    let b = got now i (omega (arith, taken.same_length)) in
    let v = got numbers i (omega arith) in
    let stays = kept i b.0 v.0 (omega arith) (omega arith) b.1 v.1 in
    let is = sym (set_same now i b.0 b.1) ∙ ap (λ x. slice_set now i x) (sym stays) in
    let none = ap (λ x. tell i u.0 (b.0, x)) stays ∙ quiet i u.0 b.0 in
    let next = taken_next read tell us start now now numbers all out out i u.0 b.0 v.0 same taken u.1 b.1 v.1 (omega arith) is (nothing_appended out _ none) in
    subst (λ (k : ℕ). AreTaken read tell us start numbers now all out.items (vec_len out) (vec_capacity out) k) e
    (taken_over read tell us start now numbers all out (i + 1) n same long (omega arith) quiet (λ j x w a l h g. kept j x w (omega arith) (omega arith) h g) next)

-- up to the next element that its number changes
taken_to : {A : Type 0} {Z : Type 0} (read : A × ℤ → A) (tell : ℕ → Usage → A × A → List Event) (us : List Usage) (start now : List A) (numbers : List ℤ) (all : List Event) (out : Vec Event Z) (i k : ℕ) → length start ≡ length numbers → length us ≡ length start
    → i ≤ k → k ≤ length start → ((j : ℕ) (u : Usage) (x : A) → tell j u (x, x) ≡ []) → AreKept read now numbers i k
    → AreTaken read tell us start numbers now all out.items (vec_len out) (vec_capacity out) i → AreTaken read tell us start numbers now all out.items (vec_len out) (vec_capacity out) k
taken_to read tell us start now numbers all out i k same long low within quiet kept taken =
    let e : i + (k - i) ≡ k = omega arith in
    subst (λ (j : ℕ). AreTaken read tell us start numbers now all out.items (vec_len out) (vec_capacity out) j) e
    (taken_over read tell us start now numbers all out i (k - i) same long (omega arith) quiet (λ j x w a l h g. kept j x w a (omega arith) h g) taken)

-- all elements are read
all_taken : {A : Type 0} {Z : Type 0} (read : A × ℤ → A) (tell : ℕ → Usage → A × A → List Event) (us : List Usage) (start now : List A) (numbers : List ℤ) (all : List Event) (before out : Vec Event Z) (i : ℕ) → length start ≡ length numbers → i ≡ length start → length us ≤ i
    → AreTaken read tell us start numbers now (before.items ++ all) out.items (vec_len out) (vec_capacity out) i → vec_capacity out ≡ vec_capacity before
    → (now ≡ read_all read start numbers) × Appends before all out
all_taken read tell us start now numbers all before out i same done past taken room =
    let len : length (read_all read start numbers) ≡ length start = length_map_zip read start numbers (sym same) in (
      taken.so_far ∙ filled (read_all read start numbers) start i (omega (arith, len)) (sym len),
      all_appended before out _ all (each_end tell us (drop i (zip start (read_all read start numbers))) i past) taken.events room,
    )

-- elements have a usage and a number each, and one that its number leaves as it is tells nothing
pub record AreReadable {A : Type 0} (read : A × ℤ → A) (tell : ℕ → Usage → A × A → List Event) (us : List Usage) (start : List A) (numbers : List ℤ) : Type 0 where
  pub same : length start ≡ length numbers
  pub long : length us ≡ length start
  pub quiet : (j : ℕ) (u : Usage) (x : A) → tell j u (x, x) ≡ []

pub switches_readable : (item : ℕ) (us : List Usage) (start : List Bool) (numbers : List ℤ) → length numbers ≡ length us → length start ≡ length us
    → AreReadable switch_by_number (λ j u p. switch_event (control_at item j) u p.0 p.1) us start numbers
switches_readable item us start numbers same long = record { same = long ∙ sym same; long = sym long; quiet = λ j u x. switch_stays (control_at item j) u x }

pub values_readable : (carriable : Carriable) (item : ℕ) (us : List Usage) (start : List (Option ℤ)) (numbers : List ℤ) → length numbers ≡ length us → length start ≡ length us
    → AreReadable (value_by_number carriable) (λ j u p. value_event (control_at item j) u p.0 p.1) us start numbers
values_readable carriable item us start numbers same long = record { same = long ∙ sym same; long = sym long; quiet = λ j u x. value_stays (control_at item j) u x }

-- the elements before one are read, and have told their events into the room that was there
pub record IsReading {A : Type 0} {Z : Type 0} (read : A × ℤ → A) (tell : ℕ → Usage → A × A → List Event) (us : List Usage) (start : List A) (numbers : List ℤ) (before : Vec Event Z) (all : List Event) (now : List A) (out : Vec Event Z) (i : ℕ) : Type 0 where
  pub taken : AreTaken read tell us start numbers now (before.items ++ all) out.items (vec_len out) (vec_capacity out) i
  pub within : i ≤ length start
  pub same_room : vec_capacity out ≡ vec_capacity before

-- the element that comes next
pub found_here : {A : Type 0} (read : A × ℤ → A) (held : List A) (numbers : List ℤ) (k : ℕ) → k < length held → FindsKept read held numbers k (length held) (Some k)
found_here read held numbers k within = (omega arith, within, λ j x v low high. absurd (omega arith))

-- up to an element that is found, those before it are read
found_next : {A : Type 0} {Z : Type 0} (read : A × ℤ → A) (tell : ℕ → Usage → A × A → List Event) (us : List Usage) (start : List A) (numbers : List ℤ) → AreReadable read tell us start numbers
    → (before : Vec Event Z) (all : List Event) (now : List A) (out : Vec Event Z) (i k : ℕ) → FindsKept read now numbers i (length now) (Some k)
    → IsReading read tell us start numbers before all now out i
    → AreTaken read tell us start numbers now (before.items ++ all) out.items (vec_len out) (vec_capacity out) k
found_next read tell us start numbers can before all now out i k found so_far =
    taken_to read tell us start now numbers (before.items ++ all) out i k can.same can.long found.0 (omega (arith, found.1, so_far.taken.same_length)) can.quiet found.2 so_far.taken

-- there is room for the event of the element that is found
pub room_found : {A : Type 0} {Z : Type 0} (read : A × ℤ → A) (tell : ℕ → Usage → A × A → List Event) (us : List Usage) (start : List A) (numbers : List ℤ) → AreReadable read tell us start numbers
    → (before : Vec Event Z) (all : List Event) (now : List A) (out : Vec Event Z) (i k : ℕ) (u : Usage) (b : A) (v : ℤ) → FindsKept read now numbers i (length now) (Some k)
    → IsReading read tell us start numbers before all now out i → slice_get us k ≡ Some u → slice_get now k ≡ Some b → slice_get numbers k ≡ Some v
    → vec_len out + length (tell k u (b, read (b, v))) ≤ vec_capacity out
room_found read tell us start numbers can before all now out i k u b v found so_far usage here number =
    room_next read tell us start now numbers (before.items ++ all) out.items (vec_len out) (vec_capacity out) k u b v can.same
    (found_next read tell us start numbers can before all now out i k found so_far) usage here number

-- the element that is found is read
pub reading_found : {A : Type 0} {Z : Type 0} (read : A × ℤ → A) (tell : ℕ → Usage → A × A → List Event) (us : List Usage) (start : List A) (numbers : List ℤ) → AreReadable read tell us start numbers
    → (before : Vec Event Z) (all : List Event) (now new : List A) (out out' : Vec Event Z) (i k : ℕ) (v : ℤ) → FindsKept read now numbers i (length now) (Some k)
    → IsReading read tell us start numbers before all now out i → slice_get numbers k ≡ Some v
    → ((b : A) → slice_get now k ≡ Some b → new ≡ slice_set now k (read (b, v)))
    → ((u : Usage) (b : A) → slice_get us k ≡ Some u → slice_get now k ≡ Some b → Appends out (tell k u (b, read (b, v))) out')
    → IsReading read tell us start numbers before all new out' (k + 1)
reading_found read tell us start numbers can before all now new out out' i k v found so_far number is appends =
    let inside : k < length start = omega (arith, found.1, so_far.taken.same_length) in
    let u = got us k (omega (arith, can.long)) in
    let b = got now k found.1 in
    let told = appends u.0 b.0 u.1 b.1 in
    record {
      taken = taken_next read tell us start now new numbers (before.items ++ all) out out' k u.0 b.0 v can.same
          (found_next read tell us start numbers can before all now out i k found so_far) u.1 b.1 number inside (is b.0 b.1) told;
      within = omega arith;
      same_room = told.room ∙ so_far.same_room;
    }

-- where none is found, all elements are read
pub reading_done : {A : Type 0} {Z : Type 0} (read : A × ℤ → A) (tell : ℕ → Usage → A × A → List Event) (us : List Usage) (start : List A) (numbers : List ℤ) → AreReadable read tell us start numbers
    → (before : Vec Event Z) (all : List Event) (now : List A) (out : Vec Event Z) (i : ℕ) → FindsKept read now numbers i (length now) None
    → IsReading read tell us start numbers before all now out i
    → (now ≡ read_all read start numbers) × Appends before all out
reading_done read tell us start numbers can before all now out i kept so_far =
    let len = so_far.taken.same_length in
    let taken = taken_to read tell us start now numbers (before.items ++ all) out i (length now) can.same can.long (omega (arith, so_far.within, len)) (omega (arith, len)) can.quiet kept so_far.taken in
    all_taken read tell us start now numbers all before out (length now) can.same len (omega (arith, can.long, len)) taken so_far.same_room

-- elements that their numbers leave are read already
pub reading_begun : {A : Type 0} {Z : Type 0} (read : A × ℤ → A) (tell : ℕ → Usage → A × A → List Event) (us : List Usage) (start : List A) (numbers : List ℤ) → AreReadable read tell us start numbers
    → (before : Vec Event Z) (all : List Event) (i : ℕ) → i ≤ length start → AreKept read start numbers 0 i → IsReading read tell us start numbers before all start before 0
    → IsReading read tell us start numbers before all start before i
reading_begun read tell us start numbers can before all i within kept begun = record {
  taken = taken_to read tell us start start numbers (before.items ++ all) before 0 i can.same can.long (omega arith) within can.quiet kept begun.taken;
  within = within;
  same_room = begun.same_room;
}

-- elements that are kept are kept once one of them is read
pub kept_set : {A : Type 0} (read : A × ℤ → A) (held new : List A) (numbers : List ℤ) (k from : ℕ) (v : ℤ) → k < length held → slice_get numbers k ≡ Some v
    → ((b : A) → slice_get held k ≡ Some b → new ≡ slice_set held k (read (b, v))) → AreKept read held numbers from (length held) → AreKept read new numbers from (length new)
kept_set {A = A} read held new numbers k from v within number is kept = λ j x w low high h g.
    let b = got held k within in
    let set = is b.0 b.1 in
    let len : length new ≡ length held = ap length set ∙ set_length held k (read (b.0, v)) in
    let inside : j < length held = omega arith in
    let other : (k ≡ j → ⊥) → read (x, w) ≡ x = λ ne. kept j x w low inside (sym (set_there held k j (read (b.0, v)) ne) ∙ sym (ap (λ (l : List A). slice_get l j) set) ∙ h) g in
    elim (cases_lt j k) [
      | inl lt ↦ other (λ e. omega arith)
      | inr ge ↦ elim (cases_lt k j) [
        | inl gt ↦ other (λ e. omega arith)
        | inr le ↦
            let e : j ≡ k = omega arith in
            let from_k : from ≤ k = omega arith in
            let there : slice_get new k ≡ Some (read (b.0, v)) = ap (λ (l : List A). slice_get l k) set ∙ set_here held k (read (b.0, v)) within in
            let one : Some x ≡ Some (read (b.0, v)) = sym h ∙ ap (λ (n : ℕ). slice_get new n) e ∙ there in
            let two : Some w ≡ Some v = sym g ∙ ap (λ (n : ℕ). slice_get numbers n) e ∙ number in
            let stays : read (b.0, v) ≡ b.0 = kept k b.0 v from_k within b.1 number in
            let x_is : x ≡ b.0 = (let f : x ≡ read (b.0, v) = cc in f ∙ stays) in
            let w_is : w ≡ v = cc in
            rw (x_is, w_is) stays
      ]
    ]

pub same_flag : (a b : Bool) → not (beq a b) ≡ false → a ≡ b
same_flag true true h = refl
same_flag false false h = refl
same_flag true false h = absurd (cc)
same_flag false true h = absurd (cc)

same_numbers : (a b : ℤ) → not (int_eq a b) ≡ false → a ≡ b
same_numbers a b h = elim (cases_Bool (int_eq a b)) [
  | inl e ↦ (Decides-int_eq a b).0 e
  | inr e ↦ let other : not (int_eq a b) ≡ true = ap (λ (x : Bool). not x) e in absurd (cc)
]

pub same_option : (a b : Option ℤ) → not (option_eq int_eq a b) ≡ false → a ≡ b
same_option None None h = refl
same_option None (Some b) h = absurd (cc)
same_option (Some a) None h = absurd (cc)
same_option (Some a) (Some b) h = ap (λ (n : ℤ). Some n) (same_numbers a b h)
