-- The room for the keys that a report names: as many flags as the longest array has keys, or more.
use Rattle.std.proofs.Common.{◌≡◌, ◌≢◌, ℕ, zero, suc, ◌+◌, ◌<◌, ◌≤◌, ◌&&◌, not, inl, inr, Bool, true, false, List, [], ◌∷◌, ◌++◌, length, take, replicate, Some, refl, sym, ap, ◌∙◌, subst, arith}
use Rattle.std.specs.List.{slice_get, slice_set, zip}
use Rattle.std.proofs.lemmas.List.{get_or-set_other}
use Rattle.std.proofs.lemmas.Option.{unwrap_or-slice_get, slice_get_within}
use Rattle.std.proofs.lemmas.Bool.{cases_lt, cases_eq}
use Rattle.hid_report_descriptor.specs.declared.usage.Usage.{Usage}
use Rattle.hid_layout.specs.declared.control.Controls.{Controls}
use Rattle.hid_layout.specs.declared.control.Controls.TheVariants as head
use Rattle.hid_layout.specs.declared.control.ControlKind.TheVariants.{Switch, Value, NullValue, Relative}
use Rattle.hid_layout.specs.Controls.{Item, controls_of_form}
use Rattle.hid_snapshots.specs.declared.control_state.ControlState.{ControlState}
use Rattle.hid_snapshots.specs.declared.control_state.ControlState.TheVariants.{Absent, Switches, Values, Motions, RollOver}
use Rattle.hid_snapshots.specs.ControlStates.{FitsView, HasRoom}
use Rattle.hid_snapshots.specs.Events.{control_at, up_event, down_event, element_list_events, ups, downs}
use Rattle.hid_snapshots.specs.Words.{is_on, is_alone, IsFirst}
use Rattle.hid_snapshots.proofs.ItemLemmas.{got}
use Rattle.hid_usages.specs.Taking.{flag_places, NoFlagSet}

-- ---- flags after the keys of an array

pub off_past : (ps : List Bool) (i : ℕ) → length ps ≤ i → is_on ps i ≡ false
off_past [] i h = refl
off_past (p ∷ ps) zero h = absurd (omega arith)
off_past (p ∷ ps) (suc i) h = off_past ps i (omega arith)

pub off_at : (n i : ℕ) → is_on (replicate n false) i ≡ false
off_at zero i = refl
off_at (suc n) zero = refl
off_at (suc n) (suc i) = off_at n i

pub none_on : (ps : List Bool) (i : ℕ) → ps ≡ replicate (length ps) false → is_on ps i ≡ false
none_on ps i none = ap (λ (qs : List Bool). is_on qs i) none ∙ off_at (length ps) i

pub on_elsewhere : (ps : List Bool) (p i : ℕ) (b : Bool) → p < i → is_on (slice_set ps p b) i ≡ is_on ps i
on_elsewhere ps p i b h =
    let apart : i ≢ p = λ e. omega arith in
    unwrap_or-slice_get (slice_set ps p b) i false ∙ get_or-set_other ps p i b false apart ∙ sym (unwrap_or-slice_get ps i false)

both_off : (a b : Bool) → a ≡ false → (a && b) ≡ true → ⊥
both_off true b h e = cc
both_off false b h e = cc

pub alone_within : (xs bs : List Bool) (n j : ℕ) → ((i : ℕ) → n ≤ i → is_on xs i ≡ false) → is_alone xs bs j ≡ true → j < n
alone_within xs bs n j behind hit = elim (cases_lt j n) [ inl low ↦ low | inr past ↦ absurd (both_off (is_on xs j) (not (is_on bs j)) (behind j past) hit) ]

pub first_within : (xs bs : List Bool) (from m n j : ℕ) → ((i : ℕ) → n ≤ i → is_on xs i ≡ false) → IsFirst (is_alone xs bs) from m j → IsFirst (is_alone xs bs) from n j
first_within xs bs from m n j behind first = record { low = first.low; high = alone_within xs bs n j behind first.hit; before = first.before; hit = first.hit }

pub ruleset past = (off_past)

-- a list is put together with the first ones of a longer one as with all of them
pub zip_take : {A B : Type 0} (xs : List A) (ys : List B) (n : ℕ) → length xs ≤ n → zip xs (take n ys) ≡ zip xs ys
zip_take [] ys n h = refl
zip_take (x ∷ xs) [] zero h = refl
zip_take (x ∷ xs) (y ∷ ys) zero h = absurd (omega arith)
zip_take (x ∷ xs) [] (suc n) h = refl
zip_take (x ∷ xs) (y ∷ ys) (suc n) h = ap (λ t. (x, y) ∷ t) (zip_take xs ys n (omega arith))

-- so keys tell the same of the first flags as of all
pub first_told : (i : ℕ) (us : List Usage) (bs xs : List Bool) (n : ℕ) → length bs ≤ n → (ups i us bs (take n xs) ++ downs i us bs (take n xs)) ≡ (ups i us bs xs ++ downs i us bs xs)
first_told i us bs xs n h =
    ap (λ (ps : List (Bool × Bool)). element_list_events
    (λ j u (p : Bool × Bool). up_event (control_at i j) u p.0 p.1) 0 us ps
    ++ element_list_events (λ j u (p : Bool × Bool). down_event (control_at i j) u p.0 p.1) 0 us ps) (zip_take bs xs n h)

-- ---- the room of a view

places_of : Controls → ℕ
places_of head.None = 0
places_of (head.Elements Switch least greatest n) = n
places_of (head.Elements Value least greatest n) = 0
places_of (head.Elements NullValue least greatest n) = 0
places_of (head.Elements Relative least greatest n) = 0
places_of (head.Keys elements rolls n) = n

room_flags : (controls : Controls) (state : ControlState) → HasRoom controls state
    → flag_places state ≡ places_of controls
unfolding places_of
room_flags head.None Absent room = refl
room_flags head.None (Switches ps) room = absurd room
room_flags head.None (Values vs) room = absurd room
room_flags head.None (Motions ms) room = absurd room
room_flags head.None (RollOver ps) room = absurd room
room_flags (head.Elements Switch least greatest n) Absent room = absurd room
room_flags (head.Elements Switch least greatest n) (Switches ps) room = room
room_flags (head.Elements Switch least greatest n) (Values vs) room = absurd room
room_flags (head.Elements Switch least greatest n) (Motions ms) room = absurd room
room_flags (head.Elements Switch least greatest n) (RollOver ps) room = absurd room
room_flags (head.Elements Value least greatest n) Absent room = absurd room
room_flags (head.Elements Value least greatest n) (Switches ps) room = absurd room
room_flags (head.Elements Value least greatest n) (Values vs) room = refl
room_flags (head.Elements Value least greatest n) (Motions ms) room = absurd room
room_flags (head.Elements Value least greatest n) (RollOver ps) room = absurd room
room_flags (head.Elements NullValue least greatest n) Absent room = absurd room
room_flags (head.Elements NullValue least greatest n) (Switches ps) room = absurd room
room_flags (head.Elements NullValue least greatest n) (Values vs) room = refl
room_flags (head.Elements NullValue least greatest n) (Motions ms) room = absurd room
room_flags (head.Elements NullValue least greatest n) (RollOver ps) room = absurd room
room_flags (head.Elements Relative least greatest n) Absent room = absurd room
room_flags (head.Elements Relative least greatest n) (Switches ps) room = absurd room
room_flags (head.Elements Relative least greatest n) (Values vs) room = absurd room
room_flags (head.Elements Relative least greatest n) (Motions ms) room = refl
room_flags (head.Elements Relative least greatest n) (RollOver ps) room = absurd room
room_flags (head.Keys elements rolls n) Absent room = absurd room
room_flags (head.Keys elements rolls n) (Switches ps) room = room
room_flags (head.Keys elements rolls n) (Values vs) room = absurd room
room_flags (head.Keys elements rolls n) (Motions ms) room = absurd room
room_flags (head.Keys elements rolls n) (RollOver ps) room = room

-- control states that have the same room want the same flags
pub names_stay : (items : List Item) (states new : List ControlState) (named named' : List Bool) → FitsView items states
    → FitsView items new → NoFlagSet states named → named' ≡ named → NoFlagSet new named'
names_stay items states new named named' fits fits' names same = subst (NoFlagSet new) (sym same) (record {
  none = names.none;
  each = λ i state h.
      let item = got items i (omega (arith, slice_get_within new i state h, fits'.one_each)) in
      let old = got states i (omega (arith, slice_get_within new i state h, fits'.one_each, fits.one_each)) in
      omega (
        arith,
        room_flags (controls_of_form item.0.form) state (fits'.room i item.0 state item.1 h),
        room_flags (controls_of_form item.0.form) old.0 (fits.room i item.0 old.0 item.1 old.1),
        names.each i old.0 old.1,
      );
})

-- the first control states want n flags at most
abbrev pub AreWithin : List ControlState → ℕ → ℕ → Type 0
AreWithin states k most =
    (i : ℕ) (state : ControlState) → i < k → slice_get states i ≡ Some state → flag_places state ≤ most

pub within_next : (states : List ControlState) (k most new : ℕ) (here : ControlState) → AreWithin states k most
    → slice_get states k ≡ Some here → most ≤ new → flag_places here ≤ new → AreWithin states (k + 1) new
within_next states k most new here within there more places i state low h = elim (cases_eq i k) [
  | inl e ↦
      let Q : ℕ → Type 0 = λ n. slice_get states n ≡ Some state in
      let at_k : slice_get states k ≡ Some state = subst Q e h in
      let same : here ≡ state = cc in
      omega (arith, places, ap flag_places same)
  | inr ne ↦ omega (arith, within i state (omega arith) h)
]
