-- The keys of an array, by its usage list.
use Rattle.std.proofs.Common.{◌≡◌, ℕ, ◌+◌, ◌<◌, ◌&&◌, ◌==◌, nat_lt, not, inl, inr, Bool, true, false, List, [], ◌∷◌, ◌++◌, append-nil, length, map, Option, Some, None, ℤ, pos, ◌+ℤ◌, int_le, refl, sym, ap, ◌∙◌, subst, arith}
use Rattle.std.specs.List.{list_any, slice_get, slice_set}
use Rattle.std.specs.Option.{option_map}
use Rattle.std.proofs.lemmas.Option.{slice_get_within}
use Rattle.std.proofs.lemmas.Bool.{cases_lt}
use Rattle.std.proofs.lemmas.Int.{ints}
use Rattle.std.proofs.lemmas.List.{length-map}
use Rattle.std.proofs.lemmas.Bool.Decides.{nat_tests}
use Rattle.hid_layout.specs.declared.main_item.MainItem.{MainItem}
use Rattle.hid_report_descriptor.specs.declared.usage.Usage.{Usage}
use Rattle.hid_report_descriptor.specs.declared.shape.Shape.TheVariants.{Array}
use Rattle.hid_report_descriptor.specs.Usages.{Entry, usage_list, is_rollover, is_keyboard_error}
use Rattle.hid_usages.specs.Taking.{list_at, IsFormOf, state_after_numbers_at, events_of_numbers_at}
use Rattle.hid_usages.proofs.TakeLemmas.{list_at-is}
use Rattle.hid_layout.specs.Layout.{Contents}
use Rattle.hid_layout.specs.Controls.{Form, Keys, Key, controls_of_form, form_of, form_at, items_of, has_place, rollover_from, is_key, is_encodable}
use Rattle.hid_layout.proofs.FormLemmas.{key-get, keys-length}
use Rattle.hid_layout.proofs.CodeLemmas.{inside}
use Rattle.hid_snapshots.proofs.CodeLemmas.{both_true}
use Rattle.hid_snapshots.proofs.ListLemmas.{map_at}
use Rattle.hid_snapshots.specs.declared.control_state.ControlState.{ControlState}
use Rattle.hid_snapshots.specs.declared.control_state.ControlState.TheVariants.{Switches}
use Rattle.hid_snapshots.specs.ControlStates.{HasRoom}
use Rattle.hid_snapshots.specs.Events.{change_events, key_events, key_usages, usages_at, usages_of, HasPlaces}
use Rattle.hid_snapshots.specs.Views.{form_motions}
use Rattle.hid_snapshots.proofs.ItemLemmas.{got}
use Rattle.hid_usages.proofs.EventLemmas.{has_places}
use Rattle.hid_usages.specs.Reading.{FitsFields, motion_state, read_state, array_keys, keys_of, keys_at, named_keys_from, names_rollover, read_keys}
use Rattle.hid_usages.proofs.BoundLemmas.{in_range}
use Rattle.hid_usages.proofs.KeyLemmas.{named_same, switch_is, key_added, no_key_added, no_place_added, rollover_named}

-- no key stands after the last place that a key can have
key_low : (m : MainItem) (p : ℕ) (u : Usage) → is_key m p u ≡ true → p < 65536
key_low m p u h =
    let low = (both_true (nat_lt p 65536) _ ((both_true (is_encodable m (m.min +ℤ pos p)) _ h).1)).0 in
    of_test p low
  where
    of_test : (p : ℕ) → nat_lt p 65536 ≡ true → p < 65536
    of_test p h = grind (arith, nat_tests)

pub key_place : (m : MainItem) (us : List Usage) (p : ℕ) (u : Usage) → slice_get us p ≡ Some u → is_key m p u ≡ true → p < length (array_keys m us)
key_place m us p u here on = omega (arith, keys-length m us, slice_get_within us p u here, key_low m p u on)

pub key_here : (m : MainItem) (us : List Usage) (p : ℕ) (u : Usage) → slice_get us p ≡ Some u → p < length (array_keys m us) → slice_get (map (λ (key : Key). key.is_switch) (array_keys m us)) p ≡ Some (is_key m p u)
key_here m us p u here within =
    let key : Key = record { usage = u; is_switch = is_key m p u } in
    let there : slice_get (array_keys m us) p ≡ Some key = key-get m us p (omega (arith, keys-length m us)) ∙ ap (λ (o : Option Usage). option_map (λ (v : Usage). let k : Key = record { usage = v; is_switch = is_key m p v } in k) o) here in
    map_at (λ (k : Key). k.is_switch) (array_keys m us) p key there

-- a number names the key at its place
pub pressed : (m : MainItem) (us : List Usage) (vs : List ℤ) (v : ℤ) (p : ℕ) (u : Usage) → slice_get us p ≡ Some u → v ≡ m.min +ℤ pos p → is_key m p u ≡ true
    → slice_set (named_keys_from m vs 0 (array_keys m us)) p true
    ≡ named_keys_from m (vs ++ v ∷ []) 0 (array_keys m us)
pressed m us vs v p u here is on =
    let within = key_place m us p u here on in
    key_added m vs v (array_keys m us) p within (key_here m us p u here within ∙ ap (λ (b : Bool). Some b) on) is

-- a number names no key where none stands at its place
pub not_pressed : (m : MainItem) (us : List Usage) (vs : List ℤ) (v : ℤ) (p : ℕ) (u : Usage) → slice_get us p ≡ Some u → v ≡ m.min +ℤ pos p → is_key m p u ≡ false
    → named_keys_from m vs 0 (array_keys m us) ≡ named_keys_from m (vs ++ v ∷ []) 0 (array_keys m us)
not_pressed m us vs v p u here is off = elim (cases_lt p (length (array_keys m us))) [
  | inl within ↦ no_key_added m vs v (array_keys m us) p (key_here m us p u here within ∙ ap (λ (b : Bool). Some b) off) is
  | inr past ↦
      no_place_added m vs v (array_keys m us)
      (λ q low other.
      let same : q ≡ p = omega (arith, ints) in
      omega arith)
]

-- the keys stay where a number names ErrorRollOver, and are named again elsewhere
pub keys_stay : (m : MainItem) (us : List Usage) (keys : List Key) (bs : List Bool) (vs : List ℤ)
    → list_any (names_rollover m us) vs ≡ true → read_keys m us keys (Switches bs) vs ≡ Switches bs
keys_stay m us keys bs vs h = rw h refl

pub keys_named : (m : MainItem) (us : List Usage) (keys : List Key) (bs : List Bool) (vs : List ℤ)
    → list_any (names_rollover m us) vs ≡ false
    → read_keys m us keys (Switches bs) vs ≡ Switches (named_keys_from m vs 0 keys)
keys_named m us keys bs vs h = rw h refl

-- whether a number that names a place tells ErrorRollOver
pub tells : (m : MainItem) (us : List Usage) (v : ℤ) (p : ℕ) (u : Usage) → slice_get us p ≡ Some u → v ≡ m.min +ℤ pos p → names_rollover m us v ≡ (int_le v m.max && is_rollover u)
tells m us v p u here is = rollover_named m us v p is ∙ ap (λ (o : Option Usage). int_le v m.max && (elim o as (λ _. Bool) [ None ↦ false | Some w ↦ is_rollover w ])) here

pub is_not : (b r : Bool) → r ≡ not b → r ≡ true → b ≡ false
is_not false r h k = refl
is_not true r h k = absurd (cc)

pub is_so : (b r : Bool) → r ≡ not b → r ≡ false → b ≡ true
is_so true r h k = refl
is_so false r h k = absurd (cc)

-- a number that names a place and fits its field is one that an element can carry if it is no greater than the greatest
pub place_encodable : (m : MainItem) (v : ℤ) (p : ℕ) → FitsFields m v → v ≡ m.min +ℤ pos p → is_encodable m (m.min +ℤ pos p) ≡ int_le v m.max
place_encodable m v p fits is =
    let least = (both_true (int_le m.min v) (int_le v v) (inside m.min v v (omega (arith, ints)) (omega (arith, ints)))).0 in
    ap (is_encodable m) (sym is) ∙ sym (in_range m m.min m.max refl refl v fits) ∙ ap (λ (b : Bool). b && int_le v m.max) least

-- whether a place is a key that a number can press, which is no greater than the greatest
pub key_is : (m : MainItem) (v : ℤ) (p : ℕ) (u : Usage) → FitsFields m v → v ≡ m.min +ℤ pos p → int_le v m.max ≡ true → is_key m p u ≡ (nat_lt p 65536 && (not (u.id == 0) && not (is_keyboard_error u)))
key_is m v p u fits is most = ap (λ (b : Bool). b && (nat_lt p 65536 && (not (u.id == 0) && not (is_keyboard_error u)))) (place_encodable m v p fits is ∙ most)

-- a number that is over the greatest one wherever it names a place names no key
pub no_key_past : (m : MainItem) (us : List Usage) (vs : List ℤ) (v : ℤ) → FitsFields m v → ((p : ℕ) → p < length us → v ≡ m.min +ℤ pos p → int_le v m.max ≡ false)
    → named_keys_from m vs 0 (array_keys m us) ≡ named_keys_from m (vs ++ v ∷ []) 0 (array_keys m us)
no_key_past m us vs v fits past =
    named_same m vs v 0 (array_keys m us)
    (λ j key g e.
    let is : v ≡ m.min +ℤ pos j = (let n : 0 + j ≡ j = omega arith in rw n at e) in
    let within : j < length (array_keys m us) = slice_get_within (array_keys m us) j key g in
    let listed : j < length us = omega (arith, keys-length m us, within) in
    let u = got us j listed in
    switch_is (array_keys m us) j (is_key m j u.0) key (key_here m us j u.0 u.1 within) g
    ∙ ap (λ (b : Bool). b && (nat_lt j 65536 && (not (u.0.id == 0) && not (is_keyboard_error u.0)))) (place_encodable m v j fits is ∙ past j listed is))

-- What the numbers of an array's elements make of its control state, and tell, is what they do by its usage list.
pub record ReadsKeys (layout : Contents) (i : ℕ) (m : MainItem) (us : List Usage) (state : ControlState)
    (vs : List ℤ) : Type 0 where
  pub keys : keys_at layout i ≡ array_keys m us
  pub usages : length (usages_at layout i) ≡ length (keys_at layout i)
  pub places : HasPlaces state (length (keys_at layout i))
  pub read : read_keys m us (keys_at layout i) state vs ≡ state_after_numbers_at layout i m state vs
  pub told : (after : ControlState)
      → key_events i (usages_at layout i) state after ≡ events_of_numbers_at layout i m state after vs

pub reads_keys : (layout : Contents) (i : ℕ) (m : MainItem) (es : List Entry) (state : ControlState) (vs : List ℤ)
    → IsFormOf layout i m → m.shape ≡ Array → slice_get layout.entries i ≡ Some es
    → HasRoom (controls_of_form (form_at (items_of layout) i)) state
    → ReadsKeys layout i m (usage_list es) state vs
reads_keys layout i m es state vs form shape there room =
    let listed = list_at-is layout i es there in
    let us = usage_list es in
    let rolls = has_place (rollover_from m 0 us) in
    let is : form_at (items_of layout) i ≡ Keys m.count rolls (array_keys m us) = form ∙ ap (form_of m (list_at layout i)) shape ∙ ap (λ (l : List Usage). form_of m l Array) listed in
    let same : length (usages_at layout i) ≡ length (keys_at layout i) =
    ap (λ (f : Form). length (usages_of f)) is ∙ length-map (array_keys m us) (λ (key : Key). key.usage) ∙ sym (ap (λ (f : Form). length (keys_of f)) is) in
    record {
      keys = ap keys_of is;
      usages = same;
      places = subst (HasPlaces state) same (has_places (form_at (items_of layout) i) state room);
      read =
          ap (λ (ks : List Key). read_keys m us ks state vs) (ap keys_of is) ∙ ap (λ (l : List Usage). read_keys m l (array_keys m us) state vs) (sym listed)
          ∙ ap (λ (f : Form). read_state m (list_at layout i) f state vs) (sym is);
      told = λ after.
          ap (λ (f : Form). key_events i (usages_of f) state after) is ∙ sym (append-nil (key_events i (key_usages (array_keys m us)) state after))
          ∙ ap (λ (f : Form). change_events i f state after ++ form_motions i f (motion_state f vs)) (sym is);
    }
