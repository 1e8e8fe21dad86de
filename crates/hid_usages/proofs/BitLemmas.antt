-- Switches of one bit each: the numbers that their bits are.
use Rattle.std.proofs.Common.{◌≡◌, ℕ, zero, suc, ◌+◌, ◌*◌, ◌^◌, ◌<◌, ◌≤◌, inl, inr, unwrap_or, ◌==◌, ◌&&◌, nat_le, not, Bool, true, false, cond, List, [], ◌∷◌, ◌++◌, length, map, Option, Some, ℤ, pos, append-nil, refl, sym, ap, ◌∙◌, subst, arith}
use Rattle.std.specs.List.{slice_get, zip}
use Rattle.std.specs.Ordering.{int_eq}
use Rattle.std.specs.Int.{bit_at}
use Rattle.std.specs.Bool.{beq}
use Rattle.std.proofs.lemmas.Bool.{cases_lt}
use Rattle.hid_layout.specs.declared.control.ControlId.{ControlId}
use Rattle.std.proofs.lemmas.Nat.Bits.{bit_at-lt, bit_at_above}
use Rattle.std.proofs.lemmas.List.{ext_get_or}
use Rattle.std.proofs.lemmas.Bool.Decides.{nat_tests, Decides-int_eq}
use Rattle.std.proofs.lemmas.Option.{get_or_from_slice_get, slice_get_within}
use Rattle.hid_fields.specs.Field.{bit_of, pattern_of}
use Rattle.hid_fields.proofs.WordLemmas.{bit_at-pattern_of}
use Rattle.hid_snapshots.specs.Numbers.{number_at, numbers_in}
use Rattle.hid_snapshots.proofs.NumberLemmas.{numbers_in-length, one_bit, numbers_in-at}
use Rattle.hid_snapshots.specs.Words.{bits_in, is_on, is_unlike, IsFirst, FindsFirst}
use Rattle.hid_snapshots.proofs.WordLemmas.{bits_in-at, bits_in-length, found_below}
use Rattle.hid_snapshots.proofs.FillLemmas.{map_zip_at, length_map_zip}
use Rattle.hid_snapshots.proofs.ItemLemmas.{got}
use Rattle.hid_report_descriptor.specs.declared.usage.Usage.{Usage}
use Rattle.hid_snapshots.specs.declared.event.Event.{Event}
use Rattle.hid_snapshots.specs.declared.event.Event.TheVariants as event
use Rattle.hid_snapshots.specs.Events.{control_at, switch_event, usages_of, usages_at, element_events, change_events}
use Rattle.hid_usages.specs.Reading.{read_switch, read_state, motion_state, item_numbers}
use Rattle.hid_usages.specs.Bits.{is_variable, are_bits, read_bits}
use Rattle.hid_layout.specs.ControlKinds.{is_switch}
use Rattle.hid_snapshots.specs.Views.{form_motions}
use Rattle.hid_usages.specs.Taking.{list_at, IsFormOf, state_after_numbers_at, events_of_numbers_at}
use Rattle.hid_usages.proofs.TakeLemmas.{list_at-is}
use Rattle.hid_snapshots.proofs.SendLemmas.{spread_usages-length}
use Rattle.hid_fields.specs.Value.{is_negative}
use Rattle.hid_report_descriptor.specs.Flags.{has_flag, RELATIVE, NULL_STATE}
use Rattle.hid_layout.specs.declared.main_item.MainItem.{MainItem}
use Rattle.hid_report_descriptor.specs.declared.shape.Shape.{Shape}
use Rattle.hid_report_descriptor.specs.declared.shape.Shape.TheVariants.{Padding, Variable, Array}
use Rattle.hid_layout.specs.declared.control.ControlKind.{ControlKind}
use Rattle.hid_layout.specs.declared.control.ControlKind.TheVariants.{Switch, Value, NullValue, Relative}
use Rattle.hid_layout.specs.declared.control.Controls.TheVariants as head
use Rattle.hid_layout.specs.Layout.{Contents}
use Rattle.hid_report_descriptor.specs.Fields.{is_padding}
use Rattle.hid_layout.specs.Reports.{IsLayout, first_bit}
use Rattle.hid_layout.specs.Controls.{Form, Elements, form_of, form_at, items_of, controls_of_form, element_kind, has_outside, least_of, greatest_of, spread_usages}
use Rattle.hid_snapshots.specs.declared.control_state.ControlState.{ControlState}
use Rattle.hid_snapshots.specs.declared.control_state.ControlState.TheVariants.{Absent, Switches, Values, Motions, RollOver}
use Rattle.hid_snapshots.specs.ControlStates.{HasRoom}
use Rattle.hid_snapshots.proofs.CodeLemmas.{both_true}
use Rattle.hid_usages.proofs.EventLemmas.{TellsBy, length_zip, zip_parts}
use Rattle.hid_usages.proofs.RoomLemmas.{off_past}

pub switch_of : (before : Bool) (x : ℕ) → x < 2 → (x == 1) ≡ read_switch before (pos x)
switch_of before zero h = refl
switch_of before (suc zero) h = refl
switch_of before (suc (suc x)) h = absurd (omega arith)

-- Switches that are read by their numbers are the bits of their pattern.
pub bits_read : (bytes : List ℕ) (first n : ℕ) (bs : List Bool) → length bs ≡ n → map (λ p. read_switch p.0 p.1) (zip bs (numbers_in bytes first 1 false n)) ≡ bits_in n (pattern_of bytes first n)
bits_read bytes first n bs long =
    let count : length (numbers_in bytes first 1 false n) ≡ n = numbers_in-length bytes first 1 false n in
    let lengths : length (map (λ p. read_switch p.0 p.1) (zip bs (numbers_in bytes first 1 false n))) ≡ n = length_map_zip (λ (p : Bool × ℤ). read_switch p.0 p.1) bs (numbers_in bytes first 1 false n) (count ∙ sym long) ∙ long in
    ext_get_or false _ _ (lengths ∙ sym (bits_in-length n (pattern_of bytes first n)))
    (λ j within.
    let low : j < n = omega (arith, lengths) in
    let b = got bs j (omega arith) in
    let place : first + 1 * j ≡ first + j = omega arith in
    let number : slice_get (numbers_in bytes first 1 false n) j ≡ Some (pos (bit_of bytes (first + j))) = numbers_in-at bytes first 1 false n j low ∙ ap (λ (k : ℕ). Some (number_at bytes k 1 false)) place ∙ ap (λ (v : ℤ). Some v) (one_bit bytes (first + j)) in
    let read = map_zip_at (λ (p : Bool × ℤ). read_switch p.0 p.1) bs (numbers_in bytes first 1 false n) j b.0 (pos (bit_of bytes (first + j))) (bit_of bytes (first + j) == 1) b.1 number (switch_of b.0 (bit_of bytes (first + j)) (bit_at-lt _ _)) in
    let bit : slice_get (bits_in n (pattern_of bytes first n)) j ≡ Some (bit_of bytes (first + j) == 1) = bits_in-at n (pattern_of bytes first n) j low ∙ ap (λ (k : ℕ). Some (k == 1)) (bit_at-pattern_of bytes first n j low) in
    get_or_from_slice_get _ j (bit_of bytes (first + j) == 1) false read ∙ sym (get_or_from_slice_get _ j (bit_of bytes (first + j) == 1) false bit))

-- what a switch tells that is pressed now, or isn't any more
abbrev pub turned : ControlId → Usage → Bool → Event
turned c u true = event.Down c u
turned c u false = event.Up c u

pub turns : (c : ControlId) (u : Usage) (b : Bool) → turned c u b ∷ [] ≡ switch_event c u (not b) b
turns c u true = refl
turns c u false = refl

-- a switch that isn't as its bit tells how it turns, and another one nothing
no_turn : (c : ControlId) (u : Usage) (p q : Bool) → not (beq p q) ≡ false → switch_event c u p q ≡ []
no_turn c u true true h = refl
no_turn c u false false h = refl
no_turn c u true false h = absurd (cc)
no_turn c u false true h = absurd (cc)

one_turn : (c : ControlId) (u : Usage) (p q : Bool) → not (beq p q) ≡ true → switch_event c u p q ≡ turned c u q ∷ []
one_turn c u true true h = absurd (cc)
one_turn c u false false h = absurd (cc)
one_turn c u true false h = refl
one_turn c u false true h = refl

-- a pair of what is held and its bit
pair_is : (bs : List Bool) (w j : ℕ) (p : Bool × Bool) → slice_get (zip bs (bits_in (length bs) w)) j ≡ Some p
    → ((bit_at w j == 1) ≡ p.1) × (is_unlike bs 0 w j ≡ not (beq p.0 p.1))
pair_is bs w j p here =
    let q = zip_parts bs (bits_in (length bs) w) j p here in
    let within : j < length bs = omega (arith, slice_get_within (zip bs (bits_in (length bs) w)) j p here, length_zip bs (bits_in (length bs) w) (omega (arith, bits_in-length (length bs) w))) in
    let bit : (bit_at w j == 1) ≡ p.1 = sym (ap (λ (o : Option Bool). unwrap_or o false) (bits_in-at (length bs) w j within)) ∙ q.1 in
    let place : 64 * 0 + j ≡ j = omega arith in
    (bit, ap (λ (k : ℕ). not (beq (is_on bs k) (bit_at w j == 1))) place ∙ ap (λ (b : Bool). not (beq b (bit_at w j == 1))) q.0 ∙ ap (λ (b : Bool). not (beq p.0 b)) bit)

pub turns_by : (i : ℕ) (bs : List Bool) (w : ℕ) → TellsBy (λ j u p. switch_event (control_at i j) u p.0 p.1) (is_unlike bs 0 w) bs (bits_in (length bs) w) (λ j u. turned (control_at i j) u (bit_at w j == 1))
turns_by i bs w = record {
  none = λ j u p h e. no_turn (control_at i j) u p.0 p.1 (sym (pair_is bs w j p h).1 ∙ e);
  one = λ j u p h e. one_turn (control_at i j) u p.0 p.1 (sym (pair_is bs w j p h).1 ∙ e) ∙ ap (λ (b : Bool). turned (control_at i j) u b ∷ []) (sym (pair_is bs w j p h).0);
}

-- the first bit of a word whose bits are those that aren't the same
pub unlike_found : (bs : List Bool) (w unlike from : ℕ) (r : Option ℕ) → ((b : ℕ) → b < 64 → (bit_at unlike b == 1) ≡ is_unlike bs 0 w b) → FindsFirst (λ b. bit_at unlike b == 1) from 64 r → FindsFirst (is_unlike bs 0 w) from 64 r
unlike_found bs w unlike from r same found = found_below (λ b. bit_at unlike b == 1) (is_unlike bs 0 w) from 64 r same found

-- the first bit of a word that isn't as it is held is that of a switch
pub unlike_first : (bs : List Bool) (w word n from j : ℕ) → word ≡ w → length bs ≡ n → w < 2 ^ length bs → IsFirst (is_unlike bs 0 word) from 64 j → IsFirst (is_unlike bs 0 w) from n j
unlike_first bs w word n from j is long fits first = elim (cases_lt j n) [
  | inl within ↦ subst (λ (v : ℕ). IsFirst (is_unlike bs 0 v) from n j) is (record { low = first.low; high = within; before = first.before; hit = first.hit })
  | inr past ↦
      let off : is_on bs (64 * 0 + j) ≡ false = off_past bs (64 * 0 + j) (omega arith) in
      let none : bit_at w j ≡ 0 = bit_at_above w (length bs) j fits (omega arith) in
      let no : is_unlike bs 0 w j ≡ false = ap (λ (o : Bool). not (beq o (bit_at w j == 1))) off ∙ ap (λ (n : ℕ). not (beq false (n == 1))) none in
      let hit : is_unlike bs 0 w j ≡ true = ap (λ (v : ℕ). is_unlike bs 0 v j) (sym is) ∙ first.hit in
      absurd (cc)
]

-- the pattern of an item's switches
abbrev pub pattern_in : Contents → List ℕ → MainItem → ℕ
pattern_in layout bytes m = pattern_of bytes (first_bit layout + m.offset) m.count

of_variable : (shape : Shape) (b : Bool) → (is_variable shape && b) ≡ true → (shape ≡ Variable) × (b ≡ true)
of_variable Variable b h = (refl, h)
of_variable Padding b h = absurd (cc)
of_variable Array b h = absurd (cc)

of_switch : (kind : ControlKind) → is_switch kind ≡ true → kind ≡ Switch
of_switch Switch h = refl
of_switch Value h = absurd (cc)
of_switch NullValue h = absurd (cc)
of_switch Relative h = absurd (cc)

-- switches have the numbers 0 and 1
switch_least : (relative switch null : Bool) → (cond relative Relative (cond switch Switch (cond null NullValue Value))) ≡ Switch → switch ≡ true
switch_least true switch null h = absurd (cc)
switch_least false true null h = refl
switch_least false false true h = absurd (cc)
switch_least false false false h = absurd (cc)

pub same_number : (a b : ℕ) → (a == b) ≡ true → a ≡ b
same_number a b h = grind (arith, nat_tests)

low_number : (a b : ℕ) → nat_le a b ≡ true → a ≤ b
low_number a b h = grind (arith, nat_tests)

-- what is known of an item of up to 32 switches of one bit each
pub record HasBits (m : MainItem) : Type 0 where
  pub shape : m.shape ≡ Variable
  pub size : m.size ≡ 1
  pub few : m.count ≤ 32
  pub kind : element_kind m ≡ Switch
  pub from_zero : m.min ≡ pos 0

pub has_bits : (m : MainItem) → are_bits m ≡ true → HasBits m
has_bits m h =
    let shape = of_variable m.shape _ h in
    let size = both_true (m.size == 1) (nat_le m.count 32 && is_switch (element_kind m)) shape.1 in
    let rest = both_true (nat_le m.count 32) (is_switch (element_kind m)) size.1 in
    let kind = of_switch (element_kind m) rest.1 in
    let zero_one = switch_least (has_flag RELATIVE m.flags.0) ((int_eq m.min (pos 0) && int_eq m.max (pos 1)) && not (has_flag NULL_STATE m.flags.0)) (has_flag NULL_STATE m.flags.0 && has_outside m) kind in
    let range = both_true (int_eq m.min (pos 0) && int_eq m.max (pos 1)) (not (has_flag NULL_STATE m.flags.0)) zero_one in
    record {
      shape = shape.0;
      size = same_number m.size 1 size.0;
      few = low_number m.count 32 rest.0;
      kind = kind;
      from_zero = (Decides-int_eq m.min (pos 0)).0 ((both_true (int_eq m.min (pos 0)) (int_eq m.max (pos 1)) range.0).0);
    }

state_by_bits : (m : MainItem) (us : List Usage) (kind : ControlKind) (least greatest : ℤ) (uses : List Usage)
    (state : ControlState) (vs : List ℤ) (pattern : ℕ) → kind ≡ Switch
    → HasRoom (controls_of_form (Elements kind least greatest uses)) state
    → ((bs : List Bool) → length bs ≡ length uses → map (λ p. read_switch p.0 p.1) (zip bs vs) ≡ bits_in (length bs) pattern)
    → read_bits pattern state ≡ read_state m us (Elements kind least greatest uses) state vs
state_by_bits m us Switch least greatest uses (Switches bs) vs pattern k room read = ap Switches (sym (read bs room))
state_by_bits m us Switch least greatest uses Absent vs pattern k room read = absurd room
state_by_bits m us Switch least greatest uses (Values bs) vs pattern k room read = absurd room
state_by_bits m us Switch least greatest uses (Motions bs) vs pattern k room read = absurd room
state_by_bits m us Switch least greatest uses (RollOver bs) vs pattern k room read = absurd room
state_by_bits m us Value least greatest uses state vs pattern k room read = absurd (cc)
state_by_bits m us NullValue least greatest uses state vs pattern k room read = absurd (cc)
state_by_bits m us Relative least greatest uses state vs pattern k room read = absurd (cc)

told_by_bits : (i : ℕ) (kind : ControlKind) (least greatest : ℤ) (uses : List Usage) (b a : ControlState)
    (vs : List ℤ) → kind ≡ Switch
    → element_events i uses b a ≡ change_events i (Elements kind least greatest uses) b a
    ++ form_motions i (Elements kind least greatest uses) (motion_state (Elements kind least greatest uses) vs)
told_by_bits i Switch least greatest uses b a vs k = sym (append-nil (element_events i uses b a))
told_by_bits i Value least greatest uses b a vs k = absurd (cc)
told_by_bits i NullValue least greatest uses b a vs k = absurd (cc)
told_by_bits i Relative least greatest uses b a vs k = absurd (cc)

room_of_bits : (kind : ControlKind) (least greatest : ℤ) (uses : List Usage) (state : ControlState) → kind ≡ Switch
    → HasRoom (controls_of_form (Elements kind least greatest uses)) state
    → HasRoom (head.Elements Switch (pos 0) (pos 1) (length uses)) state
room_of_bits Switch least greatest uses (Switches bs) k room = room
room_of_bits Switch least greatest uses Absent k room = absurd room
room_of_bits Switch least greatest uses (Values bs) k room = absurd room
room_of_bits Switch least greatest uses (Motions bs) k room = absurd room
room_of_bits Switch least greatest uses (RollOver bs) k room = absurd room
room_of_bits Value least greatest uses state k room = absurd (cc)
room_of_bits NullValue least greatest uses state k room = absurd (cc)
room_of_bits Relative least greatest uses state k room = absurd (cc)

-- What the pattern of an item's switches makes of its control state is what their numbers make of it.
pub record ReadsAsBits (layout : Contents) (bytes : List ℕ) (i : ℕ) (m : MainItem)
    (state : ControlState) : Type 0 where
  pub places : length (usages_at layout i) ≡ m.count
  pub room : HasRoom (head.Elements Switch (pos 0) (pos 1) (length (usages_at layout i))) state
  pub read : read_bits (pattern_in layout bytes m) state
      ≡ state_after_numbers_at layout i m state (item_numbers layout bytes m)
  pub told : (after : ControlState)
      → element_events i (usages_at layout i) state after
      ≡ events_of_numbers_at layout i m state after (item_numbers layout bytes m)

pub reads_as_bits : (layout : Contents) (bytes : List ℕ) (i : ℕ) (m : MainItem) (state : ControlState)
    → IsLayout layout → slice_get layout.items i ≡ Some m → IsFormOf layout i m → HasBits m
    → HasRoom (controls_of_form (form_at (items_of layout) i)) state
    → ReadsAsBits layout bytes i m state
reads_as_bits layout bytes i m state laid listed form bits room =
    let us = list_at layout i in
    let es = got layout.entries i (omega (arith, laid.entries_there, slice_get_within layout.items i m listed)) in
    let some : 0 < length us = omega (arith, laid.some_usage i m es.0 listed es.1 (ap is_padding bits.shape), ap length (list_at-is layout i es.0 es.1)) in
    let long : length (spread_usages m.count us) ≡ m.count = spread_usages-length m.count us some in
    let is : form_at (items_of layout) i
    ≡ Elements (element_kind m) (least_of m) (greatest_of m) (spread_usages m.count us) =
    form ∙ ap (form_of m us) bits.shape in
    let here : HasRoom
    (controls_of_form (Elements (element_kind m) (least_of m) (greatest_of m) (spread_usages m.count us))) state =
    subst (λ (f : Form). HasRoom (controls_of_form f) state) is room in
    let uses : usages_at layout i ≡ spread_usages m.count us = ap usages_of is in
    let count : length (usages_at layout i) ≡ m.count = ap length uses ∙ long in
    let unsigned : is_negative m.min ≡ false = ap is_negative bits.from_zero in
    let numbers : item_numbers layout bytes m ≡ numbers_in bytes (first_bit layout + m.offset) 1 false m.count = ap (λ (w : ℕ). numbers_in bytes (first_bit layout + m.offset) w (is_negative m.min) m.count) bits.size ∙ ap (λ (s : Bool). numbers_in bytes (first_bit layout + m.offset) 1 s m.count) unsigned in
    record {
      places = count;
      room = rw uses
          (room_of_bits (element_kind m) (least_of m) (greatest_of m) (spread_usages m.count us) state bits.kind here);
      read =
          state_by_bits m us (element_kind m) (least_of m) (greatest_of m) (spread_usages m.count us) state
          (item_numbers layout bytes m) (pattern_in layout bytes m) bits.kind here
          (λ bs l.
          ap (λ (vs : List ℤ). map (λ p. read_switch p.0 p.1) (zip bs vs)) numbers ∙ bits_read bytes (first_bit layout + m.offset) m.count bs (l ∙ long) ∙ ap (λ (n : ℕ). bits_in n (pattern_in layout bytes m)) (sym (l ∙ long)))
          ∙ ap (λ (f : Form). read_state m us f state (item_numbers layout bytes m)) (sym is);
      told = λ after.
          ap (λ (l : List Usage). element_events i l state after) uses
          ∙ told_by_bits i (element_kind m) (least_of m) (greatest_of m) (spread_usages m.count us) state after
          (item_numbers layout bytes m) bits.kind
          ∙ ap (λ (f : Form). change_events i f state after
          ++ form_motions i f (motion_state f (item_numbers layout bytes m))) (sym is);
    }
