-- The boot reports tell what is read along the layouts of their descriptors.
use Rattle.std.proofs.Common.{◌≡◌, ℕ, zero, suc, ◌+◌, ◌-◌, ◌*◌, ◌%◌, ◌^◌, ◌<◌, ◌≤◌, ◌==◌, ◌&&◌, ◌⊎◌, inl, inr, nat_lt, nat_le, cond, Bool, true, false, List, [], ◌∷◌, ◌++◌, length, map, get_or, unwrap_or, Option, Some, None, Ok, ℤ, pos, negsuc, ◌+ℤ◌, ◌-ℤ◌, ◌≤ℤ◌, refl, sym, ap, ◌∙◌, subst, arith, append-nil, zero-add}
use Rattle.std.specs.Int.{bit_at}
use Rattle.std.specs.Int.Signed.{le_z}
use Rattle.std.specs.List.{slice_get, list_any, range_with_len, zip}
use Rattle.std.specs.Option.{option_map}
use Rattle.std.specs.Ordering.{int_eq}
use Rattle.std.proofs.lemmas.Bool.Decides.{nat_tests, Decides-int_eq}
use Rattle.std.proofs.lemmas.Int.{ints}
use Rattle.std.proofs.lemmas.Nat.Bits.{bit_at-lt}
use Rattle.hid_fields.specs.Field.{bit_of}
use Rattle.hid_fields.specs.Value.{value_of}
use Rattle.hid_fields.proofs.WordLemmas.{pattern_of-byte}
use Rattle.hid_fields.proofs.ValueLemmas.{value_of-low, value_of-high}
use Rattle.hid_layout.specs.declared.control.ControlKind.TheVariants.{Switch, Relative}
use Rattle.hid_layout.specs.declared.control.Control.{Control}
use Rattle.hid_layout.specs.declared.main_item.MainItem.{MainItem}
use Rattle.hid_report_descriptor.specs.declared.shape.Shape.TheVariants.{Array}
use Rattle.hid_report_descriptor.specs.declared.usage.Usage.{Usage}
use Rattle.hid_layout.specs.Controls.{Item, Key, input_item, Elements, Keys, items_of, items_from, keys_from, rollover_from, spread_usages, control_of_key, controls_of_form}
use Rattle.hid_layout.specs.Finding.{control_usage}
use Rattle.hid_snapshots.specs.declared.control_state.ControlState.{ControlState}
use Rattle.hid_snapshots.specs.declared.control_state.ControlState.TheVariants.{Absent, Switches, Values, Motions, RollOver}
use Rattle.hid_usages.specs.declared.boot.KeyboardReport.{KeyboardReport}
use Rattle.hid_usages.specs.Boot.{field, keyboard_layout, mouse_layout, keyboard_of, mouse_of, boot_motion, is_boot_key_held, is_rolled, names, buttons_in, ReportsKeys, ReportsButtons}
use Rattle.hid_snapshots.specs.ControlStates.{is_in, FitsView, HasRoom, InView}
use Rattle.hid_snapshots.specs.Encoding.{AreBytes}
use Rattle.hid_snapshots.specs.Numbers.{number_at, numbers_in}
use Rattle.hid_usages.specs.Reading.{read_switch, read_motion, names_rollover, names_key, named_keys_from, report_named, is_rollover_at}
use Rattle.hid_snapshots.specs.Samples.{usage, keyboard, mouse}
use Rattle.hid_snapshots.specs.Snapshots.{is_pressed, state_at}
use Rattle.hid_snapshots.specs.declared.event.Event.{Event}
use Rattle.hid_snapshots.specs.Events.{control_at, switch_events, motion_event, motion_events, change_events}
use Rattle.hid_usages.specs.Taking.{read_view, state_after_report_at, events_of_report_at, read_events}
use Rattle.hid_snapshots.proofs.CodeLemmas.{test_true}
use Rattle.hid_snapshots.proofs.ItemLemmas.{got}
use Rattle.hid_usages.proofs.KeyLemmas.{rollover_named}
use Rattle.hid_usages.proofs.TakeLemmas.{read_view-at}
use Rattle.std.proofs.lemmas.Option.{slice_get_past}

-- The numbers of the fields.

-- the number of one bit is the bit
bit_number : (bytes : List ℕ) (at : ℕ) → number_at bytes at 1 false ≡ pos (bit_of bytes at)
bit_number bytes at = ap pos (let e : 0 + bit_of bytes (at + 0) * 1 ≡ bit_of bytes at = rw (let z : at + 0 ≡ at = omega arith in z) (omega arith) in e)

byte_there : (bytes : List ℕ) (k : ℕ) → AreBytes bytes → k < length bytes → get_or bytes k 0 < 256
byte_there bytes k bs within = bs k 0 within

-- the number of a byte without sign is the byte
byte_number : (bytes : List ℕ) (at k : ℕ) → at ≡ 8 * k → AreBytes bytes → k < length bytes → number_at bytes at 8 false ≡ pos (get_or bytes k 0)
byte_number bytes at k e bs within = rw (e, pattern_of-byte bytes k (byte_there bytes k bs within)) refl

signed_number : (bytes : List ℕ) (at k : ℕ) → at ≡ 8 * k → AreBytes bytes → k < length bytes → number_at bytes at 8 true ≡ value_of (get_or bytes k 0) 8 true
signed_number bytes at k e bs within = rw (e, pattern_of-byte bytes k (byte_there bytes k bs within)) refl

eight_bits : (bytes : List ℕ) → numbers_in bytes 0 1 false 8 ≡ map (λ n. pos (bit_at (get_or bytes 0 0) n)) (range_with_len 0 8)
eight_bits bytes = rw (bit_number bytes 0, bit_number bytes 1, bit_number bytes 2, bit_number bytes 3, bit_number bytes 4, bit_number bytes 5, bit_number bytes 6, bit_number bytes 7) refl

three_bits : (bytes : List ℕ) → numbers_in bytes 0 1 false 3 ≡ map (λ n. pos (bit_at (get_or bytes 0 0) n)) (range_with_len 0 3)
three_bits bytes = rw (bit_number bytes 0, bit_number bytes 1, bit_number bytes 2) refl

six_keys : (bytes : List ℕ) → AreBytes bytes → 8 ≤ length bytes → numbers_in bytes 16 8 false 6 ≡ map pos (keyboard_of bytes).keys
six_keys bytes bs within =
    rw (byte_number bytes 16 2 refl bs (omega arith), byte_number bytes 24 3 refl bs (omega arith), byte_number bytes 32 4 refl bs (omega arith), byte_number bytes 40 5 refl bs (omega arith), byte_number bytes 48 6 refl bs (omega arith), byte_number bytes 56 7 refl bs (omega arith)) refl

-- Switches.

one_read : (before : Bool) (b : ℕ) → b < 2 → read_switch before (pos b) ≡ (b == 1)
one_read before zero h = refl
one_read before (suc zero) h = refl
one_read before (suc (suc b)) h = absurd (omega arith)

pub switches_read : (bit : ℕ → ℕ) (ps : List Bool) (ns : List ℕ) → length ps ≡ length ns → ((n : ℕ) → bit n < 2)
    → map (λ p. read_switch p.0 p.1) (zip ps (map (λ n. pos (bit n)) ns)) ≡ map (λ n. bit n == 1) ns
switches_read bit [] [] h few = refl
switches_read bit [] (n ∷ ns) h few = absurd (omega arith)
switches_read bit (p ∷ ps) [] h few = absurd (omega arith)
switches_read bit (p ∷ ps) (n ∷ ns) h few = rw (one_read p (bit n) (few n), switches_read bit ps ns (omega arith) few) refl

-- what stands at a place of a list that is made from a range
pub made_at : {A : Type 0} (f : ℕ → A) (a n j : ℕ) (x : A) → slice_get (map f (range_with_len a n)) j ≡ Some x → (j < n) × (x ≡ f (a + j))
made_at f a zero j x h = absurd (cc)
made_at f a (suc n) zero x h = (omega arith, let e : f a ≡ x = cc in let z : a + 0 ≡ a = omega arith in rw z (sym e))
made_at f a (suc n) (suc j) x h =
    let rest = made_at f (a + 1) n j x h in
    (omega (arith, rest.0), rest.1 ∙ ap f (let z : (a + 1) + j ≡ a + suc j = omega arith in z))

pub there_at : {A : Type 0} (f : ℕ → A) (a n j : ℕ) → j < n → slice_get (map f (range_with_len a n)) j ≡ Some (f (a + j))
there_at f a zero j h = absurd (omega arith)
there_at f a (suc n) zero h = let z : a + 0 ≡ a = omega arith in rw z refl
there_at f a (suc n) (suc j) h = there_at f (a + 1) n j (omega arith) ∙ ap (λ (m : ℕ). Some (f m)) (let z : (a + 1) + j ≡ a + suc j = omega arith in z)

-- Keys.

same_number : (a b : ℕ) → int_eq (pos a) (pos b) ≡ (a == b)
same_number a b = by_test (a == b) (int_eq (pos a) (pos b)) refl refl
  where
    by_test : (t v : Bool) → (a == b) ≡ t → int_eq (pos a) (pos b) ≡ v → v ≡ t
    by_test true true t v = refl
    by_test false false t v = refl
    by_test true false t v =
        let e : a ≡ b = grind (arith, nat_tests) in
        sym v ∙ (Decides-int_eq (pos a) (pos b)).1 (ap pos e)
    by_test false true t v =
        let e : pos a ≡ pos b = (Decides-int_eq (pos a) (pos b)).0 v in
        absurd (let n : a ≡ b = cc in grind (arith, nat_tests))

names_same : (bs : List ℕ) (j : ℕ) → list_any (λ v. int_eq v (pos 0 +ℤ pos j)) (map pos bs) ≡ list_any (λ b. b == j) bs
names_same [] j = refl
names_same (b ∷ bs) j =
    let z : 0 + j ≡ j = zero-add j in
    rw (names_same bs j, z, same_number b j) refl

abbrev key_item : MainItem
key_item = field 0 16 8 6 0x0 (pos 0) (pos 101) Array

abbrev key_places : List Usage
key_places = map (usage 7) (range_with_len 0 102)

abbrev key_of : ℕ → Key
key_of id = record { usage = usage 7 id; is_switch = nat_lt 3 id }

abbrev keyboard_keys : List Key
keyboard_keys = map key_of (range_with_len 0 102)

-- a number names ErrorRollOver where it is 1
one_rollover : (b : ℕ) → names_rollover key_item key_places (pos b) ≡ (b == 1)
one_rollover b = rollover_named key_item key_places (pos b) b (ap pos (sym (zero-add b))) ∙ by_place (nat_lt b 102) refl
  where
    and_false : (t : Bool) → (t && false) ≡ false
    and_false true = refl
    and_false false = refl

    by_place : (t : Bool) → nat_lt b 102 ≡ t → (le_z (pos b) (pos 101) && is_rollover_at key_places b) ≡ (b == 1)
    by_place true t =
        let within : b < 102 = grind (arith, nat_tests) in
        let low : le_z (pos b) (pos 101) ≡ true = test_true (le_z (pos b) (pos 101)) ((let h : pos b ≤ℤ pos 101 = omega (arith, ints) in h).le) in
        rw (low, there_at (usage 7) 0 102 b within, zero-add b) refl
    by_place false t =
        let past : 102 ≤ b = grind (arith, nat_tests) in
        let none : slice_get key_places b ≡ None = slice_get_past key_places b past in
        let no_one : (b == 1) ≡ false = grind (arith, nat_tests) in
        rw (none, no_one) (and_false (le_z (pos b) (pos 101)))

any_rollover : (bs : List ℕ) → list_any (names_rollover key_item key_places) (map pos bs) ≡ list_any (λ b. b == 1) bs
any_rollover [] = refl
any_rollover (b ∷ bs) = rw (one_rollover b, any_rollover bs) refl

named_at : (item : MainItem) (vs : List ℤ) (i : ℕ) (keys : List Key) (j : ℕ) (key : Key) → slice_get keys j ≡ Some key
    → slice_get (named_keys_from item vs i keys) j ≡ Some (key.is_switch && names_key item vs (i + j))
named_at item vs i [] j key h = absurd (cc)
named_at item vs i (k ∷ keys) zero key h =
    let e : k ≡ key = cc in
    let z : i + 0 ≡ i = omega arith in
    rw (e, z) refl
named_at item vs i (k ∷ keys) (suc j) key h =
    let z : (i + 1) + j ≡ i + suc j = omega arith in
    named_at item vs (i + 1) keys j key h ∙ ap (λ (n : ℕ). Some (key.is_switch && names_key item vs n)) z

-- The controls.

keyboard_controls : items_of keyboard_layout ≡ keyboard
unfolding items_from keys_from rollover_from spread_usages
keyboard_controls = refl

mouse_controls : items_of mouse_layout ≡ mouse
unfolding items_from spread_usages
mouse_controls = refl

abbrev IsPlace : ℕ → ℕ → ℕ → Type 0
IsPlace i j id = ((i ≡ 0) × (j < 8) × (id ≡ 0xE0 + j)) ⊎ ((i ≡ 4) × (j < 102) × (id ≡ j))

switch_usage : (o : Option Usage) (u : Usage) → option_map (λ (c : Control). c.usage) (option_map (λ (u : Usage). record { kind = Switch; usage = u }) o) ≡ Some u → o ≡ Some u
switch_usage None u h = absurd (cc)
switch_usage (Some v) u h = h

key_usage : (o : Option Key) (u : Usage) → option_map (λ (c : Control). c.usage) (control_of_key o) ≡ Some u → (key : Key) × (o ≡ Some key) × (key.usage ≡ u)
key_usage None u h = absurd (cc)
key_usage (Some key) u h = (key, refl, by_switch key.is_switch h)
  where
    by_switch : (b : Bool) → option_map (λ (c : Control). c.usage) (cond b (Some (record { kind = Switch; usage = key.usage })) None) ≡ Some u → key.usage ≡ u
    by_switch true e = let f : key.usage ≡ u = cc in f
    by_switch false e = absurd (cc)

-- which control has a usage of page 07
place_of : (i j id : ℕ) → control_usage keyboard (record { item = i; index = j }) ≡ Some (usage 7 id) → IsPlace i j id
place_of zero j id h =
    let made = made_at (usage 7) 0xE0 8 j (usage 7 id) (switch_usage (slice_get (map (usage 7) (range_with_len 0xE0 8)) j) (usage 7 id) h) in
    inl (refl, made.0, ap (λ (u : Usage). u.id) made.1)
place_of (suc zero) j id h = absurd (cc)
place_of (suc (suc zero)) j id h = absurd (cc)
place_of (suc (suc (suc zero))) j id h = absurd (cc)
place_of (suc (suc (suc (suc zero)))) j id h =
    let found = key_usage (slice_get keyboard_keys j) (usage 7 id) h in
    let made = made_at key_of 0 102 j found.0 found.1 in
    inr (refl, made.0, sym (ap (λ (u : Usage). u.id) found.2) ∙ ap (λ (k : Key). k.usage.id) made.1 ∙ zero-add j)
place_of (suc (suc (suc (suc (suc i))))) j id h = absurd (cc)

-- The view.

pressed_there : (view : List ControlState) → FitsView keyboard view
    → (ps : List Bool) × (slice_get view 0 ≡ Some (Switches ps)) × (length ps ≡ 8)
pressed_there view fits = by_state at.0 at.1 (fits.room 0 (input_item 0 8 (Elements Switch (pos 0) (pos 1) (map (usage 7) (range_with_len 0xE0 8)))) at.0 refl at.1)
  where
    at : (state : ControlState) × (slice_get view 0 ≡ Some state)
    at = got view 0 (omega (arith, fits.one_each))

    by_state : (state : ControlState) → slice_get view 0 ≡ Some state
        → HasRoom (controls_of_form (Elements Switch (pos 0) (pos 1) (map (usage 7) (range_with_len 0xE0 8)))) state
        → (ps : List Bool) × (slice_get view 0 ≡ Some (Switches ps)) × (length ps ≡ 8)
    by_state Absent e r = absurd r
    by_state (Switches ps) e r = (ps, e, r)
    by_state (Values vs) e r = absurd r
    by_state (Motions ms) e r = absurd r
    by_state (RollOver ps) e r = absurd r

keys_there : (view : List ControlState) → FitsView keyboard view
    → (ps : List Bool) × (slice_get view 4 ≡ Some (Switches ps))
keys_there view fits = by_state at.0 at.1 (fits.room 4 (input_item 0 8 (Keys 6 true keyboard_keys)) at.0 refl at.1) (fits.suits 4 (input_item 0 8 (Keys 6 true keyboard_keys)) at.0 refl at.1)
  where
    at : (state : ControlState) × (slice_get view 4 ≡ Some state)
    at = got view 4 (omega (arith, fits.one_each))

    by_state : (state : ControlState) → slice_get view 4 ≡ Some state
        → HasRoom (controls_of_form (Keys 6 true keyboard_keys)) state → InView (Keys 6 true keyboard_keys) state
        → (ps : List Bool) × (slice_get view 4 ≡ Some (Switches ps))
    by_state Absent e r s = absurd r
    by_state (Switches ps) e r s = (ps, e)
    by_state (Values vs) e r s = absurd r
    by_state (Motions ms) e r s = absurd r
    by_state (RollOver ps) e r s = absurd s

-- what is read of the modifiers and of the keys
modifiers_read : (bytes : List ℕ) (ps : List Bool) → length ps ≡ 8
    → state_after_report_at keyboard_layout 0 bytes 0 (Switches ps)
    ≡ Switches (map (λ n. bit_at (get_or bytes 0 0) n == 1) (range_with_len 0 8))
unfolding items_from keys_from rollover_from spread_usages
modifiers_read bytes ps h =
    ap (λ (vs : List ℤ). Switches (map (λ p. read_switch p.0 p.1) (zip ps vs))) (eight_bits bytes)
    ∙ ap Switches
    (switches_read (bit_at (get_or bytes 0 0)) ps (range_with_len 0 8) h (λ n. bit_at-lt (get_or bytes 0 0) n))

keys_read : (bytes : List ℕ) (ps : List Bool) → AreBytes bytes → 8 ≤ length bytes → is_rolled (keyboard_of bytes) ≡ false
    → state_after_report_at keyboard_layout 0 bytes 4 (Switches ps)
    ≡ Switches (named_keys_from key_item (map pos (keyboard_of bytes).keys) 0 keyboard_keys)
unfolding items_from keys_from rollover_from spread_usages
keys_read bytes ps bs within rolled =
    ap (λ (vs : List ℤ). cond (list_any (names_rollover key_item key_places) vs) (Switches ps)
    (Switches (named_keys_from key_item vs 0 keyboard_keys))) (six_keys bytes bs within)
    ∙ ap (λ (b : Bool). cond b (Switches ps)
    (Switches (named_keys_from key_item (map pos (keyboard_of bytes).keys) 0 keyboard_keys)))
    (any_rollover (keyboard_of bytes).keys ∙ rolled)

-- what the report tells
modifier_told : (report : KeyboardReport) (j : ℕ) → j < 8
    → is_boot_key_held report (0xE0 + j) ≡ (bit_at report.modifiers j == 1)
modifier_told report j h =
    let low : nat_le 0xE0 (0xE0 + j) ≡ true = grind (arith, nat_tests) in
    let high : nat_le (0xE0 + j) 0xE7 ≡ true = grind (arith, nat_tests) in
    let less : (0xE0 + j) - 0xE0 ≡ j = omega arith in
    rw (low, high, less) refl

key_told : (report : KeyboardReport) (id : ℕ) → 4 ≤ id → id ≤ 101 → is_rolled report ≡ false
    → is_boot_key_held report id ≡ names id report
key_told report id low high rolled =
    let none : nat_le 0xE0 id ≡ false = grind (arith, nat_tests) in
    let from : nat_le 4 id ≡ true = grind (arith, nat_tests) in
    let to : nat_le id 101 ≡ true = grind (arith, nat_tests) in
    rw (none, from, to, rolled) refl

modifier_held : (bytes : List ℕ) (view : List ControlState) (j : ℕ) → FitsView keyboard view → j < 8
    → is_pressed (state_at (read_view keyboard_layout 0 bytes view) 0) j ≡ (bit_at (get_or bytes 0 0) j == 1)
modifier_held bytes view j fits within =
    let at = pressed_there view fits in
    let read =
    read_view-at keyboard_layout 0 bytes view 0 (Switches at.0) at.1 ∙ ap Some (modifiers_read bytes at.0 at.2) in
    ap (λ (o : Option ControlState). is_pressed (unwrap_or o Absent) j) read
    ∙ ap (λ (o : Option Bool). unwrap_or o false) (there_at (λ n. bit_at (get_or bytes 0 0) n == 1) 0 8 j within)
    ∙ ap (λ (n : ℕ). bit_at (get_or bytes 0 0) n == 1) (zero-add j)

key_held : (bytes : List ℕ) (view : List ControlState) (id : ℕ) → AreBytes bytes → 8 ≤ length bytes
    → FitsView keyboard view → 4 ≤ id → id ≤ 101 → is_rolled (keyboard_of bytes) ≡ false
    → is_pressed (state_at (read_view keyboard_layout 0 bytes view) 4) id ≡ names id (keyboard_of bytes)
key_held bytes view id bs long fits low high rolled =
    let at = keys_there view fits in
    let read =
    read_view-at keyboard_layout 0 bytes view 4 (Switches at.0) at.1
    ∙ ap Some (keys_read bytes at.0 bs long rolled) in
    let switch : nat_lt 3 (0 + id) ≡ true = grind (arith, nat_tests) in
    ap (λ (o : Option ControlState). is_pressed (unwrap_or o Absent) id) read
    ∙ ap (λ (o : Option Bool). unwrap_or o false) (named_at key_item (map pos (keyboard_of bytes).keys) 0 keyboard_keys id (key_of (0 + id)) (there_at key_of 0 102 id (omega arith)))
    ∙ ap (λ (b : Bool). b && names_key key_item (map pos (keyboard_of bytes).keys) (0 + id)) switch
    ∙ ap (names_key key_item (map pos (keyboard_of bytes).keys)) (zero-add id)
    ∙ names_same (keyboard_of bytes).keys id

-- The boot keyboard.

modifier_place : (bytes : List ℕ) (view : List ControlState) (id i j : ℕ) → FitsView keyboard view → 0xE0 ≤ id
    → IsPlace i j id
    → is_pressed (state_at (read_view keyboard_layout 0 bytes view) i) j ≡ is_boot_key_held (keyboard_of bytes) id
modifier_place bytes view id i j fits low (inl p) = rw (p.0, p.2) (modifier_held bytes view j fits p.1 ∙ sym (modifier_told (keyboard_of bytes) j p.1))
modifier_place bytes view id i j fits low (inr p) = absurd (omega (arith, p.1, p.2))

key_place : (bytes : List ℕ) (view : List ControlState) (id i j : ℕ) → AreBytes bytes → 8 ≤ length bytes
    → FitsView keyboard view → 4 ≤ id → id ≤ 101 → is_rolled (keyboard_of bytes) ≡ false → IsPlace i j id
    → is_pressed (state_at (read_view keyboard_layout 0 bytes view) i) j ≡ is_boot_key_held (keyboard_of bytes) id
key_place bytes view id i j bs long fits low high rolled (inl p) = absurd (omega (arith, p.2))
key_place bytes view id i j bs long fits low high rolled (inr p) =
    rw (p.0, ← p.2) (key_held bytes view id bs long fits low high rolled ∙ sym (key_told (keyboard_of bytes) id low high rolled))

named_keyboard : (bytes : List ℕ) → 8 ≤ length bytes → report_named keyboard_layout bytes ≡ Ok 0
named_keyboard bytes h =
    let long : nat_lt (length bytes) 8 ≡ false = grind (arith, nat_tests) in
    rw long refl

pub keys_told : (bytes : List ℕ) (view : List ControlState) → AreBytes bytes → 8 ≤ length bytes
    → FitsView (items_of keyboard_layout) view → ReportsKeys bytes view
keys_told bytes view bs long there =
    let fits : FitsView keyboard view = subst (λ (items : List Item). FitsView items view) keyboard_controls there in
    record {
      named = named_keyboard bytes long;
      modifier_there = λ id low high. (control_at 0 (id - 0xE0), modifier_is id low high);
      modifiers = λ id low high c is. modifier_place bytes view id c.item c.index fits low (place_of c.item c.index id (rw keyboard_controls at is));
      key_there = λ id low high. (control_at 4 id, key_is id low high);
      keys = λ id low high rolled c is. key_place bytes view id c.item c.index bs long fits low high rolled (place_of c.item c.index id (rw keyboard_controls at is));
    }
  where
    modifier_is : (id : ℕ) → 0xE0 ≤ id → id ≤ 0xE7
        → control_usage (items_of keyboard_layout) (control_at 0 (id - 0xE0)) ≡ Some (usage 7 id)
    modifier_is id low high =
        let e : 0xE0 + (id - 0xE0) ≡ id = omega arith in
        rw (keyboard_controls, there_at (usage 7) 0xE0 8 (id - 0xE0) (omega arith), e) refl

    key_is : (id : ℕ) → 4 ≤ id → id ≤ 0x65 → control_usage (items_of keyboard_layout) (control_at 4 id) ≡ Some (usage 7 id)
    key_is id low high =
        let e : nat_lt 3 id ≡ true = grind (arith, nat_tests) in
        rw (keyboard_controls, there_at key_of 0 102 id (omega arith), zero-add id, e) refl

-- The boot mouse.

two_numbers : (bytes : List ℕ) → AreBytes bytes → 3 ≤ length bytes → numbers_in bytes 8 8 true 2 ≡ value_of (get_or bytes 1 0) 8 true ∷ value_of (get_or bytes 2 0) 8 true ∷ []
two_numbers bytes bs long = rw (signed_number bytes 8 1 refl bs (omega arith), signed_number bytes 16 2 refl bs (omega arith)) refl

in_range : (v : ℤ) → negsuc 126 ≤ℤ v → v ≤ℤ pos 127 → is_in (negsuc 126) (pos 127) v ≡ true
in_range v low high = rw (test_true (le_z (negsuc 126) v) (low.le), test_true (le_z v (pos 127)) (high.le)) refl

-- a motion out of range is none
one_motion : (b : ℕ) → b < 256 → read_motion (negsuc 126) (pos 127) (value_of b 8 true) ≡ boot_motion b
one_motion b small = by_half (nat_lt b 128) (b == 0x80) refl refl
  where
    by_half : (low same : Bool) → nat_lt b 128 ≡ low → (b == 0x80) ≡ same
        → read_motion (negsuc 126) (pos 127) (value_of b 8 true) ≡ boot_motion b
    by_half low true l e =
        let is : b ≡ 0x80 = grind (arith, nat_tests) in
        rw is refl
    by_half true false l e =
        let half : b < 2 ^ 7 = grind (arith, nat_tests) in
        let is : value_of b 8 true ≡ pos b = value_of-low b 8 true half in
        let there : is_in (negsuc 126) (pos 127) (pos b) ≡ true = in_range (pos b) (omega (arith, ints)) (omega (arith, ints)) in
        rw (e, is, there) refl
    by_half false false l e =
        let half : 2 ^ 7 ≤ b = grind (arith, nat_tests) in
        let over : 2 ^ 7 < b = grind (arith, nat_tests) in
        let is : value_of b 8 true ≡ pos b -ℤ pos 256 = value_of-high b 8 (omega arith) half small in
        let there : is_in (negsuc 126) (pos 127) (pos b -ℤ pos 256) ≡ true = in_range (pos b -ℤ pos 256) (omega (arith, ints)) (omega (arith, ints)) in
        rw (e, is, there) refl

-- the low three bits
low_three : (b : ℕ) → map (λ n. bit_at b n == 1) (range_with_len 0 3) ≡ map (λ n. bit_at (b % 8) n == 1) (range_with_len 0 3)
low_three b =
    let zeroth : bit_at (b % 8) 0 ≡ bit_at b 0 = omega arith in
    let first : bit_at (b % 8) 1 ≡ bit_at b 1 = omega arith in
    let second : bit_at (b % 8) 2 ≡ bit_at b 2 = omega arith in
    rw (zeroth, first, second) refl

buttons_read : (bytes : List ℕ) (ps : List Bool) → length ps ≡ 3
    → state_after_report_at mouse_layout 0 bytes 0 (Switches ps) ≡ Switches (buttons_in bytes)
unfolding items_from spread_usages
buttons_read bytes ps h =
    ap (λ (vs : List ℤ). Switches (map (λ p. read_switch p.0 p.1) (zip ps vs))) (three_bits bytes)
    ∙ ap Switches
    (switches_read (bit_at (get_or bytes 0 0)) ps (range_with_len 0 3) h (λ n. bit_at-lt (get_or bytes 0 0) n))
    ∙ ap Switches (low_three (get_or bytes 0 0))

buttons_told : (bytes : List ℕ) (ps : List Bool) → length ps ≡ 3
    → events_of_report_at mouse_layout 0 bytes 0 (Switches ps)
    ≡ switch_events 0 (map (usage 9) (range_with_len 1 3)) ps (buttons_in bytes)
unfolding items_from spread_usages
buttons_told bytes ps h =
    ap (λ (after : ControlState). change_events 0
    (Elements Switch (pos 0) (pos 1) (map (usage 9) (range_with_len 1 3))) (Switches ps) after ++ [])
    (buttons_read bytes ps h)
    ∙ append-nil (switch_events 0 (map (usage 9) (range_with_len 1 3)) ps (buttons_in bytes))

abbrev axes : List Usage
axes = usage 0x01 0x30 ∷ usage 0x01 0x31 ∷ []

motions_told : (bytes : List ℕ) (ms : List ℤ) → AreBytes bytes → 3 ≤ length bytes
    → events_of_report_at mouse_layout 0 bytes 2 (Motions ms)
    ≡ motion_event (control_at 2 0) (usage 0x01 0x30) (mouse_of bytes).x
    ++ motion_event (control_at 2 1) (usage 0x01 0x31) (mouse_of bytes).y
unfolding items_from spread_usages
motions_told bytes ms bs long =
    ap (λ (vs : List ℤ). motion_events 2 axes (map (read_motion (negsuc 126) (pos 127)) vs)) (two_numbers bytes bs long)
    ∙ ap (λ (x : ℤ). motion_events 2 axes (x ∷ read_motion (negsuc 126) (pos 127) (value_of (get_or bytes 2 0) 8 true) ∷ [])) (one_motion (get_or bytes 1 0) (byte_there bytes 1 bs (omega arith)))
    ∙ ap (λ (y : ℤ). motion_events 2 axes (boot_motion (get_or bytes 1 0) ∷ y ∷ []))
    (one_motion (get_or bytes 2 0) (byte_there bytes 2 bs (omega arith)))
    ∙ ap (λ (es : List Event). motion_event (control_at 2 0) (usage 0x01 0x30) (mouse_of bytes).x ++ es) (append-nil (motion_event (control_at 2 1) (usage 0x01 0x31) (mouse_of bytes).y))

named_mouse : (bytes : List ℕ) → 3 ≤ length bytes → report_named mouse_layout bytes ≡ Ok 0
named_mouse bytes h =
    let long : nat_lt (length bytes) 3 ≡ false = grind (arith, nat_tests) in
    rw long refl

-- a view of the mouse
abbrev IsView : List Bool → ControlState → List ℤ → List ControlState → Type 0
IsView ps c ms view = (view ≡ Switches ps ∷ c ∷ Motions ms ∷ []) × (length ps ≡ 3)

view_there : (view : List ControlState) → FitsView mouse view
    → (ps : List Bool) × (c : ControlState) × (ms : List ℤ) × IsView ps c ms view
view_there [] fits = absurd (omega (arith, fits.one_each))
view_there (a ∷ []) fits = absurd (omega (arith, fits.one_each))
view_there (a ∷ b ∷ []) fits = absurd (omega (arith, fits.one_each))
view_there (a ∷ b ∷ c ∷ d ∷ view) fits = absurd (omega (arith, fits.one_each))
view_there (a ∷ b ∷ c ∷ []) fits =
    by_states a c (fits.room 0 (input_item 0 3 (Elements Switch (pos 0) (pos 1) (map (usage 9) (range_with_len 1 3)))) a refl refl) (fits.room 2 (input_item 0 3 (Elements Relative (negsuc 126) (pos 127) axes)) c refl refl)
  where
    by_states : (x y : ControlState)
        → HasRoom (controls_of_form (Elements Switch (pos 0) (pos 1) (map (usage 9) (range_with_len 1 3)))) x
        → HasRoom (controls_of_form (Elements Relative (negsuc 126) (pos 127) axes)) y
        → (ps : List Bool) × (m : ControlState) × (ms : List ℤ) × IsView ps m ms (x ∷ b ∷ y ∷ [])
    by_states Absent y r s = absurd r
    by_states (Values vs) y r s = absurd r
    by_states (Motions ms) y r s = absurd r
    by_states (RollOver ps) y r s = absurd r
    by_states (Switches ps) Absent r s = absurd s
    by_states (Switches ps) (Values vs) r s = absurd s
    by_states (Switches ps) (RollOver vs) r s = absurd s
    by_states (Switches ps) (Switches vs) r s = absurd s
    by_states (Switches ps) (Motions ms) r s = (ps, b, ms, (refl, r))

read_mouse : (bytes : List ℕ) (ps : List Bool) (c : ControlState) (ms : List ℤ) → AreBytes bytes → 3 ≤ length bytes
    → length ps ≡ 3 → ReportsButtons bytes (Switches ps ∷ c ∷ Motions ms ∷ [])
read_mouse bytes ps c ms bs long h = record {
  named = named_mouse bytes long;
  held = buttons_read bytes ps h;
  motions = λ before is. motions before is;
}
  where
    told : read_events mouse_layout 0 bytes (Switches ps ∷ c ∷ Motions ms ∷ [])
        ≡ switch_events 0 (map (usage 9) (range_with_len 1 3)) ps (buttons_in bytes)
        ++ (motion_event (control_at 2 0) (usage 0x01 0x30) (mouse_of bytes).x ++ motion_event (control_at 2 1) (usage 0x01 0x31) (mouse_of bytes).y)
    told =
        ap (λ (es : List Event). es
        ++ (events_of_report_at mouse_layout 0 bytes 1 c
        ++ (events_of_report_at mouse_layout 0 bytes 2 (Motions ms) ++ []))) (buttons_told bytes ps h)
        ∙ ap (λ (es : List Event). switch_events 0 (map (usage 9) (range_with_len 1 3)) ps (buttons_in bytes) ++ es)
        (append-nil (events_of_report_at mouse_layout 0 bytes 2 (Motions ms)) ∙ motions_told bytes ms bs long)

    motions : (before : List Bool) → Switches ps ≡ Switches before
        → read_events mouse_layout 0 bytes (Switches ps ∷ c ∷ Motions ms ∷ [])
        ≡ switch_events 0 (map (usage 9) (range_with_len 1 3)) before (buttons_in bytes)
        ++ (motion_event (control_at 2 0) (usage 0x01 0x30) (mouse_of bytes).x ++ motion_event (control_at 2 1) (usage 0x01 0x31) (mouse_of bytes).y)
    motions before is =
        let e : ps ≡ before = cc in
        told ∙ ap (λ (qs : List Bool). switch_events 0 (map (usage 9) (range_with_len 1 3)) qs (buttons_in bytes) ++ (motion_event (control_at 2 0) (usage 0x01 0x30) (mouse_of bytes).x ++ motion_event (control_at 2 1) (usage 0x01 0x31) (mouse_of bytes).y)) e

pub buttons_are_told : (bytes : List ℕ) (view : List ControlState) → AreBytes bytes → 3 ≤ length bytes
    → FitsView (items_of mouse_layout) view → ReportsButtons bytes view
buttons_are_told bytes view bs long fits =
    let v = view_there view (subst (λ (items : List Item). FitsView items view) mouse_controls fits) in
    subst (ReportsButtons bytes) (sym v.3.0) (read_mouse bytes v.0 v.1 v.2 bs long v.3.1)
