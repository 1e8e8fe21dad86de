-- Reading the numbers that a part is sent as.
use Rattle.std.proofs.Common.{◌≡◌, ◌≢◌, ℕ, zero, suc, ◌+◌, ◌-◌, ◌<◌, ◌&&◌, ◌||◌, Bool, true, false, List, [], ◌∷◌, ◌++◌, length, map, replicate, Option, Some, None, ℤ, pos, ◌+ℤ◌, inl, inr, refl, sym, ap, ◌∙◌, arith, cond, unwrap_or}
use Rattle.std.proofs.lemmas.Bool.{cases_Bool}
use Rattle.std.specs.List.{slice_get, zip, list_any}
use Rattle.std.proofs.lemmas.List.Folds.{list_any-append}
use Rattle.std.specs.Ordering.{int_eq}
use Rattle.std.proofs.lemmas.Int.{ints}
use Rattle.std.proofs.lemmas.Bool.Decides.{Decides-int_eq}
use Rattle.hid_layout.specs.declared.main_item.MainItem.{MainItem}
use Rattle.hid_report_descriptor.specs.declared.usage.Usage.{Usage}
use Rattle.hid_layout.specs.Controls.{NoControls, Elements, Keys, Key}
use Rattle.hid_snapshots.specs.ControlStates.{is_value, are_values, are_motions, are_pressable}
use Rattle.hid_usages.specs.NumbersReadBack.{names_no_key, ReadsBack}
use Rattle.hid_snapshots.specs.declared.control_state.ControlState.TheVariants.{Absent, Switches, Values, Motions, RollOver}
use Rattle.hid_usages.specs.Reading.{read_state, has_null, names_rollover, is_in, read_switch, read_value, read_motion, names_key, named_keys_from}
use Rattle.hid_snapshots.specs.Sending.{switch_number, pressed_places_from, switch_count, element_numbers, or_zero, null_number, empty_number, rollover_number}

int_same : (x : ℤ) → int_eq x x ≡ true
int_same x = (Decides-int_eq x x).1 refl

int_other : (x y : ℤ) → x ≢ y → int_eq x y ≡ false
int_other x y ne = elim (cases_Bool (int_eq x y)) [ inl e ↦ absurd (ne ((Decides-int_eq x y).0 e)) | inr e ↦ e ]

-- a switch is read as it was sent
pub switches_back : (bs ps : List Bool) → length bs ≡ length ps → map (λ p. read_switch p.0 p.1) (zip bs (map switch_number ps)) ≡ ps
switches_back [] [] h = refl
switches_back [] (p ∷ ps) h = absurd (omega arith)
switches_back (b ∷ bs) [] h = absurd (omega arith)
switches_back (b ∷ bs) (true ∷ ps) h = ap (λ t. true ∷ t) (switches_back bs ps (omega arith))
switches_back (b ∷ bs) (false ∷ ps) h = ap (λ t. false ∷ t) (switches_back bs ps (omega arith))

-- a value, or null, is read as it was sent
pub value_back : (null : Bool) (least greatest code : ℤ) (b v : Option ℤ) → (null ≡ true → is_in least greatest code ≡ false) → is_value null least greatest v → read_value null least greatest b (unwrap_or v code) ≡ v
value_back null least greatest code b None outside ok = rw (outside ok, ok) refl
value_back null least greatest code b (Some v) outside ok = rw ok refl

pub values_back : (null : Bool) (least greatest code : ℤ) (bs vs : List (Option ℤ)) → (null ≡ true → is_in least greatest code ≡ false) → length bs ≡ length vs → are_values null least greatest vs
    → map (λ p. read_value null least greatest p.0 p.1) (zip bs (map (λ v. unwrap_or v code) vs)) ≡ vs
values_back null least greatest code [] [] outside h ok = refl
values_back null least greatest code [] (v ∷ vs) outside h ok = absurd (omega arith)
values_back null least greatest code (b ∷ bs) [] outside h ok = absurd (omega arith)
values_back null least greatest code (b ∷ bs) (v ∷ vs) outside h ok =
    rw (value_back null least greatest code b v outside ok.0) (ap (λ t. v ∷ t) (values_back null least greatest code bs vs outside (omega arith) ok.1))

pub motions_back : (least greatest : ℤ) (ms : List ℤ) → are_motions least greatest ms → map (read_motion least greatest) ms ≡ ms
motions_back least greatest [] ok = refl
motions_back least greatest (m ∷ ms) ok = rw ok.0 (ap (λ t. m ∷ t) (motions_back least greatest ms ok.1))

-- a key names no place before the first
none_before : (min : ℤ) (ps : List Bool) (i j : ℕ) → j < i
    → list_any (λ v. int_eq v (min +ℤ pos j)) (pressed_places_from min i ps) ≡ false
none_before min [] i j h = refl
none_before min (true ∷ ps) i j h = rw (int_other (min +ℤ pos i) (min +ℤ pos j) (λ e. omega (arith, ints))) (none_before min ps (i + 1) j (omega arith))
none_before min (false ∷ ps) i j h = none_before min ps (i + 1) j (omega arith)

-- a place is named exactly where its key is pressed
pub placed_names : (min : ℤ) (ps : List Bool) (i k : ℕ) (p : Bool) → slice_get ps k ≡ Some p
    → list_any (λ v. int_eq v (min +ℤ pos (i + k))) (pressed_places_from min i ps) ≡ p
placed_names min [] i k p h = absurd (cc)
placed_names min (true ∷ ps) i zero p h =
    let e : true ≡ p = cc in
    let z : i + 0 ≡ i = omega arith in
    rw (z, int_same (min +ℤ pos i)) e
placed_names min (false ∷ ps) i zero p h =
    let e : false ≡ p = cc in
    let z : i + 0 ≡ i = omega arith in
    rw z (none_before min ps (i + 1) i (omega arith) ∙ e)
placed_names min (true ∷ ps) i (suc k) p h =
    let z : (i + 1) + k ≡ i + suc k = omega arith in
    rw (int_other (min +ℤ pos i) (min +ℤ pos (i + suc k)) (λ e. omega (arith, ints)))
    (ap (λ (n : ℕ). list_any (λ v. int_eq v (min +ℤ pos n)) (pressed_places_from min (i + 1) ps)) (sym z)
    ∙ placed_names min ps (i + 1) k p h)
placed_names min (false ∷ ps) i (suc k) p h =
    let z : (i + 1) + k ≡ i + suc k = omega arith in
    ap (λ (n : ℕ). list_any (λ v. int_eq v (min +ℤ pos n)) (pressed_places_from min (i + 1) ps)) (sym z)
    ∙ placed_names min ps (i + 1) k p h

pub any_of_same : (test : ℤ → Bool) (n : ℕ) (v : ℤ) → test v ≡ false → list_any test (replicate n v) ≡ false
any_of_same test zero v h = refl
any_of_same test (suc n) v h = rw h (any_of_same test n v h)

some_of_same : (test : ℤ → Bool) (n : ℕ) (v : ℤ) → 0 < n → test v ≡ true → list_any test (replicate n v) ≡ true
some_of_same test zero v some h = absurd (omega arith)
some_of_same test (suc n) v some h = rw h refl

-- what is named at a key
named_here : (key : Key) (p other : Bool) → (p ≡ true → key.is_switch ≡ true) → (key.is_switch ≡ true → other ≡ false) → (key.is_switch && (p || other)) ≡ p
named_here key true other on off = rw (on refl) refl
named_here key false other on off = by_switch key.is_switch other off
  where
    by_switch : (b other : Bool) → (b ≡ true → other ≡ false) → (b && (false || other)) ≡ false
    by_switch true other off = off refl
    by_switch false other off = refl

-- the keys from one on, of which all numbers are known
keys_from_back : (item : MainItem) (vs : List ℤ) (code : ℤ) (rest i k : ℕ) (keys : List Key) (all ps : List Bool)
    → vs ≡ pressed_places_from item.min i all ++ replicate rest code
    → ((j : ℕ) (p : Bool) → slice_get ps j ≡ Some p → slice_get all (k + j) ≡ Some p)
    → are_pressable keys ps → names_no_key code item.min (i + k) keys → named_keys_from item vs (i + k) keys ≡ ps
keys_from_back item vs code rest i k [] all [] is at pressable apart = refl
keys_from_back item vs code rest i k [] all (p ∷ ps) is at pressable apart = absurd pressable
keys_from_back item vs code rest i k (key ∷ keys) all [] is at pressable apart = absurd pressable
keys_from_back item vs code rest i k (key ∷ keys) all (p ∷ ps) is at pressable apart =
    let z : k + 0 ≡ k = omega arith in
    let next : (i + k) + 1 ≡ i + (k + 1) = omega arith in
    let here : slice_get all k ≡ Some p = rw z at (at 0 p refl) in
    let named : names_key item vs (i + k) ≡ (p || list_any (λ v. int_eq v (item.min +ℤ pos (i + k))) (replicate rest code)) =
    rw (is, list_any-append, placed_names item.min all i k p here) refl
    in
    let head : (key.is_switch && names_key item vs (i + k)) ≡ p =
    rw named (named_here key p _ pressable.0 (λ s. any_of_same (λ v. int_eq v (item.min +ℤ pos (i + k))) rest code (apart.0 s)))
    in
    let apart' : names_no_key code item.min (i + (k + 1)) keys = rw (← next) apart.1 in
    let tail : named_keys_from item vs (i + (k + 1)) keys ≡ ps =
    keys_from_back item vs code rest i (k + 1) keys all ps is (λ j q h. let e : (k + 1) + j ≡ k + suc j = omega arith in rw e (at (suc j) q h)) pressable.1 apart'
    in
    rw (head, next) (ap (λ t. p ∷ t) tail)

-- pressed keys are read as they were sent
pub keys_back : (item : MainItem) (code : ℤ) (rest : ℕ) (keys : List Key) (ps : List Bool) → are_pressable keys ps → names_no_key code item.min 0 keys
    → named_keys_from item (pressed_places_from item.min 0 ps ++ replicate rest code) 0 keys ≡ ps
keys_back item code rest keys ps pressable apart =
    keys_from_back item (pressed_places_from item.min 0 ps ++ replicate rest code) code rest 0 0 keys ps ps refl
    (λ j p h. let e : 0 + j ≡ j = omega arith in rw e h) pressable apart

read_keys : (item : MainItem) (us : List Usage) (elements : ℕ) (rolls : Bool) (keys : List Key) (bs : List Bool) (vs : List ℤ) (b : Bool) → list_any (names_rollover item us) vs ≡ b
    → read_state item us (Keys elements rolls keys) (Switches bs) vs
    ≡ cond b (Switches bs) (Switches (named_keys_from item vs 0 keys))
read_keys item us elements rolls keys bs vs b h =
    ap (λ (x : Bool). cond x (Switches bs) (Switches (named_keys_from item vs 0 keys))) h

pub reads_back : ReadsBack
reads_back item us NoControls view Absent ok like = refl
reads_back item us NoControls view (Switches ps) ok like = absurd ok
reads_back item us NoControls view (Values ps) ok like = absurd ok
reads_back item us NoControls view (Motions ps) ok like = absurd ok
reads_back item us NoControls view (RollOver ps) ok like = absurd ok
reads_back item us (Elements kind least greatest usages) view Absent ok like = absurd ok
reads_back item us (Elements kind least greatest usages) view (RollOver ps) ok like = absurd ok
reads_back item us (Elements kind least greatest usages) Absent (Switches ps) ok like = absurd like
reads_back item us (Elements kind least greatest usages) (Switches bs) (Switches ps) ok like =
    ap Switches (switches_back bs ps like)
reads_back item us (Elements kind least greatest usages) (Values bs) (Switches ps) ok like = absurd like
reads_back item us (Elements kind least greatest usages) (Motions bs) (Switches ps) ok like = absurd like
reads_back item us (Elements kind least greatest usages) (RollOver bs) (Switches ps) ok like = absurd like
reads_back item us (Elements kind least greatest usages) Absent (Values ps) ok like = absurd like
reads_back item us (Elements kind least greatest usages) (Switches bs) (Values ps) ok like = absurd like
reads_back item us (Elements kind least greatest usages) (Values bs) (Values ps) ok like =
    ap Values (values_back (has_null kind) least greatest (or_zero (null_number item)) bs ps ok.1 like ok.0)
reads_back item us (Elements kind least greatest usages) (Motions bs) (Values ps) ok like = absurd like
reads_back item us (Elements kind least greatest usages) (RollOver bs) (Values ps) ok like = absurd like
reads_back item us (Elements kind least greatest usages) Absent (Motions ps) ok like = refl
reads_back item us (Elements kind least greatest usages) (Switches bs) (Motions ps) ok like = absurd like
reads_back item us (Elements kind least greatest usages) (Values bs) (Motions ps) ok like = absurd like
reads_back item us (Elements kind least greatest usages) (Motions bs) (Motions ps) ok like = refl
reads_back item us (Elements kind least greatest usages) (RollOver bs) (Motions ps) ok like = absurd like
reads_back item us (Keys elements rolls keys) view Absent ok like = absurd ok
reads_back item us (Keys elements rolls keys) view (Values ps) ok like = absurd ok
reads_back item us (Keys elements rolls keys) view (Motions ps) ok like = absurd ok
reads_back item us (Keys elements rolls keys) Absent (Switches ps) ok like = absurd like
reads_back item us (Keys elements rolls keys) (Switches bs) (Switches ps) ok like =
    read_keys item us elements rolls keys bs
    (element_numbers item us (Keys elements rolls keys) (Switches ps)) false ok.2
    ∙ ap Switches (keys_back item (or_zero (empty_number item us)) (elements - switch_count ps) keys ps ok.0 ok.1)
reads_back item us (Keys elements rolls keys) (Values bs) (Switches ps) ok like = absurd like
reads_back item us (Keys elements rolls keys) (Motions bs) (Switches ps) ok like = absurd like
reads_back item us (Keys elements rolls keys) (RollOver bs) (Switches ps) ok like = absurd like
reads_back item us (Keys elements rolls keys) Absent (RollOver ps) ok like = absurd like
reads_back item us (Keys elements rolls keys) (Switches bs) (RollOver ps) ok like =
    read_keys item us elements rolls keys bs (replicate elements (or_zero (rollover_number item us))) true
    (some_of_same (names_rollover item us) elements (or_zero (rollover_number item us)) ok.0 ok.1)
reads_back item us (Keys elements rolls keys) (Values bs) (RollOver ps) ok like = absurd like
reads_back item us (Keys elements rolls keys) (Motions bs) (RollOver ps) ok like = absurd like
reads_back item us (Keys elements rolls keys) (RollOver bs) (RollOver ps) ok like = absurd like

pub ruleset back = (reads_back, motions_back)
