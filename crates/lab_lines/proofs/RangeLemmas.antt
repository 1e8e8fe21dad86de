-- Places of a usage list that are passed over, range by range.
use Rattle.std.proofs.Common.{◌≡◌, ℕ, zero, suc, ◌+◌, ◌-◌, ◌<◌, ◌≤◌, max, min, Bool, true, false, List, [], ◌∷◌, length, take, get_or, Option, Some, None, unwrap_or, refl, sym, ap, ◌∙◌, arith, nat_lt}
use Rattle.std.specs.List.{slice_get}
use Rattle.std.specs.Option.{option_map}
use Rattle.std.proofs.lemmas.Bool.Decides.{nat_tests}
use Rattle.hid_report_descriptor.specs.declared.usage.Usage.{Usage}
use Rattle.hid_report_descriptor.specs.declared.shape.Shape.{Shape}
use Rattle.hid_report_descriptor.specs.declared.shape.Shape.TheVariants.{Padding, Variable, Array}
use Rattle.hid_report_descriptor.specs.Usages.{Entry, entry_count, usage_list, starts_of}
use Rattle.hid_report_descriptor.proofs.StartLemmas.{at_start, found_by_start}
use Rattle.hid_layout.specs.declared.main_item.MainItem.{MainItem}
use Rattle.hid_layout.specs.declared.control.Control.{Control}
use Rattle.hid_layout.specs.declared.control.ControlKind.{ControlKind}
use Rattle.hid_layout.specs.Layout.{Contents}
use Rattle.hid_layout.specs.Controls.{Form, control_in, control_of_key, form_at, form_of, is_input, is_key, items_of, spread_usages, keys_from}
use Rattle.hid_layout.proofs.FormLemmas.{form-input, form-other, key-get, key-past, some_at, spread_usages-get, spread_usages-past}
use Rattle.lab_lines.specs.declared.control_name.Sought.{Sought}
use Rattle.lab_lines.specs.ControlNames.{AreOthers, ArePassed, IsSought, is_found, sought_by}
use Rattle.lab_lines.proofs.ControlLemmas.{found_from, found_step, found_end}

-- the places of a range are passed too
pub passed_within : (sought : Usage → Bool) (es : List Entry) (starts : List ℕ) (k from next place : ℕ) (d : Entry) → starts ≡ starts_of es → k < length es
    → length (usage_list (take k es)) ≤ next → ArePassed sought (usage_list es) from next
    → AreOthers sought (get_or es k d) (next - get_or starts k 0) place → place ≤ entry_count (get_or es k d)
    → ArePassed sought (usage_list es) from (get_or starts k 0 + place)
passed_within sought es starts k from next place d s within begun passed others few j low high = by_place (nat_lt j next) refl
  where
    start : get_or starts k 0 ≡ length (usage_list (take k es))
    start = at_start es starts k s within

    by_place : (b : Bool) → nat_lt j next ≡ b → (u : Usage) × (slice_get (usage_list es) j ≡ Some u) × (sought u ≡ false)
    by_place true t = passed j low (grind (arith, nat_tests))
    by_place false t =
        let past : next ≤ j = grind (arith, nat_tests) in (
          record { page = (get_or es k d).0.page; id = (get_or es k d).0.id + (j - get_or starts k 0) },
          sym (found_by_start es starts k j d s within (omega (arith, start, past, begun)) (omega (arith, start, past, begun, high, few))),
          others (j - get_or starts k 0) (omega (arith, start, past, begun)) (omega (arith, start, past, begun, high)),
        )

-- places up to the later of two are passed
pub passed_to_later : (sought : Usage → Bool) (us : List Usage) (from a b : ℕ) → ArePassed sought us from a → ArePassed sought us from b → ArePassed sought us from (max a b)
passed_to_later sought us from a b first second j low high = by_place (nat_lt j a) refl
  where
    by_place : (t : Bool) → nat_lt j a ≡ t → (u : Usage) × (slice_get us j ≡ Some u) × (sought u ≡ false)
    by_place true t = first j low (grind (arith, nat_tests))
    by_place false t = let past : a ≤ j = grind (arith, nat_tests) in second j low (omega (arith, past, high))

-- the place that is found in a range
pub found_within : (sought : Usage → Bool) (es : List Entry) (starts : List ℕ) (k place : ℕ) (d : Entry) → starts ≡ starts_of es → k < length es
    → place < entry_count (get_or es k d) → sought (record { page = (get_or es k d).0.page; id = (get_or es k d).0.id + place }) ≡ true
    → IsSought sought (usage_list es) (get_or starts k 0 + place)
found_within sought es starts k place d s within few is u at =
    let same : (get_or starts k 0 + place) - get_or starts k 0 ≡ place = omega arith in
    let there : Some (record { page = (get_or es k d).0.page; id = (get_or es k d).0.id + place }) ≡ Some u =
    ap (λ (n : ℕ). Some (record { page = (get_or es k d).0.page; id = (get_or es k d).0.id + n })) (sym same)
    ∙ found_by_start es starts k (get_or starts k 0 + place) d s within (omega arith) (omega (arith, few))
    ∙ at in
    ap (λ o. sought (unwrap_or o u)) (sym there) ∙ is

-- ---- controls at places that are passed

get_within : (us : List Usage) (j : ℕ) (u : Usage) → slice_get us j ≡ Some u → j < length us
get_within [] j u is = absurd (cc)
get_within (v ∷ us) zero u is = omega arith
get_within (v ∷ us) (suc j) u is = omega (arith, get_within us j u is)

-- past the list there is no usage
pub past_list : (sought : Usage → Bool) (us : List Usage) (j : ℕ) → length us ≤ j → IsSought sought us j
past_list sought us j past u at = absurd (omega (arith, past, get_within us j u at))

-- at an element's place
element_passed : (sought : Sought) (kind : ControlKind) (n : ℕ) (us : List Usage) (j : ℕ) (u : Usage) → slice_get us j ≡ Some u → sought_by sought u ≡ false
    → is_found sought (option_map (λ v. record { kind = kind; usage = v }) (slice_get (spread_usages n us) j)) ≡ false
element_passed sought kind n us j u at other = by_place (nat_lt j n) refl
  where
    within : j < length us
    within = get_within us j u at

    some : 0 < length us
    some = omega (arith, within)

    by_place : (b : Bool) → nat_lt j n ≡ b → is_found sought (option_map (λ v. record { kind = kind; usage = v }) (slice_get (spread_usages n us) j)) ≡ false
    by_place true t =
        let lt : j < n = grind (arith, nat_tests) in
        let same : min j (length us - 1) ≡ j = omega (arith, within) in
        let get : slice_get (spread_usages n us) j ≡ Some u = spread_usages-get n us j some lt ∙ ap (slice_get us) same ∙ at in
        ap (λ o. is_found sought (option_map (λ v. record { kind = kind; usage = v }) o)) get ∙ other
    by_place false t =
        let past : n ≤ j = grind (arith, nat_tests) in
        ap (λ o. is_found sought (option_map (λ v. record { kind = kind; usage = v }) o)) (spread_usages-past n us j some past)

-- at a key's place, whether the key can be pressed or not
key_passed : (sought : Sought) (item : MainItem) (us : List Usage) (j : ℕ) (u : Usage) → slice_get us j ≡ Some u → sought_by sought u ≡ false
    → is_found sought (control_of_key (slice_get (keys_from item 0 (take 65536 us)) j)) ≡ false
key_passed sought item us j u at other = by_place (nat_lt j 65536) refl
  where
    by_kind : (b : Bool) → is_found sought (control_of_key (Some (record { usage = u; is_switch = b }))) ≡ false
    by_kind true = other
    by_kind false = refl

    by_place : (b : Bool) → nat_lt j 65536 ≡ b → is_found sought (control_of_key (slice_get (keys_from item 0 (take 65536 us)) j)) ≡ false
    by_place true t =
        let lt : j < 65536 = grind (arith, nat_tests) in
        let get : slice_get (keys_from item 0 (take 65536 us)) j ≡ Some (record { usage = u; is_switch = is_key item j u }) = key-get item us j lt ∙ ap (λ o. option_map (λ v. record { usage = v; is_switch = is_key item j v }) o) at in
        ap (λ o. is_found sought (control_of_key o)) get ∙ by_kind (is_key item j u)
    by_place false t =
        let past : 65536 ≤ j = grind (arith, nat_tests) in
        ap (λ o. is_found sought (control_of_key o)) (key-past item us j past)

shape_passed : (sought : Sought) (item : MainItem) (us : List Usage) (shape : Shape) (j : ℕ) (u : Usage) → slice_get us j ≡ Some u → sought_by sought u ≡ false
    → is_found sought (control_in (form_of item us shape) j) ≡ false
shape_passed sought item us Padding j u at other = refl
shape_passed sought item us Variable j u at other = element_passed sought _ item.count us j u at other
shape_passed sought item us Array j u at other = key_passed sought item us j u at other

-- no control that is looked for is at a place that is passed
place_passed_by : (layout : Contents) (i : ℕ) (es : List Entry) (sought : Sought) (j : ℕ) (u : Usage) → i < length layout.items → slice_get layout.entries i ≡ Some es
    → slice_get (usage_list es) j ≡ Some u → sought_by sought u ≡ false → is_found sought (control_in (form_at (items_of layout) i) j) ≡ false
place_passed_by layout i es sought j u within at listed other =
    let item : MainItem = (some_at layout.items i within).0 in
    let there : slice_get layout.items i ≡ Some item = (some_at layout.items i within).1 in
    by_test item there (is_input layout.reports item.report) refl
  where
    by_test : (item : MainItem) → slice_get layout.items i ≡ Some item → (b : Bool) → is_input layout.reports item.report ≡ b → is_found sought (control_in (form_at (items_of layout) i) j) ≡ false
    by_test item there true t =
        ap (λ f. is_found sought (control_in f j)) (form-input layout i item es there at t) ∙ shape_passed sought item (usage_list es) item.shape j u listed other
    by_test item there false t = ap (λ f. is_found sought (control_in f j)) (form-other layout i item es there at t)

-- one more place where none is found
one_more : (sought : Sought) (form : Form) (item n from to : ℕ) → from < to → is_found sought (control_in form from) ≡ false
    → found_from sought form item (from + 1) (n - (from + 1)) ≡ found_from sought form item to (n - to)
    → found_from sought form item from (n - from) ≡ found_from sought form item to (n - to)
one_more sought form item n from to order none rest = by_place (nat_lt from n) refl
  where
    by_place : (b : Bool) → nat_lt from n ≡ b → found_from sought form item from (n - from) ≡ found_from sought form item to (n - to)
    by_place true t =
        let lt : from < n = grind (arith, nat_tests) in
        found_step sought form item from (n - from) (n - (from + 1)) (omega (arith, lt)) none ∙ rest
    by_place false t =
        let past : n ≤ from = grind (arith, nat_tests) in
        found_end sought form item from (n - from) (omega (arith, past)) ∙ sym (found_end sought form item to (n - to) (omega (arith, past, order)))

-- places where none is found don't count
none_between : (sought : Sought) (form : Form) (item n from k : ℕ) → ((j : ℕ) → from ≤ j → j < from + k → is_found sought (control_in form j) ≡ false)
    → found_from sought form item from (n - from) ≡ found_from sought form item (from + k) (n - (from + k))
none_between sought form item n from zero none = ap (λ m. found_from sought form item m (n - m)) (omega arith)
none_between sought form item n from (suc k) none =
    one_more sought form item n from (from + suc k) (omega arith) (none from (omega arith) (omega arith))
    (none_between sought form item n (from + 1) k (λ j low high. none j (omega (arith, low)) (omega (arith, high))) ∙ ap (λ m. found_from sought form item m (n - m)) (omega arith))

-- places that are passed don't count
pub none_passed : (layout : Contents) (i : ℕ) (es : List Entry) (sought : Sought) (n from to : ℕ) → i < length layout.items → slice_get layout.entries i ≡ Some es
    → from ≤ to → ArePassed (λ u. sought_by sought u) (usage_list es) from to
    → found_from sought (form_at (items_of layout) i) i from (n - from) ≡ found_from sought (form_at (items_of layout) i) i to (n - to)
none_passed layout i es sought n from to within at order passed =
    let end : from + (to - from) ≡ to = omega (arith, order) in
    let form = form_at (items_of layout) i in
    none_between sought form i n from (to - from)
    (λ j low high. let there = passed j low (omega (arith, high, order)) in place_passed_by layout i es sought j there.0 within at there.1 there.2)
    ∙ ap (λ m. found_from sought form i m (n - m)) end
