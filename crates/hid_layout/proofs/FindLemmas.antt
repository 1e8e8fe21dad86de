-- The least control with a usage.
use Rattle.std.proofs.Common.{◌≡◌, ℕ, zero, suc, ◌+◌, ◌-◌, ◌<◌, ◌≤◌, min, Bool, true, false, ◌&&◌, List, [], ◌∷◌, length, take, get_or, refl, sym, ap, ◌∙◌, arith, subst, Option, Some, None, unwrap_or, nat_lt, ℤ}
use Rattle.std.specs.List.{slice_get}
use Rattle.std.specs.Prelude.{map, nat_eq}
use Rattle.std.specs.Option.{option_map}
use Rattle.std.proofs.lemmas.Bool.Decides.{nat_tests}
use Rattle.std.proofs.lemmas.Option.{slice_get-map}
use Rattle.hid_report_descriptor.specs.declared.usage.Usage.{Usage}
use Rattle.hid_layout.specs.declared.main_item.MainItem.{MainItem}
use Rattle.hid_report_descriptor.specs.declared.shape.Shape.{Shape}
use Rattle.hid_report_descriptor.specs.declared.shape.Shape.TheVariants.{Padding, Variable, Array}
use Rattle.hid_layout.specs.declared.control.Control.{Control}
use Rattle.hid_layout.specs.declared.control.ControlKind.{ControlKind}
use Rattle.hid_report_descriptor.specs.Usages.{Entry, entry_count, usage_list, starts_of}
use Rattle.hid_report_descriptor.specs.Fields.{is_padding}
use Rattle.hid_layout.specs.Layout.{Contents}
use Rattle.hid_layout.specs.Reports.{IsLayout}
use Rattle.hid_layout.specs.Controls.{Form, Elements, Keys, spread_usages, keys_from, is_key, is_input, Item, items_of, form_at, form_of, control_of, control_of_item, control_of_key}
use Rattle.hid_layout.specs.declared.control.ControlId.{ControlId}
use Rattle.hid_layout.specs.Finding.{usage_in_form, control_usage, holds}
use Rattle.std.proofs.lemmas.Grind.{common_steps}
use Rattle.std.proofs.lemmas.List.{take_all}
use Rattle.hid_report_descriptor.proofs.Places.{found}
use Rattle.hid_report_descriptor.proofs.StartLemmas.{at_start, next_start, from_start}
use Rattle.hid_layout.proofs.FormLemmas.{spread_usages-get, spread_usages-past, key-get, key-past, some_at, form-input, form-other, control-form, items_from-past}

-- a control's usage stands in the usage list, at its place or before it
pub record Earlier (form : Form) (us : List Usage) (u : Usage) (j : ℕ) : Type 0 where
  pub place : ℕ
  pub before : place ≤ j
  pub listed : slice_get us place ≡ Some u
  pub shown : usage_in_form form place ≡ Some u

element_usage : (kind : ControlKind) (o : Option Usage) → option_map (λ (c : Control). c.usage) (option_map (λ u. record { kind = kind; usage = u }) o) ≡ o
element_usage kind None = refl
element_usage kind (Some u) = refl

of_elements : (kind : ControlKind) (least greatest : ℤ) (n : ℕ) (us : List Usage) (u : Usage) (j : ℕ) → 0 < length us
    → usage_in_form (Elements kind least greatest (spread_usages n us)) j ≡ Some u
    → Earlier (Elements kind least greatest (spread_usages n us)) us u j
of_elements kind least greatest n us u j some h = by_place (nat_lt j n) refl
  where
    e : slice_get (spread_usages n us) j ≡ Some u
    e = sym (element_usage kind (slice_get (spread_usages n us) j)) ∙ h

    by_place : (b : Bool) → nat_lt j n ≡ b → Earlier (Elements kind least greatest (spread_usages n us)) us u j
    by_place false t = let past : n ≤ j = grind (arith, nat_tests) in let none : None ≡ Some u =
        sym (spread_usages-past n us j some past) ∙ e in absurd (cc)
    by_place true t =
        let lt : j < n = grind (arith, nat_tests) in
        let le : min j (length us - 1) ≤ j = omega arith in
        let at : slice_get us (min j (length us - 1)) ≡ Some u = sym (spread_usages-get n us j some lt) ∙ e in
        let same : min (min j (length us - 1)) (length us - 1) ≡ min j (length us - 1) = omega arith in
        record {
          place = min j (length us - 1);
          before = le;
          listed = at;
          shown = element_usage kind (slice_get (spread_usages n us) (min j (length us - 1)))
              ∙ spread_usages-get n us (min j (length us - 1)) some (omega (arith, lt, le)) ∙ ap (slice_get us) same
              ∙ at;
        }

key_usage : (item : MainItem) (j : ℕ) (o : Option Usage) (u : Usage) → option_map (λ (c : Control). c.usage) (control_of_key (option_map (λ v. record { usage = v; is_switch = is_key item j v }) o)) ≡ Some u → o ≡ Some u
key_usage item j None u h = absurd (cc)
key_usage item j (Some v) u h = by_test (is_key item j v) h
  where
    by_test : (b : Bool) → option_map (λ (c : Control). c.usage) (control_of_key (Some (record { usage = v; is_switch = b }))) ≡ Some u → Some v ≡ Some u
    by_test true e = e
    by_test false e = absurd (cc)

of_keys : (item : MainItem) (elements : ℕ) (rolls : Bool) (us : List Usage) (u : Usage) (j : ℕ)
    → usage_in_form (Keys elements rolls (keys_from item 0 (take 65536 us))) j ≡ Some u
    → Earlier (Keys elements rolls (keys_from item 0 (take 65536 us))) us u j
of_keys item elements rolls us u j h = by_place (nat_lt j 65536) refl
  where
    by_place : (b : Bool) → nat_lt j 65536 ≡ b → Earlier (Keys elements rolls (keys_from item 0 (take 65536 us))) us u j
    by_place false t =
        let past : 65536 ≤ j = grind (arith, nat_tests) in
        let none : None ≡ Some u = ap (λ o. option_map (λ (c : Control). c.usage) (control_of_key o)) (sym (key-past item us j past)) ∙ h in absurd (cc)
    by_place true t =
        let lt : j < 65536 = grind (arith, nat_tests) in
        record {
          place = j;
          before = omega arith;
          listed = key_usage item j (slice_get us j) u (ap (λ o. option_map (λ (c : Control). c.usage) (control_of_key o)) (sym (key-get item us j lt)) ∙ h);
          shown = h;
        }

pub of_form : (item : MainItem) (us : List Usage) (shape : Shape) (u : Usage) (j : ℕ) → 0 < length us
    → usage_in_form (form_of item us shape) j ≡ Some u → Earlier (form_of item us shape) us u j
of_form item us Padding u j some h = absurd (cc)
of_form item us Variable u j some h = of_elements _ _ _ item.count us u j some h
of_form item us Array u j some h = of_keys item _ _ us u j h

get_within : {A : Type 0} (xs : List A) (i : ℕ) (x : A) → slice_get xs i ≡ Some x → i < length xs
get_within [] i x h = absurd (cc)
get_within (y ∷ xs) zero x h = omega arith
get_within (y ∷ xs) (suc i) x h = omega (arith, get_within xs i x h)

of_shape : (item : MainItem) (us : List Usage) (shape : Shape) (u : Usage) (j : ℕ)
    → (is_padding shape ≡ false → 0 < length us) → usage_in_form (form_of item us shape) j ≡ Some u
    → Earlier (form_of item us shape) us u j
of_shape item us Padding u j some h = absurd (cc)
of_shape item us Variable u j some h = of_form item us Variable u j (some refl) h
of_shape item us Array u j some h = of_keys item _ _ us u j h

-- a control's usage stands in the usage list of the item at its place, at its own place or before it
pub of_layout : (layout : Contents) (i : ℕ) (es : List Entry) (u : Usage) (j : ℕ) → IsLayout layout
    → i < length layout.items → slice_get layout.entries i ≡ Some es
    → usage_in_form (form_at (items_of layout) i) j ≡ Some u
    → Earlier (form_at (items_of layout) i) (usage_list es) u j
of_layout layout i es u j is within at h =
    let item : MainItem = (some_at layout.items i within).0 in
    let there : slice_get layout.items i ≡ Some item = (some_at layout.items i within).1 in
    by_test item there (is_input layout.reports item.report) refl
  where
    by_test : (item : MainItem) → slice_get layout.items i ≡ Some item → (b : Bool) → is_input layout.reports item.report ≡ b → Earlier (form_at (items_of layout) i) (usage_list es) u j
    by_test item there true t =
        let e : form_at (items_of layout) i ≡ form_of item (usage_list es) item.shape = form-input layout i item es there at t in
        subst (λ f. Earlier f (usage_list es) u j) (sym e)
        (of_shape item (usage_list es) item.shape u j (is.some_usage i item es there at)
        (ap (λ f. usage_in_form f j) (sym e) ∙ h))
    by_test item there false t =
        let none : None ≡ Some u =
        ap (λ f. usage_in_form f j) (sym (form-other layout i item es there at t)) ∙ h in absurd (cc)

-- where a usage stands in a range
held : (e : Entry) (u : Usage) (r : ℕ) → r < entry_count e → Some (record { page = e.0.page; id = e.0.id + r }) ≡ Some u → (holds e u ≡ true) × (r ≡ u.id - e.0.id)
held e u r lt h =
    let page : e.0.page ≡ u.page = ap (λ o. (unwrap_or o u).page) h in
    let id : e.0.id + r ≡ u.id = ap (λ o. (unwrap_or o u).id) h in
    let low : e.0.id ≤ u.id = omega (arith, id) in
    let high : u.id ≤ e.1.id = omega (arith, id, lt) in
    (grind (arith, nat_tests), omega (arith, id))

-- what the rounds of the search know, and what they find
abbrev pub NoneBefore : Form → List Usage → Usage → ℕ → Type 0
NoneBefore form us u n = (j : ℕ) → j < n → slice_get us j ≡ Some u → usage_in_form form j ≡ Some u → ⊥

pub next_range : (form : Form) (es : List Entry) (starts : List ℕ) (u : Usage) (k : ℕ) (d : Entry) → starts ≡ starts_of es → k < length es → NoneBefore form (usage_list es) u (length (usage_list (take k es)))
    → (holds (get_or es k d) u ≡ true
    → usage_in_form form (get_or starts k 0 + (u.id - (get_or es k d).0.id)) ≡ Some u → ⊥)
    → NoneBefore form (usage_list es) u (length (usage_list (take (k + 1) es)))
next_range form es starts u k d s within none not_here j lt at shown = by_place (nat_lt j (length (usage_list (take k es)))) refl
  where
    by_place : (b : Bool) → nat_lt j (length (usage_list (take k es))) ≡ b → ⊥
    by_place true t = none j (grind (arith, nat_tests)) at shown
    by_place false t =
        let le : length (usage_list (take k es)) ≤ j = grind (arith, nat_tests) in
        let start : get_or starts k 0 ≡ length (usage_list (take k es)) = at_start es starts k s within in
        let here = held (get_or es k d) u (j - length (usage_list (take k es))) (omega (arith, lt, next_start es k d within, le)) (sym (found es k (j - length (usage_list (take k es))) d within (omega (arith, lt, next_start es k d within, le))) ∙ sym (from_start es k j le) ∙ at) in
        let same : j ≡ get_or starts k 0 + (u.id - (get_or es k d).0.id) = omega (arith, start, here.1, le) in
        not_here here.0 (ap (usage_in_form form) (sym same) ∙ shown)

in_bounds : (e : Entry) (u : Usage) → holds e u ≡ true → (e.0.id ≤ u.id) × (u.id ≤ e.1.id)
in_bounds e u h = (grind (arith, common_steps, nat_tests), grind (arith, common_steps, nat_tests))

pub least_here : (form : Form) (es : List Entry) (starts : List ℕ) (u : Usage) (k i : ℕ) (d : Entry) → starts ≡ starts_of es → k < length es → NoneBefore form (usage_list es) u (length (usage_list (take k es)))
    → holds (get_or es k d) u ≡ true → i < get_or starts k 0 + (u.id - (get_or es k d).0.id) → Earlier form (usage_list es) u i → ⊥
least_here form es starts u k i d s within none h lt e = by_place (nat_lt e.place (length (usage_list (take k es)))) refl
  where
    by_place : (b : Bool) → nat_lt e.place (length (usage_list (take k es))) ≡ b → ⊥
    by_place true t = none e.place (grind (arith, nat_tests)) e.listed e.shown
    by_place false t =
        let le : length (usage_list (take k es)) ≤ e.place = grind (arith, nat_tests) in
        let start : get_or starts k 0 ≡ length (usage_list (take k es)) = at_start es starts k s within in
        let high : (get_or es k d).0.id ≤ u.id = (in_bounds (get_or es k d) u h).0 in
        let top : u.id ≤ (get_or es k d).1.id = (in_bounds (get_or es k d) u h).1 in
        let r : e.place - length (usage_list (take k es)) < entry_count (get_or es k d) = omega (arith, lt, start, high, top, e.before, le) in
        let here = held (get_or es k d) u (e.place - length (usage_list (take k es))) r (sym (found es k (e.place - length (usage_list (take k es))) d within r) ∙ sym (from_start es k e.place le) ∙ e.listed) in
        absurd (omega (arith, start, here.1, le, lt, e.before))

pub none_there : (form : Form) (es : List Entry) (u : Usage) (k i : ℕ) → length es ≤ k → NoneBefore form (usage_list es) u (length (usage_list (take k es))) → Earlier form (usage_list es) u i → ⊥
none_there form es u k i le none e = none e.place (omega (arith, get_within (usage_list es) e.place u e.listed, ap (λ l. length (usage_list l)) (take_all k es le))) e.listed e.shown

-- what stands at a place, by the control there
pub shown_by : (items : List Item) (i j : ℕ) (o : Option Control) (u : Usage)
    → o ≡ control_of items (record { item = i; index = j }) → usage_in_form (form_at items i) j ≡ Some u
    → option_map (λ (c : Control). c.usage) o ≡ Some u
shown_by items i j o u e h = ap (option_map (λ (c : Control). c.usage)) (e ∙ control-form items (record { item = i; index = j })) ∙ h

pub none_shown : (u : Usage) (o : Option Control) → o ≡ None → option_map (λ (c : Control). c.usage) o ≡ Some u → ⊥
none_shown u None e h = absurd (cc)
none_shown u (Some k) e h = absurd (cc)

pub other_shown : (u : Usage) (o : Option Control) (k : Control) → o ≡ Some k → (nat_eq k.usage.page u.page && nat_eq k.usage.id u.id) ≡ false → option_map (λ (c : Control). c.usage) o ≡ Some u → ⊥
other_shown u o k e t h =
    let same : k.usage ≡ u = ap (λ o. unwrap_or o u) (ap (option_map (λ (c : Control). c.usage)) (sym e) ∙ h) in
    let itself : (nat_eq u.page u.page && nat_eq u.id u.id) ≡ false = subst (λ (v : Usage). (nat_eq v.page u.page && nat_eq v.id u.id) ≡ false) same t in
    absurd (grind (arith, common_steps, nat_tests))

pub starts_at : (starts : List (List ℕ)) (ess : List (List Entry)) (i : ℕ) (s : List ℕ) (es : List Entry) → starts ≡ map starts_of ess → slice_get starts i ≡ Some s → slice_get ess i ≡ Some es → s ≡ starts_of es
starts_at starts ess i s es e a b = ap (λ o. unwrap_or o s) (sym a ∙ ap (λ l. slice_get l i) e ∙ slice_get-map starts_of ess i ∙ ap (option_map starts_of) b)

pub none_past : (layout : Contents) (d : ControlId) (u : Usage) → length layout.items ≤ d.item
    → control_usage (items_of layout) d ≡ Some u → ⊥
none_past layout d u le h =
    let none : None ≡ Some u = ap (λ o. option_map (λ (c : Control). c.usage) (control_of_item d.index o)) (sym (items_from-past layout layout.items layout.entries d.item le)) ∙ h in absurd (cc)
