-- The last mark of a word, and the controls of a layout, one by one.
use Rattle.std.proofs.Common.{◌≡◌, ℕ, ◌+◌, ◌-◌, ◌<◌, ◌≤◌, zero, suc, Bool, true, false, List, [], ◌∷◌, ◌++◌, length, drop, get_or, Option, None, Some, cond, nat_eq, refl, sym, ap, subst, IfSome, ◌∙◌, arith}
use Rattle.std.proofs.lemmas.List.{at_drop_more, at_drop_all}
use Rattle.std.proofs.lemmas.List.Elements.{filter-append}
use Rattle.std.specs.Prelude.{slice_get}
use Rattle.std.specs.List.{filter}
use Rattle.std.specs.Option.{option_map}
use Rattle.hid_report_descriptor.specs.declared.usage.Usage.{Usage}
use Rattle.hid_layout.specs.declared.control.ControlId.{ControlId}
use Rattle.hid_layout.specs.declared.control.Control.{Control}
use Rattle.hid_layout.specs.declared.main_item.MainItem.{MainItem}
use Rattle.hid_layout.specs.Layout.{Contents}
use Rattle.hid_report_descriptor.specs.Usages.{Entry}
use Rattle.hid_layout.specs.Controls.{items_of, items_from, Item, Form, NoControls, Elements, Keys, control_in, control_of, control_of_item, form_at, form_of_item, controls_of_form}
use Rattle.lab_lines.specs.declared.control_name.Sought.{Sought}
use Rattle.lab_lines.specs.ControlNames.{either, mark_after, last_mark, onto, place_count, places_of, controls_from, item_controls, controls_of_items, sought_by, is_found}

-- ---- marks

mark_one : (b : ℕ) (word : List ℕ) → last_mark (b ∷ word) ≡ either (option_map suc (last_mark word)) (cond (nat_eq b 35) (Some 0) None)
unfolding last_mark
mark_one b word = refl

mark_none : last_mark [] ≡ None
unfolding last_mark
mark_none = refl

later : (i : ℕ) (o : Option ℕ) (t : Bool) (mark : Option ℕ)
    → either (option_map (λ k. i + k) (either (option_map suc o) (cond t (Some 0) None))) mark ≡ either (option_map (λ k. (i + 1) + k) o) (cond t (Some i) mark)
later i (Some k) t mark = ap Some (omega arith)
later i None true mark = ap Some (omega arith)
later i None false mark = refl

-- one more byte of a word
pub mark_step : (word : List ℕ) (i : ℕ) (mark next all : Option ℕ) → either (option_map (λ k. i + k) (last_mark (drop i word))) mark ≡ all → i < length word
    → next ≡ mark_after mark i (get_or word i 0) → either (option_map (λ k. (i + 1) + k) (last_mark (drop (i + 1) word))) next ≡ all
mark_step word i mark next all is below step =
    ap (λ m. either (option_map (λ k. (i + 1) + k) (last_mark (drop (i + 1) word))) m) step
    ∙ sym (later i (last_mark (drop (i + 1) word)) (nat_eq (get_or word i 0) 35) mark)
    ∙ ap (λ o. either (option_map (λ k. i + k) o) mark) (sym (at_drop_more last_mark word i 0 below ∙ mark_one (get_or word i 0) (drop (i + 1) word)))
    ∙ is

within : (t : Bool) (mark : Option ℕ) (i : ℕ) → IfSome mark (λ m. m < i) → IfSome (cond t (Some i) mark) (λ m. m < i + 1)
within true mark i h = omega arith
within false None i h = tt
within false (Some m) i h = omega (arith, h)

-- a mark stands among the bytes so far
pub mark_within : (mark next : Option ℕ) (i b : ℕ) → next ≡ mark_after mark i b → IfSome mark (λ m. m < i) → IfSome next (λ m. m < i + 1)
mark_within mark next i b is old = subst (λ o. IfSome o (λ m. m < i + 1)) (sym is) (within (nat_eq b 35) mark i old)

-- the end of a word
pub mark_end : (word : List ℕ) (i : ℕ) (mark all : Option ℕ) → either (option_map (λ k. i + k) (last_mark (drop i word))) mark ≡ all → length word ≤ i → mark ≡ all
mark_end word i mark all is past =
    sym (ap (λ o. either (option_map (λ k. i + k) o) mark) (at_drop_all last_mark word i past ∙ mark_none)) ∙ is

-- ---- controls of an item

-- an item's control, by its place
abbrev pub id_at : ℕ → ℕ → ControlId
id_at item index = record { item = item; index = index }

-- those that are looked for, of so many places from one on
abbrev pub found_from : Sought → Form → ℕ → ℕ → ℕ → List (ControlId × Usage)
found_from sought form item index n = filter (λ c. sought_by sought c.1) (controls_from form item index n)

onto_found : (sought : Sought) (id : ControlId) (control : Option Control) (more : List (ControlId × Usage)) → is_found sought control ≡ true
    → (usage : Usage) × (filter (λ c. sought_by sought c.1) (onto id control more) ≡ (id, usage) ∷ filter (λ c. sought_by sought c.1) more)
onto_found sought id None more is = cc
onto_found sought id (Some control) more is = (control.usage, rw is refl)

onto_passed : (sought : Sought) (id : ControlId) (control : Option Control) (more : List (ControlId × Usage)) → is_found sought control ≡ false
    → filter (λ c. sought_by sought c.1) (onto id control more) ≡ filter (λ c. sought_by sought c.1) more
onto_passed sought id None more is = refl
onto_passed sought id (Some control) more is = rw is refl

one_place : (form : Form) (item index n m : ℕ) → n ≡ suc m → controls_from form item index n ≡ onto (id_at item index) (control_in form index) (controls_from form item (index + 1) m)
unfolding controls_from
one_place form item index n m is = rw is refl

no_place : (form : Form) (item index : ℕ) → controls_from form item index 0 ≡ []
unfolding controls_from
no_place form item index = refl

pub count_same : (form : Form) → places_of (controls_of_form form) ≡ place_count form
count_same NoControls = refl
count_same (Elements kind least greatest usages) = refl
count_same (Keys elements rolls keys) = refl

control_same : (items : List Item) (item index : ℕ) → control_of items (id_at item index) ≡ control_in (form_at items item) index
control_same items item index = elim (slice_get items item) as (λ o. control_of_item index o ≡ control_in (form_of_item o) index) [ None ↦ refl | Some x ↦ refl ]

-- a place where none is found doesn't count
pub found_step : (sought : Sought) (form : Form) (item index n m : ℕ) → n ≡ suc m → is_found sought (control_in form index) ≡ false
    → found_from sought form item index n ≡ found_from sought form item (index + 1) m
found_step sought form item index n m is none =
    ap (λ l. filter (λ c. sought_by sought c.1) l) (one_place form item index n m is)
    ∙ onto_passed sought (id_at item index) (control_in form index) (controls_from form item (index + 1) m) none

-- at no place none is found
pub found_end : (sought : Sought) (form : Form) (item index n : ℕ) → n ≡ 0 → found_from sought form item index n ≡ []
found_end sought form item index n none =
    ap (λ k. found_from sought form item index k) none ∙ ap (λ l. filter (λ c. sought_by sought c.1) l) (no_place form item index)

-- what is still looked for: of all that are looked for, the one after so many is the one after so many of those left
abbrev pub IsLeft : List (ControlId × Usage) → ℕ → List (ControlId × Usage) → ℕ → Type 0
IsLeft all before rest left = (slice_get all before ≡ slice_get rest left) × (before + length rest ≡ left + length all)

-- a place where none that is looked for stands
pub place_passed : (items : List Item) (sought : Sought) (item index n m : ℕ) (all : List (ControlId × Usage)) (before left : ℕ) (here : Bool) → n ≡ suc m
    → IsLeft all before (found_from sought (form_at items item) item index n) left
    → here ≡ is_found sought (control_of items (id_at item index)) → here ≡ false
    → IsLeft all before (found_from sought (form_at items item) item (index + 1) m) left
place_passed items sought item index n m all before left here is was there none =
    let form = form_at items item in
    let step = ap (λ l. filter (λ c. sought_by sought c.1) l) (one_place form item index n m is)
    ∙ onto_passed sought (id_at item index) (control_in form index) (controls_from form item (index + 1) m) (sym (ap (is_found sought) (control_same items item index)) ∙ sym there ∙ none) in
    rw step at was

-- the place that is looked for
pub place_found : (items : List Item) (sought : Sought) (item index n m : ℕ) (all : List (ControlId × Usage)) (before left : ℕ) (here : Bool) → n ≡ suc m
    → IsLeft all before (found_from sought (form_at items item) item index n) left
    → here ≡ is_found sought (control_of items (id_at item index)) → here ≡ true → left ≡ 0
    → option_map (λ c. c.0) (slice_get all before) ≡ Some (id_at item index)
place_found items sought item index n m all before left here is was there some last =
    let form = form_at items item in
    let one = onto_found sought (id_at item index) (control_in form index) (controls_from form item (index + 1) m) (sym (ap (is_found sought) (control_same items item index)) ∙ sym there ∙ some) in
    let step = ap (λ l. filter (λ c. sought_by sought c.1) l) (one_place form item index n m is) ∙ one.1 in
    let found : slice_get all before ≡ Some (id_at item index, one.0) = was.0 ∙ ap (λ l. slice_get l left) step ∙ ap (λ k. slice_get ((id_at item index, one.0) ∷ found_from sought form item (index + 1) m) k) last in
    ap (λ o. option_map (λ c. c.0) o) found

behind : (c : ControlId × Usage) (rest : List (ControlId × Usage)) (left : ℕ) → 0 < left → slice_get (c ∷ rest) left ≡ slice_get rest (left - 1)
behind c rest zero some = absurd (omega arith)
behind c rest (suc n) some = ap (λ k. slice_get rest k) (omega arith)

-- a place that is counted
pub place_counted : (items : List Item) (sought : Sought) (item index n m : ℕ) (all : List (ControlId × Usage)) (before left : ℕ) (here : Bool) → n ≡ suc m
    → IsLeft all before (found_from sought (form_at items item) item index n) left
    → here ≡ is_found sought (control_of items (id_at item index)) → here ≡ true → 0 < left
    → IsLeft all before (found_from sought (form_at items item) item (index + 1) m) (left - 1)
place_counted items sought item index n m all before left here is was there some more =
    let form = form_at items item in
    let one = onto_found sought (id_at item index) (control_in form index) (controls_from form item (index + 1) m) (sym (ap (is_found sought) (control_same items item index)) ∙ sym there ∙ some) in
    let step = ap (λ l. filter (λ c. sought_by sought c.1) l) (one_place form item index n m is) ∙ one.1 in (
      was.0 ∙ ap (λ l. slice_get l left) step ∙ behind (id_at item index, one.0) (found_from sought form item (index + 1) m) left more,
      omega (arith, was.1, ap length step, more),
    )

-- no place is left
pub places_end : (sought : Sought) (form : Form) (item index n : ℕ) (all : List (ControlId × Usage)) (before left : ℕ) → n ≡ 0
    → IsLeft all before (found_from sought form item index n) left → before ≡ length all + left
places_end sought form item index n all before left none was =
    let empty = ap (λ k. found_from sought form item index k) none ∙ ap (λ l. filter (λ c. sought_by sought c.1) l) (no_place form item index) in
    omega (arith, was.1, ap length empty)

-- ---- controls of a layout

pub items_step : (items : List Item) (i k : ℕ) → controls_of_items k (drop i items) ≡ item_controls (form_at items i) k ++ controls_of_items (k + 1) (drop (i + 1) items)
unfolding controls_of_items controls_from
items_step [] zero k = refl
items_step [] (suc i) k = sym (at_drop_all (λ l. controls_of_items (k + 1) l) [] (suc i + 1) (omega arith))
items_step (item ∷ items) zero k = refl
items_step (item ∷ items) (suc i) k =
    let next : suc (i + 1) ≡ suc i + 1 = omega arith in
    items_step items i k ∙ ap (λ n. item_controls (form_at items i) k ++ controls_of_items (k + 1) (drop n (item ∷ items))) next

-- one that is among the first of two lists
pub in_front : (mine more : List (ControlId × Usage)) (n : ℕ) (id : ControlId) → option_map (λ c. c.0) (slice_get mine n) ≡ Some id → option_map (λ c. c.0) (slice_get (mine ++ more) n) ≡ Some id
in_front [] more n id is = cc
in_front (c ∷ mine) more zero id is = is
in_front (c ∷ mine) more (suc n) id is = in_front mine more n id is

suc_plus : (m n : ℕ) → suc m + n ≡ suc (m + n)
suc_plus m n = omega arith

-- one that is behind the first of two lists
pub in_back : (mine more : List (ControlId × Usage)) (left : ℕ) → slice_get (mine ++ more) (length mine + left) ≡ slice_get more left
in_back [] more left = ap (λ n. slice_get more n) (omega arith)
in_back (c ∷ mine) more left = ap (λ n. slice_get (c ∷ (mine ++ more)) n) (suc_plus (length mine) left) ∙ in_back mine more left

-- an item's controls before those of the items after it
pub item_first : (sought : Sought) (items : List Item) (i : ℕ) → filter (λ c. sought_by sought c.1) (controls_of_items i (drop i items))
    ≡ filter (λ c. sought_by sought c.1) (item_controls (form_at items i) i) ++ filter (λ c. sought_by sought c.1) (controls_of_items (i + 1) (drop (i + 1) items))
item_first sought items i =
    ap (λ l. filter (λ c. sought_by sought c.1) l) (items_step items i i)
    ∙ filter-append (λ c. sought_by sought c.1) (item_controls (form_at items i) i) (controls_of_items (i + 1) (drop (i + 1) items))

items_short : (layout : Contents) (items : List MainItem) (ess : List (List Entry)) → length (items_from layout items ess) ≤ length items
unfolding items_from
items_short layout [] ess = omega arith
items_short layout (item ∷ items) [] = omega arith
items_short layout (item ∷ items) (es ∷ ess) = omega (arith, items_short layout items ess)

no_items : (i : ℕ) → controls_of_items i [] ≡ []
unfolding controls_of_items
no_items i = refl

-- no item is left
pub items_end : (sought : Sought) (layout : Contents) (i left : ℕ) → length layout.items ≤ i
    → slice_get (filter (λ c. sought_by sought c.1) (controls_of_items i (drop i (items_of layout)))) left ≡ None
items_end sought layout i left past =
    at_drop_all (λ l. slice_get (filter (λ c. sought_by sought c.1) (controls_of_items i l)) left) (items_of layout) i (omega (arith, items_short layout layout.items layout.entries, past))
    ∙ ap (λ l. slice_get (filter (λ c. sought_by sought c.1) l) left) (no_items i)
