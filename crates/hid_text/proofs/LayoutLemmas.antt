-- The lines of a layout, one after the other, and those of the reports and items that are there.
use Rattle.std.proofs.Common.{◌≡◌, ℕ, ◌+◌, ◌<◌, ◌≤◌, false, Some, Result, OnOk, List, [], ◌∷◌, ◌++◌, length, get_or, take, add-one, append_assoc, refl, sym, ap, ◌∙◌}
use Rattle.std.specs.Prelude.{◌==◌, slice_get, codes}
use Rattle.std.specs.List.{flat_map}
use Rattle.std.proofs.lemmas.List.{flat_map_more, take_more, take_all}
use Rattle.std.specs.declared.alloc.AllocError.{AllocError}
use Rattle.hid_report_descriptor.specs.declared.collection.Collection.{Collection}
use Rattle.hid_report_descriptor.specs.declared.report.Report.{Report}
use Rattle.hid_report_descriptor.specs.Usages.{Entry}
use Rattle.hid_layout.specs.declared.main_item.MainItem.{MainItem}
use Rattle.hid_layout.specs.Layout.{Contents}
use Rattle.hid_layout.specs.Reports.{IsLayout, report_bytes}
use Rattle.hid_notation.specs.Text.{concat_below}
use Rattle.hid_text.specs.LayoutText.{report_line, report_text_at, item_line, item_text_at, collection_text, path_text, layout_lines}
use Rattle.hid_text.proofs.ValueLemmas.{same_stands}

-- one line more after those that stand
pub joined_next : (text : ℕ → List ℕ) (n : ℕ) (start old new : List ℕ) → old ≡ start ++ concat_below n text
    → new ≡ old ++ text n → new ≡ start ++ concat_below (n + 1) text
joined_next text n start old new so_far more =
    more ∙ ap (λ l. l ++ text n) so_far ∙ append_assoc start (concat_below n text) (text n) ∙ rw add-one refl

-- one word more, after a space
pub word_next : {A : Type 0} (text : A → List ℕ) (xs : List A) (i : ℕ) (d : A) (start old spaced new : List ℕ) → i < length xs → old ≡ start ++ flat_map (λ x. 32 ∷ text x) (take i xs) → spaced ≡ old ++ 32 ∷ []
    → new ≡ spaced ++ text (get_or xs i d) → new ≡ start ++ flat_map (λ x. 32 ∷ text x) (take (i + 1) xs)
word_next text xs i d start old spaced new below so_far space more =
    let word = text (get_or xs i d) in
    more ∙ ap (λ l. l ++ word) space ∙ append_assoc old (32 ∷ []) word ∙ ap (λ l. l ++ 32 ∷ word) so_far ∙ flat_map_more (λ x. 32 ∷ text x) start (take i xs) (get_or xs i d)
    ∙ ap (λ l. start ++ flat_map (λ x. 32 ∷ text x) l) (sym (take_more xs i d below))

-- a path is its collections, where there are some
pub path_whole : (path : List Collection) (i : ℕ) (old new : List ℕ) → (length path == 0) ≡ false → length path ≤ i → new ≡ (old ++ codes " in") ++ flat_map (λ c. 32 ∷ collection_text c) (take i path) → new ≡ old ++ path_text path
path_whole [] i old new some all is = absurd (cc)
path_whole (collection ∷ inner) i old new some all is =
    is ∙ ap (λ cs. (old ++ codes " in") ++ flat_map (λ c. 32 ∷ collection_text c) cs) (take_all i (collection ∷ inner) all) ∙ append_assoc old (codes " in") _

-- a layout's lines are those of its reports and of its items
pub lines_whole : (layout : Contents) (n : ℕ) (old new : List ℕ) → n ≡ length layout.items
    → new ≡ (old ++ concat_below (length layout.reports) (λ r. report_text_at layout r (slice_get layout.reports r)))
    ++ concat_below n (λ i. item_text_at layout i (slice_get layout.items i))
    → new ≡ old ++ layout_lines layout
unfolding layout_lines
lines_whole layout n old new all is = is ∙ rw all (append_assoc old _ _)

-- what was added is the report's line
pub report_printed : (layout : Contents) (i size : ℕ) (reports : List Report) (e : Report) (r : Result (Unit {0}) AllocError) (old new : List ℕ) → reports ≡ layout.reports → i < length layout.reports → size ≡ report_bytes layout i
    → OnOk r (new ≡ old ++ report_line (get_or reports i e) size)
    → OnOk r (new ≡ old ++ report_text_at layout i (slice_get layout.reports i))
report_printed layout i size reports e r old new same below is h = rw (same_stands layout.reports reports i e same below, ← is) h

-- an item's report is there
pub report_of_item : (layout : Contents) (i : ℕ) (items : List MainItem) (d : MainItem) → IsLayout layout → items ≡ layout.items → i < length layout.items → (get_or items i d).report < length layout.reports
report_of_item layout i items d laid is below = laid.report_there i (get_or items i d) (same_stands layout.items items i d is below)

-- what was added is the item's line
pub item_printed : (layout : Contents) (i : ℕ) (items : List MainItem) (d : MainItem) (reports : List Report) (e : Report) (entries : List Entry) (path : List Collection) (r : Result (Unit {0}) AllocError) (old new : List ℕ)
    → IsLayout layout → items ≡ layout.items → reports ≡ layout.reports → i < length layout.items → slice_get layout.entries i ≡ Some entries → slice_get layout.paths i ≡ Some path
    → OnOk r (new ≡ old ++ item_line i (get_or reports (get_or items i d).report e) (get_or items i d) entries path)
    → OnOk r (new ≡ old ++ item_text_at layout i (slice_get layout.items i))
item_printed layout i items d reports e entries path r old new laid is same below stands ends h =
    let at = same_stands layout.items items i d is below in
    let in_report = same_stands layout.reports reports (get_or items i d).report e same (report_of_item layout i items d laid is below) in
    rw (at, in_report, stands, ends) h
