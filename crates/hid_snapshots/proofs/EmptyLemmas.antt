-- The codes by which arrays tell that an element is empty.
use Rattle.std.proofs.Common.{◌≡◌, ℕ, ◌+◌, ◌&&◌, Bool, true, false, cond, List, drop, Some, refl, sym, ap, ◌∙◌}
use Rattle.std.specs.List.{slice_get}
use Rattle.std.specs.Option.{is_some}
use Rattle.hid_layout.specs.declared.main_item.MainItem.{MainItem}
use Rattle.hid_report_descriptor.specs.declared.shape.Shape.TheVariants.{Array}
use Rattle.hid_report_descriptor.specs.declared.report.Report.{Report}
use Rattle.hid_report_descriptor.specs.Usages.{Entry, usage_list}
use Rattle.hid_layout.specs.Controls.{is_input}
use Rattle.hid_layout.specs.Codes.{empty_number}
use Rattle.hid_snapshots.specs.Codes.{is_array, has_empty_code, empty_codes_from}
use Rattle.hid_snapshots.proofs.ListLemmas.{drop_at}

pub empty_code_there : (reports : List Report) (m : MainItem) (es : List Entry) (b : Bool) → is_input reports m.report ≡ true → m.shape ≡ Array → b ≡ is_some (empty_number m (usage_list es)) → b ≡ has_empty_code reports m es
empty_code_there reports m es b input shape is =
    let array : is_array m.shape ≡ true = ap is_array shape in
    let test : (is_input reports m.report && is_array m.shape) ≡ true = ap (λ (t : Bool). t && is_array m.shape) input ∙ array in
    is ∙ sym (ap (λ (t : Bool). cond t (is_some (empty_number m (usage_list es))) true) test)

pub codes_next : (reports : List Report) (ms : List MainItem) (ess : List (List Entry)) (i : ℕ) (m : MainItem) (es : List Entry) → slice_get ms i ≡ Some m → slice_get ess i ≡ Some es
    → empty_codes_from reports (drop i ms) (drop i ess) ≡ (has_empty_code reports m es && empty_codes_from reports (drop (i + 1) ms) (drop (i + 1) ess))
codes_next reports ms ess i m es h k = rw (drop_at ms i m h, drop_at ess i es k) refl

pub both_false : (a b : Bool) → a ≡ false → (a && b) ≡ false
both_false a b h = ap (λ (t : Bool). t && b) h

pub both_rest : (a b : Bool) → a ≡ true → (a && b) ≡ b
both_rest a b h = ap (λ (t : Bool). t && b) h
