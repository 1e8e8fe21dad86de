-- What is shown of switches depends on no controls.
use Rattle.std.proofs.Common.{◌≡◌, ◌⊎◌, inl, inr, ℕ, Bool, true, false, cond, List, refl, sym, ap, arith}
use Rattle.std.specs.List.{slice_get}
use Rattle.std.specs.Prelude.{Some}
use Rattle.std.proofs.lemmas.Option.{slice_get_within}
use Rattle.hid_report_descriptor.specs.declared.shape.Shape.{Shape}
use Rattle.hid_report_descriptor.specs.declared.shape.Shape.TheVariants.{Padding, Variable}
use Rattle.hid_report_descriptor.specs.declared.usage.Usage.{Usage}
use Rattle.hid_report_descriptor.specs.Usages.{usage_list}
use Rattle.hid_layout.specs.declared.main_item.MainItem.{MainItem}
use Rattle.hid_layout.specs.declared.control.Controls.TheVariants as head
use Rattle.hid_layout.specs.Layout.{Contents}
use Rattle.hid_layout.specs.Reports.{IsLayout, report_bytes}
use Rattle.hid_layout.specs.Controls.{Item, items_of, item_of, form_of, form_at, controls_of_form, is_input, input_item, no_item}
use Rattle.hid_snapshots.specs.declared.control_state.ControlState.TheVariants.{Switches}
use Rattle.hid_snapshots.specs.Parts.{shown_state}
use Rattle.hid_snapshots.proofs.ItemLemmas.{got, items_from-at, form_at-is}

-- the switches of an item that is no array are shown as they are
pub pressed_shows : (layout : Contents) (i : ℕ) (m : MainItem) (ps : List Bool) → IsLayout layout → slice_get layout.items i ≡ Some m → (m.shape ≡ Variable) ⊎ (m.shape ≡ Padding)
    → shown_state head.None (Switches ps) ≡ shown_state (controls_of_form (form_at (items_of layout) i)) (Switches ps)
pressed_shows layout i m ps laid there plain =
    let within = slice_get_within layout.items i m there in
    let es = got layout.entries i (omega (arith, laid.entries_there)) in
    let is = form_at-is (items_of layout) i (item_of layout m es.0) (items_from-at layout layout.items layout.entries i m es.0 there es.1) in
    rw is (by_input (is_input layout.reports m.report) (usage_list es.0))
  where
    of_shape : (us : List Usage) → (m.shape ≡ Variable) ⊎ (m.shape ≡ Padding)
        → Switches ps ≡ shown_state (controls_of_form (form_of m us m.shape)) (Switches ps)
    of_shape us (inl is) = ap (λ (t : Shape). shown_state (controls_of_form (form_of m us t)) (Switches ps)) (sym is)
    of_shape us (inr is) = ap (λ (t : Shape). shown_state (controls_of_form (form_of m us t)) (Switches ps)) (sym is)

    by_input : (b : Bool) (us : List Usage)
        → Switches ps
        ≡ shown_state
        (controls_of_form (let a : Item =
        input_item m.report (report_bytes layout m.report) (form_of m us m.shape) in let z : Item =
        no_item in cond b a z).form) (Switches ps)
    by_input true us = of_shape us plain
    by_input false us = refl
