use Rattle.std.proofs.Common.{◌≡◌, min, length, sym, ap, ◌∙◌, arith, w64}
use mir.Val.{to_z, of_z}
use Rattle.std.specs.Prelude.{is_some}
use Rattle.std.proofs.lemmas.Int.{to_z-of_z}
use Rattle.std.proofs.lemmas.Option.{slice_get-get_or}
use Rattle.hid_layout.specs.declared.control.Controls.TheVariants.{Elements, Keys}
use Rattle.hid_report_descriptor.specs.Fields.{is_padding}
use Rattle.hid_report_descriptor.specs.Usages.{usage_list}
use Rattle.hid_layout.specs.Controls.{form_of, controls_of_form, element_kind, least_of, greatest_of, spread_usages, has_place, rollover_from, array_keys}
use Rattle.hid_layout.proofs.FormLemmas.{spread_usages-length, keys-length, rolls_over}
use Rattle.hid_layout.proofs.main_item.MainItem.controls.Goals as goal

pub returns-in-Variable : goal.returns-in-Variable
returns-in-Variable c =
    let item = c.args.self.now in
    let us = usage_list c.args.entries.now in
    let low : to_z w64 (of_z w64 c.least.result) ≡ least_of item = to_z-of_z w64 c.least.result (record { sfits = omega arith }) ∙ c.least.ensures in
    let high : to_z w64 (of_z w64 c.greatest.result) ≡ greatest_of item = to_z-of_z w64 c.greatest.result (record { sfits = omega arith }) ∙ c.greatest.ensures in
    let kind : c.element_kind.result ≡ element_kind item = c.element_kind.ensures in
    let count : length (spread_usages item.count us) ≡ item.count =
    spread_usages-length item.count us (c.requires.some (ap is_padding c.in-Variable.is)) in
    let form : controls_of_form (form_of item us item.shape)
    ≡ Elements (element_kind item) (least_of item) (greatest_of item) (length (spread_usages item.count us)) =
    ap (λ s. controls_of_form (form_of item us s)) c.in-Variable.is in
    cc

pub returns-in-Array : goal.returns-in-Array
returns-in-Array c =
    let item = c.args.self.now in
    let us = usage_list c.args.entries.now in
    let rolls : c.is_some.result ≡ has_place (rollover_from item 0 us) = c.is_some.ensures ∙ ap is_some (c.requires.codes _ (slice_get-get_or c.args.codes.now c.args.place _ (c.requires.kept c.in-Array.is)) c.in-Array.is).for_rollover ∙ rolls_over item us in
    let count : c.min.result ≡ length (array_keys item us) = c.min.ensures ∙ ap (λ n. min n 65536) c.usage_count.ensures.value ∙ sym (keys-length item us) in
    let form : controls_of_form (form_of item us item.shape)
    ≡ Keys item.count (has_place (rollover_from item 0 us)) (length (array_keys item us)) =
    ap (λ s. controls_of_form (form_of item us s)) c.in-Array.is in
    cc
