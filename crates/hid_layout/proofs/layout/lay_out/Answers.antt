use Rattle.std.proofs.Common.{◌≡◌, length, map, sym, subst, ap, ◌∙◌, arith}
use Rattle.std.specs.List.{slice_get}
use Rattle.std.proofs.lemmas.List.{length-map}
use Rattle.hid_report_descriptor.specs.KeptFields.{kept_field_of}
use Rattle.hid_layout.specs.Layout.{item_of}
use Rattle.hid_report_descriptor.specs.Faults.{numbers_from}
use Rattle.hid_report_descriptor.specs.Fields.{fields}
use Rattle.hid_layout.specs.ArrayCodes.{places_from, AreArrayCodes}
use Rattle.hid_layout.specs.Reports.{IsLayout}
use Rattle.hid_layout.proofs.LayoutLemmas.{laid}
use Rattle.hid_layout.proofs.layout.lay_out.Goals as goal

pub of-requires-clause-there : goal.of-requires-clause-there
of-requires-clause-there c i item at =
    let items = c.in_ok-items.ensures ∙ ap (λ r. map (item_of r) c.deref-2.result.now) c.deref.ensures.value ∙ ap (map (item_of c.args.listed.reports.items)) c.deref-2.ensures.value in
    let all = laid c.requires.0 c.args.listed c.in_ok-items.items.items c.requires.1 items in
    omega (arith, (subst IsLayout (sym all) c.requires.2).report_there i item (ap (λ l. slice_get l i) (sym c.deref-3.ensures.value) ∙ at), c.len.ensures)

pub all_codes-requires-clause-elements : goal.all_codes-requires-clause-elements
all_codes-requires-clause-elements c i item at =
    let items = c.in_ok-items.ensures ∙ ap (λ r. map (item_of r) c.deref-2.result.now) c.deref.ensures.value ∙ ap (map (item_of c.args.listed.reports.items)) c.deref-2.ensures.value in
    let all = laid c.requires.0 c.args.listed c.in_ok-items.items.items c.requires.1 items in
    (subst IsLayout (sym all) c.requires.2).elements i item (ap (λ l. slice_get l i) (sym c.deref-4.ensures.value) ∙ at)

pub all_codes-requires-clause-few : goal.all_codes-requires-clause-few
all_codes-requires-clause-few c i es at = c.requires.2.few_entries i es (ap (λ l. slice_get l i) (sym c.requires.1.entries) ∙ at)

pub all_codes-requires-clause-one_each : goal.all_codes-requires-clause-one_each
all_codes-requires-clause-one_each c =
    let items = c.in_ok-items.ensures ∙ ap (λ r. map (item_of r) c.deref-2.result.now) c.deref.ensures.value ∙ ap (map (item_of c.args.listed.reports.items)) c.deref-2.ensures.value in
    let all = laid c.requires.0 c.args.listed c.in_ok-items.items.items c.requires.1 items in
    (subst IsLayout (sym all) c.requires.2).entries_there ∙ ap length (sym c.deref-4.ensures.value)

pub invariant_of-result : goal.invariant_of-result
invariant_of-result c =
    let k = c.requires.1 in
    let items = c.in_ok-items.ensures ∙ ap (λ r. map (item_of r) c.deref-2.result.now) c.deref.ensures.value ∙ ap (map (item_of c.args.listed.reports.items)) c.deref-2.ensures.value in
    let n : length c.in_ok-items.items.items ≡ length (fields c.requires.0) =
    ap length items ∙ length-map c.args.listed.fields.items _ ∙ ap length k.heads
    ∙ length-map (fields c.requires.0) kept_field_of in
    let all = laid c.requires.0 c.args.listed c.in_ok-items.items.items k items in
    let reports : c.len.result ≡ length c.args.listed.reports.items = omega (arith, c.len.ensures) in (
      ap length k.paths ∙ length-map (fields c.requires.0) _ ∙ sym n,
      subst IsLayout (sym all) c.requires.2,
      record {
        plans_there =
            c.in_ok-plans.ensures
            ∙ ap (λ l. map (λ r. places_from 0 r l) (numbers_from 0 c.len.result)) c.deref-3.ensures.value
            ∙ ap (λ m. map (λ r. places_from 0 r c.in_ok-items.items.items) (numbers_from 0 m)) reports;
        codes_there = subst (λ l. AreArrayCodes l c.args.listed.lists.entries c.in_ok-codes.codes.items) c.deref-4.ensures.value c.in_ok-codes.ensures;
      },
      omega (arith, n, ap length k.heads, length-map (fields c.requires.0) kept_field_of, k.few),
    )

pub returns : goal.returns
returns c before k =
    laid before c.args.listed c.in_ok-items.items.items k
    (c.in_ok-items.ensures ∙ ap (λ r. map (item_of r) c.deref-2.result.now) c.deref.ensures.value ∙ ap (map (item_of c.args.listed.reports.items)) c.deref-2.ensures.value)
