use Rattle.std.proofs.Common.{◌≡◌, [], ◌∷◌, length, length-append, arith, sym, subst, ap, ◌∙◌}
use Rattle.std.specs.List.{slice_get}
use Rattle.std.proofs.lemmas.Option.{slice_get-get_or}
use Rattle.hid_layout.specs.ArrayCodes.{FitArrays}
use Rattle.hid_layout.proofs.IndexLemmas.{codes_more}
use Rattle.hid_layout.proofs.array_codes.all_codes.Goals as goal

pub array_codes-requires-clause-elements : goal.array_codes-requires-clause-elements
array_codes-requires-clause-elements c =
    c.requires.elements c.loop-i.i _
    (slice_get-get_or c.args.items.now c.loop-i.i _ (omega (arith, c.loop-i-test.true, c.after_arrays-count.ensures)))

pub array_codes-requires-clause-few : goal.array_codes-requires-clause-few
array_codes-requires-clause-few c = c.requires.few c.loop-i.i c.entries.result.now c.entries.ensures

pub loop-i-preserved : goal.loop-i-preserved
loop-i-preserved c = record {
  one_each = omega (arith, ap length c.push_reserved.ensures.items, length-append c.loop-i.codes.items (c.array_codes.result ∷ []), c.loop-i.invariant.one_each);
  arrays =
      let here : slice_get c.args.items.now (length c.loop-i.codes.items) ≡ _ =
      ap (slice_get c.args.items.now) c.loop-i.invariant.one_each
      ∙ slice_get-get_or c.args.items.now c.loop-i.i _
      (omega (arith, c.loop-i-test.true, c.after_arrays-count.ensures)) in
      subst (FitArrays c.args.items.now c.args.lists.now.entries) (sym c.push_reserved.ensures.items)
      (codes_more c.args.items.now _ c.args.lists.now.entries c.entries.result.now c.loop-i.codes.items c.array_codes.result c.loop-i.invariant.arrays here
      (ap (slice_get c.args.lists.now.entries) c.loop-i.invariant.one_each ∙ c.entries.ensures) c.array_codes.ensures);
  room = omega (arith, c.push_reserved.ensures.capacity, c.loop-i.invariant.room);
}
