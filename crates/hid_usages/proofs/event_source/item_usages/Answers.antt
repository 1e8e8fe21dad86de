use Rattle.std.proofs.Common.{◌<◌, length, refl, arith}
use Rattle.hid_usages.proofs.SourceLemmas.{first_there, run_known, run_only, some_listed}
use Rattle.hid_usages.proofs.event_source.item_usages.Goals as goal
use Rattle.hid_usages.proofs.event_source.item_usages.Goals.{then-ranges-entries, else-ranges-entries}

pub first_run-ranges-requires : goal.first_run-ranges-requires
first_run-ranges-requires c =
    let some : 0 < length c.entries-entries.result.now = some_listed c.entries-entries.result.now c.if-is_empty.ensures in
    record { some = some; first = first_there c.entries-entries.result.now _ (record { page = 0; id = 0 }, record { page = 0; id = 0 }) some refl }

pub returns-then-is_empty : goal.returns-then-is_empty
returns-then-is_empty c = c.no_usages.ensures c.args.layout.now c.args.item

pub returns-then-count-eq0 : goal.returns-then-count-eq0
returns-then-count-eq0 c = c.no_usages-then-count-eq0.ensures c.args.layout.now c.args.item

pub returns : goal.returns
returns c =
    elim c.if-ranges-entries.branch [
      | then-ranges-entries w ↦ run_only c.args.layout.now c.args.item c.entries-entries.result.now _ c.first_run-ranges.result c.items.ensures.layout c.entries-entries.ensures c.first_run-ranges.ensures (omega (arith, c.if-count-eq0.false, c.first_run-ranges.ensures.fits)) w.if-ranges-entries.true
      | else-ranges-entries w ↦ run_known c.args.layout.now c.args.item c.entries-entries.result.now _ c.first_run-ranges.result c.entries-entries.ensures c.first_run-ranges.ensures (omega (arith, c.if-count-eq0.false, c.first_run-ranges.ensures.fits)) (omega (arith, w.end-is, c.first_run-ranges.ensures.fits))
    ]
