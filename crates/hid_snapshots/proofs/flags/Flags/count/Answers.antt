use Rattle.std.proofs.Common.{◌∙◌, ap, length, arith}
use Rattle.std.specs.Int.{div_ceil}
use Rattle.std.specs.List.{sum_by}
use Rattle.std.specs.Int.RustNames.{count_ones}
use Rattle.std.proofs.lemmas.List.{take_all}
use Rattle.std.proofs.lemmas.List.Sums.{sum_by_more_le}
use Rattle.hid_snapshots.proofs.WordLemmas.{ones, ones_few, enough}
use Rattle.hid_snapshots.proofs.flags.Flags.count.Goals as goal

pub overflow_add-count : goal.overflow_add-count
overflow_add-count c =
    omega (arith, sum_by_more_le count_ones c.words-word-items.result.now c.loop-word.word-index 0 (omega arith), ones_few c.args.self.now, ap (sum_by count_ones) c.words-word-items.ensures, c.len.ensures)

pub returns : goal.returns
returns c =
    let ps = c.args.self.now in
    c.loop-word.invariant ∙ ap (sum_by count_ones) (take_all c.loop-word.word-index c.words-word-items.result.now (omega arith)) ∙ ap (sum_by count_ones) c.words-word-items.ensures ∙ ones (div_ceil (length ps) 64) ps (enough (length ps))
