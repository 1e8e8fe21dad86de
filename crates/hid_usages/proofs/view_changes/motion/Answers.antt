use Rattle.std.proofs.Common.{◌≡◌, ◌∙◌, Some, ℤ, ap, sym, to_z, of_z, w64, rules}
use Rattle.std.proofs.lemmas.Int.{to_z-of_z}
use Rattle.hid_snapshots.proofs.ListLemmas.{map_at}
use Rattle.hid_usages.specs.Reading.{read_motion}
use Rattle.hid_usages.proofs.view_changes.motion.Goals as goal

pub returns : goal.returns
returns g c =
    let read = read_motion c.args.bounds.now.least c.args.bounds.now.greatest in
    let kept : to_z w64 (of_z w64 c.number.result) ≡ c.number.result = search (rules, to_z-of_z) in
    let by_kept : to_z w64 (of_z w64 c.read_motion.result) ≡ c.read_motion.result = search (rules, to_z-of_z) in
    map_at read c.args.numbers.now c.args.index c.number.result c.number.ensures
    ∙ ap (λ (by : ℤ). Some by) (ap read (sym kept) ∙ sym c.read_motion.ensures ∙ sym by_kept)
