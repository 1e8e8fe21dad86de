use Rattle.std.proofs.Common.{◌≡◌, ℕ, ◌+◌, ◌∙◌, length, sym, ap, arith}
use Rattle.std.specs.List.{between}
use Rattle.std.proofs.lemmas.List.Edits.{length-between}
use Rattle.hid_snapshots.specs.Numbers.{numbers_in}
use Rattle.hid_snapshots.proofs.NumberLemmas.{part_numbers}
use Rattle.hid_snapshots.proofs.numbers.part_of.Goals as goal

pub returns-clause-numbers : goal.returns-clause-numbers
returns-clause-numbers c = λ signed.
    let first = c.args.first in
    let last = first + c.args.count in
    let long : length (between first last c.args.bytes.now) ≡ c.args.count = length-between c.args.bytes.now first last (omega (arith, c.requires)) ∙ omega arith in
    part_numbers c.args.bytes.now first last signed c.args.count (omega arith) ∙ ap (λ (n : ℕ). numbers_in (between first last c.args.bytes.now) 0 8 signed n) (sym long)
