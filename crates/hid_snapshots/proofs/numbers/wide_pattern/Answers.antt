use Rattle.std.proofs.Common.{◌≡◌, ℕ, ◌+◌, ◌-◌, ◌*◌, ◌%◌, ◌^◌, ◌<◌, ◌≤◌, ◌∙◌, List, bit_or, add_comm, sym, ap, arith}
use Rattle.std.proofs.lemmas.Nat.{or_shifted}
use Rattle.std.proofs.Math.Nat.{mod-eq_of_lt}
use Rattle.hid_fields.specs.Field.{pattern_of}
use Rattle.hid_fields.proofs.FieldLemmas.{pattern_of-lt}
use Rattle.hid_fields.proofs.WordLemmas.{pattern_of-add}
use Rattle.std.proofs.Math.Pow.{pow_mono}
use Rattle.hid_snapshots.proofs.numbers.wide_pattern.Goals as goal

joined : (bytes : List ℕ) (at width low high : ℕ) → 32 < width → width ≤ 64 → low ≡ pattern_of bytes at 32 → high ≡ pattern_of bytes (at + 32) (width - 32)
    → bit_or (high * 2 ^ 32 % 2 ^ 64) low ≡ pattern_of bytes at width
joined bytes at width low high wide narrow is is' =
    let n : ℕ = width - 32 in
    let sum : 32 + n ≡ width = omega arith in
    let low_fits : low < 2 ^ 32 = rw is (pattern_of-lt bytes at 32) in
    let high_fits : high < 2 ^ 32 = rw is' (omega (arith, pattern_of-lt bytes (at + 32) n, pow_mono {i = n} {j = 32} (omega arith))) in
    let small : high * 2 ^ 32 < 2 ^ 64 = omega arith in
    let word : bit_or (high * 2 ^ 32 % 2 ^ 64) low ≡ low + high * 2 ^ 32 = rw (mod-eq_of_lt small) (or_shifted high 32 low low_fits ∙ add_comm (high * 2 ^ 32) low) in
    word ∙ ap (λ (x : ℕ). x + high * 2 ^ 32) is ∙ ap (λ (x : ℕ). pattern_of bytes at 32 + x * 2 ^ 32) is'
    ∙ sym (pattern_of-add bytes at 32 n) ∙ ap (pattern_of bytes at) sum

pub returns-else-width-le32 : goal.returns-else-width-le32
returns-else-width-le32 g c =
    rw (c.from-else-width-le32.ensures, c.from-else-width-le32-2.ensures)
    (joined c.args.bytes.now c.args.at c.args.width c.get-low.result c.get-high.result c.if-width-le32.false c.requires.width c.get-low.ensures.pattern c.get-high.ensures.pattern)

pub returns-then-width-le32 : goal.returns-then-width-le32
returns-then-width-le32 g c = c.from.ensures ∙ c.get.ensures.pattern

pub get-requires-clause-inside : goal.get-requires-clause-inside
get-requires-clause-inside g c = c.requires.inside

pub overflow_add-at : goal.overflow_add-at
overflow_add-at g c = record { fits = omega (arith, c.requires.short) }

pub overflow_sub-width : goal.overflow_sub-width
overflow_sub-width g c = omega (arith, c.if-width-le32.false)

pub overflow_cast-width-else-width-le32 : goal.overflow_cast-width-else-width-le32
overflow_cast-width-else-width-le32 g c = record { fits = omega (arith, c.requires.width) }

pub get-high-requires-clause-some : goal.get-high-requires-clause-some
get-high-requires-clause-some g c = omega (arith, c.if-width-le32.false)

pub get-high-requires-clause-width : goal.get-high-requires-clause-width
get-high-requires-clause-width g c = omega (arith, c.requires.width)

pub get-high-requires-clause-inside : goal.get-high-requires-clause-inside
get-high-requires-clause-inside g c = omega (arith, c.if-width-le32.false, c.requires.inside)
