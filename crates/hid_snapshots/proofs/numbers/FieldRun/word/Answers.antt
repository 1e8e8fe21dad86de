use Rattle.std.proofs.Common.{◌≡◌, ℕ, ◌*◌, ◌<◌, ◌∙◌, Bool, false, ℤ, List, length, sym, ap, subst, arith, rules}
use Rattle.hid_snapshots.specs.Numbers.{numbers_in, IsWordOf}
use Rattle.hid_snapshots.proofs.NumberLemmas.{numbers_in-length, word_is}
use Rattle.hid_snapshots.proofs.numbers.FieldRun.word.Goals as goal

within : (bytes : List ℕ) (at width count index : ℕ) (signed : Bool) (vs : List ℤ) → numbers_in bytes at width signed count ≡ vs → 64 * index < length vs → 64 * index < count
within bytes at width count index signed vs is h = omega (arith, ap length is, numbers_in-length bytes at width signed count)

pub overflow_mul-rest : goal.overflow_mul-rest
overflow_mul-rest g c =
    let inside : 64 * c.args.index < c.self.inside.count = within c.self.inside.bytes.now c.self.inside.at c.self.inside.width c.self.inside.count c.args.index c.self.inside.is_signed c.args.self.now c.self.view_is c.requires in
    let width : c.self.inside.width ≡ 1 = omega arith in
    omega (arith, ap (λ (w : ℕ). w * c.self.inside.count) width, c.self.invariant.short)

pub overflow_sub-rest : goal.overflow_sub-rest
overflow_sub-rest g c =
    let inside : 64 * c.args.index < c.self.inside.count = within c.self.inside.bytes.now c.self.inside.at c.self.inside.width c.self.inside.count c.args.index c.self.inside.is_signed c.args.self.now c.self.view_is c.requires in
    omega arith

pub overflow_mul-index : goal.overflow_mul-index
overflow_mul-index g c =
    let inside : 64 * c.args.index < c.self.inside.count = within c.self.inside.bytes.now c.self.inside.at c.self.inside.width c.self.inside.count c.args.index c.self.inside.is_signed c.args.self.now c.self.view_is c.requires in
    let width : c.self.inside.width ≡ 1 = omega arith in
    omega (arith, ap (λ (w : ℕ). w * c.self.inside.count) width, c.self.invariant.short)

pub overflow_add-self-inside : goal.overflow_add-self-inside
overflow_add-self-inside g c =
    let inside : 64 * c.args.index < c.self.inside.count = within c.self.inside.bytes.now c.self.inside.at c.self.inside.width c.self.inside.count c.args.index c.self.inside.is_signed c.args.self.now c.self.view_is c.requires in
    let width : c.self.inside.width ≡ 1 = omega arith in
    omega (arith, ap (λ (w : ℕ). w * c.self.inside.count) width, c.self.invariant.short)

pub wide_pattern-requires-clause-some : goal.wide_pattern-requires-clause-some
wide_pattern-requires-clause-some g c =
    let inside : 64 * c.args.index < c.self.inside.count = within c.self.inside.bytes.now c.self.inside.at c.self.inside.width c.self.inside.count c.args.index c.self.inside.is_signed c.args.self.now c.self.view_is c.requires in
    omega (arith, c.min.ensures)

pub wide_pattern-requires-clause-inside : goal.wide_pattern-requires-clause-inside
wide_pattern-requires-clause-inside g c =
    let inside : 64 * c.args.index < c.self.inside.count = within c.self.inside.bytes.now c.self.inside.at c.self.inside.width c.self.inside.count c.args.index c.self.inside.is_signed c.args.self.now c.self.view_is c.requires in
    let width : c.self.inside.width ≡ 1 = omega arith in
    omega (arith, c.min.ensures, ap (λ (w : ℕ). w * c.self.inside.count) width, c.self.invariant.inside)

pub wide_pattern-requires-clause-short : goal.wide_pattern-requires-clause-short
wide_pattern-requires-clause-short g c =
    let inside : 64 * c.args.index < c.self.inside.count = within c.self.inside.bytes.now c.self.inside.at c.self.inside.width c.self.inside.count c.args.index c.self.inside.is_signed c.args.self.now c.self.view_is c.requires in
    let width : c.self.inside.width ≡ 1 = omega arith in
    omega (arith, c.min.ensures, ap (λ (w : ℕ). w * c.self.inside.count) width, c.self.invariant.short)

pub returns-then-not-self : goal.returns-then-not-self
returns-then-not-self g c =
    let bytes = c.self.inside.bytes.now in
    let at = c.self.inside.at in
    let count = c.self.inside.count in
    let width : c.self.inside.width ≡ 1 = omega arith in
    let unsigned : c.self.inside.is_signed ≡ false = search rules in
    let numbers : numbers_in bytes at 1 false count ≡ c.args.self.now =
    ap (λ (w : ℕ). numbers_in bytes at w false count) (sym width) ∙ ap (λ (s : Bool). numbers_in bytes at c.self.inside.width s count) (sym unsigned) ∙ c.self.view_is
    in
    subst (λ (vs : List ℤ). IsWordOf vs c.args.index c.wide_pattern.result) numbers
    (subst (λ (word : ℕ). IsWordOf (numbers_in bytes at 1 false count) c.args.index word) (sym c.wide_pattern.ensures)
    (word_is bytes at count c.args.index c.min.result (omega (arith, c.min.ensures))))
