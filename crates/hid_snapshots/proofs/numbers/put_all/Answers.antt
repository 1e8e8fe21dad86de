use Rattle.std.proofs.Common.{rules, ◌≡◌, ℕ, ◌<◌, ◌+◌, ◌*◌, ◌∙◌, refl, sym, ap, subst, to_z, of_z, w64, length, pos, arith}
use Rattle.std.proofs.lemmas.List.{take_all, length-drop}
use Rattle.std.proofs.lemmas.Int.{to_z-of_z}
use Rattle.hid_fields.specs.Field.{IsOutside}
use Rattle.hid_fields.specs.Value.{FitsField, FitsEitherSign}
use Rattle.hid_snapshots.specs.Numbers.{number_at, numbers_in}
use Rattle.hid_snapshots.proofs.DrawLemmas.{drawn_at}
use Rattle.hid_snapshots.proofs.NumberLemmas.{step_within, written, others_written}
use Rattle.std.proofs.lemmas.Simd.{mask_l-lt}
use Rattle.hid_snapshots.proofs.SwitchLemmas.{pattern_count, pattern_sent}
use Rattle.hid_snapshots.proofs.numbers.put_all.Goals as goal

pub put-requires-clause-fits : goal.put-requires-clause-fits
put-requires-clause-fits g c =
    let it = c.in-Some.ensures in
    let many : c.args.count ≡ length it.places = sym c.requires.one_each ∙ pattern_count c.args.numbers c.in-Some.pattern it in
    rw (it.is, many) (mask_l-lt it.places)

pub returns-in-Some-clause-numbers : goal.returns-in-Some-clause-numbers
returns-in-Some-clause-numbers g c = λ signed fits.
    pattern_sent c.put.new.bytes c.args.numbers c.args.at c.args.width c.args.count c.in-Some.pattern signed (omega arith) c.in-Some.ensures c.requires.one_each c.put.ensures.field fits

pub put_number-requires-clause-fits : goal.put_number-requires-clause-fits
put_number-requires-clause-fits g c =
    let within : c.loop-k.k < length c.args.numbers = omega arith in
    let drawn = drawn_at c.args.numbers c.next.new.self c.loop-k.k c.next.result (pos 0) (sym c.loop-k.invariant.left ∙ c.next.ensures) in
    let fits : FitsEitherSign c.next.result c.args.width = rw (← drawn.0) (c.requires.fits c.loop-k.k (pos 0) within) in
    let number : to_z w64 (of_z w64 c.next.result) ≡ c.next.result = search (rules, to_z-of_z) in
    rw number fits

pub loop-k-preserved : goal.loop-k-preserved
loop-k-preserved g c =
    let within : c.loop-k.k < length c.args.numbers = omega arith in
    let drawn = drawn_at c.args.numbers c.next.new.self c.loop-k.k c.next.result (pos 0) (sym c.loop-k.invariant.left ∙ c.next.ensures) in
    record {
      so_far = λ signed fits.
          let fit : FitsField c.next.result c.args.width signed = rw (← drawn.0) (fits c.loop-k.k (pos 0) within) in
          let there : number_at c.put_number.new.bytes (c.args.at + c.args.width * c.loop-k.k) c.args.width signed ≡ c.next.result = search rules in
          written _ _ c.args.at c.args.width signed c.loop-k.k c.args.numbers c.next.result (pos 0) within drawn.0 c.put_number.ensures.others there (c.loop-k.invariant.so_far signed fits);
      left = drawn.1;
      others = λ n h. others_written c.args.bytes.now c.loop-k.bytes c.put_number.new.bytes c.args.at c.args.width c.loop-k.k n c.put_number.ensures.others c.loop-k.invariant.others h;
    }

pub overflow_mul-width : goal.overflow_mul-width
overflow_mul-width g c = record { fits = omega (arith, step_within c.args.width c.loop-k.k c.args.count c.loop-k-test.true, c.requires.inside, c.requires.short) }

pub overflow_add-at : goal.overflow_add-at
overflow_add-at g c = record { fits = omega (arith, step_within c.args.width c.loop-k.k c.args.count c.loop-k-test.true, c.requires.inside, c.requires.short) }

pub put_number-requires-clause-inside : goal.put_number-requires-clause-inside
put_number-requires-clause-inside g c = omega (arith, step_within c.args.width c.loop-k.k c.args.count c.loop-k-test.true, c.requires.inside)

pub returns-in-Some-clause-others : goal.returns-in-Some-clause-others
returns-in-Some-clause-others g c = λ n outside.
    let bits : c.args.width * c.args.count ≡ c.args.count = omega (arith, ap (λ (w : ℕ). w * c.args.count) c.if-width-eq1.true) in
    c.put.ensures.others n (subst (λ (m : ℕ). IsOutside c.args.at m n) bits outside)

pub returns-clause-numbers : goal.returns-clause-numbers
returns-clause-numbers g c = λ signed fits.
    let last : c.loop-k.k ≡ c.args.count = omega arith in
    ap (numbers_in c.loop-k.bytes c.args.at c.args.width signed) (sym last) ∙ c.loop-k.invariant.so_far signed fits ∙ take_all c.loop-k.k c.args.numbers (omega (arith, c.requires.one_each))

pub returns-clause-others : goal.returns-clause-others
returns-clause-others g c = λ n outside.
    let last : c.args.count ≡ c.loop-k.k = omega arith in
    c.loop-k.invariant.others n (subst (λ (m : ℕ). IsOutside c.args.at (c.args.width * m) n) last outside)

pub overflow_cast-count : goal.overflow_cast-count
overflow_cast-count g c =
    let it = c.in-Some.ensures in
    record { fits = omega (arith, c.requires.one_each, pattern_count c.args.numbers c.in-Some.pattern it, it.few) }

pub put-requires-clause-some : goal.put-requires-clause-some
put-requires-clause-some g c =
    let it = c.in-Some.ensures in
    omega (arith, c.requires.one_each, pattern_count c.args.numbers c.in-Some.pattern it, it.some)

pub put-requires-clause-width : goal.put-requires-clause-width
put-requires-clause-width g c =
    let it = c.in-Some.ensures in
    omega (arith, c.requires.one_each, pattern_count c.args.numbers c.in-Some.pattern it, it.few)

pub put-requires-clause-inside : goal.put-requires-clause-inside
put-requires-clause-inside g c = omega (arith, ap (λ (w : ℕ). w * c.args.count) c.if-width-eq1.true, c.requires.inside)

pub loop-k-init : goal.loop-k-init
loop-k-init g c = record { so_far = λ signed fits. refl; left = refl; others = λ n outside. refl }

pub next-requires : goal.next-requires
next-requires g c = omega (arith, ap length c.loop-k.invariant.left, length-drop c.loop-k.k c.args.numbers, c.requires.one_each, c.loop-k-test.true)
