use Rattle.std.proofs.Common.{◌∙◌, ◌+◌, ◌/◌, ◌%◌, inl, inr, sym, take, drop, arith}
use Rattle.std.proofs.lemmas.Bool.{cases_lt}
use Rattle.std.proofs.lemmas.Option.{unwrap_or-slice_get}
use Rattle.hid_snapshots.proofs.NoteLemmas.{at_behind, unfilled, none_filled}
use Rattle.hid_snapshots.proofs.flags.next_filled.Goals as goal

pub overflow_mul-k : goal.overflow_mul-k
overflow_mul-k c = omega (arith, c.in-Some-next_group.ensures.1, c.requires.few, c.loop-k-test.true)

pub loop-k-preserved : goal.loop-k-preserved
loop-k-preserved c =
    let k = c.loop-k.k in
    let ws = c.args.words.now in
    let count = c.args.count in
    record {
      low = omega (arith, c.in-Some-next_group.ensures.0, c.loop-k.invariant.low);
      none = λ i a b. elim (cases_lt i k) [
        | inl before ↦ c.loop-k.invariant.none i a before
        | inr after ↦
            unfilled (take count ws) (drop count ws) c.args.top k i _ c.requires.noted (sym (unwrap_or-slice_get ws (count + k / 64) 0) ∙ sym (at_behind ws count (k / 64))) (omega (arith, c.requires.from, c.loop-k.invariant.low)) after
            (λ same. c.in-None.ensures (i % 64) (omega arith) (omega arith)) (λ ne. c.in-Some-next_group.ensures.2 (i / 64) (omega arith) (omega arith))
      ];
    }

pub returns-in-None-next_group-clause-none : goal.returns-in-None-next_group-clause-none
returns-in-None-next_group-clause-none c =
    let k = c.loop-k.k in
    let ws = c.args.words.now in
    let count = c.args.count in
    λ i a b. elim (cases_lt i k) [
      | inl before ↦ c.loop-k.invariant.none i a before
      | inr after ↦
          unfilled (take count ws) (drop count ws) c.args.top k i _ c.requires.noted (sym (unwrap_or-slice_get ws (count + k / 64) 0) ∙ sym (at_behind ws count (k / 64))) (omega (arith, c.requires.from, c.loop-k.invariant.low)) after
          (λ same. c.in-None.ensures (i % 64) (omega arith) (omega arith)) (λ ne. c.in-None-next_group.ensures (i / 64) (omega arith))
    ]

pub returns-then-top-eq0-clause-none : goal.returns-then-top-eq0-clause-none
returns-then-top-eq0-clause-none c = λ i a b. none_filled (take c.args.count c.args.words.now) (drop c.args.count c.args.words.now) c.args.top i c.requires.noted c.if-top-eq0.true (omega (arith, c.requires.from, a))
