use Rattle.std.proofs.Common.{◌∙◌, ◌+◌, ◌*◌, ◌/◌, ◌==◌, inl, inr, sym, take, arith}
use Rattle.std.specs.Int.{bit_at}
use Rattle.std.proofs.lemmas.Bool.{cases_lt}
use Rattle.hid_snapshots.specs.Words.{are_alone}
use Rattle.hid_snapshots.proofs.NoteLemmas.{alone_first, none_alone}
use Rattle.hid_snapshots.proofs.WordLemmas.{found_in_word, none_in_word}
use Rattle.hid_snapshots.proofs.flags.first_alone.Goals as goal

pub returns-in-Some : goal.returns-in-Some
returns-in-Some c =
    let k = c.loop-k.k in
    let ws = c.args.words.now in
    let vs = c.args.others.now in
    found_in_word (λ b. bit_at c.word_alone.result b == 1) (are_alone (take c.args.count ws) vs) c.args.from c.loop-k.start k c.args.count c.in-Some.bit c.loop-k.invariant.start c.loop-k-test.true
    (λ b low. c.word_alone.ensures b low ∙ sym (alone_first ws vs c.args.count (64 * k + b) (omega (arith, low, c.loop-k-test.true)))) c.loop-k.invariant.none c.in-Some.ensures

pub loop-k-preserved : goal.loop-k-preserved
loop-k-preserved c =
    let k = c.loop-k.k in
    let ws = c.args.words.now in
    let vs = c.args.others.now in
    record {
      start = omega (arith, c.next_filled-k.ensures.low, c.loop-k.invariant.reached);
      reached = omega (arith, c.next_filled-k.ensures.low, c.loop-k.invariant.reached);
      none = λ i a b. elim (cases_lt i (64 * (k + 1))) [
        | inl low ↦
            none_in_word (λ b. bit_at c.word_alone.result b == 1) (are_alone (take c.args.count ws) vs) c.args.from c.loop-k.start k c.loop-k.invariant.start
            (λ b low. c.word_alone.ensures b low ∙ sym (alone_first ws vs c.args.count (64 * k + b) (omega (arith, low, c.loop-k-test.true)))) c.loop-k.invariant.none c.in-None.ensures i a low
        | inr high ↦ none_alone (take c.args.count ws) vs i (c.next_filled-k.ensures.none (i / 64) (omega arith) (omega arith))
      ];
    }
