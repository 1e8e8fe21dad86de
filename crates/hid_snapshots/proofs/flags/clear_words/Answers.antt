use Rattle.std.proofs.Common.{◌∙◌, ◌+◌, inl, inr, ap, ℕ, List, take, arith}
use Rattle.std.proofs.lemmas.Bool.{cases_lt}
use Rattle.std.proofs.lemmas.List.{length-take-le}
use Rattle.hid_snapshots.specs.Words.{word_at}
use Rattle.hid_snapshots.proofs.NoteLemmas.{zeros_more, all_zero}
use Rattle.hid_snapshots.proofs.flags.clear_words.Goals as goal

pub loop-k-preserved : goal.loop-k-preserved
loop-k-preserved c =
    let k = c.loop-k.k in
    record {
      noted = c.clear_word.ensures.noted;
      zeros = λ i h. elim (cases_lt i (k + 1)) [
        | inl low ↦ ap (λ (xs : List ℕ). word_at xs i) c.clear_word.ensures.words ∙ zeros_more (take c.args.count c.loop-k.words) k i c.loop-k.invariant.zeros low
        | inr high ↦ c.next_filled-k.ensures.none i high h
      ];
    }

pub returns-clause-words : goal.returns-clause-words
returns-clause-words c =
    all_zero (take c.args.count c.loop-k.words) c.args.count (length-take-le c.args.count c.loop-k.words (omega (arith, c.loop-k.auto.words, c.requires.notes)))
    (λ i h. c.loop-k.invariant.zeros i (omega (arith, c.loop-k-test.false)))
