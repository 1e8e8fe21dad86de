use Rattle.std.proofs.Common.{◌≡◌, ◌∙◌, ◌<◌, ap, sym, subst, ℕ, List, length, take, drop, arith}
use Rattle.std.specs.List.{slice_set}
use Rattle.std.proofs.Math.Seq.{take-set-lt}
use Rattle.std.proofs.lemmas.List.{drop-set-lt, length-take-le}
use Rattle.hid_snapshots.specs.Words.{AreNoted, AreGroups, is_bit}
use Rattle.std.proofs.lemmas.Option.{unwrap_or-slice_get}
use Rattle.hid_snapshots.proofs.NoteLemmas.{at_first, noted_here, noted_first, noted_again, empty_word}
use Rattle.hid_snapshots.proofs.flags.replace_word.Goals as goal
use Rattle.hid_snapshots.proofs.flags.replace_word.Goals.{else-k-ne0-via-then-k-ne0+else-before-eq0, else-k-ne0-via-else-k-ne0}

pub returns-then-before-eq0-clause-words : goal.returns-then-before-eq0-clause-words
returns-then-before-eq0-clause-words c = c.note_word.ensures.words ∙ take-set-lt c.args.count c.args.words.now c.args.k c.args.word c.requires.k

pub returns-then-before-eq0-clause-noted : goal.returns-then-before-eq0-clause-noted
returns-then-before-eq0-clause-noted c =
    let ws = c.args.words.now in
    let behind : drop c.args.count (slice_set ws c.args.k c.args.word) ≡ drop c.args.count ws = drop-set-lt c.args.count ws c.args.k c.args.word c.requires.k in
    let within : c.args.k < length (take c.args.count ws) = omega (arith, c.requires.notes, c.requires.k, length-take-le c.args.count ws (omega (arith, c.requires.notes))) in
    subst (λ (xs : List ℕ). AreNoted xs (drop c.args.count c.note_word.new.words) c.note_word.new.top) (sym (returns-then-before-eq0-clause-words c))
    (noted_here (take c.args.count ws) (drop c.args.count ws) (drop c.args.count c.note_word.new.words) c.args.top.now c.note_word.new.top c.args.k c.args.word _ c.requires.noted within (empty_word c.args.word) c.note_word.ensures.here
    (λ i ne. c.note_word.ensures.others i ne ∙ ap (λ (xs : List ℕ). is_bit xs i) behind)
    (λ groups. c.note_word.ensures.groups (subst (λ (xs : List ℕ). AreGroups xs c.args.top.now) (sym behind) groups)))

pub returns-else-k-ne0-clause-words : goal.returns-else-k-ne0-clause-words
returns-else-k-ne0-clause-words c = take-set-lt c.args.count c.args.words.now c.args.k c.args.word c.requires.k

pub returns-else-k-ne0-clause-noted : goal.returns-else-k-ne0-clause-noted
returns-else-k-ne0-clause-noted c =
    let ws = c.args.words.now in
    rw (take-set-lt c.args.count ws c.args.k c.args.word c.requires.k, drop-set-lt c.args.count ws c.args.k c.args.word c.requires.k)
    (elim c.else-k-ne0.branch [
      | else-k-ne0-via-then-k-ne0+else-before-eq0 w ↦
          noted_again (take c.args.count ws) (drop c.args.count ws) c.args.top.now c.args.k c.args.word
          (λ e. w.if-before-eq0.false (sym (unwrap_or-slice_get ws c.args.k 0) ∙ sym (at_first ws c.args.count c.args.k c.requires.k) ∙ e)) c.requires.noted
      | else-k-ne0-via-else-k-ne0 w ↦ noted_first (take c.args.count ws) (drop c.args.count ws) c.args.top.now c.args.k c.args.word w.if-k-ne0.false c.requires.noted
    ])
