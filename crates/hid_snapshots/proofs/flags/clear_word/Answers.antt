use Rattle.std.proofs.Common.{refl, ◌≡◌, ◌∙◌, ◌<◌, ap, sym, subst, ℕ, List, length, take, drop, arith}
use Rattle.std.specs.List.{slice_set}
use Rattle.std.proofs.Math.Seq.{take-set-lt}
use Rattle.std.proofs.lemmas.List.{drop-set-lt, length-take-le}
use Rattle.hid_snapshots.specs.Words.{AreNoted, AreGroups, is_bit}
use Rattle.hid_snapshots.proofs.NoteLemmas.{noted_here, noted_first}
use Rattle.hid_snapshots.proofs.flags.clear_word.Goals as goal

pub returns-then-k-ne0-clause-words : goal.returns-then-k-ne0-clause-words
returns-then-k-ne0-clause-words c = c.note_word.ensures.words ∙ take-set-lt c.args.count c.args.words.now c.args.k 0 c.requires.k

pub returns-then-k-ne0-clause-noted : goal.returns-then-k-ne0-clause-noted
returns-then-k-ne0-clause-noted c =
    let ws = c.args.words.now in
    let behind : drop c.args.count (slice_set ws c.args.k 0) ≡ drop c.args.count ws = drop-set-lt c.args.count ws c.args.k 0 c.requires.k in
    let within : c.args.k < length (take c.args.count ws) = omega (arith, c.requires.notes, c.requires.k, length-take-le c.args.count ws (omega (arith, c.requires.notes))) in
    subst (λ (xs : List ℕ). AreNoted xs (drop c.args.count c.note_word.new.words) c.note_word.new.top) (sym (returns-then-k-ne0-clause-words c))
    (noted_here (take c.args.count ws) (drop c.args.count ws) (drop c.args.count c.note_word.new.words) c.args.top.now c.note_word.new.top c.args.k 0 _ c.requires.noted within (λ e. refl) c.note_word.ensures.here
    (λ i ne. c.note_word.ensures.others i ne ∙ ap (λ (xs : List ℕ). is_bit xs i) behind)
    (λ groups. c.note_word.ensures.groups (subst (λ (xs : List ℕ). AreGroups xs c.args.top.now) (sym behind) groups)))

pub returns-else-k-ne0-clause-words : goal.returns-else-k-ne0-clause-words
returns-else-k-ne0-clause-words c = take-set-lt c.args.count c.args.words.now c.args.k 0 c.requires.k

pub returns-else-k-ne0-clause-noted : goal.returns-else-k-ne0-clause-noted
returns-else-k-ne0-clause-noted c =
    let ws = c.args.words.now in
    rw (take-set-lt c.args.count ws c.args.k 0 c.requires.k, drop-set-lt c.args.count ws c.args.k 0 c.requires.k)
    (noted_first (take c.args.count ws) (drop c.args.count ws) c.args.top.now c.args.k 0 c.if-k-ne0.false c.requires.noted)
