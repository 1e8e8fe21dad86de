use Rattle.std.proofs.Common.{◌≡◌, ◌∙◌, ◌/◌, ℕ, List, take, sym, ap, arith}
use Rattle.hid_snapshots.specs.Words.{word_at, words_of}
use Rattle.hid_snapshots.proofs.WordLemmas.{told, bit_on_at}
use Rattle.hid_snapshots.proofs.NoteLemmas.{bit_of_zero}
use Rattle.hid_snapshots.proofs.flags.Flags.next_filled.Goals as goal

pub next_filled-requires-clause-last : goal.next_filled-requires-clause-last
next_filled-requires-clause-last c = omega (arith, c.requires.high, c.div_ceil.ensures, (told _ _ _ c.self.invariant.words c.self.view_is).1)

pub returns-clause-none : goal.returns-clause-none
returns-clause-none c = λ i a b.
    let ws = c.self.inside.words.items in
    let zero : word_at (words_of ws c.self.inside.len) (i / 64) ≡ 0 =
    ap (λ (m : ℕ). word_at (take m ws) (i / 64)) (sym c.div_ceil.ensures) ∙ ap (λ (xs : List ℕ). word_at (take c.div_ceil.result xs) (i / 64)) (sym c.deref.ensures.value)
    ∙ c.next_filled.ensures.none (i / 64) (omega arith) (omega arith)
    in
    sym (bit_on_at _ _ _ i c.self.invariant.words c.self.view_is) ∙ bit_of_zero (words_of ws c.self.inside.len) i zero
