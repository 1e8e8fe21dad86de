use Rattle.std.proofs.Common.{◌≡◌, ◌∙◌, ◌++◌, ℕ, List, false, take, drop, replicate, length, ap, sym, subst, arith}
use Rattle.std.specs.Int.{div_ceil}
use Rattle.std.proofs.lemmas.Grind.{common_steps}
use Rattle.hid_snapshots.specs.Words.{AreFlags, AreNoted, places_in, words_of}
use Rattle.hid_snapshots.proofs.WordLemmas.{told}
use Rattle.hid_snapshots.proofs.NoteLemmas.{no_flags}
use Rattle.hid_snapshots.proofs.flags.Flags.release_all.Goals as goal

pub invariant_of-self : goal.invariant_of-self
invariant_of-self c =
    let vs = c.clear_words.new.words in
    let ws = c.self.inside.words.items in
    let n = c.self.inside.len in
    let is : take c.self.inside.words.len (vs ++ drop (length vs) ws) ≡ vs = grind (arith, common_steps) in
    let zeros : words_of vs n ≡ replicate (div_ceil n 64) 0 = ap (λ (m : ℕ). take m vs) (sym c.div_ceil.ensures) ∙ c.clear_words.ensures.words ∙ ap (λ (m : ℕ). replicate m 0) c.div_ceil.ensures in
    let noted : AreNoted (words_of vs n) (drop (div_ceil n 64) vs) c.clear_words.new.top = subst (λ (m : ℕ). AreNoted (take m vs) (drop m vs) c.clear_words.new.top) c.div_ceil.ensures c.clear_words.ensures.noted in
    subst (λ (xs : List ℕ). AreFlags xs n c.clear_words.new.top) (sym is)
    (no_flags vs n c.clear_words.new.top (omega (arith, c.clear_words.auto.words, ap length c.deref_mut.ensures.value, c.self.invariant.notes)) zeros noted c.self.invariant.words.small).1

pub returns : goal.returns
returns c =
    let vs = c.clear_words.new.words in
    let ws = c.self.inside.words.items in
    let n = c.self.inside.len in
    let is : take c.self.inside.words.len (vs ++ drop (length vs) ws) ≡ vs = grind (arith, common_steps) in
    let zeros : words_of vs n ≡ replicate (div_ceil n 64) 0 = ap (λ (m : ℕ). take m vs) (sym c.div_ceil.ensures) ∙ c.clear_words.ensures.words ∙ ap (λ (m : ℕ). replicate m 0) c.div_ceil.ensures in
    let noted : AreNoted (words_of vs n) (drop (div_ceil n 64) vs) c.clear_words.new.top = subst (λ (m : ℕ). AreNoted (take m vs) (drop m vs) c.clear_words.new.top) c.div_ceil.ensures c.clear_words.ensures.noted in
    ap (λ (xs : List ℕ). places_in (words_of xs n) n) is
    ∙ (no_flags vs n c.clear_words.new.top (omega (arith, c.clear_words.auto.words, ap length c.deref_mut.ensures.value, c.self.invariant.notes)) zeros noted c.self.invariant.words.small).0
    ∙ ap (λ (m : ℕ). replicate m false) (told _ _ _ c.self.invariant.words c.self.view_is).1
