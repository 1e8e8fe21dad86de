use Rattle.std.proofs.Common.{◌≡◌, ◌∙◌, ◌++◌, ◌/◌, ◌%◌, ◌<◌, ℕ, List, take, drop, length, ap, sym, subst, arith}
use Rattle.std.specs.Int.{div_ceil}
use Rattle.std.specs.List.{slice_set}
use Rattle.std.proofs.lemmas.Grind.{common_steps}
use Rattle.std.proofs.lemmas.List.{get_or-take}
use Rattle.hid_snapshots.specs.Words.{AreFlags, places_in, words_of}
use Rattle.hid_snapshots.proofs.WordLemmas.{word_there, place_set, same_at}
use Rattle.hid_snapshots.proofs.NoteLemmas.{words_long, flags_written}
use Rattle.hid_snapshots.proofs.flags.Flags.set.Goals as goal

pub invariant_of-self : goal.invariant_of-self
invariant_of-self c =
    let vs = c.replace_word.new.words in
    let ws = c.self.inside.words.items in
    let n = c.self.inside.len in
    let k = c.args.index / 64 in
    let w = c.with_bit-word.result in
    let is : take c.self.inside.words.len (vs ++ drop (length vs) ws) ≡ vs = grind (arith, common_steps) in
    let there = word_there _ _ _ c.args.index c.self.invariant.words c.self.view_is c.requires in
    let within : k < div_ceil n 64 = omega (arith, there, words_long ws n c.self.inside.top c.self.invariant) in
    let set = place_set _ _ _ c.args.index c.args.pressed w c.self.invariant.words c.self.view_is c.requires c.with_bit-word.type_inv c.with_bit-word.ensures.bit
    (same_at _ _ w c.index.result.now (c.args.index % 64) there (c.index.ensures ∙ sym (get_or-take (div_ceil n 64) ws k c.index.result.now within)) c.with_bit-word.ensures.others) in
    let made : take c.div_ceil.result vs ≡ slice_set (words_of ws n) k w =
    c.replace_word.ensures.words ∙ ap (λ (xs : List ℕ). slice_set (take c.div_ceil.result xs) k w) c.deref_mut.ensures.value ∙ ap (λ (m : ℕ). slice_set (take m ws) k w) c.div_ceil.ensures
    in
    subst (λ (xs : List ℕ). AreFlags xs n c.replace_word.new.top) (sym is)
    (flags_written ws vs _ n c.replace_word.new.top c.div_ceil.result c.div_ceil.ensures (omega (arith, c.replace_word.auto.words, ap length c.deref_mut.ensures.value)) c.self.invariant.notes made set.1 c.replace_word.ensures.noted)

pub returns : goal.returns
returns c =
    let vs = c.replace_word.new.words in
    let ws = c.self.inside.words.items in
    let n = c.self.inside.len in
    let k = c.args.index / 64 in
    let w = c.with_bit-word.result in
    let is : take c.self.inside.words.len (vs ++ drop (length vs) ws) ≡ vs = grind (arith, common_steps) in
    let there = word_there _ _ _ c.args.index c.self.invariant.words c.self.view_is c.requires in
    let within : k < div_ceil n 64 = omega (arith, there, words_long ws n c.self.inside.top c.self.invariant) in
    let set = place_set _ _ _ c.args.index c.args.pressed w c.self.invariant.words c.self.view_is c.requires c.with_bit-word.type_inv c.with_bit-word.ensures.bit
    (same_at _ _ w c.index.result.now (c.args.index % 64) there (c.index.ensures ∙ sym (get_or-take (div_ceil n 64) ws k c.index.result.now within)) c.with_bit-word.ensures.others) in
    let made : take c.div_ceil.result vs ≡ slice_set (words_of ws n) k w =
    c.replace_word.ensures.words ∙ ap (λ (xs : List ℕ). slice_set (take c.div_ceil.result xs) k w) c.deref_mut.ensures.value ∙ ap (λ (m : ℕ). slice_set (take m ws) k w) c.div_ceil.ensures
    in
    ap (λ (xs : List ℕ). places_in (words_of xs n) n) is ∙ ap (λ (m : ℕ). places_in (take m vs) n) (sym c.div_ceil.ensures) ∙ ap (λ (xs : List ℕ). places_in xs n) made ∙ set.0
