use Rattle.std.proofs.Common.{◌≡◌, ◌∙◌, ◌++◌, ◌+◌, ◌*◌, ◌<◌, ℕ, Bool, List, take, drop, length, ap, sym, subst, arith}
use Rattle.std.specs.List.{slice_set}
use Rattle.std.proofs.lemmas.Grind.{common_steps}
use Rattle.hid_snapshots.specs.Words.{AreFlags, places_in, words_of, is_on}
use Rattle.hid_snapshots.proofs.WordLemmas.{told}
use Rattle.hid_snapshots.proofs.NoteLemmas.{words_long, flags_written}
use Rattle.hid_snapshots.proofs.PutLemmas.{word_put, put_at, put_read, put_left, placed_length}
use Rattle.hid_snapshots.proofs.flags.Flags.put.Goals as goal

pub invariant_of-self : goal.invariant_of-self
invariant_of-self c =
    let vs = c.write_word.new.words in
    let ws = c.self.inside.words.items in
    let n = c.self.inside.len in
    let k = c.args.k in
    let w = c.args.word in
    let is : take c.self.inside.words.len (vs ++ drop (length vs) ws) ≡ vs = grind (arith, common_steps) in
    let there : k < length (words_of ws n) = omega (arith, words_long ws n c.self.inside.top c.self.invariant, c.requires.k, (told _ _ _ c.self.invariant.words c.self.view_is).1) in
    let put = word_put _ _ _ k w c.self.invariant.words c.self.view_is there c.ranges.word.fits c.requires.fits in
    let made : take c.div_ceil.result vs ≡ slice_set (words_of ws n) k w =
    c.write_word.ensures.words ∙ ap (λ (xs : List ℕ). slice_set (take c.div_ceil.result xs) k w) c.deref_mut.ensures.value ∙ ap (λ (m : ℕ). slice_set (take m ws) k w) c.div_ceil.ensures
    in
    subst (λ (xs : List ℕ). AreFlags xs n c.write_word.new.top) (sym is)
    (flags_written ws vs _ n c.write_word.new.top c.div_ceil.result c.div_ceil.ensures (omega (arith, c.write_word.auto.words, ap length c.deref_mut.ensures.value)) c.self.invariant.notes made put.1 c.write_word.ensures.noted)

pub returns-clause-here : goal.returns-clause-here
returns-clause-here c = λ b h.
    let vs = c.write_word.new.words in
    let ws = c.self.inside.words.items in
    let n = c.self.inside.len in
    let k = c.args.k in
    let w = c.args.word in
    let is : take c.self.inside.words.len (vs ++ drop (length vs) ws) ≡ vs = grind (arith, common_steps) in
    let there : k < length (words_of ws n) = omega (arith, words_long ws n c.self.inside.top c.self.invariant, c.requires.k, (told _ _ _ c.self.invariant.words c.self.view_is).1) in
    let put = word_put _ _ _ k w c.self.invariant.words c.self.view_is there c.ranges.word.fits c.requires.fits in
    let made : take c.div_ceil.result vs ≡ slice_set (words_of ws n) k w =
    c.write_word.ensures.words ∙ ap (λ (xs : List ℕ). slice_set (take c.div_ceil.result xs) k w) c.deref_mut.ensures.value ∙ ap (λ (m : ℕ). slice_set (take m ws) k w) c.div_ceil.ensures
    in
    ap (λ (ps : List Bool). is_on ps (64 * k + b)) (ap (λ (xs : List ℕ). places_in (words_of xs n) n) is ∙ ap (λ (m : ℕ). places_in (take m vs) n) (sym c.div_ceil.ensures) ∙ ap (λ (xs : List ℕ). places_in xs n) made ∙ put.0)
    ∙ put_read c.args.self.now k w b c.requires.fits h

pub returns-clause-others : goal.returns-clause-others
returns-clause-others c = λ i ne.
    let vs = c.write_word.new.words in
    let ws = c.self.inside.words.items in
    let n = c.self.inside.len in
    let k = c.args.k in
    let w = c.args.word in
    let is : take c.self.inside.words.len (vs ++ drop (length vs) ws) ≡ vs = grind (arith, common_steps) in
    let there : k < length (words_of ws n) = omega (arith, words_long ws n c.self.inside.top c.self.invariant, c.requires.k, (told _ _ _ c.self.invariant.words c.self.view_is).1) in
    let put = word_put _ _ _ k w c.self.invariant.words c.self.view_is there c.ranges.word.fits c.requires.fits in
    let made : take c.div_ceil.result vs ≡ slice_set (words_of ws n) k w =
    c.write_word.ensures.words ∙ ap (λ (xs : List ℕ). slice_set (take c.div_ceil.result xs) k w) c.deref_mut.ensures.value ∙ ap (λ (m : ℕ). slice_set (take m ws) k w) c.div_ceil.ensures
    in
    ap (λ (ps : List Bool). is_on ps i) (ap (λ (xs : List ℕ). places_in (words_of xs n) n) is ∙ ap (λ (m : ℕ). places_in (take m vs) n) (sym c.div_ceil.ensures) ∙ ap (λ (xs : List ℕ). places_in xs n) made ∙ put.0)
    ∙ put_left c.args.self.now k w i c.requires.fits ne

pub returns-clause-len : goal.returns-clause-len
returns-clause-len c =
    let vs = c.write_word.new.words in
    let ws = c.self.inside.words.items in
    let n = c.self.inside.len in
    let k = c.args.k in
    let w = c.args.word in
    let is : take c.self.inside.words.len (vs ++ drop (length vs) ws) ≡ vs = grind (arith, common_steps) in
    let there : k < length (words_of ws n) = omega (arith, words_long ws n c.self.inside.top c.self.invariant, c.requires.k, (told _ _ _ c.self.invariant.words c.self.view_is).1) in
    let put = word_put _ _ _ k w c.self.invariant.words c.self.view_is there c.ranges.word.fits c.requires.fits in
    let made : take c.div_ceil.result vs ≡ slice_set (words_of ws n) k w =
    c.write_word.ensures.words ∙ ap (λ (xs : List ℕ). slice_set (take c.div_ceil.result xs) k w) c.deref_mut.ensures.value ∙ ap (λ (m : ℕ). slice_set (take m ws) k w) c.div_ceil.ensures
    in
    ap (λ (ps : List Bool). length ps) (ap (λ (xs : List ℕ). places_in (words_of xs n) n) is ∙ ap (λ (m : ℕ). places_in (take m vs) n) (sym c.div_ceil.ensures) ∙ ap (λ (xs : List ℕ). places_in xs n) made ∙ put.0)
    ∙ placed_length (put_at c.args.self.now k w) (length c.args.self.now)
