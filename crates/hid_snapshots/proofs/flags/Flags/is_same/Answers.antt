use Rattle.std.proofs.Common.{◌≡◌, ◌∙◌, sym, nat_eq}
use Rattle.std.specs.Cmp.Lexicographic.{pointwise}
use Rattle.hid_snapshots.specs.Words.{words_of}
use Rattle.hid_snapshots.proofs.WordLemmas.{told, same_words}
use Rattle.hid_snapshots.proofs.flags.Flags.is_same.Goals as goal

pub returns-then-self-other : goal.returns-then-self-other
returns-then-self-other c =
    let first : c.words.result.now ≡ words_of c.self.inside.words.items c.self.inside.len = c.words.ensures ∙ sym (told _ _ _ c.self.invariant.words c.self.view_is).0 in
    let second : c.words-then-self-other.result.now ≡ words_of c.other.inside.words.items c.other.inside.len = c.words-then-self-other.ensures ∙ sym (told _ _ _ c.other.invariant.words c.other.view_is).0 in
    let same : c.eq.result ≡ pointwise nat_eq (words_of c.self.inside.words.items c.self.inside.len) (words_of c.other.inside.words.items c.other.inside.len) = rw (first, second) at c.eq.ensures in
    same_words _ _ _ _ _ _ c.eq.result c.self.invariant.words c.self.view_is c.other.invariant.words c.other.view_is c.if-self-other.true same
