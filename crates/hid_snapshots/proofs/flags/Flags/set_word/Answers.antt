use Rattle.std.proofs.Common.{◌≡◌, ◌<◌, length, rules, arith}
use Rattle.hid_snapshots.proofs.WordLemmas.{no_word}
use Rattle.hid_snapshots.proofs.NoteLemmas.{word_written, words_long}
use Rattle.hid_snapshots.proofs.flags.Flags.set_word.Goals as goal

pub invariant_of-self : goal.invariant_of-self
invariant_of-self c =
    let some : 0 < length c.self.inside.words.items = search rules in
    (word_written _ _ _ _ c.args.word c.self.invariant c.self.view_is c.requires.few some c.requires.fits).1

pub returns-then-not-is_empty : goal.returns-then-not-is_empty
returns-then-not-is_empty c =
    let some : 0 < length c.self.inside.words.items = search rules in
    (word_written _ _ _ _ c.args.word c.self.invariant c.self.view_is c.requires.few some c.requires.fits).0

pub returns-else-not-is_empty : goal.returns-else-not-is_empty
returns-else-not-is_empty c =
    let none : length c.self.inside.words.items ≡ 0 = search rules in
    no_word _ _ _ c.args.word c.self.invariant.words c.self.view_is (omega (arith, none, c.self.invariant.notes, words_long _ _ _ c.self.invariant))
