use Rattle.std.proofs.Common.{◌≡◌, Bool, Some, None, ap, ◌∙◌}
use Rattle.std.specs.Prelude.{if◌then◌else◌}
use Rattle.hid_input.specs.Words.{both, word_bytes, words_of}
use Rattle.hid_input.proofs.WordLemmas.{word_added}
use Rattle.hid_input.proofs.words.add_words.Goals as goal

pub loop-word-preserved : goal.loop-word-preserved
loop-word-preserved c =
    let r = c.args.reading in
    let before = c.loop-word.bytes.items in
    let after = c.add_word.new.bytes.items in
    let added : both (Some before) (word_bytes r c.in-Some.word.now) ≡ Some after =
    c.in_ok-add_word.ensures ∙ ap (λ (b : Bool). if b then Some after else None) c.if-not-branch.false in
    word_added (word_bytes r) (words_of c.args.parting c.loop-word.rest.now) c.in-Some.word.now (words_of c.args.parting c.in-Some.more.now) before after _ c.in-Some.ensures.words added c.loop-word.invariant
