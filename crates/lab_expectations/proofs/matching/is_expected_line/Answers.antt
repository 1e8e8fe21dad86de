use Rattle.hid_text.specs.Words.{words_of}
use Rattle.lab_expectations.proofs.MatchingLemmas.{word_met}
use Rattle.lab_expectations.proofs.matching.is_expected_line.Goals as goal

pub loop-word-preserved : goal.loop-word-preserved
loop-word-preserved c =
    word_met (words_of c.loop-word.wanted.now) (words_of c.loop-word.rest.now) c.in-Some.word.now c.in-Some-first_word.printed.now (words_of c.in-Some.more.now) (words_of c.in-Some-first_word.after.now) _ _ c.loop-word.invariant c.in-Some.ensures.words c.in-Some-first_word.ensures.words
    c.is_word.ensures c.if-not-is_word.false
