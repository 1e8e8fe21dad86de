use Rattle.std.proofs.Common.{◌≡◌, length}
use Rattle.hid_text.specs.Words.{words_of}
use Rattle.lab_expectations.specs.Matching.{are_words}
use Rattle.lab_expectations.proofs.matching.is_expected_line.Given as goal

-- the words left match as all words do
abbrev pub invariant-loop-word : goal.invariant-loop-word
invariant-loop-word l = are_words (words_of l.wanted) (words_of l.rest) ≡ are_words (words_of l.expected) (words_of l.line)

abbrev pub decreases-loop-word : goal.decreases-loop-word
decreases-loop-word l = length l.wanted
