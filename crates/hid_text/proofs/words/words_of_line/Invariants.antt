use Rattle.std.proofs.Common.{◌≡◌, ◌++◌, length, map}
use Rattle.hid_text.specs.Words.{words_of}
use Rattle.hid_text.proofs.words.words_of_line.Given as goal

-- the words so far, and those that are left
abbrev pub invariant-loop-word : goal.invariant-loop-word
invariant-loop-word l = words_of l.line ≡ map (λ word. word.now) l.words.items ++ words_of l.rest

abbrev pub decreases-loop-word : goal.decreases-loop-word
decreases-loop-word l = length l.rest
