use Rattle.std.proofs.Common.{◌≡◌, ◌+◌, ◌*◌, ◌≤◌, length}
use Rattle.hid_text.specs.Words.{words_of, byte_count}
use Rattle.hid_text.proofs.words.count_bytes.Given as goal

-- the bytes of the words so far, and those of the words that are left
abbrev pub invariant-loop-word : goal.invariant-loop-word
invariant-loop-word l = (byte_count (words_of l.text) ≡ l.count + byte_count (words_of l.rest)) × (2 * l.count + length l.rest ≤ length l.text)

abbrev pub decreases-loop-word : goal.decreases-loop-word
decreases-loop-word l = length l.rest
