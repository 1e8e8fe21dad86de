use Rattle.std.proofs.Common.{◌≡◌, length}
use Rattle.hid_text.specs.Words.{words_of, hex_of}
use Rattle.hid_text.proofs.WordLemmas.{before}
use Rattle.lab_lines.proofs.hex_words.read_hex.Given as goal

-- the bytes so far are those before what is left
abbrev pub invariant-loop-bytes : goal.invariant-loop-bytes
invariant-loop-bytes l = hex_of (words_of l.text) ≡ before l.bytes.items (hex_of (words_of l.rest))

abbrev pub decreases-loop-bytes : goal.decreases-loop-bytes
decreases-loop-bytes l = length l.rest
