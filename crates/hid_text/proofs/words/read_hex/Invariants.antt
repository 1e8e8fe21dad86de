use Rattle.std.proofs.Common.{◌≡◌, ◌+◌, ◌*◌, ◌≤◌, length}
use Rattle.hid_text.specs.Words.{words_of, hex_of, byte_count}
use Rattle.hid_text.proofs.WordLemmas.{before}
use Rattle.hid_text.proofs.words.read_hex.Given as goal

-- the bytes so far are those before what is left
abbrev pub invariant-loop-rest : goal.invariant-loop-rest
invariant-loop-rest l =
    (hex_of (words_of l.text) ≡ before l.bytes.items (hex_of (words_of l.rest)))
    × (byte_count (words_of l.text) ≡ length l.bytes.items + byte_count (words_of l.rest))
    × (2 * length l.bytes.items + length l.rest ≤ 1024)

abbrev pub decreases-loop-rest : goal.decreases-loop-rest
decreases-loop-rest l = length l.rest
