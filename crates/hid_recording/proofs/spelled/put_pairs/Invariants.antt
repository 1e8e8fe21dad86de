use Rattle.std.proofs.Common.{length}
use Rattle.hid_text.specs.Words.{words_of}
use Rattle.hid_recording.proofs.WordLemmas.{IsReadTo}
use Rattle.hid_recording.proofs.spelled.put_pairs.Given as goal

-- the bytes so far are those before the words that are left
abbrev pub invariant-loop-byte : goal.invariant-loop-byte
invariant-loop-byte l = IsReadTo (words_of l.text) l.bytes.items (words_of l.rest)

abbrev pub decreases-loop-byte : goal.decreases-loop-byte
decreases-loop-byte l = length l.rest
