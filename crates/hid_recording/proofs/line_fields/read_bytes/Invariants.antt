use Rattle.std.proofs.Common.{length}
use Rattle.hid_text.specs.Words.{words_of}
use Rattle.hid_recording.proofs.WordLemmas.{IsReadTo}
use Rattle.hid_recording.proofs.line_fields.read_bytes.Given as goal

-- the bytes so far are those before the words that are left
abbrev pub invariant-loop-more : goal.invariant-loop-more
invariant-loop-more l = IsReadTo (words_of l.text) l.bytes.items (words_of l.rest)

abbrev pub decreases-loop-more : goal.decreases-loop-more
decreases-loop-more l = length l.rest
