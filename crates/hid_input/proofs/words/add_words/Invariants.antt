use Rattle.std.proofs.Common.{◌≡◌, length, Some}
use Rattle.hid_input.specs.Words.{both, text_bytes}
use Rattle.hid_input.proofs.words.add_words.Given as goal

-- the bytes so far, and those of the rest, are those of the text
abbrev pub invariant-loop-word : goal.invariant-loop-word
invariant-loop-word l = both (Some l.bytes.items) (text_bytes l.reading l.parting l.rest) ≡ both (Some l.fn.bytes.items) (text_bytes l.reading l.parting l.text)

abbrev pub decreases-loop-word : goal.decreases-loop-word
decreases-loop-word l = length l.rest
