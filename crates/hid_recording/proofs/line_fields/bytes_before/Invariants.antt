use Rattle.std.proofs.Common.{◌≡◌, ◌+◌, ◌*◌, length}
use Rattle.hid_recording.specs.Words.{bytes_before}
use Rattle.hid_recording.proofs.line_fields.bytes_before.Given as goal

-- the bytes so far, and those that are left
abbrev pub invariant-loop-rest : goal.invariant-loop-rest
invariant-loop-rest l = (bytes_before l.word ≡ l.count + bytes_before l.rest) × (2 * l.count + length l.rest ≡ length l.word)

abbrev pub decreases-loop-rest : goal.decreases-loop-rest
decreases-loop-rest l = length l.rest
