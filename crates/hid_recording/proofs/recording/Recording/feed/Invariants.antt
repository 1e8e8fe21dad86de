use Rattle.std.proofs.Common.{◌≡◌, ◌≤◌, ◌+◌, ◌++◌, List, ℕ, length}
use Rattle.std.specs.Io.KnownBytes.{Appends}
use Rattle.hid_recording.specs.Place.{Advances}
use Rattle.hid_recording.specs.Recording.{place_of}
use Rattle.hid_recording.proofs.recording.Recording.feed.Given as goal

-- the bytes before what is left were taken, and what is written was told of them
abbrev pub invariant-loop-last : goal.invariant-loop-last
invariant-loop-last g l =
    ((written : List ℕ) × (before : List ℕ) × Appends (g.W.Write.contents l.fn.writer) (g.W.Write.contents l.writer) written
    × Advances (place_of l.fn.self) before written (place_of l.self) × (l.bytes ≡ before ++ l.rest))
    × (l.self.lines + length l.rest ≤ l.fn.self.lines + length l.bytes)

abbrev pub decreases-loop-last : goal.decreases-loop-last
decreases-loop-last g l = length l.rest
