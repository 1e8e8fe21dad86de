use Rattle.std.proofs.Common.{◌≡◌, ◌≤◌, ℕ, List, ◌++◌, length}
use Rattle.std.specs.Fmt.{HasWritten, IsPlainFormatter}
use Rattle.std.specs.Str.Chunks.{utf8_chunks_rest}
use Rattle.command_words.specs.Names.{shown_within, shown_bytes}
use Rattle.command_words.proofs.names.ShownBytesDisplay.fmt.Given as goal

abbrev pub invariant-loop-chunk : goal.invariant-loop-chunk
invariant-loop-chunk g l =
    IsPlainFormatter l.fn.f
    → (more : ℕ) × (done : List ℕ) × (length (utf8_chunks_rest l.chunk-iterator) ≤ more)
    × HasWritten g.W.Write.write_str_gives l.fn.f done l.f
    × (done ++ shown_within more (utf8_chunks_rest l.chunk-iterator) ≡ shown_bytes l.fn.self.0.now)
