use Rattle.std.proofs.Common.{◌≡◌, drop}
use Rattle.hid_input.specs.Text.{lines_of}
use Rattle.hid_input.specs.Dump.{based_bytes, dump_bytes, row_size}
use Rattle.hid_input.proofs.dump.read_dump.Given as goal

-- no base so far
abbrev pub invariant-loop-base : goal.invariant-loop-base
invariant-loop-base l = based_bytes (drop l.base-index l.base-items) (row_size l.word) (lines_of l.text) ≡ dump_bytes l.text
