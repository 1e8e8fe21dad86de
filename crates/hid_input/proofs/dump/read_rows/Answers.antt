use Rattle.std.proofs.Common.{◌≡◌, ◌∷◌, ◌++◌, ◌+◌, Some, length, sym, ap, ◌∙◌, arith}
use Rattle.hid_input.specs.Text.{lines_of}
use Rattle.hid_input.specs.Dump.{line_bytes, rows_bytes}
use Rattle.hid_input.proofs.DumpLemmas.{rows_step}
use Rattle.hid_input.proofs.dump.read_rows.Goals as goal

pub loop-bytes-preserved : goal.loop-bytes-preserved
loop-bytes-preserved c =
    let base = c.args.base in
    let bytes = c.loop-bytes.bytes.items in
    let line = c.split_line.result.0.now in
    let below = c.in-Some.below.now in
    let row = c.in-Ok.row.items in
    let size = c.args.size in
    let read : line_bytes base size c.len.result line ≡ Some row = rw c.in-Ok.is at c.in_ok-row.ensures in
    let is : line_bytes base size (length bytes) line ≡ Some row = cc (read, c.len.ensures) in
    let lines : lines_of c.loop-bytes.rest.now ≡ line ∷ lines_of below = rw c.in-Some.is at c.split_line.ensures.lines in
    let shorter : length line + 1 + length below ≡ length c.loop-bytes.rest.now = rw c.in-Some.is at c.split_line.ensures.room in
    let added : c.extend_from_slice.new.self.items ≡ bytes ++ row = cc (c.in_ok-extend_from_slice-in-Ok.ensures.items, c.as_slice.ensures.value) in
    rw added (record {
      all = sym (rows_step base size bytes line row (lines_of below) is) ∙ (ap (rows_bytes base size bytes) (sym lines) ∙ c.loop-bytes.invariant.all);
      room = omega (arith, shorter, c.loop-bytes.invariant.room);
    })
