use Rattle.std.proofs.Common.{◌≡◌, ◌≤◌, ◌+◌, ℕ, length, List}
use Rattle.std.specs.Str.Lines.{lines}
use Rattle.usbip_script.specs.declared.fault.LineCause.{LineCause}
use Rattle.usbip_script.specs.Scripts.{AllGive, IsRefusedAt, Read, read_of}
use Rattle.usbip_script.proofs.script.Script.take_all.Given as goal

abbrev pub invariant-loop-rest : goal.invariant-loop-rest
invariant-loop-rest l = record {
  within : l.number + length l.rest ≤ length l.fn.bytes;
  goes_on : (after : Read) → AllGive (read_of l.self) (l.number + 1) (lines l.rest) after
      → AllGive (read_of l.fn.self) 1 (lines l.fn.bytes) after;
  ends : (at : ℕ) (cause : LineCause) → IsRefusedAt (read_of l.self) (l.number + 1) (lines l.rest) at cause
      → IsRefusedAt (read_of l.fn.self) 1 (lines l.fn.bytes) at cause;
}

abbrev pub decreases-loop-rest : goal.decreases-loop-rest
decreases-loop-rest l = length l.rest
