use Rattle.std.proofs.Common.{List, ℕ}
use Rattle.hid_input.proofs.DescriptorLemmas.{HasRead, IsOpen}
use Rattle.hid_input.proofs.whole.descriptor_fault.Given as goal

-- some items were read, which aren't a descriptor
abbrev pub invariant-loop-next : goal.invariant-loop-next
invariant-loop-next l = (items : List (List ℕ)) × (HasRead l.bytes items l.next-iterator l.progress × IsOpen l.next-iterator l.progress)
