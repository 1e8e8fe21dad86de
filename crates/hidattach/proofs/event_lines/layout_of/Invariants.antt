use Rattle.std.proofs.Common.{◌≡◌, drop}
use Rattle.hidattach.specs.EventLines.{layout_of}
use Rattle.hidattach.proofs.event_lines.layout_of.Given as goal

-- none of those before has the place
abbrev pub invariant-loop-one : goal.invariant-loop-one
invariant-loop-one l = layout_of l.interface (drop l.one-index l.laid) ≡ layout_of l.interface l.laid
