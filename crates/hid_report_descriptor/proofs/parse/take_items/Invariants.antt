use Rattle.std.proofs.Common.{List}
use Rattle.hid_report_descriptor.specs.Items.{EncodedItem}
use Rattle.hid_report_descriptor.specs.Parser.{HasTaken}
use Rattle.hid_report_descriptor.proofs.parse.take_items.Given as goal

-- some items have been taken
abbrev pub invariant-loop-next : goal.invariant-loop-next
invariant-loop-next l = (before : List EncodedItem) × HasTaken l.limits l.descriptor before l.next-iterator l.parser
