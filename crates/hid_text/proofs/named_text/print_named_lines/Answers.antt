use Rattle.std.proofs.Common.{length, ap, arith}
use Rattle.std.specs.Prelude.{slice_get}
use Rattle.hid_text.specs.LayoutText.{report_text_at}
use Rattle.hid_text.specs.NamedText.{named_item_at}
use Rattle.hid_text.proofs.LayoutLemmas.{joined_next}
use Rattle.hid_text.proofs.NamedLemmas.{named_lines_whole}
use Rattle.hid_text.proofs.named_text.print_named_lines.Goals as goal

pub loop-r-preserved : goal.loop-r-preserved
loop-r-preserved c =
    joined_next
    (λ r. report_text_at c.args.layout.now r
    (slice_get c.args.layout.now.reports r)) c.loop-r.r _ _ _ c.loop-r.invariant c.in_ok-print_report_at.ensures

pub loop-i-preserved : goal.loop-i-preserved
loop-i-preserved c =
    joined_next
    (λ i. named_item_at c.args.layout.now i
    (slice_get c.args.layout.now.items i)) c.loop-i.i _ _ _ c.loop-i.invariant c.in_ok-print_named_item_at.ensures

pub returns : goal.returns
returns c =
    named_lines_whole c.args.layout.now c.loop-i.i _ _ (omega (arith, c.loop-i-test.false, c.loop-i.auto.i-end, ap length c.items-i-end.ensures.items)) c.loop-i.invariant
