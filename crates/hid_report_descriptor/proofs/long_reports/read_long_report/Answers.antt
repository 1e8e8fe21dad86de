use Rattle.std.proofs.Common.{◌≡◌, arith, subst, Some, true}
use Rattle.std.specs.Prelude.{IfSome}
use Rattle.hid_items.specs.Reading.{GivesNext}
use Rattle.hid_report_descriptor.specs.Items.{is_field}
use Rattle.hid_report_descriptor.specs.LongReports.{report_with}
use Rattle.hid_report_descriptor.proofs.Taking.{next_taken}
use Rattle.hid_report_descriptor.proofs.LongReportLemmas.{found_report}
use Rattle.hid_report_descriptor.proofs.long_reports.read_long_report.Goals as goal

pub returns-then-item-at : goal.returns-then-item-at
returns-then-item-at c =
    let steps = subst (λ r. GivesNext c.loop-next.next-iterator (Some r) c.next.new.self) c.in-Ok.is c.in-Some.ensures.steps in
    let taken = c.loop-next.invariant.1 in
    found_report c.args.limits c.args.descriptor.now c.args.at c.loop-next.invariant.0 _ _ _ _ c.ok_or.result
    c.requires taken steps (omega (arith, c.if-item-at.true))
    (subst (λ o. IfSome o (λ r. is_field c.in-Ok.item.bytes.now ≡ true)) c.ok_or.ensures.ok_part c.report_at.ensures.kind)
    (subst (λ o. IfSome o (λ r. r ≡ report_with c.args.limits c.loop-next.invariant.0 c.in-Ok.item.bytes.now)) c.ok_or.ensures.ok_part (c.report_at.ensures.field c.loop-next.invariant.0 taken.stands))

pub loop-next-preserved : goal.loop-next-preserved
loop-next-preserved c =
    let steps = subst (λ r. GivesNext c.loop-next.next-iterator (Some r) c.next.new.self) c.in-Ok.is c.in-Some.ensures.steps in
    let taken = c.loop-next.invariant.1 in
    let took = c.in-Ok-take.ensures c.loop-next.invariant.0 taken.stands in
    (_, next_taken c.args.limits _ _ _ _ _ _ _ taken steps took.0 took.1)
