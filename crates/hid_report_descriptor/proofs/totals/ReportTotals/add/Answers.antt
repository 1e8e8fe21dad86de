use Rattle.std.proofs.Common.{◌≡◌, Bool, true, false, cond, arith, set, ◌+◌, ap, subst, ◌∙◌}
use Rattle.std.specs.Prelude.{insert, is_ok}
use Rattle.hid_report_descriptor.specs.declared.report.Report.{Report}
use Rattle.hid_report_descriptor.specs.Totals.{are_in_order, IsFound, IsAbsent}
use Rattle.hid_report_descriptor.proofs.TotalsLemmas.{bits_at_place, bits_set, bits_inserted}
use Rattle.hid_report_descriptor.proofs.OrderLemmas.{nowhere, order_kept}
use Rattle.hid_report_descriptor.proofs.totals.ReportTotals.add.Goals as goal

pub overflow_add-index_mut : goal.overflow_add-index_mut
overflow_add-index_mut c =
    let found = subst (λ l. IsFound c.args.kind c.args.id l c.in-Ok.i) c.deref.ensures.value c.in-Ok.ensures.found in
    omega (arith, c.requires, ap (λ (r : Report). r.bits) c.index_mut.ensures.value, bits_at_place c.args.kind c.args.id c.args.self.now.list.items c.in-Ok.i c.index_mut.result.now found.its_place found.there)

pub returns-in-Ok : goal.returns-in-Ok
returns-in-Ok c =
    let found = subst (λ l. IsFound c.args.kind c.args.id l c.in-Ok.i) c.deref.ensures.value c.in-Ok.ensures.found in
    ap (λ (r : Report). set c.args.self.now.list.items c.in-Ok.i (record r { bits = r.bits + c.args.bits })) c.index_mut.ensures.value
    ∙ bits_set c.args.kind c.args.id c.args.bits c.args.self.now.list.items c.in-Ok.i c.index_mut.result.now found.its_place found.there

pub invariant_of-self : goal.invariant_of-self
invariant_of-self c =
    let found = subst (λ l. IsFound c.args.kind c.args.id l c.in-Ok.i) c.deref.ensures.value c.in-Ok.ensures.found in
    let added = ap (λ (r : Report). set c.args.self.now.list.items c.in-Ok.i (record r { bits = r.bits + c.args.bits })) c.index_mut.ensures.value
    ∙ bits_set c.args.kind c.args.id c.args.bits c.args.self.now.list.items c.in-Ok.i c.index_mut.result.now found.its_place found.there in
    record { ordered = ap are_in_order added ∙ order_kept c.args.kind c.args.id c.args.bits c.args.self.now.list.items c.args.self.now.ordered }

pub insert-requires : goal.insert-requires
insert-requires c = omega (arith, c.deref.ensures.len, c.in-Err.ensures.absent.within)

pub invariant_of-self-in-Err : goal.invariant_of-self-in-Err
invariant_of-self-in-Err c = record { ordered = kept (is_ok c.insert.result) c.insert.ensures.items }
  where
    kept : (b : Bool) → c.insert.new.self.items ≡ cond b (insert c.args.self.now.list.items c.in-Err.i (record { kind = c.args.kind; id = c.args.id; bits = c.args.bits })) c.args.self.now.list.items → are_in_order c.insert.new.self.items ≡ true
    kept true e =
        let absent = subst (λ l. IsAbsent c.args.kind c.args.id l c.in-Err.i) c.deref.ensures.value c.in-Err.ensures.absent in
        ap are_in_order (e ∙ bits_inserted c.args.kind c.args.id c.args.bits c.args.self.now.list.items c.in-Err.i absent.its_place (nowhere c.args.kind c.args.id c.args.self.now.list.items c.in-Err.i absent.none))
        ∙ order_kept c.args.kind c.args.id c.args.bits c.args.self.now.list.items c.args.self.now.ordered
    kept false e = ap are_in_order e ∙ c.args.self.now.ordered

pub returns-in_ok-insert-in-Err : goal.returns-in_ok-insert-in-Err
returns-in_ok-insert-in-Err c =
    let absent = subst (λ l. IsAbsent c.args.kind c.args.id l c.in-Err.i) c.deref.ensures.value c.in-Err.ensures.absent in
    c.in_ok-insert-in-Err.ensures.items
    ∙ bits_inserted c.args.kind c.args.id c.args.bits c.args.self.now.list.items c.in-Err.i absent.its_place (nowhere c.args.kind c.args.id c.args.self.now.list.items c.in-Err.i absent.none)
