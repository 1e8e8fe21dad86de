use Rattle.std.proofs.Common.{◌≡◌, ℕ, Some, sym, subst, arith, rules}
use Rattle.std.specs.List.{position}
use Rattle.hid_usages.specs.Reading.{is_input_with}
use Rattle.hid_snapshots.specs.Parts.{IsInput}
use Rattle.hid_usages.proofs.LastLemmas.{index_put}
use Rattle.hid_usages.proofs.NamingLemmas.{input_with}
use Rattle.hid_usages.proofs.report_index.put_report.Goals as goal

pub returns-then-id-index : goal.returns-then-id-index
returns-then-id-index c =
    let layout = c.args.layout.now in
    let input : IsInput layout c.args.report = search rules in
    index_put layout c.args.index.now c.from-id.result c.args.report c.requires.index (omega arith)
    (subst (λ (id : ℕ). position (is_input_with id) layout.reports ≡ Some c.args.report) (sym c.from-id.ensures)
    (input_with layout c.args.report c.report_at.result.now c.items.ensures.layout input c.report_at.ensures))
