use Rattle.std.proofs.Common.{◌≡◌, ◌≤◌, ℕ, List, [], Bor, length, map, sym, ◌∙◌, arith}
use Rattle.std.proofs.lemmas.List.{length-map}
use Rattle.hid_input.specs.Items.{prefix_in}
use Rattle.hid_input.proofs.ItemsLemmas.{shown_here, shown_passed, rows_end}
use Rattle.hid_input.proofs.items.prefix_in.Goals as goal

pub returns-then-eq : goal.returns-then-eq
unfolding prefix_in
returns-then-eq c =
    sym (shown_here (λ (row : Bor (List ℕ) × ℕ). (row.0.now, row.1)) c.args.table.now c.args.wanted.now c.loop-name.name-index (record { ref_ptr = (0, 0); now = [] }, 0)
    c.loop-name-test.true (sym c.eq.ensures ∙ c.if-eq.true)) ∙ c.loop-name.invariant

pub returns : goal.returns
unfolding prefix_in
returns c =
    let table = map (λ (row : Bor (List ℕ) × ℕ). (row.0.now, row.1)) c.args.table.now in
    let same : length table ≡ length c.args.table.now = length-map c.args.table.now _ in
    let past : length table ≤ c.loop-name.name-index = omega (arith, c.loop-name-test.false, same) in
    sym (rows_end table c.args.wanted.now c.loop-name.name-index past) ∙ c.loop-name.invariant

pub loop-name-preserved : goal.loop-name-preserved
loop-name-preserved c =
    sym (shown_passed (λ (row : Bor (List ℕ) × ℕ). (row.0.now, row.1)) c.args.table.now c.args.wanted.now c.loop-name.name-index (record { ref_ptr = (0, 0); now = [] }, 0)
    c.loop-name-test.true (sym c.eq.ensures ∙ c.if-eq.false)) ∙ c.loop-name.invariant
