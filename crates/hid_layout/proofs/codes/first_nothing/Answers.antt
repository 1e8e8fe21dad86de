use Rattle.std.proofs.Common.{arith, inl, inr}
use Rattle.hid_layout.proofs.EmptyCodeLemmas.{found_first_in, still_named_in, continues_in, nothing_left, not_far, none_left}
use Rattle.hid_layout.proofs.codes.first_nothing.Goals as goal

pub returns-then-found-end-clause-first : goal.returns-then-found-end-clause-first
returns-then-found-end-clause-first c =
    let i = c.loop-entry.invariant in
    found_first_in _ _ _ _ _ _ _ _ c.entry_count.ensures.value i.4 c.loop-entry-test.true i.0 i.1 i.5 c.first_nothing-found.ensures c.if-found-end.true

pub loop-entry-preserved : goal.loop-entry-preserved
loop-entry-preserved c =
    let i = c.loop-entry.invariant in
    let end = c.if-found-end.false in
    let found = c.first_nothing-found.ensures in (
      end,
      omega (arith, i.1, found.low_bound),
      omega (arith, i.2, c.entry_count.ensures.few),
      elim (not_far _ _ _ _ _ found) [ inl h ↦ omega (arith, h, i.3) | inr h ↦ omega (arith, h, i.2, c.entry_count.ensures.few) ],
      continues_in _ _ _ _ _ c.entry_count.ensures.value i.4 c.loop-entry-test.true,
      still_named_in _ _ _ _ _ _ _ _ c.entry_count.ensures.value i.4 c.loop-entry-test.true i.0 i.5 found,
    )

pub returns-clause-first : goal.returns-clause-first
returns-clause-first c =
    let i = c.loop-entry.invariant in
    nothing_left c.args.entries.now _ c.loop-entry.entry-index _ _ i.4 (none_left _ _ c.loop-entry-test.false) i.0 i.1 i.5
