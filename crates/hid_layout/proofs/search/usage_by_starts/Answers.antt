use Rattle.std.proofs.Common.{◌≡◌, ◌≢◌, ◌≤◌, List, ℕ, ◌<◌, ◌+◌, ◌-◌, length, get_or, ap, arith, subst}
use Rattle.std.specs.Prelude.{slice_index}
use Rattle.hid_report_descriptor.specs.Usages.{Entry, starts_of}
use Rattle.hid_report_descriptor.proofs.StartLemmas.{starts-length, found_by_start, past_by_start, none_by_start}
use Rattle.hid_layout.proofs.search.usage_by_starts.Goals as goal

pub returns-then-ranges-eq0 : goal.returns-then-ranges-eq0
returns-then-ranges-eq0 c =
    none_by_start c.args.entries.now c.args.starts.now c.args.index c.requires
    (at_zero c.entries_up_to-ranges.result c.if-ranges-eq0.true c.entries_up_to-ranges.ensures.next)
  where
    at_zero : (n : ℕ) → n ≡ 0 → (n < length c.args.starts.now → c.args.index < slice_index c.args.starts.now n) → 0 < length c.args.starts.now → c.args.index < get_or c.args.starts.now 0 0
    at_zero n e next = subst (λ m. m < length c.args.starts.now → c.args.index < get_or c.args.starts.now m 0) e next

some_range : (n : ℕ) (starts : List ℕ) (es : List Entry) → n ≤ length starts → n ≢ 0 → starts ≡ starts_of es → n - 1 < length es
some_range n starts es within some s = omega (arith, ap length s, starts-length 0 es)

pub bounds-entries-ranges : goal.bounds-entries-ranges
bounds-entries-ranges c =
    some_range c.entries_up_to-ranges.result c.args.starts.now c.args.entries.now c.entries_up_to-ranges.ensures.within c.if-ranges-eq0.false c.requires

pub returns-then-rest-entry_count : goal.returns-then-rest-entry_count
returns-then-rest-entry_count c =
    found_by_start c.args.entries.now c.args.starts.now (c.entries_up_to-ranges.result - 1) c.args.index _ c.requires
    (some_range c.entries_up_to-ranges.result c.args.starts.now c.args.entries.now c.entries_up_to-ranges.ensures.within c.if-ranges-eq0.false c.requires)
    (c.entries_up_to-ranges.ensures.last (omega (arith, c.if-ranges-eq0.false)))
    (omega (arith, c.if-rest-entry_count.true, c.entry_count.ensures.value))

pub returns-else-rest-entry_count : goal.returns-else-rest-entry_count
returns-else-rest-entry_count c =
    past_by_start c.args.entries.now c.args.starts.now (c.entries_up_to-ranges.result - 1) c.args.index
    (record { page = 0; id = 0 }, record { page = 0; id = 0 }) c.requires
    (some_range c.entries_up_to-ranges.result c.args.starts.now c.args.entries.now c.entries_up_to-ranges.ensures.within c.if-ranges-eq0.false c.requires)
    (c.entries_up_to-ranges.ensures.last (omega (arith, c.if-ranges-eq0.false)))
    (omega (arith, c.if-rest-entry_count.false, c.entry_count.ensures.value))
    (behind c.entries_up_to-ranges.result (c.entries_up_to-ranges.result - 1 + 1)
    (omega (arith, c.if-ranges-eq0.false)) c.entries_up_to-ranges.ensures.next)
  where
    behind : (n m : ℕ) → n ≡ m → (n < length c.args.starts.now → c.args.index < slice_index c.args.starts.now n) → m < length c.args.starts.now → c.args.index < get_or c.args.starts.now m 0
    behind n m e next = subst (λ k. k < length c.args.starts.now → c.args.index < get_or c.args.starts.now k 0) e next
