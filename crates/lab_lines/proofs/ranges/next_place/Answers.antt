use Rattle.std.proofs.Common.{◌≡◌, ◌+◌, refl, ap, arith, length, get_or}
use Rattle.std.proofs.lemmas.List.{take_all}
use Rattle.hid_report_descriptor.specs.Usages.{Entry, entry_count, usage_list}
use Rattle.hid_report_descriptor.proofs.StartLemmas.{at_start, next_start, starts-length}
use Rattle.lab_lines.specs.ControlNames.{sought_by}
use Rattle.lab_lines.proofs.RangeLemmas.{passed_within, passed_to_later, found_within, past_list}
use Rattle.lab_lines.proofs.ranges.next_place.Goals as goal

-- what is past the last range
abbrev none : Entry
none = (record { page = 0; id = 0 }, record { page = 0; id = 0 })

pub bounds-starts-i : goal.bounds-starts-i
bounds-starts-i c = omega (arith, c.loop-i-test.true, c.loop-i.invariant.end, ap length c.requires, starts-length 0 c.args.entries.now)

pub overflow_sub-next : goal.overflow_sub-next
overflow_sub-next c = omega (arith, at_start c.args.entries.now c.args.starts.now c.loop-i.i c.requires c.loop-i-test.true, c.loop-i.invariant.begun)

pub returns-in-Some-clause-passed : goal.returns-in-Some-clause-passed
returns-in-Some-clause-passed c =
    let first = c.in-Some.ensures in
    passed_within (λ u. sought_by c.args.sought u) c.args.entries.now c.args.starts.now c.loop-i.i c.args.from c.loop-i.next c.in-Some.place _ c.requires c.loop-i-test.true c.loop-i.invariant.begun c.loop-i.invariant.passed
    first.2 (omega (arith, first.1))

pub loop-i-preserved : goal.loop-i-preserved
loop-i-preserved c =
    let es = c.args.entries.now in
    let i = c.loop-i.i in
    let range = passed_within (λ u. sought_by c.args.sought u) es c.args.starts.now i c.args.from c.loop-i.next (entry_count (get_or es i none)) none c.requires c.loop-i-test.true c.loop-i.invariant.begun c.loop-i.invariant.passed
    (λ j low high. c.in_default.ensures j low high) (omega arith) in
    let end : get_or c.args.starts.now i 0 + c.entry_count.result ≡ get_or c.args.starts.now i 0 + entry_count (get_or es i none) = omega (arith, c.entry_count.ensures.value) in
    record {
      end = refl;
      order = omega (arith, c.max-next.ensures, c.loop-i.invariant.order);
      begun = omega (arith, c.max-next.ensures, at_start es c.args.starts.now i c.requires c.loop-i-test.true, next_start es i none c.loop-i-test.true, c.entry_count.ensures.value);
      passed = rw c.max-next.ensures (passed_to_later (λ u. sought_by c.args.sought u) (usage_list es) c.args.from c.loop-i.next (get_or c.args.starts.now i 0 + c.entry_count.result) c.loop-i.invariant.passed (rw end range));
    }

pub returns-in-Some-clause-found : goal.returns-in-Some-clause-found
returns-in-Some-clause-found c =
    let first = c.in-Some.ensures in
    found_within (λ u. sought_by c.args.sought u) c.args.entries.now c.args.starts.now c.loop-i.i c.in-Some.place _ c.requires c.loop-i-test.true first.1 first.3

pub returns-clause-found : goal.returns-clause-found
returns-clause-found c =
    let all = ap (λ l. length (usage_list l)) (take_all c.loop-i.i c.args.entries.now (omega (arith, c.loop-i-test.false, c.loop-i.invariant.end))) in
    past_list (λ u. sought_by c.args.sought u) (usage_list c.args.entries.now) c.loop-i.next (omega (arith, c.loop-i.invariant.begun, all))
