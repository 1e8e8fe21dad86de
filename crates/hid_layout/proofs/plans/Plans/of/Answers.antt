use Rattle.std.proofs.Common.{◌≡◌, [], length, map, take, drop, sym, ap, ◌∙◌, arith}
use Rattle.hid_report_descriptor.specs.Faults.{numbers_from}
use Rattle.hid_layout.specs.Plans.{count_of, begin_of}
use Rattle.hid_layout.proofs.PlanLemmas.{first_zero, ends_zero, all_put}
use Rattle.hid_layout.proofs.plans.Plans.of.Goals as goal

pub count_items-requires-clause-none : goal.count_items-requires-clause-none
count_items-requires-clause-none c =
    let zeros = c.in_ok-kept.ensures.items_if_clones_equal (λ y e. e) in
    let ends = ends_zero c.in_ok-kept.kept.items _ c.args.reports zeros (omega arith) in
    c.split_at_mut-ends.ensures.front ∙ ap (take c.args.reports) (c.split_at_mut-ends_and_places.ensures.back ∙ ap (drop 1) c.deref_mut.ensures.value) ∙ ends
    ∙ ap (λ n. map (count_of []) (numbers_from 0 n)) (sym c.split_at_mut-ends.ensures.front_len)

pub count_items-requires-clause-there : goal.count_items-requires-clause-there
count_items-requires-clause-there c i item at = omega (arith, c.requires.there i item at, c.split_at_mut-ends.ensures.front_len)

pub begin_places-requires : goal.begin_places-requires
begin_places-requires c =
    let same : length c.split_at_mut-ends.result.0.now ≡ length c.count_items.new.counts = omega (arith, c.count_items.auto.counts) in (
      c.args.items.now,
      omega (arith, c.in_ok-kept.ensures.len),
      c.count_items.ensures
          ∙ ap (λ n. map (count_of c.args.items.now) (numbers_from 0 n)) same,
    )

pub put_places-requires-clause-there : goal.put_places-requires-clause-there
put_places-requires-clause-there c i item at = omega (arith, c.requires.there i item at, c.split_at_mut-ends.ensures.front_len, c.count_items.auto.counts, c.begin_places.auto.counts)

pub put_places-requires-clause-begun : goal.put_places-requires-clause-begun
put_places-requires-clause-begun c =
    let counted : length c.split_at_mut-ends.result.0.now ≡ length c.count_items.new.counts = omega (arith, c.count_items.auto.counts) in
    let begun : length c.count_items.new.counts ≡ length c.begin_places.new.counts = omega (arith, c.begin_places.auto.counts) in
    c.begin_places.ensures c.args.items.now
    (c.count_items.ensures ∙ ap (λ n. map (count_of c.args.items.now) (numbers_from 0 n)) counted)
    ∙ ap (λ n. map (begin_of c.args.items.now) (numbers_from 0 n)) begun

pub put_places-requires-clause-room : goal.put_places-requires-clause-room
put_places-requires-clause-room c = omega (arith, c.split_at_mut-ends.ensures.back_len, c.split_at_mut-ends_and_places.ensures.back_len, c.deref_mut.ensures.len, c.in_ok-kept.ensures.len)

pub invariant_of-result : goal.invariant_of-result
invariant_of-result c =
    let zeros = c.in_ok-kept.ensures.items_if_clones_equal (λ y e. e) in
    let first = c.split_at_mut-ends_and_places.ensures.front ∙ ap (take 1) c.deref_mut.ensures.value ∙ first_zero c.in_ok-kept.kept.items _ zeros (omega arith) in
    let n : length c.begin_places.new.counts ≡ c.args.reports = omega (arith, c.split_at_mut-ends.ensures.front_len) in
    (all_put c.in_ok-kept.kept c.args.reports (length c.begin_places.new.counts) c.args.items.now _ c.put_places.new.ends c.put_places.new.places (omega (arith, c.in_ok-kept.ensures.len)) first n c.put_places.ensures.ends c.put_places.ensures.places).0

pub returns : goal.returns
returns c =
    let zeros = c.in_ok-kept.ensures.items_if_clones_equal (λ y e. e) in
    let first = c.split_at_mut-ends_and_places.ensures.front ∙ ap (take 1) c.deref_mut.ensures.value ∙ first_zero c.in_ok-kept.kept.items _ zeros (omega arith) in
    let n : length c.begin_places.new.counts ≡ c.args.reports = omega (arith, c.split_at_mut-ends.ensures.front_len) in
    (all_put c.in_ok-kept.kept c.args.reports (length c.begin_places.new.counts) c.args.items.now _ c.put_places.new.ends c.put_places.new.places (omega (arith, c.in_ok-kept.ensures.len)) first n c.put_places.ensures.ends c.put_places.ensures.places).1
