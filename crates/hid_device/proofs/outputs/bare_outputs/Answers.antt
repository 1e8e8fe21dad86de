use Rattle.std.proofs.Common.{◌≡◌, ◌≤◌, ℕ, ◌+◌, ◌-◌, ◌<◌, ◌++◌, List, ◌∷◌, [], length, map, ap, subst, sym, ◌∙◌, arith}
use Rattle.std.specs.List.{range_with_len}
use Rattle.std.proofs.lemmas.List.FromFn.{map-range_with_len_more}
use Rattle.hid_snapshots.specs.Encoding.{bare_report}
use Rattle.hid_device.specs.Inputs.{input_count}
use Rattle.hid_device.proofs.outputs.bare_outputs.Goals as goal

pub bare-requires-clause-report : goal.bare-requires-clause-report
bare-requires-clause-report c = subst (λ (n : ℕ). c.loop-report.report < n) c.loop-report.invariant.count_is c.loop-report-test.true

pub loop-report-preserved : goal.loop-report-preserved
loop-report-preserved c =
    let first : ℕ = c.input_count-first.result in
    let done : ℕ = c.loop-report.report - first in
    let from : first ≤ c.loop-report.report = c.loop-report.invariant.from in
    let next : c.loop-report.report + 1 - first ≡ done + 1 = omega (arith, from) in
    let pushed : c.push_reserved.new.self.items ≡ c.loop-report.outputs.items ++ bare_report c.args.layout.now c.loop-report.report ∷ []
    = c.push_reserved.ensures.items ∙ ap (λ (bytes : List ℕ). c.loop-report.outputs.items ++ bytes ∷ []) c.bare.ensures in
    record {
      from = omega (arith, from);
      bare = pushed ∙ ap (λ (xs : List (List ℕ)). xs ++ bare_report c.args.layout.now c.loop-report.report ∷ []) c.loop-report.invariant.bare
          ∙ sym (map-range_with_len_more (bare_report c.args.layout.now) first done c.loop-report.report (omega (arith, from)))
          ∙ ap (λ (n : ℕ). map (bare_report c.args.layout.now) (range_with_len first n)) (sym next);
      first_is = c.loop-report.invariant.first_is;
      count_is = c.loop-report.invariant.count_is;
      long = omega (arith, from, c.push_reserved.ensures.len, c.loop-report.invariant.long);
      room = omega (arith, c.push_reserved.ensures.capacity, c.loop-report.invariant.room);
    }
