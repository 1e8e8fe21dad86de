use Rattle.std.proofs.Common.{rules, ◌≡◌, length, get_or, arith, refl}
use Rattle.std.specs.List.{refill}
use Rattle.arrayvec.specs.ArrayVec.{array_vec_len}
use Rattle.hid_layout.specs.Reports.{report_bytes}
use Rattle.hid_snapshots.specs.Encoding.{part_numbers, bare_report}
use Rattle.hid_snapshots.proofs.PlanLemmas.{input_there, along_next, along_step, along_end}
use Rattle.hid_snapshots.proofs.EncodingLemmas.{encoded, other_passed, shows_put, whole_report}
use Rattle.hid_snapshots.proofs.ReportLemmas.{can_send_all, only_one, bytes_are_of_part}
use Rattle.hid_snapshots.proofs.encode.write_report.Goals as goal

pub bare_report-requires-clause-report : goal.bare_report-requires-clause-report
bare_report-requires-clause-report g c = input_there c.args.layout.now c.args.report c.requires.input

pub show_item-requires-clause-part : goal.show_item-requires-clause-part
show_item-requires-clause-part g c = can_send_all c.args.layout.now c.args.report c.args.shown.now c.plan_of-places.ensures.layout c.requires.input c.requires.fits

pub loop-place-preserved : goal.loop-place-preserved
loop-place-preserved g c =
    let next = along_next c.args.layout.now c.args.report c.loop-place.place-index c.plan_of-places.result.now _
    (other_passed c.args.layout.now c.args.report (part_numbers c.args.layout.now c.args.shown.now) (bare_report c.args.layout.now c.args.report) c.loop-place.bytes.items)
    c.plan_of-places.ensures.plan (omega arith) c.loop-place.invariant.shows in
    let taken : c.deref_mut.result.now ≡ c.loop-place.bytes.items = search rules in
    let put : refill (array_vec_len c.loop-place.bytes) c.loop-place.bytes.items c.show_item.new.bytes ≡ c.show_item.new.bytes = grind (arith, whole_report) in
    record {
      shows = along_step c.args.layout.now c.args.report c.loop-place.place-index _ _ _ next
          (shows_put c.args.layout.now c.args.report (part_numbers c.args.layout.now c.args.shown.now) (get_or c.plan_of-places.result.now c.loop-place.place-index 0) (bare_report c.args.layout.now c.args.report)
          c.loop-place.bytes.items c.deref_mut.result.now c.show_item.new.bytes _ taken put c.show_item.ensures.shows next.holds);
      bytes = grind (arith, whole_report);
      whole = search rules;
    }

pub returns-clause-shows : goal.returns-clause-shows
returns-clause-shows g c =
    let all = along_end c.args.layout.now c.args.report c.loop-place.place-index c.plan_of-places.result.now _
    (other_passed c.args.layout.now c.args.report (part_numbers c.args.layout.now c.args.shown.now) (bare_report c.args.layout.now c.args.report) c.loop-place.bytes.items)
    c.plan_of-places.ensures.plan c.loop-place-test.false c.loop-place.invariant.shows in
    let whole : length c.loop-place.bytes.items ≡ report_bytes c.args.layout.now c.args.report = search rules in
    encoded c.args.layout.now c.args.report (length c.args.layout.now.items) (part_numbers c.args.layout.now c.args.shown.now) c.loop-place.bytes.items refl whole all

pub returns-clause-only : goal.returns-clause-only
returns-clause-only g c = λ other bytes is.
    only_one c.args.layout.now c.args.report (part_numbers c.args.layout.now c.args.shown.now) other c.loop-place.bytes.items c.plan_of-places.ensures.layout bytes c.loop-place.invariant.bytes is (returns-clause-shows g c)

pub returns-clause-bytes : goal.returns-clause-bytes
returns-clause-bytes g c =
    bytes_are_of_part c.args.layout.now c.args.report c.args.shown.now c.loop-place.bytes.items c.plan_of-places.ensures.layout c.loop-place.invariant.bytes (returns-clause-shows g c)
