use Rattle.std.proofs.Common.{◌≡◌, ◌∙◌, ◌++◌, ◌+◌, ℕ, ℤ, to_z, of_z, w64, List, All, ap, sym, subst, length, arith, rules}
use Rattle.std.proofs.lemmas.Int.{to_z-of_z}
use Rattle.hid_layout.specs.Controls.{element_kind, least_of, greatest_of}
use Rattle.hid_snapshots.specs.declared.control_state.ControlState.{ControlState}
use Rattle.hid_snapshots.specs.declared.event.Event.{Event}
use Rattle.hid_snapshots.specs.Events.{usages_at, element_events}
use Rattle.hid_snapshots.specs.Views.{motions_of}
use Rattle.hid_snapshots.proofs.EncodingLemmas.{place_inside}
use Rattle.hid_snapshots.proofs.NumberLemmas.{numbers_in-length}
use Rattle.hid_usages.specs.Appending.{HasSpace, Appends}
use Rattle.hid_usages.specs.Reading.{FitsFields, item_numbers, motion_elements}
use Rattle.hid_usages.specs.Taking.{state_after_numbers_at, events_of_numbers_at}
use Rattle.hid_usages.proofs.BoundLemmas.{numbers_fit, in_range, reads_within}
use Rattle.hid_usages.proofs.TakeLemmas.{usages_count, variable_controls}
use Rattle.hid_fields.specs.Value.{is_negative}
use Rattle.hid_layout.specs.Reports.{first_bit}
use Rattle.hid_layout.specs.declared.control.ControlKind.{ControlKind}
use Rattle.hid_layout.specs.declared.control.Controls.{Controls}
use Rattle.hid_layout.specs.declared.control.Controls.TheVariants as head
use Rattle.hid_snapshots.specs.ControlStates.{HasRoom}
use Rattle.hid_usages.specs.Ranges.{LeaveOthers, HoldsSpan}
use Rattle.hid_usages.proofs.RangeLemmas.{others_left}
use Rattle.hid_usages.proofs.take_plan.take_variable.Goals as goal

pub new-numbers-requires : goal.new-numbers-requires
new-numbers-requires g c =
    let elements = c.requires.listed.layout.elements c.args.listed.now.place c.args.listed.now.item.now c.requires.listed.with_data.listed c.requires.listed.with_data.no_padding in
    let inside = place_inside c.args.listed.now.layout.now c.args.listed.now.item.now.report c.args.listed.now.place c.args.listed.now.item.now c.requires.listed.layout c.requires.listed.with_data in
    record {
      some = elements.some_bits;
      narrow = elements.narrow;
      inside = omega (arith, c.requires.at, c.requires.listed.whole);
      short = omega (arith, c.requires.at, c.requires.listed.layout.short c.args.listed.now.item.now.report);
    }

pub take_elements-requires-clause-numbers : goal.take_elements-requires-clause-numbers
take_elements-requires-clause-numbers g c =
    let layout = c.args.listed.now.layout.now in
    let item = c.args.listed.now.item.now in
    let heads = variable_controls layout c.args.listed.now.place item c.requires.listed.layout c.requires.listed.with_data.listed c.requires.listed.input c.requires.shape in
    ap length c.new-numbers.ensures ∙ numbers_in-length c.args.bytes.now _ item.size _ item.count
    ∙ sym (usages_count layout c.args.listed.now.place item (element_kind item) (least_of item) (greatest_of item) item.count c.requires.listed.layout c.requires.listed.with_data.listed c.requires.listed.with_data.no_padding c.requires.listed.input heads)

pub elements_read-requires : goal.elements_read-requires
elements_read-requires g c = record { size = (c.requires.listed.layout.elements c.args.listed.now.place c.args.listed.now.item.now c.requires.listed.with_data.listed c.requires.listed.with_data.no_padding).some_bits }

pub take_elements-requires-clause-others : goal.take_elements-requires-clause-others
take_elements-requires-clause-others g c =
    let layout = c.args.listed.now.layout.now in
    let place = c.args.listed.now.place in
    let item = c.args.listed.now.item.now in
    let known = c.requires.known in
    let numbers : c.new-numbers.result ≡ item_numbers layout c.args.bytes.now item = search rules in
    let elements = c.requires.listed.layout.elements place item c.requires.listed.with_data.listed c.requires.listed.with_data.no_padding in
    let fit = numbers_fit known.last (first_bit layout + item.offset) item.size (is_negative item.min) item.count elements.some_bits in
    let least = to_z w64 (of_z w64 item.min) in
    let greatest = to_z w64 (of_z w64 item.max) in
    let reads = reads_within layout place item c.args.kind least greatest c.args.state.now (item_numbers layout known.last item) c.requires.listed.input c.requires.shape c.requires.kind (in_range item least greatest (search (rules, to_z-of_z)) (search (rules, to_z-of_z))) fit in
    let heads = variable_controls layout place item c.requires.listed.layout c.requires.listed.with_data.listed c.requires.listed.input c.requires.shape in
    let room = subst (λ (k : ControlKind). HasRoom (head.Elements k (least_of item) (greatest_of item) item.count) c.args.state.now) (sym c.requires.kind)
    (subst (λ (controls : Controls). HasRoom controls c.args.state.now) (sym heads) c.requires.held) in
    let holds = subst (λ (n : ℕ). HoldsSpan n item.size item.count c.args.changed c.elements_read.result) c.requires.at c.elements_read.ensures in
    subst (λ (ns : List ℤ). LeaveOthers c.args.kind (record { least = least; greatest = greatest }) ns c.elements_read.result c.args.state.now) (sym numbers)
    (others_left c.args.kind (record { least = least; greatest = greatest }) c.args.bytes.now known.last (first_bit layout + item.offset) item.size (is_negative item.min) item.count c.args.changed c.elements_read.result (least_of item) (greatest_of item) c.args.state.now elements.some_bits room (λ n low outside. reads.read ∙ known.left n (omega (arith, low, c.requires.listed.layout.inside place item c.requires.listed.with_data.listed)) outside) holds
    (λ n low outside. known.same n (omega (arith, low, c.requires.listed.layout.inside place item c.requires.listed.with_data.listed)) outside))

pub take_elements-requires-clause-room : goal.take_elements-requires-clause-room
take_elements-requires-clause-room g c =
    let layout = c.args.listed.now.layout.now in
    let place = c.args.listed.now.place in
    let item = c.args.listed.now.item.now in
    let numbers : c.new-numbers.result ≡ item_numbers layout c.args.bytes.now item = search rules in
    let elements = c.requires.listed.layout.elements place item c.requires.listed.with_data.listed c.requires.listed.with_data.no_padding in
    let fit : All (FitsFields item) c.new-numbers.result = subst (All (FitsFields item)) (sym numbers) (numbers_fit c.args.bytes.now _ item.size _ item.count elements.some_bits) in
    let least = to_z w64 (of_z w64 item.min) in
    let greatest = to_z w64 (of_z w64 item.max) in
    let reads = reads_within layout place item c.args.kind least greatest c.args.state.now c.new-numbers.result c.requires.listed.input c.requires.shape c.requires.kind (in_range item least greatest (search (rules, to_z-of_z)) (search (rules, to_z-of_z))) fit in
    let moved = motion_elements c.args.kind least greatest c.new-numbers.result in
    let told =
    ap (λ (after : ControlState). element_events place (usages_at layout place) c.args.state.now after
    ++ motions_of place (usages_at layout place) moved) reads.read
    ∙ reads.told (state_after_numbers_at layout place item c.args.state.now c.new-numbers.result) in
    subst (HasSpace c.args.out.now) (sym told) (subst (λ (ns : List ℤ). HasSpace c.args.out.now (events_of_numbers_at layout place item c.args.state.now (state_after_numbers_at layout place item c.args.state.now ns) ns)) (sym numbers) c.requires.room)

pub returns-clause-state : goal.returns-clause-state
returns-clause-state g c =
    let layout = c.args.listed.now.layout.now in
    let place = c.args.listed.now.place in
    let item = c.args.listed.now.item.now in
    let numbers : c.new-numbers.result ≡ item_numbers layout c.args.bytes.now item = search rules in
    let elements = c.requires.listed.layout.elements place item c.requires.listed.with_data.listed c.requires.listed.with_data.no_padding in
    let fit : All (FitsFields item) c.new-numbers.result = subst (All (FitsFields item)) (sym numbers) (numbers_fit c.args.bytes.now _ item.size _ item.count elements.some_bits) in
    let least = to_z w64 (of_z w64 item.min) in
    let greatest = to_z w64 (of_z w64 item.max) in
    let reads = reads_within layout place item c.args.kind least greatest c.args.state.now c.new-numbers.result c.requires.listed.input c.requires.shape c.requires.kind (in_range item least greatest (search (rules, to_z-of_z)) (search (rules, to_z-of_z))) fit in
    c.take_elements.ensures.state ∙ reads.read ∙ ap (state_after_numbers_at layout place item c.args.state.now) numbers

pub returns-clause-appends : goal.returns-clause-appends
returns-clause-appends g c =
    let layout = c.args.listed.now.layout.now in
    let place = c.args.listed.now.place in
    let item = c.args.listed.now.item.now in
    let numbers : c.new-numbers.result ≡ item_numbers layout c.args.bytes.now item = search rules in
    let elements = c.requires.listed.layout.elements place item c.requires.listed.with_data.listed c.requires.listed.with_data.no_padding in
    let fit : All (FitsFields item) c.new-numbers.result = subst (All (FitsFields item)) (sym numbers) (numbers_fit c.args.bytes.now _ item.size _ item.count elements.some_bits) in
    let least = to_z w64 (of_z w64 item.min) in
    let greatest = to_z w64 (of_z w64 item.max) in
    let reads = reads_within layout place item c.args.kind least greatest c.args.state.now c.new-numbers.result c.requires.listed.input c.requires.shape c.requires.kind (in_range item least greatest (search (rules, to_z-of_z)) (search (rules, to_z-of_z))) fit in
    subst (λ (ns : List ℤ). Appends c.args.out.now (events_of_numbers_at layout place item c.args.state.now c.take_elements.new.state ns) c.take_elements.new.out) numbers
    (subst (λ (es : List Event). Appends c.args.out.now es c.take_elements.new.out) (reads.told c.take_elements.new.state) c.take_elements.ensures.appends)
