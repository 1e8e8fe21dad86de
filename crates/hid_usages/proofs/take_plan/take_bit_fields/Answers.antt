use Rattle.std.proofs.Common.{◌≡◌, ◌*◌, ◌^◌, ◌<◌, ◌∙◌, ℕ, true, List, ap, sym, subst, length, arith, rules}
use Rattle.hid_snapshots.specs.declared.control_state.ControlState.{ControlState}
use Rattle.hid_snapshots.specs.declared.event.Event.{Event}
use Rattle.hid_usages.specs.Appending.{Appends}
use Rattle.hid_snapshots.specs.Events.{usages_at, element_events}
use Rattle.hid_usages.specs.Reading.{item_numbers}
use Rattle.hid_usages.specs.Taking.{state_after_numbers_at}
use Rattle.hid_usages.specs.Bits.{are_bits, read_bits}
use Rattle.hid_usages.proofs.BitLemmas.{pattern_in, has_bits, reads_as_bits}
use Rattle.hid_snapshots.proofs.EncodingLemmas.{place_inside}
use Rattle.hid_usages.proofs.take_plan.take_bit_fields.Goals as goal

pub get-pattern-requires-clause-some : goal.get-pattern-requires-clause-some
get-pattern-requires-clause-some g c = omega (arith, (c.requires.listed.layout.elements c.args.listed.now.place c.args.listed.now.item.now c.requires.listed.with_data.listed c.requires.listed.with_data.no_padding).some)

pub get-pattern-requires-clause-width : goal.get-pattern-requires-clause-width
get-pattern-requires-clause-width g c =
    let on : are_bits c.args.listed.now.item.now ≡ true = c.requires.bits in
    let few = (has_bits c.args.listed.now.item.now on).few in
    omega arith

pub get-pattern-requires-clause-inside : goal.get-pattern-requires-clause-inside
get-pattern-requires-clause-inside g c =
    let on : are_bits c.args.listed.now.item.now ≡ true = c.requires.bits in
    let size = (has_bits c.args.listed.now.item.now on).size in
    let inside = place_inside c.args.listed.now.layout.now c.args.listed.now.item.now.report c.args.listed.now.place c.args.listed.now.item.now c.requires.listed.layout c.requires.listed.with_data in
    let product : c.args.listed.now.item.now.size * c.args.listed.now.item.now.count ≡ 1 * c.args.listed.now.item.now.count = ap (λ (n : ℕ). n * c.args.listed.now.item.now.count) size in
    omega (arith, c.requires.at, c.requires.listed.whole)

pub take_pattern-requires-clause-held : goal.take_pattern-requires-clause-held
take_pattern-requires-clause-held g c =
    let on : are_bits c.args.listed.now.item.now ≡ true = c.requires.bits in
    (reads_as_bits c.args.listed.now.layout.now c.args.bytes.now c.args.listed.now.place c.args.listed.now.item.now c.args.state.now c.requires.listed.layout c.requires.listed.with_data.listed c.requires.listed.input (has_bits c.args.listed.now.item.now on) c.requires.held).room

pub take_pattern-requires-clause-few : goal.take_pattern-requires-clause-few
take_pattern-requires-clause-few g c =
    let on : are_bits c.args.listed.now.item.now ≡ true = c.requires.bits in
    let bits = has_bits c.args.listed.now.item.now on in
    let reads = reads_as_bits c.args.listed.now.layout.now c.args.bytes.now c.args.listed.now.place c.args.listed.now.item.now c.args.state.now c.requires.listed.layout c.requires.listed.with_data.listed c.requires.listed.input bits c.requires.held in
    omega (arith, reads.places, bits.few)

pub take_pattern-requires-clause-fits : goal.take_pattern-requires-clause-fits
take_pattern-requires-clause-fits g c =
    let on : are_bits c.args.listed.now.item.now ≡ true = c.requires.bits in
    let reads = reads_as_bits c.args.listed.now.layout.now c.args.bytes.now c.args.listed.now.place c.args.listed.now.item.now c.args.state.now c.requires.listed.layout c.requires.listed.with_data.listed c.requires.listed.input (has_bits c.args.listed.now.item.now on) c.requires.held in
    subst (λ (n : ℕ). c.get-pattern.result < 2 ^ n) (sym reads.places) c.get-pattern.ensures.fits

pub take_pattern-requires-clause-room : goal.take_pattern-requires-clause-room
take_pattern-requires-clause-room g c =
    let on : are_bits c.args.listed.now.item.now ≡ true = c.requires.bits in
    let reads = reads_as_bits c.args.listed.now.layout.now c.args.bytes.now c.args.listed.now.place c.args.listed.now.item.now c.args.state.now c.requires.listed.layout c.requires.listed.with_data.listed c.requires.listed.input (has_bits c.args.listed.now.item.now on) c.requires.held in
    let pattern : c.get-pattern.result ≡ pattern_in c.args.listed.now.layout.now c.args.bytes.now c.args.listed.now.item.now = search rules in
    let read = ap (λ (p : ℕ). read_bits p c.args.state.now) pattern ∙ reads.read in
    let told =
    ap (λ (a : ControlState). element_events c.args.listed.now.place
    (usages_at c.args.listed.now.layout.now c.args.listed.now.place) c.args.state.now a) read
    ∙ reads.told
    (state_after_numbers_at c.args.listed.now.layout.now c.args.listed.now.place c.args.listed.now.item.now c.args.state.now (item_numbers c.args.listed.now.layout.now c.args.bytes.now c.args.listed.now.item.now)) in
    omega (arith, ap (λ (es : List Event). length es) told, c.requires.room)

pub returns-clause-state : goal.returns-clause-state
returns-clause-state g c =
    let on : are_bits c.args.listed.now.item.now ≡ true = c.requires.bits in
    let reads = reads_as_bits c.args.listed.now.layout.now c.args.bytes.now c.args.listed.now.place c.args.listed.now.item.now c.args.state.now c.requires.listed.layout c.requires.listed.with_data.listed c.requires.listed.input (has_bits c.args.listed.now.item.now on) c.requires.held in
    let pattern : c.get-pattern.result ≡ pattern_in c.args.listed.now.layout.now c.args.bytes.now c.args.listed.now.item.now = search rules in
    c.take_pattern.ensures.state ∙ ap (λ (p : ℕ). read_bits p c.args.state.now) pattern ∙ reads.read

pub returns-clause-appends : goal.returns-clause-appends
returns-clause-appends g c =
    let on : are_bits c.args.listed.now.item.now ≡ true = c.requires.bits in
    let reads = reads_as_bits c.args.listed.now.layout.now c.args.bytes.now c.args.listed.now.place c.args.listed.now.item.now c.args.state.now c.requires.listed.layout c.requires.listed.with_data.listed c.requires.listed.input (has_bits c.args.listed.now.item.now on) c.requires.held in
    subst (λ (es : List Event). Appends c.args.out.now es c.take_pattern.new.out) (reads.told c.take_pattern.new.state) c.take_pattern.ensures.appends

pub take_pattern-requires-clause-usages : goal.take_pattern-requires-clause-usages
take_pattern-requires-clause-usages g c = c.requires.usages
