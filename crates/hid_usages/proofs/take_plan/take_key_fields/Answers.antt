use Rattle.std.proofs.Common.{◌≡◌, ◌∙◌, ℤ, List, All, ap, sym, subst, arith, rules}
use Rattle.std.proofs.lemmas.Option.{slice_get_within}
use Rattle.hid_snapshots.specs.declared.event.Event.{Event}
use Rattle.hid_snapshots.specs.Events.{usages_at, key_events}
use Rattle.hid_snapshots.proofs.EncodingLemmas.{place_inside}
use Rattle.hid_usages.specs.Appending.{HasSpace, Appends}
use Rattle.hid_usages.specs.Reading.{FitsFields, item_numbers}
use Rattle.hid_usages.specs.Taking.{state_after_numbers_at, events_of_numbers_at}
use Rattle.hid_usages.proofs.BoundLemmas.{numbers_fit}
use Rattle.hid_usages.proofs.PressLemmas.{reads_keys}
use Rattle.hid_usages.proofs.take_plan.take_key_fields.Goals as goal

pub new-numbers-requires : goal.new-numbers-requires
new-numbers-requires g c =
    let elements = c.requires.listed.layout.elements c.args.listed.now.place c.args.listed.now.item.now c.requires.listed.with_data.listed c.requires.listed.with_data.no_padding in
    let inside = place_inside c.args.listed.now.layout.now c.args.listed.now.item.now.report c.args.listed.now.place c.args.listed.now.item.now c.requires.listed.layout c.requires.listed.with_data in
    record {
      some = elements.some_bits;
      narrow = elements.narrow;
      inside = omega (arith, c.requires.at, c.requires.listed.whole);
      short = omega (arith, c.requires.at, c.requires.listed.layout.short c.args.listed.now.item.now.report);
    }

pub entries-entries-requires : goal.entries-entries-requires
entries-entries-requires g c = slice_get_within c.args.listed.now.layout.now.items c.args.listed.now.place c.args.listed.now.item.now c.requires.listed.with_data.listed

pub take_array-requires-clause-array : goal.take_array-requires-clause-array
take_array-requires-clause-array g c =
    let layout = c.args.listed.now.layout.now in
    let place = c.args.listed.now.place in
    let item = c.args.listed.now.item.now in
    let numbers : c.new-numbers.result ≡ item_numbers layout c.args.bytes.now item = search rules in
    let reads = reads_keys layout place item c.entries-entries.result.now c.args.state.now c.new-numbers.result c.requires.listed.input c.requires.shape c.entries-entries.ensures c.requires.held in
    record {
      there = slice_get_within c.args.listed.now.layout.now.items c.args.listed.now.place c.args.listed.now.item.now c.requires.listed.with_data.listed;
      listed = c.entries-entries.ensures;
      few = c.requires.listed.layout.few_entries place c.entries-entries.result.now c.entries-entries.ensures;
      keys = reads.keys;
      usages = reads.usages;
    }

pub take_array-requires-clause-fits : goal.take_array-requires-clause-fits
take_array-requires-clause-fits g c =
    let layout = c.args.listed.now.layout.now in
    let place = c.args.listed.now.place in
    let item = c.args.listed.now.item.now in
    let numbers : c.new-numbers.result ≡ item_numbers layout c.args.bytes.now item = search rules in
    let elements = c.requires.listed.layout.elements place item c.requires.listed.with_data.listed c.requires.listed.with_data.no_padding in
    let fit : All (FitsFields item) c.new-numbers.result = subst (All (FitsFields item)) (sym numbers) (numbers_fit c.args.bytes.now _ item.size _ item.count elements.some_bits) in
    fit

pub take_array-requires-clause-held : goal.take_array-requires-clause-held
take_array-requires-clause-held g c =
    let layout = c.args.listed.now.layout.now in
    let place = c.args.listed.now.place in
    let item = c.args.listed.now.item.now in
    let numbers : c.new-numbers.result ≡ item_numbers layout c.args.bytes.now item = search rules in
    let reads = reads_keys layout place item c.entries-entries.result.now c.args.state.now c.new-numbers.result c.requires.listed.input c.requires.shape c.entries-entries.ensures c.requires.held in
    reads.places

pub take_array-requires-clause-room : goal.take_array-requires-clause-room
take_array-requires-clause-room g c =
    let layout = c.args.listed.now.layout.now in
    let place = c.args.listed.now.place in
    let item = c.args.listed.now.item.now in
    let numbers : c.new-numbers.result ≡ item_numbers layout c.args.bytes.now item = search rules in
    let reads = reads_keys layout place item c.entries-entries.result.now c.args.state.now c.new-numbers.result c.requires.listed.input c.requires.shape c.entries-entries.ensures c.requires.held in
    let told =
    ap (key_events place (usages_at layout place) c.args.state.now) reads.read
    ∙ reads.told (state_after_numbers_at layout place item c.args.state.now c.new-numbers.result) in
    subst (HasSpace c.args.out.now) (sym told) (subst (λ (ns : List ℤ). HasSpace c.args.out.now (events_of_numbers_at layout place item c.args.state.now (state_after_numbers_at layout place item c.args.state.now ns) ns)) (sym numbers) c.requires.room)

pub returns-clause-state : goal.returns-clause-state
returns-clause-state g c =
    let layout = c.args.listed.now.layout.now in
    let place = c.args.listed.now.place in
    let item = c.args.listed.now.item.now in
    let numbers : c.new-numbers.result ≡ item_numbers layout c.args.bytes.now item = search rules in
    let reads = reads_keys layout place item c.entries-entries.result.now c.args.state.now c.new-numbers.result c.requires.listed.input c.requires.shape c.entries-entries.ensures c.requires.held in
    c.take_array.ensures.state ∙ reads.read ∙ ap (state_after_numbers_at layout place item c.args.state.now) numbers

pub returns-clause-appends : goal.returns-clause-appends
returns-clause-appends g c =
    let layout = c.args.listed.now.layout.now in
    let place = c.args.listed.now.place in
    let item = c.args.listed.now.item.now in
    let numbers : c.new-numbers.result ≡ item_numbers layout c.args.bytes.now item = search rules in
    let reads = reads_keys layout place item c.entries-entries.result.now c.args.state.now c.new-numbers.result c.requires.listed.input c.requires.shape c.entries-entries.ensures c.requires.held in
    subst (λ (ns : List ℤ). Appends c.args.out.now (events_of_numbers_at layout place item c.args.state.now c.take_array.new.state ns) c.take_array.new.out) numbers
    (subst (λ (es : List Event). Appends c.args.out.now es c.take_array.new.out) (reads.told c.take_array.new.state) c.take_array.ensures.appends)
