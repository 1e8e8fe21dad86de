use Rattle.std.proofs.Common.{◌∙◌, List, subst, ap, sym, refl}
use Rattle.std.proofs.lemmas.Option.{slice_get_within}
use Rattle.hid_report_descriptor.specs.Fields.{is_padding}
use Rattle.hid_layout.specs.declared.control.ControlKind.TheVariants.{Switch, Value, NullValue, Relative}
use Rattle.hid_snapshots.specs.declared.control_state.ControlState.{ControlState}
use Rattle.hid_snapshots.specs.declared.event.Event.{Event}
use Rattle.hid_usages.specs.Appending.{HasSpace, Appends}
use Rattle.hid_usages.specs.Reading.{item_numbers}
use Rattle.hid_usages.specs.Taking.{events_of_numbers_at}
use Rattle.hid_usages.proofs.BitLemmas.{has_bits}
use Rattle.hid_usages.proofs.EventLemmas.{nothing_appended}
use Rattle.hid_usages.proofs.FixedLemmas.{padding_stays, data_read, listed_known}
use Rattle.hid_usages.proofs.PassingLemmas.{is_filled, planned_as, bits_planned, variable_planned, array_planned, padding_planned}
use Rattle.hid_usages.proofs.take_plan.take_planned_item.Goals as goal

pub item_at-requires : goal.item_at-requires
item_at-requires g c = slice_get_within c.args.received.now.layout.now.items c.args.planned.now.place c.requires.planned.item c.requires.planned.listed

pub take_bit_fields-requires-clause-listed : goal.take_bit_fields-requires-clause-listed
take_bit_fields-requires-clause-listed g c =
    is_filled _ c.args.received.now.report c.args.received.now.bytes.now c.item_at.ensures.layout c.requires.received.input c.item_at.ensures.item (c.requires.in_report c.item_at.result.now c.item_at.ensures.item)
    (ap is_padding (has_bits c.item_at.result.now (bits_planned c.item_at.result.now (sym (planned_as c.args.received.now.layout.now c.args.planned.now c.item_at.result.now c.requires.planned c.item_at.ensures.item).2 ∙ c.in-Bits.is))).shape) c.requires.received.whole

pub take_bit_fields-requires-clause-bits : goal.take_bit_fields-requires-clause-bits
take_bit_fields-requires-clause-bits g c = bits_planned c.item_at.result.now (sym (planned_as c.args.received.now.layout.now c.args.planned.now c.item_at.result.now c.requires.planned c.item_at.ensures.item).2 ∙ c.in-Bits.is)

pub take_bit_fields-requires-clause-at : goal.take_bit_fields-requires-clause-at
take_bit_fields-requires-clause-at g c = (planned_as c.args.received.now.layout.now c.args.planned.now c.item_at.result.now c.requires.planned c.item_at.ensures.item).0

pub take_variable-requires-clause-listed : goal.take_variable-requires-clause-listed
take_variable-requires-clause-listed g c =
    is_filled _ c.args.received.now.report c.args.received.now.bytes.now c.item_at.ensures.layout c.requires.received.input c.item_at.ensures.item (c.requires.in_report c.item_at.result.now c.item_at.ensures.item)
    (ap is_padding (variable_planned c.item_at.result.now Switch (sym (planned_as c.args.received.now.layout.now c.args.planned.now c.item_at.result.now c.requires.planned c.item_at.ensures.item).2 ∙ c.in-Switches.is)).0) c.requires.received.whole

pub take_variable-requires-clause-shape : goal.take_variable-requires-clause-shape
take_variable-requires-clause-shape g c = (variable_planned c.item_at.result.now Switch (sym (planned_as c.args.received.now.layout.now c.args.planned.now c.item_at.result.now c.requires.planned c.item_at.ensures.item).2 ∙ c.in-Switches.is)).0

pub take_variable-requires-clause-kind : goal.take_variable-requires-clause-kind
take_variable-requires-clause-kind g c = sym (variable_planned c.item_at.result.now Switch (sym (planned_as c.args.received.now.layout.now c.args.planned.now c.item_at.result.now c.requires.planned c.item_at.ensures.item).2 ∙ c.in-Switches.is)).1

pub take_variable-requires-clause-at : goal.take_variable-requires-clause-at
take_variable-requires-clause-at g c = (planned_as c.args.received.now.layout.now c.args.planned.now c.item_at.result.now c.requires.planned c.item_at.ensures.item).0

pub take_variable-requires-in-Values-clause-listed : goal.take_variable-requires-in-Values-clause-listed
take_variable-requires-in-Values-clause-listed g c =
    is_filled _ c.args.received.now.report c.args.received.now.bytes.now c.item_at.ensures.layout c.requires.received.input c.item_at.ensures.item (c.requires.in_report c.item_at.result.now c.item_at.ensures.item)
    (ap is_padding (variable_planned c.item_at.result.now Value (sym (planned_as c.args.received.now.layout.now c.args.planned.now c.item_at.result.now c.requires.planned c.item_at.ensures.item).2 ∙ c.in-Values.is)).0) c.requires.received.whole

pub take_variable-requires-in-Values-clause-shape : goal.take_variable-requires-in-Values-clause-shape
take_variable-requires-in-Values-clause-shape g c = (variable_planned c.item_at.result.now Value (sym (planned_as c.args.received.now.layout.now c.args.planned.now c.item_at.result.now c.requires.planned c.item_at.ensures.item).2 ∙ c.in-Values.is)).0

pub take_variable-requires-in-Values-clause-kind : goal.take_variable-requires-in-Values-clause-kind
take_variable-requires-in-Values-clause-kind g c = sym (variable_planned c.item_at.result.now Value (sym (planned_as c.args.received.now.layout.now c.args.planned.now c.item_at.result.now c.requires.planned c.item_at.ensures.item).2 ∙ c.in-Values.is)).1

pub take_variable-requires-in-Values-clause-at : goal.take_variable-requires-in-Values-clause-at
take_variable-requires-in-Values-clause-at g c = (planned_as c.args.received.now.layout.now c.args.planned.now c.item_at.result.now c.requires.planned c.item_at.ensures.item).0

pub take_variable-requires-in-NullValues-clause-listed : goal.take_variable-requires-in-NullValues-clause-listed
take_variable-requires-in-NullValues-clause-listed g c =
    is_filled _ c.args.received.now.report c.args.received.now.bytes.now c.item_at.ensures.layout c.requires.received.input c.item_at.ensures.item (c.requires.in_report c.item_at.result.now c.item_at.ensures.item)
    (ap is_padding (variable_planned c.item_at.result.now NullValue (sym (planned_as c.args.received.now.layout.now c.args.planned.now c.item_at.result.now c.requires.planned c.item_at.ensures.item).2 ∙ c.in-NullValues.is)).0) c.requires.received.whole

pub take_variable-requires-in-NullValues-clause-shape : goal.take_variable-requires-in-NullValues-clause-shape
take_variable-requires-in-NullValues-clause-shape g c = (variable_planned c.item_at.result.now NullValue (sym (planned_as c.args.received.now.layout.now c.args.planned.now c.item_at.result.now c.requires.planned c.item_at.ensures.item).2 ∙ c.in-NullValues.is)).0

pub take_variable-requires-in-NullValues-clause-kind : goal.take_variable-requires-in-NullValues-clause-kind
take_variable-requires-in-NullValues-clause-kind g c = sym (variable_planned c.item_at.result.now NullValue (sym (planned_as c.args.received.now.layout.now c.args.planned.now c.item_at.result.now c.requires.planned c.item_at.ensures.item).2 ∙ c.in-NullValues.is)).1

pub take_variable-requires-in-NullValues-clause-at : goal.take_variable-requires-in-NullValues-clause-at
take_variable-requires-in-NullValues-clause-at g c = (planned_as c.args.received.now.layout.now c.args.planned.now c.item_at.result.now c.requires.planned c.item_at.ensures.item).0

pub take_variable-requires-in-Motions-clause-listed : goal.take_variable-requires-in-Motions-clause-listed
take_variable-requires-in-Motions-clause-listed g c =
    is_filled _ c.args.received.now.report c.args.received.now.bytes.now c.item_at.ensures.layout c.requires.received.input c.item_at.ensures.item (c.requires.in_report c.item_at.result.now c.item_at.ensures.item)
    (ap is_padding (variable_planned c.item_at.result.now Relative (sym (planned_as c.args.received.now.layout.now c.args.planned.now c.item_at.result.now c.requires.planned c.item_at.ensures.item).2 ∙ c.in-Motions.is)).0) c.requires.received.whole

pub take_variable-requires-in-Motions-clause-shape : goal.take_variable-requires-in-Motions-clause-shape
take_variable-requires-in-Motions-clause-shape g c = (variable_planned c.item_at.result.now Relative (sym (planned_as c.args.received.now.layout.now c.args.planned.now c.item_at.result.now c.requires.planned c.item_at.ensures.item).2 ∙ c.in-Motions.is)).0

pub take_variable-requires-in-Motions-clause-kind : goal.take_variable-requires-in-Motions-clause-kind
take_variable-requires-in-Motions-clause-kind g c = sym (variable_planned c.item_at.result.now Relative (sym (planned_as c.args.received.now.layout.now c.args.planned.now c.item_at.result.now c.requires.planned c.item_at.ensures.item).2 ∙ c.in-Motions.is)).1

pub take_variable-requires-in-Motions-clause-at : goal.take_variable-requires-in-Motions-clause-at
take_variable-requires-in-Motions-clause-at g c = (planned_as c.args.received.now.layout.now c.args.planned.now c.item_at.result.now c.requires.planned c.item_at.ensures.item).0

pub take_key_fields-requires-clause-listed : goal.take_key_fields-requires-clause-listed
take_key_fields-requires-clause-listed g c =
    is_filled _ c.args.received.now.report c.args.received.now.bytes.now c.item_at.ensures.layout c.requires.received.input c.item_at.ensures.item (c.requires.in_report c.item_at.result.now c.item_at.ensures.item)
    (ap is_padding (array_planned c.item_at.result.now (sym (planned_as c.args.received.now.layout.now c.args.planned.now c.item_at.result.now c.requires.planned c.item_at.ensures.item).2 ∙ c.in-Keys.is))) c.requires.received.whole

pub take_key_fields-requires-clause-shape : goal.take_key_fields-requires-clause-shape
take_key_fields-requires-clause-shape g c = array_planned c.item_at.result.now (sym (planned_as c.args.received.now.layout.now c.args.planned.now c.item_at.result.now c.requires.planned c.item_at.ensures.item).2 ∙ c.in-Keys.is)

pub take_key_fields-requires-clause-at : goal.take_key_fields-requires-clause-at
take_key_fields-requires-clause-at g c = (planned_as c.args.received.now.layout.now c.args.planned.now c.item_at.result.now c.requires.planned c.item_at.ensures.item).0

pub returns-in-Padding-clause-state : goal.returns-in-Padding-clause-state
returns-in-Padding-clause-state g c = sym (padding_stays c.args.received.now.layout.now c.args.received.now.report c.args.received.now.bytes.now c.args.planned.now.place c.item_at.result.now c.args.state.now c.item_at.ensures.item (ap is_padding (padding_planned c.item_at.result.now (sym (planned_as c.args.received.now.layout.now c.args.planned.now c.item_at.result.now c.requires.planned c.item_at.ensures.item).2 ∙ c.in-Padding.is)))).0

pub returns-in-Padding-clause-appends : goal.returns-in-Padding-clause-appends
returns-in-Padding-clause-appends g c = nothing_appended c.args.out.now _ (padding_stays c.args.received.now.layout.now c.args.received.now.report c.args.received.now.bytes.now c.args.planned.now.place c.item_at.result.now c.args.state.now c.item_at.ensures.item (ap is_padding (padding_planned c.item_at.result.now (sym (planned_as c.args.received.now.layout.now c.args.planned.now c.item_at.result.now c.requires.planned c.item_at.ensures.item).2 ∙ c.in-Padding.is)))).1

pub take_bit_fields-requires-clause-room : goal.take_bit_fields-requires-clause-room
take_bit_fields-requires-clause-room g c =
    let read = data_read c.args.received.now.layout.now c.args.received.now.report c.args.received.now.bytes.now c.args.planned.now.place c.item_at.result.now c.args.state.now c.item_at.ensures.item (c.requires.in_report c.item_at.result.now c.item_at.ensures.item) (ap is_padding (has_bits c.item_at.result.now (bits_planned c.item_at.result.now (sym (planned_as c.args.received.now.layout.now c.args.planned.now c.item_at.result.now c.requires.planned c.item_at.ensures.item).2 ∙ c.in-Bits.is))).shape) in
    subst (HasSpace c.args.out.now) read.1 c.requires.room

pub returns-in-Bits-clause-state : goal.returns-in-Bits-clause-state
returns-in-Bits-clause-state g c =
    let read = data_read c.args.received.now.layout.now c.args.received.now.report c.args.received.now.bytes.now c.args.planned.now.place c.item_at.result.now c.args.state.now c.item_at.ensures.item (c.requires.in_report c.item_at.result.now c.item_at.ensures.item) (ap is_padding (has_bits c.item_at.result.now (bits_planned c.item_at.result.now (sym (planned_as c.args.received.now.layout.now c.args.planned.now c.item_at.result.now c.requires.planned c.item_at.ensures.item).2 ∙ c.in-Bits.is))).shape) in
    c.take_bit_fields.ensures.state ∙ sym read.0

pub returns-in-Bits-clause-appends : goal.returns-in-Bits-clause-appends
returns-in-Bits-clause-appends g c =
    let read = data_read c.args.received.now.layout.now c.args.received.now.report c.args.received.now.bytes.now c.args.planned.now.place c.item_at.result.now c.args.state.now c.item_at.ensures.item (c.requires.in_report c.item_at.result.now c.item_at.ensures.item) (ap is_padding (has_bits c.item_at.result.now (bits_planned c.item_at.result.now (sym (planned_as c.args.received.now.layout.now c.args.planned.now c.item_at.result.now c.requires.planned c.item_at.ensures.item).2 ∙ c.in-Bits.is))).shape) in
    let numbers = item_numbers c.args.received.now.layout.now c.args.received.now.bytes.now c.item_at.result.now in
    subst (λ (es : List Event). Appends c.args.out.now es c.take_bit_fields.new.out)
    (ap (λ (s : ControlState). events_of_numbers_at c.args.received.now.layout.now c.args.planned.now.place c.item_at.result.now c.args.state.now s numbers) c.take_bit_fields.ensures.state ∙ sym read.1) c.take_bit_fields.ensures.appends

pub take_variable-requires-clause-room : goal.take_variable-requires-clause-room
take_variable-requires-clause-room g c =
    let read = data_read c.args.received.now.layout.now c.args.received.now.report c.args.received.now.bytes.now c.args.planned.now.place c.item_at.result.now c.args.state.now c.item_at.ensures.item (c.requires.in_report c.item_at.result.now c.item_at.ensures.item) (ap is_padding (variable_planned c.item_at.result.now Switch (sym (planned_as c.args.received.now.layout.now c.args.planned.now c.item_at.result.now c.requires.planned c.item_at.ensures.item).2 ∙ c.in-Switches.is)).0) in
    subst (HasSpace c.args.out.now) read.1 c.requires.room

pub returns-in-Switches-clause-state : goal.returns-in-Switches-clause-state
returns-in-Switches-clause-state g c =
    let read = data_read c.args.received.now.layout.now c.args.received.now.report c.args.received.now.bytes.now c.args.planned.now.place c.item_at.result.now c.args.state.now c.item_at.ensures.item (c.requires.in_report c.item_at.result.now c.item_at.ensures.item) (ap is_padding (variable_planned c.item_at.result.now Switch (sym (planned_as c.args.received.now.layout.now c.args.planned.now c.item_at.result.now c.requires.planned c.item_at.ensures.item).2 ∙ c.in-Switches.is)).0) in
    c.take_variable.ensures.state ∙ sym read.0

pub returns-in-Switches-clause-appends : goal.returns-in-Switches-clause-appends
returns-in-Switches-clause-appends g c =
    let read = data_read c.args.received.now.layout.now c.args.received.now.report c.args.received.now.bytes.now c.args.planned.now.place c.item_at.result.now c.args.state.now c.item_at.ensures.item (c.requires.in_report c.item_at.result.now c.item_at.ensures.item) (ap is_padding (variable_planned c.item_at.result.now Switch (sym (planned_as c.args.received.now.layout.now c.args.planned.now c.item_at.result.now c.requires.planned c.item_at.ensures.item).2 ∙ c.in-Switches.is)).0) in
    let numbers = item_numbers c.args.received.now.layout.now c.args.received.now.bytes.now c.item_at.result.now in
    subst (λ (es : List Event). Appends c.args.out.now es c.take_variable.new.out)
    (ap (λ (s : ControlState). events_of_numbers_at c.args.received.now.layout.now c.args.planned.now.place c.item_at.result.now c.args.state.now s numbers) c.take_variable.ensures.state ∙ sym read.1) c.take_variable.ensures.appends

pub take_variable-requires-in-Values-clause-room : goal.take_variable-requires-in-Values-clause-room
take_variable-requires-in-Values-clause-room g c =
    let read = data_read c.args.received.now.layout.now c.args.received.now.report c.args.received.now.bytes.now c.args.planned.now.place c.item_at.result.now c.args.state.now c.item_at.ensures.item (c.requires.in_report c.item_at.result.now c.item_at.ensures.item) (ap is_padding (variable_planned c.item_at.result.now Value (sym (planned_as c.args.received.now.layout.now c.args.planned.now c.item_at.result.now c.requires.planned c.item_at.ensures.item).2 ∙ c.in-Values.is)).0) in
    subst (HasSpace c.args.out.now) read.1 c.requires.room

pub returns-in-Values-clause-state : goal.returns-in-Values-clause-state
returns-in-Values-clause-state g c =
    let read = data_read c.args.received.now.layout.now c.args.received.now.report c.args.received.now.bytes.now c.args.planned.now.place c.item_at.result.now c.args.state.now c.item_at.ensures.item (c.requires.in_report c.item_at.result.now c.item_at.ensures.item) (ap is_padding (variable_planned c.item_at.result.now Value (sym (planned_as c.args.received.now.layout.now c.args.planned.now c.item_at.result.now c.requires.planned c.item_at.ensures.item).2 ∙ c.in-Values.is)).0) in
    c.take_variable-in-Values.ensures.state ∙ sym read.0

pub returns-in-Values-clause-appends : goal.returns-in-Values-clause-appends
returns-in-Values-clause-appends g c =
    let read = data_read c.args.received.now.layout.now c.args.received.now.report c.args.received.now.bytes.now c.args.planned.now.place c.item_at.result.now c.args.state.now c.item_at.ensures.item (c.requires.in_report c.item_at.result.now c.item_at.ensures.item) (ap is_padding (variable_planned c.item_at.result.now Value (sym (planned_as c.args.received.now.layout.now c.args.planned.now c.item_at.result.now c.requires.planned c.item_at.ensures.item).2 ∙ c.in-Values.is)).0) in
    let numbers = item_numbers c.args.received.now.layout.now c.args.received.now.bytes.now c.item_at.result.now in
    subst (λ (es : List Event). Appends c.args.out.now es c.take_variable-in-Values.new.out)
    (ap (λ (s : ControlState). events_of_numbers_at c.args.received.now.layout.now c.args.planned.now.place c.item_at.result.now c.args.state.now s numbers) c.take_variable-in-Values.ensures.state ∙ sym read.1) c.take_variable-in-Values.ensures.appends

pub take_variable-requires-in-NullValues-clause-room : goal.take_variable-requires-in-NullValues-clause-room
take_variable-requires-in-NullValues-clause-room g c =
    let read = data_read c.args.received.now.layout.now c.args.received.now.report c.args.received.now.bytes.now c.args.planned.now.place c.item_at.result.now c.args.state.now c.item_at.ensures.item (c.requires.in_report c.item_at.result.now c.item_at.ensures.item) (ap is_padding (variable_planned c.item_at.result.now NullValue (sym (planned_as c.args.received.now.layout.now c.args.planned.now c.item_at.result.now c.requires.planned c.item_at.ensures.item).2 ∙ c.in-NullValues.is)).0) in
    subst (HasSpace c.args.out.now) read.1 c.requires.room

pub returns-in-NullValues-clause-state : goal.returns-in-NullValues-clause-state
returns-in-NullValues-clause-state g c =
    let read = data_read c.args.received.now.layout.now c.args.received.now.report c.args.received.now.bytes.now c.args.planned.now.place c.item_at.result.now c.args.state.now c.item_at.ensures.item (c.requires.in_report c.item_at.result.now c.item_at.ensures.item) (ap is_padding (variable_planned c.item_at.result.now NullValue (sym (planned_as c.args.received.now.layout.now c.args.planned.now c.item_at.result.now c.requires.planned c.item_at.ensures.item).2 ∙ c.in-NullValues.is)).0) in
    c.take_variable-in-NullValues.ensures.state ∙ sym read.0

pub returns-in-NullValues-clause-appends : goal.returns-in-NullValues-clause-appends
returns-in-NullValues-clause-appends g c =
    let read = data_read c.args.received.now.layout.now c.args.received.now.report c.args.received.now.bytes.now c.args.planned.now.place c.item_at.result.now c.args.state.now c.item_at.ensures.item (c.requires.in_report c.item_at.result.now c.item_at.ensures.item) (ap is_padding (variable_planned c.item_at.result.now NullValue (sym (planned_as c.args.received.now.layout.now c.args.planned.now c.item_at.result.now c.requires.planned c.item_at.ensures.item).2 ∙ c.in-NullValues.is)).0) in
    let numbers = item_numbers c.args.received.now.layout.now c.args.received.now.bytes.now c.item_at.result.now in
    subst (λ (es : List Event). Appends c.args.out.now es c.take_variable-in-NullValues.new.out)
    (ap (λ (s : ControlState). events_of_numbers_at c.args.received.now.layout.now c.args.planned.now.place c.item_at.result.now c.args.state.now s numbers) c.take_variable-in-NullValues.ensures.state ∙ sym read.1) c.take_variable-in-NullValues.ensures.appends

pub take_variable-requires-in-Motions-clause-room : goal.take_variable-requires-in-Motions-clause-room
take_variable-requires-in-Motions-clause-room g c =
    let read = data_read c.args.received.now.layout.now c.args.received.now.report c.args.received.now.bytes.now c.args.planned.now.place c.item_at.result.now c.args.state.now c.item_at.ensures.item (c.requires.in_report c.item_at.result.now c.item_at.ensures.item) (ap is_padding (variable_planned c.item_at.result.now Relative (sym (planned_as c.args.received.now.layout.now c.args.planned.now c.item_at.result.now c.requires.planned c.item_at.ensures.item).2 ∙ c.in-Motions.is)).0) in
    subst (HasSpace c.args.out.now) read.1 c.requires.room

pub returns-in-Motions-clause-state : goal.returns-in-Motions-clause-state
returns-in-Motions-clause-state g c =
    let read = data_read c.args.received.now.layout.now c.args.received.now.report c.args.received.now.bytes.now c.args.planned.now.place c.item_at.result.now c.args.state.now c.item_at.ensures.item (c.requires.in_report c.item_at.result.now c.item_at.ensures.item) (ap is_padding (variable_planned c.item_at.result.now Relative (sym (planned_as c.args.received.now.layout.now c.args.planned.now c.item_at.result.now c.requires.planned c.item_at.ensures.item).2 ∙ c.in-Motions.is)).0) in
    c.take_variable-in-Motions.ensures.state ∙ sym read.0

pub returns-in-Motions-clause-appends : goal.returns-in-Motions-clause-appends
returns-in-Motions-clause-appends g c =
    let read = data_read c.args.received.now.layout.now c.args.received.now.report c.args.received.now.bytes.now c.args.planned.now.place c.item_at.result.now c.args.state.now c.item_at.ensures.item (c.requires.in_report c.item_at.result.now c.item_at.ensures.item) (ap is_padding (variable_planned c.item_at.result.now Relative (sym (planned_as c.args.received.now.layout.now c.args.planned.now c.item_at.result.now c.requires.planned c.item_at.ensures.item).2 ∙ c.in-Motions.is)).0) in
    let numbers = item_numbers c.args.received.now.layout.now c.args.received.now.bytes.now c.item_at.result.now in
    subst (λ (es : List Event). Appends c.args.out.now es c.take_variable-in-Motions.new.out)
    (ap (λ (s : ControlState). events_of_numbers_at c.args.received.now.layout.now c.args.planned.now.place c.item_at.result.now c.args.state.now s numbers) c.take_variable-in-Motions.ensures.state ∙ sym read.1) c.take_variable-in-Motions.ensures.appends

pub take_key_fields-requires-clause-room : goal.take_key_fields-requires-clause-room
take_key_fields-requires-clause-room g c =
    let read = data_read c.args.received.now.layout.now c.args.received.now.report c.args.received.now.bytes.now c.args.planned.now.place c.item_at.result.now c.args.state.now c.item_at.ensures.item (c.requires.in_report c.item_at.result.now c.item_at.ensures.item) (ap is_padding (array_planned c.item_at.result.now (sym (planned_as c.args.received.now.layout.now c.args.planned.now c.item_at.result.now c.requires.planned c.item_at.ensures.item).2 ∙ c.in-Keys.is))) in
    subst (HasSpace c.args.out.now) read.1 c.requires.room

pub take_variable-requires-clause-known : goal.take_variable-requires-clause-known
take_variable-requires-clause-known g c = listed_known c.args.received.now.layout.now c.args.received.now.report c.args.received.now.bytes.now c.args.last.now.bytes.now c.args.last.now.changed _ c.args.state.now refl c.item_at.ensures.item (c.requires.in_report c.item_at.result.now c.item_at.ensures.item) (ap is_padding (variable_planned c.item_at.result.now Switch (sym (planned_as c.args.received.now.layout.now c.args.planned.now c.item_at.result.now c.requires.planned c.item_at.ensures.item).2 ∙ c.in-Switches.is)).0) c.requires.known

pub take_variable-requires-in-Values-clause-known : goal.take_variable-requires-in-Values-clause-known
take_variable-requires-in-Values-clause-known g c = listed_known c.args.received.now.layout.now c.args.received.now.report c.args.received.now.bytes.now c.args.last.now.bytes.now c.args.last.now.changed _ c.args.state.now refl c.item_at.ensures.item (c.requires.in_report c.item_at.result.now c.item_at.ensures.item) (ap is_padding (variable_planned c.item_at.result.now Value (sym (planned_as c.args.received.now.layout.now c.args.planned.now c.item_at.result.now c.requires.planned c.item_at.ensures.item).2 ∙ c.in-Values.is)).0) c.requires.known

pub take_variable-requires-in-NullValues-clause-known : goal.take_variable-requires-in-NullValues-clause-known
take_variable-requires-in-NullValues-clause-known g c = listed_known c.args.received.now.layout.now c.args.received.now.report c.args.received.now.bytes.now c.args.last.now.bytes.now c.args.last.now.changed _ c.args.state.now refl c.item_at.ensures.item (c.requires.in_report c.item_at.result.now c.item_at.ensures.item) (ap is_padding (variable_planned c.item_at.result.now NullValue (sym (planned_as c.args.received.now.layout.now c.args.planned.now c.item_at.result.now c.requires.planned c.item_at.ensures.item).2 ∙ c.in-NullValues.is)).0) c.requires.known

pub take_variable-requires-in-Motions-clause-known : goal.take_variable-requires-in-Motions-clause-known
take_variable-requires-in-Motions-clause-known g c = listed_known c.args.received.now.layout.now c.args.received.now.report c.args.received.now.bytes.now c.args.last.now.bytes.now c.args.last.now.changed _ c.args.state.now refl c.item_at.ensures.item (c.requires.in_report c.item_at.result.now c.item_at.ensures.item) (ap is_padding (variable_planned c.item_at.result.now Relative (sym (planned_as c.args.received.now.layout.now c.args.planned.now c.item_at.result.now c.requires.planned c.item_at.ensures.item).2 ∙ c.in-Motions.is)).0) c.requires.known

pub returns-in-Keys-clause-state : goal.returns-in-Keys-clause-state
returns-in-Keys-clause-state g c =
    let read = data_read c.args.received.now.layout.now c.args.received.now.report c.args.received.now.bytes.now c.args.planned.now.place c.item_at.result.now c.args.state.now c.item_at.ensures.item (c.requires.in_report c.item_at.result.now c.item_at.ensures.item) (ap is_padding (array_planned c.item_at.result.now (sym (planned_as c.args.received.now.layout.now c.args.planned.now c.item_at.result.now c.requires.planned c.item_at.ensures.item).2 ∙ c.in-Keys.is))) in
    c.take_key_fields.ensures.state ∙ sym read.0

pub returns-in-Keys-clause-appends : goal.returns-in-Keys-clause-appends
returns-in-Keys-clause-appends g c =
    let read = data_read c.args.received.now.layout.now c.args.received.now.report c.args.received.now.bytes.now c.args.planned.now.place c.item_at.result.now c.args.state.now c.item_at.ensures.item (c.requires.in_report c.item_at.result.now c.item_at.ensures.item) (ap is_padding (array_planned c.item_at.result.now (sym (planned_as c.args.received.now.layout.now c.args.planned.now c.item_at.result.now c.requires.planned c.item_at.ensures.item).2 ∙ c.in-Keys.is))) in
    let numbers = item_numbers c.args.received.now.layout.now c.args.received.now.bytes.now c.item_at.result.now in
    subst (λ (es : List Event). Appends c.args.out.now es c.take_key_fields.new.out)
    (ap (λ (s : ControlState). events_of_numbers_at c.args.received.now.layout.now c.args.planned.now.place c.item_at.result.now c.args.state.now s numbers) c.take_key_fields.ensures.state ∙ sym read.1) c.take_key_fields.ensures.appends
