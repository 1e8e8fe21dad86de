use Rattle.std.proofs.Common.{◌≡◌, ◌∙◌, true, false, List, Option, ℤ, sym, subst, ap, to_z, of_z, w64, rules}
use Rattle.std.specs.List.{slice_set}
use Rattle.std.proofs.lemmas.Int.{to_z-of_z}
use Rattle.hid_snapshots.specs.declared.event.Event.{Event}
use Rattle.hid_snapshots.specs.Events.{control_at, value_event}
use Rattle.hid_snapshots.proofs.ItemLemmas.{got}
use Rattle.hid_usages.specs.EventSources.{number_event, usages_of_source}
use Rattle.hid_usages.specs.Appending.{HasSpace, Appends}
use Rattle.hid_usages.specs.Reading.{is_in, read_value}
use Rattle.hid_usages.proofs.ValueLemmas.{number_read, null_read, number_told, null_told}
use Rattle.hid_usages.proofs.elements.take_value.Goals as goal

pub push_number-requires-clause-room : goal.push_number-requires-clause-room
push_number-requires-clause-room c = λ usage here.
    let can = c.args.carriable.now in
    let n = c.args.number.now in
    let control = control_at c.args.source.now.item c.args.index in
    let before = c.get.result in
    let inside : is_in can.bounds.least can.bounds.greatest n ≡ true = sym c.is_carried.ensures ∙ c.if-is_carried.true in
    let is = number_read can.has_null can.bounds.least can.bounds.greatest before n inside in
    let told = number_told control usage before n (λ e. c.requires.changed usage before here c.get.ensures (is ∙ e)) in
    subst (HasSpace c.args.out.now) (ap (value_event control usage before) is ∙ told) (c.requires.room usage before here c.get.ensures)

pub push_null-requires-clause-room : goal.push_null-requires-clause-room
push_null-requires-clause-room c = λ usage here.
    let can = c.args.carriable.now in
    let n = c.args.number.now in
    let control = control_at c.args.source.now.item c.args.index in
    let before = c.get.result in
    let outside : is_in can.bounds.least can.bounds.greatest n ≡ false = sym c.is_carried.ensures ∙ c.if-is_carried.false in
    let is = null_read can.has_null can.bounds.least can.bounds.greatest before n outside (c.requires.changed usage before here c.get.ensures) in
    let told = null_told control usage before (λ e. c.requires.changed usage before here c.get.ensures (is ∙ e)) in
    subst (HasSpace c.args.out.now) (ap (value_event control usage before) is ∙ told) (c.requires.room usage before here c.get.ensures)

pub returns-then-is_carried-clause-appends : goal.returns-then-is_carried-clause-appends
returns-then-is_carried-clause-appends c = λ usage before here there.
    let can = c.args.carriable.now in
    let n = c.args.number.now in
    let control = control_at c.args.source.now.item c.args.index in
    let inside : is_in can.bounds.least can.bounds.greatest n ≡ true = sym c.is_carried.ensures ∙ c.if-is_carried.true in
    let is = number_read can.has_null can.bounds.least can.bounds.greatest before n inside in
    let told = number_told control usage before n (λ e. c.requires.changed usage before here there (is ∙ e)) in
    let same : to_z w64 (of_z w64 n) ≡ n = search (rules, to_z-of_z) in
    let as_number : value_event control usage before (read_value can.has_null can.bounds.least can.bounds.greatest before n) ≡ number_event control usage (to_z w64 (of_z w64 n)) = ap (value_event control usage before) is ∙ told ∙ sym (ap (number_event control usage) same) in
    subst (λ (es : List Event). Appends c.args.out.now es c.push_number.new.out) (sym as_number) (c.push_number.ensures usage here)

pub returns-else-is_carried-clause-held : goal.returns-else-is_carried-clause-held
returns-else-is_carried-clause-held c = λ before there.
    let can = c.args.carriable.now in
    let n = c.args.number.now in
    let outside : is_in can.bounds.least can.bounds.greatest n ≡ false = sym c.is_carried.ensures ∙ c.if-is_carried.false in
    let usage = got (usages_of_source c.args.source.now) c.args.index c.requires.index in
    let is = null_read can.has_null can.bounds.least can.bounds.greatest before n outside (c.requires.changed usage.0 before usage.1 there) in
    c.set-else-is_carried.ensures ∙ sym (ap (λ (after : Option ℤ). slice_set c.args.held.now c.args.index after) is)

pub returns-else-is_carried-clause-appends : goal.returns-else-is_carried-clause-appends
returns-else-is_carried-clause-appends c = λ usage before here there.
    let can = c.args.carriable.now in
    let n = c.args.number.now in
    let control = control_at c.args.source.now.item c.args.index in
    let outside : is_in can.bounds.least can.bounds.greatest n ≡ false = sym c.is_carried.ensures ∙ c.if-is_carried.false in
    let is = null_read can.has_null can.bounds.least can.bounds.greatest before n outside (c.requires.changed usage before here there) in
    let told = null_told control usage before (λ e. c.requires.changed usage before here there (is ∙ e)) in
    subst (λ (es : List Event). Appends c.args.out.now es c.push_null.new.out) (sym (ap (value_event control usage before) is ∙ told)) (c.push_null.ensures usage here)
