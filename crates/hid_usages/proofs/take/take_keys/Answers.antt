use Rattle.std.proofs.Common.{replicate, ◌≡◌, ◌∙◌, ◌++◌, ℕ, true, false, Bool, List, ap, sym, subst, take, length, arith, rules}
use Rattle.std.specs.List.{list_any}
use Rattle.hid_snapshots.specs.declared.control_state.ControlState.{ControlState}
use Rattle.hid_snapshots.specs.declared.control_state.ControlState.TheVariants.{Switches}
use Rattle.hid_snapshots.specs.declared.event.Event.{Event}
use Rattle.hid_report_descriptor.specs.Usages.{usage_list}
use Rattle.hid_layout.specs.Controls.{Key}
use Rattle.hid_snapshots.specs.Events.{usages_at, key_events, ups, downs}
use Rattle.hid_usages.specs.Appending.{Appends}
use Rattle.hid_usages.specs.Reading.{array_keys, keys_at, named_keys_from, names_rollover, read_keys}
use Rattle.hid_usages.proofs.EventLemmas.{nothing_appended}
use Rattle.hid_usages.proofs.ViewLemmas.{same_keys}
use Rattle.hid_usages.proofs.PressLemmas.{keys_stay, keys_named, is_not, is_so}
use Rattle.hid_usages.proofs.RoomLemmas.{first_told}
use Rattle.hid_usages.proofs.take.take_keys.Goals as goal

pub read_keys-requires-clause-clear : goal.read_keys-requires-clause-clear
read_keys-requires-clause-clear g c = record {
  room = omega (arith, c.requires.named.places, c.requires.held, ap length c.requires.array.keys);
  none = c.requires.named.none;
}

pub take_first-requires-clause-held : goal.take_first-requires-clause-held
take_first-requires-clause-held g c = omega (arith, c.requires.held, c.requires.array.usages)

pub take_first-requires-clause-places : goal.take_first-requires-clause-places
take_first-requires-clause-places g c = omega (arith, c.requires.named.places, c.read_keys.ensures.len)

pub take_first-requires-clause-others : goal.take_first-requires-clause-others
take_first-requires-clause-others g c = λ i h. c.read_keys.ensures.others i (omega (arith, h, c.requires.held, ap length c.requires.array.keys))

pub take_first-requires-clause-room : goal.take_first-requires-clause-room
take_first-requires-clause-room g c =
    let us = usage_list c.args.array.now.entries.now in
    let item = c.args.array.now.item.now in
    let keys = keys_at c.args.layout.now c.args.place in
    let off : list_any (names_rollover item us) c.args.numbers.now ≡ false = is_not (list_any (names_rollover item us) c.args.numbers.now) c.read_keys.result c.read_keys.ensures.rolls (search rules) in
    let long : length c.args.held.now ≡ length (array_keys item us) = c.requires.held ∙ ap length c.requires.array.keys in
    let named : take (length c.args.held.now) c.read_keys.new.named ≡ named_keys_from item c.args.numbers.now 0 keys =
    ap (λ (n : ℕ). take n c.read_keys.new.named) long ∙ c.read_keys.ensures.keys (search rules)
    ∙ ap (λ (ks : List Key). named_keys_from item c.args.numbers.now 0 ks) (sym c.requires.array.keys)
    in
    let read : read_keys item us keys (Switches c.args.held.now) c.args.numbers.now
    ≡ Switches (take (length c.args.held.now) c.read_keys.new.named) =
    keys_named item us keys c.args.held.now c.args.numbers.now off ∙ ap Switches (sym named) in
    let told = first_told c.args.place (usages_at c.args.layout.now c.args.place) c.args.held.now c.read_keys.new.named (length c.args.held.now) (omega arith) in
    omega (
      arith,
      c.requires.room,
      ap (λ (state : ControlState). length
          (key_events c.args.place (usages_at c.args.layout.now c.args.place) (Switches c.args.held.now) state)) read,
      ap (λ (es : List Event). length es) told,
    )

pub returns-then-read_keys-clause-held : goal.returns-then-read_keys-clause-held
returns-then-read_keys-clause-held g c =
    let us = usage_list c.args.array.now.entries.now in
    let item = c.args.array.now.item.now in
    let keys = keys_at c.args.layout.now c.args.place in
    let off : list_any (names_rollover item us) c.args.numbers.now ≡ false = is_not (list_any (names_rollover item us) c.args.numbers.now) c.read_keys.result c.read_keys.ensures.rolls (search rules) in
    let long : length c.args.held.now ≡ length (array_keys item us) = c.requires.held ∙ ap length c.requires.array.keys in
    let named : take (length c.args.held.now) c.read_keys.new.named ≡ named_keys_from item c.args.numbers.now 0 keys =
    ap (λ (n : ℕ). take n c.read_keys.new.named) long ∙ c.read_keys.ensures.keys (search rules)
    ∙ ap (λ (ks : List Key). named_keys_from item c.args.numbers.now 0 ks) (sym c.requires.array.keys)
    in
    let read : read_keys item us keys (Switches c.args.held.now) c.args.numbers.now
    ≡ Switches (take (length c.args.held.now) c.read_keys.new.named) =
    keys_named item us keys c.args.held.now c.args.numbers.now off ∙ ap Switches (sym named) in
    ap Switches c.take_first.ensures.held ∙ sym read

pub returns-then-read_keys-clause-appends : goal.returns-then-read_keys-clause-appends
returns-then-read_keys-clause-appends g c =
    let us = usages_at c.args.layout.now c.args.place in
    let told = first_told c.args.place us c.args.held.now c.read_keys.new.named (length c.args.held.now) (omega arith) in
    let same = ap (λ (xs : List Bool). ups c.args.place us c.args.held.now xs ++ downs c.args.place us c.args.held.now xs) c.take_first.ensures.held ∙ told in
    subst (λ (es : List Event). Appends c.args.out.now es c.take_first.new.out) (sym same) c.take_first.ensures.appends

pub returns-else-read_keys-clause-held : goal.returns-else-read_keys-clause-held
returns-else-read_keys-clause-held g c =
    let us = usage_list c.args.array.now.entries.now in
    let item = c.args.array.now.item.now in
    let on : list_any (names_rollover item us) c.args.numbers.now ≡ true = is_so (list_any (names_rollover item us) c.args.numbers.now) c.read_keys.result c.read_keys.ensures.rolls (search rules) in
    sym (keys_stay item us (keys_at c.args.layout.now c.args.place) c.args.held.now c.args.numbers.now on)

pub returns-else-read_keys-clause-appends : goal.returns-else-read_keys-clause-appends
returns-else-read_keys-clause-appends g c =
    nothing_appended c.args.out.now _
    (same_keys c.args.place (usages_at c.args.layout.now c.args.place) (Switches c.args.held.now))

pub returns-then-read_keys-clause-named : goal.returns-then-read_keys-clause-named
returns-then-read_keys-clause-named g c = c.take_first.ensures.named ∙ ap (λ (n : ℕ). replicate n false) c.read_keys.ensures.len ∙ sym c.requires.named.none

pub returns-else-read_keys-clause-named : goal.returns-else-read_keys-clause-named
returns-else-read_keys-clause-named g c = c.release_all.ensures ∙ ap (λ (n : ℕ). replicate n false) c.read_keys.ensures.len ∙ sym c.requires.named.none
