use Rattle.std.proofs.Common.{◌∙◌, ◌&&◌, Bool, List, sym, ap, subst, arith}
use Rattle.hid_snapshots.specs.declared.event.Event.{Event}
use Rattle.hid_snapshots.specs.Events.{ups, downs, usages_at}
use Rattle.hid_snapshots.specs.Words.{is_on}
use Rattle.hid_usages.specs.Appending.{HasSpace, Appends}
use Rattle.hid_usages.proofs.EventLemmas.{space_first, space_second, both_appended}
use Rattle.hid_usages.proofs.HeldLemmas.{downs_kept}
use Rattle.hid_usages.proofs.KeyLemmas.{and_false}
use Rattle.hid_usages.proofs.take.take_first.Goals as goal

pub take_releases-requires-clause-room : goal.take_releases-requires-clause-room
take_releases-requires-clause-room c = space_first c.args.out.now (ups c.args.place (usages_at c.args.layout.now c.args.place) c.args.held.now c.args.named.now) (downs c.args.place (usages_at c.args.layout.now c.args.place) c.args.held.now c.args.named.now) c.requires.room

pub take_presses-requires-clause-others : goal.take_presses-requires-clause-others
take_presses-requires-clause-others c = λ i h. c.requires.others i (omega (arith, h, c.take_releases.ensures.len))

pub take_presses-requires-clause-kept : goal.take_presses-requires-clause-kept
take_presses-requires-clause-kept c = λ i off. c.take_releases.ensures.held i ∙ ap (λ (b : Bool). is_on c.args.held.now i && b) off ∙ and_false (is_on c.args.held.now i)

pub take_presses-requires-clause-room : goal.take_presses-requires-clause-room
take_presses-requires-clause-room c =
    let us = usages_at c.args.layout.now c.args.place in
    subst (HasSpace c.take_releases.new.out) (sym (downs_kept c.args.place 0 us c.take_releases.new.held c.args.held.now c.args.named.now c.take_releases.ensures.len c.take_releases.ensures.held))
    (space_second c.args.out.now c.take_releases.new.out (ups c.args.place us c.args.held.now c.args.named.now) (downs c.args.place us c.args.held.now c.args.named.now) c.requires.room c.take_releases.ensures.appends)

pub returns-clause-appends : goal.returns-clause-appends
returns-clause-appends c =
    let us = usages_at c.args.layout.now c.args.place in
    both_appended c.args.out.now c.take_releases.new.out c.take_presses.new.out (ups c.args.place us c.args.held.now c.args.named.now) (downs c.args.place us c.args.held.now c.args.named.now) c.take_releases.ensures.appends
    (subst (λ (es : List Event). Appends c.take_releases.new.out es c.take_presses.new.out) (downs_kept c.args.place 0 us c.take_releases.new.held c.args.held.now c.args.named.now c.take_releases.ensures.len c.take_releases.ensures.held) c.take_presses.ensures.appends)
