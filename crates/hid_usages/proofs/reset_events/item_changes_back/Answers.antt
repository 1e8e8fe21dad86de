use Rattle.std.proofs.Common.{◌≤◌, ◌∙◌, List, length, sym, ap, subst, arith}
use Rattle.hid_layout.specs.Controls.{controls_of_form, form_at, items_of}
use Rattle.hid_snapshots.specs.declared.control_state.ControlState.{ControlState}
use Rattle.hid_snapshots.specs.declared.control_state.ControlState.TheVariants.{Switches}
use Rattle.hid_snapshots.specs.declared.event.Event.{Event}
use Rattle.hid_snapshots.specs.ControlStates.{HasRoom, blank_state}
use Rattle.hid_snapshots.specs.Events.{change_events}
use Rattle.hid_usages.specs.Appending.{Appends}
use Rattle.hid_usages.specs.Taking.{flag_places}
use Rattle.hid_usages.proofs.BackLemmas.{pressed_back}
use Rattle.hid_usages.proofs.reset_events.item_changes_back.Goals as goal

pub releases-requires-clause-room : goal.releases-requires-clause-room
releases-requires-clause-room c =
    let form = form_at (items_of c.args.layout.now) c.args.item in
    let room : HasRoom (controls_of_form form) (Switches c.in-Switches.flags) =
    subst (λ (state : ControlState). HasRoom (controls_of_form form) state) c.in-Switches.is c.requires.before in
    let places : flag_places (Switches c.in-Switches.flags) ≤ length c.args.none.now =
    subst (λ (state : ControlState). flag_places state ≤ length c.args.none.now) c.in-Switches.is c.requires.none.places in
    let all =
    ap (λ (state : ControlState). change_events c.args.item form state
    (blank_state (controls_of_form form))) c.in-Switches.is
    ∙ pressed_back c.args.item form c.in-Switches.flags c.args.none.now room c.requires.none.none places in
    omega (arith, c.requires.room, ap (λ (es : List Event). length es) all)

pub returns-in-Switches : goal.returns-in-Switches
returns-in-Switches c =
    let form = form_at (items_of c.args.layout.now) c.args.item in
    let room : HasRoom (controls_of_form form) (Switches c.in-Switches.flags) =
    subst (λ (state : ControlState). HasRoom (controls_of_form form) state) c.in-Switches.is c.requires.before in
    let places : flag_places (Switches c.in-Switches.flags) ≤ length c.args.none.now =
    subst (λ (state : ControlState). flag_places state ≤ length c.args.none.now) c.in-Switches.is c.requires.none.places in
    let all =
    ap (λ (state : ControlState). change_events c.args.item form state
    (blank_state (controls_of_form form))) c.in-Switches.is
    ∙ pressed_back c.args.item form c.in-Switches.flags c.args.none.now room c.requires.none.none places in
    subst (λ (es : List Event). Appends c.args.out.now es c.releases.new.out) (sym all) c.releases.ensures
