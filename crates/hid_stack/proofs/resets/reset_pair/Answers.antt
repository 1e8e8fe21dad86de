use Rattle.std.proofs.Common.{ℕ, Bool, Option, ◌++◌, ◌∙◌, List, ap, subst, sym}
use Rattle.hid_snapshots.specs.declared.control_state.ControlState.{ControlState}
use Rattle.hid_snapshots.specs.declared.event.Event.{Event}
use Rattle.hid_device.specs.Core.{piece_at, round_of}
use Rattle.hid_device.specs.Device.{core_of}
use Rattle.hid_host.specs.Phase.{IfReady}
use Rattle.hid_host.specs.ResetEvents.{SuitsRound, host_reset_events}
use Rattle.hid_stack.proofs.LawLemmas.{cold_knows}
use Rattle.hid_stack.proofs.TrailLemmas.{some_cold}
use Rattle.hid_stack.proofs.SuitLemmas.{rounds_suit}
use Rattle.hid_stack.proofs.TryLemmas.{sound_of}
use Rattle.hid_stack.proofs.ResetLemmas.{resets_so, told_at_reset}
use Rattle.hid_stack.proofs.resets.reset_pair.Goals as goal

pub reset-requires-clause-suits : goal.reset-requires-clause-suits
reset-requires-clause-suits c =
    let device = c.args.device.now in
    let host = c.args.host.now in
    let suits = rounds_suit host device.control (sound_of device host.clearing host.phase c.requires.together) c.requires.knows in
    subst (λ (round : Option (ℕ × Bool)). IfReady host.phase (λ known. SuitsRound known.layout round c.fixed.result.now)) (sym c.open_round.ensures)
    (subst (λ (fixed : List ControlState). IfReady host.phase
    (λ known. SuitsRound known.layout (round_of (core_of device)) fixed)) (sym c.fixed.ensures) suits)

pub returns-clause-events : goal.returns-clause-events
returns-clause-events c =
    let phase = c.args.host.now.phase in
    c.reset.ensures.events
    ∙ ap (λ (es : List Event). es
    ++ host_reset_events phase c.open_round.result c.piece.result c.fixed.result.now) c.clear.ensures.items
    ∙ ap (λ o. host_reset_events phase o c.piece.result c.fixed.result.now) c.open_round.ensures
    ∙ ap (λ o. host_reset_events phase (round_of (core_of c.args.device.now)) o c.fixed.result.now) c.piece.ensures
    ∙ ap (host_reset_events phase (round_of (core_of c.args.device.now))
    (piece_at (core_of c.args.device.now))) c.fixed.ensures
    ∙ told_at_reset c.args.device.now c.args.host.now.clearing phase c.requires.together

pub returns-clause-after : goal.returns-clause-after
returns-clause-after c =
    (resets_so c.args.device.now c.reset-2.new.self c.args.host.now c.reset.new.self (some_cold cold_knows) c.reset-2.ensures c.reset.ensures.host c.is_sound.ensures).after

pub returns-clause-together : goal.returns-clause-together
returns-clause-together c =
    (resets_so c.args.device.now c.reset-2.new.self c.args.host.now c.reset.new.self (some_cold cold_knows) c.reset-2.ensures c.reset.ensures.host c.is_sound.ensures).together

pub returns-clause-knows : goal.returns-clause-knows
returns-clause-knows c =
    (resets_so c.args.device.now c.reset-2.new.self c.args.host.now c.reset.new.self (some_cold cold_knows) c.reset-2.ensures c.reset.ensures.host c.is_sound.ensures).knows

pub returns-clause-home : goal.returns-clause-home
returns-clause-home c =
    (resets_so c.args.device.now c.reset-2.new.self c.args.host.now c.reset.new.self (some_cold cold_knows) c.reset-2.ensures c.reset.ensures.host c.is_sound.ensures).home

pub returns-clause-layout : goal.returns-clause-layout
returns-clause-layout c =
    (resets_so c.args.device.now c.reset-2.new.self c.args.host.now c.reset.new.self (some_cold cold_knows) c.reset-2.ensures c.reset.ensures.host c.is_sound.ensures).layout
