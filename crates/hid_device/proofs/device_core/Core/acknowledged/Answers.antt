use Rattle.std.proofs.Common.{◌≡◌, ◌∙◌, ℕ, Bool, List, None, Some, ap, sym, subst}
use Rattle.hid_layout.specs.Controls.{items_of}
use Rattle.hid_snapshots.specs.Pieces.{piece_of}
use Rattle.usb_transact.specs.Device.{DevPipeState, toggle_after}
use Rattle.hid_device.specs.contracts.device_core.Core.{the_view}
use Rattle.hid_device.specs.Core.{IsSound, core_after_ack, next_piece_of}
use Rattle.hid_device.proofs.AckLemmas.{ends_closed, flips, goes_on_closed, next_armed, next_is, next_quiet, sound_at_piece, sound_closed}
use Rattle.hid_device.proofs.device_core.Core.acknowledged.Goals as goal

pub arm-requires-clause-going : goal.arm-requires-clause-going
arm-requires-clause-going c =
    let core = the_view c.self.inside in
    let next : next_piece_of core ≡ Some c.in-Some.piece =
    ap next_piece_of c.self.view_is ∙ sym c.next_piece-next.ensures ∙ c.in-Some.is in
    ap (λ (pipe : DevPipeState). pipe.halted) c.acknowledged.ensures.closed ∙ next_quiet (items_of core.layout) core.current core.piece c.in-Some.piece core.halted next c.self.invariant.sound.quiet

pub invariant_of-self : goal.invariant_of-self
invariant_of-self c =
    let core = the_view c.self.inside in
    let before = c.self.invariant.sound in
    let next : next_piece_of core ≡ Some c.in-Some.piece =
    ap next_piece_of c.self.view_is ∙ sym c.next_piece-next.ensures ∙ c.in-Some.is in
    let same : c.arm.new.self.halted ≡ core.halted = ap (λ (pipe : DevPipeState). pipe.halted) (c.arm.ensures ∙ ap (λ (pipe : DevPipeState). let p : DevPipeState = record pipe { armed = Some c.piece_of.result.now } in p) c.acknowledged.ensures.closed) in
    let sent : c.piece_of.result.now ≡ piece_of c.self.inside.round.items c.in-Some.piece = c.piece_of.ensures.piece ∙ ap (λ (bytes : List ℕ). piece_of bytes c.in-Some.piece) c.deref.ensures.0 in
    record {
      sound = subst (λ (halted : Bool). IsSound (record core { piece = c.in-Some.piece; toggle = c.arm.new.self.toggle; halted = halted })) (sym same)
          (sound_at_piece core c.arm.new.self.toggle c.in-Some.piece before (next_is (items_of core.layout) core.current core.piece c.in-Some.piece next));
      nothing_due = c.self.invariant.nothing_due;
      armed = ap (λ (pipe : DevPipeState). pipe.armed) c.arm.ensures ∙ ap Some sent
          ∙ next_armed core.layout core.reports.fixed core.current core.piece c.in-Some.piece c.self.inside.round.items next c.self.invariant.round;
      round = c.self.invariant.round;
      room = c.self.invariant.room;
    }

pub invariant_of-self-in-None : goal.invariant_of-self-in-None
invariant_of-self-in-None c =
    let core = the_view c.self.inside in
    record {
      sound = subst (λ (halted : Bool). IsSound (record core { current = None; piece = 0; toggle = c.acknowledged.new.self.toggle; halted = halted }))
          (sym (ap (λ (pipe : DevPipeState). pipe.halted) c.acknowledged.ensures.closed)) (sound_closed core c.acknowledged.new.self.toggle c.self.invariant.sound);
      nothing_due = c.self.invariant.nothing_due;
      armed = ap (λ (pipe : DevPipeState). pipe.armed) c.acknowledged.ensures.closed;
      round = tt;
      room = c.self.invariant.room;
    }

pub returns-in-Some : goal.returns-in-Some
returns-in-Some c =
    let core = the_view c.self.inside in
    let pipe : c.arm.new.self ≡ record c.acknowledged.new.self { armed = Some c.piece_of.result.now } = c.arm.ensures in
    let next : next_piece_of core ≡ Some c.in-Some.piece =
    ap next_piece_of c.self.view_is ∙ sym c.next_piece-next.ensures ∙ c.in-Some.is in
    goes_on_closed core c.in-Some.piece c.arm.new.self.toggle c.arm.new.self.halted next
    (ap (λ (p : DevPipeState). p.toggle) pipe ∙ ap (λ (p : DevPipeState). p.toggle) c.acknowledged.ensures.closed
    ∙ ap (toggle_after core.toggle) c.self.invariant.armed
    ∙ flips core.layout core.reports.fixed core.current core.piece core.toggle)
    (ap (λ (p : DevPipeState). p.halted) pipe ∙ ap (λ (p : DevPipeState). p.halted) c.acknowledged.ensures.closed)
    ∙ ap core_after_ack c.self.view_is

pub returns-in-None : goal.returns-in-None
returns-in-None c =
    let core = the_view c.self.inside in
    let ends : next_piece_of core ≡ None =
    ap next_piece_of c.self.view_is ∙ sym c.next_piece-next.ensures ∙ c.in-None.is in
    ends_closed core c.acknowledged.new.self.toggle c.acknowledged.new.self.halted ends
    (ap (λ (p : DevPipeState). p.toggle) c.acknowledged.ensures.closed
    ∙ ap (toggle_after core.toggle) c.self.invariant.armed
    ∙ flips core.layout core.reports.fixed core.current core.piece core.toggle)
    (ap (λ (p : DevPipeState). p.halted) c.acknowledged.ensures.closed)
    ∙ ap core_after_ack c.self.view_is
