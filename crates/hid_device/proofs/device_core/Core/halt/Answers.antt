use Rattle.std.proofs.Common.{◌≡◌, ◌∙◌, Bool, true, None, ap}
use Rattle.usb_transact.specs.Device.{DevPipeState}
use Rattle.hid_device.specs.contracts.device_core.Core.{the_view}
use Rattle.hid_device.specs.Core.{CoreState}
use Rattle.hid_device.proofs.AckLemmas.{sound_halted}
use Rattle.hid_device.proofs.device_core.Core.halt.Goals as goal

pub invariant_of-self : goal.invariant_of-self
invariant_of-self c =
    let pipe = c.halt.new.self in
    let before = c.self.invariant.sound in
    record {
      sound = sound_halted (the_view c.self.inside) _ pipe.toggle pipe.halted before before.each_cut;
      nothing_due = c.self.invariant.nothing_due;
      armed = ap (λ (p : DevPipeState). p.armed) c.halt.ensures;
      round = tt;
      room = c.self.invariant.room;
    }

pub returns : goal.returns
returns c =
    let pipe = c.halt.new.self in
    let core = the_view c.self.inside in
    let is : pipe.halted ≡ true = ap (λ (p : DevPipeState). p.halted) c.halt.ensures in
    let same : pipe.toggle ≡ core.toggle = ap (λ (p : DevPipeState). p.toggle) c.halt.ensures in
    ap (λ (toggle : Bool). let s : CoreState = record core { current = None; piece = 0; toggle = toggle; halted = pipe.halted } in s) same
    ∙ ap (λ (halted : Bool). let s : CoreState = record core { current = None; piece = 0; halted = halted } in s) is
    ∙ ap (λ (x : CoreState). let s : CoreState = record x { current = None; piece = 0; halted = true } in s)
    (c.self.view_is ∙ c.abort_round.ensures)
