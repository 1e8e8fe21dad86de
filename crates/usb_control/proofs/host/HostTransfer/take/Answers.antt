use Rattle.std.proofs.Common.{◌≡◌, Bool, Option, false, refl, subst, ap, sym, ◌∙◌}
use Rattle.usb_packet.specs.declared.packet.Packet.{Packet}
use Rattle.usb_control.specs.declared.host.HostStage.{HostStage}
use Rattle.usb_control.specs.declared.host.HostStage.TheVariants.{Setup, DataIn, DataOut, StatusIn, StatusOut}
use Rattle.usb_control.specs.Host.{HostTransferState, transfer_after_reply, transfer_after_reply_at, acknowledges, acknowledges_at}
use Rattle.usb_control.proofs.KeepsLemmas.{Keeps, took_keeps}
use Rattle.usb_control.proofs.host.HostTransfer.take.Goals as goal

-- what is promised of what came
record IsTaken (packet : Option Packet) (host new : HostTransferState) (says : Bool) : Type 0 where
  took : new ≡ transfer_after_reply packet host
  same : Keeps new host
  acknowledged : says ≡ acknowledges packet host

-- by what is made of it at its stage
at : (packet : Option Packet) (host new : HostTransferState) (stage : HostStage) (says : Bool) → host.stage ≡ stage
    → new ≡ transfer_after_reply_at stage packet host → says ≡ acknowledges_at stage packet new.stage
    → IsTaken packet host new says
at packet host new stage says is made said =
    let took_is : new ≡ transfer_after_reply packet host =
    subst (λ (s : HostStage). new ≡ transfer_after_reply_at s packet host) (sym is) made in
    record {
      took = took_is;
      same = subst (λ (h : HostTransferState). Keeps h host) (sym made) (took_keeps stage packet host);
      acknowledged =
          subst (λ (s : HostStage). says ≡ acknowledges_at s packet new.stage) (sym is) said
          ∙ ap (λ (h : HostTransferState). acknowledges_at host.stage packet h.stage) took_is;
    }

pub returns-in-Setup : goal.returns-in-Setup
returns-in-Setup c =
    let h = at _ c.args.self.now c.take_setup.new.self Setup false (cc) c.take_setup.ensures refl in
    record { took = h.took; same = h.same; acknowledged = h.acknowledged }

pub returns-in-DataIn : goal.returns-in-DataIn
returns-in-DataIn c =
    let is : c.args.self.now.stage ≡ DataIn c.in-DataIn.one = cc in
    let h = at _ c.args.self.now c.take_data.new.self (DataIn c.in-DataIn.one) c.take_data.result is c.take_data.ensures.taken (rw is at c.take_data.ensures.acknowledged) in
    record { took = h.took; same = h.same; acknowledged = h.acknowledged }

pub returns-in-StatusIn : goal.returns-in-StatusIn
returns-in-StatusIn c =
    let is : c.args.self.now.stage ≡ StatusIn = cc in
    let h = at _ c.args.self.now c.take_status.new.self StatusIn c.take_status.result is c.take_status.ensures.taken (rw is at c.take_status.ensures.acknowledged) in
    record { took = h.took; same = h.same; acknowledged = h.acknowledged }

pub returns-in-StatusOut : goal.returns-in-StatusOut
returns-in-StatusOut c =
    let h = at _ c.args.self.now _ StatusOut false (cc) c.handshake-in-StatusOut.ensures refl in
    record { took = h.took; same = h.same; acknowledged = h.acknowledged }

pub returns-in-DataOut : goal.returns-in-DataOut
returns-in-DataOut c =
    let h = at _ c.args.self.now _ (DataOut c.in-DataOut.sent c.in-DataOut.one) false (cc) (rw c.after_piece-next.ensures at c.handshake.ensures) refl in
    record { took = h.took; same = h.same; acknowledged = h.acknowledged }
