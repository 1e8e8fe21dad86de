use Rattle.std.proofs.Common.{Bool, Option, ap, sym, subst}
use Rattle.usb_packet.specs.declared.packet.Packet.{Packet}
use Rattle.usb_transact.specs.Fate.{arrives_under}
use Rattle.usb_control.specs.Crossing.{Acknowledges}
use Rattle.hid_host.specs.Host.{TakesControl}
use Rattle.hid_host.proofs.ControlLemmas.{progress_in, steps_by_packets, stops_without}
use Rattle.hid_host.proofs.host.HostDevice.control_step.Goals as goal

pub returns-in_err-token : goal.returns-in_err-token
returns-in_err-token g c =
    stops_without g.R.Requests.prepare_gives g.R.Requests.apply_gives g.R.Requests.answer_of c.args.fate c.args.self.now _ c.args.control.now c.from_residual.result
    c.in_err-token.ensures.token c.from_residual.ensures.1

pub returns-in-Ok : goal.returns-in-Ok
returns-in-Ok g c =
    let answered = rw c.as_ref.ensures.value at c.send_token-reply.ensures in
    let takes = subst (λ (x : Option Packet). TakesControl x c.args.self.now c.control_take-taken.result c.control_take-taken.new.self) c.as_ref-2.ensures.value c.control_take-taken.ensures in
    let ack =
    subst (λ (b : Bool). Acknowledges g.R.Requests.prepare_gives g.R.Requests.apply_gives g.R.Requests.answer_of
    (arrives_under c.args.fate) b c.send_token-reply.new.control c.send_ack.new.control) c.acknowledges.ensures c.send_ack.ensures in
    steps_by_packets g.R.Requests.prepare_gives g.R.Requests.apply_gives g.R.Requests.answer_of c.args.fate c.args.self.now c.control_take-taken.new.self c.in_ok-token.token c.control_payload.result c.send_token-reply.result
    c.args.control.now c.send_token-reply.new.control c.send_ack.new.control c.control_take-taken.result _ c.in_ok-token.ensures.token c.control_payload.ensures.payload answered takes ack (ap progress_in (sym c.in-Ok.is))

pub returns-in-Err : goal.returns-in-Err
returns-in-Err g c =
    let answered = rw c.as_ref.ensures.value at c.send_token-reply.ensures in
    let takes = subst (λ (x : Option Packet). TakesControl x c.args.self.now c.control_take-taken.result c.control_take-taken.new.self) c.as_ref-2.ensures.value c.control_take-taken.ensures in
    let ack =
    subst (λ (b : Bool). Acknowledges g.R.Requests.prepare_gives g.R.Requests.apply_gives g.R.Requests.answer_of
    (arrives_under c.args.fate) b c.send_token-reply.new.control c.send_ack.new.control) c.acknowledges.ensures c.send_ack.ensures in
    steps_by_packets g.R.Requests.prepare_gives g.R.Requests.apply_gives g.R.Requests.answer_of c.args.fate c.args.self.now c.control_take-taken.new.self c.in_ok-token.token c.control_payload.result c.send_token-reply.result
    c.args.control.now c.send_token-reply.new.control c.send_ack.new.control c.control_take-taken.result _ c.in_ok-token.ensures.token c.control_payload.ensures.payload answered takes ack (ap progress_in (sym c.in-Err.is))
