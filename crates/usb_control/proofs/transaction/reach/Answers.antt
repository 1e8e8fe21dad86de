use Rattle.std.proofs.Common.{refl, ap, sym, subst, Option}
use Rattle.std.specs.Option.{option_copied}
use Rattle.usb_packet.specs.declared.packet.Packet.{Packet}
use Rattle.usb_control.specs.Crossing.{HearsData}
use Rattle.usb_control.proofs.transaction.reach.Goals as goal

pub returns-in-Some-clause-reaches : goal.returns-in-Some-clause-reaches
returns-in-Some-clause-reaches g c = (
  c.send_packet-token.result,
  c.receive-answer.new.self,
  c.receive-answer.result,
  c.send_packet-token.ensures,
  rw c.as_ref.ensures.value at c.receive-answer.ensures.receives,
  subst (λ (x : Option Packet). HearsData g.R.Requests.prepare_gives g.R.Requests.apply_gives g.R.Requests.answer_of
      (g.B.Bus.arrives c.args.bus.now) x c.receive-answer.new.self c.receive-answer.result c.receive.new.self c.receive.result)
      (ap option_copied (sym c.in-Some.is)) (
        c.send_packet-data.result,
        c.send_packet-data.ensures,
        rw c.as_ref-in-Some.ensures.value at c.receive.ensures.receives,
      ),
)

pub returns-in-None-clause-reaches : goal.returns-in-None-clause-reaches
returns-in-None-clause-reaches g c = (
  c.send_packet-token.result,
  c.receive-answer.new.self,
  c.receive-answer.result,
  c.send_packet-token.ensures,
  rw c.as_ref.ensures.value at c.receive-answer.ensures.receives,
  subst (λ (x : Option Packet). HearsData g.R.Requests.prepare_gives g.R.Requests.apply_gives g.R.Requests.answer_of
      (g.B.Bus.arrives c.args.bus.now) x c.receive-answer.new.self c.receive-answer.result c.receive-answer.new.self c.receive-answer.result)
      (ap option_copied (sym c.in-None.is)) (refl, refl),
)
