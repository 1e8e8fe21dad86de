use Rattle.usb_control.proofs.CrossingLemmas.{crosses_by_token}
use Rattle.usb_control.proofs.host.HostTransfer.transact.Goals as goal

pub returns-clause-crosses : goal.returns-clause-crosses
returns-clause-crosses g c =
    let answered = rw c.as_ref.ensures.value at c.send_token-reply.ensures in
    let took = rw c.as_ref-2.ensures.value at c.take-acknowledges.ensures.took in
    let says = rw c.as_ref-2.ensures.value at c.take-acknowledges.ensures.acknowledged in
    crosses_by_token g.R.Requests.prepare_gives g.R.Requests.apply_gives g.R.Requests.answer_of (g.B.Bus.arrives c.args.bus.now) c.args.self.now c.args.control.now c.send_token-reply.new.control c.take-acknowledges.new.self c.send_ack.new.control
    c.token.result c.payload.result c.send_token-reply.result c.take-acknowledges.result c.token.ensures.token c.payload.ensures answered took says c.send_ack.ensures
