use Rattle.std.proofs.Common.{◌≡◌, cond, List, ℕ, Some, None, subst, rules}
use Rattle.std.specs.Option.{option_map}
use Rattle.usb_packet.specs.PacketRef.{to_owned}
use Rattle.usb_transact.specs.Bus.{received_bytes, IsDecoded}
use Rattle.hid_stack.proofs.OverLemmas.{few_of_none, plays_over, refuses_over, sends_nothing, takes_all}
use Rattle.hid_stack.proofs.polls.poll.Goals as goal
use Rattle.hid_stack.proofs.polls.poll.Goals.{then-answers, else-answers}

pub returns-clause-packets : goal.returns-clause-packets
returns-clause-packets g c =
    let reply = option_map to_owned c.decode_received.result in
    let back_read : IsDecoded
    (received_bytes c.transmit_answer-is_back.result c.transmit_answer-is_back.new.bytes.items) reply
    = subst (λ (bs : List ℕ). IsDecoded
    (received_bytes c.transmit_answer-is_back.result bs) reply) c.deref-2.ensures.0 c.decode_received.ensures.read in
    let said : c.if-answers.result ≡ cond c.send_token-answers.result (Some c.send_token-answers.new.bytes) None
    = elim c.if-answers.branch [ then-answers w ↦ search rules | else-answers w ↦ search rules ] in
    plays_over (g.B.Bus.arrives c.args.bus.now) c.args.device.now c.send_token-answers.new.device c.acknowledge.new.device
    c.args.host.now c.reply_ref.new.self c.args.host.now.clearing c.args.host.now.phase
    c.in_ok-token.token
    c.send_token-answers.result c.send_token-answers.new.bytes c.transmit_answer-is_back.new.bytes.items c.transmit_answer-is_back.result reply c.if-answers.result
    c.reply_ref.result c.in_ok-took.took c.args.out.now.items c.reply_ref.new.out.items
    c.in_ok-token.ensures.is_ready c.in_ok-token.ensures.token
    c.send_token-answers.ensures (search rules) back_read said
    (takes_all c.args.host.now.phase c.args.host.now c.reply_ref.new.self reply c.reply_ref.result c.args.out.now.items c.reply_ref.new.out.items
    c.reply_ref.ensures.outcome c.reply_ref.ensures.after c.reply_ref.ensures.events)
    c.in_ok-took.was c.acknowledge.ensures

pub returns-in_err-token-clause-packets : goal.returns-in_err-token-clause-packets
returns-in_err-token-clause-packets g c =
    sends_nothing (g.B.Bus.arrives c.args.bus.now) c.args.device.now c.args.host.now c.args.host.now.clearing c.args.host.now.phase c.from_residual.result _ c.args.out.now.items
    c.from_residual.ensures.1 c.in_err-token.ensures.token

pub returns-in_err-token-clause-few : goal.returns-in_err-token-clause-few
returns-in_err-token-clause-few g c = few_of_none c.args.host.now.phase c.args.out.now.items

pub returns-in_err-took-clause-packets : goal.returns-in_err-took-clause-packets
returns-in_err-took-clause-packets g c =
    let reply = option_map to_owned c.decode_received.result in
    let back_read : IsDecoded
    (received_bytes c.transmit_answer-is_back.result c.transmit_answer-is_back.new.bytes.items) reply
    = subst (λ (bs : List ℕ). IsDecoded
    (received_bytes c.transmit_answer-is_back.result bs) reply) c.deref-2.ensures.0 c.decode_received.ensures.read in
    refuses_over
    (g.B.Bus.arrives c.args.bus.now) c.args.device.now c.send_token-answers.new.device c.args.host.now c.reply_ref.new.self c.args.host.now.clearing c.args.host.now.phase
    c.in_ok-token.token
    c.send_token-answers.result c.send_token-answers.new.bytes.items c.transmit_answer-is_back.new.bytes.items c.transmit_answer-is_back.result reply
    c.reply_ref.result c.from_residual-in_err-took.result _ c.args.out.now.items c.reply_ref.new.out.items
    c.in_ok-token.ensures.is_ready c.in_ok-token.ensures.token
    c.send_token-answers.ensures (search rules) back_read
    (takes_all c.args.host.now.phase c.args.host.now c.reply_ref.new.self reply c.reply_ref.result c.args.out.now.items c.reply_ref.new.out.items
    c.reply_ref.ensures.outcome c.reply_ref.ensures.after c.reply_ref.ensures.events)
    c.in_err-took.was c.from_residual-in_err-took.ensures.1
