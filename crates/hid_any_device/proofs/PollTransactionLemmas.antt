-- A poll under a fate is the transaction of the bus that loses what the fate says.
use Rattle.std.proofs.Common.{◌≡◌, ℕ, Bool, true, false, List, [], ◌∷◌, refl, ap, sym, ◌∙◌, cond}
use Rattle.std.specs.Bool.{beq}
use Rattle.usb_transact.specs.declared.host.Took.{Took}
use Rattle.usb_transact.specs.declared.host.Took.TheVariants.{Fresh, Again}
use Rattle.usb_transact.specs.declared.transaction.Fate.{Fate}
use Rattle.usb_transact.specs.declared.transaction.Fate.TheVariants.{Clean, TokenLost, ReplyLost, AckLost}
use Rattle.usb_transact.specs.Device.{DevPipeState}
use Rattle.usb_transact.specs.Exchange.{pipe_after, took_of}
use Rattle.usb_transact.specs.Replies.{host_after}
use Rattle.usb_transact.proofs.TableLemmas.{Transacts-device, Transacts-took, took_answer}
use Rattle.hid_host.specs.Ready.{ReadyHostState}
use Rattle.hid_any_device.specs.Sender.{ReportPieces, Readiness, Sends, Waits, Stalls, sender_after_ack, is_acknowledged, first_piece, sender_pipe, Sender}
use Rattle.hid_any_device.specs.PipeSteps.{PipeEnds, Polls, ends_after, took_at_poll}
use Rattle.hid_any_device.specs.PollTransactions.{PollsAreTransactions}

-- what the host takes, by the row of the table
same_took : (ends : PipeEnds) (readiness : Readiness) (fate : Fate) → took_of fate ends.host.pipe (sender_pipe readiness ends.sender) ≡ took_at_poll ends readiness fate
same_took ends readiness TokenLost = refl
same_took ends readiness ReplyLost = refl
same_took ends readiness Clean =
    let pipe : DevPipeState = sender_pipe readiness ends.sender in sym (took_answer ends.host.pipe.expects pipe.halted pipe.toggle pipe.armed)
same_took ends readiness AckLost =
    let pipe : DevPipeState = sender_pipe readiness ends.sender in sym (took_answer ends.host.pipe.expects pipe.halted pipe.toggle pipe.armed)

-- data are acknowledged under either toggle
either_acknowledged : (is_fresh : Bool) (bytes : List ℕ) (then_is now : Sender)
    → then_is.toggle ≡ (cond (is_acknowledged (cond is_fresh (Fresh (record { items = bytes })) Again)) then_is now).toggle
either_acknowledged true bytes then_is now = refl
either_acknowledged false bytes then_is now = refl

same_toggle : (packet_size : ℕ) (host : ReadyHostState) (queue : List ReportPieces) (odd : Bool) (readiness : Readiness) (fate : Fate)
    → (pipe_after fate (sender_pipe readiness (record { queue = queue; toggle = odd }))).toggle
    ≡ (ends_after packet_size (record { sender = record { queue = queue; toggle = odd }; host = host })
    (Polls readiness fate)).sender.toggle
same_toggle packet_size host queue odd Sends TokenLost = refl
same_toggle packet_size host queue odd Waits TokenLost = refl
same_toggle packet_size host queue odd Stalls TokenLost = refl
same_toggle packet_size host queue odd Sends ReplyLost = refl
same_toggle packet_size host queue odd Waits ReplyLost = refl
same_toggle packet_size host queue odd Stalls ReplyLost = refl
same_toggle packet_size host queue odd Sends AckLost = refl
same_toggle packet_size host queue odd Waits AckLost = refl
same_toggle packet_size host queue odd Stalls AckLost = refl
same_toggle packet_size host queue odd Waits Clean = refl
same_toggle packet_size host queue odd Stalls Clean = refl
same_toggle packet_size host [] odd Sends Clean = refl
same_toggle packet_size host (report ∷ queue) odd Sends Clean =
    either_acknowledged (beq odd host.pipe.expects) (first_piece report)
    (sender_after_ack (record { queue = report ∷ queue; toggle = odd }))
    (record { queue = report ∷ queue; toggle = odd })

pub transacts : (packet_size : ℕ) (ends : PipeEnds) (readiness : Readiness) (fate : Fate) → PollsAreTransactions packet_size ends readiness fate
transacts packet_size ends readiness fate took host device t =
    let pipe : DevPipeState = sender_pipe readiness ends.sender in
    let same : took ≡ took_at_poll ends readiness fate = Transacts-took fate ends.host.pipe pipe took host device t ∙ same_took ends readiness fate in
    record {
      taken = same;
      host_stands = t.host_moved ∙ ap (λ (x : Took). host_after x ends.host.pipe) same;
      sender_stands =
          ap (λ (d : DevPipeState). d.toggle) (Transacts-device fate ends.host.pipe pipe took host device t)
          ∙ same_toggle packet_size ends.host ends.sender.queue ends.sender.toggle readiness fate;
    }
