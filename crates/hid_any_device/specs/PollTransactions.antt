-- That a poll under a fate is the transaction of the bus that loses what the fate says, packet by packet (USB 2.0, 8.5.4).
use Rattle.std.specs.Prelude.{◌≡◌, ℕ}
use Rattle.usb_transact.specs.declared.host.Took.{Took}
use Rattle.usb_transact.specs.declared.transaction.Fate.{Fate}
use Rattle.usb_transact.specs.Device.{DevPipeState}
use Rattle.usb_transact.specs.Fate.{arrives_under}
use Rattle.usb_transact.specs.Host.{HostPipeState}
use Rattle.usb_transact.specs.Transaction.{Transacts}
use Rattle.hid_any_device.specs.Sender.{Readiness, sender_pipe}
use Rattle.hid_any_device.specs.PipeSteps.{PipeEnds, Polls, ends_after, took_at_poll}

-- what a transaction comes to is what the poll does: what the host takes, and both toggles after it
pub record IsPollTransaction (packet_size : ℕ) (ends : PipeEnds) (readiness : Readiness) (fate : Fate) (took : Took)
    (host : HostPipeState) (device : DevPipeState) : Type 0 where
  pub taken : took ≡ took_at_poll ends readiness fate
  pub host_stands : host ≡ (ends_after packet_size ends (Polls readiness fate)).host.pipe
  pub sender_stands : device.toggle ≡ (ends_after packet_size ends (Polls readiness fate)).sender.toggle

-- each transaction of a device's pipe with its host's is such a poll
abbrev pub PollsAreTransactions : ℕ → PipeEnds → Readiness → Fate → Type 0
PollsAreTransactions packet_size ends readiness fate =
    (took : Took) (host : HostPipeState) (device : DevPipeState)
    → Transacts (arrives_under fate) ends.host.pipe (sender_pipe readiness ends.sender) took host device
    → IsPollTransaction packet_size ends readiness fate took host device
