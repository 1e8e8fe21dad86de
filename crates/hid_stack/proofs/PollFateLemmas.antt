-- A poll at the two ends of which nothing or the acknowledgement is lost is a poll of their link state (USB 2.0, 5.7.3,
-- 8.5.4 and 8.6).
use Rattle.std.proofs.Common.{◌≡◌, ℕ, Bool, true, false, List, Option, Some, None, Result, refl, inl, inr}
use Rattle.std.specs.Bool.{beq}
use Rattle.std.proofs.lemmas.Bool.{cases_Bool}
use Rattle.hid_layout.specs.Controls.{items_of}
use Rattle.hid_snapshots.specs.declared.event.Event.{Event}
use Rattle.hid_snapshots.specs.Pieces.{is_last_piece}
use Rattle.usb_transact.specs.declared.transaction.Fate.TheVariants.{Clean, AckLost}
use Rattle.hid_device.specs.Core.{CoreState}
use Rattle.hid_device.specs.Device.{DeviceState}
use Rattle.hid_host.specs.declared.fault.StackFault.{StackFault}
use Rattle.hid_bus.specs.declared.step.Told.{Told}
use Rattle.hid_host.specs.Host.{HostDeviceState}
use Rattle.hid_stack.specs.Slot.{link_of_pair, TogglesAgree}
use Rattle.hid_host.specs.Ready.{ReadyHostState}
use Rattle.hid_stack.proofs.PieceLemmas.{Reads}
use Rattle.hid_stack.proofs.PollLemmas.{ComesTo, HasGot, Lands, Meets, again_ack_lost, again_clean, bytes_of, comes_row, fresh_ack_lost, fresh_clean, going, is_repeated, is_taken, nak, opens_link, ready_member}

pub clean : (c : CoreState) (known : ReadyHostState) (d : DeviceState) (home : HostDeviceState) (current : Option ℕ)
    (result : Result Told StackFault) (device_then : DeviceState) (host_then : HostDeviceState) (events : List Event)
    → TogglesAgree c.toggle known.pipe.expects current → HasGot c current known → Meets d.addr (going c current) known
    → ((r : ℕ) → current ≡ Some r → Reads c.layout r c.reports.fixed (bytes_of c r) known.view)
    → ComesTo Clean d home c known current result device_then host_then events
    → Lands Clean (ready_member d home c None)
    (link_of_pair (going c current) known) result device_then host_then events
clean c known d home None result device_then host_then events even got meets reads t =
    let done = nak Clean c known d home result device_then host_then events even got meets t in
    record { member = done.0; delivered = done.1; told = done.2; pair = done.3 }
clean c known d home (Some r) result device_then host_then events even got meets reads t =
    let last = is_last_piece (items_of c.layout) r c.piece in
    elim (cases_Bool (beq c.toggle known.pipe.expects)) [
      | inl same ↦
          let f = is_taken Clean d home c known r result device_then host_then events meets got (reads r refl) same (comes_row Clean d home c known r true result device_then host_then events same t) in
          opens_link Clean d home c known r true result device_then host_then events same
          (fresh_clean d home c known r last result device_then host_then events f.0 f.1)
      | inr differ ↦
          let row = comes_row Clean d home c known r false result device_then host_then events differ t in
          let f = is_repeated Clean d home c known r result device_then host_then events meets got differ row in
          opens_link Clean d home c known r false result device_then host_then events differ
          (again_clean d home c known r last result device_then host_then events f row.ended)
    ]

pub ack_lost_poll : (c : CoreState) (known : ReadyHostState) (d : DeviceState) (home : HostDeviceState)
    (current : Option ℕ)
    (result : Result Told StackFault) (device_then : DeviceState) (host_then : HostDeviceState) (events : List Event)
    → TogglesAgree c.toggle known.pipe.expects current → HasGot c current known → Meets d.addr (going c current) known
    → ((r : ℕ) → current ≡ Some r → Reads c.layout r c.reports.fixed (bytes_of c r) known.view)
    → ComesTo AckLost d home c known current result device_then host_then events
    → Lands AckLost (ready_member d home c None)
    (link_of_pair (going c current) known) result device_then host_then events
ack_lost_poll c known d home None result device_then host_then events even got meets reads t =
    let done = nak AckLost c known d home result device_then host_then events even got meets t in
    record { member = done.0; delivered = done.1; told = done.2; pair = done.3 }
ack_lost_poll c known d home (Some r) result device_then host_then events even got meets reads t =
    let last = is_last_piece (items_of c.layout) r c.piece in
    elim (cases_Bool (beq c.toggle known.pipe.expects)) [
      | inl same ↦
          let f = is_taken AckLost d home c known r result device_then host_then events meets got (reads r refl) same (comes_row AckLost d home c known r true result device_then host_then events same t) in
          opens_link AckLost d home c known r true result device_then host_then events same
          (fresh_ack_lost d home c known r last result device_then host_then events f.0 f.1)
      | inr differ ↦
          let row = comes_row AckLost d home c known r false result device_then host_then events differ t in
          let f = is_repeated AckLost d home c known r result device_then host_then events meets got differ row in
          opens_link AckLost d home c known r false result device_then host_then events differ
          (again_ack_lost d home c known r last result device_then host_then events f row.ended)
    ]
