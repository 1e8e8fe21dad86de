-- A poll over any bus is what its packets make it, each as the bytes that are sent and those that arrive (USB 2.0, 8.5.4).
use Rattle.std.proofs.Common.{◌≡◌, ◌∙◌, ◌≤◌, ◌+◌, ◌++◌, ℕ, Bool, true, false, cond, List, length, Option, Some, None, Result, Ok, Err, refl, ap, sym, subst, arith}
use Rattle.std.specs.Result.{IsErrAnd}
use Rattle.arrayvec.specs.declared.array_vec.ArrayVec.{ArrayVec}
use Rattle.hid_snapshots.specs.declared.event.Event.{Event}
use Rattle.usb_packet.specs.declared.packet.Packet.{Packet}
use Rattle.usb_packet.specs.PacketEncoding.{Encodes}
use Rattle.usb_transact.specs.declared.bus.Phase.{Phase}
use Rattle.usb_transact.specs.declared.bus.Phase.TheVariants.{Token, Reply}
use Rattle.usb_transact.specs.declared.host.Took.{Took}
use Rattle.usb_transact.specs.Bus.{Arrivals, received_bytes, Carries, IsDecoded, Replies}
use Rattle.usb_transact.specs.Host.{token_to}
use Rattle.usb_transact.specs.Replies.{reply_outcome}
use Rattle.hid_device.specs.Device.{DeviceState}
use Rattle.hid_host.specs.declared.fault.StackFault.{StackFault}
use Rattle.hid_host.specs.declared.fault.StackFault.TheVariants.{NotReady}
use Rattle.hid_host.specs.declared.phase.HostPhase.{HostPhase}
use Rattle.hid_host.specs.declared.phase.HostPhase.TheVariants.{Cold, Described, Parsed, Ready}
use Rattle.hid_host.specs.Host.{HostDeviceState, host_after_reply, polls_at}
use Rattle.hid_host.specs.Phase.{IfReady, IsReady}
use Rattle.hid_host.specs.Ready.{ReadyHostState, outcome_of, events_after}
use Rattle.hid_layout.specs.Controls.{items_of, max_events}
use Rattle.hid_bus.specs.declared.step.Told.{Told}
use Rattle.hid_bus.specs.declared.step.Told.TheVariants.{Polled}
use Rattle.hid_stack.specs.Polls.{Acknowledges, Ends, IsAnswer, IsPollByPackets, PollsOver, SendsNothing, TokenIsAnswered, encoded_packet, poll_outcome}

-- what is read of the bytes that arrive is what is read of the packet
pub carries_over : (arrivals : Arrivals) (phase : Phase) (packet : Packet) (bytes after : List ℕ) (has_come : Bool) (came : Option Packet)
    → Encodes packet bytes → received_bytes has_come after ≡ arrivals phase bytes
    → IsDecoded (received_bytes has_come after) came → Carries arrivals phase packet came
carries_over arrivals phase packet bytes after has_come came encodes is read = record {
  sent = subst (Encodes packet) encodes.encoded encodes;
  read = subst (λ (o : Option (List ℕ)). IsDecoded o came) (is ∙ ap (arrivals phase) encodes.encoded) read;
}

-- of an answer too, where there is one
replies_over : (arrivals : Arrivals) (answer : Option Packet) (answers : Bool) (bytes after : List ℕ) (is_back : Bool) (reply : Option Packet)
    → IsAnswer answer answers bytes → received_bytes is_back after ≡ cond answers (arrivals Reply bytes) None
    → IsDecoded (received_bytes is_back after) reply
    → Replies arrivals Reply answer reply
replies_over arrivals None answers bytes after is_back reply none is read =
    subst (λ (o : Option (List ℕ)). IsDecoded o reply)
    (is ∙ ap (λ (b : Bool). cond b (arrivals Reply bytes) None) none) read
replies_over arrivals (Some packet) answers bytes after is_back reply some is read =
    carries_over arrivals Reply packet bytes after is_back reply some.1 (is ∙ ap (λ (b : Bool). cond b (arrivals Reply bytes) None) some.0) read

-- the bytes of an answer are its encoding
spelled_over : (answer : Option Packet) (answers : Bool) (bytes : ArrayVec ℕ 65 (Unit {0})) (said : Option (ArrayVec ℕ 65 (Unit {0})))
    → IsAnswer answer answers bytes.items → said ≡ cond answers (Some bytes) None → said ≡ encoded_packet answer
spelled_over None answers bytes said none is = is ∙ ap (λ (b : Bool). cond b (Some bytes) None) none
spelled_over (Some packet) answers bytes said some is =
    is ∙ ap (λ (b : Bool). cond b (Some bytes) None) some.0 ∙ ap (λ (items : List ℕ). Some (record { items = items })) some.1.encoded

-- What the host got, and what it told.
pub record Takes (known : ReadyHostState) (host host_then : HostDeviceState) (reply : Option Packet)
    (result : Result Took StackFault) (before events : List Event) : Type 0 where
  pub told : result ≡ outcome_of known (reply_outcome known.pipe.expects reply)
  pub after : host_then ≡ host_after_reply host known (reply_outcome known.pipe.expects reply)
  pub delivers : events ≡ before ++ events_after known (reply_outcome known.pipe.expects reply)

-- in each phase
pub takes_all : (phase : HostPhase) (host host_then : HostDeviceState) (reply : Option Packet)
    (result : Result Took StackFault) (before events : List Event)
    → IfReady phase (λ known. result ≡ outcome_of known (reply_outcome known.pipe.expects reply))
    → IfReady phase (λ known. host_then ≡ host_after_reply host known (reply_outcome known.pipe.expects reply))
    → IfReady phase (λ known. events ≡ before ++ events_after known (reply_outcome known.pipe.expects reply))
    → IfReady phase (λ known. Takes known host host_then reply result before events)
takes_all (Ready known) host host_then reply result before events told after delivers = record { told = told; after = after; delivers = delivers }
takes_all Cold host host_then reply result before events told after delivers = tt
takes_all (Described info) host host_then reply result before events told after delivers = tt
takes_all (Parsed info layout) host host_then reply result before events told after delivers = tt

-- The poll, of a ready host that sends this token.
over : (arrivals : Arrivals) (device between device_then : DeviceState) (host host_then : HostDeviceState)
    (known : ReadyHostState) (token : Packet)
    (answers : Bool) (bytes back : List ℕ) (is_back : Bool) (reply : Option Packet) (result : Result Took StackFault) (told : Result Told StackFault) (before events : List Event)
    → token ≡ token_to known.pipe → (asks : TokenIsAnswered arrivals token device answers bytes between)
    → received_bytes is_back back ≡ cond answers (arrivals Reply bytes) None
    → IsDecoded (received_bytes is_back back) reply
    → Takes known host host_then reply result before events → told ≡ poll_outcome asks.responds.answer result
    → Ends arrivals result between device_then
    → PollsOver arrivals device host known told device_then host_then before events
over arrivals device between device_then host host_then known token answers bytes back is_back reply result told before events is asks back_is back_read takes told_is ends = record {
  token = asks.came;
  answer = asks.responds.answer;
  between = between;
  reply = reply;
  polled = subst (λ (p : Packet). Carries arrivals Token p asks.came) is asks.carried;
  receives = asks.responds.receives;
  bytes = asks.responds.of_bytes;
  replied = replies_over arrivals asks.responds.answer answers bytes back is_back reply asks.responds.written back_is back_read;
  told = told_is ∙ ap (poll_outcome asks.responds.answer) takes.told;
  host_moved = takes.after;
  delivers = takes.delivers;
  ended = subst (λ (r : Result Took StackFault). Ends arrivals r between device_then) takes.told ends;
}

-- The poll, of a host that polls.
pub plays_over : (arrivals : Arrivals) (device between device_then : DeviceState) (host host_then : HostDeviceState)
    (clearing : Bool) (phase : HostPhase)
    (token : Packet)
    (answers : Bool) (bytes : ArrayVec ℕ 65 (Unit {0})) (back : List ℕ) (is_back : Bool) (reply : Option Packet) (said : Option (ArrayVec ℕ 65 (Unit {0})))
    (result : Result Took StackFault) (took : Took) (before events : List Event)
    → IsReady phase × (clearing ≡ false) → (let it : Result Packet StackFault = Ok token in it ≡ polls_at phase clearing)
    → TokenIsAnswered arrivals token device answers bytes.items between
    → received_bytes is_back back ≡ cond answers (arrivals Reply bytes.items) None
    → IsDecoded (received_bytes is_back back) reply
    → said ≡ cond answers (Some bytes) None
    → IfReady phase (λ known. Takes known host host_then reply result before events) → result ≡ Ok took
    → Acknowledges arrivals took between device_then
    → IsPollByPackets arrivals device host clearing phase (Ok (Polled said took)) device_then host_then before events
plays_over arrivals device between device_then host host_then clearing Cold token answers bytes back is_back reply said result took before events ready polls asks back_is back_read said_is takes ok acks = absurd ready.0
plays_over arrivals device between device_then host host_then clearing (Described info) token answers bytes back is_back reply said result took before events ready polls asks back_is back_read said_is takes ok acks = absurd ready.0
plays_over arrivals device between device_then host host_then clearing (Parsed info layout) token answers bytes back is_back reply said result took before events ready polls asks back_is back_read said_is takes ok acks = absurd ready.0
plays_over arrivals device between device_then host host_then true (Ready known) token answers bytes back is_back reply said result took before events ready polls asks back_is back_read said_is takes ok acks = absurd (let e = ready.1 in cc)
plays_over arrivals device between device_then host host_then false (Ready known) token answers bytes back is_back reply said result took before events ready polls asks back_is back_read said_is takes ok acks =
    over arrivals device between device_then host host_then known token answers bytes.items back is_back reply result (Ok (Polled said took)) before events (cc) asks back_is back_read takes
    (ap (λ (o : Option (ArrayVec ℕ 65 (Unit {0}))). Ok (Polled o took))
    (spelled_over asks.responds.answer answers bytes said asks.responds.written said_is)
    ∙ ap (poll_outcome asks.responds.answer) (sym ok))
    (subst (λ (r : Result Took StackFault). Ends arrivals r between device_then) (sym ok) acks)

-- what a `?` answers
told_err : (r : Result Told StackFault) (fault : StackFault) → IsErrAnd r (λ e. e ≡ fault) → r ≡ Err fault
told_err (Ok told) fault is = absurd is
told_err (Err e) fault is = ap (λ (f : StackFault). Err f) is

-- of one that refuses the data that it reads
pub refuses_over : (arrivals : Arrivals) (device between : DeviceState) (host host_then : HostDeviceState)
    (clearing : Bool) (phase : HostPhase) (token : Packet)
    (answers : Bool) (bytes back : List ℕ) (is_back : Bool) (reply : Option Packet) (result : Result Took StackFault) (r : Result Told StackFault) (fault : StackFault) (before events : List Event)
    → IsReady phase × (clearing ≡ false) → (let it : Result Packet StackFault = Ok token in it ≡ polls_at phase clearing)
    → TokenIsAnswered arrivals token device answers bytes between
    → received_bytes is_back back ≡ cond answers (arrivals Reply bytes) None
    → IsDecoded (received_bytes is_back back) reply
    → IfReady phase (λ known. Takes known host host_then reply result before events) → result ≡ Err fault → IsErrAnd r (λ e. e ≡ fault)
    → IsPollByPackets arrivals device host clearing phase r between host_then before events
refuses_over arrivals device between host host_then clearing Cold token answers bytes back is_back reply result r fault before events ready polls asks back_is back_read takes err is = absurd ready.0
refuses_over arrivals device between host host_then clearing (Described info) token answers bytes back is_back reply result r fault before events ready polls asks back_is back_read takes err is = absurd ready.0
refuses_over arrivals device between host host_then clearing (Parsed info layout) token answers bytes back is_back reply result r fault before events ready polls asks back_is back_read takes err is = absurd ready.0
refuses_over arrivals device between host host_then true (Ready known) token answers bytes back is_back reply result r fault before events ready polls asks back_is back_read takes err is = absurd (let e = ready.1 in cc)
refuses_over arrivals device between host host_then false (Ready known) token answers bytes back is_back reply result r fault before events ready polls asks back_is back_read takes err is =
    over arrivals device between between host host_then known token answers bytes back is_back reply result r before events (cc) asks back_is back_read takes
    (told_err r fault is ∙ ap (poll_outcome asks.responds.answer) (sym err))
    (subst (λ (r : Result Took StackFault). Ends arrivals r between between) (sym err) refl)

-- a host that doesn't poll sends nothing
nothing_sent : (device : DeviceState) (host : HostDeviceState) (r : Result Told StackFault) (fault : StackFault)
    (before : List Event)
    → IsErrAnd r (λ e. e ≡ fault) → fault ≡ NotReady → SendsNothing device host r device host before before
nothing_sent device host r fault before is why = record { told = told_err r fault is ∙ ap (λ (e : StackFault). Err e) why; device_stays = refl; host_stays = refl; delivers = refl }

pub sends_nothing : (arrivals : Arrivals) (device : DeviceState) (host : HostDeviceState) (clearing : Bool)
    (phase : HostPhase) (r : Result Told StackFault) (fault : StackFault) (before : List Event)
    → IsErrAnd r (λ e. e ≡ fault) → (let it : Result Packet StackFault = Err fault in it ≡ polls_at phase clearing)
    → IsPollByPackets arrivals device host clearing phase r device host before before
sends_nothing arrivals device host false (Ready known) r fault before is polls = absurd (cc)
sends_nothing arrivals device host true (Ready known) r fault before is polls = nothing_sent device host r fault before is (cc)
sends_nothing arrivals device host false Cold r fault before is polls = nothing_sent device host r fault before is (cc)
sends_nothing arrivals device host true Cold r fault before is polls = nothing_sent device host r fault before is (cc)
sends_nothing arrivals device host false (Described info) r fault before is polls = nothing_sent device host r fault before is (cc)
sends_nothing arrivals device host true (Described info) r fault before is polls = nothing_sent device host r fault before is (cc)
sends_nothing arrivals device host false (Parsed info layout) r fault before is polls = nothing_sent device host r fault before is (cc)
sends_nothing arrivals device host true (Parsed info layout) r fault before is polls = nothing_sent device host r fault before is (cc)

-- which delivers nothing, and so no more than a poll may
pub few_of_none : (phase : HostPhase) (before : List Event) → IfReady phase (λ known. length before ≤ length before + max_events (items_of known.layout))
few_of_none (Ready known) before = omega arith
few_of_none Cold before = tt
few_of_none (Described info) before = tt
few_of_none (Parsed info layout) before = tt
