-- A poll at the two ends is a poll of their link state (USB 2.0, 5.7.3, 8.5.4 and 8.6).
use Rattle.std.proofs.Common.{◌≡◌, ◌∙◌, ◌+◌, ℕ, Bool, true, false, not, ◌&&◌, List, [], Option, Some, None, Result, Ok, refl, ap, sym, subst, cond, inl, inr}
use Rattle.std.specs.Bool.{beq}
use Rattle.std.proofs.lemmas.Bool.{cases_Bool}
use Rattle.hid_layout.specs.Controls.{items_of}
use Rattle.hid_layout.specs.Reports.{IsLayout}
use Rattle.hid_snapshots.specs.declared.control_state.ControlState.{ControlState}
use Rattle.hid_snapshots.specs.declared.event.Event.{Event}
use Rattle.hid_snapshots.specs.Pieces.{is_last_piece, piece_of, pieces_of}
use Rattle.hid_snapshots.specs.PartBytes.{part_bytes}
use Rattle.hid_snapshots.specs.ControlStates.{FitsView}
use Rattle.hid_snapshots.specs.Views.{view_after_part}
use Rattle.hid_usages.proofs.CrossingLemmas.{seen_is_view}
use Rattle.usb_packet.specs.declared.packet.Packet.{Packet}
use Rattle.usb_packet.specs.declared.packet.Packet.TheVariants as packets
use Rattle.usb_packet.specs.PacketEncoding.{encoding}
use Rattle.usb_transact.specs.declared.bus.Phase.TheVariants.{Reply, Acknowledgement}
use Rattle.usb_transact.specs.declared.host.Took.{Took}
use Rattle.usb_transact.specs.declared.host.Took.TheVariants.{Fresh, Again, Nak, Silent}
use Rattle.usb_transact.specs.declared.transaction.Fate.{Fate}
use Rattle.usb_transact.specs.declared.transaction.Fate.TheVariants.{Clean, ReplyLost, AckLost}
use Rattle.usb_transact.specs.Bus.{Arrivals, Carries}
use Rattle.usb_transact.specs.Device.{answer_with}
use Rattle.usb_transact.specs.Fate.{arrives_under}
use Rattle.usb_transact.specs.Replies.{reply_outcome}
use Rattle.usb_transact.specs.Exchange.{outcome_when_received}
use Rattle.usb_transact.proofs.TableLemmas.{read_whole, read_lost, took_answer}
use Rattle.hid_requests.specs.declared.codes.TheConstants.{REPORT_ENDPOINT as ENDPOINT}
use Rattle.hid_bus.specs.ReportState.{due_where}
use Rattle.std.specs.Prelude.{unwrap_or}
use Rattle.hid_device.specs.Core.{CoreState, IsSound, core_with_due_round, core_at_poll, core_after_ack, round_after_piece, piece_armed}
use Rattle.hid_device.specs.Device.{DeviceState, after_ignored_packet, device_after_poll}
use Rattle.hid_device.proofs.AckLemmas.{sound_at_piece, sound_closed}
use Rattle.hid_host.specs.declared.fault.StackFault.{StackFault}
use Rattle.hid_bus.specs.declared.step.Told.{Told}
use Rattle.hid_bus.specs.declared.step.Told.TheVariants.{Polled}
use Rattle.hid_host.specs.declared.phase.HostPhase.TheVariants.{Ready}
use Rattle.hid_host.specs.Host.{HostDeviceState, host_after_reply}
use Rattle.hid_host.specs.declared.phase.HostState.TheVariants as states
use Rattle.hid_stack.specs.Members.{Member, crossed_bytes, partial_report_of}
use Rattle.hid_stack.specs.Slot.{link_of_pair, pair_member, TogglesAgree, ArePaired, IsPair}
use Rattle.hid_host.specs.Ready.{ReadyHostState, outcome_of, events_after}
use Rattle.hid_stack.specs.Polls.{Receives, ReceivesAck, Ends, encoded_packet, poll_outcome}
use Rattle.hid_bus.specs.Rounds.{part_events}
use Rattle.hid_bus.specs.LinkState.{LinkState, OpenRound, state_at_token, with_open_report, state_after_answer, poll_events}
use Rattle.hid_stack.specs.StepResult.{piece_shown, poll_result}
use Rattle.hid_stack.proofs.PieceLemmas.{Reads, TakesPiece, more_so, payload, taking, takes_piece, up_to}

-- toggles that are the same
beq_same : (t : Bool) → beq t t ≡ true
beq_same true = refl
beq_same false = refl

-- the round of a report whose piece at this place is at hand, and is awaited or not
abbrev round_at : CoreState → ℕ → ℕ → Bool → OpenRound
round_at c r piece awaits = record { report = r; pieces = pieces_of (items_of c.layout) r; piece = piece; crossed = not awaits }

-- opening a round at the device opens it at the link state
opens_if : (c : CoreState) (known : ReadyHostState) (due : Option ℕ) → c.toggle ≡ known.pipe.expects
    → link_of_pair (core_with_due_round (record c { current = None }) due) known
    ≡ with_open_report (items_of c.layout) (link_of_pair (record c { current = None }) known) due
opens_if c known None even = refl
opens_if c known (Some r) even =
    ap (λ (b : Bool). let s : LinkState =
    link_of_pair (core_with_due_round (record c { current = None }) (Some r)) known in
    record s { current = Some (round_at c r 0 b) })
    (ap (λ (t : Bool). beq c.toggle t) (sym even) ∙ beq_same c.toggle)

opens_at : (c : CoreState) (known : ReadyHostState) (current : Option ℕ)
    → TogglesAgree c.toggle known.pipe.expects current
    → link_of_pair (core_at_poll (record c { current = current })) known
    ≡ state_at_token (items_of c.layout) (link_of_pair (record c { current = current }) known)
opens_at c known None even = opens_if c known (due_where (items_of c.layout) c.halted c.reports) even
opens_at c known (Some r) even = refl

pub opens : (c : CoreState) (known : ReadyHostState) → TogglesAgree c.toggle known.pipe.expects c.current
    → link_of_pair (core_at_poll c) known ≡ state_at_token (items_of c.layout) (link_of_pair c known)
opens c known even = opens_at c known c.current even

-- what its host has of the open round of a device
abbrev pub got_by : CoreState → ReadyHostState → List ℕ
got_by c known = partial_report_of c.layout c.reports.fixed (link_of_pair c known).current

-- of a round that opens it has nothing
got_if : (c : CoreState) (known : ReadyHostState) (due : Option ℕ) → c.toggle ≡ known.pipe.expects
    → known.collected ≡ []
    → known.collected ≡ got_by (core_with_due_round (record c { current = None }) due) known
got_if c known None even none = none
got_if c known (Some r) even none =
    let there = core_with_due_round (record c { current = None }) (Some r) in
    subst (λ (b : Bool). known.collected
    ≡ crossed_bytes (part_bytes c.layout r there.reports.fixed) (round_at c r 0 b))
    (sym (ap (λ (t : Bool). beq c.toggle t) (sym even) ∙ beq_same c.toggle)) none

got_at : (c : CoreState) (known : ReadyHostState) (current : Option ℕ)
    → TogglesAgree c.toggle known.pipe.expects current
    → known.collected ≡ got_by (record c { current = current }) known
    → known.collected ≡ got_by (core_at_poll (record c { current = current })) known
got_at c known None even got = got_if c known (due_where (items_of c.layout) c.halted c.reports) even got
got_at c known (Some r) even got = got

pub got_open : (c : CoreState) (known : ReadyHostState) → TogglesAgree c.toggle known.pipe.expects c.current
    → known.collected ≡ got_by c known → known.collected ≡ got_by (core_at_poll c) known
got_open c known even got = got_at c known c.current even got

-- toggles, and one that changes
other_differs : (t e : Bool) → beq t e ≡ true → beq t (not e) ≡ false
other_differs true true h = refl
other_differs false false h = refl
other_differs true false h = absurd (cc)
other_differs false true h = absurd (cc)

both_change : (t e : Bool) → beq t e ≡ true → not t ≡ not e
both_change true true h = refl
both_change false false h = refl
both_change true false h = absurd (cc)
both_change false true h = absurd (cc)

both_same : (t e : Bool) → beq t e ≡ true → beq (not t) (not e) ≡ true
both_same true true h = refl
both_same false false h = refl
both_same true false h = absurd (cc)
both_same false true h = absurd (cc)

one_changes : (t e : Bool) → beq t e ≡ false → not t ≡ e
one_changes true false h = refl
one_changes false true h = refl
one_changes true true h = absurd (cc)
one_changes false false h = absurd (cc)

one_same : (t e : Bool) → beq t e ≡ false → beq (not t) e ≡ true
one_same true false h = refl
one_same false true h = refl
one_same true true h = absurd (cc)
one_same false false h = absurd (cc)

and_true : (b : Bool) → b && true ≡ b
and_true true = refl
and_true false = refl

and_false : (b : Bool) → b && false ≡ false
and_false true = refl
and_false false = refl

-- a device that isn't halted
abbrev pub going : CoreState → Option ℕ → CoreState
going c current = record c { current = current; halted = false }

-- the bytes of the part that was fixed
abbrev pub bytes_of : CoreState → ℕ → List ℕ
bytes_of c r = part_bytes c.layout r c.reports.fixed

-- what holds of a device and its host beside their toggles
pub record Meets (addr : ℕ) (c : CoreState) (known : ReadyHostState) : Type 0 where
  pub configured : c.is_configured ≡ true
  pub to_device : known.pipe.addr ≡ addr
  pub endp : known.pipe.endp ≡ ENDPOINT
  pub sound : IsSound c
  pub laid : IsLayout c.layout
  pub fits : FitsView (items_of c.layout) known.view

-- the two ends with the host's layout that of the device
abbrev pub sharing : CoreState → ReadyHostState → ReadyHostState
sharing c known = record known { layout = c.layout }

-- a host without a clear that is pending
abbrev pub unpending : HostDeviceState → HostDeviceState
unpending home = record { addr = home.addr; phase = home.phase; transfer = home.transfer; clearing = false }

-- a poll whose token arrived, from the device's answer on
pub record Arrives (fate : Fate) (c : CoreState) (known : ReadyHostState) (d : DeviceState) (home : HostDeviceState)
    (packet : Packet)
    (result : Result Told StackFault) (device_then : DeviceState) (host_then : HostDeviceState)
    (events : List Event) : Type 0 where
  pub reply : Option Packet
  pub replied : Carries (arrives_under fate) Reply packet reply
  pub told : result
      ≡ poll_outcome (Some packet) (outcome_of (sharing c known) (reply_outcome known.pipe.expects reply))
  pub host_moved : host_then
      ≡ host_after_reply (unpending home) (sharing c known) (reply_outcome known.pipe.expects reply)
  pub delivers : events ≡ events_after (sharing c known) (reply_outcome known.pipe.expects reply)
  pub ended : Ends (arrives_under fate) (outcome_of (sharing c known) (reply_outcome known.pipe.expects reply))
      (device_after_poll d c) device_then

-- the member of a device with this inside and of its ready host, by the toggle that is held and its link state
abbrev pub ready_member : DeviceState → HostDeviceState → CoreState → Option Bool → LinkState → Member
ready_member d home c held s = record {
  addr = d.addr;
  config = c.config;
  descriptor = c.descriptor;
  layout = c.layout;
  link = s;
  endpoint = record {
    is_configured = c.is_configured;
    protocol = c.protocol;
    outputs = c.outputs;
    answer = c.answer;
    pending = c.pending;
    stage = d.control.stage;
  };
  host = states.Ready;
  transfer = home.transfer;
  clearing = false;
  held = held;
}

-- what a poll makes of the link state, once a round was opened for it
pub record Lands (fate : Fate) (of : LinkState → Member) (s : LinkState)
    (result : Result Told StackFault) (device_then : DeviceState) (host_then : HostDeviceState)
    (events : List Event) : Type 0 where
  pub member : pair_member device_then host_then ≡ of (state_after_answer (items_of (of s).layout) s fate)
  pub delivered : events ≡ poll_events (items_of (of s).layout) s fate
  pub told : result ≡ Ok (poll_result s fate (piece_shown (of s).layout s))
  pub pair : IsPair device_then host_then.clearing host_then.phase

-- the two ends after a poll, put together
abbrev pub ready_with : HostDeviceState → ReadyHostState → HostDeviceState
ready_with home known = record { addr = home.addr; phase = Ready known; transfer = home.transfer; clearing = false }

pub member_of : (d e : DeviceState) (h : HostDeviceState) (home : HostDeviceState) (known : ReadyHostState) → d ≡ e
    → h ≡ ready_with home known
    → pair_member d h ≡ pair_member e (ready_with home known)
member_of d e h home known device_is host_is =
    ap (λ (x : DeviceState). pair_member x h) device_is ∙ ap (λ (x : HostDeviceState). pair_member e x) host_is

pub pair_of : (d e : DeviceState) (h : HostDeviceState) (home : HostDeviceState) (known : ReadyHostState) → d ≡ e
    → h ≡ ready_with home known → ArePaired e known false → IsPair d h.clearing h.phase
pair_of d e h home known device_is host_is pair =
    subst (λ (x : DeviceState). IsPair x h.clearing h.phase) (sym device_is)
    (subst (λ (x : HostDeviceState). IsPair e x.clearing x.phase) (sym host_is) pair)

-- the device's wait, after its answer
abbrev pub waiting : DeviceState → CoreState → ℕ → DeviceState
waiting d c r = device_after_poll d (going c (Some r))

-- its inside once the piece at hand is closed, by whether that was the last
abbrev closed_with : CoreState → ℕ → Bool → CoreState
closed_with c r last = record (going c (Some r)) {
  toggle = not c.toggle;
  current = round_after_piece (Some r) (cond last None (Some (c.piece + 1)));
  piece = unwrap_or (cond last None (Some (c.piece + 1))) 0;
}

abbrev closed_device : DeviceState → CoreState → ℕ → Bool → DeviceState
closed_device d c r last = after_ignored_packet d (closed_with c r last) false

closed_as : (d : DeviceState) (c : CoreState) (r : ℕ) (last : Bool)
    → is_last_piece (items_of c.layout) r c.piece ≡ last
    → after_ignored_packet d (core_after_ack (going c (Some r))) false ≡ closed_device d c r last
closed_as d c r last is = ap (closed_device d c r) is

-- what holds of a device holds then
closed_sound : (c : CoreState) (r : ℕ) (last : Bool) → is_last_piece (items_of c.layout) r c.piece ≡ last → IsSound (going c (Some r)) → IsSound (closed_with c r last)
closed_sound c r true is sound = sound_closed (going c (Some r)) (not c.toggle) sound
closed_sound c r false is sound =
    sound_at_piece (going c (Some r)) (not c.toggle) (c.piece + 1) sound (more_so (pieces_of (items_of c.layout) r) (pieces_of (items_of c.layout) r) (c.piece + 1) refl is)

-- an ACK that arrives closes the piece
ack_closes : (arrivals : Arrivals) (d : DeviceState) (c : CoreState) (r : ℕ) (last : Bool) (after : DeviceState)
    → arrivals Acknowledgement (encoding packets.Ack) ≡ Some (encoding packets.Ack)
    → is_last_piece (items_of c.layout) r c.piece ≡ last → ReceivesAck arrivals (waiting d c r) after
    → after ≡ closed_device d c r last
ack_closes arrivals d c r last after whole is h =
    let came = read_whole arrivals Acknowledgement packets.Ack h.came whole h.carried in
    let receives : Receives (waiting d c r) (Some packets.Ack) h.answer after =
    subst (λ (o : Option Packet). Receives (waiting d c r) o h.answer after) came h.receives in
    receives.1 ∙ closed_as d c r last is

-- one that is lost leaves it
ack_lost : (arrivals : Arrivals) (d : DeviceState) (c : CoreState) (r : ℕ) (after : DeviceState)
    → arrivals Acknowledgement (encoding packets.Ack) ≡ None → ReceivesAck arrivals (waiting d c r) after
    → after ≡ waiting d c r
ack_lost arrivals d c r after lost h =
    let came = read_lost arrivals Acknowledgement packets.Ack h.came lost h.carried in
    let receives : Receives (waiting d c r) None h.answer after =
    subst (λ (o : Option Packet). Receives (waiting d c r) o h.answer after) came h.receives in
    receives.1

-- the host after fresh data
fresh_host : (known : ReadyHostState) (home : HostDeviceState) (r : ℕ) (parts : List ControlState) (bytes : List ℕ)
    (piece : ℕ)
    (last : Bool) → TakesPiece known r parts bytes piece last
    → host_after_reply (unpending home) known (Fresh (payload (piece_of bytes piece)))
    ≡ ready_with home (taking known r parts bytes piece last)
fresh_host known home r parts bytes piece last takes = ap (ready_with home) takes.behind

taken_fits : (addr : ℕ) (c : CoreState) (known : ReadyHostState) (r : ℕ) (last : Bool)
    → Meets addr (going c (Some r)) known
    → FitsView (items_of c.layout)
    (cond last (view_after_part (items_of c.layout) r known.view c.reports.fixed) known.view)
taken_fits addr c known r true meets =
    seen_is_view (items_of c.layout) r known.view c.reports.fixed meets.fits meets.sound.fixed
taken_fits addr c known r false meets = meets.fits

-- the link state of a device with an open round, by whether its piece at hand is awaited
abbrev link_with : CoreState → Option OpenRound → Bool → List ControlState → LinkState
link_with c current odd view =
    record { reports = c.reports; current = current; toggle = odd; view = view; halted = false }

abbrev pub open_link : CoreState → ReadyHostState → ℕ → Bool → LinkState
open_link c known r awaits = link_with c (Some (round_at c r c.piece awaits)) c.toggle known.view

-- the part that a view sees, where it sees it
abbrev seen_if : CoreState → ReadyHostState → ℕ → Bool → List ControlState
seen_if c known r sees = cond sees (view_after_part (items_of c.layout) r known.view c.reports.fixed) known.view

-- the link state after a poll of which nothing is lost, by whether the piece is the last one
abbrev clean_link : CoreState → ReadyHostState → ℕ → Bool → Bool → LinkState
clean_link c known r awaits last =
    link_with c (cond last None (Some (round_at c r (c.piece + 1) true))) (not c.toggle)
    (seen_if c known r (last && not (not awaits)))

clean_as : (c : CoreState) (known : ReadyHostState) (r : ℕ) (awaits last : Bool) (d : DeviceState)
    (home : HostDeviceState) → is_last_piece (items_of c.layout) r c.piece ≡ last
    → ready_member d home c None (clean_link c known r awaits last)
    ≡ ready_member d home c None (state_after_answer (items_of c.layout) (open_link c known r awaits) Clean)
clean_as c known r awaits last d home is =
    ap (λ (b : Bool). ready_member d home c None (clean_link c known r awaits b)) (sym is)

-- the link state after a poll whose ACK is lost, by whether the piece is the last one
abbrev lost_link : CoreState → ReadyHostState → ℕ → Bool → Bool → LinkState
lost_link c known r awaits last =
    link_with c (Some (round_at c r c.piece false)) c.toggle (seen_if c known r (last && not (not awaits)))

lost_as : (c : CoreState) (known : ReadyHostState) (r : ℕ) (awaits last : Bool) (d : DeviceState)
    (home : HostDeviceState) → is_last_piece (items_of c.layout) r c.piece ≡ last
    → ready_member d home c None (lost_link c known r awaits last)
    ≡ ready_member d home c None (state_after_answer (items_of c.layout) (open_link c known r awaits) AckLost)
lost_as c known r awaits last d home is =
    ap (λ (b : Bool). ready_member d home c None (lost_link c known r awaits b)) (sym is)

-- what either tells
abbrev part_if : CoreState → ReadyHostState → ℕ → Bool → List Event
part_if c known r tells = cond tells (part_events (items_of c.layout) r known.view c.reports.fixed) []

fresh_delivers : (c : CoreState) (known : ReadyHostState) (r : ℕ) (last : Bool)
    → is_last_piece (items_of c.layout) r c.piece ≡ last
    → part_if c known r last ≡ part_if c known r (is_last_piece (items_of c.layout) r c.piece && true)
fresh_delivers c known r last is = ap (part_if c known r) (sym (and_true last) ∙ ap (λ (b : Bool). b && true) (sym is))

again_delivers : (c : CoreState) (known : ReadyHostState) (r : ℕ) (last : Bool)
    → [] ≡ part_if c known r (last && false)
again_delivers c known r last = ap (part_if c known r) (sym (and_false last))

-- data that reach a host which awaits them
pub record IsTaken (d : DeviceState) (home : HostDeviceState) (c : CoreState) (known : ReadyHostState) (r : ℕ)
    (last : Bool)
    (result : Result Told StackFault) (host_then : HostDeviceState) (events : List Event) : Type 0 where
  meets : Meets d.addr (going c (Some r)) known
  is : is_last_piece (items_of c.layout) r c.piece ≡ last
  same : beq c.toggle known.pipe.expects ≡ true
  told : result
      ≡ Ok (Polled (encoded_packet (Some (packets.Data c.toggle (payload (piece_of (bytes_of c r) c.piece)))))
      (Fresh (payload (piece_of (bytes_of c r) c.piece))))
  moved : host_then ≡ ready_with home (taking (sharing c known) r c.reports.fixed (bytes_of c r) c.piece last)
  delivers : events ≡ part_if c known r last

-- where the ACK arrives
pub fresh_clean : (d : DeviceState) (home : HostDeviceState) (c : CoreState) (known : ReadyHostState) (r : ℕ)
    (last : Bool) (result : Result Told StackFault) (device_then : DeviceState) (host_then : HostDeviceState)
    (events : List Event)
    → IsTaken d home c known r last result host_then events
    → ReceivesAck (arrives_under Clean) (waiting d c r) device_then
    → Lands Clean (ready_member d home c None) (open_link c known r true) result device_then host_then events
fresh_clean d home c known r true result device_then host_then events t hears =
    let closes = ack_closes (arrives_under Clean) d c r true device_then refl t.is hears in
    let knows = taking (sharing c known) r c.reports.fixed (bytes_of c r) c.piece true in
    record {
      member = member_of device_then (closed_device d c r true) host_then home knows closes t.moved ∙ clean_as c known r true true d home t.is;
      delivered = t.delivers ∙ fresh_delivers c known r true t.is;
      told = t.told;
      pair = pair_of device_then (closed_device d c r true) host_then home knows closes t.moved (record {
        configured = t.meets.configured;
        layout = refl;
        addr = t.meets.to_device;
        endp = t.meets.endp;
        even = both_change c.toggle known.pipe.expects t.same;
        got = refl;
        sound = closed_sound c r true t.is t.meets.sound;
        laid = t.meets.laid;
        fits = taken_fits d.addr c known r true t.meets;
      });
    }
fresh_clean d home c known r false result device_then host_then events t hears =
    let closes = ack_closes (arrives_under Clean) d c r false device_then refl t.is hears in
    let knows = taking (sharing c known) r c.reports.fixed (bytes_of c r) c.piece false in
    let next = both_same c.toggle known.pipe.expects t.same in
    record {
      member = member_of device_then (closed_device d c r false) host_then home knows closes t.moved
          ∙ ap (λ (b : Bool). ready_member d home c None
          (link_with c (Some (round_at c r (c.piece + 1) b)) (not c.toggle) known.view)) next
          ∙ clean_as c known r true false d home t.is;
      delivered = t.delivers ∙ fresh_delivers c known r false t.is;
      told = t.told;
      pair = pair_of device_then (closed_device d c r false) host_then home knows closes t.moved (record {
        configured = t.meets.configured;
        layout = refl;
        addr = t.meets.to_device;
        endp = t.meets.endp;
        even = tt;
        got = subst
            (λ (b : Bool). up_to (bytes_of c r) c.piece ≡ crossed_bytes (bytes_of c r) (round_at c r (c.piece + 1) b))
            (sym next) refl;
        sound = closed_sound c r false t.is t.meets.sound;
        laid = t.meets.laid;
        fits = taken_fits d.addr c known r false t.meets;
      });
    }

-- where it is lost
pub fresh_ack_lost : (d : DeviceState) (home : HostDeviceState) (c : CoreState) (known : ReadyHostState) (r : ℕ)
    (last : Bool) (result : Result Told StackFault) (device_then : DeviceState) (host_then : HostDeviceState)
    (events : List Event)
    → IsTaken d home c known r last result host_then events
    → ReceivesAck (arrives_under AckLost) (waiting d c r) device_then
    → Lands AckLost (ready_member d home c None) (open_link c known r true) result device_then host_then events
fresh_ack_lost d home c known r last result device_then host_then events t hears =
    let stays = ack_lost (arrives_under AckLost) d c r device_then refl hears in
    let knows = taking (sharing c known) r c.reports.fixed (bytes_of c r) c.piece last in
    let crossed = other_differs c.toggle known.pipe.expects t.same in
    record {
      member = member_of device_then (waiting d c r) host_then home knows stays t.moved
          ∙ ap (λ (b : Bool). ready_member d home c None
          (link_with c (Some (round_at c r c.piece b)) c.toggle (seen_if c known r last))) crossed
          ∙ ap (λ (b : Bool). ready_member d home c None
          (link_with c (Some (round_at c r c.piece false)) c.toggle (seen_if c known r b))) (sym (and_true last))
          ∙ lost_as c known r true last d home t.is;
      delivered = t.delivers ∙ fresh_delivers c known r last t.is;
      told = t.told;
      pair = pair_of device_then (waiting d c r) host_then home knows stays t.moved (record {
        configured = t.meets.configured;
        layout = refl;
        addr = t.meets.to_device;
        endp = t.meets.endp;
        even = tt;
        got = subst
            (λ (b : Bool). cond last [] (up_to (bytes_of c r) c.piece)
            ≡ crossed_bytes (bytes_of c r) (round_at c r c.piece b)) (sym crossed)
            (ap (λ (b : Bool). cond b [] (up_to (bytes_of c r) c.piece)) (sym t.is));
        sound = t.meets.sound;
        laid = t.meets.laid;
        fits = taken_fits d.addr c known r last t.meets;
      });
    }

-- data that a host took before
pub record IsRepeated (d : DeviceState) (home : HostDeviceState) (c : CoreState) (known : ReadyHostState) (r : ℕ)
    (last : Bool)
    (result : Result Told StackFault) (host_then : HostDeviceState) (events : List Event) : Type 0 where
  meets : Meets d.addr (going c (Some r)) known
  is : is_last_piece (items_of c.layout) r c.piece ≡ last
  differ : beq c.toggle known.pipe.expects ≡ false
  got : known.collected ≡ cond last [] (up_to (bytes_of c r) c.piece)
  told : result
      ≡ Ok (Polled (encoded_packet (Some (packets.Data c.toggle (payload (piece_of (bytes_of c r) c.piece))))) Again)
  moved : host_then ≡ ready_with home (sharing c known)
  delivers : events ≡ []

-- where the ACK arrives
pub again_clean : (d : DeviceState) (home : HostDeviceState) (c : CoreState) (known : ReadyHostState) (r : ℕ)
    (last : Bool) (result : Result Told StackFault) (device_then : DeviceState) (host_then : HostDeviceState)
    (events : List Event)
    → IsRepeated d home c known r last result host_then events
    → ReceivesAck (arrives_under Clean) (waiting d c r) device_then
    → Lands Clean (ready_member d home c None) (open_link c known r false) result device_then host_then events
again_clean d home c known r true result device_then host_then events t hears =
    let closes = ack_closes (arrives_under Clean) d c r true device_then refl t.is hears in
    record {
      member = member_of device_then (closed_device d c r true) host_then home (sharing c known) closes t.moved ∙ clean_as c known r false true d home t.is;
      delivered = t.delivers ∙ again_delivers c known r (is_last_piece (items_of c.layout) r c.piece);
      told = t.told;
      pair = pair_of device_then (closed_device d c r true) host_then home (sharing c known) closes t.moved (record {
        configured = t.meets.configured;
        layout = refl;
        addr = t.meets.to_device;
        endp = t.meets.endp;
        even = one_changes c.toggle known.pipe.expects t.differ;
        got = t.got;
        sound = closed_sound c r true t.is t.meets.sound;
        laid = t.meets.laid;
        fits = t.meets.fits;
      });
    }
again_clean d home c known r false result device_then host_then events t hears =
    let closes = ack_closes (arrives_under Clean) d c r false device_then refl t.is hears in
    let next = one_same c.toggle known.pipe.expects t.differ in
    record {
      member = member_of device_then (closed_device d c r false) host_then home (sharing c known) closes t.moved
          ∙ ap (λ (b : Bool). ready_member d home c None
          (link_with c (Some (round_at c r (c.piece + 1) b)) (not c.toggle) known.view)) next
          ∙ clean_as c known r false false d home t.is;
      delivered = t.delivers ∙ again_delivers c known r (is_last_piece (items_of c.layout) r c.piece);
      told = t.told;
      pair = pair_of device_then (closed_device d c r false) host_then home (sharing c known) closes t.moved (record {
        configured = t.meets.configured;
        layout = refl;
        addr = t.meets.to_device;
        endp = t.meets.endp;
        even = tt;
        got = subst (λ (b : Bool). known.collected ≡ crossed_bytes (bytes_of c r) (round_at c r (c.piece + 1) b))
            (sym next) t.got;
        sound = closed_sound c r false t.is t.meets.sound;
        laid = t.meets.laid;
        fits = t.meets.fits;
      });
    }

-- a repeated packet whose ACK is lost
pub again_ack_lost : (d : DeviceState) (home : HostDeviceState) (c : CoreState) (known : ReadyHostState) (r : ℕ)
    (last : Bool) (result : Result Told StackFault) (device_then : DeviceState) (host_then : HostDeviceState)
    (events : List Event)
    → IsRepeated d home c known r last result host_then events
    → ReceivesAck (arrives_under AckLost) (waiting d c r) device_then
    → Lands AckLost (ready_member d home c None) (open_link c known r false) result device_then host_then events
again_ack_lost d home c known r last result device_then host_then events t hears =
    let stays = ack_lost (arrives_under AckLost) d c r device_then refl hears in
    let here = is_last_piece (items_of c.layout) r c.piece in
    record {
      member = member_of device_then (waiting d c r) host_then home (sharing c known) stays t.moved
          ∙ ap (λ (b : Bool). ready_member d home c None
          (link_with c (Some (round_at c r c.piece b)) c.toggle known.view)) t.differ
          ∙ ap (λ (b : Bool). ready_member d home c None
          (link_with c (Some (round_at c r c.piece false)) c.toggle (seen_if c known r b))) (sym (and_false here));
      delivered = t.delivers ∙ again_delivers c known r here;
      told = t.told;
      pair = pair_of device_then (waiting d c r) host_then home (sharing c known) stays t.moved (record {
        configured = t.meets.configured;
        layout = refl;
        addr = t.meets.to_device;
        endp = t.meets.endp;
        even = tt;
        got = subst (λ (b : Bool). known.collected ≡ crossed_bytes (bytes_of c r) (round_at c r c.piece b))
            (sym t.differ)
            (t.got ∙ ap (λ (b : Bool). cond b [] (up_to (bytes_of c r) c.piece)) (sym t.is));
        sound = t.meets.sound;
        laid = t.meets.laid;
        fits = t.meets.fits;
      });
    }

-- what is armed
abbrev pub armed_at : CoreState → Option ℕ → Option (List ℕ)
armed_at c current = piece_armed c.layout c.reports.fixed current c.piece

-- the host has the pieces that crossed
abbrev pub HasGot : CoreState → Option ℕ → ReadyHostState → Type 0
HasGot c current known = known.collected ≡ got_by (going c current) known

-- where nothing is taken and no piece closes, the link state stays
stays : (c : CoreState) (known : ReadyHostState) (d : DeviceState) (home : HostDeviceState) (current : Option ℕ)
    (result : Result Told StackFault) (device_then : DeviceState) (host_then : HostDeviceState) (events : List Event)
    → TogglesAgree c.toggle known.pipe.expects current → HasGot c current known → Meets d.addr (going c current) known
    → result ≡ Ok (Polled (encoded_packet (Some (answer_with false c.toggle (armed_at c current)))) Silent)
    → device_then ≡ device_after_poll d (going c current) → host_then ≡ ready_with home (sharing c known)
    → events ≡ []
    → Lands ReplyLost (ready_member d home c None)
    (link_of_pair (going c current) known) result device_then host_then events
stays c known d home None result device_then host_then events even got meets told device_is host_is none = record {
  member = member_of device_then (device_after_poll d (going c None)) host_then home
      (sharing c known) device_is host_is;
  delivered = none;
  told = told;
  pair = pair_of device_then (device_after_poll d (going c None)) host_then home (sharing c known) device_is host_is
      (record {
        configured = meets.configured;
        layout = refl;
        addr = meets.to_device;
        endp = meets.endp;
        even = even;
        got = got;
        sound = meets.sound;
        laid = meets.laid;
        fits = meets.fits;
      });
}
stays c known d home (Some r) result device_then host_then events even got meets told device_is host_is none = record {
  member = member_of device_then (waiting d c r) host_then home (sharing c known) device_is host_is;
  delivered = none;
  told = told;
  pair = pair_of device_then (waiting d c r) host_then home (sharing c known) device_is host_is (record {
    configured = meets.configured;
    layout = refl;
    addr = meets.to_device;
    endp = meets.endp;
    even = tt;
    got = got;
    sound = meets.sound;
    laid = meets.laid;
    fits = meets.fits;
  });
}

-- a reply that is lost
pub reply_lost : (c : CoreState) (known : ReadyHostState) (d : DeviceState) (home : HostDeviceState)
    (current : Option ℕ) (packet : Packet)
    (result : Result Told StackFault) (device_then : DeviceState) (host_then : HostDeviceState) (events : List Event)
    → TogglesAgree c.toggle known.pipe.expects current → HasGot c current known → Meets d.addr (going c current) known
    → packet ≡ answer_with false c.toggle (armed_at c current)
    → Arrives ReplyLost (going c current) known d home packet result device_then host_then events
    → Lands ReplyLost (ready_member d home c None)
    (link_of_pair (going c current) known) result device_then host_then events
reply_lost c known d home current packet result device_then host_then events even got meets packet_is t =
    let shared = sharing (going c current) known in
    let lost = read_lost (arrives_under ReplyLost) Reply packet t.reply refl t.replied in
    let took : reply_outcome known.pipe.expects t.reply ≡ Silent = ap (reply_outcome known.pipe.expects) lost in
    let host_is : host_then ≡ ready_with home (sharing c known) =
    t.host_moved ∙ ap (host_after_reply (unpending home) shared) took in
    let told : result ≡ Ok (Polled (encoded_packet (Some (answer_with false c.toggle (armed_at c current)))) Silent)
    = t.told ∙ ap (λ (x : Took). poll_outcome (Some packet) (outcome_of shared x)) took
    ∙ ap (λ (x : Packet). Ok (Polled (encoded_packet (Some x)) Silent)) packet_is in
    let device_is : device_then ≡ device_after_poll d (going c current)
    = subst (λ (x : Took). Ends (arrives_under ReplyLost) (outcome_of shared x)
    (device_after_poll d (going c current)) device_then) took t.ended in
    stays c known d home current result device_then host_then events even got meets told device_is host_is
    (t.delivers ∙ ap (events_after shared) took)

-- what a poll whose answer reaches the host comes to, by what the host takes
pub record Comes (fate : Fate) (c : CoreState) (known : ReadyHostState) (d : DeviceState) (home : HostDeviceState)
    (packet : Packet) (took : Took)
    (result : Result Told StackFault) (device_then : DeviceState) (host_then : HostDeviceState)
    (events : List Event) : Type 0 where
  pub told : result ≡ poll_outcome (Some packet) (outcome_of (sharing c known) took)
  pub host_moved : host_then ≡ host_after_reply (unpending home) (sharing c known) took
  pub delivers : events ≡ events_after (sharing c known) took
  pub ended : Ends (arrives_under fate) (outcome_of (sharing c known) took) (device_after_poll d c) device_then

-- an answer that reaches the host is taken by its row
pub comes : (fate : Fate) (c : CoreState) (known : ReadyHostState) (d : DeviceState) (home : HostDeviceState)
    (armed : Option (List ℕ)) (packet : Packet)
    (result : Result Told StackFault) (device_then : DeviceState) (host_then : HostDeviceState) (events : List Event)
    → ((bytes : List ℕ) → arrives_under fate Reply bytes ≡ Some bytes) → packet ≡ answer_with c.halted c.toggle armed
    → Arrives fate c known d home packet result device_then host_then events
    → Comes fate c known d home (answer_with c.halted c.toggle armed)
    (outcome_when_received known.pipe.expects c.halted c.toggle armed) result device_then host_then events
comes fate c known d home armed packet result device_then host_then events whole packet_is t =
    let shared = sharing c known in
    let came = read_whole (arrives_under fate) Reply packet t.reply (whole (encoding packet)) t.replied in
    let took : reply_outcome known.pipe.expects t.reply
    ≡ outcome_when_received known.pipe.expects c.halted c.toggle armed
    = ap (reply_outcome known.pipe.expects) (came ∙ ap (λ (x : Packet). Some x) packet_is)
    ∙ took_answer known.pipe.expects c.halted c.toggle armed in
    record {
      told = t.told ∙ ap (λ (x : Took). poll_outcome (Some packet) (outcome_of shared x)) took
          ∙ ap (λ (x : Packet). poll_outcome (Some x)
          (outcome_of shared (outcome_when_received known.pipe.expects c.halted c.toggle armed))) packet_is;
      host_moved = t.host_moved ∙ ap (host_after_reply (unpending home) shared) took;
      delivers = t.delivers ∙ ap (events_after shared) took;
      ended = subst
          (λ (x : Took). Ends (arrives_under fate) (outcome_of shared x)
          (device_after_poll d c) device_then) took t.ended;
    }

-- an answer that the host takes is taken as any that equals it
comes_as : (fate : Fate) (c : CoreState) (known : ReadyHostState) (d : DeviceState) (home : HostDeviceState)
    (packet : Packet) (took other : Took)
    (result : Result Told StackFault) (device_then : DeviceState) (host_then : HostDeviceState) (events : List Event)
    → took ≡ other → Comes fate c known d home packet took result device_then host_then events
    → Comes fate c known d home packet other result device_then host_then events
comes_as fate c known d home packet took other result device_then host_then events is t =
    subst (λ (x : Took). Comes fate c known d home packet x result device_then host_then events) is t

-- a poll at which no round is open and none opens
pub nak : (fate : Fate) (c : CoreState) (known : ReadyHostState) (d : DeviceState) (home : HostDeviceState)
    (result : Result Told StackFault) (device_then : DeviceState) (host_then : HostDeviceState) (events : List Event)
    → TogglesAgree c.toggle known.pipe.expects None → HasGot c None known → Meets d.addr (going c None) known
    → Comes fate (going c None) known d home packets.Nak Nak result device_then host_then events
    → (pair_member device_then host_then ≡ ready_member d home c None (link_of_pair (going c None) known))
    × (events ≡ []) × (result ≡ Ok (Polled (encoded_packet (Some packets.Nak)) Nak))
    × IsPair device_then host_then.clearing host_then.phase
nak fate c known d home result device_then host_then events even got meets t = (
  member_of device_then (device_after_poll d (going c None)) host_then home (sharing c known) t.ended t.host_moved,
  t.delivers,
  t.told,
  pair_of device_then (device_after_poll d (going c None)) host_then home (sharing c known) t.ended t.host_moved
      (record {
        configured = meets.configured;
        layout = refl;
        addr = meets.to_device;
        endp = meets.endp;
        even = even;
        got = got;
        sound = meets.sound;
        laid = meets.laid;
        fits = meets.fits;
      }),
)

-- the link state of an open round, by the toggles
pub opens_link : (fate : Fate) (d : DeviceState) (home : HostDeviceState) (c : CoreState) (known : ReadyHostState) (r : ℕ)
    (b : Bool)
    (result : Result Told StackFault) (device_then : DeviceState) (host_then : HostDeviceState) (events : List Event)
    → beq c.toggle known.pipe.expects ≡ b
    → Lands fate (ready_member d home c None) (open_link c known r b) result device_then host_then events
    → Lands fate (ready_member d home c None)
    (link_of_pair (going c (Some r)) known) result device_then host_then events
opens_link fate d home c known r b result device_then host_then events is lands =
    subst (λ (x : Bool). Lands fate (ready_member d home c None)
    (open_link c known r x) result device_then host_then events) (sym is) lands

-- the row of data, by the toggles
abbrev pub row : Bool → List ℕ → Took
row b bytes = cond b (Fresh (payload bytes)) Again

-- what a host has of the open round, by the toggles
got_as : (c : CoreState) (known : ReadyHostState) (r : ℕ) (b : Bool) → beq c.toggle known.pipe.expects ≡ b
    → HasGot c (Some r) known → known.collected ≡ crossed_bytes (bytes_of c r) (round_at c r c.piece b)
got_as c known r b is got =
    subst (λ (x : Bool). known.collected ≡ crossed_bytes (bytes_of c r) (round_at c r c.piece x)) is got

-- data that a host takes
pub is_taken : (fate : Fate) (d : DeviceState) (home : HostDeviceState) (c : CoreState) (known : ReadyHostState) (r : ℕ)
    (result : Result Told StackFault) (device_then : DeviceState) (host_then : HostDeviceState) (events : List Event)
    → Meets d.addr (going c (Some r)) known → HasGot c (Some r) known
    → Reads c.layout r c.reports.fixed (bytes_of c r) known.view → beq c.toggle known.pipe.expects ≡ true
    → Comes fate (going c (Some r)) known d home (packets.Data c.toggle (payload (piece_of (bytes_of c r) c.piece))) (Fresh (payload (piece_of (bytes_of c r) c.piece))) result device_then host_then events
    → IsTaken d home c known r (is_last_piece (items_of c.layout) r c.piece) result host_then events
    × Ends (arrives_under fate) (Ok (Fresh (payload (piece_of (bytes_of c r) c.piece)))) (waiting d c r) device_then
is_taken fate d home c known r result device_then host_then events meets got reads same t =
    let bytes = bytes_of c r in
    let sent = packets.Data c.toggle (payload (piece_of bytes c.piece)) in
    let last = is_last_piece (items_of c.layout) r c.piece in
    let shared = sharing c known in
    let takes : TakesPiece shared r c.reports.fixed bytes c.piece last =
    takes_piece shared r c.reports.fixed bytes c.piece last reads refl (got_as c known r true same got) in (
      record {
        meets = meets;
        is = refl;
        same = same;
        told = t.told ∙ ap (poll_outcome (Some sent)) takes.told;
        moved = t.host_moved ∙ fresh_host shared home r c.reports.fixed bytes c.piece last takes;
        delivers = t.delivers ∙ takes.events;
      },
      subst (λ (x : Result Took StackFault). Ends (arrives_under fate) x (waiting d c r) device_then) takes.told t.ended,
    )

-- data that it took before
pub is_repeated : (fate : Fate) (d : DeviceState) (home : HostDeviceState) (c : CoreState) (known : ReadyHostState)
    (r : ℕ)
    (result : Result Told StackFault) (device_then : DeviceState) (host_then : HostDeviceState) (events : List Event)
    → Meets d.addr (going c (Some r)) known → HasGot c (Some r) known → beq c.toggle known.pipe.expects ≡ false
    → Comes fate (going c (Some r)) known d home (packets.Data c.toggle (payload (piece_of (bytes_of c r) c.piece))) Again result device_then host_then events
    → IsRepeated d home c known r (is_last_piece (items_of c.layout) r c.piece) result host_then events
is_repeated fate d home c known r result device_then host_then events meets got differ t = record {
  meets = meets;
  is = refl;
  differ = differ;
  got = got_as c known r false differ got;
  told = t.told;
  moved = t.host_moved;
  delivers = t.delivers;
}

-- a poll whose answer reaches the host
abbrev pub ComesTo : Fate → DeviceState → HostDeviceState → CoreState → ReadyHostState → Option ℕ → Result Told StackFault
    → DeviceState → HostDeviceState → List Event → Type 0
ComesTo fate d home c known current result device_then host_then events =
    Comes fate (going c current) known d home (answer_with false c.toggle (armed_at c current))
    (outcome_when_received known.pipe.expects false c.toggle
    (armed_at c current)) result device_then host_then events

pub comes_row : (fate : Fate) (d : DeviceState) (home : HostDeviceState) (c : CoreState) (known : ReadyHostState) (r : ℕ)
    (b : Bool)
    (result : Result Told StackFault) (device_then : DeviceState) (host_then : HostDeviceState) (events : List Event)
    → beq c.toggle known.pipe.expects ≡ b → ComesTo fate d home c known (Some r) result device_then host_then events
    → Comes fate (going c (Some r)) known d home (packets.Data c.toggle (payload (piece_of (bytes_of c r) c.piece))) (row b (piece_of (bytes_of c r) c.piece)) result device_then host_then events
comes_row fate d home c known r b result device_then host_then events is t =
    comes_as fate (going c (Some r)) known d home (answer_with false c.toggle (armed_at c (Some r)))
    (outcome_when_received known.pipe.expects false c.toggle (armed_at c (Some r)))
    (row b (piece_of (bytes_of c r) c.piece))
    result device_then host_then events (ap (λ (x : Bool). row x (piece_of (bytes_of c r) c.piece)) is) t
