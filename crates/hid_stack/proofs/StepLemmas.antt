-- A poll packet by packet, over a bus that loses packets, is a poll of the link state (USB 2.0, 8.5.4 and 8.6).
use Rattle.std.proofs.Common.{◌≡◌, ◌∙◌, ◌≤◌, ◌+◌, length, ℕ, Bool, true, false, List, [], Option, Some, None, Result, Ok, refl, ap, sym, subst, arith, eqb, cond, inl, inr}
use Rattle.std.proofs.lemmas.Bool.{cases_Bool}
use Rattle.std.specs.Prelude.{IfSome, ◌&&◌, ◌||◌}
use Rattle.std.proofs.lemmas.Bool.Decides.{nat_tests}
use Rattle.hid_layout.specs.Layout.{Contents}
use Rattle.hid_layout.specs.Controls.{items_of, max_events}
use Rattle.hid_layout.specs.Reports.{IsLayout}
use Rattle.hid_snapshots.specs.declared.event.Event.{Event}
use Rattle.hid_snapshots.specs.ControlStates.{FitsView}
use Rattle.hid_snapshots.specs.Pieces.{pieces_for}
use Rattle.hid_snapshots.proofs.PieceLemmas.{pieces_are}
use Rattle.hid_usages.proofs.CrossingLemmas.{parts_back}
use Rattle.usb_packet.specs.declared.packet.Packet.{Packet}
use Rattle.usb_packet.specs.declared.packet.Packet.TheVariants as packets
use Rattle.usb_packet.specs.PacketEncoding.{encoding}
use Rattle.usb_transact.specs.declared.bus.Phase.TheVariants.{Token, Reply}
use Rattle.usb_transact.specs.declared.host.Took.{Took}
use Rattle.usb_transact.specs.declared.host.Took.TheVariants.{Silent}
use Rattle.usb_transact.specs.declared.transaction.Fate.{Fate}
use Rattle.usb_transact.specs.declared.transaction.Fate.TheVariants.{Clean, TokenLost, ReplyLost, AckLost}
use Rattle.usb_transact.specs.Bus.{Arrivals, Replies}
use Rattle.usb_transact.specs.Device.{answer_with}
use Rattle.usb_transact.specs.Fate.{arrives_under}
use Rattle.usb_transact.specs.Host.{token_to}
use Rattle.usb_transact.specs.Replies.{reply_outcome}
use Rattle.usb_transact.proofs.TableLemmas.{read_whole, read_lost}
use Rattle.hid_requests.specs.declared.codes.TheConstants.{REPORT_ENDPOINT as ENDPOINT}
use Rattle.hid_device.specs.Inputs.{input_count}
use Rattle.hid_bus.specs.ReportState.{due_where}
use Rattle.hid_device.specs.Core.{CoreState, IsSound, IsBelow, HasNoRoundWhileHalted, SendsPart, core_with_due_round, core_at_poll, poll_response}
use Rattle.hid_device.specs.Device.{DeviceState, is_poll, device_after_poll, control_answer, device_after_other, core_of}
use Rattle.hid_bus.specs.Rounds.{Polls}
use Rattle.hid_host.specs.declared.fault.StackFault.{StackFault}
use Rattle.hid_host.specs.declared.phase.HostPhase.{HostPhase}
use Rattle.hid_host.specs.declared.phase.HostPhase.TheVariants.{Cold, Described, Parsed, Ready}
use Rattle.hid_bus.specs.declared.step.Told.{Told}
use Rattle.hid_bus.specs.declared.step.Told.TheVariants.{Polled}
use Rattle.hid_host.specs.Host.{HostDeviceState, host_after_reply}
use Rattle.hid_host.specs.Phase.{IfReady}
use Rattle.hid_stack.specs.Slot.{link_of_pair, link_of, pair_member, held_toggle, HasReceivedUnless, TogglesAgree, TogglesAgreeUnless, ArePaired, IsPair}
use Rattle.hid_host.specs.Ready.{ReadyHostState, outcome_of, events_after}
use Rattle.hid_stack.specs.Polls.{Receives, Ends, PollsOver, IsPollByPackets, encoded_packet, poll_outcome}
use Rattle.hid_bus.specs.LinkState.{LinkState, state_at_token, state_after_answer, poll_events, state_after_step, events_of_step}
use Rattle.hid_stack.specs.Laws.{PacketsMakePolls}
use Rattle.usb_control.specs.Device.{DevControlState}
use Rattle.hid_host.specs.declared.host.Transfer.{Transfer}
use Rattle.hid_stack.specs.HostInvariant.{IsConsistent, LeavesTransfers}
use Rattle.hid_stack.specs.Members.{Member, Scheduled, member_after, toggle_if_held}
use Rattle.hid_stack.specs.StepResult.{PollReturns, piece_shown, poll_result}
use Rattle.hid_stack.proofs.PieceLemmas.{Reads}
use Rattle.hid_stack.proofs.PollLemmas.{opens, got_by, got_open, HasGot, Meets, Arrives, Lands, armed_at, bytes_of, going, unpending, ready_member, sharing, ready_with, member_of, pair_of, comes, reply_lost}
use Rattle.hid_stack.proofs.PollFateLemmas.{clean, ack_lost_poll}
use Rattle.hid_stack.proofs.StallLemmas.{stalled, stall_clean, stall_ack_lost, stall_lost}

-- opening a round keeps the layout, the configuration and the toggle
pub record Keeps (c d : CoreState) : Type 0 where
  pub layout : d.layout ≡ c.layout
  pub configured : d.is_configured ≡ c.is_configured
  pub toggle : d.toggle ≡ c.toggle
  pub halted : d.halted ≡ c.halted

keeps_if : (c : CoreState) (due : Option ℕ) → Keeps c (core_with_due_round c due)
keeps_if c None = record { layout = refl; configured = refl; toggle = refl; halted = refl }
keeps_if c (Some r) = record { layout = refl; configured = refl; toggle = refl; halted = refl }

keeps_at : (c : CoreState) (current : Option ℕ)
    → Keeps (record c { current = current }) (core_at_poll (record c { current = current }))
keeps_at c None = keeps_if (record c { current = None }) (due_where (items_of c.layout) c.halted c.reports)
keeps_at c (Some r) = record { layout = refl; configured = refl; toggle = refl; halted = refl }

keeps : (c : CoreState) → Keeps c (core_at_poll c)
keeps c = keeps_at c c.current

-- opening a round keeps all that the device was made with
member_kept_if : (d : DeviceState) (home : HostDeviceState) (held : Option Bool) (c : CoreState) (due : Option ℕ)
    → ready_member d home (core_with_due_round c due) held ≡ ready_member d home c held
member_kept_if d home held c None = refl
member_kept_if d home held c (Some r) = refl

member_kept_at : (d : DeviceState) (home : HostDeviceState) (held : Option Bool) (c : CoreState) (current : Option ℕ)
    → ready_member d home (core_at_poll (record c { current = current })) held ≡ ready_member d home c held
member_kept_at d home held c None =
    member_kept_if d home held (record c { current = None }) (due_where (items_of c.layout) c.halted c.reports)
member_kept_at d home held c (Some r) = refl

member_kept : (d : DeviceState) (home : HostDeviceState) (held : Option Bool) (c : CoreState)
    → ready_member d home (core_at_poll c) held ≡ ready_member d home c held
member_kept d home held c = member_kept_at d home held c c.current

-- where no round is open then, the toggles are still the same
even_if : (c : CoreState) (expects : Bool) (due : Option ℕ) → c.toggle ≡ expects
    → TogglesAgree (core_with_due_round (record c { current = None }) due).toggle expects
    (core_with_due_round (record c { current = None }) due).current
even_if c expects None even = even
even_if c expects (Some r) even = tt

even_at : (c : CoreState) (expects : Bool) (current : Option ℕ) → TogglesAgree c.toggle expects current
    → TogglesAgree (core_at_poll (record c { current = current })).toggle expects
    (core_at_poll (record c { current = current })).current
even_at c expects None even = even_if c expects (due_where (items_of c.layout) c.halted c.reports) even
even_at c expects (Some r) even = tt

-- the token of a host polls its device
polls_it : (device : DeviceState) (known : ReadyHostState) → ArePaired device known false
    → is_poll device (token_to known.pipe) ≡ true
polls_it device known pair =
    let addr : eqb known.pipe.addr device.addr ≡ true = let same = pair.addr in grind (arith, nat_tests) in
    let endp : eqb known.pipe.endp ENDPOINT ≡ true = let same = pair.endp in grind (arith, nat_tests) in
    ap (λ (b : Bool). b && (eqb known.pipe.addr device.addr && eqb known.pipe.endp ENDPOINT)) pair.configured
    ∙ ap (λ (b : Bool). true && (b && eqb known.pipe.endp ENDPOINT)) addr
    ∙ ap (λ (b : Bool). true && (true && b)) endp

-- the bytes that a device sends in pieces show its part
reads_at : (c : CoreState) (known : ReadyHostState) → IsSound c → IsLayout c.layout
    → FitsView (items_of c.layout) known.view
    → (r : ℕ) → c.current ≡ Some r → Reads c.layout r c.reports.fixed (bytes_of c r) known.view
reads_at c known sound laid fits r is =
    let shows = subst (SendsPart c.layout c.reports.fixed) is sound.sends in
    let below = subst (λ (o : Option ℕ). IsBelow (input_count c.layout.reports) o) is sound.of_input in
    let input = sound.inputs_first.first r below in
    record {
      shown = parts_back c.layout r c.reports.fixed (bytes_of c r) known.view (record {
        laid = laid;
        input = input;
        fits = sound.fixed;
        empty_codes = sound.empty_codes;
        are_bytes = shows.are_bytes;
        encoding = shows.shows;
      }) fits;
      long = sym shows.shows.whole;
      pieces = pieces_are c.layout r laid input ∙ ap pieces_for (sym shows.shows.whole);
    }

-- what a poll comes to at the two ends
pub record PollsAs (fate : Fate) (device : DeviceState) (home : HostDeviceState) (held : Option Bool) (s : LinkState)
    (result : Result Told StackFault) (device_then : DeviceState) (host_then : HostDeviceState)
    (events : List Event) : Type 0 where
  pub member : pair_member device_then host_then
      ≡ ready_member device home (core_of device) held
      (state_after_step (items_of (core_of device).layout) s (Polls fate))
  pub delivered : events ≡ events_of_step (items_of (core_of device).layout) s (Polls fate)
  pub told : (told : Told) × (result ≡ Ok told) × PollReturns (core_of device).layout s fate told
  pub pair : IsPair device_then host_then.clearing host_then.phase

-- a token that is lost changes nothing
stays_closed : (layout : Contents) (c : CoreState) (known : ReadyHostState) (current : Option ℕ)
    → link_of_pair (record c { current = current }) known
    ≡ state_after_answer (items_of layout) (link_of_pair (record c { current = current }) known) TokenLost
stays_closed layout c known None = refl
stays_closed layout c known (Some r) = refl

tells_none : (layout : Contents) (c : CoreState) (known : ReadyHostState) (current : Option ℕ)
    → [] ≡ poll_events (items_of layout) (link_of_pair (record c { current = current }) known) TokenLost
tells_none layout c known None = refl
tells_none layout c known (Some r) = refl

token_lost : (device : DeviceState) (known : ReadyHostState) (home : HostDeviceState)
    (result : Result Told StackFault) (device_then : DeviceState) (host_then : HostDeviceState) (events : List Event)
    → ArePaired device known false → PollsOver (arrives_under TokenLost) device (unpending home) known result device_then host_then [] events
    → PollsAs TokenLost device home (held_toggle (core_of device) false (Ready known))
    (link_of_pair (core_of device) known) result device_then host_then events
token_lost device known home result device_then host_then events pair t =
    let lost = read_lost (arrives_under TokenLost) Token (token_to known.pipe) t.token refl t.polled in
    let device_after_other : Receives device None t.answer t.between =
    subst (λ (o : Option Packet). Receives device o t.answer t.between) lost t.receives in
    let none : t.reply ≡ None =
    subst (λ (o : Option Packet). Replies
    (arrives_under TokenLost) Reply o t.reply) device_after_other.0 t.replied in
    let took : reply_outcome known.pipe.expects t.reply ≡ Silent = ap (reply_outcome known.pipe.expects) none in
    let device_is : device_then ≡ device =
    subst (λ (x : Took). Ends (arrives_under TokenLost) (outcome_of known x) t.between device_then) took t.ended
    ∙ device_after_other.1 in
    let host_is : host_then ≡ ready_with home known =
    t.host_moved ∙ ap (host_after_reply (unpending home) known) took in
    record {
      member = member_of device_then device host_then home known device_is host_is
          ∙ ap (ready_member device home (core_of device) (held_toggle (core_of device) false (Ready known)))
          (stays_closed (core_of device).layout (core_of device) known (core_of device).current);
      delivered =
          t.delivers ∙ ap (events_after known) took
          ∙ tells_none (core_of device).layout (core_of device) known (core_of device).current;
      told = (
        Polled None Silent,
        t.told ∙ ap (λ (x : Took). poll_outcome t.answer (outcome_of known x)) took
            ∙ ap (λ (o : Option Packet). Ok (Polled (encoded_packet o) Silent)) device_after_other.0,
        refl,
      );
      pair = pair_of device_then device host_then home known device_is host_is pair;
    }

-- a token that arrives is answered, once a round was opened where one is due
pub record Answered (device : DeviceState) (answer : Option Packet) (between : DeviceState) : Type 0 where
  pub is : answer ≡ Some (poll_response (core_at_poll (core_of device)))
  pub stands : between ≡ device_after_poll device (core_at_poll (core_of device))
  pub sound : IsSound (core_at_poll (core_of device))

token_came : (fate : Fate) (device : DeviceState) (known : ReadyHostState) (home : HostDeviceState)
    (result : Result Told StackFault) (device_then : DeviceState) (host_then : HostDeviceState) (events : List Event)
    → ((bytes : List ℕ) → arrives_under fate Token bytes ≡ Some bytes) → ArePaired device known false
    → (t : PollsOver (arrives_under fate) device (unpending home) known result device_then host_then [] events) → Answered device t.answer t.between
token_came fate device known home result device_then host_then events whole pair t =
    let c = core_at_poll (core_of device) in
    let token = token_to known.pipe in
    let polls = polls_it device known pair in
    let came = read_whole (arrives_under fate) Token token t.token (whole (encoding token)) t.polled in
    let h : Receives device (Some token) t.answer t.between =
    subst (λ (o : Option Packet). Receives device o t.answer t.between) came t.receives in
    let answer : t.answer ≡ Some (poll_response c) =
    h.0 ∙ ap (λ (b : Bool). cond b (Some (poll_response c)) (control_answer device token)) polls in
    let stands : t.between ≡ device_after_poll device c =
    h.1 ∙ ap (λ (b : Bool). cond b (device_after_poll device c) (device_after_other device token)) polls in
    record {
      is = answer;
      stands = stands;
      sound = subst (λ (d : DeviceState). IsSound (core_of d)) stands (subst (λ (o : Option Packet). IfSome o (λ _. IsSound (core_of t.between))) answer h.2);
    }

-- from there on
arrives : (fate : Fate) (device : DeviceState) (known : ReadyHostState) (home : HostDeviceState)
    (result : Result Told StackFault) (device_then : DeviceState) (host_then : HostDeviceState) (events : List Event)
    → ArePaired device known false
    → (t : PollsOver (arrives_under fate) device (unpending home) known result device_then host_then [] events) → (a : Answered device t.answer t.between)
    → Arrives fate (core_at_poll (core_of device)) known device home
    (poll_response (core_at_poll (core_of device))) result device_then host_then events
arrives fate device known home result device_then host_then events pair t a =
    let c = core_at_poll (core_of device) in
    let layout : known.layout ≡ c.layout = pair.layout ∙ sym (keeps (core_of device)).layout in
    let shared : known ≡ sharing c known = ap (λ (l : Contents). record known { layout = l }) layout in
    let took = reply_outcome known.pipe.expects t.reply in
    record {
      reply = t.reply;
      replied = subst (λ (o : Option Packet). Replies (arrives_under fate) Reply o t.reply) a.is t.replied;
      told = t.told ∙ ap (λ (o : Option Packet). poll_outcome o (outcome_of known took)) a.is
          ∙ ap (λ (k : ReadyHostState). poll_outcome (Some (poll_response c)) (outcome_of k took)) shared;
      host_moved = t.host_moved ∙ ap (λ (k : ReadyHostState). host_after_reply (unpending home) k took) shared;
      delivers = t.delivers ∙ ap (λ (k : ReadyHostState). events_after k took) shared;
      ended = subst
          (λ (d : DeviceState). Ends (arrives_under fate) (outcome_of (sharing c known) took) d device_then) a.stands
          (subst (λ (k : ReadyHostState). Ends (arrives_under fate)
          (outcome_of k took) t.between device_then) shared t.ended);
    }

meets : (device : DeviceState) (known : ReadyHostState) → ArePaired device known false
    → IsSound (core_at_poll (core_of device)) → Meets device.addr (core_at_poll (core_of device)) known
meets device known pair sound =
    let layout : known.layout ≡ (core_at_poll (core_of device)).layout =
    pair.layout ∙ sym (keeps (core_of device)).layout in
    record {
      configured = (keeps (core_of device)).configured ∙ pair.configured;
      to_device = pair.addr;
      endp = pair.endp;
      sound = sound;
      laid = subst IsLayout layout pair.laid;
      fits = subst (λ (l : Contents). FitsView (items_of l) known.view) layout pair.fits;
    }

-- the link state from before the token
landed : (fate : Fate) (device : DeviceState) (known : ReadyHostState) (home : HostDeviceState)
    (result : Result Told StackFault) (device_then : DeviceState) (host_then : HostDeviceState) (events : List Event)
    → TogglesAgree (core_of device).toggle known.pipe.expects (core_of device).current
    → Lands fate (ready_member device home (core_at_poll (core_of device)) None)
    (link_of_pair (core_at_poll (core_of device)) known) result device_then host_then events
    → Lands fate (ready_member device home (core_of device) None)
    (state_at_token (items_of (core_of device).layout)
    (link_of_pair (core_of device) known)) result device_then host_then events
landed fate device known home result device_then host_then events even lands =
    subst (λ (s : LinkState). Lands fate
    (ready_member device home (core_of device) None) s result device_then host_then events)
    (opens (core_of device) known even)
    (subst (λ (of : LinkState → Member). Lands fate of
    (link_of_pair (core_at_poll (core_of device)) known) result device_then host_then events)
    (member_kept device home None (core_of device)) lands)

-- what is reported, by the piece at hand
abbrev TellsSome : Contents → LinkState → Fate → Result Told StackFault → Type 0
TellsSome layout s fate result =
    (told : Told) × (result ≡ Ok told) × (told ≡ poll_result s fate (piece_shown layout s))

tells_some : (layout : Contents) (s : LinkState) (fate : Fate) (result : Result Told StackFault)
    → result ≡ Ok (poll_result s fate (piece_shown layout s)) → TellsSome layout s fate result
tells_some layout s fate result is = (poll_result s fate (piece_shown layout s), is, refl)

-- ---- a poll of a device that isn't halted

-- the two ends with a round that was opened where one is due
record Going (fate : Fate) (device : DeviceState) (known : ReadyHostState) (home : HostDeviceState)
    (result : Result Told StackFault) (device_then : DeviceState) (host_then : HostDeviceState)
    (events : List Event) : Type 0 where
  even : TogglesAgree (core_of device).toggle known.pipe.expects (core_of device).current
  even_then : TogglesAgree (core_at_poll (core_of device)).toggle known.pipe.expects
      (core_at_poll (core_of device)).current
  same : core_at_poll (core_of device) ≡ going (core_at_poll (core_of device)) (core_at_poll (core_of device)).current
  got : HasGot (core_at_poll (core_of device)) (core_at_poll (core_of device)).current known
  meets : Meets device.addr (going (core_at_poll (core_of device)) (core_at_poll (core_of device)).current) known
  packet_is : poll_response (core_at_poll (core_of device))
      ≡ answer_with false (core_at_poll (core_of device)).toggle
      (armed_at (core_at_poll (core_of device)) (core_at_poll (core_of device)).current)
  arrives : Arrives fate
      (going (core_at_poll (core_of device)) (core_at_poll (core_of device)).current) known device home
      (poll_response (core_at_poll (core_of device))) result device_then host_then events
  reads : (r : ℕ) → (core_at_poll (core_of device)).current ≡ Some r
      → Reads (core_at_poll (core_of device)).layout r (core_at_poll (core_of device)).reports.fixed
      (bytes_of (core_at_poll (core_of device)) r) known.view

goes : (fate : Fate) (device : DeviceState) (known : ReadyHostState) (home : HostDeviceState)
    (result : Result Told StackFault) (device_then : DeviceState) (host_then : HostDeviceState) (events : List Event)
    → (core_of device).halted ≡ false → ArePaired device known false → (t : PollsOver (arrives_under fate) device (unpending home) known result device_then host_then [] events)
    → (a : Answered device t.answer t.between) → Going fate device known home result device_then host_then events
goes fate device known home result device_then host_then events is pair t a =
    let before = core_of device in
    let c = core_at_poll before in
    let halted : c.halted ≡ false = (keeps before).halted ∙ is in
    let same : c ≡ going c c.current = ap (λ (b : Bool). record c { halted = b }) halted in
    let even =
    subst (λ (b : Bool). TogglesAgreeUnless
    (b || false) before.toggle known.pipe.expects before.current) is pair.even in
    let got =
    subst (λ (b : Bool). HasReceivedUnless (b || false) before.layout before.reports.fixed
    (link_of_pair before known).current known.collected) is pair.got in
    let m = meets device known pair a.sound in
    record {
      even = even;
      even_then = even_at before known.pipe.expects before.current even;
      same = same;
      got = got_open before known even got ∙ ap (λ (x : CoreState). got_by x known) same;
      meets = subst (λ (x : CoreState). Meets device.addr x known) same m;
      packet_is = ap (λ (b : Bool). answer_with b c.toggle (armed_at c c.current)) halted;
      arrives =
          subst (λ (x : CoreState). Arrives fate x known device home
          (poll_response c) result device_then host_then events) same
          (arrives fate device known home result device_then host_then events pair t a);
      reads = reads_at c known a.sound m.laid m.fits;
    }

-- what it comes to
going_as : (fate : Fate) (device : DeviceState) (known : ReadyHostState) (home : HostDeviceState)
    (result : Result Told StackFault) (device_then : DeviceState) (host_then : HostDeviceState) (events : List Event)
    → (core_of device).halted ≡ false → Going fate device known home result device_then host_then events
    → Lands fate (ready_member device home (core_at_poll (core_of device)) None)
    (link_of_pair
    (going (core_at_poll (core_of device))
    (core_at_poll (core_of device)).current) known) result device_then host_then events
    → Lands fate (ready_member device home (core_of device) (held_toggle (core_of device) false (Ready known)))
    (state_at_token (items_of (core_of device).layout)
    (link_of_pair (core_of device) known)) result device_then host_then events
going_as fate device known home result device_then host_then events is g lands =
    let c = core_at_poll (core_of device) in
    let here = landed fate device known home result device_then host_then events g.even
    (subst (λ (x : CoreState). Lands fate (ready_member device home c None)
    (link_of_pair x known) result device_then host_then events) (sym g.same) lands) in
    subst (λ (held : Option Bool). Lands fate (ready_member device home (core_of device) held)
    (state_at_token (items_of (core_of device).layout)
    (link_of_pair (core_of device) known)) result device_then host_then events)
    (sym (ap (λ (b : Bool). toggle_if_held (b || false) known.pipe.expects) is)) here

polls_going : (fate : Fate) (device : DeviceState) (known : ReadyHostState) (home : HostDeviceState)
    (result : Result Told StackFault) (device_then : DeviceState) (host_then : HostDeviceState) (events : List Event)
    → (core_of device).halted ≡ false → ArePaired device known false → PollsOver (arrives_under fate) device (unpending home) known result device_then host_then [] events
    → PollsAs fate device home (held_toggle (core_of device) false (Ready known))
    (link_of_pair (core_of device) known) result device_then host_then events
polls_going TokenLost device known home result device_then host_then events is pair t = token_lost device known home result device_then host_then events pair t
polls_going ReplyLost device known home result device_then host_then events is pair t =
    let a = token_came ReplyLost device known home result device_then host_then events (λ bytes. refl) pair t in
    let c = core_at_poll (core_of device) in
    let g = goes ReplyLost device known home result device_then host_then events is pair t a in
    let lands = going_as ReplyLost device known home result device_then host_then events is g
    (reply_lost c known device home c.current
    (poll_response c) result device_then host_then events g.even_then g.got g.meets g.packet_is g.arrives) in
    record {
      member = lands.member;
      delivered = lands.delivered;
      told =
          tells_some (core_of device).layout
          (state_at_token (items_of (core_of device).layout)
          (link_of_pair (core_of device) known)) ReplyLost result lands.told;
      pair = lands.pair;
    }
polls_going Clean device known home result device_then host_then events is pair t =
    let a = token_came Clean device known home result device_then host_then events (λ bytes. refl) pair t in
    let c = core_at_poll (core_of device) in
    let g = goes Clean device known home result device_then host_then events is pair t a in
    let lands = going_as Clean device known home result device_then host_then events is g
    (clean c known device home c.current result device_then host_then events g.even_then g.got g.meets g.reads
    (comes Clean (going c c.current) known device home (armed_at c c.current)
    (poll_response c) result device_then host_then events (λ bytes. refl) g.packet_is g.arrives)) in
    record {
      member = lands.member;
      delivered = lands.delivered;
      told =
          tells_some (core_of device).layout
          (state_at_token (items_of (core_of device).layout)
          (link_of_pair (core_of device) known)) Clean result lands.told;
      pair = lands.pair;
    }
polls_going AckLost device known home result device_then host_then events is pair t =
    let a = token_came AckLost device known home result device_then host_then events (λ bytes. refl) pair t in
    let c = core_at_poll (core_of device) in
    let g = goes AckLost device known home result device_then host_then events is pair t a in
    let lands = going_as AckLost device known home result device_then host_then events is g
    (ack_lost_poll c known device home c.current result device_then host_then events g.even_then g.got g.meets g.reads
    (comes AckLost (going c c.current) known device home (armed_at c c.current)
    (poll_response c) result device_then host_then events (λ bytes. refl) g.packet_is g.arrives)) in
    record {
      member = lands.member;
      delivered = lands.delivered;
      told =
          tells_some (core_of device).layout
          (state_at_token (items_of (core_of device).layout)
          (link_of_pair (core_of device) known)) AckLost result lands.told;
      pair = lands.pair;
    }

-- ---- a poll of one that is

no_round : (current : Option ℕ) (halted : Bool) → HasNoRoundWhileHalted current halted → halted ≡ true
    → current ≡ None
no_round None halted quiet is = refl
no_round (Some r) halted quiet is = let wrong : true ≡ false = sym is ∙ quiet in absurd (cc)

is_stalled : (c : CoreState) → IsSound c → c.halted ≡ true → c ≡ stalled c
is_stalled c sound is = ap (λ (o : Option ℕ). record c { current = o }) (no_round c.current c.halted sound.quiet is) ∙ ap (λ (b : Bool). record c { current = None; halted = b }) is

-- no round is opened for it
record Stalling (fate : Fate) (device : DeviceState) (known : ReadyHostState) (home : HostDeviceState)
    (result : Result Told StackFault) (device_then : DeviceState) (host_then : HostDeviceState)
    (events : List Event) : Type 0 where
  same : core_of device ≡ stalled (core_of device)
  meets : Meets device.addr (stalled (core_of device)) known
  packet_is : poll_response (core_at_poll (core_of device)) ≡ packets.Stall
  arrives : Arrives fate (stalled (core_of device)) known device home
      (poll_response (core_at_poll (core_of device))) result device_then host_then events

stalls : (fate : Fate) (device : DeviceState) (known : ReadyHostState) (home : HostDeviceState)
    (result : Result Told StackFault) (device_then : DeviceState) (host_then : HostDeviceState) (events : List Event)
    → (core_of device).halted ≡ true → ArePaired device known false → (t : PollsOver (arrives_under fate) device (unpending home) known result device_then host_then [] events)
    → (a : Answered device t.answer t.between) → Stalling fate device known home result device_then host_then events
stalls fate device known home result device_then host_then events is pair t a =
    let c = core_at_poll (core_of device) in
    let same = is_stalled (core_of device) pair.sound is in
    let there : c ≡ stalled (core_of device) = ap core_at_poll same in
    record {
      same = same;
      meets = subst (λ (x : CoreState). Meets device.addr x known) there (meets device known pair a.sound);
      packet_is = ap poll_response there;
      arrives =
          subst (λ (x : CoreState). Arrives fate x known device home
          (poll_response c) result device_then host_then events) there
          (arrives fate device known home result device_then host_then events pair t a);
    }

-- the link state stays
stalled_as : (fate : Fate) (device : DeviceState) (known : ReadyHostState) (home : HostDeviceState)
    (result : Result Told StackFault) (device_then : DeviceState) (host_then : HostDeviceState) (events : List Event)
    → (core_of device).halted ≡ true → core_of device ≡ stalled (core_of device)
    → PollsAs fate device home (Some known.pipe.expects)
    (link_of_pair (stalled (core_of device)) known) result device_then host_then events
    → PollsAs fate device home (held_toggle (core_of device) false (Ready known))
    (link_of_pair (core_of device) known) result device_then host_then events
stalled_as fate device known home result device_then host_then events is same done =
    subst (λ (held : Option Bool). PollsAs fate device home held
    (link_of_pair (core_of device) known) result device_then host_then events)
    (sym (ap (λ (b : Bool). toggle_if_held (b || false) known.pipe.expects) is))
    (subst (λ (x : CoreState). PollsAs fate device home (Some known.pipe.expects)
    (link_of_pair x known) result device_then host_then events) (sym same) done)

polls_stalled : (fate : Fate) (device : DeviceState) (known : ReadyHostState) (home : HostDeviceState)
    (result : Result Told StackFault) (device_then : DeviceState) (host_then : HostDeviceState) (events : List Event)
    → (core_of device).halted ≡ true → ArePaired device known false → PollsOver (arrives_under fate) device (unpending home) known result device_then host_then [] events
    → PollsAs fate device home (held_toggle (core_of device) false (Ready known))
    (link_of_pair (core_of device) known) result device_then host_then events
polls_stalled TokenLost device known home result device_then host_then events is pair t = token_lost device known home result device_then host_then events pair t
polls_stalled ReplyLost device known home result device_then host_then events is pair t =
    let a = token_came ReplyLost device known home result device_then host_then events (λ bytes. refl) pair t in
    let g = stalls ReplyLost device known home result device_then host_then events is pair t a in
    let lands =
    stall_lost (core_of device) known device home
    (poll_response
    (core_at_poll (core_of device))) result device_then host_then events g.meets g.packet_is g.arrives in
    stalled_as ReplyLost device known home result device_then host_then events is g.same
    (record {
      member = lands.member;
      delivered = lands.delivered;
      told =
          tells_some (core_of device).layout
          (link_of_pair (stalled (core_of device)) known) ReplyLost result lands.told;
      pair = lands.pair;
    })
polls_stalled Clean device known home result device_then host_then events is pair t =
    let a = token_came Clean device known home result device_then host_then events (λ bytes. refl) pair t in
    let g = stalls Clean device known home result device_then host_then events is pair t a in
    let lands = stall_clean (core_of device) known device home result device_then host_then events g.meets
    (comes Clean (stalled (core_of device)) known device home (armed_at (core_of device) None)
    (poll_response (core_at_poll (core_of device))) result device_then host_then events
    (λ bytes. refl) g.packet_is g.arrives) in
    stalled_as Clean device known home result device_then host_then events is g.same
    (record {
      member = lands.member;
      delivered = lands.delivered;
      told =
          tells_some (core_of device).layout (link_of_pair (stalled (core_of device)) known) Clean result lands.told;
      pair = lands.pair;
    })
polls_stalled AckLost device known home result device_then host_then events is pair t =
    let a = token_came AckLost device known home result device_then host_then events (λ bytes. refl) pair t in
    let g = stalls AckLost device known home result device_then host_then events is pair t a in
    let lands = stall_ack_lost (core_of device) known device home result device_then host_then events g.meets
    (comes AckLost (stalled (core_of device)) known device home (armed_at (core_of device) None)
    (poll_response (core_at_poll (core_of device))) result device_then host_then events
    (λ bytes. refl) g.packet_is g.arrives) in
    stalled_as AckLost device known home result device_then host_then events is g.same
    (record {
      member = lands.member;
      delivered = lands.delivered;
      told =
          tells_some (core_of device).layout (link_of_pair (stalled (core_of device)) known) AckLost result lands.told;
      pair = lands.pair;
    })

-- of either
pub polls : (fate : Fate) (device : DeviceState) (known : ReadyHostState) (home : HostDeviceState)
    (result : Result Told StackFault) (device_then : DeviceState) (host_then : HostDeviceState) (events : List Event)
    → ArePaired device known false → PollsOver (arrives_under fate) device (unpending home) known result device_then host_then [] events
    → PollsAs fate device home (held_toggle (core_of device) false (Ready known))
    (link_of_pair (core_of device) known) result device_then host_then events
polls fate device known home result device_then host_then events pair t = elim (cases_Bool (core_of device).halted) [
  | inl is ↦ polls_stalled fate device known home result device_then host_then events is pair t
  | inr is ↦ polls_going fate device known home result device_then host_then events is pair t
]

-- a poll of a host that is ready, packet by packet
pub polls_at : (fate : Fate) (device : DeviceState) (host : HostDeviceState) (phase : HostPhase)
    (result : Result Told StackFault) (device_then : DeviceState) (host_then : HostDeviceState)
    (before events : List Event)
    → IsPair device false phase → before ≡ []
    → IsPollByPackets (arrives_under fate) device
    (unpending host) false phase result device_then host_then before events
    → PollsAs fate device host (held_toggle (core_of device) false phase)
    (link_of (core_of device) phase) result device_then host_then events
polls_at fate device host Cold result device_then host_then before events pair none t = absurd pair
polls_at fate device host (Described info) result device_then host_then before events pair none t = absurd pair
polls_at fate device host (Parsed info layout) result device_then host_then before events pair none t = absurd pair
polls_at fate device host (Ready known) result device_then host_then before events pair none t =
    polls fate device known host result device_then host_then events pair
    (subst (λ (es : List Event). PollsOver (arrives_under fate) device (unpending host) known result device_then host_then es events) none t)

-- a host without a clear that is pending
no_clear : (host : HostDeviceState) → host.clearing ≡ false → host ≡ unpending host
no_clear host free = ap (λ (b : Bool). record host { clearing = b }) free

pub polls_by : (fate : Fate) (device : DeviceState) (host : HostDeviceState) (result : Result Told StackFault)
    (device_then : DeviceState) (host_then : HostDeviceState) (before events : List Event)
    → IsPair device false host.phase → host.clearing ≡ false → before ≡ []
    → IsPollByPackets
    (arrives_under fate) device host host.clearing host.phase result device_then host_then before events
    → PollsAs fate device host (held_toggle (core_of device) false host.phase)
    (link_of (core_of device) host.phase) result device_then host_then events
polls_by fate device host result device_then host_then before events pair free none t =
    polls_at fate device host host.phase result device_then host_then before events pair none
    (subst (λ (h : HostDeviceState). IsPollByPackets
    (arrives_under fate) device h h.clearing h.phase result device_then host_then before events)
    (no_clear host free) t)

-- what is reported is what was returned
pub told_is : (layout : Contents) (s : LinkState) (fate : Fate) (result : Result Told StackFault) (told : Told)
    → result ≡ Ok told → ((other : Told) × (result ≡ Ok other) × PollReturns layout s fate other)
    → PollReturns layout s fate told
told_is layout s fate result told is (other, other_is, tells) =
    let both : Ok told ≡ Ok other = sym is ∙ other_is in
    let same : told ≡ other = cc in
    subst (PollReturns layout s fate) (sym same) tells

-- the host keeps its device's address
pub home_stays : (arrivals : Arrivals) (device : DeviceState) (host : HostDeviceState) (clearing : Bool)
    (phase : HostPhase) (result : Result Told StackFault) (device_then : DeviceState) (host_then : HostDeviceState)
    (before events : List Event)
    → IsPollByPackets arrivals device host clearing phase result device_then host_then before events
    → host_then.addr ≡ host.addr
home_stays arrivals device host true Cold result device_then host_then before events t =
    ap (λ (h : HostDeviceState). h.addr) t.host_stays
home_stays arrivals device host false Cold result device_then host_then before events t =
    ap (λ (h : HostDeviceState). h.addr) t.host_stays
home_stays arrivals device host true (Described info) result device_then host_then before events t =
    ap (λ (h : HostDeviceState). h.addr) t.host_stays
home_stays arrivals device host false (Described info) result device_then host_then before events t =
    ap (λ (h : HostDeviceState). h.addr) t.host_stays
home_stays arrivals device host true (Parsed info layout) result device_then host_then before events t =
    ap (λ (h : HostDeviceState). h.addr) t.host_stays
home_stays arrivals device host false (Parsed info layout) result device_then host_then before events t =
    ap (λ (h : HostDeviceState). h.addr) t.host_stays
home_stays arrivals device host true (Ready known) result device_then host_then before events t =
    ap (λ (h : HostDeviceState). h.addr) t.host_stays
home_stays arrivals device host false (Ready known) result device_then host_then before events t =
    ap (λ (h : HostDeviceState). h.addr) t.host_moved

-- no more is delivered than a report of the device's layout can tell
pub few_of : (device : DeviceState) (phase : HostPhase) (before events : List Event) → IsPair device false phase → before ≡ []
    → IfReady phase (λ (known : ReadyHostState). length events ≤ length before + max_events (items_of known.layout))
    → length events ≤ max_events (items_of (core_of device).layout)
few_of device Cold before events pair none few = absurd pair
few_of device (Described info) before events pair none few = absurd pair
few_of device (Parsed info layout) before events pair none few = absurd pair
few_of device (Ready known) before events pair none few =
    let same = ap (λ (l : Contents). max_events (items_of l)) pair.layout in
    let zero = ap (λ (es : List Event). length es) none in
    omega (arith, same, zero, few)

-- the member of a pair after a poll
polled_member : (fate : Fate) (device : DeviceState) (host : HostDeviceState) (phase : HostPhase)
    → IsPair device false phase
    → ready_member device host (core_of device) (held_toggle (core_of device) false phase)
    (state_after_step (items_of (core_of device).layout) (link_of (core_of device) phase) (Polls fate))
    ≡ member_after
    (pair_member device (record { addr = host.addr; phase = phase; transfer = host.transfer; clearing = false }))
    (Scheduled (Polls fate))
polled_member fate device host Cold pair = absurd pair
polled_member fate device host (Described info) pair = absurd pair
polled_member fate device host (Parsed info layout) pair = absurd pair
polled_member fate device host (Ready known) pair = refl

pub polled_to : (fate : Fate) (device : DeviceState) (host : HostDeviceState) (result : Result Told StackFault)
    (device_then : DeviceState) (host_then : HostDeviceState) (events : List Event) → IsPair device false host.phase
    → host.clearing ≡ false
    → PollsAs fate device host (held_toggle (core_of device) false host.phase)
    (link_of (core_of device) host.phase) result device_then host_then events
    → pair_member device_then host_then ≡ member_after (pair_member device host) (Scheduled (Polls fate))
polled_to fate device host result device_then host_then events pair free done =
    done.member ∙ polled_member fate device host host.phase pair
    ∙ ap (λ (h : HostDeviceState). member_after (pair_member device h) (Scheduled (Polls fate)))
    (sym (no_clear host free))

-- a poll of a pair, by its packets
pub packets_make_polls : PacketsMakePolls
packets_make_polls fate device host result device_then host_then events pair free t =
    let done = polls_by fate device host result device_then host_then [] events pair free refl t in
    record { told = done.told; after = polled_to fate device host result device_then host_then events pair free done; delivers = done.delivered; pair = done.pair }

-- ---- what a host knows after a poll

-- what a poll leaves of a device's transfers
leaves : (device device_then : DeviceState) (host host_then : HostDeviceState) (held : Option Bool) (s : LinkState)
    → pair_member device_then host_then ≡ ready_member device host (core_of device) held s
    → LeavesTransfers false device.control device_then.control
leaves device device_then host host_then held s same = record {
  layout = ap (λ (m : Member). m.layout) same;
  config = ap (λ (m : Member). m.config) same;
  descriptor = ap (λ (m : Member). m.descriptor) same;
  configured = λ h. ap (λ (m : Member). m.endpoint.is_configured) same ∙ h;
  answer = ap (λ (m : Member). m.endpoint.answer) same;
  pending = ap (λ (m : Member). m.endpoint.pending) same;
  stage = ap (λ (m : Member). m.endpoint.stage) same;
  restarts = λ h. absurd (cc);
}

-- laws of hosts that know their devices
abbrev RepliesLeave : Type 0
RepliesLeave =
    (host : HostDeviceState) (control : DevControlState CoreState) (took : Took) → IsConsistent host control
    → IfReady host.phase (λ known. IsConsistent (host_after_reply host known took) control)

abbrev OthersLeave : Type 0
OthersLeave =
    (host : HostDeviceState) (old new : DevControlState CoreState) → LeavesTransfers host.clearing old new
    → IsConsistent host old → IsConsistent host new

-- with the host's layout, pipe and view as they are then
known_then : (arrivals : Arrivals) (device device_then : DeviceState) (addr : ℕ) (transfer : Option Transfer)
    (known : ReadyHostState) (host_then : HostDeviceState) (result : Result Told StackFault)
    (before events : List Event)
    (held : Option Bool) (s : LinkState)
    → (let host : HostDeviceState =
    record { addr = addr; phase = Ready known; transfer = transfer; clearing = false } in
    RepliesLeave → OthersLeave → PollsOver arrivals device host known result device_then host_then before events
    → pair_member device_then host_then ≡ ready_member device host (core_of device) held s
    → IsConsistent host device.control → IsConsistent host_then device_then.control)
known_then arrivals device device_then addr transfer known host_then result before events held s replies others t same knows =
    let host : HostDeviceState = record { addr = addr; phase = Ready known; transfer = transfer; clearing = false } in
    let took = reply_outcome known.pipe.expects t.reply in
    let still : host_then.clearing ≡ false = ap (λ (h : HostDeviceState). h.clearing) t.host_moved in
    others host_then device.control device_then.control
    (subst (λ (b : Bool). LeavesTransfers b device.control device_then.control) (sym still) (leaves device device_then host host_then held s same))
    (subst (λ (h : HostDeviceState). IsConsistent h device.control) (sym t.host_moved)
    (replies host device.control took knows))

knows_by : (arrivals : Arrivals) (device device_then : DeviceState) (addr : ℕ) (transfer : Option Transfer)
    (phase : HostPhase) (host_then : HostDeviceState) (result : Result Told StackFault) (before events : List Event)
    (held : Option Bool) (s : LinkState)
    → RepliesLeave → OthersLeave → IsPair device false phase
    → IsPollByPackets arrivals device
    (record {
      addr = addr;
      phase = phase;
      transfer = transfer;
      clearing =
          false;
    }) false phase result device_then host_then before events
    → pair_member device_then host_then
    ≡ ready_member device (record { addr = addr; phase = phase; transfer = transfer; clearing = false })
    (core_of device) held s
    → IsConsistent (record { addr = addr; phase = phase; transfer = transfer; clearing = false }) device.control
    → IsConsistent host_then device_then.control
knows_by arrivals device device_then addr transfer Cold host_then result before events held s replies others pair t same knows = absurd pair
knows_by arrivals device device_then addr transfer (Described info) host_then result before events held s replies others pair t same knows = absurd pair
knows_by arrivals device device_then addr transfer (Parsed info layout) host_then result before events held s replies others pair t same knows = absurd pair
knows_by arrivals device device_then addr transfer (Ready known) host_then result before events held s replies others pair t same knows =
    known_then arrivals device device_then addr transfer known host_then result before events held s replies others t same knows

pub polls_know : (arrivals : Arrivals) (device device_then : DeviceState) (host host_then : HostDeviceState)
    (result : Result Told StackFault) (before events : List Event) (held : Option Bool) (s : LinkState)
    → RepliesLeave → OthersLeave → IsPair device false host.phase → host.clearing ≡ false
    → IsPollByPackets arrivals device host host.clearing host.phase result device_then host_then before events
    → pair_member device_then host_then ≡ ready_member device host (core_of device) held s
    → IsConsistent host device.control → IsConsistent host_then device_then.control
polls_know arrivals device device_then host host_then result before events held s replies others pair free t same knows =
    let is = no_clear host free in
    knows_by arrivals device device_then host.addr host.transfer host.phase host_then result before events held s replies others pair
    (subst (λ
    (h : HostDeviceState). IsPollByPackets arrivals device h h.clearing h.phase result device_then host_then before events) is t) same
    (subst (λ (h : HostDeviceState). IsConsistent h device.control) is knows)
