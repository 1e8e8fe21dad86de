-- The events of all that comes to a host of a device that keeps to the toggle protocol.
use Rattle.std.proofs.Common.{◌≡◌, ◌++◌, ℕ, ◌+◌, ◌<◌, List, [], ◌∷◌, Option, length, take, get_or, refl, ap, sym, ◌∙◌, append_assoc}
use Rattle.std.proofs.lemmas.List.{append-nil, take_more}
use Rattle.hid_layout.specs.Layout.{Contents}
use Rattle.hid_snapshots.specs.declared.event.Event.{Event}
use Rattle.usb_packet.specs.declared.packet.Packet.{Packet}
use Rattle.usb_transact.specs.Replies.{reply_outcome}
use Rattle.hid_host.specs.declared.phase.HostPhase.{HostPhase}
use Rattle.hid_host.specs.declared.phase.HostPhase.TheVariants.{Ready}
use Rattle.hid_host.specs.Host.{HostDeviceState, ready_host, host_after_reply}
use Rattle.hid_host.specs.Ready.{ReadyHostState, ready_host_at_start}
use Rattle.hid_any_device.specs.PipeSteps.{PipeStep, Queues, Polls, Clears, PipeEnds, ends_after, ends_at_start, events_of_steps, events_at_step}
use Rattle.hid_any_device.specs.Delivery.{AllClearNone}
use Rattle.hid_any_device.specs.Replies.{events_of_replies, known_after_reply, events_of_reply, device_host_after_at, device_host_after, device_host_after_all, device_host_events_at, device_host_events, device_host_events_all, replies_of_steps, AreEventsOfDevice}
use Rattle.hid_any_device.proofs.QueueLemmas.{headline}

-- the host of both ends is one to which the replies come
same_events : (ends : PipeEnds) (steps : List PipeStep) → AllClearNone steps
    → events_of_steps 64 ends steps ≡ events_of_replies ends.host (replies_of_steps ends steps)
same_events ends [] steady = refl
same_events ends (Queues report ∷ steps) steady = same_events (ends_after 64 ends (Queues report)) steps steady.1
same_events ends (Polls readiness fate ∷ steps) steady =
    ap (λ (es : List Event). events_at_step 64 ends (Polls readiness fate) ++ es)
    (same_events (ends_after 64 ends (Polls readiness fate)) steps steady.1)
same_events ends (Clears queue ∷ steps) steady = absurd steady.0

-- a ready host by what it keeps
same_host : (host : HostDeviceState) (known : ReadyHostState) (replies : List (Option Packet)) → host.phase ≡ Ready known → device_host_events_all host replies ≡ events_of_replies known replies
same_host host known [] is = refl
same_host host known (reply ∷ replies) is =
    ap (λ (phase : HostPhase). device_host_events_at phase reply ++ device_host_events_all (device_host_after_at host phase reply) replies) is
    ∙ ap (λ (es : List Event). events_of_reply known reply ++ es)
    (same_host (host_after_reply host known (reply_outcome known.pipe.expects reply))
    (known_after_reply known reply) replies refl)

-- the events of a host that was ready from the start
pub events_of_host : (addr : ℕ) (layout : Contents) (host : HostDeviceState) (replies : List (Option Packet)) (events : List Event) → host ≡ ready_host addr layout → events ≡ device_host_events_all host replies → events ≡ events_of_replies (ready_host_at_start addr 1 layout) replies
events_of_host addr layout host replies events is given =
    given ∙ same_host host (ready_host_at_start addr 1 layout) replies (ap (λ (h : HostDeviceState). h.phase) is)

-- they are those of each device that may have sent what came
pub events_are : (addr : ℕ) (layout : Contents) (host : HostDeviceState) (replies : List (Option Packet)) (events : List Event) → host ≡ ready_host addr layout → events ≡ device_host_events_all host replies → AreEventsOfDevice addr layout replies events
events_are addr layout host replies events is given steps keeps steady came =
    events_of_host addr layout host replies events is given
    ∙ sym (ap (events_of_replies (ready_host_at_start addr 1 layout)) came)
    ∙ sym (same_events (ends_at_start addr 1 layout) steps steady)
    ∙ (headline 64 addr 1 layout steps keeps).events

-- ---- one more

host_push : (host : HostDeviceState) (replies : List (Option Packet)) (reply : Option Packet) → device_host_after_all host (replies ++ reply ∷ []) ≡ device_host_after (device_host_after_all host replies) reply
host_push host [] reply = refl
host_push host (x ∷ replies) reply = host_push (device_host_after host x) replies reply

events_push : (host : HostDeviceState) (replies : List (Option Packet)) (reply : Option Packet) → device_host_events_all host (replies ++ reply ∷ []) ≡ device_host_events_all host replies ++ device_host_events (device_host_after_all host replies) reply
events_push host [] reply = append-nil (device_host_events host reply)
events_push host (x ∷ replies) reply =
    ap (λ (es : List Event). device_host_events host x ++ es) (events_push (device_host_after host x) replies reply)
    ∙ sym (append_assoc (device_host_events host x) (device_host_events_all (device_host_after host x) replies) (device_host_events (device_host_after_all (device_host_after host x) replies) reply))

pub host_more : (first mid new : HostDeviceState) (replies : List (Option Packet)) (i : ℕ) (d : Option Packet) → i < length replies → mid ≡ device_host_after_all first (take i replies) → new ≡ device_host_after mid (get_or replies i d)
    → new ≡ device_host_after_all first (take (i + 1) replies)
host_more first mid new replies i d lt before one =
    one ∙ ap (λ (h : HostDeviceState). device_host_after h (get_or replies i d)) before
    ∙ sym (ap (device_host_after_all first) (take_more replies i d lt) ∙ host_push first (take i replies) (get_or replies i d))

pub events_more : (first mid : HostDeviceState) (before old new : List Event) (replies : List (Option Packet)) (i : ℕ) (d : Option Packet) → i < length replies → mid ≡ device_host_after_all first (take i replies)
    → old ≡ before ++ device_host_events_all first (take i replies) → new ≡ old ++ device_host_events mid (get_or replies i d) → new ≡ before ++ device_host_events_all first (take (i + 1) replies)
events_more first mid before old new replies i d lt now given one =
    one ∙ ap (λ (es : List Event). es ++ device_host_events mid (get_or replies i d)) given
    ∙ ap (λ (h : HostDeviceState). (before ++ device_host_events_all first (take i replies)) ++ device_host_events h (get_or replies i d)) now
    ∙ append_assoc before (device_host_events_all first (take i replies)) (device_host_events (device_host_after_all first (take i replies)) (get_or replies i d))
    ∙ ap (λ (es : List Event). before ++ es) (sym (ap (device_host_events_all first) (take_more replies i d lt) ∙ events_push first (take i replies) (get_or replies i d)))
