use Rattle.std.proofs.Common.{◌++◌, ◌∙◌, List, ap}
use Rattle.hid_snapshots.specs.declared.event.Event.{Event}
use Rattle.hid_any_device.specs.Replies.{device_host_events_all}
use Rattle.hid_any_device.proofs.ReplyLemmas.{events_are, events_of_host}
use Rattle.hid_any_device.proofs.replies.read_replies.Goals as goal

pub returns-clause-events : goal.returns-clause-events
returns-clause-events c =
    let ready = c.in_ok-host.ensures.ready in
    let events = c.in_ok-take_replies.ensures.events ∙ ap (λ (es : List Event). es ++ device_host_events_all c.in_ok-host.host c.args.replies.now) c.new-events.ensures.items in
    (ready.0, ready.1, events_of_host c.args.addr ready.0 c.in_ok-host.host c.args.replies.now c.take_replies.new.events.items ready.2 events, events_are c.args.addr ready.0 c.in_ok-host.host c.args.replies.now c.take_replies.new.events.items ready.2 events)
