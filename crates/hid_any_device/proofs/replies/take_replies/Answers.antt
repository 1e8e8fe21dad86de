use Rattle.std.proofs.Common.{◌++◌, ◌∙◌, ap, Option}
use Rattle.usb_packet.specs.declared.packet.Packet.{Packet}
use Rattle.hid_any_device.specs.Replies.{device_host_after, device_host_events}
use Rattle.hid_any_device.proofs.ReplyLemmas.{host_more, events_more}
use Rattle.hid_any_device.proofs.replies.take_replies.Goals as goal

pub loop-reply-preserved : goal.loop-reply-preserved
loop-reply-preserved c =
    let is = c.as_ref.ensures.value ∙ c.reply-item.is in
    record {
      now = host_more _ _ _ _ _ _ c.loop-reply-test.true c.loop-reply.invariant.now (c.in_ok-take_reply.ensures.after ∙ ap (device_host_after c.loop-reply.host) is);
      events = events_more _ _ _ _ _ _ _ _ c.loop-reply-test.true c.loop-reply.invariant.now c.loop-reply.invariant.events
          (c.in_ok-take_reply.ensures.events ∙ ap (λ (x : Option Packet). c.loop-reply.events.items ++ device_host_events c.loop-reply.host x) is);
      ready = c.in_ok-take_reply.ensures.ready;
    }
