use Rattle.std.proofs.Common.{◌≡◌, ◌++◌, take}
use Rattle.hid_host.specs.Phase.{IsReady}
use Rattle.hid_any_device.specs.Replies.{device_host_after_all, device_host_events_all}
use Rattle.hid_any_device.proofs.replies.take_replies.Given as goal

-- the replies so far
abbrev pub invariant-loop-reply : goal.invariant-loop-reply
invariant-loop-reply l = record {
  now : l.host ≡ device_host_after_all l.fn.host (take l.reply-index l.replies);
  events : l.events.items ≡ l.fn.events.items ++ device_host_events_all l.fn.host (take l.reply-index l.replies);
  ready : IsReady l.host.phase;
}
