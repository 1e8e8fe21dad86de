use Rattle.std.proofs.Common.{refl, ap, Err}
use Rattle.hid_recording.proofs.LiveLemmas.{flushed, not_flushed}
use Rattle.hid_recording.proofs.live.play_live.Goals as goal

pub returns-then-is_ok : goal.returns-then-is_ok
returns-then-is_ok g c =
    flushed c.args.options c.args.descriptor.now _ _ _ _ c.play_device-end.result c.play_device-end.ensures c.flush.ensures.bytes

pub returns-in-Ok : goal.returns-in-Ok
returns-in-Ok g c =
    not_flushed c.args.options c.args.descriptor.now _ _ _ _ c.play_device-end.result _ c.play_device-end.ensures c.flush.ensures.bytes
    (rw c.in-Ok.is (ap Err c.fault_at.ensures))

pub returns-in-Err : goal.returns-in-Err
returns-in-Err g c =
    not_flushed c.args.options c.args.descriptor.now _ _ _ _ c.play_device-end.result _ c.play_device-end.ensures c.flush.ensures.bytes
    (rw c.in-Err.is refl)
