use Rattle.std.proofs.Common.{[], refl, ap, ◌∙◌, ◌++◌, take, arith}
use Rattle.std.proofs.KnownBytes.{Appends-nil, Appends-trans, Appends-kept, Consumes-nil, Consumes-trans, Consumes-kept}
use Rattle.hid_recording.specs.CaptureRun.{capture_place}
use Rattle.hid_recording.specs.FrameActs.{given_of}
use Rattle.hid_recording.specs.declared.fault.Cause.TheVariants as causes
use Rattle.hid_recording.proofs.CaptureLemmas.{plays_nothing, plays_more, plays_as, stops_as, whole_capture, outside_capture, piece_ends}
use Rattle.hid_recording.proofs.capture_run.play_pieces.Goals.{in-Ok+in_ok-feed-in-Ok, in-Err}
use Rattle.hid_recording.proofs.capture_run.play_pieces.Goals as goal

pub loop-init : goal.loop-init
loop-init g c =
    (([], [], Consumes-nil _, Appends-nil _, plays_nothing (given_of c.args.run.now.devices.given) (capture_place c.args.run.now) c.requires.between), c.requires.accepted, refl)

pub returns-then-is_err : goal.returns-then-is_err
returns-then-is_err g c =
    let before = c.loop.invariant.0 in
    let kept = Appends-kept _ _ _ before.1 before.3 c.flush.ensures.bytes in
    outside_capture (given_of c.args.run.now.devices.given) (capture_place c.args.run.now) _ _ _ _ before.0 before.1 (capture_place c.loop.run) causes.Write c.fault.result [] before.2 kept before.4 tt c.fault.ensures

pub finish-requires : goal.finish-requires
finish-requires g c = c.loop.invariant.1

pub returns-in-Ok-eq0 : goal.returns-in-Ok-eq0
returns-in-Ok-eq0 g c =
    let before = c.loop.invariant.0 in
    let kept = Appends-kept _ _ _ before.1 before.3 c.flush.ensures.bytes in
    let given = rw c.in-Ok-eq0.is at c.read.ensures.bytes in
    whole_capture (given_of c.args.run.now.devices.given) (capture_place c.args.run.now) _ _ _ _ _ before.0 before.1 _ (capture_place c.loop.run) _ before.2 kept before.4 given.0 (rw c.in-Ok-eq0.field-0-test refl) (given.1 c.in-Ok-eq0.field-0-test (omega arith)) c.finish.ensures

pub feed-requires-clause-accepted : goal.feed-requires-clause-accepted
feed-requires-clause-accepted g c = c.loop.invariant.1

pub feed-requires-clause-between : goal.feed-requires-clause-between
feed-requires-clause-between g c = c.loop.invariant.0.4.blocks.partial

pub returns-in_err-feed-in-Ok : goal.returns-in_err-feed-in-Ok
returns-in_err-feed-in-Ok g c =
    let before = c.loop.invariant.0 in
    let kept = Appends-kept _ _ _ before.1 before.3 c.flush.ensures.bytes in
    let told = c.in_err-feed-in-Ok.ensures.told in
    piece_ends (given_of c.args.run.now.devices.given) (capture_place c.args.run.now) _ _ _ _ _ _ before.0 before.1 told.0 _ (capture_place c.loop.run) c.in_err-feed-in-Ok.field-0.0 _ _ before.2 kept before.4 c.in-Ok.ensures.bytes.0 told.1
    (stops_as (given_of c.args.run.now.devices.given) (given_of c.loop.run.devices.given) (capture_place c.loop.run) _ told.0 c.in_err-feed-in-Ok.field-0.0 (ap given_of c.loop.invariant.2) told.2) c.from_residual.ensures.1

pub returns-in-Err-2 : goal.returns-in-Err-2
returns-in-Err-2 g c =
    let before = c.loop.invariant.0 in
    let kept = Appends-kept _ _ _ before.1 before.3 c.flush.ensures.bytes in
    outside_capture (given_of c.args.run.now.devices.given) (capture_place c.args.run.now) _ _ _ _ before.0 before.1 (capture_place c.loop.run) causes.Read c.fault-in-Err-2.result [] before.2 kept before.4 tt c.fault-in-Err-2.ensures

pub loop-preserved : goal.loop-preserved
loop-preserved g c =
    let before = c.loop.invariant.0 in
    let kept = Appends-kept _ _ _ before.1 before.3 c.flush.ensures.bytes in
    elim c.match-read.branch [
      | in-Ok+in_ok-feed-in-Ok w ↦
          let told = w.in_ok-feed-in-Ok.ensures.told in rw (w.writer-is, w.run-is) (
            (
              before.0 ++ take w.in-Ok.n c.read.new.buf,
              before.1 ++ told.0,
              Consumes-trans _ _ _ _ _ before.2 w.in-Ok.ensures.bytes.0,
              Appends-trans _ _ _ _ _ kept told.1,
              plays_more (given_of c.args.run.now.devices.given) (capture_place c.args.run.now) (capture_place c.loop.run) _ before.0 _ before.1 told.0 before.4
                  (plays_as (given_of c.args.run.now.devices.given) (given_of c.loop.run.devices.given) (capture_place c.loop.run) _ _ told.0 (ap given_of c.loop.invariant.2) told.2),
            ),
            w.in_ok-feed-in-Ok.ensures.accepted,
            w.in_ok-feed-in-Ok.ensures.given ∙ c.loop.invariant.2,
          )
      | in-Err w ↦ rw (w.writer-is, w.run-is) ((before.0, before.1, Consumes-kept _ _ _ before.0 before.2 w.in-Err.ensures.bytes, kept, before.4), c.loop.invariant.1, c.loop.invariant.2)
    ]

pub returns : goal.returns
returns g c =
    let before = c.loop.invariant.0 in
    outside_capture (given_of c.args.run.now.devices.given) (capture_place c.args.run.now) _ _ _ _ before.0 before.1 (capture_place c.loop.run) causes.TooManyReads c.fault-2.result [] before.2 before.3 before.4 tt c.fault-2.ensures
