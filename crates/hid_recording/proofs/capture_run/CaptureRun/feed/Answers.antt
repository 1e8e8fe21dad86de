use Rattle.std.proofs.Common.{[], refl, ap, ◌∙◌, ◌++◌, take}
use Rattle.std.proofs.KnownBytes.{Appends-nil, Appends-trans}
use Rattle.hid_recording.specs.CaptureRun.{capture_place}
use Rattle.hid_recording.specs.FrameActs.{given_of}
use Rattle.hid_recording.proofs.CaptureLemmas.{plays_nothing, plays_more, plays_as, stops_as, piece_stops, piece_done, rest_smaller, rest_next}
use Rattle.hid_recording.proofs.capture_run.CaptureRun.feed.Goals as goal

pub loop-rest-init : goal.loop-rest-init
loop-rest-init g c =
    (([], [], Appends-nil _, plays_nothing (given_of c.args.self.now.devices.given) (capture_place c.args.self.now) c.requires.between, refl), c.requires.accepted, refl)

pub step-requires-clause-accepted : goal.step-requires-clause-accepted
step-requires-clause-accepted g c = c.loop-rest.invariant.1

pub step-requires-clause-between : goal.step-requires-clause-between
step-requires-clause-between g c = c.loop-rest.invariant.0.3.blocks.partial

pub returns-in_err-taken-clause-told : goal.returns-in_err-taken-clause-told
returns-in_err-taken-clause-told g c =
    let before = c.loop-rest.invariant.0 in
    let told = c.in_err-taken.ensures.told in (
      before.0 ++ told.0,
      Appends-trans _ _ _ before.0 told.0 before.2 told.1,
      piece_stops (given_of c.args.self.now.devices.given) (capture_place c.args.self.now) (capture_place c.loop-rest.self) (capture_place c.step.new.self) c.args.piece.now before.1 c.loop-rest.rest.now before.0 told.0 c.in_err-taken.field-0.0 _ before.4 before.3
          (stops_as (given_of c.args.self.now.devices.given) (given_of c.loop-rest.self.devices.given) (capture_place c.loop-rest.self) c.loop-rest.rest.now told.0 c.in_err-taken.field-0.0 (ap given_of c.loop-rest.invariant.2) told.2) c.from_residual.ensures.1,
    )

pub returns-in_err-taken-clause-given : goal.returns-in_err-taken-clause-given
returns-in_err-taken-clause-given g c = c.in_err-taken.ensures.given ∙ c.loop-rest.invariant.2

pub loop-rest-smaller : goal.loop-rest-smaller
loop-rest-smaller g c = rest_smaller c.loop-rest.rest.now c.in_ok-taken.taken c.loop-rest-test.ensures c.in_ok-taken.ensures.more c.in_ok-taken.ensures.within

pub loop-rest-preserved : goal.loop-rest-preserved
loop-rest-preserved g c =
    let before = c.loop-rest.invariant.0 in
    let told = c.in_ok-taken.ensures.told in (
      (
        before.0 ++ told.0,
        before.1 ++ take c.in_ok-taken.taken c.loop-rest.rest.now,
        Appends-trans _ _ _ before.0 told.0 before.2 told.1,
        plays_more (given_of c.args.self.now.devices.given) (capture_place c.args.self.now) (capture_place c.loop-rest.self) (capture_place c.step.new.self) before.1 (take c.in_ok-taken.taken c.loop-rest.rest.now) before.0 told.0 before.3
            (plays_as (given_of c.args.self.now.devices.given) (given_of c.loop-rest.self.devices.given) (capture_place c.loop-rest.self) (capture_place c.step.new.self) (take c.in_ok-taken.taken c.loop-rest.rest.now) told.0 (ap given_of c.loop-rest.invariant.2) told.2),
        rest_next c.args.piece.now before.1 c.loop-rest.rest.now c.in_ok-taken.taken before.4,
      ),
      c.in_ok-taken.ensures.accepted,
      c.in_ok-taken.ensures.given ∙ c.loop-rest.invariant.2,
    )

pub returns-clause-told : goal.returns-clause-told
returns-clause-told g c =
    let before = c.loop-rest.invariant.0 in
    (before.0, before.2, piece_done (given_of c.args.self.now.devices.given) (capture_place c.args.self.now) (capture_place c.loop-rest.self) c.args.piece.now before.1 c.loop-rest.rest.now before.0 before.4 c.loop-rest-test.ensures before.3)

pub returns-clause-accepted : goal.returns-clause-accepted
returns-clause-accepted g c = c.loop-rest.invariant.1

pub returns-clause-given : goal.returns-clause-given
returns-clause-given g c = c.loop-rest.invariant.2
