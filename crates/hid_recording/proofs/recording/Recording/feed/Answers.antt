use Rattle.std.proofs.Common.{[], ◌∷◌, ◌++◌, arith, refl, Err}
use Rattle.std.proofs.KnownBytes.{Appends-nil, Appends-trans}
use Rattle.hid_text.proofs.PieceLemmas.{behind_line, shorter_behind}
use Rattle.hid_recording.specs.Recording.{place_of}
use Rattle.hid_recording.proofs.PlaceLemmas.{advances_nothing, advances_more, takes_more, takes_last, stops_early}
use Rattle.hid_recording.proofs.recording.Recording.feed.Goals as goal

pub loop-last-init : goal.loop-last-init
loop-last-init g c = (([], [], Appends-nil _, advances_nothing (place_of c.args.self.now), refl), omega arith)

pub returns-in_err-end_line-clause-taken : goal.returns-in_err-end_line-clause-taken
returns-in_err-end_line-clause-taken g c =
    let before = c.loop-last.invariant.0 in
    let told = c.in_err-end_line.ensures.taken in
    let piece = c.in-Some.last.now ++ 10 ∷ [] in
    let fault = c.in_err-end_line.field-0.0 in (
      before.0 ++ told.0,
      Appends-trans _ _ _ before.0 told.0 before.2 told.1,
      stops_early (place_of c.args.self.now) (place_of c.end_line.new.self) c.args.bytes.now (before.1 ++ piece) _ (before.0 ++ told.0) fault _ (behind_line c.args.bytes.now before.1 c.loop-last.rest.now _ _ before.4 c.in-Some.ensures.1)
          (takes_more (place_of c.args.self.now) (place_of c.loop-last.self) (place_of c.end_line.new.self) before.1 piece before.0 told.0 (Err fault) before.3 told.2) c.from_residual.ensures.1,
    )

pub loop-last-preserved : goal.loop-last-preserved
loop-last-preserved g c =
    let before = c.loop-last.invariant.0 in
    let told = c.in_ok-end_line.ensures.taken in
    let piece = c.in-Some.last.now ++ 10 ∷ [] in (
      (
        before.0 ++ told.0,
        before.1 ++ piece,
        Appends-trans _ _ _ before.0 told.0 before.2 told.1,
        advances_more (place_of c.args.self.now) (place_of c.loop-last.self) (place_of c.end_line.new.self) before.1 piece before.0 told.0 before.3 told.2,
        behind_line c.args.bytes.now before.1 c.loop-last.rest.now _ _ before.4 c.in-Some.ensures.1,
      ),
      omega (arith, c.loop-last.invariant.1, c.in_ok-end_line.ensures.count, shorter_behind c.loop-last.rest.now _ _ c.in-Some.ensures.1),
    )

pub loop-last-smaller : goal.loop-last-smaller
loop-last-smaller g c = omega (arith, shorter_behind c.loop-last.rest.now _ _ c.in-Some.ensures.1)

pub returns-clause-taken : goal.returns-clause-taken
returns-clause-taken g c =
    let before = c.loop-last.invariant.0 in
    (before.0, before.2, takes_last (place_of c.args.self.now) (place_of c.loop-last.self) (place_of c.keep.new.self) c.args.bytes.now before.1 c.loop-last.rest.now before.0 c.keep.result before.4 before.3 c.keep.ensures.taken)
