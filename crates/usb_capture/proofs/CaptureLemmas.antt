-- A capture that takes bytes, by what came of the block that it keeps.
use Rattle.std.proofs.Common.{◌≡◌, ℕ, ◌+◌, true, not, List, [], length, take, refl, sym, ap, ◌∙◌, subst, Option, Some, None, Result, Ok, Err}
use Rattle.std.proofs.lemmas.Bool.{le-ltb}
use Rattle.usb_capture.specs.declared.capture.Capture.{Capture}
use Rattle.usb_capture.specs.declared.capture.Part.{Part}
use Rattle.usb_capture.specs.declared.capture.Part.TheVariants.{Begun, Whole}
use Rattle.usb_capture.specs.declared.fault.Cause.{Cause}
use Rattle.usb_capture.specs.declared.fault.CaptureFault.{CaptureFault}
use Rattle.usb_capture.specs.declared.format.Format.{Format}
use Rattle.usb_capture.specs.declared.reading.FrameHead.{FrameHead}
use Rattle.usb_capture.specs.Blocks.{Advances, with_frame}
use Rattle.usb_capture.specs.Capture.{place_of, kept_place, CaptureState, TakesBy, Takes}
use Rattle.usb_capture.specs.FrameRecord.{FrameRecord}
use Rattle.usb_capture.specs.Gathering.{block_length}
use Rattle.usb_capture.specs.Place.{Place, Taken, step, is_sound, is_begun}
use Rattle.usb_capture.specs.Step.{FrameFits}
use Rattle.usb_capture.proofs.BlockLemmas.{one_step}
use Rattle.usb_capture.proofs.ExtentLemmas.{nothing_begun}

-- ---- what holds of the block that is kept

begun_partial : (r : Result (Option ℕ) Cause) → is_begun r ≡ true → r ≡ Ok None
begun_partial (Ok None) e = refl
begun_partial (Ok (Some n)) e = absurd cc
begun_partial (Err cause) e = absurd cc

-- a block that has begun isn't whole
pub sound_partial : (format : Format) (block : List ℕ) → is_sound Begun format block ≡ true → block_length format block ≡ Ok None
sound_partial format block e = begun_partial (block_length format block) e

pub partial_sound : (part : Part) (format : Format) (block : List ℕ) → part ≡ Begun → block_length format block ≡ Ok None
    → is_sound part format block ≡ true
partial_sound part format block begun e = ap (λ (p : Part). is_sound p format block) begun ∙ ap is_begun e

pub kept_sound : (format : Format) (block : List ℕ) → block ≡ [] → is_sound Begun format block ≡ true
kept_sound format block e = ap is_begun (ap (block_length format) e ∙ nothing_begun format)

pub whole_sound : (head : Option FrameHead) (format : Format) (block : List ℕ) → FrameFits head block → is_sound (Whole head) format block ≡ true
whole_sound None format block fits = refl
whole_sound (Some head) format block fits = ap not (le-ltb (length block) (head.from + head.captured) fits)

-- ---- a call

-- what a step gave
abbrev given : ℕ → Place → Option FrameRecord → Result Taken CaptureFault
given n place frame = Ok (record { count = n; place = place; frame = frame })

pub takes_ok : (old : CaptureState) (kept : Place) (bytes : List ℕ) (n : ℕ) (place : Place) (frame : Option FrameRecord) → None ≡ old.refusal
    → kept ≡ old.place → step kept bytes ≡ given n place frame
    → Takes old bytes (Ok n) (record { place = place; frame = frame; refusal = None })
takes_ok old kept bytes n place frame e same is =
    let new : CaptureState = record { place = place; frame = frame; refusal = None } in
    subst (λ (o : Option CaptureFault). TakesBy o old bytes (Ok n) new) e (ap (λ (p : Place). step p bytes) (sym same) ∙ is, refl)

-- ---- the blocks that were taken

pub advances_by : (old begun : Capture) (bytes : List ℕ) (n : ℕ) (place : Place) (frame : Option FrameRecord) → kept_place begun ≡ place_of old
    → block_length begun.format begun.block.items ≡ Ok None → step (kept_place begun) bytes ≡ given n place frame
    → Advances (place_of old) (take n bytes) (with_frame frame []) place
advances_by old begun bytes n place frame same partial is =
    subst (λ (p : Place). Advances p (take n bytes) (with_frame frame []) place) same
    (one_step (kept_place begun) bytes (record { count = n; place = place; frame = frame }) partial is)
