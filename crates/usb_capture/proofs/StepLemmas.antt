-- A step, by what came of the block.
use Rattle.std.proofs.Common.{◌≡◌, ℕ, ◌+◌, ◌-◌, ◌<◌, ◌≤◌, ◌⊎◌, inl, inr, List, [], ◌++◌, length, length-append, take, sym, ap, ◌∙◌, subst, arith, Option, Some, None, Result, Ok, Err}
use Rattle.std.proofs.Math.Seq.{take-append-add}
use Rattle.std.proofs.lemmas.List.{length-take-le}
use Rattle.usb_capture.specs.declared.fault.Cause.{Cause}
use Rattle.usb_capture.specs.declared.fault.Cause.TheVariants.{Memory}
use Rattle.usb_capture.specs.declared.fault.CaptureFault.{CaptureFault}
use Rattle.usb_capture.specs.declared.format.Format.{Format}
use Rattle.usb_capture.specs.declared.format.Interface.{Interface}
use Rattle.usb_capture.specs.declared.reading.FrameHead.{FrameHead}
use Rattle.usb_capture.specs.declared.reading.Reading.{Reading}
use Rattle.usb_capture.specs.declared.reading.Reading.TheVariants.{Begins, Described, Captured, PassedOver}
use Rattle.usb_capture.specs.Extent.{head_length}
use Rattle.usb_capture.specs.FrameRecord.{frame_in}
use Rattle.usb_capture.specs.Gathering.{block_length}
use Rattle.usb_capture.specs.Place.{Place, Taken, step, step_by, block_step, fault_at, at_after}
use Rattle.usb_capture.specs.Reading.{HasFrame, format_after, interfaces_after, frame_head_of, reading}
use Rattle.usb_capture.specs.Step.{FrameFits}
use Rattle.usb_capture.proofs.ExtentLemmas.{head_of, extent_least, whole_told, completed_longer}

-- the length of the block is refused
pub step_refused : (place : Place) (bytes : List ℕ) (cause : Cause) → block_length place.known.format (place.begun ++ bytes) ≡ Err cause
    → step place bytes ≡ Err (fault_at place cause)
unfolding step
step_refused place bytes cause e = ap (step_by place bytes (place.begun ++ bytes)) e

-- the block goes on
abbrev on_at : Place → ℕ → List ℕ → Result Taken CaptureFault
on_at place count begun = Ok (record { count = count; place = record { known = place.known; at = place.at; begun = begun }; frame = None })

pub step_goes_on : (place : Place) (bytes block : List ℕ) → block_length place.known.format (place.begun ++ bytes) ≡ Ok None
    → block ≡ place.begun ++ bytes → step place bytes ≡ on_at place (length bytes) block
unfolding step
step_goes_on place bytes block e same =
    ap (step_by place bytes (place.begun ++ bytes)) e ∙ ap (on_at place (length bytes)) (sym same)

pub block_goes_on : (format : Format) (come block : List ℕ) → block_length format come ≡ Ok None → block ≡ come → block_length format block ≡ Ok None
block_goes_on format come block e same = ap (block_length format) same ∙ e

-- the bytes of a whole block
block_bytes : (begun bytes block : List ℕ) (n : ℕ) → block ≡ begun ++ take n bytes → take (length begun + n) (begun ++ bytes) ≡ block
block_bytes begun bytes block n same = take-append-add begun bytes n ∙ sym same

sum_less : (m n : ℕ) → (m + n) - m ≡ n
sum_less m n = omega arith

-- what a whole block leads to
step_whole : (place : Place) (bytes block : List ℕ) (n : ℕ)
    → block_length place.known.format (place.begun ++ bytes) ≡ Ok (Some (length place.begun + n))
    → block ≡ place.begun ++ take n bytes
    → step place bytes ≡ block_step place n block (reading place.known.format place.known.interfaces block)
unfolding step
step_whole place bytes block n e same =
    ap (step_by place bytes (place.begun ++ bytes)) e
    ∙ ap (λ (k : ℕ). block_step place k (take (length place.begun + n) (place.begun ++ bytes)) (reading place.known.format place.known.interfaces (take (length place.begun + n) (place.begun ++ bytes)))) (sum_less (length place.begun) n)
    ∙ ap (λ (b : List ℕ). block_step place n b (reading place.known.format place.known.interfaces b)) (block_bytes place.begun bytes block n same)

-- the block is refused for what it says
pub step_unread : (place : Place) (bytes block : List ℕ) (n : ℕ) (cause : Cause)
    → block_length place.known.format (place.begun ++ bytes) ≡ Ok (Some (length place.begun + n))
    → block ≡ place.begun ++ take n bytes
    → reading place.known.format place.known.interfaces block ≡ Err cause → step place bytes ≡ Err (fault_at place cause)
step_unread place bytes block n cause e same told = step_whole place bytes block n e same ∙ ap (block_step place n block) told

-- what is known and shown behind a block
abbrev after_block : Place → ℕ → List ℕ → Format → List Interface → Option FrameHead → Result Taken CaptureFault
after_block place n block format interfaces head = Ok (record {
  count = n;
  place = record { known = record { format = format; interfaces = interfaces }; at = at_after place.at (length block); begun = [] };
  frame = frame_in place.at block head;
})

pub step_completed : (place : Place) (bytes block : List ℕ) (n : ℕ) (told : Reading) (format : Format) (interfaces : List Interface) (head : Option FrameHead)
    → block_length place.known.format (place.begun ++ bytes) ≡ Ok (Some (length place.begun + n))
    → block ≡ place.begun ++ take n bytes
    → reading place.known.format place.known.interfaces block ≡ Ok told
    → format ≡ format_after place.known.format told → interfaces ≡ interfaces_after place.known.interfaces told
    → head ≡ frame_head_of told → step place bytes ≡ after_block place n block format interfaces head
step_completed place bytes block n told format interfaces head e same is f i h =
    step_whole place bytes block n e same ∙ ap (block_step place n block) is
    ∙ ap (λ (x : Format). after_block place n block x (interfaces_after place.known.interfaces told) (frame_head_of told)) (sym f)
    ∙ ap (λ (x : List Interface). after_block place n block format x (frame_head_of told)) (sym i)
    ∙ ap (after_block place n block format interfaces) (sym h)

-- the frame of a block lies in it
frame_kept : (told : Reading) (block : List ℕ) → HasFrame told (length block) → FrameFits (frame_head_of told) block
frame_kept (Begins format) block h = tt
frame_kept (Described interface) block h = tt
frame_kept (Captured head) block h = h
frame_kept PassedOver block h = tt

pub frame_fits : (told : Reading) (block : List ℕ) (head : Option FrameHead) → HasFrame told (length block) → head ≡ frame_head_of told
    → FrameFits head block
frame_fits told block head h same = subst (λ (x : Option FrameHead). FrameFits x block) (sym same) (frame_kept told block h)

-- a whole block has its head, and more bytes than came before
pub whole_has_head : (format : Format) (begun bytes block : List ℕ) (n : ℕ) → n ≤ length bytes
    → block_length format (begun ++ bytes) ≡ Ok (Some (length begun + n)) → block ≡ begun ++ take n bytes → head_length format ≤ length block
whole_has_head format begun bytes block n within e same =
    let told = whole_told format (begun ++ bytes) (length begun + n) e in
    let least = extent_least format (head_of format (begun ++ bytes)) (length begun + n) told.1 in
    omega (arith, least, ap length same, length-append begun (take n bytes), length-take-le n bytes within)

pub whole_takes : (format : Format) (begun bytes : List ℕ) (n : ℕ) → block_length format begun ≡ Ok None
    → block_length format (begun ++ bytes) ≡ Ok (Some (length begun + n)) → 0 < n
whole_takes format begun bytes n partial e = omega (arith, completed_longer format begun bytes (length begun + n) partial e)

-- ---- the same, by what the functions give

pub stepped_refused : (place : Place) (bytes : List ℕ) (cause : Cause)
    → (cause ≡ Memory) ⊎ (block_length place.known.format (place.begun ++ bytes) ≡ Err cause)
    → (cause ≡ Memory) ⊎ (step place bytes ≡ Err (fault_at place cause))
stepped_refused place bytes cause (inl e) = inl e
stepped_refused place bytes cause (inr e) = inr (step_refused place bytes cause e)

pub stepped_unread : (place : Place) (bytes block : List ℕ) (n : ℕ) (cause : Cause)
    → block_length place.known.format (place.begun ++ bytes) ≡ Ok (Some (length place.begun + n)) → block ≡ place.begun ++ take n bytes
    → (cause ≡ Memory) ⊎ (reading place.known.format place.known.interfaces block ≡ Err cause)
    → (cause ≡ Memory) ⊎ (step place bytes ≡ Err (fault_at place cause))
stepped_unread place bytes block n cause e same (inl is) = inl is
stepped_unread place bytes block n cause e same (inr is) = inr (step_unread place bytes block n cause e same is)
