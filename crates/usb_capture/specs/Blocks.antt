-- The blocks that stand one after another in a capture, and their frames.
use Rattle.std.specs.Prelude.{◌≡◌, ℕ, List, [], ◌∷◌, ◌++◌, length, Option, Some, None, Ok}
use Rattle.usb_capture.specs.declared.format.Format.{Format}
use Rattle.usb_capture.specs.declared.reading.Reading.{Reading}
use Rattle.usb_capture.specs.FrameRecord.{FrameRecord, frame_in}
use Rattle.usb_capture.specs.Gathering.{block_length, IsPartial}
use Rattle.usb_capture.specs.Place.{Place, at_after}
use Rattle.usb_capture.specs.Reading.{Known, known_after, frame_head_of, reading}

-- the bytes are one whole block of a format
abbrev pub IsBlock : Format → List ℕ → Type 0
IsBlock format block = block_length format block ≡ Ok (Some (length block))

-- a frame, if there is one, and others
abbrev pub with_frame : Option FrameRecord → List FrameRecord → List FrameRecord
with_frame None frames = frames
with_frame (Some frame) frames = frame ∷ frames

-- Blocks that begin at a place of the file are accepted, each after what those before it said: all that they give are these
-- frames, and what is known after them is `last`, at the place `end`.
abbrev pub AllGive : Known → ℕ → List (List ℕ) → List FrameRecord → Known → ℕ → Type 0
AllGive known at [] frames last end = (frames ≡ []) × (last ≡ known) × (end ≡ at)
AllGive known at (block ∷ more) frames last end =
    (content : Reading) × (others : List FrameRecord)
    × IsBlock known.format block
    × (reading known.format known.interfaces block ≡ Ok content)
    × AllGive (known_after known content) (at_after at (length block)) more others last end
    × (frames ≡ with_frame (frame_in at block (frame_head_of content)) others)

-- the bytes of blocks
abbrev pub bytes_of_blocks : List (List ℕ) → List ℕ
bytes_of_blocks [] = []
bytes_of_blocks (block ∷ more) = block ++ bytes_of_blocks more

-- Bytes that come at a place are whole blocks, with what had come of the first, and then less than a whole one; the blocks
-- have these frames, and lead to another place.
pub record Advances (old : Place) (bytes : List ℕ) (frames : List FrameRecord) (new : Place) : Type 0 where
  pub blocks : List (List ℕ)
  pub all : AllGive old.known old.at blocks frames new.known new.at
  pub split : old.begun ++ bytes ≡ bytes_of_blocks blocks ++ new.begun
  pub partial : IsPartial new.known.format new.begun
