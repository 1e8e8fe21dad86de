-- A frame with its bytes as a list.
use Rattle.std.specs.Prelude.{ℕ, List, take, drop, Option, Some, None}
use Rattle.usb_capture.specs.declared.field.ByteOrder.{ByteOrder}
use Rattle.usb_capture.specs.declared.frame.Frame.{Frame}
use Rattle.usb_capture.specs.declared.reading.FrameHead.{FrameHead}

-- place of its block, time in nanoseconds since 1970, link type, byte order of its numbers, original length, and what was captured of it
pub record FrameRecord : Type 0 where
  pub at : ℕ
  pub time : Option ℕ
  pub link : ℕ
  pub order : ByteOrder
  pub original_length : ℕ
  pub bytes : List ℕ

-- a frame that a capture shows, with its bytes as a list
abbrev pub frame_record : Frame → FrameRecord
frame_record frame = record {
  at = frame.at;
  time = frame.time;
  link = frame.link;
  order = frame.order;
  original_length = frame.original_length;
  bytes = frame.bytes.now;
}

-- the frame of a block at a place, if the block has one
abbrev pub frame_in : ℕ → List ℕ → Option FrameHead → Option FrameRecord
frame_in at block None = None
frame_in at block (Some head) = Some (record {
  at = at;
  time = head.time;
  link = head.link;
  order = head.order;
  original_length = head.original_length;
  bytes = take head.captured (drop head.from block);
})
