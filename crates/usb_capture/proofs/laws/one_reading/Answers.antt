use Rattle.usb_capture.proofs.BlockLemmas.{same_frames, same_place}
use Rattle.usb_capture.proofs.laws.one_reading.Goals as goal

pub returns-clause-frames : goal.returns-clause-frames
returns-clause-frames c here last end bytes frames others a b = same_frames here last end bytes frames others a b

pub returns-clause-place : goal.returns-clause-place
returns-clause-place c here last end bytes frames others a b = same_place here last end bytes frames others a b
