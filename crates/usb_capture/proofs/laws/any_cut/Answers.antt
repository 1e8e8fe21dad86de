use Rattle.usb_capture.proofs.BlockLemmas.{any_cut}
use Rattle.usb_capture.proofs.laws.any_cut.Goals as goal

pub returns : goal.returns
returns c here between last bytes more frames others a b = any_cut here between last bytes more frames others a b
