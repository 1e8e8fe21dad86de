use Rattle.usb_capture.proofs.BlockLemmas.{one_step}
use Rattle.usb_capture.proofs.laws.a_step_advances.Goals as goal

pub returns : goal.returns
returns c here bytes taken partial is = one_step here bytes taken partial is
