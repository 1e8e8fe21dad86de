use Rattle.usb_capture.proofs.BlockLemmas.{refused_step}
use Rattle.usb_capture.proofs.laws.a_refusal_stays.Goals as goal

pub returns : goal.returns
returns c here last bytes more frames fault is a = refused_step here last bytes more frames fault is a
