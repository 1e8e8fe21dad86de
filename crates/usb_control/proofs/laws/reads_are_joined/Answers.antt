use Rattle.usb_control.proofs.ReadingLemmas.{setup_reads}
use Rattle.usb_control.proofs.laws.reads_are_joined.Goals as goal

pub returns : goal.returns
returns c = λ came addr request is done. setup_reads came addr request is 0 done
