use Rattle.usb_control.proofs.TryFunctionLemmas.{tries_are}
use Rattle.usb_control.proofs.laws.tries_are_computed.Goals as goal

pub returns : goal.returns
returns g c = λ table fate host after old new. tries_are table fate host old after new
