use Rattle.std.proofs.Common.{sym, subst, List, ℕ}
use Rattle.usb_control.specs.Descriptors.{IsWalk, is_interface}
use Rattle.usb_control.proofs.SearchLemmas.{all_before}
use Rattle.usb_control.proofs.descriptors.stretch.Goals as goal

pub returns-in-None : goal.returns-in-None
returns-in-None c = λ descriptors walk.
    subst (λ (ds : List (List ℕ)). IsWalk c.args.behind.now ds) (sym (all_before is_interface descriptors (c.in-None.ensures.walks descriptors walk))) walk
