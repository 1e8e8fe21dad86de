-- What was delivered of one device, by two lists.
use Rattle.std.proofs.Common.{◌≡◌, ◌++◌, ℕ, List, [], ◌∷◌, Option, Some, None, refl, ap}
use Rattle.std.specs.List.{cons_option}
use Rattle.hid_snapshots.specs.declared.event.Event.{Event}
use Rattle.hid_bus.specs.declared.step.Delivered.{Delivered}
use Rattle.hid_bus.specs.Delivered.{event_of_device, from_device}

pub from_append : (device : ℕ) (xs ys : List Delivered) → from_device device (xs ++ ys) ≡ from_device device xs ++ from_device device ys
from_append device [] ys = refl
from_append device (x ∷ xs) ys =
    elim (event_of_device device x) as
    (λ (o : Option Event). cons_option o (from_device device (xs ++ ys)) ≡ cons_option o (from_device device xs)
    ++ from_device device ys)
    [ None ↦ from_append device xs ys | Some e ↦ ap (λ (es : List Event). e ∷ es) (from_append device xs ys) ]
