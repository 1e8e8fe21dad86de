-- Laws of scripts of the bench whose devices a host has (our choice: docs/LAB.md).
use Rattle.std.specs.Prelude.{◌≡◌, ◌⊎◌, ℕ, List, take}
use Rattle.usbip_export.specs.declared.exported_device.ExportedDevice.{ExportedDevice}
use Rattle.usbip_serving.specs.declared.action.Action.{Action}
use Rattle.usbip_serving.specs.declared.serving.Serving.{Serving}
use Rattle.usbip_serving.specs.Turns.{Waiting, move_of}

-- Where so many of the actions may come, a turn does what it does where all may, or it waits.
abbrev pub HeldBackActionsWait : Type 0
HeldBackActionsWait = (s : Serving) (ds : List ExportedDevice) (actions : List Action) (count now : ℕ)
    → (move_of s ds (take count actions) now ≡ move_of s ds actions now) ⊎ (move_of s ds (take count actions) now ≡ Waiting)
