-- Which connections have which devices: no device has two (USB/IP).
use Rattle.std.specs.Prelude.{◌≡◌, ℕ, ◌+◌, ◌≤◌, false, if◌then◌else◌, List, [], ◌∷◌, slice_get, Option, Some, None}
use Rattle.usbip.specs.Pending.{one_if_same}
use Rattle.usbip_export.specs.declared.connection.Stage.{Stage}
use Rattle.usbip_export.specs.declared.exported_device.ExportedDevice.{ExportedDevice}
use Rattle.usbip_export.specs.Connections.{place_of_stage}

-- 1 where this is the place, else 0
abbrev pub one_if_at : ℕ → Option ℕ → ℕ
one_if_at place None = 0
one_if_at place (Some other) = one_if_same place other

-- how many connections at these stages have the device at a place
abbrev pub holders : ℕ → List Stage → ℕ
holders place [] = 0
holders place (stage ∷ stages) = one_if_at place (place_of_stage stage) + holders place stages

-- 1 where a connection has this device, else 0
abbrev pub one_if_imported : Option ExportedDevice → ℕ
one_if_imported None = 0
one_if_imported (Some d) = if d.imported then 1 else 0

-- Each device has one connection where it is imported, else none.
abbrev pub HaveHolders : List ExportedDevice → List Stage → Type 0
HaveHolders ds stages = (place : ℕ) → holders place stages ≡ one_if_imported (slice_get ds place)

-- no device has two connections
abbrev pub NoneIsShared : List Stage → Type 0
NoneIsShared stages = (place : ℕ) → holders place stages ≤ 1

-- nobody has this device
abbrev pub IsFree : ExportedDevice → Type 0
IsFree d = d.imported ≡ false
