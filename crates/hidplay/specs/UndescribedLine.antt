-- The line that names an endpoint whose reports have no descriptor (our choice: docs/RECORDINGS.md).
use Rattle.std.specs.Prelude.{ℕ, ◌==◌, List, [], ◌++◌, codes, if◌then◌else◌}
use Rattle.std.specs.Fmt.{decimal}
use Rattle.hid_capture.specs.declared.undescribed.UndescribedEndpoint.{UndescribedEndpoint}

-- what stands after the word for more than one of a thing
abbrev pub plural : ℕ → List ℕ
plural count = if count == 1 then [] else codes "s"

-- the address of an endpoint: BUS.DEV.EP
abbrev pub address_text : UndescribedEndpoint → List ℕ
address_text one = decimal one.bus ++ (codes "." ++ (decimal one.device ++ (codes "." ++ decimal one.endpoint)))

-- what is said of the reports of a HID interface, and of those of one that isn't known
abbrev pub advice : UndescribedEndpoint → List ℕ
advice one =
    if one.is_hid then codes " without a descriptor: give it by --descriptor FILE"
    else codes ", if it is HID: --descriptor FILE --endpoint " ++ address_text one

-- endpoint BUS.DEV.EP: N reports without a descriptor: give it by --descriptor FILE
-- endpoint BUS.DEV.EP: N reports, if it is HID: --descriptor FILE --endpoint BUS.DEV.EP
abbrev pub undescribed_text : UndescribedEndpoint → List ℕ
undescribed_text one =
    codes "endpoint " ++ (address_text one
    ++ (codes ": " ++ (decimal one.transfers ++ (codes " report" ++ (plural one.transfers ++ advice one)))))
