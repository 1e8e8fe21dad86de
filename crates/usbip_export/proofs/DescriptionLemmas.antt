-- Names of devices, and their list.
use Rattle.std.proofs.Common.{◌≡◌, ℕ, zero, suc, ◌+◌, ◌<◌, List, [], ◌∷◌, ◌++◌, Some, refl, ap, sym, ◌∙◌, arith, length, take, get_or, zero-add, append_assoc, append-nil}
use Rattle.std.proofs.lemmas.List.{length-take-le, take_more}
use Rattle.usbip_export.specs.declared.description.TheConstants.{MAX_DEVICES}
use Rattle.usbip_export.specs.declared.exported_device.ExportedDevice.{ExportedDevice}
use Rattle.usbip_export.specs.Descriptions.{bus_id_text, devices_bytes, listed_bytes, named_place, text_field}

pub bus_id_is_found : (place : ℕ) → place < MAX_DEVICES → named_place (text_field 32 (bus_id_text place)) ≡ Some place
bus_id_is_found zero lt = refl
bus_id_is_found (suc zero) lt = refl
bus_id_is_found (suc (suc zero)) lt = refl
bus_id_is_found (suc (suc (suc zero))) lt = refl
bus_id_is_found (suc (suc (suc (suc zero)))) lt = refl
bus_id_is_found (suc (suc (suc (suc (suc zero))))) lt = refl
bus_id_is_found (suc (suc (suc (suc (suc (suc zero)))))) lt = refl
bus_id_is_found (suc (suc (suc (suc (suc (suc (suc n))))))) lt = absurd (omega arith)

-- one device more at the end of a list
pub one_more : (place : ℕ) (ds : List ExportedDevice) (d : ExportedDevice)
    → devices_bytes place (ds ++ d ∷ []) ≡ devices_bytes place ds ++ listed_bytes (place + length ds) d
one_more place [] d =
    let same : place ≡ place + 0 = omega arith in
    append-nil (listed_bytes place d) ∙ ap (λ (n : ℕ). listed_bytes n d) same
one_more place (x ∷ ds) d =
    let same : suc place + length ds ≡ place + length (x ∷ ds) = omega arith in
    ap (λ (rest : List ℕ). listed_bytes place x ++ rest) (one_more (suc place) ds d)
    ∙ (sym (append_assoc (listed_bytes place x) (devices_bytes (suc place) ds) (listed_bytes (suc place + length ds) d))
    ∙ ap (λ (n : ℕ). (listed_bytes place x ++ devices_bytes (suc place) ds) ++ listed_bytes n d) same)

-- a list with the device at a place added to those before it
pub list_more : (head : List ℕ) (ds : List ExportedDevice) (place : ℕ) (d : ExportedDevice) → place < length ds
    → d ≡ get_or ds place d
    → (head ++ devices_bytes 0 (take place ds)) ++ listed_bytes place d ≡ head ++ devices_bytes 0 (take (place + 1) ds)
list_more head ds place d lt is =
    let long : length (take place ds) ≡ place = length-take-le place ds (omega (arith, lt)) in
    let more : take (place + 1) ds ≡ take place ds ++ d ∷ [] =
    take_more ds place d lt ∙ ap (λ (x : ExportedDevice). take place ds ++ x ∷ []) (sym is) in
    let one : devices_bytes 0 (take place ds ++ d ∷ []) ≡ devices_bytes 0 (take place ds) ++ listed_bytes place d =
    one_more 0 (take place ds) d
    ∙ ap (λ (n : ℕ). devices_bytes 0 (take place ds) ++ listed_bytes n d) (zero-add (length (take place ds)) ∙ long) in
    append_assoc head (devices_bytes 0 (take place ds)) (listed_bytes place d)
    ∙ ap (λ (l : List ℕ). head ++ l) (sym (ap (devices_bytes 0) more ∙ one))
