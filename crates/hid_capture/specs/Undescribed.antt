-- The endpoints whose data came while no report descriptor was known for them (our choice: docs/RECORDINGS.md).
use Rattle.std.specs.Prelude.{ℕ, ◌+◌, ◌-◌, ◌^◌, ◌==◌, ◌&&◌, ◌||◌, not, min, nat_lt, if◌then◌else◌, Bool, List, [], ◌∷◌, ◌++◌, length, filter, map}
use Rattle.std.specs.List.{list_any}
use Rattle.hid_capture.specs.declared.undescribed.UndescribedEndpoint.{UndescribedEndpoint}

-- an endpoint is this one
abbrev pub is_undescribed : ℕ → ℕ → ℕ → UndescribedEndpoint → Bool
is_undescribed bus device endpoint known = (known.bus == bus) && (known.device == device) && (known.endpoint == endpoint)

-- one more transfer is counted, up to the greatest u64, if it is of this endpoint; once its interface is known to be of the class HID it stays so
abbrev pub with_transfer : ℕ → ℕ → ℕ → Bool → UndescribedEndpoint → UndescribedEndpoint
with_transfer bus device endpoint is_hid known =
    if is_undescribed bus device endpoint known
    then record known { is_hid = known.is_hid || is_hid; transfers = min (known.transfers + 1) (2 ^ 64 - 1) }
    else known

-- the endpoints with one more, if there are 16 at most then (our choice)
abbrev pub with_endpoint : List UndescribedEndpoint → UndescribedEndpoint → List UndescribedEndpoint
with_endpoint known one = if nat_lt (length known) 16 then known ++ one ∷ [] else known

-- the endpoints after a transfer of one of them, or of one that comes to them
abbrev pub with_transfer_of : List UndescribedEndpoint → ℕ → ℕ → ℕ → Bool → List UndescribedEndpoint
with_transfer_of known bus device endpoint is_hid =
    if list_any (is_undescribed bus device endpoint) known
    then map (with_transfer bus device endpoint is_hid) known
    else with_endpoint known (record { bus = bus; device = device; endpoint = endpoint; is_hid = is_hid; transfers = 1 })

-- the endpoints without one: a descriptor is given for it
abbrev pub without_endpoint : List UndescribedEndpoint → ℕ → ℕ → ℕ → List UndescribedEndpoint
without_endpoint known bus device endpoint = filter (λ one. not (is_undescribed bus device endpoint one)) known

-- an endpoint is one of this device, of a hub by what is known: no interface of HID has it
abbrev pub is_on_hub : ℕ → ℕ → UndescribedEndpoint → Bool
is_on_hub bus device known = (known.bus == bus) && ((known.device == device) && not known.is_hid)

-- the endpoints without those of a device that is a hub
abbrev pub without_hub : List UndescribedEndpoint → ℕ → ℕ → List UndescribedEndpoint
without_hub known bus device = filter (λ one. not (is_on_hub bus device one)) known
