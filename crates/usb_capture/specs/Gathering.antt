-- Where the next block of a capture ends, in the bytes that have come.
use Rattle.std.specs.Prelude.{◌≡◌, ◌⊎◌, ℕ, ◌+◌, ◌≤◌, nat_lt, if◌then◌else◌, List, ◌++◌, length, take, Option, Some, None, Result, Ok, Err}
use Rattle.usb_capture.specs.declared.fault.Cause.{Cause}
use Rattle.usb_capture.specs.declared.fault.Cause.TheVariants.{Memory}
use Rattle.usb_capture.specs.declared.format.Format.{Format}
use Rattle.usb_capture.specs.declared.gather.Gathered.{Gathered}
use Rattle.usb_capture.specs.declared.gather.Gathered.TheVariants.{All, Whole}
use Rattle.usb_capture.specs.Extent.{head_length, extent}

-- a length, where so many bytes have come
abbrev pub whole_within : ℕ → Result ℕ Cause → Result (Option ℕ) Cause
whole_within come (Err cause) = Err cause
whole_within come (Ok n) = Ok (if nat_lt come n then None else Some n)

-- How long the block is that these bytes begin with: none where it isn't whole, or its length hasn't come.
unfoldable pub block_length : Format → List ℕ → Result (Option ℕ) Cause
block_length format bytes =
    if nat_lt (length bytes) (head_length format) then Ok None
    else whole_within (length bytes) (extent format (take (head_length format) bytes))

-- the bytes begin a block of a format, and it isn't whole
abbrev pub IsPartial : Format → List ℕ → Type 0
IsPartial format bytes = block_length format bytes ≡ Ok None

-- what came of bytes after the first ones of a block
abbrev pub Gathers : Format → List ℕ → List ℕ → Result Gathered Cause → List ℕ → Type 0
Gathers format begun bytes (Ok All) new =
    (block_length format (begun ++ bytes) ≡ Ok None) × (new ≡ begun ++ bytes)
Gathers format begun bytes (Ok (Whole n)) new =
    (n ≤ length bytes) × (block_length format (begun ++ bytes) ≡ Ok (Some (length begun + n))) × (new ≡ begun ++ take n bytes)
Gathers format begun bytes (Err cause) new =
    (cause ≡ Memory) ⊎ (block_length format (begun ++ bytes) ≡ Err cause)
