-- The options of an interface description (draft-ietf-opsawg-pcapng, 3.5 and 4.2): a code and a length of 16 bits each, the
-- value, and bytes that fill it up to a multiple of four.
use Rattle.std.specs.Prelude.{ℕ, zero, suc, ◌+◌, ◌*◌, ◌/◌, ◌==◌, nat_lt, if◌then◌else◌, List, length, take, drop, Result, Ok, Err}
use Rattle.usb_capture.specs.declared.fault.Cause.{Cause}
use Rattle.usb_capture.specs.declared.fault.Cause.TheVariants.{BadOption}
use Rattle.usb_capture.specs.declared.field.ByteOrder.{ByteOrder}
use Rattle.usb_capture.specs.declared.format.Clock.{Clock}
use Rattle.usb_capture.specs.Fields.{field, byte}
use Rattle.usb_capture.specs.Times.{clock_rate}

-- a length with the bytes that fill it up
unfoldable pub padded_length : ℕ → ℕ
padded_length n = (n + 3) / 4 * 4

-- a clock of another rate
abbrev pub at_rate : Clock → Result ℕ Cause → Result Clock Cause
at_rate clock (Ok rate) = Ok (record clock { rate = rate })
at_rate clock (Err cause) = Err cause

-- the clock after an option: if_tsresol (9) has one byte, if_tsoffset (14) eight, and others say nothing of it
unfoldable pub clock_with : ByteOrder → Clock → ℕ → List ℕ → Result Clock Cause
clock_with order clock code value =
    if code == 9 then (if length value == 1 then at_rate clock (clock_rate (byte 0 value)) else Err BadOption)
    else if code == 14 then (if length value == 8 then Ok (record clock { offset = field order 0 8 value }) else Err BadOption)
    else Ok clock

-- what comes next, unless an option was refused before
abbrev pub and_then : Result Clock Cause → (Clock → Result Clock Cause) → Result Clock Cause
and_then (Ok clock) next = next clock
and_then (Err cause) next = Err cause

-- The clock that the options give, the last word on each of its parts; option 0, and less than an option's head, end them. `n`
-- is how many options may come at most.
unfoldable pub clock_after : ℕ → ByteOrder → Clock → List ℕ → Result Clock Cause
clock_after zero order clock options = Ok clock
clock_after (suc n) order clock options =
    if nat_lt (length options) 4 then Ok clock
    else if field order 0 2 options == 0 then Ok clock
    else if nat_lt (length options) (4 + padded_length (field order 2 2 options)) then Err BadOption
    else and_then (clock_with order clock (field order 0 2 options) (take (field order 2 2 options) (drop 4 options)))
    (λ next. clock_after n order next (drop (4 + padded_length (field order 2 2 options)) options))
