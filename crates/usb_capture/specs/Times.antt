-- Times of pcapng, in nanoseconds since 1970 (draft-ietf-opsawg-pcapng, 4.2: if_tsresol, if_tsoffset).
use Rattle.std.specs.Prelude.{ℕ, ◌+◌, ◌-◌, ◌*◌, ◌/◌, ◌^◌, ◌==◌, nat_lt, if◌then◌else◌, Option, Some, None, Result, Ok, Err}
use Rattle.usb_capture.specs.declared.fault.Cause.{Cause}
use Rattle.usb_capture.specs.declared.fault.Cause.TheVariants.{BadClock}
use Rattle.usb_capture.specs.declared.format.Clock.{Clock}

-- a time that 64 bits have
abbrev pub within : ℕ → Option ℕ
within time = if nat_lt time (2 ^ 64) then Some time else None

-- a time with seconds added to it, in two's complement; none before 1970
abbrev pub with_offset : ℕ → ℕ → Option ℕ
with_offset offset time =
    if nat_lt offset (2 ^ 63) then within (time + offset * 10 ^ 9)
    else if nat_lt time ((2 ^ 64 - offset) * 10 ^ 9) then None
    else within (time - (2 ^ 64 - offset) * 10 ^ 9)

-- The time of a timestamp, which counts ticks, rounded down; a clock that doesn't tick has none. Example: 1500000 ticks of a millionth are 1500000000
unfoldable pub time_of : Clock → ℕ → Option ℕ
time_of clock timestamp =
    if clock.rate == 0 then None else with_offset clock.offset (timestamp * 10 ^ 9 / clock.rate)

-- the ticks of a second: a power of 10, or with the highest bit set one of 2, as far as 64 bits have it
unfoldable pub clock_rate : ℕ → Result ℕ Cause
clock_rate resolution =
    if nat_lt resolution 20 then Ok (10 ^ resolution)
    else if nat_lt resolution 128 then Err BadClock
    else if nat_lt resolution 192 then Ok (2 ^ (resolution - 128))
    else Err BadClock
