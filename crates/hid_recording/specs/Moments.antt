-- The time of a frame as it is printed (our choice: docs/RECORDINGS.md).
use Rattle.std.specs.Prelude.{ℕ, ◌+◌, ◌*◌, ◌/◌, ◌%◌, List, [], ◌∷◌, ◌++◌, Option}
use Rattle.std.specs.Fmt.{decimal}
use Rattle.std.specs.Option.{unwrap_or}

-- the decimal digit of a time that counts so many nanoseconds
abbrev pub digit_of : ℕ → ℕ → ℕ
digit_of time value = 48 + time / value % 10

-- three digits of a time, of which the last counts so many nanoseconds
abbrev pub three_digits : ℕ → ℕ → List ℕ
three_digits time value = digit_of time (100 * value) ∷ digit_of time (10 * value) ∷ digit_of time value ∷ []

-- the nine digits after the point of a time in nanoseconds
abbrev pub fraction_text : ℕ → List ℕ
fraction_text time = three_digits time 1000000 ++ three_digits time 1000 ++ three_digits time 1

-- A time in nanoseconds, as seconds with nine digits after the point. Example: 1.500000000
abbrev pub time_text : ℕ → List ℕ
time_text time = decimal (time / 1000000000) ++ 46 ∷ fraction_text time

-- the time of a frame; that of a frame without one is 0
abbrev pub frame_time : Option ℕ → ℕ
frame_time time = unwrap_or time 0
