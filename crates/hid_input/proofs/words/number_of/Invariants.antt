use Rattle.std.proofs.Common.{◌≡◌, ◌-◌, ◌^◌, true, take}
use Rattle.std.specs.Prelude.{min}
use Rattle.std.specs.List.{list_all}
use Rattle.std.specs.Str.Parse.{digits_value}
use Rattle.hid_input.specs.Words.{is_digit_of}
use Rattle.hid_input.proofs.words.number_of.Given as goal

-- the digits so far encode the number so far
abbrev pub invariant-loop-byte : goal.invariant-loop-byte
invariant-loop-byte l =
    (list_all (is_digit_of l.base) (take l.byte-index l.word) ≡ true)
    × (l.number ≡ min (digits_value l.base (take l.byte-index l.word)) (2 ^ 64 - 1))
