use Rattle.std.proofs.Common.{◌≡◌, ◌-◌, ◌^◌, take, min, true, nat_lt}
use Rattle.std.specs.List.{list_all}
use Rattle.std.specs.Str.Parse.{digits_value}
use Rattle.std.specs.Char.{digit_value}
use Rattle.hid_text.proofs.numbers.read_number.Given as goal

-- the digits so far
abbrev pub invariant-loop-byte : goal.invariant-loop-byte
invariant-loop-byte l = (list_all (λ c. nat_lt (digit_value c) l.base) (take l.byte-index l.word) ≡ true) × (l.value ≡ min (digits_value l.base (take l.byte-index l.word)) (2 ^ 64 - 1))
