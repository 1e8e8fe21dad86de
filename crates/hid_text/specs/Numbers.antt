-- What a word of a line says by itself (our choice: the script language of docs/SCRIPT.md).
use Rattle.std.specs.Prelude.{ℕ, ◌==◌, ◌-◌, ◌+◌, ◌^◌, Bool, not, ◌&&◌, nat_le, nat_lt, [], ◌∷◌, length, if◌then◌else◌, Option, None, Some, ℤ, pos, neg_ℤ, int_le, int_lt, position, take, drop}
use Rattle.std.specs.List.{list_all}
use Rattle.std.specs.Option.{option_map}
use Rattle.std.specs.Str.Parse.{digits_value}
use Rattle.std.specs.Char.{digit_value}
use Rattle.hid_report_descriptor.specs.declared.usage.Usage.{Usage}
use Rattle.hid_text.specs.Words.{Word}

-- D: one digit, 1 to 7
abbrev pub device_of : Word → Option ℕ
device_of (c ∷ []) = if nat_le 49 c && nat_le c 55 then Some (c - 48) else None
device_of _ = None

-- The number that digits encode in a base, of either case and with zeros in front.
unfoldable pub number_of : ℕ → Word → Option ℕ
number_of base word =
    if not (length word == 0) && list_all (λ c. nat_lt (digit_value c) base) word
    then Some (digits_value base word) else None

-- one to four hex digits
abbrev pub hex_number_of : Word → Option ℕ
hex_number_of word = if nat_le (length word) 4 then number_of 16 word else None

-- the usage of a page and an ID that are both numbers
abbrev pub usage_from : Option ℕ → Option ℕ → Option Usage
usage_from (Some page) (Some id) = Some (record { page = page; id = id })
usage_from (Some page) None = None
usage_from None id = None

-- what parts page and ID
abbrev pub is_colon : ℕ → Bool
is_colon b = b == 58

-- the numbers before and after the place of the colon
abbrev pub usage_at : Word → Option ℕ → Option Usage
usage_at word None = None
usage_at word (Some colon) = usage_from (hex_number_of (take colon word)) (hex_number_of (drop (colon + 1) word))

-- U: page:id
unfoldable pub usage_of_word : Word → Option Usage
usage_of_word word = usage_at word (position is_colon word)

-- a number that is a count
abbrev pub in_count : Option ℕ → Option ℕ
in_count None = None
in_count (Some n) = if nat_le 1 n && nat_le n 10000 then Some n else None

-- COUNT: 1 to 10,000, of any number of digits
unfoldable pub count_of : Word → Option ℕ
count_of word = in_count (number_of 10 word)

-- a number that a byte holds
abbrev pub in_byte : Option ℕ → Option ℕ
in_byte None = None
in_byte (Some n) = if nat_lt n (2 ^ 8) then Some n else None

-- ID and TIME: 0 to 255, of any number of digits
unfoldable pub byte_of : Word → Option ℕ
byte_of word = in_byte (number_of 10 word)

-- at most 18 digits
abbrev pub short_number_of : Word → Option ℕ
short_number_of word = if nat_le (length word) 18 then number_of 10 word else None

-- N: at most 18 digits, and a minus before them or none
unfoldable pub signed_of_word : Word → Option ℤ
signed_of_word [] = None
signed_of_word (c ∷ digits) =
    if c == 45 then option_map (λ n. neg_ℤ (pos n)) (short_number_of digits)
    else option_map pos (short_number_of (c ∷ digits))

-- a number that an amount of 32 bits holds
abbrev pub in_amount : Option ℤ → Option ℤ
in_amount None = None
in_amount (Some v) = if int_le (neg_ℤ (pos (2 ^ 31))) v && int_lt v (pos (2 ^ 31)) then Some v else None

-- N of a motion: from -2,147,483,648 to 2,147,483,647
unfoldable pub amount_of : Word → Option ℤ
amount_of word = in_amount (signed_of_word word)
