-- Units in words (HID 1.11, 6.2.2.7, "Unit").
use Rattle.std.specs.Prelude.{ℕ, ◌/◌, ◌%◌, ◌^◌, Bool, ◌==◌, ◌&&◌, nat_le, nat_lt, pos, List, [], ◌∷◌, ◌++◌, if◌then◌else◌, codes}
use Rattle.std.specs.Fmt.{signed_decimal}
use Rattle.hid_page.specs.ItemNumbers.{exponent_of}

-- the systems of units, by the lowest four bits
abbrev pub system_name : ℕ → List ℕ
system_name system =
    if system == 1 then codes "SI Linear"
    else if system == 2 then codes "SI Rotation"
    else if system == 3 then codes "English Linear"
    else codes "English Rotation"

-- what length is measured in, by the system
abbrev pub length_name : ℕ → List ℕ
length_name system =
    if system == 1 then codes "Centimeter"
    else if system == 2 then codes "Radians"
    else if system == 3 then codes "Inch"
    else codes "Degrees"

-- what mass is measured in
abbrev pub mass_name : ℕ → List ℕ
mass_name system = if nat_le system 2 then codes "Gram" else codes "Slug"

-- what temperature is measured in
abbrev pub temperature_name : ℕ → List ℕ
temperature_name system = if nat_le system 2 then codes "Kelvin" else codes "Fahrenheit"

-- the power of a unit by its code, but for 1; codes from 8 on are -8 to -1
abbrev pub power_text : ℕ → List ℕ
power_text code = if code == 1 then [] else 94 ∷ signed_decimal (exponent_of code (pos code))

-- a unit with its power, in front of a space; none where its code is 0
unfoldable pub factor_text : List ℕ → ℕ → List ℕ
factor_text name code = if code == 0 then [] else name ++ power_text code ++ 32 ∷ []

-- length, mass and time of a unit
unfoldable pub first_factors : ℕ → ℕ → List ℕ
first_factors system number =
    factor_text (length_name system) (number / 0x10 % 0x10) ++ factor_text (mass_name system) (number / 0x100 % 0x10)
    ++ factor_text (codes "Seconds") (number / 0x1000 % 0x10)

-- temperature, current and luminous intensity of a unit
unfoldable pub last_factors : ℕ → ℕ → List ℕ
last_factors system number =
    factor_text (temperature_name system) (number / 0x10000 % 0x10) ++ factor_text (codes "Ampere") (number / 0x100000 % 0x10)
    ++ factor_text (codes "Candela") (number / 0x1000000 % 0x10)

-- the unit is of one of the four systems, and has no reserved bits
abbrev pub has_system : ℕ → Bool
has_system number = nat_lt number (2 ^ 28) && (nat_le 1 (number % 0x10) && nat_le (number % 0x10) 4)

-- A unit of a system in words. Example: E121 (in hex) is , Centimeter^2 Gram Seconds^-2 (SI Linear)
unfoldable pub system_words : ℕ → List ℕ
system_words number =
    codes ", " ++ first_factors (number % 0x10) number ++ last_factors (number % 0x10) number
    ++ 40 ∷ system_name (number % 0x10) ++ 41 ∷ []

-- a unit in words; none where its system is reserved or a vendor's
abbrev pub unit_words : ℕ → List ℕ
unit_words number = if number == 0 then codes ", None" else if has_system number then system_words number else []
