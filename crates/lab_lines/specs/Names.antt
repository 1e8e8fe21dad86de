-- How a script writes the name of a usage (our choice: docs/LAB.md).
use Rattle.std.specs.Prelude.{◌≡◌, ℕ, ◌+◌, ◌==◌, ◌&&◌, ◌||◌, nat_le, nat_eq, suc, Bool, true, false, List, [], ◌∷◌, ◌++◌, length, take, drop, map, codes, if◌then◌else◌, Option, None, Some, position}
use Rattle.std.specs.List.{starts_with}
use Rattle.std.specs.Option.{option_map}
use Rattle.std.specs.Str.{bytes_eq}
use Rattle.hid_report_descriptor.specs.declared.usage.Usage.{Usage}
use Rattle.hid_names.specs.Names.{Name, Known, Button, Instance, name_of}
use Rattle.hid_text.specs.Numbers.{number_of}

-- a byte of a name as a word has it: blanks are written _, and case means nothing
abbrev pub fold : ℕ → ℕ
fold b = if b == 32 then 95 else if nat_le 65 b && nat_le b 90 then b + 32 else b

-- a word spells a name
unfoldable pub spells : List ℕ → List ℕ → Bool
spells name word = bytes_eq (map fold name) (map fold word)

-- the first place where a text stands in a name
unfoldable pub place_of : List ℕ → List ℕ → Option ℕ
place_of text [] = None
place_of text (b ∷ name) =
    if starts_with nat_eq (b ∷ name) text then Some 0 else option_map suc (place_of text name)

-- a word spells what stands before a border of a name
abbrev pub spells_before : List ℕ → Option ℕ → List ℕ → Bool
spells_before name None word = false
spells_before name (Some border) word = spells (take border name) word

-- a word spells the first word of a name with what stands after ` and `: of Keyboard a and A it is Keyboard A
abbrev pub spells_second : List ℕ → Option ℕ → Option ℕ → List ℕ → Bool
spells_second name (Some blank) (Some border) word =
    spells (take (blank + 1) name ++ drop (border + 5) name) word
spells_second name (Some blank) None word = false
spells_second name None border word = false

-- what parts words of a name
abbrev pub is_space : ℕ → Bool
is_space b = b == 32

-- A word calls a name of the tables: it spells it, or what stands before ` and ` or before ` (`, or the second one of two.
-- Example: Keyboard_A and Keyboard_a call Keyboard a and A
unfoldable pub calls : List ℕ → List ℕ → Bool
calls name word =
    spells name word
    || spells_before name (place_of (codes " and ") name) word
    || spells_before name (place_of (codes " (") name) word
    || spells_second name (position is_space name) (place_of (codes " and ") name) word

-- digits encode a number
abbrev pub are_number : ℕ → Option ℕ → Bool
are_number number None = false
are_number number (Some n) = n == number

-- a word spells the front of a name, and digits of its number stand after that. Example: Button_5
unfoldable pub spells_number : List ℕ → ℕ → List ℕ → Bool
spells_number front number word =
    spells front (take (length front) word) && are_number number (number_of 10 (drop (length front) word))

-- a word names what has this name, if it has one
abbrev pub is_called : Option Name → List ℕ → Bool
is_called None word = false
is_called (Some (Known name)) word = calls name word
is_called (Some (Button number)) word = spells_number (codes "Button ") number word
is_called (Some (Instance number)) word = spells_number (codes "Instance ") number word

-- a word names a usage
abbrev pub names : Usage → List ℕ → Bool
names usage word = is_called (name_of usage.page usage.id) word

-- a word names some usage
abbrev pub IsName : List ℕ → Type 0
IsName word = (usage : Usage) × (names usage word ≡ true)
