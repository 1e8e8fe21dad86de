-- Worked values of what items are called and of what their numbers say, by the tables of the standard, and of the headings of
-- tables.
use Rattle.std.proofs.Common.{◌≡◌, ◌∷◌, [], ◌++◌, ℕ, List, map, refl}
use Rattle.std.specs.Prelude.{codes}
use Rattle.std.specs.Fmt.{digits}
use Rattle.std.specs.List.{flat_map}
use Rattle.hid_page.specs.ItemTable.{item_name, name_of_item, number_text}
use Rattle.hid_page.specs.Units.{unit_words, system_words, first_factors, last_factors, factor_text}
use Rattle.hid_page.specs.declared.field_table.TheConstants.{FIELDS_HEAD, NEXT}
use Rattle.hid_page.specs.declared.item_table.TheConstants.{ITEMS_HEAD}

-- the main items (HID 1.11, 6.2.2.4)
main_items : map item_name (0x80 ∷ 0x90 ∷ 0xB0 ∷ 0xA0 ∷ 0xC0 ∷ [])
    ≡ codes "Input" ∷ codes "Output" ∷ codes "Feature" ∷ codes "Collection" ∷ codes "End Collection" ∷ []
unfolding item_name
main_items = refl

-- the global items (6.2.2.7)
global_items : map item_name (0x04 ∷ 0x14 ∷ 0x24 ∷ 0x34 ∷ 0x44 ∷ 0x54 ∷ 0x64 ∷ 0x74 ∷ 0x84 ∷ 0x94 ∷ 0xA4 ∷ 0xB4 ∷ [])
    ≡ codes "Usage Page" ∷ codes "Logical Minimum" ∷ codes "Logical Maximum" ∷ codes "Physical Minimum" ∷
    codes "Physical Maximum" ∷ codes "Unit Exponent" ∷ codes "Unit" ∷ codes "Report Size" ∷ codes "Report ID" ∷
    codes "Report Count" ∷ codes "Push" ∷ codes "Pop" ∷ []
unfolding item_name
global_items = refl

-- the local items (6.2.2.8)
local_items : map item_name (0x08 ∷ 0x18 ∷ 0x28 ∷ 0x38 ∷ 0x48 ∷ 0x58 ∷ 0x78 ∷ 0x88 ∷ 0x98 ∷ 0xA8 ∷ [])
    ≡ codes "Usage" ∷ codes "Usage Minimum" ∷ codes "Usage Maximum" ∷ codes "Designator Index" ∷
    codes "Designator Minimum" ∷ codes "Designator Maximum" ∷ codes "String Index" ∷ codes "String Minimum" ∷
    codes "String Maximum" ∷ codes "Delimiter" ∷ []
unfolding item_name
local_items = refl

-- reserved short items
other_items : map item_name (0xFC ∷ 0x68 ∷ 0xD0 ∷ 0x00 ∷ [])
    ≡ codes "Reserved" ∷ codes "Reserved" ∷ codes "Reserved" ∷ codes "Reserved" ∷ []
unfolding item_name
other_items = refl

-- FE begins a long item (6.2.2.3), and FD a reserved short one
long_items : map name_of_item ((0xFE ∷ 0x00 ∷ 0x77 ∷ []) ∷ (0xFD ∷ 0x00 ∷ []) ∷ []) ≡ codes "Long item"
    ∷ codes "Reserved" ∷ []
unfolding item_name
long_items = refl

-- Unit Exponents: 7, -8, -2 and -1 by their codes (6.2.2.7), and -2 in a byte and 16 as they are
exponents : map (number_text 0x54) (
    (0x55 ∷ 0x07 ∷ []) ∷ (0x55 ∷ 0x08 ∷ []) ∷ (0x56 ∷ 0x0E ∷ 0x00 ∷ []) ∷ (0x55 ∷ 0x0F ∷ []) ∷ (0x55 ∷ 0xFE ∷ []) ∷ (0x55 ∷ 0x10 ∷ []) ∷ [])
    ≡ codes "7" ∷ codes "-8" ∷ codes "-2" ∷ codes "-1" ∷ codes "-2" ∷ codes "16" ∷ []
unfolding digits
exponents = refl

-- the heading of a column
heading : List ℕ → List ℕ
heading word = codes "<th scope='col'>" ++ word ++ codes "</th>"

-- a table and the headings of its columns
headed : List (List ℕ) → List ℕ
headed words = codes "<div class='x'><table><thead><tr>" ++ flat_map heading words ++ codes "</tr></thead><tbody>" ++ 10 ∷ []

-- the columns of fields, in the order of what a row has: place_cells, meaning_cells, origin_cells
fields_head : FIELDS_HEAD.now ≡ headed (codes "Field" ∷ codes "From" ∷ codes "Size" ∷ codes "Usages" ∷ codes "Range" ∷ codes "Flags" ∷ codes "Collections" ∷ codes "Items at" ∷ [])
unfolding heading headed
fields_head = refl

-- those of items
items_head : ITEMS_HEAD.now ≡ codes "<h2 id='items'>Items of the descriptor</h2>" ++ 10 ∷ headed (codes "At" ∷ codes "Bytes" ∷ codes "Item" ∷ [])
unfolding heading headed
items_head = refl

-- a cell ends, and the next one begins
next : NEXT.now ≡ codes "</td>" ++ codes "<td>"
next = refl

-- the units of the table of 6.2.2.7: distance, mass, velocity, energy, angular acceleration and voltage
units : map unit_words (0x11 ∷ 0x101 ∷ 0xF011 ∷ 0xE121 ∷ 0xE012 ∷ 0x00F0D121 ∷ [])
    ≡ codes ", Centimeter (SI Linear)" ∷ codes ", Gram (SI Linear)" ∷ codes ", Centimeter Seconds^-1 (SI Linear)"
    ∷ codes ", Centimeter^2 Gram Seconds^-2 (SI Linear)" ∷ codes ", Radians Seconds^-2 (SI Rotation)"
    ∷ codes ", Centimeter^2 Gram Seconds^-3 Ampere^-1 (SI Linear)" ∷ []
unfolding digits system_words first_factors last_factors factor_text
units = refl

-- English units, no unit, and units of a reserved and of a vendor's system
other_units : map unit_words (0x10013 ∷ 0x14 ∷ 0 ∷ 0x15 ∷ 0x1F ∷ [])
    ≡ codes ", Inch Fahrenheit (English Linear)" ∷ codes ", Degrees (English Rotation)" ∷ codes ", None" ∷ [] ∷ [] ∷ []
unfolding digits system_words first_factors last_factors factor_text
other_units = refl
