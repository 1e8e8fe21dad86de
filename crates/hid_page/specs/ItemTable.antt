-- The items of a descriptor as a table (HID 1.11, 6.2.2; the words are those of the standard).
use Rattle.std.specs.Prelude.{ℕ, ◌+◌, ◌/◌, ◌%◌, ◌^◌, nat_le, drop, Bool, true, ◌==◌, ◌||◌, List, [], ◌∷◌, ◌++◌, length, slice_get, unwrap_or, map, if◌then◌else◌, Option, None, Some, codes}
use Rattle.std.specs.Borrow.{Bor}
use Rattle.std.specs.Fmt.{decimal, digits, signed_decimal}
use Rattle.hid_report_descriptor.specs.Items.{EncodedItem, is_main, is_field, INPUT, USAGE_PAGE, COLLECTION}
use Rattle.hid_report_descriptor.specs.declared.usage.Usage.{Usage}
use Rattle.hid_items.specs.ItemEncoding.{prefix_of}
use Rattle.hid_items.specs.declared.encoding.Item.{Item}
use Rattle.hid_notation.specs.Text.{hex_text, bytes_text, concat_below}
use Rattle.hid_page.specs.declared.item_table.TheConstants.{ITEM_NAMES, ITEMS_HEAD, TABLE_END}
use Rattle.hid_page.specs.declared.units.TheConstants.{UNIT}
use Rattle.hid_drawing.specs.Escape.{escaped_words}
use Rattle.hid_drawing.specs.Brackets.{round_at}
use Rattle.hid_page.specs.ItemNumbers.{LONG, item_number, signed_number, exponent_of, item_number_at}
use Rattle.hid_page.specs.Units.{unit_words}
use Rattle.hid_names.specs.PageNames.{page_name}
use Rattle.hid_drawing.specs.Label.{usage_label}
use Rattle.hid_drawing.specs.Origins.{global_place}
use Rattle.hid_drawing.specs.Words.{flags_text, collection_name}

-- what a table of names has under a prefix
abbrev pub name_in_table : List (ℕ × List ℕ) → ℕ → List ℕ
name_in_table [] prefix = codes "Reserved"
name_in_table (row ∷ rows) prefix = if prefix == row.0 then row.1 else name_in_table rows prefix

-- prefixes and names
abbrev pub names_of : List (ℕ × Bor (List ℕ)) → List (ℕ × List ℕ)
names_of rows = map (λ row. (row.0, row.1.now)) rows

-- the name of an item
unfoldable pub item_name : ℕ → List ℕ
item_name prefix = name_in_table (map (λ row. (row.0, row.1.now)) ITEM_NAMES) prefix

-- the first byte of an item
abbrev pub first_of : EncodedItem → ℕ
first_of [] = 0
first_of (first ∷ rest) = first

-- what an item is called: FE is the first byte of a long item (6.2.2.3)
abbrev pub name_of_item : EncodedItem → List ℕ
name_of_item item = if first_of item == 0xFE then codes "Long item" else item_name (prefix_of item)

-- the next main item, where the first of these items stands at a place
abbrev pub next_main : ℕ → List Item → Option ℕ
next_main place [] = None
next_main place (item ∷ items) = if is_main item.bytes.now then Some place else next_main (place + 1) items

-- where the page of a usage is looked up: at the next main item of the table, or at the usage where none follows
abbrev pub page_place : List Item → ℕ → ℕ
page_place items k = unwrap_or (next_main k (drop k items)) k

-- the page in force where the page of a usage is looked up
abbrev pub page_at : List Item → ℕ → ℕ
page_at items k = item_number_at items (global_place items (page_place items k) USAGE_PAGE) % 2 ^ 16

-- the usage that a local item names: one of four bytes has its page in the high word
abbrev pub usage_on : ℕ → EncodedItem → Usage
usage_on page item =
    if length item == 5 then record { page = item_number item / 2 ^ 16; id = item_number item % 2 ^ 16 }
    else record { page = page; id = item_number item % 2 ^ 16 }

-- a number with a sign: a minimum or a maximum
abbrev pub is_item_signed : ℕ → Bool
is_item_signed prefix = prefix == 0x14 || (prefix == 0x24 || (prefix == 0x34 || prefix == 0x44))

-- the prefix of a Unit Exponent
abbrev pub UNIT_EXPONENT : ℕ
UNIT_EXPONENT = 0x54

-- a usage, or an end of a range of usages
abbrev pub is_usage : ℕ → Bool
is_usage prefix = prefix == 0x08 || (prefix == 0x18 || prefix == 0x28)

-- a name after a page's number, where it has one
abbrev pub after_page : Option (List ℕ) → List ℕ
after_page None = []
after_page (Some name) = codes ": " ++ name

-- a page by its number and its name. Example: 01: Generic Desktop
abbrev pub page_words : ℕ → List ℕ
page_words page = hex_text page ++ after_page (page_name page)

-- the number of an item: of a page in hex, with its name; of a unit in hex, whose digits are its system and its powers, with its
-- words; others in decimal
abbrev pub number_text : ℕ → EncodedItem → List ℕ
number_text prefix item =
    if is_item_signed prefix then signed_decimal (signed_number item)
    else if prefix == UNIT_EXPONENT then signed_decimal (exponent_of (item_number item) (signed_number item))
    else if prefix == USAGE_PAGE then page_words (item_number item % 2 ^ 16)
    else if prefix == UNIT then digits 16 true (item_number item) ++ unit_words (item_number item)
    else decimal (item_number item)

-- what the data of an item say: flags, a kind of collections, a usage or a number
unfoldable pub data_text : ℕ → EncodedItem → List ℕ
data_text page item =
    if nat_le (length item) 1 then []
    else if is_field item then 32 ∷ flags_text (prefix_of item == INPUT) (item_number item % 2 ^ 9)
    else if prefix_of item == COLLECTION then 32 ∷ collection_name (item_number item % 2 ^ 8)
    else if is_usage (prefix_of item) then 32 ∷ escaped_words (usage_label (usage_on page item))
    else if prefix_of item == LONG then []
    else 32 ∷ number_text (prefix_of item) item

-- a row begins with the place of the item, to which links lead
unfoldable pub item_row_head : ℕ → List ℕ
item_row_head at =
    codes "<tr id='at" ++ decimal at ++ codes "'><th scope='row'>" ++ decimal at ++ codes "</th><td><code>"

-- an item is indented by the collections round it
unfoldable pub item_words : List Item → ℕ → EncodedItem → List ℕ
item_words items k item =
    concat_below (round_at items k) (λ i. codes "&emsp;") ++ name_of_item item
    ++ data_text (page_at items k) item

-- the row of an item: its place, its bytes, and what it is
unfoldable pub item_row : List Item → ℕ → Item → List ℕ
item_row items k item =
    item_row_head item.at ++ bytes_text item.bytes.now ++ codes "</code></td><td>"
    ++ item_words items k item.bytes.now
    ++ codes "</td></tr>" ++ 10 ∷ []

-- the row of an item; no text where there is none
abbrev pub row_at : List Item → ℕ → Option Item → List ℕ
row_at items k None = []
row_at items k (Some item) = item_row items k item

-- the rows of items
unfoldable pub item_rows : List Item → List ℕ
item_rows items = concat_below (length items) (λ k. row_at items k (slice_get items k))

-- the first items of a descriptor as a table
unfoldable pub item_table : List Item → List ℕ
item_table items = ITEMS_HEAD.now ++ item_rows items ++ TABLE_END.now
