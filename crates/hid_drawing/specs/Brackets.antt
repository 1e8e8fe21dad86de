-- The collections of a report, and the bytes that they take (HID 1.11, 6.2.2.6).
use Rattle.std.specs.Prelude.{ℕ, zero, suc, ◌+◌, ◌-◌, ◌*◌, ◌/◌, max, ◌==◌, ◌&&◌, List, [], ◌∷◌, ◌++◌, length, slice_get, unwrap_or, Option, None, Some, if◌then◌else◌}
use Rattle.hid_items.specs.declared.encoding.Item.{Item}
use Rattle.hid_report_descriptor.specs.Items.{is, COLLECTION, END_COLLECTION}
use Rattle.hid_report_descriptor.specs.Matching.{waiting_after}
use Rattle.hid_layout.specs.declared.main_item.MainItem.{MainItem}
use Rattle.hid_layout.specs.Layout.{Contents}
use Rattle.hid_layout.specs.Reports.{first_bit}
use Rattle.hid_drawing.specs.Items.{item_encoding_at}
use Rattle.hid_drawing.specs.declared.brackets.Bracket.{Bracket}
use Rattle.hid_drawing.specs.Origins.{lies_in}

-- the first byte in which an item has bits
abbrev pub first_byte_of_bracket : Contents → MainItem → ℕ
first_byte_of_bracket layout item = (first_bit layout + item.offset) / 8

-- the last byte in which an item has bits
abbrev pub last_byte : Contents → MainItem → ℕ
last_byte layout item = ((first_bit layout + (item.offset + item.size * item.count)) - 1) / 8

-- the place of the main item of a listed item
abbrev pub main_at : List ℕ → ℕ → ℕ
main_at mains i = unwrap_or (slice_get mains i) 0

-- a bracket that reaches to one more item, or begins with it
abbrev pub extended_bracket : Contents → ℕ → MainItem → Option Bracket → Bracket
extended_bracket layout i item None =
    record { level = 0; item = i; first = first_byte_of_bracket layout item; last = last_byte layout item }
extended_bracket layout i item (Some bracket) = record bracket { last = last_byte layout item }

-- the bracket of a collection once an item has come
abbrev pub bracket_with : Contents → List Item → List ℕ → ℕ → ℕ → ℕ → Option Bracket → Option MainItem → Option Bracket
bracket_with layout items mains r c i bracket None = bracket
bracket_with layout items mains r c i bracket (Some item) =
    if (item.report == r)
    && lies_in items c (main_at mains i) then Some (extended_bracket layout i item bracket) else bracket

-- the bracket of the collection at a place, by the first listed items
abbrev pub bracket_below : Contents → List Item → List ℕ → ℕ → ℕ → ℕ → Option Bracket
bracket_below layout items mains r c zero = None
bracket_below layout items mains r c (suc i) =
    bracket_with layout items mains r c i (bracket_below layout items mains r c i) (slice_get layout.items i)

-- how many collections are open after the first items
abbrev pub open_below : List Item → ℕ → ℕ
open_below items zero = 0
open_below items (suc k) =
    waiting_after END_COLLECTION COLLECTION (open_below items k) (item_encoding_at items k)

-- how many collections are round a place: those open there, but for the one that ends there
abbrev pub round_at : List Item → ℕ → ℕ
round_at items c = open_below items c - (if is END_COLLECTION (item_encoding_at items c) then 1 else 0)

-- the bracket with the number of collections from the outermost one to it
abbrev pub with_level : List Item → ℕ → Option Bracket → List Bracket
with_level items c None = []
with_level items c (Some bracket) = record bracket { level = round_at items c + 1 } ∷ []

-- the bracket of the collection at a place, where the report has an item in it
abbrev pub bracket_at : Contents → List Item → List ℕ → ℕ → ℕ → List Bracket
bracket_at layout items mains r c =
    with_level items c (bracket_below layout items mains r c (length layout.items))

-- the brackets of the collections at the first places
abbrev pub brackets_below : Contents → List Item → List ℕ → ℕ → ℕ → List Bracket
brackets_below layout items mains r zero = []
brackets_below layout items mains r (suc c) =
    brackets_below layout items mains r c ++ bracket_at layout items mains r c

-- the brackets of a report, in the order of the descriptor
abbrev pub brackets_of : Contents → List Item → List ℕ → ℕ → List Bracket
brackets_of layout items mains r = brackets_below layout items mains r (length items)

-- the greatest level, from one on
abbrev pub deepest_from : ℕ → List Bracket → ℕ
deepest_from level [] = level
deepest_from level (bracket ∷ brackets) = deepest_from (max level bracket.level) brackets

-- how many brackets stand in one another
abbrev pub bracket_depth : List Bracket → ℕ
bracket_depth brackets = deepest_from 0 brackets
