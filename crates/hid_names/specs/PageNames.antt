-- What usage pages are called (HID Usage Tables, 3).
use Rattle.std.specs.Prelude.{ℕ, List, map, nat_le, if◌then◌else◌, Option, Some, codes}
use Rattle.hid_names.specs.declared.page_names.TheConstants.{PAGES}
use Rattle.hid_names.specs.Pages.{name_under}

-- the pages of the tables
unfoldable pub standard_pages : List (ℕ × List ℕ)
standard_pages = map (λ row. (row.0, row.1.now)) PAGES

-- The name of a page, if it has one: those from FF00 on are of vendors. Example: 07 is Keyboard/Keypad
unfoldable pub page_name : ℕ → Option (List ℕ)
page_name page = if nat_le 0xFF00 page then Some (codes "Vendor-defined") else name_under standard_pages page
