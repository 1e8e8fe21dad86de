-- The codes of arrays, one pair for each listed item (our choice; HID 1.11, 6.2.2.5 on arrays).
use Rattle.std.specs.Prelude.{List, [], ◌∷◌, Bool, true, false, ◌&&◌, if◌then◌else◌, is_some}
use Rattle.hid_report_descriptor.specs.declared.shape.Shape.{Shape}
use Rattle.hid_report_descriptor.specs.declared.shape.Shape.TheVariants.{Padding, Variable, Array}
use Rattle.hid_report_descriptor.specs.declared.report.Report.{Report}
use Rattle.hid_layout.specs.Controls.{is_input}
use Rattle.hid_layout.specs.declared.main_item.MainItem.{MainItem}
use Rattle.hid_report_descriptor.specs.Usages.{Entry, usage_list}
use Rattle.hid_layout.specs.Layout.{Contents}
use Rattle.hid_layout.specs.Codes.{empty_number}

-- the elements of an item of this shape name keys
abbrev pub is_array : Shape → Bool
is_array Padding = false
is_array Variable = false
is_array Array = true

-- an array among the Input items has a code that names nothing
abbrev pub has_empty_code : List Report → MainItem → List Entry → Bool
has_empty_code reports item es =
    if is_input reports item.report && is_array item.shape then is_some (empty_number item (usage_list es)) else true

-- each of these items that is an Input array has a code that names nothing
abbrev pub empty_codes_from : List Report → List MainItem → List (List Entry) → Bool
empty_codes_from reports [] ess = true
empty_codes_from reports (item ∷ items) [] = true
empty_codes_from reports (item ∷ items) (es ∷ ess) =
    has_empty_code reports item es && empty_codes_from reports items ess

-- every Input array has a code that names nothing
abbrev pub has_empty_codes : Contents → Bool
has_empty_codes layout = empty_codes_from layout.reports layout.items layout.entries
