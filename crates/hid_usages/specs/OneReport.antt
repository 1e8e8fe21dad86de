-- That a report shows its own part alone: parts of other reports change neither its bytes nor what a view sees nor its
-- events (our choice; HID 1.11, 5.6 and 8).
use Rattle.std.specs.Prelude.{◌≡◌, ℕ, true, List, length, slice_get, Some}
use Rattle.hid_layout.specs.Layout.{Contents}
use Rattle.hid_layout.specs.Reports.{IsLayout}
use Rattle.hid_layout.specs.Controls.{Item, items_of}
use Rattle.hid_snapshots.specs.declared.control_state.ControlState.{ControlState}
use Rattle.hid_snapshots.specs.Encoding.{IsEncoding, part_numbers}
use Rattle.hid_snapshots.specs.Parts.{IsInput, is_of}
use Rattle.hid_snapshots.specs.Views.{view_after_part, events_between}

-- two lists of parts are the same for the items of a report
pub record SamePartsOfReport (items : List Item) (r : ℕ) (parts others : List ControlState) : Type 0 where
  pub one_each : length others ≡ length parts
  pub same : (i : ℕ) (item : Item) → slice_get items i ≡ Some item → is_of r item ≡ true
      → slice_get parts i ≡ slice_get others i

-- a view sees nothing of the parts of other reports
abbrev pub SeesOneReport : Type 0
SeesOneReport =
    (items : List Item) (r : ℕ) (view parts others : List ControlState)
    → SamePartsOfReport items r parts others
    → view_after_part items r view parts ≡ view_after_part items r view others

-- the events of a report don't depend on the parts of other reports
abbrev pub IsOneReportsOwn : Type 0
IsOneReportsOwn =
    (items : List Item) (r : ℕ) (before after parts others : List ControlState)
    → SamePartsOfReport items r parts others
    → events_between items r before after parts ≡ events_between items r before after others

-- the bytes of a report show nothing of the parts of other reports
abbrev pub ShowsOneReport : Type 0
ShowsOneReport =
    (layout : Contents) (r : ℕ) (parts others : List ControlState) (bytes : List ℕ) → IsLayout layout
    → IsInput layout r → SamePartsOfReport (items_of layout) r parts others
    → IsEncoding layout r (part_numbers layout parts) bytes → IsEncoding layout r (part_numbers layout others) bytes
