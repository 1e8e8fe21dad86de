-- That a report crosses: reading the bytes by which it shows its part gives the view and the events
-- of that part (our choice).
use Rattle.std.specs.Prelude.{◌≡◌, ◌++◌, ℕ, true, List, Result, Ok}
use Rattle.hid_layout.specs.Layout.{Contents}
use Rattle.hid_layout.specs.Reports.{IsLayout}
use Rattle.hid_layout.specs.Controls.{Item, items_of}
use Rattle.hid_snapshots.specs.declared.control_state.ControlState.{ControlState}
use Rattle.hid_snapshots.specs.declared.event.Event.{Event}
use Rattle.hid_snapshots.specs.declared.fault.ReportFault.{ReportFault}
use Rattle.hid_snapshots.specs.ControlStates.{FitsShown, FitsView}
use Rattle.hid_snapshots.specs.Codes.{has_empty_codes}
use Rattle.hid_snapshots.specs.Encoding.{AreBytes, IsEncoding, part_numbers}
use Rattle.hid_snapshots.specs.Parts.{IsInput}
use Rattle.hid_usages.specs.Reading.{report_named}
use Rattle.hid_usages.specs.Taking.{read_view, read_events, TakesReport}
use Rattle.hid_snapshots.specs.Views.{view_after_part, events_between}

-- The bytes name their report, and a view that reads them sees the part of that report and has the events of its
-- changes and its motions. Example: the mouse's 01 7F 81: button 1 down, X by 127, Y by -127
pub record ReadsAsShown (layout : Contents) (r : ℕ) (parts : List ControlState) (bytes : List ℕ)
    (before : List ControlState) : Type 0 where
  pub report : report_named layout bytes ≡ Ok r
  pub view : read_view layout r bytes before ≡ view_after_part (items_of layout) r before parts
  pub events : read_events layout r bytes before
      ≡ events_between (items_of layout) r before (view_after_part (items_of layout) r before parts) parts

-- the bytes by which an Input report shows the parts, of a layout whose arrays all have a code for an empty element.
-- Example: Shift and a on the keyboard is 02 00 04 00 00 00 00 00
pub record ShowsParts (layout : Contents) (r : ℕ) (parts : List ControlState) (bytes : List ℕ) : Type 0 where
  pub laid : IsLayout layout
  pub input : IsInput layout r
  pub fits : FitsShown (items_of layout) parts
  pub empty_codes : has_empty_codes layout ≡ true
  pub are_bytes : AreBytes bytes
  pub encoding : IsEncoding layout r (part_numbers layout parts) bytes

-- every report that shows a part is read as it was shown, in every view of the layout
abbrev pub PartsAreReadBack : Type 0
PartsAreReadBack =
    (layout : Contents) (r : ℕ) (parts : List ControlState) (bytes : List ℕ) (view : List ControlState)
    → ShowsParts layout r parts bytes → FitsView (items_of layout) view
    → ReadsAsShown layout r parts bytes view

-- what a view sees of parts is a view
abbrev pub SeenIsView : Type 0
SeenIsView =
    (items : List Item) (r : ℕ) (view parts : List ControlState) → FitsView items view
    → FitsShown items parts → FitsView items (view_after_part items r view parts)

-- The report is taken: the view then sees the part, and the events are appended.
pub record TakenAsShown (layout : Contents) (r : ℕ) (parts before : List ControlState) (out : List Event)
    (result : Result (Unit {0}) ReportFault) (after : List ControlState) (told : List Event) : Type 0 where
  pub accepted : result ≡ Ok tt
  pub view : after ≡ view_after_part (items_of layout) r before parts
  pub events : told ≡ out
      ++ events_between (items_of layout) r before (view_after_part (items_of layout) r before parts) parts

-- what takes reports takes every report that shows a part as it was shown
abbrev pub PartsAreTaken : Type 0
PartsAreTaken =
    (layout : Contents) (r : ℕ) (parts : List ControlState) (bytes : List ℕ) (before : List ControlState)
    (out : List Event) (result : Result (Unit {0}) ReportFault) (after : List ControlState)
    (told : List Event)
    → ShowsParts layout r parts bytes → FitsView (items_of layout) before
    → TakesReport layout bytes before out result after told
    → TakenAsShown layout r parts before out result after told
