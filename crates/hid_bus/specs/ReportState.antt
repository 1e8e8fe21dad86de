-- How a configured device stands between its polls, and which of its reports is due (USB 2.0, 8.5.4 and 9.4.5; HID
-- 1.11, 7.2.4; our choice).
use Rattle.std.specs.Prelude.{ℕ, ◌+◌, ◌*◌, Bool, true, false, if◌then◌else◌, ◌&&◌, ◌||◌, nat_lt, nat_le, min, List, map, length, slice_index, slice_index_or, slice_set, replicate, Option, Some, None, Ok, Err}
use Rattle.std.specs.List.{find, range_with_len}
use Rattle.hid_layout.specs.Controls.{Item}
use Rattle.hid_snapshots.specs.declared.control_state.ControlState.{ControlState}
use Rattle.hid_snapshots.specs.declared.change.Change.{Change}
use Rattle.hid_snapshots.specs.Snapshots.{snapshot_after}
use Rattle.hid_snapshots.specs.Parts.{blank_parts, shown_parts, without_part_motion, is_changed}

-- The controls as they are now; the parts that were fixed last, blank where none was; and for each Input report the
-- frames since its last round opened, or since the configuration, its idle time in units of four frames, and whether
-- its round was aborted: a halt or a clear ended its last one, and since then no round of it opened, no configuration
-- took effect, and the bus wasn't reset.
pub record ReportState : Type 0 where
  pub snapshot : List ControlState
  pub fixed : List ControlState
  pub frames : List ℕ
  pub idle : List ℕ
  pub aborted : List Bool

-- the most frames that are counted: the longest idle time, 255 units of four frames (HID 1.11, 7.2.4)
abbrev pub most_frames : ℕ
most_frames = 1020

-- A device that was just configured: no part was fixed, no frame came and no round was aborted. The snapshot and the
-- idle times stay.
abbrev pub initial_reports : List Item → List ControlState → List ℕ → ReportState
initial_reports items snapshot idle = record {
  snapshot = snapshot;
  fixed = blank_parts items;
  frames = replicate (length idle) 0;
  idle = idle;
  aborted = replicate (length idle) false;
}

-- an idle time is over after a number of frames; an idle time of 0 never is, so that the report is sent on change alone
-- (HID 1.11, 7.2.4)
abbrev pub is_idle_over : ℕ → ℕ → Bool
is_idle_over idle frames = nat_lt 0 idle && nat_le (4 * idle) frames

-- A report is due where its controls call for it, its idle time is over, or its round was aborted.
abbrev pub is_due : List Item → ReportState → ℕ → Bool
is_due items d r =
    (is_changed items r d.snapshot d.fixed || is_idle_over (slice_index d.idle r) (slice_index d.frames r))
    || slice_index_or d.aborted r false

-- The due report of the lowest number: its controls call for it, or its idle time isn't 0 and is over, or its last round
-- was aborted. Example: a key pressed and released again calls for nothing
abbrev pub first_due : List Item → ReportState → Option ℕ
first_due items d = find (is_due items d) (range_with_len 0 (length d.frames))

-- The report whose round a token opens: a halted endpoint answers STALL and opens none, whatever is due (USB 2.0,
-- 8.5.4).
abbrev pub due_where : List Item → Bool → ReportState → Option ℕ
due_where items halted d = if halted then None else first_due items d

-- the report state after a change; one that is refused changes nothing
abbrev pub after_change : List Item → ReportState → Change → ReportState
after_change items d change =
    elim (snapshot_after items d.snapshot change) [
      | Ok states ↦ record { snapshot = states; fixed = d.fixed; frames = d.frames; idle = d.idle; aborted = d.aborted }
      | Err fault ↦ d
    ]

-- the report state after a frame, which counts for each report
abbrev pub after_frame : ReportState → ReportState
after_frame d = record {
  snapshot = d.snapshot;
  fixed = d.fixed;
  frames = map (λ n. min (n + 1) most_frames) d.frames;
  idle = d.idle;
  aborted = d.aborted;
}

-- The report state once idle times are set, one for each Input report: frames are counted on, so a report may be due at
-- once (HID 1.11, 7.2.4; our choice). Example: after eight frames an idle time of two units is over
abbrev pub with_idle : List ℕ → ReportState → ReportState
with_idle idle d = record { snapshot = d.snapshot; fixed = d.fixed; frames = d.frames; idle = idle; aborted = d.aborted }

-- an idle time of 0 for each report, as at a reset
abbrev pub no_idle : List ℕ → List ℕ
no_idle idle = replicate (length idle) 0

-- The report state once a halt or a clear ended the round of a report, if one was open, also if it had crossed: the
-- report is due until a round of it opens, or a configuration or a reset starts again (USB 2.0, 9.4.5; our choice).
abbrev pub with_abort : Option ℕ → ReportState → ReportState
with_abort None d = d
with_abort (Some r) d =
    record { snapshot = d.snapshot; fixed = d.fixed; frames = d.frames; idle = d.idle; aborted = slice_set d.aborted r true }

-- The report state once parts are fixed for a report: their motion is taken out of the snapshot, its frames are counted
-- again, and its abort flag is cleared.
abbrev pub with_fixed_parts : List Item → ℕ → ReportState → List ControlState → ReportState
with_fixed_parts items r d parts = record {
  snapshot = without_part_motion items r d.snapshot parts;
  fixed = parts;
  frames = slice_set d.frames r 0;
  idle = d.idle;
  aborted = slice_set d.aborted r false;
}

-- The report state once a round of a report opened: the part that it shows is fixed, its motion is taken out of the
-- snapshot, its frames are counted again, and its abort flag is cleared. Example: 200 to the right: 127 fixed, 73 stay
abbrev pub after_opening : List Item → ℕ → ReportState → ReportState
after_opening items r d = with_fixed_parts items r d (shown_parts items r d.snapshot d.fixed)
