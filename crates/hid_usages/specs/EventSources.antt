-- An item whose changes are events: the usages of its elements, as one range gives them (HID 1.11, 6.2.2.8).
use Rattle.std.specs.Prelude.{◌≡◌, ℕ, ◌+◌, ◌^◌, ◌<◌, ◌≤◌, min, List, [], ◌∷◌, ℤ, length, drop, slice_get, Some}
use Rattle.hid_report_descriptor.specs.Usages.{Entry, usage_list}
use Rattle.hid_report_descriptor.specs.declared.usage.Usage.{Usage}
use Rattle.hid_layout.specs.declared.control.ControlId.{ControlId}
use Rattle.hid_layout.specs.Layout.{Contents}
use Rattle.hid_snapshots.specs.declared.event.Event.{Event}
use Rattle.hid_snapshots.specs.declared.event.Event.TheVariants as event
use Rattle.hid_snapshots.specs.Events.{usages_at}
use Rattle.hid_usages.specs.declared.event_source.EventSource.{EventSource}
use Rattle.hid_usages.specs.declared.event_source.ItemUsages.{ItemUsages}
use Rattle.hid_usages.specs.declared.event_source.UsageRun.{UsageRun}

-- the usage that a range gives to an element: after its last one that one
abbrev pub usage_in_range : ItemUsages → ℕ → Usage
usage_in_range usages j = record { page = usages.page; id = usages.id + min j usages.more }

-- The elements of an item before an end have the usages of a range. Example: 09:01 to 09:03 give five elements 09:01, 09:02,
-- 09:03, 09:03 and 09:03
pub record AreUsages (layout : Contents) (i : ℕ) (usages : ItemUsages) : Type 0 where
  pub fits : usages.id + usages.more < 2 ^ 16
  pub each : (j : ℕ) → j < usages.end → j < length (usages_at layout i)
      → slice_get (usages_at layout i) j ≡ Some (usage_in_range usages j)

-- the usages of a range follow so many from a first one on
pub record Follows (entry : Entry) (first : Usage) (count : ℕ) : Type 0 where
  pub page : entry.0.page ≡ first.page
  pub id : entry.0.id ≡ first.id + count

-- The first ranges give usages that follow each other. Example: of 01:30, 01:31, 01:32 and 01:35 the first three
pub record IsRun (entries : List Entry) (first : Usage) (run : UsageRun) : Type 0 where
  pub within : run.ranges ≤ length entries
  pub fits : first.id + run.count ≤ 2 ^ 16
  pub each : (j : ℕ) → j < run.count → slice_get (usage_list entries) j ≡ Some (record { page = first.page; id = first.id + j })
  pub all : length (usage_list entries) ≡ run.count + length (usage_list (drop run.ranges entries))

-- the usages of a source are those of its item's elements
abbrev pub IsSource : EventSource → Type 0
IsSource source = AreUsages source.layout.now source.item source.usages.now

-- the usages of the elements of a source's item
abbrev pub usages_of_source : EventSource → List Usage
usages_of_source source = usages_at source.layout.now source.item

-- the event of a value that becomes a number
abbrev pub number_event : ControlId → Usage → ℤ → List Event
number_event c u v = event.Value c u v ∷ []

-- the event of a value that becomes null (HID 1.11, 5.10)
abbrev pub null_event : ControlId → Usage → List Event
null_event c u = event.Null c u ∷ []
