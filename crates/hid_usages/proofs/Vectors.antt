-- Values of the definitions, worked out by hand.
use Rattle.std.specs.Prelude.{◌≡◌, ℕ, Bool, true, false, List, [], ◌∷◌, None, Ok, Err, pos, negsuc, refl, replicate}
use Rattle.hid_report_descriptor.specs.declared.report.Report.{Report}
use Rattle.hid_report_descriptor.specs.declared.report.ReportKind.TheVariants.{Input}
use Rattle.hid_layout.specs.Controls.{Item}
use Rattle.hid_layout.specs.Layout.{Contents}
use Rattle.hid_snapshots.specs.declared.control_state.ControlState.{ControlState}
use Rattle.hid_snapshots.specs.declared.control_state.ControlState.TheVariants.{Absent, Switches, Values, Motions}
use Rattle.hid_snapshots.specs.declared.change.Change.{Change}
use Rattle.hid_snapshots.specs.declared.change.Change.TheVariants as change
use Rattle.hid_snapshots.specs.declared.fault.ChangeFault.TheVariants as fault
use Rattle.hid_snapshots.specs.declared.event.Event.{Event}
use Rattle.hid_snapshots.specs.declared.event.Event.TheVariants as event
use Rattle.hid_snapshots.specs.ControlStates.{blank}
use Rattle.hid_snapshots.specs.Snapshots.{OrFault, snapshot_after}
use Rattle.hid_snapshots.specs.Parts.{blank_parts, shown_parts, without_part_motion, is_changed}
use Rattle.hid_usages.specs.Boot.{keyboard_of, is_boot_key_held, mouse_in}
use Rattle.hid_usages.specs.Receiving.{ReceiverState, ends_with, packet_outcome}
use Rattle.hid_usages.specs.declared.receiver.Arrived.TheVariants.{Part, Whole}
use Rattle.hid_snapshots.specs.declared.fault.ReportFault.TheVariants.{Short, UnknownReport}
use Rattle.hid_snapshots.specs.Events.{control_at}
use Rattle.hid_snapshots.specs.Views.{view_after_part, events_between}
use Rattle.hid_snapshots.specs.Words.{words_in}
use Rattle.hid_snapshots.specs.Keys.{key_words}
use Rattle.hid_snapshots.specs.Samples.{usage, keyboard, mouse, hat, wheel_and_button}

-- the snapshot after these changes of a blank one, one after the other
abbrev after : List Item → OrFault (List ControlState) → List Change → OrFault (List ControlState)
after items states [] = states
after items (Err f) (c ∷ changes) = Err f
after items (Ok states) (c ∷ changes) = after items (snapshot_after items states c) changes

abbrev changes_of : List Item → List Change → OrFault (List ControlState)
changes_of items changes = after items (Ok (blank items)) changes

abbrev kept : OrFault (List ControlState) → List ControlState
kept (Ok states) = states
kept (Err f) = []

-- what a report delivers in a view of blank parts, and what it leaves in the snapshot
abbrev told : List Item → ℕ → List Change → List Event
told items r changes =
    let states = kept (changes_of items changes) in
    let parts = shown_parts items r states (blank_parts items) in
    events_between items r (blank items) (view_after_part items r (blank items) parts) parts

abbrev left : List Item → ℕ → List Change → List ControlState
left items r changes = let states =
    kept (changes_of items changes) in
    without_part_motion items r states (shown_parts items r states (blank_parts items))

abbrev due : List Item → ℕ → List Change → Bool
due items r changes = is_changed items r (kept (changes_of items changes)) (blank_parts items)

-- a key that is pressed goes down
one_key : told keyboard 0 (change.Press (control_at 4 4) ∷ []) ≡ event.Down (control_at 4 4) (usage 7 4) ∷ []
one_key = refl

-- a key that is pressed and released before a report calls for none
no_key : due keyboard 0 (change.Press (control_at 4 4) ∷ change.Release (control_at 4 4) ∷ []) ≡ false
no_key = refl

-- seven keys roll over, and a modifier goes on
rolled_over : told keyboard 0 (change.Press (control_at 4 4) ∷ change.Press (control_at 4 5) ∷ change.Press (control_at 4 6) ∷ change.Press (control_at 4 7) ∷ change.Press (control_at 4 8) ∷ change.Press (control_at 4 9) ∷ change.Press (control_at 4 10) ∷ change.Press (control_at 0 1) ∷ [])
    ≡ event.Down (control_at 0 1) (usage 7 0xE1) ∷ []
rolled_over = refl

-- 200 to the right: 127 now, and 73 stay
far_right : told mouse 0 (change.Move (control_at 2 0) (pos 200) ∷ []) ≡ event.Motion (control_at 2 0) (usage 1 0x30) (pos 127) ∷ []
far_right = refl

rest_stays : left mouse 0 (change.Move (control_at 2 0) (pos 200) ∷ []) ≡ Switches (false ∷ false ∷ false ∷ []) ∷ Absent
    ∷ Motions (pos 73 ∷ pos 0 ∷ []) ∷ []
rest_stays = refl

-- 200 to the left
far_left : told mouse 0 (change.Move (control_at 2 0) (negsuc 199) ∷ []) ≡ event.Motion (control_at 2 0) (usage 1 0x30) (negsuc 126) ∷ []
far_left = refl

-- a hat switch begins at null
hat_is_null : blank hat ≡ Values (None ∷ []) ∷ Absent ∷ []
hat_is_null = refl

hat_north : told hat 0 (change.Set (control_at 0 0) (pos 0) ∷ []) ≡ event.Value (control_at 0 0) (usage 1 0x39) (pos 0) ∷ []
hat_north = refl

hat_null_again : due hat 0 (change.Set (control_at 0 0) (pos 0) ∷ change.Null (control_at 0 0) ∷ []) ≡ false
hat_null_again = refl

-- each report calls for itself
two_reports : told wheel_and_button 0 (change.Press (control_at 1 0) ∷ change.Move (control_at 0 0) (negsuc 0) ∷ []) ≡ event.Motion (control_at 0 0) (usage 1 0x30) (negsuc 0) ∷ []
two_reports = refl

other_report : told wheel_and_button 1 (change.Press (control_at 1 0) ∷ change.Move (control_at 0 0) (negsuc 0) ∷ []) ≡ event.Down (control_at 1 0) (usage 9 1) ∷ []
other_report = refl

-- refusals, in their order
no_such_key : changes_of keyboard (change.Press (control_at 4 1) ∷ []) ≡ Err fault.NoSuchControl
no_such_key = refl

no_switch : changes_of mouse (change.Press (control_at 2 0) ∷ []) ≡ Err fault.WrongKind
no_switch = refl

over_seven : changes_of hat (change.Set (control_at 0 0) (pos 8) ∷ []) ≡ Err fault.OutOfRange
over_seven = refl

full_motion : changes_of mouse (change.Move (control_at 2 0) (pos 0x7FFF_FFFF) ∷ change.Move (control_at 2 0) (pos 1) ∷ []) ≡ Err fault.MotionFull
full_motion = refl

-- a boot keyboard's report: the left Shift and a, and seven keys
shift_and_a : is_boot_key_held (keyboard_of (0x02 ∷ 0 ∷ 0x04 ∷ 0 ∷ 0 ∷ 0 ∷ 0 ∷ 0 ∷ [])) 0xE1 ≡ true
shift_and_a = refl

boot_rolled_over : is_boot_key_held (keyboard_of (0x02 ∷ 0 ∷ 1 ∷ 1 ∷ 1 ∷ 1 ∷ 1 ∷ 1 ∷ [])) 0x04 ≡ false
boot_rolled_over = refl

-- a boot mouse's report: the first and third button, to the right and up
right_and_up : mouse_in (0x05 ∷ 0x7F ∷ 0x81 ∷ []) ≡ Ok (record { buttons = 5; x = pos 127; y = negsuc 126 })
right_and_up = refl

-- the seven keys after 07:04 are kept in two words, and 07:E1 is none of them
seven_keys : List Change
seven_keys = change.Press (control_at 4 4) ∷ change.Press (control_at 4 5) ∷ change.Press (control_at 4 6) ∷ change.Press (control_at 4 7) ∷ change.Press (control_at 4 8) ∷ change.Press (control_at 4 9) ∷ change.Press (control_at 4 10) ∷ []

keys_in_words : key_words (kept (changes_of keyboard (change.Press (control_at 0 1) ∷ seven_keys))) 4 ≡ 0x7F0 ∷ 0 ∷ []
unfolding words_in seven_keys
keys_in_words = refl

-- a set of keys that rolls over after another that did calls for no report
second_set : is_changed keyboard 0 (kept (changes_of keyboard (change.Press (control_at 4 11) ∷ seven_keys)))
    (shown_parts keyboard 0 (kept (changes_of keyboard seven_keys)) (blank_parts keyboard)) ≡ false
unfolding seven_keys
second_set = refl

-- two Input reports: 1 has 2 bytes, 2 has 100
abbrev input : ℕ → ℕ → Report
input id bits = record { kind = Input; id = id; bits = bits }

abbrev short_and_long : Contents
short_and_long = record {
  reports = input 1 8 ∷ input 2 792 ∷ [];
  numbered = true;
  items = [];
  entries = [];
  paths = [];
}

abbrev got : List ℕ → ReceiverState
got collected = record { layout = short_and_long; view = []; collected = collected }

-- 100 bytes come in two packets, of 64 and 36
first_of_two : packet_outcome 64 (got []) (replicate 64 2) ≡ Ok Part
first_of_two = refl

last_of_two : packet_outcome 64 (got (replicate 64 2)) (replicate 36 1) ≡ Ok Whole
last_of_two = refl

-- a packet of 63 bytes ends a report that should have more
ended_early : packet_outcome 64 (got []) (replicate 63 2) ≡ Err Short
ended_early = refl

-- they come in seven packets of up to 16, and in one of an endpoint of 512: a full packet is the endpoint's
goes_on_by_16 : packet_outcome 16 (got (replicate 80 2)) (replicate 16 2) ≡ Ok Part
goes_on_by_16 = refl

last_of_seven : packet_outcome 16 (got (replicate 96 2)) (replicate 4 2) ≡ Ok Whole
last_of_seven = refl

one_of_512 : packet_outcome 512 (got []) (replicate 100 2) ≡ Ok Whole
one_of_512 = refl

-- a full packet ends a report that has no more
full_and_short : packet_outcome 64 (got []) (replicate 64 1) ≡ Ok Whole
full_and_short = refl

-- no report has the number 9: 256 bytes are awaited, and refused
unknown_goes_on : ends_with 64 (got (replicate 128 9)) (replicate 64 9) ≡ false
unknown_goes_on = refl

unknown_ends : packet_outcome 64 (got (replicate 192 9)) (replicate 64 9) ≡ Err UnknownReport
unknown_ends = refl
