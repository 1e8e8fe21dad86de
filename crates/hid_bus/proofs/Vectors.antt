-- Worked schedules of known devices, their rounds, their events and their link states: each is worked out by hand,
-- and a wrong one fails the check.
use Rattle.std.specs.Prelude.{◌≡◌, ℕ, Bool, true, false, List, [], ◌∷◌, ◌++◌, map, length, replicate, Some, None, ℤ, pos, negsuc, refl}
use Rattle.hid_layout.specs.Controls.{Item}
use Rattle.hid_snapshots.specs.declared.control_state.ControlState.TheVariants.{Absent, Switches, Motions}
use Rattle.hid_snapshots.specs.declared.change.Change.TheVariants as change
use Rattle.hid_snapshots.specs.declared.event.Event.{Event}
use Rattle.hid_snapshots.specs.declared.event.Event.TheVariants as event
use Rattle.usb_transact.specs.declared.transaction.Fate.TheVariants.{Clean, TokenLost, ReplyLost, AckLost}
use Rattle.hid_snapshots.specs.ControlStates.{blank}
use Rattle.hid_snapshots.specs.Events.{control_at}
use Rattle.hid_snapshots.specs.Parts.{blank_parts}
use Rattle.hid_snapshots.specs.Samples.{usage, keyboard, mouse, hat, wheel_and_button}
use Rattle.hid_bus.specs.ReportState.{initial_reports, first_due, after_frame}
use Rattle.hid_bus.specs.Rounds.{OwnStep, Changes, Frame, Polls, RoundHistory, has_crossed, has_closed, history_after_steps, initial_history, rounds, crossed_rounds, events_of_epoch}
use Rattle.hid_bus.specs.DeviceHistory.{flipped_toggle}
use Rattle.hid_bus.specs.LinkState.{expected_toggle}
use Rattle.hid_bus.specs.Motion.{motion_of_steps, motion_of_events, link_motion}
use Rattle.hid_bus.specs.WorkedHistories.{press, release, move, set, key_down, motion_x, state_after_own_steps}

abbrev null : ℕ → ℕ → OwnStep
null i j = Changes (change.Null (control_at i j))

-- the events since the configuration of a device on which nothing was pressed or moved before, without idle times
abbrev told : List Item → ℕ → List OwnStep → List Event
told items reports steps = events_of_epoch items (blank items) (replicate reports 0) steps

-- the history of that device after these steps
abbrev then : List Item → ℕ → List OwnStep → RoundHistory
then items reports steps = history_after_steps items steps (initial_history items (blank items) (replicate reports 0))

-- for each round whether it crossed and whether it closed
abbrev kinds : List Item → ℕ → List OwnStep → List (Bool × Bool)
kinds items reports steps =
    map (λ round. (has_crossed round, has_closed round))
    (rounds items steps (initial_history items (blank items) (replicate reports 0)))

-- a key that is pressed is told at the poll
one_key : told keyboard 1 (press 4 4 ∷ Polls Clean ∷ []) ≡ key_down 4 ∷ []
one_key = refl

-- a key that is released before the poll is never told, and no round opens
no_key : kinds keyboard 1 (press 4 4 ∷ release 4 4 ∷ Polls Clean ∷ []) ≡ []
no_key = refl

-- a report that is lost crosses at the next poll, in the same round
lost_report : told keyboard 1 (press 4 4 ∷ Polls ReplyLost ∷ Polls Clean ∷ []) ≡ key_down 4 ∷ []
lost_report = refl

lost_report_is_one_round : kinds keyboard 1 (press 4 4 ∷ Polls ReplyLost ∷ Polls Clean ∷ []) ≡ (true, true) ∷ []
lost_report_is_one_round = refl

not_crossed_yet : kinds keyboard 1 (press 4 4 ∷ Polls ReplyLost ∷ []) ≡ (false, false) ∷ []
not_crossed_yet = refl

-- where the acknowledgement is lost the round stays open, and its report is told once
lost_acknowledgement : told keyboard 1 (press 4 4 ∷ Polls AckLost ∷ Polls Clean ∷ []) ≡ key_down 4 ∷ []
lost_acknowledgement = refl

crossed_and_open : kinds keyboard 1 (press 4 4 ∷ Polls AckLost ∷ []) ≡ (true, false) ∷ []
crossed_and_open = refl

-- a key that is pressed while a round is open goes into the next one
next_round : told keyboard 1 (press 4 4 ∷ Polls AckLost ∷ press 4 5 ∷ Polls Clean ∷ Polls Clean ∷ []) ≡ key_down 4 ∷ key_down 5 ∷ []
next_round = refl

-- it isn't told before that
same_round : told keyboard 1 (press 4 4 ∷ Polls AckLost ∷ press 4 5 ∷ Polls Clean ∷ []) ≡ key_down 4 ∷ []
same_round = refl

-- 200 to the right: 127, then 73, and then nothing is due
far_right : told mouse 1 (move 2 0 (pos 200) ∷ Polls Clean ∷ Polls Clean ∷ Polls Clean ∷ []) ≡ motion_x (pos 127) ∷ motion_x (pos 73) ∷ []
far_right = refl

two_rounds : kinds mouse 1 (move 2 0 (pos 200) ∷ Polls Clean ∷ Polls Clean ∷ Polls Clean ∷ []) ≡ (true, true) ∷ (true, true) ∷ []
two_rounds = refl

-- 200 to the left; a retry takes no further motion
far_left : told mouse 1 (move 2 0 (negsuc 199) ∷ Polls AckLost ∷ Polls Clean ∷ Polls Clean ∷ []) ≡ motion_x (negsuc 126) ∷ motion_x (negsuc 72) ∷ []
far_left = refl

-- while more keys are pressed than there are elements the keys stay, and a modifier goes on
abbrev seven_keys : List OwnStep
seven_keys = press 4 4 ∷ press 4 5 ∷ press 4 6 ∷ press 4 7 ∷ press 4 8 ∷ press 4 9 ∷ press 4 10 ∷ []

rolled_over : told keyboard 1 (
    seven_keys ++ press 0 1 ∷ Polls Clean ∷ press 4 11 ∷ Polls Clean
    ∷ release 4 10 ∷ release 4 11 ∷ Polls Clean ∷ press 4 10 ∷ Polls Clean ∷ [])
    ≡ event.Down (control_at 0 1) (usage 7 0xE1)
    ∷ key_down 4 ∷ key_down 5 ∷ key_down 6 ∷ key_down 7 ∷ key_down 8 ∷ key_down 9 ∷ []
rolled_over = refl

-- between two sets of too many keys no round opens: the part is the same
same_rollover : kinds keyboard 1 (seven_keys ++ Polls Clean ∷ press 4 11 ∷ Polls Clean ∷ []) ≡ (true, true) ∷ []
same_rollover = refl

-- a hat switch begins at null, which isn't told
hat_turns : told hat 1 (Polls Clean ∷ set 0 0 (pos 0) ∷ Polls Clean ∷ null 0 0 ∷ Polls Clean ∷ [])
    ≡ event.Value (control_at 0 0) (usage 1 0x39) (pos 0) ∷ event.Null (control_at 0 0) (usage 1 0x39) ∷ []
hat_turns = refl

hat_north_west : told hat 1 (set 0 0 (pos 7) ∷ Polls Clean ∷ []) ≡ event.Value (control_at 0 0) (usage 1 0x39) (pos 7) ∷ []
hat_north_west = refl

-- of two due reports the lower one goes first, and a token that is lost opens no round
two_reports : told wheel_and_button 2 (press 1 0 ∷ move 0 0 (negsuc 0) ∷ Polls TokenLost ∷ Polls Clean ∷ Polls Clean ∷ Polls Clean ∷ [])
    ≡ event.Motion (control_at 0 0) (usage 1 0x30) (negsuc 0) ∷ event.Down (control_at 1 0) (usage 9 1) ∷ []
two_reports = refl

no_round_yet : kinds wheel_and_button 2 (press 1 0 ∷ Polls TokenLost ∷ []) ≡ []
no_round_yet = refl

button_is_second : first_due wheel_and_button (then wheel_and_button 2 (press 1 0 ∷ [])).reports ≡ Some 1
button_is_second = refl

-- an idle time of four frames: the report goes again once they passed, and tells nothing new (HID 1.11, 7.2.4)
abbrev idle_keyboard : List OwnStep → List Event
idle_keyboard steps = events_of_epoch keyboard (blank keyboard) (1 ∷ []) steps

abbrev idle_rounds : List OwnStep → ℕ
idle_rounds steps = length (crossed_rounds keyboard (blank keyboard) (1 ∷ []) steps)

idle_is_silent : idle_keyboard (press 4 4 ∷ Polls Clean ∷ replicate 4 Frame ++ Polls Clean ∷ []) ≡ key_down 4 ∷ []
idle_is_silent = refl

three_frames_are_few : idle_rounds (press 4 4 ∷ Polls Clean ∷ replicate 3 Frame ++ Polls Clean ∷ []) ≡ 1
three_frames_are_few = refl

four_frames_are_enough : idle_rounds (press 4 4 ∷ Polls Clean ∷ replicate 4 Frame ++ Polls Clean ∷ []) ≡ 2
four_frames_are_enough = refl

-- frames are counted again where a round opens, and up to 1,020
counted_again : idle_rounds (replicate 4 Frame ++ Polls Clean ∷ Polls Clean ∷ []) ≡ 1
counted_again = refl

abbrev after_frames : ℕ → List ℕ
after_frames n = (after_frame (record { snapshot = []; fixed = []; frames = n ∷ 0 ∷ []; idle = 0 ∷ 0 ∷ []; aborted = false ∷ false ∷ [] })).frames

counted_up : after_frames 1019 ≡ 1020 ∷ 1 ∷ []
counted_up = refl

counted_out : after_frames 1020 ≡ 1020 ∷ 1 ∷ []
counted_out = refl

-- a configuration forgets the parts and the counts, and keeps the snapshot and the idle times
kept_over : initial_reports hat (blank hat) (7 ∷ [])
    ≡ record { snapshot = blank hat; fixed = blank_parts hat; frames = 0 ∷ []; idle = 7 ∷ []; aborted = false ∷ [] }
kept_over = refl

-- what is pressed before a configuration is told after it
pressed_before : events_of_epoch mouse
    (Switches (true ∷ false ∷ false ∷ []) ∷ Absent ∷ Motions (pos 0 ∷ pos 0 ∷ []) ∷ []) (0 ∷ []) (Polls Clean ∷ [])
    ≡ event.Down (control_at 0 0) (usage 9 1) ∷ []
pressed_before = refl

-- the motion to the right that is given, and the one that changes add
given_so_far : motion_of_events (control_at 2 0) (told mouse 1 (move 2 0 (pos 200) ∷ Polls Clean ∷ Polls Clean ∷ []))
    ≡ pos 200
given_so_far = refl

moved_so_far : motion_of_steps (control_at 2 0) (move 2 0 (pos 200) ∷ move 2 1 (pos 9) ∷ press 0 0 ∷ move 2 0 (negsuc 4) ∷ [])
    ≡ pos 195
moved_so_far = refl

-- once it is acknowledged both ends are at DATA1 and no round is open
host_at_data1 : expected_toggle (state_after_own_steps keyboard (press 4 4 ∷ Polls AckLost ∷ Polls Clean ∷ [])) ≡ true
host_at_data1 = refl

device_at_data1 : (state_after_own_steps keyboard (press 4 4 ∷ Polls AckLost ∷ Polls Clean ∷ [])).toggle ≡ true
device_at_data1 = refl

no_round_is_open : (state_after_own_steps keyboard (press 4 4 ∷ Polls AckLost ∷ Polls Clean ∷ [])).current ≡ None
no_round_is_open = refl

-- a toggle that begins at DATA0 is at DATA1 after three changes, and back after four
three_changes : flipped_toggle 3 false ≡ true
three_changes = refl

four_changes : flipped_toggle 4 false ≡ false
four_changes = refl

-- what a mouse still has of 200 to the right: all of it until its report crossed, then what the report couldn't carry
abbrev kept_x : List OwnStep → ℤ
kept_x steps = link_motion mouse (state_after_own_steps mouse steps) (control_at 2 0)

in_snapshot_alone : kept_x (move 2 0 (pos 200) ∷ []) ≡ pos 200
in_snapshot_alone = refl

in_open_round_too : kept_x (move 2 0 (pos 200) ∷ Polls ReplyLost ∷ []) ≡ pos 200
in_open_round_too = refl

no_more_once_crossed : kept_x (move 2 0 (pos 200) ∷ Polls AckLost ∷ []) ≡ pos 73
no_more_once_crossed = refl
