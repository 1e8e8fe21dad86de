-- A report of several packets on a bus: it is delivered whole or not at all, and never from two rounds (USB 2.0, 5.7.3,
-- 8.5.4 and 8.6; our choice).
use Rattle.std.specs.Prelude.{◌≡◌, ◌⊎◌, ◌+◌, Bool, true, false, ◌&&◌, [], Option, Some, None}
use Rattle.hid_layout.specs.Controls.{items_of}
use Rattle.hid_snapshots.specs.Views.{view_after_part}
use Rattle.usb_transact.specs.declared.transaction.Fate.{Fate}
use Rattle.hid_bus.specs.Rounds.{Polls, part_events, reaches_host}
use Rattle.hid_bus.specs.LinkState.{LinkState, OpenRound, completes, state_before_answer}
use Rattle.hid_stack.specs.Members.{Member, MemberStep, Scheduled, bus_event_of_step, events_of_event_if, member_after, polls_it}

-- a step delivers nothing of a device, and leaves the view of its host
pub record DeliversNothing (m : Member) (x : MemberStep) : Type 0 where
  pub events : events_of_event_if (items_of m.layout) m.link (bus_event_of_step m x) ≡ []
  pub view : (member_after m x).link.view ≡ m.link.view

-- the last piece of the open round crosses with a poll: the events are those of the part that was fixed as the round
-- opened, and the view takes it
pub record DeliversPart (m : Member) (fate : Fate) : Type 0 where
  pub round : OpenRound
  pub is_open : (state_before_answer (items_of m.layout) m.link fate).current ≡ Some round
  pub crosses : completes round ≡ true
  pub events : events_of_event_if (items_of m.layout) m.link (bus_event_of_step m (Scheduled (Polls fate)))
      ≡ part_events (items_of m.layout) round.report m.link.view
      (state_before_answer (items_of m.layout) m.link fate).reports.fixed
  pub view : (member_after m (Scheduled (Polls fate))).link.view
      ≡ view_after_part (items_of m.layout) round.report m.link.view
      (state_before_answer (items_of m.layout) m.link fate).reports.fixed

-- the current piece of the open round is the last one, and hasn't crossed yet
abbrev pub is_missing_last : Option OpenRound → Bool
is_missing_last current = elim current [ None ↦ false | Some round ↦ completes round ]

-- the last piece of the open round crosses with a poll: the host polls, what is sent reaches it, and only that piece
-- was missing
abbrev pub last_crosses : Member → Fate → Bool
last_crosses m fate =
    polls_it m
    && (reaches_host fate
    && is_missing_last (state_before_answer (items_of m.layout) m.link fate).current)

-- what a poll delivers, by whether the last piece crosses with it
abbrev pub DeliversIfComplete : Bool → Member → Fate → Type 0
DeliversIfComplete true m fate = DeliversPart m fate
DeliversIfComplete false m fate = DeliversNothing m (Scheduled (Polls fate))

-- A poll delivers a whole part exactly where the last piece of its round crosses with it: before that, and where that
-- piece is repeated, nothing.
abbrev pub IsWholeOrNothing : Member → Fate → Type 0
IsWholeOrNothing m fate = DeliversIfComplete (last_crosses m fate) m fate

-- the open round is the one that it was: of its report, with the part that was fixed as it opened, and the current
-- piece is the same or the next one
pub record IsSameRound (round : OpenRound) (before after : LinkState) : Type 0 where
  pub now : OpenRound
  pub is_open : after.current ≡ Some now
  pub report : now.report ≡ round.report
  pub pieces : now.pieces ≡ round.pieces
  pub piece : (now.piece ≡ round.piece) ⊎ (now.piece ≡ round.piece + 1)
  pub part : after.reports.fixed ≡ before.reports.fixed

-- Whatever step comes between two pieces, the open round ends with it, or stays of the same report and part.
abbrev pub KeepsToRound : Member → MemberStep → Type 0
KeepsToRound m x =
    (round : OpenRound) → m.link.current ≡ Some round
    → ((member_after m x).link.current ≡ None) ⊎ IsSameRound round m.link (member_after m x).link
