-- A virtual device as one that keeps to the toggle protocol: each round that it opens queues the bytes of its report, and
-- the reports that cross are those of the rounds that cross.
use Rattle.std.specs.Prelude.{◌≡◌, ℕ, ◌-◌, ◌<◌, true, List, [], ◌∷◌, ◌++◌, length, map, Option, Some, None}
use Rattle.hid_layout.specs.Layout.{Contents}
use Rattle.hid_layout.specs.Controls.{Item, items_of}
use Rattle.hid_layout.specs.Reports.{IsLayout}
use Rattle.hid_snapshots.specs.declared.control_state.ControlState.{ControlState}
use Rattle.hid_snapshots.specs.ControlStates.{FitsSnapshot}
use Rattle.hid_snapshots.specs.Codes.{has_empty_codes}
use Rattle.hid_snapshots.specs.Parts.{IsInput, has_zeros}
use Rattle.hid_snapshots.specs.Pieces.{pieces_of}
use Rattle.hid_snapshots.specs.PartBytes.{part_bytes}
use Rattle.hid_bus.specs.Rounds.{Changes, Frame, OwnStep, Round, RoundHistory, history_before_answer, history_after_step, crossed_rounds, events_of_epoch, initial_history}
use Rattle.hid_bus.specs.Rounds as rounds
use Rattle.hid_any_device.specs.Sender.{ReportPieces, Sends, bytes_of_pieces}
use Rattle.hid_any_device.specs.PipeSteps.{PipeStep, Queues, Polls, ends_at_start, events_of_steps}
use Rattle.hid_any_device.specs.SendQueue.{crossed_reports, piece_count, queue_at_start}
use Rattle.hid_any_device.specs.ReportPieces.{cut_pieces}

-- where a poll opened a round, its report is queued: the pieces of its part, as the device writes it
abbrev pub opening_step : (ℕ → List ControlState → ReportPieces) → Option Round → Option Round → List PipeStep
opening_step writes (Some round) current = []
opening_step writes None None = []
opening_step writes None (Some round) = Queues (writes round.report round.parts) ∷ []

-- a virtual device's own step, as steps at its pipe: changes and frames are none
abbrev pub pipe_steps_at : List Item → (ℕ → List ControlState → ReportPieces) → RoundHistory → OwnStep → List PipeStep
pipe_steps_at items writes c (Changes change) = []
pipe_steps_at items writes c Frame = []
pipe_steps_at items writes c (rounds.Polls fate) =
    opening_step writes c.current (history_before_answer items c fate).current ++ Polls Sends fate ∷ []

-- a list of a virtual device's own steps, as steps at its pipe
abbrev pub pipe_steps_in : List Item → (ℕ → List ControlState → ReportPieces) → RoundHistory → List OwnStep → List PipeStep
pipe_steps_in items writes c [] = []
pipe_steps_in items writes c (step ∷ steps) =
    pipe_steps_at items writes c step ++ pipe_steps_in items writes (history_after_step items c step) steps

-- the bytes of a round's report, as the device writes it
abbrev pub bytes_of_round : (ℕ → List ControlState → ReportPieces) → Round → List ℕ
bytes_of_round writes round = bytes_of_pieces (writes round.report round.parts)

-- A device writes each Input report in as many pieces as it takes packets of 64 bytes.
abbrev pub WritesAllPieces : List Item → (ℕ → List ControlState → ReportPieces) → Type 0
WritesAllPieces items writes = (r : ℕ) (parts : List ControlState) → piece_count (writes r parts) ≡ pieces_of items r

-- The reports that cross are those of the rounds that do.
abbrev pub RoundsCross :
    List Item → (ℕ → List ControlState → ReportPieces) → List ControlState → List ℕ → List OwnStep → Type 0
RoundsCross items writes snapshot idle steps =
    crossed_reports queue_at_start (pipe_steps_in items writes (initial_history items snapshot idle) steps)
    ≡ map (bytes_of_round writes) (crossed_rounds items snapshot idle steps)

-- how a virtual device writes a part: its bytes, in as many pieces as its report has, of 64 bytes each but the last
abbrev pub part_pieces : Contents → ℕ → List ControlState → ReportPieces
part_pieces layout r parts = cut_pieces 64 (pieces_of (items_of layout) r - 1) (part_bytes layout r parts)

-- the bytes of a round's part
abbrev pub round_bytes : Contents → Round → List ℕ
round_bytes layout round = part_bytes layout round.report round.parts

-- What crosses of a virtual device is the bytes of the parts of its rounds that crossed.
abbrev pub PartsCross : Contents → List ControlState → List ℕ → List OwnStep → Type 0
PartsCross layout snapshot idle steps =
    crossed_reports queue_at_start
    (pipe_steps_in (items_of layout) (part_pieces layout)
    (initial_history (items_of layout) snapshot idle) steps)
    ≡ map (round_bytes layout) (crossed_rounds (items_of layout) snapshot idle steps)

-- What the layout, the snapshot and the idle times of a virtual device meet: each idle time is of an Input report, each
-- array has a code for an empty element, each motion can be 0, and the snapshot suits the layout.
pub record SuitsDevice (layout : Contents) (snapshot : List ControlState) (idle : List ℕ) : Type 0 where
  pub laid : IsLayout layout
  pub inputs : (r : ℕ) → r < length idle → IsInput layout r
  pub empty_codes : has_empty_codes layout ≡ true
  pub zeros : has_zeros (items_of layout) ≡ true
  pub fits : FitsSnapshot (items_of layout) snapshot

-- The events of a virtual device's rounds that crossed are those of any device that sends its steps.
abbrev pub DeliversRounds : ℕ → ℕ → Contents → List ControlState → List ℕ → List OwnStep → Type 0
DeliversRounds addr endpoint layout snapshot idle steps =
    events_of_steps 64 (ends_at_start addr endpoint layout)
    (pipe_steps_in (items_of layout) (part_pieces layout)
    (initial_history (items_of layout) snapshot idle) steps)
    ≡ events_of_epoch (items_of layout) snapshot idle steps
