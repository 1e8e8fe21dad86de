-- A device stays sound after an acknowledgement, with the next piece of its round or with none, and after a halt.
use Rattle.std.proofs.Common.{◌≡◌, ◌∙◌, ℕ, ◌+◌, ◌<◌, ◌≤◌, Bool, true, false, List, length, Option, None, Some, refl, ap, sym, subst, arith}
use Rattle.std.specs.Prelude.{IfSome, nat_le, unwrap_or, if◌then◌else◌}
use Rattle.std.proofs.lemmas.Bool.Decides.{nat_tests}
use Rattle.hid_layout.specs.Controls.{Item, items_of}
use Rattle.hid_layout.specs.Layout.{Contents}
use Rattle.hid_snapshots.specs.declared.control_state.ControlState.{ControlState}
use Rattle.hid_snapshots.specs.Pieces.{piece_of, pieces_of}
use Rattle.hid_snapshots.specs.PartBytes.{part_bytes}
use Rattle.usb_transact.specs.Device.{toggle_after}
use Rattle.hid_device.specs.Inputs.{input_count}
use Rattle.hid_bus.specs.ReportState.{ReportState, with_abort}
use Rattle.hid_device.specs.Core.{CoreState, HasNoRoundWhileHalted, IsPiece, IsSound, core_after_ack, halted_core, next_piece, next_piece_of, piece_armed, round_after_piece, toggle_after_ack}

abbrev with_cut : List Bool → ReportState → ReportState
with_cut aborted d = record d { aborted = aborted }

pub sound_at_piece : (core : CoreState) (toggle : Bool) (piece : ℕ) → IsSound core → IsPiece (items_of core.layout) core.current piece
    → IsSound (record core { toggle = toggle; piece = piece })
sound_at_piece core toggle piece before there = record {
  lays = before.lays;
  empty_codes = before.empty_codes;
  zeros = before.zeros;
  inputs_first = before.inputs_first;
  snapshot = before.snapshot;
  fixed = before.fixed;
  each_frames = before.each_frames;
  each_idle = before.each_idle;
  each_cut = before.each_cut;
  of_input = before.of_input;
  piece = there;
  sends = before.sends;
  quiet = before.quiet;
  outputs = before.outputs;
}

-- a device stays sound with no round, its reports aborted or not, and another halt
pub sound_halted : (core : CoreState) (aborted : List Bool) (toggle halted : Bool) → IsSound core → length aborted ≡ input_count core.layout.reports
    → IsSound
    (record core { reports = with_cut aborted core.reports; current = None; piece = 0; toggle = toggle; halted = halted })
sound_halted core aborted toggle halted before long = record {
  lays = before.lays;
  empty_codes = before.empty_codes;
  zeros = before.zeros;
  inputs_first = before.inputs_first;
  snapshot = before.snapshot;
  fixed = before.fixed;
  each_frames = before.each_frames;
  each_idle = before.each_idle;
  each_cut = long;
  of_input = tt;
  piece = refl;
  sends = tt;
  quiet = tt;
  outputs = before.outputs;
}

pub sound_closed : (core : CoreState) (toggle : Bool) → IsSound core → IsSound (record core { toggle = toggle; current = None; piece = 0 })
sound_closed core toggle before = sound_halted core core.reports.aborted toggle core.halted before before.each_cut

pub halted_is : (core : CoreState) (standing : ReportState) (toggle halted : Bool)
    → standing ≡ with_abort core.current core.reports → toggle ≡ core.toggle → halted ≡ true
    → record core { reports = standing; current = None; piece = 0; toggle = toggle; halted = halted }
    ≡ halted_core core
halted_is core standing toggle halted aborted same is =
    ap (λ (s : ReportState). let c : CoreState =
    record core { reports = s; current = None; piece = 0; toggle = toggle; halted = halted } in c) aborted
    ∙ ap (λ (t : Bool). let c : CoreState =
    record core {
      reports = with_abort core.current core.reports;
      current = None;
      piece = 0;
      toggle = t;
      halted =
          halted;
    } in c) same
    ∙ ap (λ (h : Bool). let c : CoreState =
    record core { reports = with_abort core.current core.reports; current = None; piece = 0; halted = h } in c) is

-- one piece more is no more than there are
pub next_fits : (items : List Item) (current : Option ℕ) (piece r pieces room : ℕ) → IsPiece items current piece → current ≡ Some r → pieces ≡ pieces_of items r → pieces < room → piece + 1 < room
next_fits items current piece r pieces room there sends are small =
    let within : piece < pieces_of items r = subst (λ (o : Option ℕ). IsPiece items o piece) sends there in
    omega (arith, within, are, small)

-- the piece after one that isn't the last
pub next_there : (items : List Item) (current : Option ℕ) (piece r pieces : ℕ) → current ≡ Some r → pieces ≡ pieces_of items r → piece + 1 < pieces → Some (piece + 1) ≡ next_piece items current piece
next_there items current piece r pieces sends are more = grind (arith, nat_tests)

-- after the last one there is none
pub none_behind : (items : List Item) (current : Option ℕ) (piece r pieces : ℕ) → current ≡ Some r → pieces ≡ pieces_of items r → pieces ≤ piece + 1 → None ≡ next_piece items current piece
none_behind items current piece r pieces sends are last = grind (arith, nat_tests)

-- what another piece of a round goes by: it is one of its report's, no halt hides it, and its bytes are those of the part
pub next_is : (items : List Item) (current : Option ℕ) (piece next : ℕ) → next_piece items current piece ≡ Some next → IsPiece items current next
next_is items None piece next goes_on = absurd (cc)
next_is items (Some r) piece next goes_on = by_place (nat_le (pieces_of items r) (piece + 1)) refl goes_on
  where
    by_place : (b : Bool) → nat_le (pieces_of items r) (piece + 1) ≡ b → (if b then None else Some (piece + 1)) ≡ Some next → next < pieces_of items r
    by_place true last e = absurd (cc)
    by_place false more e = grind (arith, nat_tests, more, e)

pub next_quiet : (items : List Item) (current : Option ℕ) (piece next : ℕ) (halted : Bool)
    → next_piece items current piece ≡ Some next → HasNoRoundWhileHalted current halted → halted ≡ false
next_quiet items None piece next halted goes_on quiet = absurd (cc)
next_quiet items (Some r) piece next halted goes_on quiet = quiet

pub next_armed : (layout : Contents) (parts : List ControlState) (current : Option ℕ) (piece next : ℕ)
    (bytes : List ℕ) → next_piece (items_of layout) current piece ≡ Some next
    → IfSome current (λ r. bytes ≡ part_bytes layout r parts) → Some (piece_of bytes next) ≡ piece_armed layout parts current next
next_armed layout parts None piece next bytes goes_on keeps = absurd (cc)
next_armed layout parts (Some r) piece next bytes goes_on keeps = ap (λ (l : List ℕ). Some (piece_of l next)) keeps

-- the toggle changes where a round is open, which is where something is armed
pub flips : (layout : Contents) (parts : List ControlState) (current : Option ℕ) (piece : ℕ) (toggle : Bool)
    → toggle_after toggle (piece_armed layout parts current piece) ≡ toggle_after_ack toggle current
flips layout parts None piece toggle = refl
flips layout parts (Some r) piece toggle = refl

-- the round stays open with another piece, and is closed with its last one
pub goes_on_closed : (core : CoreState) (next : ℕ) (toggle halted : Bool) → next_piece_of core ≡ Some next
    → toggle ≡ toggle_after_ack core.toggle core.current → halted ≡ core.halted
    → record core { piece = next; toggle = toggle; halted = halted } ≡ core_after_ack core
goes_on_closed core next toggle halted goes_on flip same =
    ap (λ (t : Bool). let c : CoreState = record core { piece = next; toggle = t; halted = halted } in c) flip
    ∙ ap (λ (h : Bool). let c : CoreState =
    record core { piece = next; toggle = toggle_after_ack core.toggle core.current; halted = h } in c) same
    ∙ ap (λ (n : Option ℕ). let c : CoreState =
    record core {
      toggle = toggle_after_ack core.toggle core.current;
      current =
          round_after_piece core.current n;
      piece = unwrap_or n 0;
    } in c) (sym goes_on)

pub ends_closed : (core : CoreState) (toggle halted : Bool) → next_piece_of core ≡ None
    → toggle ≡ toggle_after_ack core.toggle core.current → halted ≡ core.halted
    → record core { current = None; piece = 0; toggle = toggle; halted = halted } ≡ core_after_ack core
ends_closed core toggle halted ends flip same =
    ap (λ (t : Bool). let c : CoreState = record core { current = None; piece = 0; toggle = t; halted = halted } in c) flip
    ∙ ap (λ (h : Bool). let c : CoreState =
    record core { current = None; piece = 0; toggle = toggle_after_ack core.toggle core.current; halted = h } in
    c) same
    ∙ ap (λ (n : Option ℕ). let c : CoreState =
    record core {
      toggle = toggle_after_ack core.toggle core.current;
      current =
          round_after_piece core.current n;
      piece = unwrap_or n 0;
    } in c) (sym ends)
