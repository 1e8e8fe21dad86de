-- Bits of a report that are those of the one before, whose bytes leave the view (our choice).
use Rattle.std.specs.Prelude.{◌≡◌, ℕ, ◌*◌, ◌<◌, List}
use Rattle.hid_fields.specs.Field.{bit_of}
use Rattle.hid_layout.specs.Layout.{Contents}
use Rattle.hid_layout.specs.Reports.{report_bytes}
use Rattle.hid_snapshots.specs.declared.control_state.ControlState.{ControlState}
use Rattle.hid_usages.specs.declared.changed_bits.BitSpan.{BitSpan}
use Rattle.hid_usages.specs.ChangedBits.{IsOutsideSpan}
use Rattle.hid_usages.specs.Taking.{state_after_report_at, read_view}

-- reading these bytes of report r leaves the view
abbrev pub Leaves : Contents → ℕ → List ℕ → List ControlState → Type 0
Leaves layout r bytes view = read_view layout r bytes view ≡ view

-- Outside of the span, the bits of a report are those of the last one of its number, whose bytes leave the view. Of a span of all bits
-- that says nothing.
pub record Knows (layout : Contents) (r : ℕ) (bytes last : List ℕ) (span : BitSpan) (view : List ControlState) : Type 0 where
  pub same : (n : ℕ) → n < 8 * report_bytes layout r → IsOutsideSpan span n → bit_of bytes n ≡ bit_of last n
  pub left : (n : ℕ) → n < 8 * report_bytes layout r → IsOutsideSpan span n → Leaves layout r last view

-- Outside of the span, the bits of a report are those of the last one of its number, whose bytes leave what is kept of the item at a
-- place.
pub record KnowsPlace (layout : Contents) (r : ℕ) (bytes last : List ℕ) (span : BitSpan) (i : ℕ)
    (state : ControlState) : Type 0 where
  pub same : (n : ℕ) → n < 8 * report_bytes layout r → IsOutsideSpan span n → bit_of bytes n ≡ bit_of last n
  pub left : (n : ℕ) → n < 8 * report_bytes layout r → IsOutsideSpan span n
      → state_after_report_at layout r last i state ≡ state
