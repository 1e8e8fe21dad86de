use Rattle.std.proofs.Common.{◌≡◌, ◌++◌, length}
use Rattle.std.specs.Prelude.{string_bytes, slice_get}
use Rattle.hid_notation.specs.Text.{concat_below}
use Rattle.hid_text.specs.LayoutText.{report_text_at}
use Rattle.hid_text.specs.NamedText.{named_item_at}
use Rattle.hid_text.proofs.named_text.print_named_lines.Given as goal

-- the reports so far
abbrev pub invariant-loop-r : goal.invariant-loop-r
invariant-loop-r l =
    string_bytes l.text ≡ string_bytes l.fn.text
    ++ concat_below l.r (λ r. report_text_at l.layout r (slice_get l.layout.reports r))

-- the reports, and the items so far
abbrev pub invariant-loop-i : goal.invariant-loop-i
invariant-loop-i l =
    string_bytes l.text
    ≡ (string_bytes l.fn.text
    ++ concat_below (length l.layout.reports) (λ r. report_text_at l.layout r (slice_get l.layout.reports r)))
    ++ concat_below l.i (λ i. named_item_at l.layout i (slice_get l.layout.items i))
