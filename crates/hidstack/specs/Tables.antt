-- A descriptor's elements as a table, and an element's number (our choice; what they are: hidstack_session).
use Rattle.std.specs.Prelude.{◌≡◌, ℕ, ◌<◌, ◌≤◌, ◌⊎◌, ℤ, List, ◌++◌, length, drop, Result, Ok, Err}
use Rattle.hid_report_descriptor.specs.declared.fault.Cause.{Cause}
use Rattle.hid_report_descriptor.specs.Items.{EncodedItem}
use Rattle.hid_report_descriptor.specs.Real.{Accepts, Explains}
use Rattle.hid_snapshots.specs.declared.fault.ReportFault.{ReportFault}
use Rattle.hid_snapshots.specs.declared.fault.ReportFault.TheVariants.{Short, UnknownReport}
use Rattle.hid_layout.specs.Layout.{layout_of}
use Rattle.hidstack_session.specs.Causes.{cause_number}
use Rattle.hidstack_session.specs.declared.element.HidElement.{HidElement}
use Rattle.hidstack_session.specs.Elements.{HoldsNumber}
use Rattle.hidstack_session.specs.Tables.{elements_of}
use Rattle.hidstack.specs.declared.elements.HidTabled.{HidTabled}
use Rattle.hidstack.specs.declared.status.TheConstants.{OK, REFUSED, NO_ROOM, SHORT, UNKNOWN}

-- the elements of the descriptor's layout, where it is accepted
abbrev pub TableHasElements : List ℕ → List HidElement → Type 0
TableHasElements bytes elements =
    (before : List EncodedItem) × Accepts bytes before
    × (elements ≡ elements_of (layout_of before) (length (layout_of before).items))

-- what is reported where the descriptor is accepted: n elements
abbrev pub accepted_table : ℕ → HidTabled
accepted_table n = record { at = 0; elements = n; cause = 0; spare = 0 }

-- the elements stand first in the table
abbrev pub Tabled : List ℕ → List HidElement → List HidElement → HidTabled → Type 0
Tabled bytes out out' told =
    (elements : List HidElement) × TableHasElements bytes elements × (length elements ≤ length out)
    × (out' ≡ elements ++ drop (length elements) out) × (told ≡ accepted_table (length elements))

-- the table has fewer places than the layout has elements, and stays as it was
abbrev pub Misses : List ℕ → List HidElement → List HidElement → HidTabled → Type 0
Misses bytes out out' told =
    (elements : List HidElement) × TableHasElements bytes elements × (length out < length elements)
    × (out' ≡ out) × (told ≡ accepted_table (length elements))

-- the descriptor is refused for this cause, or memory ran out, and the table stays as it was
abbrev pub Refuses : List ℕ → List HidElement → List HidElement → HidTabled → Type 0
Refuses bytes out out' told =
    (cause : Cause) × (at : ℕ) × Explains bytes cause at × (out' ≡ out)
    × (told ≡ record { at = at; elements = 0; cause = cause_number cause; spare = 0 })

-- a call for a table answers OK, REFUSED or NO_ROOM, and nothing else
abbrev pub TablesElements : ℕ → Type 0
TablesElements status = (status ≡ OK) ⊎ ((status ≡ REFUSED) ⊎ (status ≡ NO_ROOM))

-- the number is written, or why there is none is returned and nothing changes
abbrev pub NumberIsReturned : ℤ → ℕ → ℤ → Result ℤ ReportFault → Type 0
NumberIsReturned old status new (Ok number) = (status ≡ OK) × (new ≡ number)
NumberIsReturned old status new (Err Short) = (status ≡ SHORT) × (new ≡ old)
NumberIsReturned old status new (Err UnknownReport) = (status ≡ UNKNOWN) × (new ≡ old)

-- the element's number in these bytes is returned, or why there is none
abbrev pub NumberAnswers : HidElement → List ℕ → ℤ → ℕ → ℤ → Type 0
NumberAnswers element bytes old status new =
    (answer : Result ℤ ReportFault) × HoldsNumber element bytes answer
    × NumberIsReturned old status new answer
