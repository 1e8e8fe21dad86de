-- Texts in the caller's room (our choice).
use Rattle.std.specs.Prelude.{◌≡◌, ℕ, ◌<◌, ◌≤◌, ◌⊎◌, List, ◌++◌, length, drop, Option, None, Some}
use Rattle.hid_report_descriptor.specs.declared.fault.Cause.{Cause}
use Rattle.hid_report_descriptor.specs.declared.fault.Cause.TheVariants.{Truncated}
use Rattle.hid_report_descriptor.specs.Codes.{code_of}
use Rattle.hid_report_descriptor.specs.declared.fault.LayoutFault.{LayoutFault}
use Rattle.hid_report_descriptor.specs.declared.limits.Limits.TheVariants.{Real}
use Rattle.hid_report_descriptor.specs.declared.long_reports.LongReport.{LongReport}
use Rattle.hid_report_descriptor.specs.Items.{EncodedItem}
use Rattle.hid_report_descriptor.specs.LongReports.{NamesReport}
use Rattle.hid_report_descriptor.specs.Real.{Accepts, Refuses}
use Rattle.hid_names.specs.Names.{Name, name_text}
use Rattle.hid_notation.specs.Causes.{layout_refusal_text, layout_words}
use Rattle.hidstack_session.specs.Causes.{cause_number}
use Rattle.hidstack.specs.declared.status.TheConstants.{OK, NO_ROOM, NONE, MEMORY}

-- the text stands first, and what is after it stays
abbrev pub Written : List ℕ → List ℕ → List ℕ → Type 0
Written text out out' = (length text ≤ length out) × (out' ≡ text ++ drop (length text) out)

-- the text is written, or too long and nothing is; its length is returned either way
abbrev pub TextIsReturned : List ℕ → List ℕ → ℕ → List ℕ → ℕ → Type 0
TextIsReturned text out status out' told =
    (told ≡ length text)
    × (((status ≡ OK) × Written text out out') ⊎ ((status ≡ NO_ROOM) × (length out < length text) × (out' ≡ out)))

-- nothing is written
abbrev pub Leaves : ℕ → List ℕ → ℕ → List ℕ → ℕ → Type 0
Leaves why out status out' told = (status ≡ why) × (out' ≡ out) × (told ≡ 0)

-- the code of the cause with this number, or memory ran out for it; or none has that number
abbrev pub CauseIsReturned : ℕ → List ℕ → ℕ → List ℕ → ℕ → Type 0
CauseIsReturned number out status out' told =
    ((cause : Cause) × (cause_number cause ≡ number)
    × (TextIsReturned (code_of cause) out status out' told ⊎ Leaves MEMORY out status out' told))
    ⊎ (((cause : Cause) → cause_number cause ≡ number → ⊥) × Leaves NONE out status out' told)

-- the text of a usage, or memory ran out
abbrev pub UsageIsReturned : List ℕ → List ℕ → ℕ → List ℕ → ℕ → Type 0
UsageIsReturned text out status out' told =
    TextIsReturned text out status out' told ⊎ Leaves MEMORY out status out' told

-- the words of the cause with this number; or none has it
abbrev pub WordsAreReturned : ℕ → List ℕ → ℕ → List ℕ → ℕ → Type 0
WordsAreReturned number out status out' told =
    ((cause : Cause) × (cause_number cause ≡ number)
    × TextIsReturned (layout_words cause) out status out' told)
    ⊎ (((cause : Cause) → cause_number cause ≡ number → ⊥) × Leaves NONE out status out' told)

-- a name, where there is one, or memory ran out
abbrev pub NameIsReturned : Option Name → List ℕ → ℕ → List ℕ → ℕ → Type 0
NameIsReturned (Some name) out status out' told =
    TextIsReturned (name_text name) out status out' told ⊎ Leaves MEMORY out status out' told
NameIsReturned None out status out' told = Leaves NONE out status out' told

-- the text of a refusal of a descriptor, with the report that is too long where there is one
abbrev pub IsRefusalText : List ℕ → LayoutFault → List ℕ → Type 0
IsRefusalText bytes fault text =
    (report : Option LongReport) × NamesReport Real bytes fault report × (text ≡ layout_refusal_text fault report)

-- the text of the one refusal of a descriptor, or memory ran out; or the descriptor is accepted
abbrev pub FaultIsReturned : List ℕ → List ℕ → ℕ → List ℕ → ℕ → Type 0
FaultIsReturned bytes out status out' told =
    ((fault : LayoutFault) × (text : List ℕ) × Refuses bytes fault.cause fault.at × IsRefusalText bytes fault text
    × TextIsReturned text out status out' told)
    ⊎ (Leaves MEMORY out status out' told
    ⊎ (((items : List EncodedItem) × Accepts bytes items) × Leaves NONE out status out' told))

-- the refusal of a descriptor of no byte (our choice): L1 at 0
abbrev pub no_byte : LayoutFault
no_byte = record { cause = Truncated; at = 0 }

-- the text of why `hidstack_open` refuses a descriptor: that of no byte, or of its one refusal
abbrev pub RefusalIsReturned : List ℕ → List ℕ → ℕ → List ℕ → ℕ → Type 0
RefusalIsReturned bytes out status out' told =
    ((length bytes ≡ 0)
    × (TextIsReturned (layout_refusal_text no_byte None) out status out' told ⊎ Leaves MEMORY out status out' told))
    ⊎ ((0 < length bytes) × FaultIsReturned bytes out status out' told)
