-- What the lines of the bench are read into, where a host has the devices (our choice: docs/LAB.md).
use Rattle.std.specs.Prelude.{◌≡◌, ◌⊎◌, ℕ, ◌||◌, nat_lt, Bool, true, false, List, [], ◌∷◌, ◌++◌, length, slice_get, Option, Some, None, Result, Ok, Err}
use Rattle.hid_layout.specs.declared.control.ControlId.{ControlId}
use Rattle.hid_requests.specs.declared.boot.Boot.{Boot}
use Rattle.hid_snapshots.specs.declared.change.Change.{Change as OneChange}
use Rattle.hid_snapshots.specs.declared.change.Change.TheVariants as changes
use Rattle.hid_snapshots.specs.declared.fault.ChangeFault.TheVariants.{NoSuchControl}
use Rattle.hid_text.specs.declared.change_kind.ChangeKind.{ChangeKind}
use Rattle.hid_text.specs.declared.change_kind.ChangeKind.TheVariants as kind
use Rattle.hid_text.specs.declared.fault.LineFault.TheVariants.{BadHex}
use Rattle.hid_text.specs.declared.line.Line.TheVariants as lines_of
use Rattle.hid_text.specs.Words.{Word, words_of, hex_of}
use Rattle.lab_lines.specs.ControlNames.{Named, control_named}
use Rattle.lab_lines.specs.LabLines.{Said}
use Rattle.lab_lines.specs.LabLines as lab
use Rattle.usbip_export.specs.declared.exported_device.ExportedDevice.{ExportedDevice}
use Rattle.usbip_script.specs.declared.fault.LineCause.{LineCause}
use Rattle.usbip_script.specs.declared.fault.LineCause.TheVariants.{Text, Change, NotServed, TooLong}
use Rattle.usbip_script.specs.Scripts.{Read, Attaches, Gives, LineGives, change_found, nothing_read, place_of, read_of, with_action}
use Rattle.lab_serving.specs.declared.expecting.Expecting.{Expecting}
use Rattle.lab_serving.specs.declared.expecting.ExpectedKind.{ExpectedKind}
use Rattle.lab_serving.specs.declared.expecting.ExpectedKind.TheVariants.{Report, Nothing, Anything}
use Rattle.lab_serving.specs.declared.lab_script.LabScript.{LabScript}
use Rattle.lab_serving.specs.Expecting.{refusal_of_words}
use Rattle.lab_serving.specs.Parts.{parts_of}

-- What was read: the devices and what is done at them, as of a script, and what is expected of the host.
pub record LabRead : Type 0 where
  pub read : Read
  pub expected : List Expecting

-- what was read, of its lists
abbrev pub lab_read_of : LabScript → LabRead
lab_read_of script = record { read = read_of script.script; expected = script.expectations.items }

-- nothing was read yet
abbrev pub nothing_read_yet : LabRead
nothing_read_yet = record { read = nothing_read; expected = [] }

-- ---- lines that do something at the devices

-- what the lines of a script give, and what is expected as before
abbrev pub with_read : LabRead → Result Read LineCause → Result LabRead LineCause
with_read r (Ok read) = Ok (record r { read = read })
with_read r (Err cause) = Err cause

-- what the lines of a script give, where what is expected stays as it is
abbrev pub Reads : (Result Read LineCause → Type 0) → LabRead → Result LabRead LineCause → Type 0
Reads Giving r (Ok after) = Giving (Ok after.read) × (after.expected ≡ r.expected)
Reads Giving r (Err cause) = Giving (Err cause)

-- the change of this control
abbrev pub change_of : ChangeKind → ControlId → OneChange
change_of kind.Press control = changes.Press control
change_of kind.Release control = changes.Release control
change_of kind.Null control = changes.Null control
change_of (kind.Set value) control = changes.Set control value
change_of (kind.Move by) control = changes.Move control by

-- the control of a device that a line names, or that there is none
abbrev pub control_at : ℕ → Option ControlId → Result (ℕ × ControlId) LineCause
control_at place (Some control) = Ok (place, control)
control_at place None = Err (Change NoSuchControl)

-- the control of this device
abbrev pub control_in : ℕ → Named → Option ExportedDevice → Result (ℕ × ControlId) LineCause
control_in place named None = Err (Change NoSuchControl)
control_in place named (Some d) = control_at place (control_named d.gadget.layout named)

-- the control of the device at a place, if there is such a place
abbrev pub control_by : List ExportedDevice → Named → Result ℕ LineCause → Result (ℕ × ControlId) LineCause
control_by ds named (Ok place) = control_in place named (slice_get ds place)
control_by ds named (Err cause) = Err cause

-- the control of the device of a number that a line names. Example: 1 Keyboard_A is the control of the first device whose usage
-- has this name
abbrev pub control_meant : List ExportedDevice → ℕ → Named → Result (ℕ × ControlId) LineCause
control_meant ds dev named = control_by ds named (place_of (length ds) dev)

-- a control changes that a line names
abbrev pub read_after_change : Read → ℕ → ℕ → Named → ChangeKind → Result Read LineCause
read_after_change r number dev named wanted = with_action r number (change_found (change_of wanted) (control_meant r.devices dev named))

-- a device whose descriptor stands in words of hex
abbrev pub AttachesHex : Read → Boot → Option (List ℕ) → Result Read LineCause → Type 0
AttachesHex r boot None result = result ≡ Err (Text BadHex)
AttachesHex r boot (Some bytes) result = Attaches r boot bytes result

-- ---- lines that expect something

-- Something more is expected, once the actions so far were done.
pub record IsExpecting (r : LabRead) (number : ℕ) (words : List Word) (kind : ExpectedKind) (x : Expecting) : Type 0 where
  pub at : x.at ≡ length r.read.actions
  pub number_is : x.number ≡ number
  pub words_are : words_of x.line.items ≡ words
  pub kind_is : x.kind ≡ kind

-- something more is expected, and nothing else changes
abbrev pub ExpectsMore : LabRead → ℕ → List Word → ExpectedKind → Result LabRead LineCause → Type 0
ExpectsMore r number words kind (Err cause) = ⊥
ExpectsMore r number words kind (Ok after) =
    (x : Expecting) × IsExpecting r number words kind x × (after ≡ record r { expected = r.expected ++ x ∷ [] })

-- a line is expected, unless it can't be
abbrev pub Expects : LabRead → ℕ → List Word → Option LineCause → Result LabRead LineCause → Type 0
Expects r number words (Some cause) result = result ≡ Err cause
Expects r number words None result = ExpectsMore r number words Report result

-- ---- a line

-- What a part of a line gives, after what was read before it. Layouts and values are printed, and fates are those of the host's own
-- bus, so they are refused. Lines of other sources give nothing by themselves.
abbrev pub PartGives : LabRead → ℕ → Said → Result LabRead LineCause → Type 0
PartGives r number (lab.Script bytes) result = Reads (LineGives r.read number bytes) r result
PartGives r number (lab.Short line) result = Reads (Gives r.read number (lines_of.Step line)) r result
PartGives r number (lab.Device start boot words) result = Reads (AttachesHex r.read boot (hex_of words)) r result
PartGives r number (lab.Change dev named wanted) result = result ≡ with_read r (read_after_change r.read number dev named wanted)
PartGives r number (lab.Expect words) result =
    Expects r number words (refusal_of_words (length r.read.devices) words) result
PartGives r number lab.ExpectNone result = ExpectsMore r number [] Nothing result
PartGives r number lab.ExpectAny result = ExpectsMore r number [] Anything result
PartGives r number (lab.Layout words) result = result ≡ Err NotServed
PartGives r number (lab.Values words) result = result ≡ Err NotServed
PartGives r number (lab.Lose dev percent seed) result = result ≡ Err NotServed
PartGives r number lab.Nothing result = result ≡ Ok r
PartGives r number (lab.DeviceFile start boot name) result = result ≡ Ok r
PartGives r number (lab.Repeat count) result = result ≡ Ok r
PartGives r number lab.End result = result ≡ Ok r
PartGives r number (lab.Include name) result = result ≡ Ok r
PartGives r number (lab.Click dev named) result = ⊥
PartGives r number (lab.Typing dev bytes) result = ⊥
PartGives r number (lab.Wait count) result = ⊥

-- all parts give this, one after the other
abbrev pub AllGive : LabRead → ℕ → List Said → LabRead → Type 0
AllGive r number [] after = after ≡ r
AllGive r number (part ∷ more) after =
    (next : LabRead) × PartGives r number part (Ok next) × AllGive next number more after

-- a part is refused, after those before it
abbrev pub IsRefused : LabRead → ℕ → List Said → LineCause → Type 0
IsRefused r number [] cause = ⊥
IsRefused r number (part ∷ more) cause =
    PartGives r number part (Err cause)
    ⊎ ((next : LabRead) × PartGives r number part (Ok next) × IsRefused next number more cause)

-- what the parts of a line give, or why the first one is refused that is
abbrev pub PartsGive : LabRead → ℕ → List Said → Result LabRead LineCause → Type 0
PartsGive r number parts (Ok after) = AllGive r number parts after
PartsGive r number parts (Err cause) = IsRefused r number parts cause

-- over 1,048,576 actions were read, or over 16,384 expectations
abbrev pub is_over : LabRead → Bool
is_over r = nat_lt 1048576 (length r.read.actions) || nat_lt 16384 (length r.expected)

-- What a line gives, by what it says and its number, after what was read before it: what its parts give; or it is refused, as one
-- of them is, or since too much is read with it.
abbrev pub SaidGives : LabRead → ℕ → Said → Result LabRead LineCause → Type 0
SaidGives r number said (Ok after) = PartsGive r number (parts_of said) (Ok after) × (is_over after ≡ false)
SaidGives r number said (Err cause) =
    PartsGive r number (parts_of said) (Err cause)
    ⊎ ((cause ≡ TooLong) × (after : LabRead) × PartsGive r number (parts_of said) (Ok after) × (is_over after ≡ true))
