-- What may be expected of a host, and of which device (our choice: docs/LAB.md).
use Rattle.std.specs.Prelude.{ℕ, ◌+◌, ◌-◌, ◌^◌, ◌==◌, ◌||◌, not, min, nat_le, Bool, false, List, [], ◌∷◌, if◌then◌else◌, Option, Some, None, codes}
use Rattle.std.specs.Str.{bytes_eq}
use Rattle.hid_text.specs.Numbers.{device_of}
use Rattle.hid_text.specs.Words.{Word, words_of}
use Rattle.usbip_script.specs.declared.fault.LineCause.{LineCause}
use Rattle.usbip_script.specs.declared.fault.LineCause.TheVariants.{NoDevice, NotServed}
use Rattle.lab_serving.specs.declared.expecting.Expecting.{Expecting}

-- a word is one of the kinds of reports that a host sets, or any word
abbrev pub is_report : Word → Bool
is_report word = bytes_eq word (codes "output") || bytes_eq word (codes "feature") || bytes_eq word (codes "*")

-- a number of a device is that of one of so many
abbrev pub refusal_of_number : ℕ → Option ℕ → Option LineCause
refusal_of_number count None = Some NotServed
refusal_of_number count (Some dev) = if nat_le dev count then None else Some NoDevice

-- why a word names no device of so many, if it does: * is any
abbrev pub refusal_of_device : ℕ → Word → Option LineCause
refusal_of_device count word = if bytes_eq word (codes "*") then None else refusal_of_number count (device_of word)

-- why a second word is no kind of report, if it isn't
abbrev pub refusal_of_report : List Word → Option LineCause
refusal_of_report [] = Some NotServed
refusal_of_report (word ∷ more) = if is_report word then None else Some NotServed

-- a first cause, or another
abbrev pub cause_or : Option LineCause → Option LineCause → Option LineCause
cause_or (Some cause) other = Some cause
cause_or None other = other

-- Why a line can't be expected of the host of so many devices, if it can't: it sets reports, and reports no events. Example:
-- 1 down 07:04 is refused, 1 output 0 02 isn't
abbrev pub refusal_of_words : ℕ → List Word → Option LineCause
refusal_of_words count [] = Some NotServed
refusal_of_words count (word ∷ more) = cause_or (refusal_of_device count word) (refusal_of_report more)

-- the device of which a line is expected; none where it may be any
abbrev pub device_said : List Word → Option ℕ
device_said [] = None
device_said (word ∷ more) = device_of word

-- a device of a number isn't that at a place
abbrev pub is_other : Option ℕ → Option ℕ → Bool
is_other (Some dev) (Some place) = not (dev == min (place + 1) (2 ^ 64 - 1))
is_other (Some dev) None = false
is_other None place = false

-- what is expected is of another device than that at a place
abbrev pub is_of_other : Option ℕ → Expecting → Bool
is_of_other place x = is_other (device_said (words_of x.line.items)) place
