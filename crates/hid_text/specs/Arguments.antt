-- What the words after a line's first one say: a device alone or with a usage, a number, a fate and a count, each with
-- the values that it may have (our choice: the script language of docs/SCRIPT.md). Example: poll 1 ack 2 is device 1, a
-- lost acknowledgement, twice; halt 8 is X1
use Rattle.std.specs.Prelude.{ℕ, List, [], ◌∷◌, Option, None, Some, Result, Ok, Err, codes, ℤ}
use Rattle.arrayvec.specs.ArrayVec.{ArrayVec}
use Rattle.hid_report_descriptor.specs.declared.usage.Usage.{Usage}
use Rattle.usb_transact.specs.declared.transaction.Fate.{Fate}
use Rattle.usb_transact.specs.declared.transaction.Fate.TheVariants.{Clean, TokenLost, ReplyLost, AckLost}
use Rattle.hid_requests.specs.declared.boot.Boot.{Boot}
use Rattle.hid_requests.specs.declared.boot.Boot.TheVariants.{No, Keyboard, Mouse}
use Rattle.hid_bus.specs.declared.start.Start.{Start}
use Rattle.hid_bus.specs.declared.start.Start.TheVariants.{Ready, Cold}
use Rattle.hid_text.specs.declared.fault.LineFault.{LineFault}
use Rattle.hid_text.specs.declared.fault.LineFault.TheVariants.{Syntax, BadHex}
use Rattle.hid_text.specs.Words.{Word, look_up}
use Rattle.hid_text.specs.Numbers.{device_of, usage_of_word, count_of, signed_of_word, amount_of}

-- START
abbrev pub start_of : Word → Option Start
start_of = look_up ((codes "ready", Ready) ∷ (codes "cold", Cold) ∷ [])

-- KIND
abbrev pub boot_of : Word → Option Boot
boot_of = look_up ((codes "plain", No) ∷ (codes "keyboard", Keyboard) ∷ (codes "mouse", Mouse) ∷ [])

-- FATE
abbrev pub fate_of : Word → Option Fate
fate_of = look_up (
    (codes "clean", Clean) ∷ (codes "token", TokenLost) ∷ (codes "reply", ReplyLost)
    ∷ (codes "ack", AckLost) ∷ [])

-- what words say that are all understood, or that they are no line of the script's
abbrev pub or_syntax : {A B : Type 0} → (A → B) → Option A → Result B LineFault
or_syntax make None = Err Syntax
or_syntax make (Some said) = Ok (make said)

-- words of hex
abbrev pub with_bytes : {A : Type 0} → (ArrayVec ℕ → A) → Option (List ℕ) → Result A LineFault
with_bytes make None = Err BadHex
with_bytes make (Some bytes) = Ok (make (record { items = bytes }))

-- two words that are both understood
abbrev pub both : {A B : Type 0} → Option A → Option B → Option (A × B)
both (Some a) (Some b) = Some (a, b)
both (Some a) None = None
both None b = None

-- three values, if each is there
abbrev pub all_three : {A B C : Type 0} → Option A → Option B → Option C → Option (A × B × C)
all_three (Some a) (Some b) (Some c) = Some (a, b, c)
all_three (Some a) (Some b) None = None
all_three (Some a) None c = None
all_three None b c = None

-- D U
unfoldable pub control_meaning : List Word → Option (ℕ × Usage)
control_meaning (dev ∷ usage ∷ []) = both (device_of dev) (usage_of_word usage)
control_meaning _ = None

-- D U N, of a value
unfoldable pub set_meaning : List Word → Option (ℕ × Usage × ℤ)
set_meaning (dev ∷ usage ∷ value ∷ []) =
    all_three (device_of dev) (usage_of_word usage) (signed_of_word value)
set_meaning _ = None

-- D U N, of a motion
unfoldable pub move_meaning : List Word → Option (ℕ × Usage × ℤ)
move_meaning (dev ∷ usage ∷ by ∷ []) = all_three (device_of dev) (usage_of_word usage) (amount_of by)
move_meaning _ = None

-- [COUNT]
unfoldable pub frame_meaning : List Word → Option ℕ
frame_meaning [] = Some 1
frame_meaning (count ∷ []) = count_of count
frame_meaning _ = None

-- [FATE [COUNT]]
unfoldable pub tries_meaning : List Word → Option (Fate × ℕ)
tries_meaning [] = Some (Clean, 1)
tries_meaning (fate ∷ []) = both (fate_of fate) (Some 1)
tries_meaning (fate ∷ count ∷ []) = both (fate_of fate) (count_of count)
tries_meaning _ = None

-- D [FATE [COUNT]]
unfoldable pub poll_meaning : List Word → Option (ℕ × Fate × ℕ)
poll_meaning (dev ∷ []) = all_three (device_of dev) (Some Clean) (Some 1)
poll_meaning (dev ∷ fate ∷ []) = all_three (device_of dev) (fate_of fate) (Some 1)
poll_meaning (dev ∷ fate ∷ count ∷ []) = all_three (device_of dev) (fate_of fate) (count_of count)
poll_meaning _ = None

-- D
unfoldable pub one_device_meaning : List Word → Option ℕ
one_device_meaning (dev ∷ []) = device_of dev
one_device_meaning _ = None
