-- What is read of a file, and how a result agrees with it (our choice: docs/INPUT-FORMS.md).
use Rattle.std.specs.Prelude.{◌≡◌, ◌⊎◌, ℕ, Bool, true, false, List, Option, None, Some, Result, Ok, Err, ⊤}
use Rattle.hid_input.specs.declared.fault.InputCause.TheVariants.{NotWhole, Memory}
use Rattle.hid_input.specs.declared.fault.InputFault.{InputFault}
use Rattle.hid_input.specs.declared.found.Found.{Found}
use Rattle.hid_input.specs.declared.found.Shape.{Shape}
use Rattle.hid_input.specs.declared.found.Shape.TheVariants.{Binary, Recording, Block, Items}
use Rattle.hid_input.specs.declared.whole.DescriptorFault.{DescriptorFault}
use Rattle.hid_input.specs.Descriptor.{IsDescriptor, IsFault}
use Rattle.hid_input.specs.Faults.{of_text}

-- a shape, the bytes, and the lines that they are read from, where there are other lines
abbrev pub Answer : Type 0
Answer = Shape × (List ℕ × Option (ℕ × ℕ))

-- what was found
abbrev pub answer_of : Found → Answer
answer_of found = (found.shape, (found.bytes.items, found.lines))

-- a shape names itself, so that any bytes in it are the descriptor
abbrev pub names_itself : Shape → Bool
names_itself Binary = true
names_itself Recording = true
names_itself Block = true
names_itself Items = true
names_itself shape = false

-- bytes are no whole descriptor, and the fault says why
abbrev pub IsWholeFault : List ℕ → InputFault → Type 0
IsWholeFault bytes fault = (whole : DescriptorFault) × ((fault.cause ≡ NotWhole whole) × IsFault bytes whole)

-- what has to be read is found, and is whole where its shape doesn't name itself; else it isn't whole, or memory ran out
abbrev pub ReadsAnswer : Answer → Result Found InputFault → Type 0
ReadsAnswer answer (Ok found) = (answer_of found ≡ answer) × (names_itself answer.0 ≡ false → IsDescriptor answer.1.0)
ReadsAnswer answer (Err fault) = (fault ≡ of_text Memory) ⊎ ((names_itself answer.0 ≡ false) × IsWholeFault answer.1.0 fault)

-- where there is something to read, it is read; else the text is refused
abbrev pub Reads : Option Answer → Result Found InputFault → Type 0
Reads None (Ok found) = ⊥
Reads None (Err fault) = ⊤
Reads (Some answer) result = ReadsAnswer answer result
