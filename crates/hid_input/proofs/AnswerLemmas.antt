-- What is read is whole, where its shape does not name itself.
use Rattle.std.proofs.Common.{◌≡◌, false, Option, None, Some, Result, Ok, Err, inl, sym, ap, ◌∙◌, subst}
use Rattle.std.specs.Prelude.{IfOk}
use Rattle.hid_input.specs.declared.fault.InputFault.{InputFault}
use Rattle.hid_input.specs.declared.found.Found.{Found}
use Rattle.hid_input.specs.declared.fault.InputCause.TheVariants.{Memory}
use Rattle.hid_input.specs.Faults.{of_text}
use Rattle.hid_input.specs.Answer.{Answer, Reads, names_itself}
use Rattle.hid_input.specs.Descriptor.{IsDescriptor}

pub whole_if_read : (answer : Option Answer) (result : Result Found InputFault) → Reads answer result
    → IfOk result (λ found. names_itself found.shape ≡ false → IsDescriptor found.bytes.items)
whole_if_read None (Ok found) read = absurd read
whole_if_read None (Err fault) read = tt
whole_if_read (Some answer) (Err fault) read = tt
whole_if_read (Some answer) (Ok found) read =
    λ other. subst IsDescriptor (ap (λ (a : Answer). a.1.0) (sym read.0)) (read.1 (ap (λ (a : Answer). names_itself a.0) (sym read.0) ∙ other))

-- memory may run out whatever is to be read
pub out_of_memory : (answer : Option Answer) (fault : InputFault) → fault ≡ of_text Memory → Reads answer (Err fault)
out_of_memory None fault is = tt
out_of_memory (Some answer) fault is = inl is
