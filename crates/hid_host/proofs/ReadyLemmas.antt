-- What a host makes of a descriptor without a layout.
use Rattle.std.proofs.Common.{◌≡◌, ℕ, List, refl}
use Rattle.hid_report_descriptor.specs.declared.fault.Cause.{Cause}
use Rattle.hid_report_descriptor.specs.declared.fault.Cause.TheVariants.{Memory}
use Rattle.hid_report_descriptor.specs.Bus.{Explains, Refuses}

-- memory aside, a descriptor without a layout is refused
pub refused_unless : (bytes : List ℕ) (cause : Cause) (at : ℕ) → (cause ≡ Memory → ⊥) → Explains bytes cause at → Refuses bytes cause at
refused_unless bytes Memory at other explained = absurd (other refl)
refused_unless bytes cause at other explained = explained
