use Rattle.std.proofs.Common.{◌≡◌, ℕ, List, refl}
use Rattle.hid_report_descriptor.specs.declared.fault.Cause.{Cause}
use Rattle.hid_report_descriptor.specs.declared.fault.Cause.TheVariants.{Memory}
use Rattle.hid_report_descriptor.specs.Real.{Explains, Refuses}
use Rattle.hid_driver.proofs.answers.no_layout.Goals as goal

-- memory aside, a descriptor without a layout is refused
refused_unless : (bytes : List ℕ) (cause : Cause) (at : ℕ) → (cause ≡ Memory → ⊥) → Explains bytes cause at → Refuses bytes cause at
refused_unless bytes Memory at other explained = absurd (other refl)
refused_unless bytes cause at other explained = explained

pub returns-in_default-clause-explained : goal.returns-in_default-clause-explained
returns-in_default-clause-explained c = λ bytes explained. refused_unless bytes c.args.fault.cause c.args.fault.at c.in_default.not-Memory explained
