use Rattle.std.proofs.Common.{◌≡◌, ℕ, List, false, subst, sym, inl, rules, tests}
use Rattle.hid_report_descriptor.specs.declared.fault.Cause as layouts
use Rattle.hid_report_descriptor.specs.declared.fault.Cause.TheVariants as whys
use Rattle.hid_report_descriptor.specs.Faults.{is_memory}
use Rattle.hid_report_descriptor.specs.Real.{Explains, Refuses}
use Rattle.hidstack.specs.Texts.{IsRefusalText}
use Rattle.hidstack.proofs.names.write_fault.Goals as goal

refuses : (why : layouts.Cause) (bytes : List ℕ) (at : ℕ) → is_memory why ≡ false → Explains bytes why at → Refuses bytes why at
refuses whys.Memory bytes at other h = absurd (cc)
refuses why bytes at other h = h

pub returns-in-Ok : goal.returns-in-Ok
returns-in-Ok c =
    let bytes : List ℕ = c.args.descriptor.now in
    let other : is_memory c.in-Err.fault.cause ≡ false = search (rules, tests) in
    inl (
      c.in-Err.fault,
      c.as_bytes.result.now,
      refuses c.in-Err.fault.cause bytes c.in-Err.fault.at other c.in-Err.ensures.err,
      subst (IsRefusalText bytes c.in-Err.fault) (sym c.as_bytes.ensures.value) c.in-Ok.ensures,
      c.write_text.ensures,
    )
