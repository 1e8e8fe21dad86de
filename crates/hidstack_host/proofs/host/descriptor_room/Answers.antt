use Rattle.std.proofs.Common.{◌≡◌, ℕ, List, false, rules, tests}
use Rattle.hid_report_descriptor.specs.declared.fault.Cause as layouts
use Rattle.hid_report_descriptor.specs.declared.fault.Cause.TheVariants as whys
use Rattle.hid_report_descriptor.specs.declared.limits.Limits.TheVariants.{Real}
use Rattle.hid_report_descriptor.specs.Faults.{is_memory}
use Rattle.hid_report_descriptor.specs.Real.{Explains, Refuses}
use Rattle.hidstack_host.proofs.host.descriptor_room.Goals as goal

refuses : (why : layouts.Cause) (bytes : List ℕ) (at : ℕ) → is_memory why ≡ false → Explains bytes why at → Refuses bytes why at
refuses whys.Memory bytes at other h = absurd (cc)
refuses why bytes at other h = h

-- what is refused isn't accepted
pub returns-else-is_memory : goal.returns-else-is_memory
returns-else-is_memory c items accepts =
    let bytes : List ℕ = c.args.descriptor.now in
    let other : is_memory c.in-Err.fault.cause ≡ false = search (rules, tests) in
    absurd (c.accepted_or_refused.ensures Real bytes items c.in-Err.fault.cause c.in-Err.fault.at accepts
    (refuses c.in-Err.fault.cause bytes c.in-Err.fault.at other c.in-Err.ensures.err))
