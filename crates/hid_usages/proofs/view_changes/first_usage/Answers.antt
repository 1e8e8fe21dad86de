use Rattle.std.proofs.Common.{arith, rules}
use Rattle.hid_report_descriptor.proofs.Places.{found}
use Rattle.hid_usages.proofs.view_changes.first_usage.Goals as goal

pub returns-then-place-entry_count : goal.returns-then-place-entry_count
returns-then-place-entry_count c =
    found c.args.entries.now 0 c.args.place (record { page = 0; id = 0 }, record { page = 0; id = 0 }) (search rules) (omega (arith, c.entry_count.ensures.value, c.if-place-entry_count.true))
