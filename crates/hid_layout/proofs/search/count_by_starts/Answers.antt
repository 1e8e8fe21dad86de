use Rattle.std.proofs.Common.{ap, arith, ◌∙◌, ◌+◌, ◌-◌, length, get_or}
use Rattle.hid_report_descriptor.proofs.StartLemmas.{starts-length, counted}
use Rattle.hid_layout.proofs.search.count_by_starts.Goals as goal

pub bounds-starts-ranges : goal.bounds-starts-ranges
bounds-starts-ranges c = omega (arith, ap length c.requires, starts-length 0 c.args.entries.now)

pub returns : goal.returns
returns c = ap (λ n. get_or c.args.starts.now (length c.args.entries.now - 1) 0 + n) c.entry_count.ensures.value ∙ counted c.args.entries.now c.args.starts.now (length c.args.entries.now - 1) _ c.requires (omega arith)
