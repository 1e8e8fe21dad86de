use Rattle.std.proofs.Common.{◌-◌, arith}
use Rattle.hid_snapshots.proofs.ReportLemmas.{byte_then_zeros, zeros_alone}
use Rattle.hid_snapshots.proofs.encode.bare_report.Goals as goal

pub returns-then-numbered-clause-bytes : goal.returns-then-numbered-clause-bytes
returns-then-numbered-clause-bytes c =
    byte_then_zeros c.id_of.result (c.report_bytes-count.result - 1) c.clear.new.self.items c.push.new.self.items c.push_zeros.new.bytes.items c.clear.ensures c.push.ensures.items c.push_zeros.ensures.items (omega (arith, c.id_of.type_inv))

pub returns-else-numbered-clause-bytes : goal.returns-else-numbered-clause-bytes
returns-else-numbered-clause-bytes c =
    zeros_alone c.report_bytes-count.result c.clear.new.self.items c.push_zeros-else-numbered.new.bytes.items c.clear.ensures c.push_zeros-else-numbered.ensures.items
