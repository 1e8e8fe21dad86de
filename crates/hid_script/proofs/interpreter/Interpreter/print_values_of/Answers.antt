use Rattle.std.proofs.Common.{rules}
use Rattle.hid_script.specs.Steps.{ValuesPrint}
use Rattle.hid_script.specs.Interpreter.{session_of}
use Rattle.hid_script.proofs.SessionLemmas.{memory_ends, values_written, long_enough_report, report_refused, no_layout}
use Rattle.hid_script.proofs.StreamLemmas.{ends_by, no_calls}
use Rattle.hid_script.proofs.interpreter.Interpreter.print_values_of.Goals as goal

pub returns-in_err-print_values-clause-prints : goal.returns-in_err-print_values-clause-prints
returns-in_err-print_values-clause-prints g c =
    memory_ends _
    (ValuesPrint c.args.bytes.now (session_of c.args.self.now)) _ _ c.from_residual-in_err-print_values.ensures.1

pub returns-clause-prints : goal.returns-clause-prints
returns-clause-prints g c = values_written _ _ (session_of c.args.self.now) c.args.bytes.now c.in-Some.layout c.in_ok-report.report c.as_bytes.result.now _ c.in-Some.is c.in_ok-report.ensures (search rules) c.write_text.ensures.ok c.write_text.ensures.cause c.write_text.ensures.prefix

pub print_values-requires : goal.print_values-requires
print_values-requires g c = long_enough_report c.in-Some.layout c.args.bytes.now c.in_ok-report.report c.in_ok-report.ensures

pub returns-in_err-report-clause-prints : goal.returns-in_err-report-clause-prints
returns-in_err-report-clause-prints g c = report_refused _ (session_of c.args.self.now) c.args.bytes.now c.in-Some.layout c.in_err-report.field-0.0 _ _ c.in-Some.is c.in_err-report.ensures c.from_residual.ensures.1

pub returns-in_default-clause-prints : goal.returns-in_default-clause-prints
returns-in_default-clause-prints g c = no_layout _ (session_of c.args.self.now) c.args.bytes.now (session_of c.args.self.now) c.in_default.is

pub returns-in_err-report-clause-outside : goal.returns-in_err-report-clause-outside
returns-in_err-report-clause-outside g c = ends_by g.W.Sink.calls c.args.writer.now c.args.writer.now _ _ (no_calls g.W.Sink.calls c.args.writer.now) c.from_residual.ensures.1

pub returns-in_err-print_values-clause-outside : goal.returns-in_err-print_values-clause-outside
returns-in_err-print_values-clause-outside g c = ends_by g.W.Sink.calls c.args.writer.now c.args.writer.now _ _ (no_calls g.W.Sink.calls c.args.writer.now) c.from_residual-in_err-print_values.ensures.1

pub returns-clause-outside : goal.returns-clause-outside
returns-clause-outside g c = c.write_text.ensures.outside

pub returns-in_default-clause-outside : goal.returns-in_default-clause-outside
returns-in_default-clause-outside g c = no_calls g.W.Sink.calls c.args.writer.now
