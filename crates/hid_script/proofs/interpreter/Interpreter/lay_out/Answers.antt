use Rattle.std.proofs.Common.{refl, rules, Err}
use Rattle.hid_script.specs.declared.fault.Cause.TheVariants.{Memory}
use Rattle.hid_script.specs.Steps.{LayoutPrints}
use Rattle.hid_script.specs.Interpreter.{session_of}
use Rattle.hid_script.proofs.SessionLemmas.{memory_ends, layout_refused, layout_written}
use Rattle.hid_script.proofs.StreamLemmas.{from_layout, ends_by, no_calls}
use Rattle.hid_script.proofs.interpreter.Interpreter.lay_out.Goals as goal

pub returns-in_err-layout-clause-prints : goal.returns-in_err-layout-clause-prints
returns-in_err-layout-clause-prints g c = layout_refused _ c.args.descriptor.now (session_of c.args.self.now) c.in_err-layout.field-0.0 _ _ c.in_err-layout.ensures.err c.from_residual.ensures.1

pub returns-then-is_err-clause-prints : goal.returns-then-is_err-clause-prints
returns-then-is_err-clause-prints g c =
    memory_ends _ (LayoutPrints c.args.descriptor.now (session_of c.args.self.now)) (Err Memory)
    (session_of c.args.self.now) refl

pub returns-clause-prints : goal.returns-clause-prints
returns-clause-prints g c =
    rw c.replace.ensures.after (layout_written _ _ c.args.descriptor.now (session_of c.args.self.now) c.in_ok-layout.layout c.as_bytes.result.now _ c.in_ok-layout.ensures.ok (search rules) c.write_text.ensures.ok c.write_text.ensures.cause c.write_text.ensures.prefix)

pub returns-in_err-layout-clause-outside : goal.returns-in_err-layout-clause-outside
returns-in_err-layout-clause-outside g c = ends_by g.W.Sink.calls c.args.writer.now c.args.writer.now _ _ (from_layout g.W.Sink.calls c.args.writer.now c.args.writer.now c.in_err-layout.field-0.0.cause c.in_err-layout.field-0.0 (no_calls g.W.Sink.calls c.args.writer.now)) c.from_residual.ensures.1

pub returns-clause-outside : goal.returns-clause-outside
returns-clause-outside g c = c.write_text.ensures.outside

pub returns-then-is_err-clause-outside : goal.returns-then-is_err-clause-outside
returns-then-is_err-clause-outside g c = no_calls g.W.Sink.calls c.args.writer.now
