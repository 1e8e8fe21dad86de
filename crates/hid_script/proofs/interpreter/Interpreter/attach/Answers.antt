use Rattle.std.proofs.Common.{rules}
use Rattle.hid_script.specs.Steps.{DevicePrints}
use Rattle.hid_script.specs.Interpreter.{session_of}
use Rattle.hid_script.proofs.SessionLemmas.{device_refused, device_quiet, device_missing, device_written, memory_ends}
use Rattle.hid_script.proofs.StreamLemmas.{from_stack, ends_by, no_calls}
use Rattle.hid_script.proofs.interpreter.Interpreter.attach.Goals as goal

pub returns-in_err-dev-clause-prints : goal.returns-in_err-dev-clause-prints
returns-in_err-dev-clause-prints g c = device_refused _ (session_of c.args.self.now) c.args.start c.args.boot c.args.descriptor.now c.in_err-dev.field-0.0 _ _ _ c.in_err-dev.ensures.attaches c.from_residual.ensures.1

pub returns-then-not-self-clause-prints : goal.returns-then-not-self-clause-prints
returns-then-not-self-clause-prints g c = device_quiet _ (session_of c.args.self.now) c.args.start c.args.boot c.args.descriptor.now c.in_ok-dev.dev c.attach.new.self c.if-not-self.true c.in_ok-dev.ensures.attaches

pub returns-in_err-device-clause-prints : goal.returns-in_err-device-clause-prints
returns-in_err-device-clause-prints g c = absurd (device_missing c.args.self.now.rig c.attach.new.self c.args.start c.args.boot c.args.descriptor.now c.in_ok-dev.dev c.in_ok-dev.ensures.attaches c.in_err-device.ensures.none.1)

pub returns-in_err-print_layout-clause-prints : goal.returns-in_err-print_layout-clause-prints
returns-in_err-print_layout-clause-prints g c =
    memory_ends _
    (DevicePrints c.args.start c.args.boot c.args.descriptor.now
    (session_of c.args.self.now)) _ _ c.from_residual-in_err-print_layout.ensures.1

pub returns-clause-prints : goal.returns-clause-prints
returns-clause-prints g c =
    device_written _ _ (session_of c.args.self.now) c.args.start c.args.boot c.args.descriptor.now c.in_ok-dev.dev c.attach.new.self c.in_ok-device.device.now.control.requests.layout c.as_bytes.result.now _ c.if-not-self.false c.in_ok-dev.ensures.attaches c.in_ok-device.ensures.shows.0 c.in_ok-device.ensures.shows.1 c.in_ok-device.ensures.shows.2.layout (search rules)
    c.write_text.ensures.ok c.write_text.ensures.cause c.write_text.ensures.prefix

pub returns-in_err-dev-clause-outside : goal.returns-in_err-dev-clause-outside
returns-in_err-dev-clause-outside g c = ends_by g.W.Sink.calls c.args.writer.now c.args.writer.now _ _ (from_stack g.W.Sink.calls c.args.writer.now c.args.writer.now c.in_err-dev.field-0.0 (no_calls g.W.Sink.calls c.args.writer.now)) c.from_residual.ensures.1

pub returns-in_err-device-clause-outside : goal.returns-in_err-device-clause-outside
returns-in_err-device-clause-outside g c = ends_by g.W.Sink.calls c.args.writer.now c.args.writer.now _ _ (from_stack g.W.Sink.calls c.args.writer.now c.args.writer.now c.in_err-device.field-0.0 (no_calls g.W.Sink.calls c.args.writer.now)) c.from_residual-in_err-device.ensures.1

pub returns-in_err-print_layout-clause-outside : goal.returns-in_err-print_layout-clause-outside
returns-in_err-print_layout-clause-outside g c = ends_by g.W.Sink.calls c.args.writer.now c.args.writer.now _ _ (no_calls g.W.Sink.calls c.args.writer.now) c.from_residual-in_err-print_layout.ensures.1

pub returns-clause-outside : goal.returns-clause-outside
returns-clause-outside g c = c.write_text.ensures.outside

pub returns-then-not-self-clause-outside : goal.returns-then-not-self-clause-outside
returns-then-not-self-clause-outside g c = no_calls g.W.Sink.calls c.args.writer.now
