use Rattle.lab_session.specs.Lines.{DoesPart, Settles}
use Rattle.lab_session.specs.Parts.{Changes}
use Rattle.lab_session.proofs.CallLemmas.{lab_behind}
use Rattle.lab_session.proofs.DoingLemmas.{ok_then}
use Rattle.lab_session.proofs.bench.Bench.settle_change.Goals as goal

pub returns : goal.returns
returns g c = record {
  does = ok_then c.settle.result (DoesPart (Changes c.args.dev c.args.control c.args.wanted)) (Settles c.args.dev) c.args.self.now c.change.new.self c.settle.new.self _ (g.W.Sink.contents c.change.new.writer) _ c.in_ok-change.ensures.does c.settle.ensures.does;
  unsettled = c.settle.ensures.unsettled;
  calls = lab_behind g.W.Sink.calls c.args.writer.now c.change.new.writer c.settle.new.writer c.settle.result c.in_ok-change.ensures.calls c.settle.ensures.calls;
}
