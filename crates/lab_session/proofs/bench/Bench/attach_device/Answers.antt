use Rattle.std.proofs.Common.{refl}
use Rattle.lab_session.specs.Parts.{Attaches, PartPrints}
use Rattle.lab_session.proofs.CallLemmas.{of_text}
use Rattle.lab_session.proofs.DoingLemmas.{did_once}
use Rattle.lab_session.proofs.WaitLemmas.{leaves_awaited}
use Rattle.lab_session.proofs.bench.Bench.attach_device.Goals as goal

pub returns : goal.returns
unfolding PartPrints
returns g c = record {
  does = did_once (Attaches c.args.start c.args.boot c.args.descriptor.now) c.args.self.now _ c.clear.new.self.items c.attach-part.new.writer.items c.as_slice.result.now _ _ c.attach-part.result c.print_part.result c.clear.ensures.items c.as_slice.ensures.value c.attach-part.ensures.prints c.print_part.ensures.written c.print_part.ensures.ok (λ dev. refl) refl
      (leaves_awaited (Attaches c.args.start c.args.boot c.args.descriptor.now) _ _ (λ dev request e. absurd (cc)) (λ dev. refl)) c.print_part.ensures.kept;
  calls = c.print_part.ensures.calls (of_text _ c.clear.new.self c.attach-part.new.writer c.attach-part.result c.attach-part.ensures.outside);
}
