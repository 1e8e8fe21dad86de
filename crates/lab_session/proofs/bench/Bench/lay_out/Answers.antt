use Rattle.std.proofs.Common.{refl}
use Rattle.lab_session.specs.Parts.{LaysOut, PartPrints}
use Rattle.lab_session.proofs.CallLemmas.{of_text}
use Rattle.lab_session.proofs.DoingLemmas.{did_once}
use Rattle.lab_session.proofs.WaitLemmas.{leaves_awaited}
use Rattle.lab_session.proofs.bench.Bench.lay_out.Goals as goal

pub returns : goal.returns
unfolding PartPrints
returns g c = record {
  does = did_once (LaysOut c.args.descriptor.now) c.args.self.now _ c.clear.new.self.items c.lay_out-part.new.writer.items c.as_slice.result.now _ _ c.lay_out-part.result c.print_part.result c.clear.ensures.items c.as_slice.ensures.value c.lay_out-part.ensures.prints c.print_part.ensures.written c.print_part.ensures.ok (λ dev. refl) refl
      (leaves_awaited (LaysOut c.args.descriptor.now) _ _ (λ dev request e. absurd (cc)) (λ dev. refl)) c.print_part.ensures.kept;
  calls = c.print_part.ensures.calls (of_text _ c.clear.new.self c.lay_out-part.new.writer c.lay_out-part.result c.lay_out-part.ensures.outside);
}
