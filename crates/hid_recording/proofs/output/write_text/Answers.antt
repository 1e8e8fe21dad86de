use Rattle.hid_recording.proofs.OutputLemmas.{more_written}
use Rattle.hid_recording.proofs.output.write_text.Goals as goal

pub loop-rest-preserved : goal.loop-rest-preserved
loop-rest-preserved g c = more_written _ _ _ _ _ c.in-Ok.n c.loop-rest.invariant c.in-Ok.ensures.bytes
