use Rattle.std.proofs.Common.{sym, ◌∙◌}
use Rattle.hid_input.specs.Descriptor.{start}
use Rattle.hid_input.proofs.FaultLemmas.{refuted}
use Rattle.hid_input.proofs.whole.faults_are_true.Goals as goal

pub returns : goal.returns
returns c = λ bytes fault f d.
    refuted c.prefix_free.ensures start f.progress d.last f.items d.items f.rest d.zeros fault.cause f.encoded d.encoded (f.joined ∙ sym d.joined) f.nested d.nested d.closed d.padded f.unended f.wrong
