use Rattle.std.proofs.Common.{ap, refl, rules}
use Rattle.hid_text.specs.Words.{words_of}
use Rattle.lab_serving.specs.Reading.{lab_read_of}
use Rattle.lab_serving.proofs.PartLemmas.{kept}
use Rattle.lab_serving.proofs.lab_script.LabScript.add_expectation.Goals as goal

pub returns-clause-ok : goal.returns-clause-ok
returns-clause-ok c =
    kept (lab_read_of c.args.self.now) (lab_read_of c.keep.new.self) c.args.number (words_of c.args.line.now) c.args.kind
    (record { at = c.len.result; number = c.args.number; kind = c.args.kind; line = c.in-Ok.line }) c.keep.result
    (record { at = search rules; number_is = refl; words_are = ap words_of c.in-Ok.ensures.items; kind_is = refl }) c.keep.ensures.ok
