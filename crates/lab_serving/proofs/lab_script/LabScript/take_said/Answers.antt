use Rattle.hid_text.specs.Words.{words_of}
use Rattle.lab_lines.specs.LabLines as lab
use Rattle.lab_serving.specs.Reading.{lab_read_of}
use Rattle.lab_serving.proofs.PartLemmas.{part_ok, part_err}
use Rattle.lab_serving.proofs.lab_script.LabScript.take_said.Goals as goal

pub returns-in-Device-clause-ok : goal.returns-in-Device-clause-ok
returns-in-Device-clause-ok c =
    rw c.in-Device.is (part_ok (lab_read_of c.args.self.now) (lab_read_of c.take_device.new.self) c.args.number
    (lab.Device c.in-Device.start c.in-Device.boot (words_of c.in-Device.hex.now)) c.take_device.result c.take_device.ensures.ok)

pub returns-in-Device-clause-err : goal.returns-in-Device-clause-err
returns-in-Device-clause-err c =
    rw c.in-Device.is (part_err (lab_read_of c.args.self.now) c.args.number
    (lab.Device c.in-Device.start c.in-Device.boot (words_of c.in-Device.hex.now)) c.take_device.result c.take_device.ensures.err)
