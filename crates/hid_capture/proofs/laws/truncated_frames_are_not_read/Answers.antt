use Rattle.hid_capture.proofs.TruncationLemmas.{no_descriptor, no_report}
use Rattle.hid_capture.proofs.laws.truncated_frames_are_not_read.Goals as goal

pub returns-clause-descriptors : goal.returns-clause-descriptors
returns-clause-descriptors c t urb cut = no_descriptor t urb cut

pub returns-clause-reports : goal.returns-clause-reports
returns-clause-reports c t urb cut = no_report t urb cut
