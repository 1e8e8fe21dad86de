use Rattle.hid_drawing.proofs.FillLemmas.{reports_filled, bits_once}
use Rattle.hid_drawing.proofs.laws.pieces_fill_reports.Goals as goal

pub returns-clause-order : goal.returns-clause-order
returns-clause-order c = reports_filled

pub returns-clause-once : goal.returns-clause-once
returns-clause-once c = bits_once
