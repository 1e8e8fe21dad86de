use Rattle.hid_bus.proofs.PieceLemmas.{lived_pieces}
use Rattle.hid_bus.proofs.laws.open_rounds_have_a_piece.Goals as goal

pub returns-clause-fresh : goal.returns-clause-fresh
returns-clause-fresh c items snapshot idle = tt

pub returns-clause-lived : goal.returns-clause-lived
returns-clause-lived c = lived_pieces
