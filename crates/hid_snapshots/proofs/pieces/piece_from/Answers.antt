use Rattle.std.proofs.Common.{rules}
use Rattle.hid_snapshots.proofs.PieceLemmas.{piece_is}
use Rattle.hid_snapshots.proofs.pieces.piece_from.Goals as goal

pub returns-clause-piece : goal.returns-clause-piece
returns-clause-piece c = piece_is c.args.bytes.now c.args.start c.min.result c.min-2.result (search rules) (search rules)
