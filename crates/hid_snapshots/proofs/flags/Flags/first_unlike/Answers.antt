use Rattle.hid_snapshots.proofs.WordLemmas.{found_below}
use Rattle.hid_snapshots.proofs.flags.Flags.first_unlike.Goals as goal

pub returns : goal.returns
returns c = found_below _ _ c.args.from 64 c.lowest_from.result c.unlike.ensures c.lowest_from.ensures
