use Rattle.hid_snapshots.proofs.WordLemmas.{none_left, lowest_left}
use Rattle.hid_snapshots.proofs.flags.lowest_from.Goals as goal

pub returns-then-rest-eq0 : goal.returns-then-rest-eq0
returns-then-rest-eq0 c = λ i a b. none_left c.args.word c.args.from i c.if-rest-eq0.true a

pub returns-else-rest-eq0 : goal.returns-else-rest-eq0
returns-else-rest-eq0 c = lowest_left c.args.word c.args.from c.requires c.ranges.word.fits c.if-rest-eq0.false
