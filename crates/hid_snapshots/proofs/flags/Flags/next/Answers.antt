use Rattle.std.proofs.Common.{[]}
use Rattle.hid_snapshots.specs.Words.{is_on}
use Rattle.hid_snapshots.proofs.WordLemmas.{found_behind, found_next}
use Rattle.hid_snapshots.proofs.NoteLemmas.{found_first}
use Rattle.hid_snapshots.proofs.flags.Flags.next.Goals as goal

pub returns-clause-first : goal.returns-clause-first
returns-clause-first c =
    found_next _ _ _ c.args.from c.first_alone.result c.self.invariant.words c.self.view_is
    (found_first _ c.deref.result.now [] _ _ c.div_ceil.result c.args.from c.first_alone.result c.self.invariant c.deref.ensures.value c.div_ceil.ensures c.first_alone.ensures)

pub returns-clause-behind : goal.returns-clause-behind
returns-clause-behind c = found_behind (is_on c.args.self.now) c.args.from _ _ _ c.first_alone.result c.self.invariant.words c.self.view_is (returns-clause-first c)
