use Rattle.hid_snapshots.specs.Words.{is_alone}
use Rattle.hid_snapshots.proofs.WordLemmas.{found_behind, found_next_alone}
use Rattle.hid_snapshots.proofs.NoteLemmas.{found_first}
use Rattle.hid_snapshots.proofs.flags.Flags.next_alone.Goals as goal

pub returns-clause-first : goal.returns-clause-first
returns-clause-first c =
    found_next_alone _ c.words.result.now _ _ c.args.other.now c.args.from c.first_alone.result c.self.invariant.words c.self.view_is c.words.ensures
    (found_first _ c.deref.result.now c.words.result.now _ _ c.div_ceil.result c.args.from c.first_alone.result c.self.invariant c.deref.ensures.value c.div_ceil.ensures c.first_alone.ensures)

pub returns-clause-behind : goal.returns-clause-behind
returns-clause-behind c = found_behind (is_alone c.args.self.now c.args.other.now) c.args.from _ _ _ c.first_alone.result c.self.invariant.words c.self.view_is (returns-clause-first c)
