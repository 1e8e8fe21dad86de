use Rattle.hid_text.proofs.TableLemmas.{entry_passed, entry_found, no_entry}
use Rattle.hid_text.proofs.words.look_up.Goals as goal

pub loop-entry-preserved : goal.loop-entry-preserved
loop-entry-preserved g c =
    entry_passed (λ entry. (entry.0.now, entry.1)) c.args.table.now c.loop-entry.entry-index c.entry-item.result c.args.word.now _ c.loop-entry.invariant c.loop-entry-test.true c.entry-item.is c.if-eq.ensures

pub returns-then-eq : goal.returns-then-eq
returns-then-eq g c =
    entry_found (λ entry. (entry.0.now, entry.1)) c.args.table.now c.loop-entry.entry-index c.entry-item.result c.args.word.now _ c.loop-entry.invariant c.loop-entry-test.true c.entry-item.is c.if-eq.ensures

pub returns : goal.returns
returns g c = no_entry (λ entry. (entry.0.now, entry.1)) c.args.table.now c.loop-entry.entry-index c.args.word.now _ c.loop-entry.invariant c.loop-entry-test.false
