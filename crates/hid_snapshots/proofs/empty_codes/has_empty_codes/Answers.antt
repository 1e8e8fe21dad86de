use Rattle.std.proofs.Common.{◌∙◌, sym, arith}
use Rattle.hid_snapshots.proofs.ItemLemmas.{got}
use Rattle.hid_snapshots.proofs.EmptyLemmas.{codes_next, both_false, both_rest}
use Rattle.hid_snapshots.proofs.empty_codes.has_empty_codes.Goals as goal

pub returns-then-not-has_empty_code : goal.returns-then-not-has_empty_code
returns-then-not-has_empty_code c =
    let m = got c.args.layout.now.items c.loop-i.i (omega arith) in
    let es = got c.args.layout.now.entries c.loop-i.i (omega (arith, c.item_count-i-end.ensures.layout.entries_there)) in
    let next = codes_next c.args.layout.now.reports c.args.layout.now.items c.args.layout.now.entries c.loop-i.i m.0 es.0 m.1 es.1 in
    sym (c.loop-i.invariant ∙ next ∙ both_false _ _ (sym (c.has_empty_code.ensures m.0 es.0 m.1 es.1) ∙ c.if-not-has_empty_code.true))

pub loop-i-preserved : goal.loop-i-preserved
loop-i-preserved c =
    let m = got c.args.layout.now.items c.loop-i.i (omega arith) in
    let es = got c.args.layout.now.entries c.loop-i.i (omega (arith, c.item_count-i-end.ensures.layout.entries_there)) in
    let next = codes_next c.args.layout.now.reports c.args.layout.now.items c.args.layout.now.entries c.loop-i.i m.0 es.0 m.1 es.1 in
    c.loop-i.invariant ∙ next ∙ both_rest _ _ (sym (c.has_empty_code.ensures m.0 es.0 m.1 es.1) ∙ c.if-not-has_empty_code.false)
