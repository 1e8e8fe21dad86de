use Rattle.std.proofs.Common.{◌≡◌, ◌+◌, ◌∙◌, sym, subst, arith}
use Rattle.hid_layout.specs.Controls.{items_of}
use Rattle.hidstack_device.specs.Finding.{count_in, places_of}
use Rattle.hidstack_device.proofs.CountLemmas.{counted, uncounted}
use Rattle.hidstack_device.proofs.find.nth_in.Goals as goal
use Rattle.hidstack_device.proofs.find.nth_in.Goals.{then-has_usage+else-left-eq0, else-has_usage}

pub loop-index-preserved : goal.loop-index-preserved
loop-index-preserved c = record {
  count = elim c.if-has_usage.branch [
    | then-has_usage+else-left-eq0 w ↦ counted (items_of c.args.layout.now) c.args.usage c.args.item c.loop-index.index c.loop-index.left c.if-has_usage.left c.args.nth
        (sym c.has_usage.ensures ∙ w.if-has_usage.true) (omega arith) (omega arith) c.loop-index.invariant.count
    | else-has_usage w ↦ uncounted (items_of c.args.layout.now) c.args.usage c.args.item c.loop-index.index c.loop-index.left c.if-has_usage.left c.args.nth
        (sym c.has_usage.ensures ∙ w.if-has_usage.false) (omega arith) c.loop-index.invariant.count
  ];
  end = c.loop-index.invariant.end;
}

pub returns-then-left-eq0 : goal.returns-then-left-eq0
returns-then-left-eq0 c = (sym c.has_usage.ensures ∙ c.if-has_usage.true, omega arith)

pub returns : goal.returns
returns c =
    let e : c.loop-index.index ≡ places_of (items_of c.args.layout.now) c.args.item = omega arith in
    subst (λ n. count_in (items_of c.args.layout.now) c.args.usage c.args.item n + c.loop-index.left ≡ c.args.nth) e c.loop-index.invariant.count
