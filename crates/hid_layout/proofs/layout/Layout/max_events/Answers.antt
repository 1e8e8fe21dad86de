use Rattle.std.proofs.Common.{◌≡◌, length, sym, ap, ◌∙◌, arith}
use Rattle.hid_layout.specs.Layout.{Contents}
use Rattle.hid_layout.specs.Controls.{items_of}
use Rattle.hid_layout.proofs.FormLemmas.{items_from-length, events-more, events-all}
use Rattle.hid_layout.proofs.layout.Layout.max_events.Goals as goal

pub loop-i-preserved : goal.loop-i-preserved
loop-i-preserved c =
    let layout : Contents = record { reports = c.self.inside.reports.items; numbered = c.self.inside.numbered; items = c.self.inside.items.items; entries = c.self.inside.lists.entries; paths = c.self.inside.lists.paths } in
    let n : length (items_of c.args.self.now) ≡ length c.self.inside.items.items = ap (λ l. length (items_of l)) (sym c.self.view_is) ∙ items_from-length layout layout.items layout.entries c.self.invariant.1.entries_there in
    record {
      so_far = events-more (items_of c.args.self.now) c.loop-i.i c.loop-i.events c.events-events.result (omega (arith, n, c.len-i-end.ensures, c.loop-i-test.true)) c.loop-i.invariant.so_far c.events-events.ensures.value;
      small = omega (arith, c.loop-i.invariant.small, c.events-events.ensures.small);
    }

pub returns : goal.returns
returns c =
    let layout : Contents = record { reports = c.self.inside.reports.items; numbered = c.self.inside.numbered; items = c.self.inside.items.items; entries = c.self.inside.lists.entries; paths = c.self.inside.lists.paths } in
    let n : length (items_of c.args.self.now) ≡ length c.self.inside.items.items = ap (λ l. length (items_of l)) (sym c.self.view_is) ∙ items_from-length layout layout.items layout.entries c.self.invariant.1.entries_there in
    events-all (items_of c.args.self.now) c.loop-i.i c.loop-i.events (omega (arith, n, c.len-i-end.ensures, c.loop-i-test.false)) c.loop-i.invariant.so_far
