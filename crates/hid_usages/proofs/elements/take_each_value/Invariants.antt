use Rattle.std.proofs.Common.{length}
use Rattle.hid_snapshots.specs.Events.{usages_at, control_at, value_event}
use Rattle.hid_usages.specs.Elements.{value_by_number, value_events_read}
use Rattle.hid_usages.specs.Keeping.{AreKept}
use Rattle.hid_usages.proofs.ElementLemmas.{IsReading}
use Rattle.hid_usages.proofs.elements.take_each_value.Given as goal

abbrev pub invariant-loop-index : goal.invariant-loop-index
invariant-loop-index g l =
    record {
      reading : IsReading (value_by_number l.carriable) (λ j u p. value_event (control_at l.source.item j) u p.0 p.1)
          (usages_at l.source.layout.now l.source.item) l.fn.held l.numbers l.fn.out
          (value_events_read l.source.layout.now l.source.item l.carriable l.fn.held l.numbers) l.held l.out l.index;
      after : AreKept (value_by_number l.carriable) l.held l.numbers l.fn.range.end (length l.held);
    }
