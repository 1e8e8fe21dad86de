use Rattle.std.proofs.Common.{◌≡◌, ◌+◌, filter, length}
use Rattle.hidstack_session.specs.Tables.{elements_of}
use Rattle.hidstack_host.specs.Finding.{is_sought}
use Rattle.hidstack_host.proofs.find.nth_element.Given as goal

-- those of the items so far are counted
abbrev pub invariant-loop-item : goal.invariant-loop-item
invariant-loop-item l = record {
  count : length (filter (is_sought l.fn.kind l.fn.usage) (elements_of l.fn.layout l.item)) + l.left ≡ l.fn.nth;
  end : l.item-end ≡ length l.fn.layout.items;
}
