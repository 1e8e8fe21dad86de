use Rattle.std.proofs.Common.{◌≡◌, None, length, sym}
use Rattle.std.specs.Prelude.{slice_get}
use Rattle.std.proofs.lemmas.Bool.{ltb-false}
use Rattle.std.proofs.lemmas.List.{append-nil}
use Rattle.std.proofs.lemmas.Option.{slice_get_past}
use Rattle.hidstack_session.specs.Tables.{elements_of_item}
use Rattle.hidstack_session.proofs.table.list_item.Goals as goal

-- past the last item there are no elements
pub returns-in-None : goal.returns-in-None
unfolding elements_of_item
returns-in-None c =
    let past = ltb-false c.args.item (length c.args.layout.now.items) (sym (rw c.items.ensures.items at (c.in-None.ensures.lookup)).0) in
    let none : slice_get c.args.layout.now.items c.args.item ≡ None = slice_get_past c.args.layout.now.items c.args.item past in
    rw none (sym (append-nil c.args.table.now.items))
