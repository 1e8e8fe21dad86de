use Rattle.std.proofs.Common.{◌≡◌, ◌∙◌, ℤ, Option, sym, subst, ap}
use Rattle.std.specs.List.{slice_set}
use Rattle.hid_snapshots.specs.Events.{control_at, value_event}
use Rattle.hid_snapshots.proofs.ItemLemmas.{set_same}
use Rattle.hid_usages.specs.Elements.{value_by_number}
use Rattle.hid_usages.proofs.ElementLemmas.{value_stays}
use Rattle.hid_usages.proofs.EventLemmas.{nothing_appended}
use Rattle.hid_usages.proofs.elements.take_number.Goals as goal

pub returns-else-not-is_kept-clause-held : goal.returns-else-not-is_kept-clause-held
returns-else-not-is_kept-clause-held c = λ before there.
    let was : c.get-before.result ≡ before = let e = sym c.get-before.ensures ∙ there in cc in
    let stays = subst (λ (b : Option ℤ). value_by_number c.args.carriable.now (b, c.args.number.now) ≡ b) was c.if-not-is_kept.ensures.kept in
    sym (ap (λ (b : Option ℤ). slice_set c.args.held.now c.args.index b) stays ∙ set_same c.args.held.now c.args.index before there)

pub returns-else-not-is_kept-clause-appends : goal.returns-else-not-is_kept-clause-appends
returns-else-not-is_kept-clause-appends c = λ usage before here there.
    let was : c.get-before.result ≡ before = let e = sym c.get-before.ensures ∙ there in cc in
    let stays = subst (λ (b : Option ℤ). value_by_number c.args.carriable.now (b, c.args.number.now) ≡ b) was c.if-not-is_kept.ensures.kept in
    let control = control_at c.args.source.now.item c.args.index in
    nothing_appended c.args.out.now _ (ap (λ (a : Option ℤ). value_event control usage before a) stays ∙ value_stays control usage before)
