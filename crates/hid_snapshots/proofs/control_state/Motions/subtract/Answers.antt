use Rattle.std.proofs.Common.{length, sym, ap, subst, ◌∙◌, pos, negsuc, arith}
use Rattle.std.proofs.lemmas.List.{with_items_is}
use Rattle.hid_snapshots.specs.ControlStates.{are_motions}
use Rattle.hid_snapshots.specs.Parts.{differences}
use Rattle.hid_snapshots.proofs.control_state.Motions.subtract.Goals as goal

pub subtract_all-requires-clause-len : goal.subtract_all-requires-clause-len
subtract_all-requires-clause-len c = ap length (c.deref_mut.ensures.value ∙ c.self.view_is) ∙ c.requires.len ∙ sym (ap length (c.deref.ensures.value ∙ c.other.view_is))

pub subtract_all-requires-clause-amounts : goal.subtract_all-requires-clause-amounts
subtract_all-requires-clause-amounts c = subst (are_motions (negsuc 0x7FFF_FFFF) (pos 0x7FFF_FFFF)) (sym (c.deref_mut.ensures.value ∙ c.self.view_is)) c.requires.amounts

pub subtract_all-requires-clause-others : goal.subtract_all-requires-clause-others
subtract_all-requires-clause-others c = subst (are_motions (negsuc 0x7FFF_FFFF) (pos 0x7FFF_FFFF)) (sym (c.deref.ensures.value ∙ c.other.view_is)) c.requires.others

pub returns : goal.returns
returns c =
    with_items_is c.self.inside.amounts c.subtract_all.new.amounts (omega (arith, c.subtract_all.auto.amounts, c.deref_mut.ensures.len)) ∙ c.subtract_all.ensures
    ∙ ap (λ l. differences l c.deref.result.now) (c.deref_mut.ensures.value ∙ c.self.view_is) ∙ ap (differences c.args.self.now) (c.deref.ensures.value ∙ c.other.view_is)
