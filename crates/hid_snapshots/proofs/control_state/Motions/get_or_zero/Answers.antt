use Rattle.std.proofs.Common.{◌≡◌, ◌∙◌, sym, ap, le_refl, unwrap_or, pos, to_z, of_z, w64, rules}
use Rattle.std.specs.List.{slice_get}
use Rattle.std.proofs.lemmas.Option.{unwrap_or-slice_get}
use Rattle.std.proofs.lemmas.Int.{to_z-of_z}
use Rattle.hid_snapshots.proofs.control_state.Motions.get_or_zero.Goals as goal

pub returns : goal.returns
returns c =
    let kept : to_z w64 (of_z w64 c.unwrap_or.result) ≡ c.unwrap_or.result = search (rules, to_z-of_z) in
    kept ∙ c.unwrap_or.ensures ∙ ap (λ o. unwrap_or o (pos 0)) c.copied.ensures ∙ c.get.ensures.lookup.4 (le_refl c.args.index) (pos 0) ∙ sym (unwrap_or-slice_get c.deref.result.now c.args.index (pos 0))
    ∙ ap (λ l. unwrap_or (slice_get l c.args.index) (pos 0)) (c.deref.ensures.value ∙ c.self.view_is)
