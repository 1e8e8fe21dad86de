use Rattle.std.proofs.Common.{◌∙◌, sym, ap, le_refl, unwrap_or, None}
use Rattle.std.specs.List.{slice_get}
use Rattle.std.proofs.lemmas.Option.{unwrap_or-slice_get}
use Rattle.hid_snapshots.proofs.control_state.Values.get_or_none.Goals as goal

pub returns : goal.returns
returns c =
    c.unwrap_or.ensures ∙ ap (λ o. unwrap_or o None) c.copied.ensures ∙ c.get.ensures.lookup.4 (le_refl c.args.index) None ∙ sym (unwrap_or-slice_get c.deref.result.now c.args.index None)
    ∙ ap (λ l. unwrap_or (slice_get l c.args.index) None) (c.deref.ensures.value ∙ c.self.view_is)
