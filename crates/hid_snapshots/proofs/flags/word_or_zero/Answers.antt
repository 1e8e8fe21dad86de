use Rattle.std.proofs.Common.{◌∙◌, sym, ap, le_refl, unwrap_or}
use Rattle.std.proofs.lemmas.Option.{unwrap_or-slice_get}
use Rattle.hid_snapshots.proofs.flags.word_or_zero.Goals as goal

pub returns : goal.returns
returns c =
    c.unwrap_or.ensures ∙ ap (λ o. unwrap_or o 0) c.copied.ensures ∙ c.get.ensures.lookup.4 (le_refl c.args.k) 0 ∙ sym (unwrap_or-slice_get c.args.words.now c.args.k 0)
