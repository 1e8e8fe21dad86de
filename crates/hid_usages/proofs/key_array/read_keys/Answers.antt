use Rattle.std.proofs.Common.{All, ◌∙◌, sym, subst}
use Rattle.hid_usages.specs.Reading.{FitsFields}
use Rattle.hid_usages.proofs.key_array.read_keys.Goals as goal

pub read_each_key-requires-clause-fits : goal.read_each_key-requires-clause-fits
read_each_key-requires-clause-fits g c =
    subst (All (FitsFields c.args.array.now.item.now)) (c.in-Some.ensures.0 ∙ sym c.of_bytes.ensures) c.requires.fits
