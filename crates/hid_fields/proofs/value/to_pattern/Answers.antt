use Rattle.std.proofs.Common.{◌≡◌, ◌∙◌}
use Rattle.std.proofs.lemmas.Int.{to_z-of_z}
use mir.Syntax.{w64}
use mir.Val.{SFits}
use Rattle.hid_fields.specs.Value.{pattern_for}
use Rattle.hid_fields.proofs.ValueLemmas.{value_of-pattern_for, pattern_for-only, pattern_for-lt}
use Rattle.hid_fields.proofs.value.to_pattern.Goals as goal

pub returns : goal.returns
returns c =
    let whole : SFits w64 c.args.value = c.ranges.value in
    let made : c.wrap.result ≡ pattern_for c.args.value c.args.width = simp to_z-of_z at c.wrap.ensures in
    record {
      fits = rw made (pattern_for-lt c.args.value c.args.width c.requires.some c.requires.fits);
      pattern = made;
      value = λ signed h. rw made (value_of-pattern_for c.args.value c.args.width signed c.requires.some h);
      only = λ signed pattern h is. made ∙ pattern_for-only c.args.value c.args.width signed pattern c.requires.some h is;
    }
