use Rattle.std.proofs.Common.{sym, refl, ◌∙◌, arith}
use Rattle.hid_text.proofs.WordLemmas.{one_first, ends_odd, ends_bad, goes_on, ends_whole}
use Rattle.hid_text.proofs.words.read_hex.Goals as goal

pub returns-in_default-behind-clause-bytes : goal.returns-in_default-behind-clause-bytes
returns-in_default-behind-clause-bytes c = (
  refl,
  ends_odd _ c.loop-rest.bytes.items c.loop-rest.rest.now _ _ c.loop-rest.invariant.0 (one_first c.loop-rest.rest.now (omega (arith, c.in-len1-up.len_at_least))) (omega (arith, c.in_default-behind.len_below))
      (sym c.if-is_blank.ensures),
)

pub returns-in-None-clause-bytes : goal.returns-in-None-clause-bytes
returns-in-None-clause-bytes c = (
  refl,
  ends_bad _ c.loop-rest.bytes.items c.loop-rest.rest.now _ _ _ _ c.loop-rest.invariant.0 (one_first c.loop-rest.rest.now (omega (arith, c.in-len1-up.len_at_least))) (one_first _ (omega (arith, c.in-len1-up-behind.len_at_least)))
      (sym c.if-is_blank.ensures) (sym c.hex_pair.ensures ∙ c.in-None.is),
)

pub loop-rest-preserved : goal.loop-rest-preserved
loop-rest-preserved c =
    goes_on _ _ c.loop-rest.bytes.items _ c.loop-rest.rest.now _ _ _ _ c.in-Some.byte c.loop-rest.invariant.0 c.loop-rest.invariant.1 c.loop-rest.invariant.2 (one_first c.loop-rest.rest.now (omega (arith, c.in-len1-up.len_at_least)))
    (one_first _ (omega (arith, c.in-len1-up-behind.len_at_least))) (sym c.if-is_blank.ensures) (sym c.hex_pair.ensures ∙ c.in-Some.is) c.push.ensures.items

pub returns-clause-bytes : goal.returns-clause-bytes
returns-clause-bytes c = ends_whole _ c.loop-rest.bytes.items c.loop-rest.rest.now c.loop-rest.invariant.0 (omega (arith, c.in_default.len_below))
