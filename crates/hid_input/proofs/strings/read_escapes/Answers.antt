use Rattle.std.proofs.Common.{◌≡◌, ℕ, List, ◌∷◌, ◌++◌, ◌<◌, ◌+◌, Some, arith, get_or, drop, length, suc, sym, ap, ◌∙◌}
use Rattle.std.specs.Prelude.{option_to_list}
use Rattle.std.proofs.Math.Seq.{drop-cons}
use Rattle.hid_input.specs.Strings.{escapes_from, spot_after}
use Rattle.hid_input.specs.Words.{both}
use Rattle.hid_input.proofs.StringLemmas.{escape_read}
use Rattle.hid_input.proofs.strings.read_escapes.Goals as goal

suc_is : (i : ℕ) → i + 1 ≡ suc i
suc_is i = omega arith

pub loop-at-preserved : goal.loop-at-preserved
loop-at-preserved c =
    let text = c.args.text.now in
    let at = c.loop-at.at in
    let found = c.in-Some.found in
    let next = c.in-Some.next in
    let is : spot_after c.loop-at.spot (get_or text at 0) ≡ Some (next, found) = sym c.in-Some.ensures in
    let first : drop at text ≡ get_or text at 0 ∷ drop (suc at) text = drop-cons text at 0 c.loop-at-test.true in
    ap (λ (items : List ℕ). both (Some items) (escapes_from next (drop (at + 1) text))) c.in_ok-add_some.ensures
    ∙ (ap (λ (k : ℕ). both (Some (c.loop-at.bytes.items ++ option_to_list found)) (escapes_from next (drop k text))) (suc_is at)
    ∙ (escape_read c.loop-at.spot next (get_or text at 0) found c.loop-at.bytes.items (drop (suc at) text) is
    ∙ (ap (λ (t : List ℕ). both (Some c.loop-at.bytes.items) (escapes_from c.loop-at.spot t)) (sym first) ∙ c.loop-at.invariant)))
