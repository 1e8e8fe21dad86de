use Rattle.std.proofs.Common.{◌≡◌, ◌-◌, ◌++◌, ◌<◌, drop, length, ap, sym, ◌∙◌, arith}
use Rattle.lab_lines.specs.Copies.{copies}
use Rattle.lab_lines.proofs.BodyLemmas.{copies_some, rounds_first}
use Rattle.lab_lines.proofs.body.Body.give_rounds.Goals as goal

pub returns : goal.returns
returns c =
    let T = c.args.self.now.text.items in
    let L = c.args.self.now.left in
    let kept = c.keep_rounds.new.self in
    let n = kept.rounds.1 in
    let R = kept.rounds.0.items in
    let first = c.requires.0 in
    let some = c.in_ok-keep_rounds.ensures.some in
    let same : kept.text.items ≡ T = ap (λ t. t.items) c.keep_rounds.ensures.text in
    let at : kept.at ≡ 0 = c.keep_rounds.ensures.at ∙ first in
    let left : kept.left ≡ L = c.keep_rounds.ensures.left in
    let less : n < L = omega (arith, some.1, left) in
    let text : R ≡ copies n T = kept.whole ∙ ap (copies n) same in (
      R,
      ap (λ a. drop a T ++ copies (L - 1) T) first ∙ rounds_first L n T less ∙ ap (λ l. l ++ (drop 0 T ++ copies ((L - n) - 1) T)) (sym text)
          ∙ ap (λ a. R ++ (drop a T ++ copies ((L - n) - 1) T)) (sym at)
          ∙ ap (λ t. R ++ (drop kept.at t ++ copies ((L - n) - 1) t)) (sym same)
          ∙ ap (λ l. R ++ (drop kept.at kept.text.items ++ copies ((l - n) - 1) kept.text.items)) (sym left),
      c.in_ok-extend_from_slice.ensures.items ∙ ap (λ l. c.args.room.now.items ++ l) c.as_slice.ensures.value,
      kept.fitting,
      λ h. absurd (cc),
      λ _ e. copies_some n T some.0 (omega (arith, c.requires.1)) (sym text ∙ e),
    )
