use Rattle.std.proofs.Common.{◌≡◌, ◌++◌, length, ap, sym, ◌∙◌, arith, length-append}
use Rattle.lab_lines.proofs.BodyLemmas.{copies_once, copies_sum}
use Rattle.lab_lines.proofs.body.rounds_of.Goals as goal

pub loop-count-init : goal.loop-count-init
loop-count-init c =
    let is : c.extend_from_slice.new.self.items ≡ c.args.text.now =
    c.in_ok-extend_from_slice.ensures.items ∙ ap (λ l. l ++ c.args.text.now) c.in_ok-rounds.ensures.items in
    let size = ap length is in (
      is ∙ copies_once c.args.text.now,
      omega arith,
      omega (arith, c.requires.most),
      omega (arith, size, c.requires.text.0),
      omega (arith, size, c.requires.text.1),
    )

pub loop-count-preserved : goal.loop-count-preserved
loop-count-preserved c =
    let before = c.loop-count.invariant in
    let R = c.loop-count.rounds.items in
    let n = c.loop-count.count in
    let once : c.extend_from_slice-in-loop-count.new.self.items ≡ R =
    c.in_ok-extend_from_slice-2.ensures.items ∙ ap (λ l. l ++ c.as_slice.result.now) c.clear.ensures.items ∙ c.as_slice.ensures.value in
    let twice : c.extend_from_slice-in-loop-count-2.new.self.items ≡ R ++ R =
    c.in_ok-extend_from_slice-3.ensures.items ∙ ap (λ l. l ++ c.as_slice-in-loop-count.result.now) once ∙ ap (λ l. R ++ l) c.as_slice-in-loop-count.ensures.value in
    let is : c.swap.new.x.items ≡ R ++ R = ap (λ v. v.items) c.swap.ensures.x_after ∙ twice in
    let size = ap length is in (
      is ∙ ap (λ l. l ++ l) before.0 ∙ sym (copies_sum n n c.args.text.now),
      omega (arith, before.1),
      omega (arith, c.loop-count-test.true),
      omega (arith, size, length-append R R, before.3),
      omega (arith, size, length-append R R, c.if-len.true),
    )
