use Rattle.std.proofs.Common.{◌++◌, ◌∷◌, [], w64, rules, append_assoc, ap, ◌∙◌, arith}
use Rattle.std.specs.Prelude.{string_bytes, codes}
use Rattle.std.specs.Fmt.{signed_decimal}
use Rattle.std.proofs.lemmas.Int.{to_z-of_z}
use Rattle.std.proofs.lemmas.Result.{on_ok_weaker}
use Rattle.hid_text.proofs.layout_text.print_bounds.Goals as goal

-- the space and the least value, the dots, the greatest value
pub returns : goal.returns
returns c =
    let before = string_bytes c.args.text.now in
    let least = signed_decimal c.args.item.now.min in
    let space = c.in_ok-push.ensures.bytes ∙ ap (λ bytes. before ++ bytes) (c.in_ok-push.ensures.ascii (omega arith)) in
    let lower = to_z-of_z w64 c.args.item.now.min (search rules) in
    let upper = to_z-of_z w64 c.args.item.now.max (search rules) in
    let from = (rw lower at c.in_ok-print_signed.ensures) ∙ ap (λ bytes. bytes ++ least) space ∙ append_assoc before (32 ∷ []) least in
    let dots = c.in_ok-push_str.ensures.bytes ∙ ap (λ bytes. bytes ++ codes "..") from in
    on_ok_weaker c.print_signed-2.result (λ last. last ∙ ap (λ bytes. bytes ++ signed_decimal c.args.item.now.max) dots) (rw upper at c.print_signed-2.ensures)
