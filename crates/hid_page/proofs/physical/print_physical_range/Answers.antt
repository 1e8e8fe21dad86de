use Rattle.std.proofs.Common.{◌++◌, ◌∙◌, ap, append_assoc, w64, arith}
use Rattle.std.proofs.lemmas.Int.{to_z-of_z}
use Rattle.std.proofs.lemmas.Result.{on_ok_weaker}
use Rattle.hid_page.specs.Page.{unit_at, physical_range}
use Rattle.hid_page.proofs.physical.print_physical_range.Goals as goal

pub returns : goal.returns
unfolding physical_range
returns c =
    let low = to_z-of_z w64 c.signed_number_at-least.result (omega (arith, c.signed_number_at-least.type_inv)) in
    let high = to_z-of_z w64 c.signed_number_at-greatest.result (omega (arith, c.signed_number_at-greatest.type_inv)) in
    let head = rw (low, high, c.signed_number_at-least.ensures, c.signed_number_at-greatest.ensures) at c.in_ok-write.ensures.bytes in
    on_ok_weaker c.print_unit_at.result (λ last. last ∙ ap (λ bytes. bytes ++ unit_at c.args.items.now c.args.m) head ∙ simp append_assoc) c.print_unit_at.ensures
