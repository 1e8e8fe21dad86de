use Rattle.std.proofs.Common.{◌++◌, ◌∷◌, [], ◌/◌, ◌%◌, true, string_bytes, append_assoc, sym, ap, ◌∙◌, arith}
use Rattle.std.proofs.lemmas.Result.{on_ok_weaker}
use Rattle.std.specs.Fmt.{digit_glyph}
use Rattle.hid_notation.proofs.TextLemmas.{byte_in_digits}
use Rattle.hid_notation.proofs.printing.print_hex.Goals as goal

-- the high digit, the low digit
pub returns : goal.returns
returns c =
    let before = string_bytes c.args.text.now in
    let high = digit_glyph true (c.args.number / 16) in
    let low = digit_glyph true (c.args.number % 16) in
    on_ok_weaker c.push_digit-2.result
    (λ last. last ∙ ap (λ bytes. bytes ++ low ∷ []) c.in_ok-push_digit.ensures ∙ append_assoc before (high ∷ []) (low ∷ [])
    ∙ ap (λ digits. before ++ digits) (sym (byte_in_digits c.args.number (omega arith))))
    c.push_digit-2.ensures
