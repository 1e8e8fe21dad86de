use Rattle.std.proofs.Common.{◌≡◌, Some, get_or, pos, neg_ℤ, rules, sym, ap, ◌∙◌}
use Rattle.std.specs.Option.{option_map}
use Rattle.hid_text.proofs.NumberLemmas.{short_value, short_minus, minus_number, plain_number}
use Rattle.hid_text.proofs.numbers.read_signed.Goals as goal

pub returns-in_ok-value-in-45 : goal.returns-in_ok-value-in-45
returns-in_ok-value-in-45 c =
    let first : get_or c.args.word.now 0 0 ≡ 45 = search rules in
    ap (λ z. Some z) (short_minus c.in_ok-value-in-45.value c.in_ok-value-in-45.ensures.small) ∙ sym (ap (option_map (λ n. neg_ℤ (pos n))) c.in_ok-value-in-45.was)
    ∙ minus_number c.args.word.now c.read_short_number.result c.in-45.len_at_least first c.read_short_number.ensures.value

pub returns-in_err-value-in-45 : goal.returns-in_err-value-in-45
returns-in_err-value-in-45 c =
    let first : get_or c.args.word.now 0 0 ≡ 45 = search rules in
    c.from_residual.ensures ∙ sym (ap (option_map (λ n. neg_ℤ (pos n))) c.in_err-value-in-45.was) ∙ minus_number c.args.word.now c.read_short_number.result c.in-45.len_at_least first c.read_short_number.ensures.value

pub returns-in_ok-value-in_default : goal.returns-in_ok-value-in_default
returns-in_ok-value-in_default c =
    let other : get_or c.args.word.now 0 0 ≡ 45 → ⊥ = search rules in
    ap (λ z. Some z) (short_value c.in_ok-value-in_default.value c.in_ok-value-in_default.ensures.small) ∙ sym (ap (option_map pos) c.in_ok-value-in_default.was)
    ∙ plain_number c.args.word.now c.read_short_number-in_default.result c.in_default.len_at_least other c.read_short_number-in_default.ensures.value
