use Rattle.std.proofs.Common.{None, Some, sym, ◌∙◌}
use Rattle.hid_text.proofs.NumberLemmas.{usage_parts, no_page}
use Rattle.hid_text.proofs.numbers.read_usage.Goals as goal

pub returns : goal.returns
returns c =
    usage_parts c.args.word.now c.in_ok-colon.colon (Some c.in_ok-page.page) (Some c.in_ok-id.id) (sym c.colon.ensures ∙ c.in_ok-colon.was) (sym c.in_ok-page.was ∙ c.read_hex_number.ensures)
    (sym c.in_ok-id.was ∙ c.read_hex_number-2.ensures)

pub returns-in_err-page : goal.returns-in_err-page
returns-in_err-page c =
    c.from_residual-in_err-page.ensures ∙ no_page c.args.word.now c.in_ok-colon.colon (sym c.colon.ensures ∙ c.in_ok-colon.was) (sym c.in_err-page.was ∙ c.read_hex_number.ensures)

pub returns-in_err-id : goal.returns-in_err-id
returns-in_err-id c =
    c.from_residual-in_err-id.ensures
    ∙ usage_parts c.args.word.now c.in_ok-colon.colon (Some c.in_ok-page.page) None (sym c.colon.ensures ∙ c.in_ok-colon.was) (sym c.in_ok-page.was ∙ c.read_hex_number.ensures) (sym c.in_err-id.was ∙ c.read_hex_number-2.ensures)
