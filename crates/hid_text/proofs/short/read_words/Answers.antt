use Rattle.std.proofs.Common.{sym, ◌∙◌}
use Rattle.hid_text.specs.Words.{words_of}
use Rattle.hid_text.proofs.PartLemmas.{short_first, short_exact, no_short_words, no_short_comment, no_short_keyword}
use Rattle.hid_text.proofs.short.read_words.Goals as goal

pub returns-clause-short : goal.returns-clause-short
returns-clause-short c =
    short_first (words_of c.args.text.now) c.in_ok-first.first.now (words_of c.in_ok-first.rest.now) c.in_ok-read_keyword.field-0 c.read_short_words.result c.in_ok-first.ensures.words c.if-first-eq35.false
    (sym c.read_keyword.ensures ∙ c.in_ok-read_keyword.was) c.read_short_words.ensures

pub returns-clause-exact : goal.returns-clause-exact
returns-clause-exact c =
    short_exact (words_of c.args.text.now) c.in_ok-first.first.now (words_of c.in_ok-first.rest.now) c.in_ok-read_keyword.field-0 c.read_short_words.result c.in_ok-first.ensures.words c.if-first-eq35.false
    (sym c.read_keyword.ensures ∙ c.in_ok-read_keyword.was) c.read_short_words.ensures

pub returns-in_err-first-clause-exact : goal.returns-in_err-first-clause-exact
returns-in_err-first-clause-exact c = rw c.from_residual.ensures (no_short_words (words_of c.args.text.now) c.in_err-first.ensures.words)

pub returns-then-first-eq35-clause-exact : goal.returns-then-first-eq35-clause-exact
returns-then-first-eq35-clause-exact c =
    no_short_comment (words_of c.args.text.now) c.in_ok-first.first.now (words_of c.in_ok-first.rest.now) c.in_ok-first.ensures.words c.if-first-eq35.true

pub returns-in_err-read_keyword-clause-exact : goal.returns-in_err-read_keyword-clause-exact
returns-in_err-read_keyword-clause-exact c =
    rw c.from_residual-in_err-read_keyword.ensures
    (no_short_keyword (words_of c.args.text.now) c.in_ok-first.first.now (words_of c.in_ok-first.rest.now) c.in_ok-first.ensures.words c.if-first-eq35.false (sym c.read_keyword.ensures ∙ c.in_err-read_keyword.was))
