use Rattle.std.proofs.Common.{sym, ◌∙◌}
use Rattle.hid_text.specs.Words.{words_of}
use Rattle.hid_text.proofs.PartLemmas.{keyword_first}
use Rattle.hid_text.proofs.line.read_words.Goals as goal

pub returns-in-Some-read_keyword : goal.returns-in-Some-read_keyword
returns-in-Some-read_keyword c =
    c.read_arguments.ensures
    ∙ sym (keyword_first (words_of c.args.text.now) c.in-Some.first.now (words_of c.in-Some.rest.now) c.in-Some-read_keyword.keyword c.in-Some.ensures.words c.if-first-eq35.false (sym c.read_keyword.ensures ∙ c.in-Some-read_keyword.is))
