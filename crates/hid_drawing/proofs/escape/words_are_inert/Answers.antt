use Rattle.hid_drawing.proofs.EscapeLemmas.{inert_words}
use Rattle.hid_drawing.proofs.escape.words_are_inert.Goals as goal

pub returns : goal.returns
returns c = inert_words
