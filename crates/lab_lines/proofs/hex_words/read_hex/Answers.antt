use Rattle.hid_text.specs.Words.{words_of}
use Rattle.lab_lines.proofs.HexLemmas.{word_read, word_bad, words_end}
use Rattle.lab_lines.proofs.hex_words.read_hex.Goals as goal

pub returns-in-None : goal.returns-in-None
returns-in-None c = words_end _ c.loop-bytes.bytes.items (words_of c.loop-bytes.rest.now) c.loop-bytes.invariant c.in-None.ensures.words

pub returns-in-None-2 : goal.returns-in-None-2
returns-in-None-2 c =
    word_bad _ c.loop-bytes.bytes.items (words_of c.loop-bytes.rest.now) c.in-Some.word.now (words_of c.in-Some.more.now) c.loop-bytes.invariant c.in-Some.ensures.words (rw c.in-None-2.is at c.in_ok-read_word-in-Some.ensures)

pub loop-bytes-preserved : goal.loop-bytes-preserved
loop-bytes-preserved c =
    word_read _ c.loop-bytes.bytes.items _ c.in-Some-2.decoded.items (words_of c.loop-bytes.rest.now) c.in-Some.word.now (words_of c.in-Some.more.now) c.loop-bytes.invariant c.in-Some.ensures.words
    (rw c.in-Some-2.is at c.in_ok-read_word-in-Some.ensures) (rw c.as_slice.ensures.value at c.in_ok-extend_from_slice-in-Some-2.ensures.items)
