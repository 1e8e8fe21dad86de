use Rattle.hex.specs.Hex.{decode_of}
use Rattle.lab_lines.proofs.HexLemmas.{not_decoded}
use Rattle.lab_lines.proofs.hex_words.read_word.Goals as goal

pub returns-in_ok-undecoded-in-Err : goal.returns-in_ok-undecoded-in-Err
returns-in_ok-undecoded-in-Err c = not_decoded (decode_of c.args.word.now) c.in-Err.error c.in-Err.ensures.err c.in_ok-undecoded-in-Err.ensures
