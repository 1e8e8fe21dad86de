use Rattle.std.proofs.Common.{rules, tests, [], ◌∷◌}
use Rattle.hid_text.specs.Words.{words_of}
use Rattle.hid_recording.proofs.WordLemmas.{hex_more, all_read}
use Rattle.hid_recording.proofs.spelled.put_pairs.Goals as goal

pub loop-byte-preserved : goal.loop-byte-preserved
loop-byte-preserved c =
    let pair = c.in-Some.ensures.pair in
    hex_more (words_of c.args.text.now) (words_of c.loop-byte.rest.now) (words_of c.in-Some.more.now) pair.0 c.loop-byte.bytes.items
    (c.in-Some.byte ∷ []) c.push.new.self.items c.loop-byte.invariant pair.1 pair.2 (search (rules, tests))

pub returns : goal.returns
returns c = all_read c.args.text.now c.loop-byte.rest.now c.loop-byte.bytes.items c.is_empty.result c.is_empty.ensures c.loop-byte.invariant
