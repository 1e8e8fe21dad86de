use Rattle.std.proofs.Common.{◌≡◌, take, drop, true, arith}
use Rattle.std.proofs.lemmas.List.{length-drop}
use Rattle.std.specs.Prelude.{is_some}
use Rattle.hid_input.specs.Words.{byte_of_pair}
use Rattle.hid_input.proofs.SpaceLemmas.{space_again, length-without_space}
use Rattle.hid_input.proofs.RecordedLemmas.{pairs_behind_space, pair_more}
use Rattle.hid_input.proofs.recorded.pairs_before.Goals as goal

pub loop-rest-init : goal.loop-rest-init
loop-rest-init c = let text = c.args.text.now in rw c.without_space-rest.ensures (record {
  all = omega (arith, pairs_behind_space text);
  room = omega (arith, length-without_space text);
  begins = space_again text;
})

pub loop-rest-preserved : goal.loop-rest-preserved
loop-rest-preserved c =
    let rest = c.loop-rest.rest.now in
    let back : c.split_at.result.1.now ≡ drop 2 rest = c.split_at.ensures.back in
    let is : is_some (byte_of_pair (take 2 rest)) ≡ true = cc (c.split_at.ensures.front, c.byte_of_pair.ensures, c.if-is_none.ensures) in
    let more = (pair_more rest c.loop-rest-test.true c.loop-rest.invariant.begins).0 is in
    rw (c.without_space-rest-in-loop-rest.ensures, back) (record {
      all = omega (arith, more, pairs_behind_space (drop 2 rest), c.loop-rest.invariant.all);
      room = omega (arith, length-without_space (drop 2 rest), length-drop 2 rest, c.loop-rest.invariant.room, c.loop-rest-test.true);
      begins = space_again (drop 2 rest);
    })
