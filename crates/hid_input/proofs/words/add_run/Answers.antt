use Rattle.std.proofs.Common.{◌≡◌, Some, take, ap, sym, ◌∙◌}
use Rattle.hid_input.specs.Words.{byte_of_pair, after_joint}
use Rattle.hid_input.proofs.WordLemmas.{pair_added}
use Rattle.hid_input.proofs.words.add_run.Goals as goal

pub loop-rest-preserved : goal.loop-rest-preserved
loop-rest-preserved c =
    let is : byte_of_pair (take 2 c.loop-rest.rest.now) ≡ Some c.in-Some.byte = ap byte_of_pair (sym c.split_at.ensures.front) ∙ sym c.in-Some.ensures in
    let added = pair_added c.args.is_joined c.loop-rest.rest.now c.in-Some.byte c.loop-rest.bytes.items _ c.loop-rest-test.true is c.loop-rest.invariant in
    cc (added, c.in_ok-push-in-Some.ensures.items, c.split_at.ensures.back, c.after_joint-rest.ensures.rest)
