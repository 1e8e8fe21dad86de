use Rattle.std.proofs.Common.{◌≡◌, [], Some, true, false, take, drop, sym, ap, ◌∙◌}
use Rattle.std.specs.Prelude.{◌||◌}
use Rattle.hid_input.specs.Words.{byte_of_pair}
use Rattle.hid_input.specs.Dump.{shows, begins_word}
use Rattle.hid_input.proofs.SpaceLemmas.{space_again}
use Rattle.hid_input.proofs.DumpLemmas.{row_behind_space, row_shown, row_more}
use Rattle.hid_input.proofs.dump.read_row.Goals as goal

pub loop-rest-init : goal.loop-rest-init
loop-rest-init c = rw (c.without_space-rest.ensures, c.new-bytes.ensures.items) (record {
  all = row_behind_space false [] c.args.row.now;
  begins = space_again c.args.row.now;
})

pub returns-then-shows : goal.returns-then-shows
returns-then-shows c =
    let rest = c.loop-rest.rest.now in
    let is : byte_of_pair (take 2 rest) ≡ Some c.in-Some.byte = ap byte_of_pair (sym c.split_at.ensures.front) ∙ sym c.in-Some.ensures in
    let shown : shows (drop 2 rest) c.push.new.self.items ≡ true = cc (c.shows.ensures, c.if-shows.true, c.as_slice.ensures.value, c.split_at.ensures.back) in
    sym c.loop-rest.invariant.all
    ∙ row_shown c.loop-rest.had_long c.loop-rest.bytes.items rest c.push.new.self.items c.in-Some.byte c.loop-rest-test.true c.loop-rest.invariant.begins is c.in_ok-push.ensures.items shown

pub loop-rest-preserved : goal.loop-rest-preserved
loop-rest-preserved c =
    let rest = c.loop-rest.rest.now in
    let is : byte_of_pair (take 2 rest) ≡ Some c.in-Some.byte = ap byte_of_pair (sym c.split_at.ensures.front) ∙ sym c.in-Some.ensures in
    let shown : shows (drop 2 rest) c.push.new.self.items ≡ false = cc (c.shows.ensures, c.if-shows.false, c.as_slice.ensures.value, c.split_at.ensures.back) in
    let more = row_more c.loop-rest.had_long c.loop-rest.bytes.items rest c.push.new.self.items c.in-Some.byte c.loop-rest-test.true c.loop-rest.invariant.begins is c.in_ok-push.ensures.items shown in
    let long : c.is_long-had_long.result ≡ (c.loop-rest.had_long || begins_word (drop 2 rest)) = rw (← c.split_at.ensures.back) c.is_long-had_long.ensures in
    rw (c.without_space-rest-in-loop-rest.ensures, c.split_at.ensures.back, long) (record {
      all = row_behind_space (c.loop-rest.had_long || begins_word (drop 2 rest)) c.push.new.self.items (drop 2 rest) ∙ (sym more ∙ c.loop-rest.invariant.all);
      begins = space_again (drop 2 rest);
    })
