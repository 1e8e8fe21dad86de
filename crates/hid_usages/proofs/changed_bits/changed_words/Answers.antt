use Rattle.std.proofs.Common.{◌+◌, ◌-◌, ◌*◌, ◌/◌, ◌<◌, ◌≤◌, ℕ, length, arith}
use Rattle.hid_usages.proofs.ChangedBitLemmas.{AreCompared, none_compared, compared_next, compared_over, all_compared}
use Rattle.hid_usages.proofs.changed_bits.changed_words.Goals as goal

-- a bit of the last word is one of its bytes
last_bit : (many b : ℕ) → 64 * (many / 8) + b < 8 * many → b < 8 * (many - 8 * (many / 8))
last_bit many b inside = omega arith

-- the words hold all bits
all_bits : (many : ℕ) → 8 * many ≤ 64 * (many / 8 + 1)
all_bits many = omega arith

pub loop-k-init : goal.loop-k-init
loop-k-init c = record { compared = none_compared c.args.last.now c.args.bytes.now; within = omega arith }

pub loop-k-preserved : goal.loop-k-preserved
loop-k-preserved c =
    let last = c.args.last.now in
    let bytes = c.args.bytes.now in
    let k = c.in-Some.k in
    let over = compared_over last bytes c.loop-k.from k c.loop-k.span c.in-Some.ensures.from c.in-Some.ensures.same c.loop-k.invariant.compared in
    record {
      compared = compared_next last bytes k c.whole_word-before.result c.whole_word-now.result 64 c.loop-k.span c.grow-span.result over
          c.whole_word-before.ensures c.whole_word-now.ensures (λ b low inside. low) c.grow-span.ensures;
      within = omega (arith, c.in-Some.ensures.end);
    }

pub loop-k-smaller : goal.loop-k-smaller
loop-k-smaller c = omega (arith, c.in-Some.ensures.from, c.in-Some.ensures.end)

pub returns-then-whole-bytes : goal.returns-then-whole-bytes
returns-then-whole-bytes c =
    let last = c.args.last.now in
    let bytes = c.args.bytes.now in
    let whole = length bytes / 8 in
    let so_far : AreCompared last bytes whole c.loop-k.span = compared_over last bytes c.loop-k.from whole c.loop-k.span c.loop-k.invariant.within c.in_default.ensures.same c.loop-k.invariant.compared in
    all_compared last bytes (whole + 1) c.grow.result (all_bits (length bytes))
    (compared_next last bytes whole c.whole_word-kept.result c.rest_word-rest.result (8 * (length bytes - 8 * whole)) c.loop-k.span c.grow.result so_far
    c.whole_word-kept.ensures c.rest_word-rest.ensures (λ b low inside. last_bit (length bytes) b inside) c.grow.ensures)

pub returns-else-whole-bytes : goal.returns-else-whole-bytes
returns-else-whole-bytes c =
    let last = c.args.last.now in
    let bytes = c.args.bytes.now in
    let whole = length bytes / 8 in
    let so_far : AreCompared last bytes whole c.loop-k.span = compared_over last bytes c.loop-k.from whole c.loop-k.span c.loop-k.invariant.within c.in_default.ensures.same c.loop-k.invariant.compared in
    all_compared last bytes whole c.loop-k.span (omega arith) so_far
