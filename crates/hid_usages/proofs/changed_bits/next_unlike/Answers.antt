use Rattle.std.proofs.Common.{◌≡◌, ◌+◌, ◌*◌, ◌<◌, ◌≤◌, ◌∙◌, ℕ, inl, inr, sym, subst, arith}
use Rattle.std.proofs.lemmas.Bool.{cases_lt}
use Rattle.hid_fields.specs.Field.{pattern_of}
use Rattle.hid_usages.proofs.changed_bits.next_unlike.Goals as goal

at_last : (k j : ℕ) → k ≤ j → j < k + 1 → k ≡ j
at_last k j low high = omega arith

pub loop-k-init : goal.loop-k-init
loop-k-init c = λ j low high. absurd (omega arith)

pub loop-k-preserved : goal.loop-k-preserved
loop-k-preserved c = λ j low high.
    let last = c.args.last.now in
    let bytes = c.args.bytes.now in
    let same : c.whole_word-before.result ≡ c.whole_word-now.result = c.if-before-now.false in
    elim (cases_lt j c.loop-k.k) [
      | inl lt ↦ c.loop-k.invariant j low lt
      | inr ge ↦
          subst (λ (n : ℕ). pattern_of last (64 * n) 64 ≡ pattern_of bytes (64 * n) 64) (at_last c.loop-k.k j ge high) (sym c.whole_word-before.ensures ∙ same ∙ c.whole_word-now.ensures)
    ]

pub returns-clause-same : goal.returns-clause-same
returns-clause-same c = λ j low high. c.loop-k.invariant j low (omega arith)
