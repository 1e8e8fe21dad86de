use Rattle.std.proofs.Common.{◌≡◌, ◌++◌, length, rules, arith, sym, append_assoc, ap, ◌∙◌, inl, inr}
use Rattle.std.specs.List.{flat_map}
use Rattle.std.proofs.lemmas.Bool.{ltb-false}
use Rattle.std.proofs.lemmas.List.{length-append}
use Rattle.hidplay.specs.Source.{with_end}
use Rattle.hidplay.proofs.SourceLemmas.{behind_all, says, read_again}
use Rattle.hidplay.proofs.source.read_beginning.Goals.{then-len-ge-LONGEST-via-then-len-ge-LONGEST, then-len-ge-LONGEST-via-else-len-ge-LONGEST+then-is_some}
use Rattle.hidplay.proofs.source.read_beginning.Goals as goal

pub returns-then-len-ge-LONGEST : goal.returns-then-len-ge-LONGEST
returns-then-len-ge-LONGEST g c =
    let held = c.loop.invariant in
    let same : c.as_slice.result.now ≡ c.loop.bytes.items = search rules in
    let all = behind_all c.loop.bytes.items held.2.0 held.2.1 c.after_passed-rest.result.now c.loop.passed held.2.2 held.2.3 held.2.4 (rw (c.text_from.ensures, same) at c.after_passed-rest.ensures) in
    record {
      read = (
        held.0,
        held.1,
        elim c.then-len-ge-LONGEST.branch [
          | then-len-ge-LONGEST-via-then-len-ge-LONGEST w ↦ inl (search rules)
          | then-len-ge-LONGEST-via-else-len-ge-LONGEST+then-is_some w ↦ inr (inr (says c.loop.bytes.items c.after_passed-rest.result.now w.split_line.result (λ p. p.0.now) (λ p. p.1.now) (search rules) w.split_line.ensures all))
        ],
      );
    }

pub returns-then-not-branch : goal.returns-then-not-branch
returns-then-not-branch g c =
    let held = c.loop.invariant in
    let piece = c.in_ok-read_piece.ensures.read in
    record {
      read = (
        rw (piece.2) (read_again _ _ _ c.loop.bytes.items piece.0 held.0 piece.1),
        omega (arith, ap length piece.2, length-append c.loop.bytes.items piece.0, piece.3, c.if-len-ge-LONGEST.false, c.len-in-loop.ensures),
        inr (inl (piece.5 (omega (arith, ltb-false 0 (length piece.0) (sym piece.4 ∙ c.if-not-branch.true))))),
      );
    }

pub loop-preserved : goal.loop-preserved
loop-preserved g c =
    let held = c.loop.invariant in
    let piece = c.in_ok-read_piece.ensures.read in
    let same : c.as_slice.result.now ≡ c.loop.bytes.items = search rules in
    let all = behind_all c.loop.bytes.items held.2.0 held.2.1 c.after_passed-rest.result.now c.loop.passed held.2.2 held.2.3 held.2.4 (rw (c.text_from.ensures, same) at c.after_passed-rest.ensures) in (
      rw (piece.2) (read_again _ _ _ c.loop.bytes.items piece.0 held.0 piece.1),
      omega (arith, ap length piece.2, length-append c.loop.bytes.items piece.0, piece.3, c.if-len-ge-LONGEST.false, c.len-in-loop.ensures),
      (
        all.0,
        c.after_passed-rest.result.now ++ piece.0,
        all.1,
        piece.2 ∙ ap (λ l. l ++ piece.0) all.2 ∙ append_assoc (flat_map with_end all.0) c.after_passed-rest.result.now piece.0,
        omega (arith, ap length all.2, length-append (flat_map with_end all.0) c.after_passed-rest.result.now, c.saturating_sub-passed.ensures),
      ),
    )
