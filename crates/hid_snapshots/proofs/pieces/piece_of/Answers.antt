use Rattle.std.proofs.Common.{◌≤◌, ◌*◌, ℕ, length, drop, take, ap, ◌∙◌, arith}
use Rattle.hid_snapshots.proofs.PieceLemmas.{drop_min}
use Rattle.hid_snapshots.proofs.pieces.piece_of.Goals as goal

pub returns-clause-piece : goal.returns-clause-piece
returns-clause-piece c =
    let fits : length c.args.bytes.now ≤ 18446744073709551615 = omega arith in
    c.piece_from.ensures.piece
    ∙ ap (λ (start : ℕ). take 64 (drop start c.args.bytes.now)) c.saturating_mul.ensures
    ∙ ap (take 64) (drop_min c.args.bytes.now (64 * c.args.piece) 18446744073709551615 fits)
