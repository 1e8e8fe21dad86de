use Rattle.std.proofs.Common.{◌∙◌, ◌+◌, ap}
use Rattle.hid_gadget.proofs.TakeLemmas.{takes_piece}
use Rattle.hid_gadget.proofs.gadget.Gadget.take_pieces.Goals as goal

pub take_piece-taken-requires-clause-configured : goal.take_piece-taken-requires-clause-configured
take_piece-taken-requires-clause-configured c =
    let t = takes_piece c.args.self.now c.args.number c.args.report.now c.fitting-count.result c.loop-piece.piece c.loop-piece.self c.loop-piece.report c.loop-piece.taken
    c.left.ensures.sound c.left.ensures.laid c.requires.open c.loop-piece.invariant.all c.loop-piece-test.true c.loop-piece.invariant.core c.loop-piece.invariant.room c.loop-piece.invariant.count in
    t.configured ∙ c.requires.configured

pub take_piece-taken-requires-clause-open : goal.take_piece-taken-requires-clause-open
take_piece-taken-requires-clause-open c =
    let t = takes_piece c.args.self.now c.args.number c.args.report.now c.fitting-count.result c.loop-piece.piece c.loop-piece.self c.loop-piece.report c.loop-piece.taken
    c.left.ensures.sound c.left.ensures.laid c.requires.open c.loop-piece.invariant.all c.loop-piece-test.true c.loop-piece.invariant.core c.loop-piece.invariant.room c.loop-piece.invariant.count in
    t.current

pub take_piece-taken-requires-clause-room : goal.take_piece-taken-requires-clause-room
take_piece-taken-requires-clause-room c =
    let t = takes_piece c.args.self.now c.args.number c.args.report.now c.fitting-count.result c.loop-piece.piece c.loop-piece.self c.loop-piece.report c.loop-piece.taken
    c.left.ensures.sound c.left.ensures.laid c.requires.open c.loop-piece.invariant.all c.loop-piece-test.true c.loop-piece.invariant.core c.loop-piece.invariant.room c.loop-piece.invariant.count in
    t.fits

pub loop-piece-preserved : goal.loop-piece-preserved
loop-piece-preserved c =
    let t = takes_piece c.args.self.now c.args.number c.args.report.now c.fitting-count.result c.loop-piece.piece c.loop-piece.self c.loop-piece.report c.loop-piece.taken
    c.left.ensures.sound c.left.ensures.laid c.requires.open c.loop-piece.invariant.all c.loop-piece-test.true c.loop-piece.invariant.core c.loop-piece.invariant.room c.loop-piece.invariant.count in
    record {
      core = c.take_piece-taken.ensures.core ∙ t.core_more;
      room = c.take_piece-taken.ensures.bytes ∙ t.room_more;
      count = ap (λ n. c.loop-piece.taken + n) c.take_piece-taken.ensures.count ∙ t.taken_more;
      all = c.loop-piece.invariant.all;
    }
