use Rattle.std.proofs.Common.{ℕ, Option, ap, subst, sym, ◌∙◌}
use Rattle.hid_layout.specs.Controls.{items_of}
use Rattle.hid_device.specs.Core.{IsBelow, next_piece, next_piece_of}
use Rattle.hid_device.specs.Inputs.{input_count}
use Rattle.hid_device.proofs.AckLemmas.{next_fits, next_there, none_behind}
use Rattle.hid_device.proofs.device_core.Core.next_piece.Goals as goal

pub pieces_of-pieces-requires : goal.pieces_of-pieces-requires
pieces_of-pieces-requires c =
    let sound = c.self.invariant.sound in
    sound.inputs_first.first c.in-Some.report (subst (IsBelow (input_count c.self.inside.layout.reports)) c.in-Some.is sound.of_input)

pub overflow_add-self-inside : goal.overflow_add-self-inside
overflow_add-self-inside c =
    record { fits = next_fits (items_of c.self.inside.layout) c.self.inside.current c.self.inside.piece c.in-Some.report c.pieces_of-pieces.result _ c.self.invariant.sound.piece c.in-Some.is c.pieces_of-pieces.ensures.pieces c.pieces_of-pieces.type_inv }

pub returns-then-self-pieces : goal.returns-then-self-pieces
returns-then-self-pieces c =
    next_there (items_of c.self.inside.layout) c.self.inside.current c.self.inside.piece c.in-Some.report c.pieces_of-pieces.result c.in-Some.is c.pieces_of-pieces.ensures.pieces c.if-self-pieces.true
    ∙ ap next_piece_of c.self.view_is

pub returns-else-self-pieces : goal.returns-else-self-pieces
returns-else-self-pieces c =
    none_behind (items_of c.self.inside.layout) c.self.inside.current c.self.inside.piece c.in-Some.report c.pieces_of-pieces.result c.in-Some.is c.pieces_of-pieces.ensures.pieces c.if-self-pieces.false
    ∙ ap next_piece_of c.self.view_is

pub overflow_add-result : goal.overflow_add-result
overflow_add-result c =
    record { fits = next_fits (items_of c.self.inside.layout) c.self.inside.current c.self.inside.piece c.in-Some.report c.pieces_of-pieces.result _ c.self.invariant.sound.piece c.in-Some.is c.pieces_of-pieces.ensures.pieces c.pieces_of-pieces.type_inv }

pub returns-in-None : goal.returns-in-None
returns-in-None c =
    ap (λ (current : Option ℕ). next_piece (items_of c.self.inside.layout) current c.self.inside.piece)
    (sym c.in-None.is) ∙ ap next_piece_of c.self.view_is
