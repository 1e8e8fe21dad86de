-- What the acts of a try need.
use Rattle.std.proofs.Common.{◌≡◌, refl, Bool, true, false}
use Rattle.std.specs.Prelude.{if◌then◌else◌}
use Rattle.usb_transact.specs.declared.transaction.Fate.{Fate}
use Rattle.usb_transact.specs.declared.transaction.Fate.TheVariants.{Clean, TokenLost, ReplyLost, AckLost}
use Rattle.usb_control.specs.Transfer.{Shape, Decision, Refused, Accepted, Position, Setup, Piece, Status, Past, Nothing, Decides, TakesEffect, act_at}
use Rattle.usb_control.specs.Runs.{IsAccepted}

-- what a write that takes effect needs
pub record NeedsEffect (host : Position) (shape : Shape) (held : Decision) (applied : Bool) : Type 0 where
  pub status : host ≡ Status
  pub accepted : IsAccepted held
  pub first : applied ≡ false
  pub writes : shape.reads ≡ false

way_needs : (r : Bool) → (if r then Nothing else TakesEffect) ≡ TakesEffect → r ≡ false
way_needs true e = cc
way_needs false e = refl

pub effect_needs : (host : Position) (shape : Shape) (fate : Fate) (decision held : Decision) (applied : Bool) → act_at host shape fate decision held applied ≡ TakesEffect → NeedsEffect host shape held applied
effect_needs Setup shape TokenLost decision held applied e = cc
effect_needs Setup shape Clean decision held applied e = cc
effect_needs Setup shape ReplyLost decision held applied e = cc
effect_needs Setup shape AckLost decision held applied e = cc
effect_needs (Piece k) shape TokenLost decision held applied e = cc
effect_needs (Piece k) shape Clean decision held applied e = cc
effect_needs (Piece k) shape ReplyLost decision held applied e = cc
effect_needs (Piece k) shape AckLost decision held applied e = cc
effect_needs Past shape TokenLost decision held applied e = cc
effect_needs Past shape Clean decision held applied e = cc
effect_needs Past shape ReplyLost decision held applied e = cc
effect_needs Past shape AckLost decision held applied e = cc
effect_needs Status shape TokenLost decision held applied e = cc
effect_needs Status shape Clean decision Refused applied e = cc
effect_needs Status shape ReplyLost decision Refused applied e = cc
effect_needs Status shape AckLost decision Refused applied e = cc
effect_needs Status shape Clean decision (Accepted x) true e = cc
effect_needs Status shape ReplyLost decision (Accepted x) true e = cc
effect_needs Status shape AckLost decision (Accepted x) true e = cc
effect_needs Status shape Clean decision (Accepted x) false e = record { status = refl; accepted = tt; first = refl; writes = way_needs shape.reads e }
effect_needs Status shape ReplyLost decision (Accepted x) false e = record { status = refl; accepted = tt; first = refl; writes = way_needs shape.reads e }
effect_needs Status shape AckLost decision (Accepted x) false e = record { status = refl; accepted = tt; first = refl; writes = way_needs shape.reads e }

no_decision : (r : Bool) (d : Decision) → ¬ ((if r then Nothing else TakesEffect) ≡ Decides d)
no_decision true d e = cc
no_decision false d e = cc

-- a decision needs a host that is at SETUP
pub decision_needs : (host : Position) (shape : Shape) (fate : Fate) (decision held : Decision) (applied : Bool) (d : Decision) → act_at host shape fate decision held applied ≡ Decides d → host ≡ Setup
decision_needs Setup shape fate decision held applied d e = refl
decision_needs (Piece k) shape TokenLost decision held applied d e = cc
decision_needs (Piece k) shape Clean decision held applied d e = cc
decision_needs (Piece k) shape ReplyLost decision held applied d e = cc
decision_needs (Piece k) shape AckLost decision held applied d e = cc
decision_needs Past shape TokenLost decision held applied d e = cc
decision_needs Past shape Clean decision held applied d e = cc
decision_needs Past shape ReplyLost decision held applied d e = cc
decision_needs Past shape AckLost decision held applied d e = cc
decision_needs Status shape TokenLost decision held applied d e = cc
decision_needs Status shape Clean decision Refused applied d e = cc
decision_needs Status shape Clean decision (Accepted x) true d e = cc
decision_needs Status shape Clean decision (Accepted x) false d e = absurd (no_decision shape.reads d e)
decision_needs Status shape ReplyLost decision Refused applied d e = cc
decision_needs Status shape ReplyLost decision (Accepted x) true d e = cc
decision_needs Status shape ReplyLost decision (Accepted x) false d e = absurd (no_decision shape.reads d e)
decision_needs Status shape AckLost decision Refused applied d e = cc
decision_needs Status shape AckLost decision (Accepted x) true d e = cc
decision_needs Status shape AckLost decision (Accepted x) false d e = absurd (no_decision shape.reads d e)
