-- What a closing leaves at a pointer that isn't null (our choice).
use Rattle.std.specs.Prelude.{Option, None}
use base.Fml.{Fml, fex, feq, fsep}
use denote.RattleType.{RattleType}
use denote.RawPtr.{Ptr}
use Rattle.core.specs.Ptr.{points_to}

-- A handle lies at this address that keeps nothing; `kept` is what one keeps.
abbrev pub closed_at : {X : Type 0} → (R : RattleType) → (R.Denot → Option X) → Ptr → Fml
closed_at {X} R kept at = fex R.Denot (λ handle. fsep (feq (Option X) (kept handle) None) (points_to R at handle))
