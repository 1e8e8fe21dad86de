-- `empty` owns nothing.
use Rattle.std.proofs.Common.{[], ◌∷◌, refl}
use base.Fml.{ftrue, flft}
use contract.BorrowLft.{◌⊑◌}
use contract.Monad.{fact}
use contract.Running.{tables}
use mir.MapTy.{inst_fn}
use mir.Syntax.{a_type}
use types.Kit.{Item, ‵, raw, ◌⊛◌, ◌$◌, ◌∵◌, !, qed, keep, join, move, split, feq_i, suffices, done}
use types.Part.{agg}
use types.Run.{lit, no_more, and_then, returns, enter}
use types.ByLocal.{alloc_all, pass_all, free_all, look_at, sets}
use denote.Param.{param, layouts}
use denote.RattleType.{RattleType}
use denote.RawPtr.{Ptr, null_ptr, ptr_val}
use denote.Steps.{nothing}
use denote.Triple.Walked.{says, walk_of, ends_at}
use Rattle.std.specs.Prelude.{None}
use Rattle.std.proofs.raw_atomic.Walks.{proved_at}
use Rattle.hidstack.proofs.Steps.{OwnerAt, alone, owner_good, owner_in}
use Rattle.hidstack.specs.contracts.owner.Owner.empty as F
use Rattle.hidstack.specs.contracts.owner.Owner.empty.Key.{name as #self}
use Rattle.hidstack.proofs.owner.Owner.empty.Statement.{statement}
use Rattle.hidstack.proofs.owner.Owner.empty.Code as code

pub empty_spec : {M : Type 1} → statement M
empty_spec 𝓤 𝓛 𝓜 𝓡 wired T L =
    let R : RattleType = param 0 T in
    let inst = layouts (a_type ∷ []) (T, tt) in let fn = inst_fn inst code.function in
    let En = F.ended T in let c = F.clauses T 𝓛 𝓜.mem 𝓡.returns in let 𝓣 = tables 𝓤 𝓛.H 𝓜 𝓡 𝓡.env in
    proved_at 𝓛 En tt c 𝓜 𝓡 tt (#self inst) fn (code.unfolded 𝓤 𝓛.H 𝓜 𝓡 wired (T, tt)) (λ z are.
    let κ = z.0.0.0 in let q = z.0.1.0 in
    let Post = (walk_of 𝓛 En tt c).post z in let w = alone (ptr_val null_ptr) in let made : (OwnerAt R).Denot = record { at = null_ptr; kept = None } in
    let alive : Item 𝓤 = ‵ (flft κ q) ⊛ ‵ ftrue in
    let asked : Item 𝓤 = raw (fact 𝓤 (κ ⊑ T.lives)) ⊛ ‵ ftrue in
    qed 𝓛 ((alive ⊛ ‵ ftrue) ∷ asked ∷ []) ∵ split ! $ keep ! (0 ∷ []) $
    enter ! 𝓣.C 𝓣.Λ fn [] Post $ alloc_all ! (λ l. pass_all ! refl tt $
    sets ! (agg ! (and_then ! (lit ! tt) (no_more !))) refl (owner_good R null_ptr) $
    returns ! (look_at ! 0 refl) $ free_all ! refl $
    feq_i ! Ptr null_ptr null_ptr refl $ owner_in ! R null_ptr None $
    suffices ! _ (ends_at 𝓛 En tt c z w made tt tt) $ says ! refl $
    nothing ! $ join ! $ move ! (1 ∷ []) $ join ! $ done !))
