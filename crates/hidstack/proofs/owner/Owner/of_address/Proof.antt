-- `of_address` keeps the pointer, and what lies there goes with it.
use Rattle.std.proofs.Common.{List, [], ◌∷◌, ◌++◌, refl, sym, subst}
use mir.MapTy.{inst_fn}
use mir.Syntax.{a_type}
use mir.Val.{Val}
use base.Logic.{ent, id⊢}
use base.Fml.{ftrue, fsep, flft}
use prog.Wp.{WpFn}
use contract.BorrowLft.{◌⊑◌}
use contract.Monad.{fact}
use contract.Running.{tables}
use types.Kit.{Item, ‵, raw, ◌⊛◌, ◌$◌, ◌∵◌, !, qed, by, keep, move, use1, join, split, fsplit, fjoin, suffices, done}
use types.Part.{whole, sub, agg}
use types.Run.{stop, fld, no_more, and_then, of_opd, returns, enter}
use types.ByLocal.{alloc_all, pass_all, free_all, look_at, get, get_in, sets}
use denote.Exit.{no}
use denote.Param.{param, layouts}
use denote.RattleType.{RattleType}
use denote.RawPtr.{ptr_val}
use denote.Signature.{plain}
use denote.Steps.{nothing}
use denote.Triple.Walked.{says, Stays, stay_dropped, walk_of, ends_at}
use Rattle.std.specs.Prelude.{Some}
use Rattle.std.proofs.raw_atomic.Walks.{proved_at}
use Rattle.core.proofs.alloc.Calls.{Goes-blank}
use Rattle.core.proofs.atomic.Steps.{Ptr-Good}
use Rattle.hidstack.specs.Held.{owned_box}
use Rattle.hidstack.proofs.Steps.{At, alone, address_good, owner_good, address_out, owner_in}
use Rattle.hidstack.specs.contracts.owner.Owner.of_address as F
use Rattle.hidstack.specs.contracts.owner.Owner.of_address.Key.{name as #self}
use Rattle.hidstack.proofs.owner.Owner.of_address.Statement.{statement}
use Rattle.hidstack.proofs.owner.Owner.of_address.Code as code

pub of_address_spec : {M : Type 1} → statement M
of_address_spec 𝓤 𝓛 𝓜 𝓡 wired T L =
    let R : RattleType = param 0 T in
    let inst = layouts (a_type ∷ []) (T, tt) in let fn = inst_fn inst code.function in
    let En = F.ended T in let c = F.clauses T 𝓛 𝓜.mem 𝓡.returns in let 𝓣 = tables 𝓤 𝓛.H 𝓜 𝓡 𝓡.env in
    let hs : Stays En.signature.params En.kept = (stay_dropped (plain (λ _. At R)) no, tt) in
    proved_at 𝓛 En hs c 𝓜 𝓡 (Goes-blank 𝓛 1 (plain (λ _. At R)) no (λ κs x f. tt), tt) (#self inst) fn (code.unfolded 𝓤 𝓛.H 𝓜 𝓡 wired (T, tt)) (λ z are.
    let κ = z.0.0.0 in let q = z.0.1.0 in let d = z.0.3.0 in let p = d.at in let w = alone (ptr_val p) in let Post = (walk_of 𝓛 En hs c).post z in
    let alive : Item 𝓤 = ‵ (flft κ q) ⊛ ‵ ftrue in
    let asked : Item 𝓤 = raw (fact 𝓤 (κ ⊑ T.lives)) ⊛ ‵ ftrue in
    qed 𝓛 ((alive ⊛ ‵ (fsep ((At R).own_val d z.0.4.0) ftrue)) ∷ asked ∷ []) ∵ split ! $ move ! (1 ∷ []) $ fsplit ! $
    address_out ! R d z.0.4.0 (λ ws. use1 𝓛 (‵ (owned_box R p (Some d.value))) (id⊢ 𝓤 _) $ keep ! (0 ∷ 2 ∷ []) $
    let Γ : List (Item 𝓤) = ‵ (owned_box R p (Some d.value)) ∷ alive ∷ [] in
    by ! (subst (λ (us : List Val). ent 𝓤 (types.Kit.⋆ 𝓛 Γ) (WpFn 𝓤 𝓛.H 𝓣.C 𝓣.Λ fn (us ++ []) Post)) (sym ws)
    (qed 𝓛 Γ ∵ enter ! 𝓣.C 𝓣.Λ fn (w ∷ []) Post $ alloc_all ! (λ l. pass_all ! refl (address_good R p, tt) $
    sets ! (of_opd ! (get_in ! (fld ! refl (stop !)) (sub ! 0 refl (whole !)))) refl (Ptr-Good p) $
    sets ! (agg ! (and_then ! (get ! refl) (no_more !))) refl (owner_good R p) $ returns ! (look_at ! 0 refl) $ free_all ! refl $
    owner_in ! R p (Some d.value) $
    suffices ! _ (ends_at 𝓛 En hs c z w (record { at = p; kept = Some d.value }) (_, tt) (_, tt)) $ says ! refl $
    nothing ! $ nothing ! $ fjoin ! $ join ! $ move ! (1 ∷ []) $ join ! $ done !)))))
