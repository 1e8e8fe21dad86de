-- `into_address` hands out what the pointer leads to, where it isn't null.
use Rattle.std.proofs.Common.{List, [], ◌∷◌, ◌++◌, refl, sym, ap, subst}
use lib.Dec.{lit<}
use mir.MapTy.{inst_fn}
use mir.Syntax.{a_type}
use mir.Val.{Val, vcons, vnil, has_ty}
use base.Logic.{ent}
use base.Fml.{ftrue, fsep, flft}
use prog.Wp.{WpFn}
use contract.BorrowLft.{◌⊑◌}
use contract.Monad.{fact}
use contract.Running.{tables}
use types.Kit.{Item, ‵, raw, ◌⊛◌, at_ret, ◌$◌, ◌∵◌, !, qed, by, keep, move, use0, use1, join, split, fsplit, fjoin, suffices, done}
use types.Part.{whole, sub, agg}
use types.Match.{live}
use types.Run.{stop, fld, lit, no_more, and_then, of_opd, bin, first, branches, exec, returns, enter}
use types.ByLocal.{alloc_all, pass_all, free_all, look_at, get, get_in, sets, sets_last, env}
use denote.Exit.{no}
use denote.Param.{param, layout, layouts}
use denote.RattleType.{RattleType}
use denote.RawPtr.{block_ptr, null_ptr, ptr_val, tests_null}
use denote.Signature.{type_at, plain}
use denote.Steps.{nothing}
use denote.Triple.Walked.{says, Stays, stay_dropped, walk_of, ends_at}
use Rattle.std.specs.Prelude.{None, Some}
use Rattle.std.proofs.raw_atomic.Walks.{proved_at}
use Rattle.core.proofs.alloc.Calls.{Goes-blank}
use Rattle.core.proofs.alloc.Shapes.{after}
use Rattle.core.proofs.atomic.Steps.{Ptr-Good}
use Rattle.core.proofs.cell.Inside.{Good}
use Rattle.core.proofs.option.Made.{Some-of, none_of}
use Rattle.std_alloc.proofs.ResultValues.{and_tt}
use Rattle.hidstack.specs.Held.{owned_box}
use Rattle.hidstack.proofs.Steps.{At, OwnerAt, alone, address_good, owner_good, owner_out, held_out, address_in}
use Rattle.hidstack.specs.contracts.owner.Owner.into_address as F
use Rattle.hidstack.specs.contracts.owner.Owner.into_address.Key.{name as #self}
use Rattle.hidstack.proofs.owner.Owner.into_address.Statement.{statement}
use Rattle.hidstack.proofs.owner.Owner.into_address.Code as code

pub into_address_spec : {M : Type 1} → statement M
into_address_spec 𝓤 𝓛 𝓜 𝓡 wired T L =
    let R : RattleType = param 0 T in
    let inst = layouts (a_type ∷ []) (T, tt) in let fn = inst_fn inst code.function in
    let En = F.ended T in let c = F.clauses T 𝓛 𝓜.mem 𝓡.returns in let 𝓣 = tables 𝓤 𝓛.H 𝓜 𝓡 𝓡.env in
    let hs : Stays En.signature.params En.kept = (stay_dropped (plain (λ _. OwnerAt R)) no, tt) in
    proved_at 𝓛 En hs c 𝓜 𝓡 (Goes-blank 𝓛 1 (plain (λ _. OwnerAt R)) no (λ κs x f. tt), tt) (#self inst) fn (code.unfolded 𝓤 𝓛.H 𝓜 𝓡 wired (T, tt)) (λ z are.
    let κ = z.0.0.0 in let q = z.0.1.0 in let d = z.0.3.0 in let p = d.at in let w = alone (ptr_val p) in let Post = (walk_of 𝓛 En hs c).post z in
    let Out : RattleType = type_at En.signature.result (κ, tt) in let Found : RattleType = At R in
    let alive : Item 𝓤 = ‵ (flft κ q) ⊛ ‵ ftrue in
    let asked : Item 𝓤 = raw (fact 𝓤 (κ ⊑ T.lives)) ⊛ ‵ ftrue in
    qed 𝓛 ((alive ⊛ ‵ (fsep ((OwnerAt R).own_val d z.0.4.0) ftrue)) ∷ asked ∷ []) ∵ split ! $ move ! (1 ∷ []) $ fsplit ! $
    owner_out ! R d z.0.4.0 (λ ws. keep ! (0 ∷ 2 ∷ []) $
    let Γ : List (Item 𝓤) = ‵ (owned_box R p d.kept) ∷ alive ∷ [] in
    by ! (subst (λ (us : List Val). ent 𝓤 (types.Kit.⋆ 𝓛 Γ) (WpFn 𝓤 𝓛.H 𝓣.C 𝓣.Λ fn (us ++ []) Post)) (sym ws)
    (qed 𝓛 Γ ∵ enter ! 𝓣.C 𝓣.Λ fn (w ∷ []) Post $ alloc_all ! (λ l. pass_all ! refl (owner_good R p, tt) $ let Ev = env fn.locals l in
    held_out ! R p d.kept
    (λ is ek. sets ! (types.ByLocal.is ! (of_opd ! (get_in ! (fld ! refl (stop !)) (sub ! 0 refl (whole !)))) (ap ptr_val is)) refl (Ptr-Good null_ptr) $
    sets ! (bin ! (get ! refl) (lit ! tt) tt) refl (tt, tt) $ first ! $ branches ! (get ! refl)
    (λ _. sets_last ! (agg ! (and_then ! (lit ! tt) (no_more !))) refl (tt, (record { fits = lit< tt }, tt)) $ exec ! 𝓣.C 𝓣.Λ Ev (after 3 fn.body) (at_ret Ev Post) $
    sets ! (of_opd ! (get ! refl)) refl (tt, (record { fits = lit< tt }, tt)) $ returns ! (look_at ! 0 refl) $ free_all ! refl $
    use0 𝓛 (‵ (Out.own_val None (live 0 vnil ∷ []))) (none_of 𝓛 Found) $
    suffices ! _ (ends_at 𝓛 En hs c z (live 0 vnil) None (_, tt) (_, tt)) $ says ! ek $
    nothing ! $ nothing ! $ fjoin ! $ join ! $ move ! (1 ∷ []) $ join ! $ done !)
    (λ wrong. absurd wrong))
    (λ b o x is ek test. let s = block_ptr b o in
    let made : Val = alone (ptr_val s) in let typed = address_good R s in let v : Val = live 1 (vcons made vnil) in let r : Found.Denot = record { at = s; value = x } in
    let good : Good (layout Out) v = (and_tt (has_ty (layout Found) made) typed.0, (record { fits = lit< tt }, (typed.1, tt))) in
    sets ! (types.ByLocal.is ! (of_opd ! (get_in ! (fld ! refl (stop !)) (sub ! 0 refl (whole !)))) (ap ptr_val is)) refl (tt, tt) $
    sets ! (bin ! (get ! refl) (lit ! tt) (tests_null s test)) refl (tt, tt) $ first ! $ branches ! (get ! refl) (λ wrong. absurd wrong)
    (λ _. sets ! (agg ! (and_then ! (get ! refl) (no_more !))) refl typed $
    sets_last ! (agg ! (and_then ! (lit ! tt) (and_then ! (get ! refl) (no_more !)))) refl good $ exec ! 𝓣.C 𝓣.Λ Ev (after 3 fn.body) (at_ret Ev Post) $
    sets ! (of_opd ! (get ! refl)) refl good $ returns ! (look_at ! 0 refl) $ free_all ! refl $
    address_in ! R s x $ use1 𝓛 (‵ (Out.own_val (Some r) (v ∷ []))) (Some-of 𝓛 Found r made) $
    suffices ! _ (ends_at 𝓛 En hs c z v (Some r) (_, tt) (_, tt)) $ says ! ek $
    nothing ! $ nothing ! $ fjoin ! $ join ! $ move ! (1 ∷ []) $ join ! $ done !)))))))
