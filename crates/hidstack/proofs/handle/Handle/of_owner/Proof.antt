-- `of_owner` keeps the pointer, and what lies there goes with it.
use Rattle.std.proofs.Common.{List, [], ◌∷◌, ◌++◌, refl, sym, subst}
use mir.Val.{Val}
use base.Logic.{ent, emp}
use base.Fml.{ftrue, fsep}
use prog.Wp.{WpFn}
use contract.Running.{tables}
use types.Kit.{Item, ‵, raw, ◌⊛◌, ◌$◌, ◌∵◌, !, qed, by, keep, drop, join, split, fsplit, fjoin, suffices, done}
use types.Part.{whole, sub, agg}
use types.Run.{stop, fld, no_more, and_then, of_opd, returns, enter}
use types.ByLocal.{alloc_all, pass_all, free_all, look_at, get, get_in, sets}
use denote.Exit.{yes}
use denote.RawPtr.{ptr_val}
use denote.Signature.{plain}
use denote.Steps.{nothing}
use denote.Triple.Walked.{says, Stays, stay_dropped, walk_of, ends_at, Goes-dropped}
use Rattle.std.proofs.raw_atomic.Walks.{proved_at}
use Rattle.core.proofs.atomic.Steps.{Ptr-Good}
use Rattle.hidstack.specs.Held.{owned_box}
use Rattle.hidstack.proofs.Steps.{OwnerAt, alone, owner_good, owner_out}
use Rattle.hidstack.proofs.HandleSteps.{Session, handle_good, handle_in}
use Rattle.hidstack.specs.contracts.handle.Handle.of_owner as F
use Rattle.hidstack.specs.contracts.handle.Handle.of_owner.Key.{name as #self}
use Rattle.hidstack.proofs.handle.Handle.of_owner.Statement.{statement}
use Rattle.hidstack.proofs.handle.Handle.of_owner.Code as code

abbrev stayed : Stays (F.ended).signature.params (F.ended).kept
stayed = (stay_dropped (plain (λ _. OwnerAt Session)) yes, tt)

pub of_owner_spec : {M : Type 1} → statement M
of_owner_spec 𝓤 𝓛 𝓜 𝓡 wired =
    let c = F.clauses 𝓛 𝓜.mem 𝓡.returns in let 𝓣 = tables 𝓤 𝓛.H 𝓜 𝓡 𝓡.env in
    proved_at 𝓛 F.ended stayed c 𝓜 𝓡 (Goes-dropped 𝓛 0 (plain (λ _. OwnerAt Session)) yes (λ κs x f. refl), tt) #self code.function (code.unfolded 𝓤 𝓛.H 𝓜 𝓡 wired) (λ z are.
    let Post = (walk_of 𝓛 F.ended stayed c).post z in let d = z.0.3.0 in let p = d.at in let w = alone (ptr_val p) in
    qed 𝓛 ((‵ ftrue ⊛ ‵ (fsep ((OwnerAt Session).own_val d z.0.4.0) ftrue)) ∷ raw (emp 𝓤) ∷ []) ∵ split ! $ drop ! $ fsplit ! $
    owner_out ! Session d z.0.4.0 (λ ws. keep ! (0 ∷ []) $
    let Γ : List (Item 𝓤) = ‵ (owned_box Session p d.kept) ∷ [] in
    by ! (subst (λ (us : List Val). ent 𝓤 (types.Kit.⋆ 𝓛 Γ) (WpFn 𝓤 𝓛.H 𝓣.C 𝓣.Λ code.function (us ++ []) Post)) (sym ws)
    (qed 𝓛 Γ ∵ enter ! 𝓣.C 𝓣.Λ code.function (w ∷ []) Post $ alloc_all ! (λ l. pass_all ! refl (owner_good Session p, tt) $
    sets ! (of_opd ! (get_in ! (fld ! refl (stop !)) (sub ! 0 refl (whole !)))) refl (Ptr-Good p) $ sets ! (of_opd ! (get ! refl)) refl (Ptr-Good p) $
    sets ! (agg ! (and_then ! (get ! refl) (no_more !))) refl (handle_good p) $ returns ! (look_at ! 0 refl) $ free_all ! refl $
    handle_in ! p d.kept $
    suffices ! _ (ends_at 𝓛 F.ended stayed c z w (record { at = p; kept = d.kept }) (tt, tt) (tt, tt)) $ says ! refl $
    nothing ! $ nothing ! $ fjoin ! $ join ! $ nothing ! $ join ! $ done !)))))
