-- `lower`: `into_raw` hands out what the box owns, and the address keeps it.
use Rattle.std.proofs.Common.{List, [], ◌∷◌, ◌++◌, refl, sym, ap, subst}
use base.Fraction.{full_share}
use base.Fml.{ftrue, fsep, flft}
use base.Logic.{ent, emp, id⊢}
use mir.Syntax.{a_type, dcons, dnil}
use mir.MapTy.{inst_fn}
use mir.Val.{Val}
use prog.Wp.{WpFn}
use contract.BorrowLft as lft
use contract.BorrowLft.{◌⊑◌}
use contract.Monad.{fact, fact_i}
use contract.Running.{tables}
use types.Kit.{Item, ‵, raw, ◌⊛◌, some, later, ◌$◌, ◌∵◌, !, qed, by, move, drop, use0, use1, split, split3, join, fsplit, fjoin, feq_l, pick, await, suffices, done}
use types.Part.{agg}
use types.Run.{of_opd, no_more, and_then, returns, enter}
use types.ByLocal.{alloc_all, pass_all, free_all, look_at, get, sets, lands_as}
use types.Tokens.{lft_new, lft_end}
use denote.Builtin.{RawPtr}
use denote.Exit.{no}
use denote.Param.{param, bounded}
use denote.Param.NoDrop as none
use denote.RattleType.{RattleType}
use denote.RawPtr.{Ptr, ptr_val}
use denote.Signature.{plain}
use denote.Steps.{nothing, only}
use denote.Triple.Call.{calls_at}
use denote.Triple.Clauses.{Lasts, lasts}
use denote.Triple.Spec.{triple_of}
use denote.Triple.Walked.{says, Stays, stay_dropped, walk_of, ends_at}
use Rattle.std.proofs.raw_atomic.Walks.{proved_at}
use Rattle.core.proofs.alloc.Calls.{Goes-blank}
use Rattle.core.proofs.atomic.Steps.{Ptr-Good, fm}
use Rattle.std_alloc.specs.Box.Ownership.{box_owns}
use Rattle.std_alloc.proofs.BoxSteps.Form.{B, word, box_typed}
use Rattle.std_alloc.proofs.BoxSteps.Steps.{box_out, box_in}
use Rattle.std_alloc.specs.contracts.boxed.Box as box
use Rattle.std_alloc.specs.contracts.boxed.Box.into_raw as Raw
use Rattle.std_alloc.proofs.boxed.Box.into_raw.Met as raw_met
use Rattle.std_heap.proofs.GlobalAllocator.TheImpl.Met as allocator
use Rattle.std_heap.specs.contracts.GlobalAllocator.TheImpl.{ghosts, dict}
use Rattle.hidstack.specs.Held.{block_right}
use Rattle.hidstack.proofs.Steps.{Heap, Passed, passed_laws, undropped, on_heap, alone, address_good, address_in}
use Rattle.hidstack.specs.contracts.address.lower as F
use Rattle.hidstack.specs.contracts.address.lower.Key.{name as #self}
use Rattle.hidstack.proofs.address.lower.Statement.{statement}
use Rattle.hidstack.proofs.address.lower.Code as code
use Rattle.hidstack.proofs.Destruct++none.drop.Code as undrop

pub lower_spec : {M : Type 1} → statement M
unfolding undrop.code
lower_spec {M} 𝓤 𝓛 𝓜 𝓡 wired T L dx dropped =
    let E = on_heap T L in let R : RattleType = param 0 T in
    let inst = bounded (a_type ∷ []) (T, tt) (dcons dx dnil) in let fn = inst_fn inst code.function in
    let En = F.ended T dx in let c = F.clauses T dx 𝓛 𝓜.mem 𝓡.returns in let 𝓣 = tables 𝓤 𝓛.H 𝓜 𝓡 𝓡.env in
    let hs : Stays En.signature.params En.kept = (stay_dropped (plain (λ _. box.the_row R Heap ghosts)) no, tt) in
    proved_at 𝓛 En hs c 𝓜 𝓡 (Goes-blank 𝓛 1 (plain (λ _. box.the_row R Heap ghosts)) no (λ κs x f. tt), tt) (#self inst) fn (code.unfolded 𝓤 𝓛.H 𝓜 𝓡 wired (T, tt) dx) (λ z are.
    let κ = z.0.0.0 in let q = z.0.1.0 in let v = z.0.3.0 in let Post = (walk_of 𝓛 En hs c).post z in
    let alive : Item 𝓤 = ‵ (flft κ q) ⊛ ‵ ftrue in
    let asked : Item 𝓤 = raw (fact 𝓤 (κ ⊑ T.lives)) ⊛ ‵ ftrue in
    qed 𝓛 ((alive ⊛ ‵ (fsep ((B E).own_val v z.0.4.0) ftrue)) ∷ asked ∷ []) ∵ split ! $ move ! (1 ∷ []) $ fsplit ! $
    box_out E ! v z.0.4.0 (λ b o h e ws fits. box_in E ! v b o v.value e refl $
    let w = word E h b o in
    let Γ : List (Item 𝓤) = ‵ ((B E).own_val v (w ∷ [])) ∷ ‵ ftrue ∷ alive ∷ asked ∷ [] in
    by ! (subst (λ (us : List Val). ent 𝓤 (types.Kit.⋆ 𝓛 Γ) (WpFn 𝓤 𝓛.H 𝓣.C 𝓣.Λ fn (us ++ []) Post)) (sym ws)
    (qed 𝓛 Γ ∵ enter ! 𝓣.C 𝓣.Λ fn (w ∷ []) Post $ alloc_all ! (λ l. pass_all ! refl (box_typed E h b o fits, tt) $
    sets ! (of_opd ! (get ! refl)) refl (box_typed E h b o fits) $
    -- a lifetime for the allocator
    lft_new ! tt (λ α. let ρ = α ∷ [] in
    let lives : Item 𝓤 = ‵ (flft κ q) ⊛ ‵ (flft ρ full_share) ⊛ ‵ ftrue in
    let k = triple_of 𝓛 (Raw.signature T Passed ghosts dict undropped dx) (Raw.spec T Passed ghosts dict undropped dx 𝓛 𝓜.mem 𝓡.returns) in
    let y : k.Ghost = (((κ, (ρ, tt)), (q, (full_share, tt)), tt, (v, tt), (w ∷ [], tt)), tt) in
    move ! (3 ∷ []) $ split ! $ move ! (2 ∷ 1 ∷ []) $ join ! $ move ! (1 ∷ 0 ∷ []) $ join ! $ move ! (1 ∷ 2 ∷ []) $ fjoin ! $ move ! (1 ∷ 0 ∷ []) $ join ! $
    move ! (1 ∷ []) $ split ! $ use0 𝓛 (raw (fact 𝓤 (ρ ⊑ Passed.lives))) (fact_i 𝓤 (ρ ⊑ Passed.lives) (emp 𝓤) (lft.⊑_static ρ)) $
    move ! (0 ∷ 2 ∷ []) $ join ! $ move ! (1 ∷ 0 ∷ []) $ join ! $ move ! (1 ∷ 0 ∷ []) $ join ! $ use1 𝓛 (raw (k.pre y)) (id⊢ 𝓤 _) $
    calls_at ! (fm 𝓛 𝓜 𝓡) k (raw_met.met 𝓤 𝓛 𝓜 𝓡 (code.calls-std_alloc::boxed::Box::into_raw 𝓡.env wired) T Passed L passed_laws ghosts dict undropped dx
    (allocator.passed 𝓡.env (code.calls-std_heap::GlobalAllocator::allocate 𝓡.env wired) (code.calls-std_heap::GlobalAllocator::deallocate 𝓡.env wired)
    (code.calls-std_heap::GlobalAllocator::grow 𝓡.env wired) (code.calls-std_heap::GlobalAllocator::shrink 𝓡.env wired) M 𝓤 𝓛 𝓜 𝓡)
    (none.glues "hidstack::Destruct++none::drop" 𝓡.env (code.calls-hidstack::Destruct++none::drop 𝓡.env wired) Passed passed_laws M 𝓤 𝓛 𝓜 𝓡) dropped) y
    (and_then ! (get ! refl) (no_more !)) (λ u.
    use1 𝓛 (later (some (λ (r : Ptr). (lives ⊛ ‵ (RawPtr.own_val r (u ∷ []))) ⊛
    some (λ (ls : Lasts (Raw.ended T Passed ghosts dict undropped dx) y.0.0 y.0.3). ‵ (lasts (Raw.ended T Passed ghosts dict undropped dx) y.0.0 y.0.3 ls) ⊛ ‵ (box_owns block_right R r v.value))))) (id⊢ 𝓤 _) $
    await ! tt $ pick ! (λ r. split ! $ move ! (1 ∷ []) $ pick ! (λ _. split ! $ drop ! $ move ! (1 ∷ []) $ split ! $ move ! (1 ∷ []) $ feq_l ! (λ is.
    lands_as ! (ap only is) refl (Ptr-Good r) $ sets ! (agg ! (and_then ! (get ! refl) (no_more !))) refl (address_good R r) $
    split3 ! $ move ! (1 ∷ []) $ lft_end ! tt $ drop ! $ returns ! (look_at ! 0 refl) $ free_all ! refl $
    -- [the token of κ; nothing; what the address owns]
    move ! (2 ∷ []) $ address_in ! R r v.value $
    suffices ! _ (ends_at 𝓛 En hs c z (alone (ptr_val r)) (record { at = r; value = v.value }) (_, tt) (_, tt)) $ says ! refl $
    nothing ! $ nothing ! $ fjoin ! $ join ! $ move ! (1 ∷ 2 ∷ []) $ join ! $ join ! $ done !))))))))))
