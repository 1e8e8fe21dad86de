-- `raise`: what the address owns goes to `from_raw`, which makes the box of it.
use Rattle.std.proofs.Common.{◌≡◌, List, [], ◌∷◌, ◌++◌, refl, sym, ap, subst}
use base.Fraction.{full_share}
use base.Fml.{ftrue, fsep, flft}
use base.Logic.{ent, emp, id⊢}
use mir.Syntax.{a_type}
use mir.MapTy.{inst_fn}
use mir.Val.{Val}
use prog.Wp.{WpFn}
use contract.BorrowLft as lft
use contract.BorrowLft.{◌⊑◌}
use contract.Monad.{fact, fact_i}
use contract.Running.{tables}
use types.Kit.{Item, ‵, raw, ◌⊛◌, some, later, at_ret, ◌$◌, ◌∵◌, !, qed, by, move, drop, use0, use1, split, split3, join, fsplit, fjoin, feq_i, pick, await, rewrite, suffices, done}
use types.Part.{sub, whole}
use types.Run.{stop, fld, of_opd, no_more, and_then, first, blocks, exec, returns, enter}
use types.ByLocal.{alloc_all, pass_all, free_all, look_at, get, get_in, sets, lands_last, env}
use types.Tokens.{lft_new, lft_end}
use denote.Exit.{yes, no}
use denote.Param.{param, layout, layouts}
use denote.Param.NoDrop as none
use denote.RattleType.{RattleType}
use denote.RawPtr.{ptr_val}
use denote.Signature.{plain}
use denote.Steps.{nothing, heard, only}
use denote.Triple.Call.{calls_at_last}
use denote.Triple.Clauses.{Lasts, lasts}
use denote.Triple.Spec.{triple_of}
use denote.Triple.Walked.{says, Stays, stay_dropped, walk_of, ends_at, Goes-dropped}
use Rattle.std.proofs.raw_atomic.Walks.{proved_at}
use Rattle.core.proofs.alloc.Calls.{Goes-blank, handle_tells}
use Rattle.core.proofs.alloc.Shapes.{after}
use Rattle.core.proofs.atomic.Steps.{Ptr-Good, fm}
use Rattle.core.proofs.cell.Inside.{Good}
use Rattle.std_alloc.specs.Box.Ownership.{box_owns}
use Rattle.std_alloc.proofs.BoxSteps.Form.{B, box_typed}
use Rattle.std_alloc.proofs.BoxSteps.Steps.{box_out, box_in}
use Rattle.std_alloc.specs.contracts.boxed.Box as box
use Rattle.std_alloc.specs.contracts.boxed.Box.from_raw as Raw
use Rattle.std_alloc.proofs.boxed.Box.from_raw.Met as raw_met
use Rattle.std_heap.proofs.GlobalAllocator.TheImpl.Met as allocator
use Rattle.std_heap.specs.contracts.GlobalAllocator.TheImpl.{ghosts, dict}
use Rattle.hidstack.specs.Held.{block_right}
use Rattle.hidstack.proofs.Steps.{Heap, Passed, passed_laws, undropped, on_heap, At, alone, address_good, address_out}
use Rattle.hidstack.specs.contracts.address.raise as F
use Rattle.hidstack.specs.contracts.address.raise.Key.{name as #self}
use Rattle.hidstack.proofs.address.raise.Statement.{statement}
use Rattle.hidstack.proofs.address.raise.Code as code
use Rattle.hidstack.proofs.Destruct++none.drop.Code as undrop

pub raise_spec : {M : Type 1} → statement M
unfolding undrop.code
raise_spec {M} 𝓤 𝓛 𝓜 𝓡 wired T L =
    let E = on_heap T L in let R : RattleType = param 0 T in let Out : RattleType = box.the_row R Heap ghosts in
    let inst = layouts (a_type ∷ []) (T, tt) in let fn = inst_fn inst code.function in
    let En = F.ended T in let c = F.clauses T 𝓛 𝓜.mem 𝓡.returns in let 𝓣 = tables 𝓤 𝓛.H 𝓜 𝓡 𝓡.env in
    let hs : Stays En.signature.params En.kept = (stay_dropped (plain (λ _. Heap)) yes, (stay_dropped (plain (λ _. At R)) no, tt)) in
    proved_at 𝓛 En hs c 𝓜 𝓡 (Goes-dropped 𝓛 1 (plain (λ _. Heap)) yes (λ κs x f. refl), (Goes-blank 𝓛 1 (plain (λ _. At R)) no (λ κs x f. tt), tt)) (#self inst) fn (code.unfolded 𝓤 𝓛.H 𝓜 𝓡 wired (T, tt)) (λ z are.
    let κ = z.0.0.0 in let q = z.0.1.0 in let a = z.0.3.0 in let d = z.0.3.1.0 in let p = d.at in let Post = (walk_of 𝓛 En hs c).post z in
    let alive : Item 𝓤 = ‵ (flft κ q) ⊛ ‵ ftrue in
    let asked : Item 𝓤 = raw (fact 𝓤 (κ ⊑ T.lives)) ⊛ ‵ ftrue in
    qed 𝓛 ((alive ⊛ ‵ (fsep (Heap.own_val a z.0.4.0) (fsep ((At R).own_val d z.0.4.1.0) ftrue))) ∷ asked ∷ []) ∵ split ! $ move ! (1 ∷ []) $ fsplit ! $
    handle_tells E.al ! a z.0.4.0 (λ h eh fits. move ! (1 ∷ []) $ fsplit ! $ address_out ! R d z.0.4.1.0 (λ ws. let w = alone (ptr_val p) in
    let Γ : List (Item 𝓤) = ‵ (box_owns block_right R p d.value) ∷ ‵ ftrue ∷ ‵ (Passed.own_val a (h ∷ [])) ∷ alive ∷ asked ∷ [] in
    by ! (subst (λ (us : List Val × List Val). ent 𝓤 (types.Kit.⋆ 𝓛 Γ) (WpFn 𝓤 𝓛.H 𝓣.C 𝓣.Λ fn (us.0 ++ (us.1 ++ [])) Post)) (λ j. (sym eh j, sym ws j))
    (qed 𝓛 Γ ∵ enter ! 𝓣.C 𝓣.Λ fn (h ∷ w ∷ []) Post $ alloc_all ! (λ l. pass_all ! refl (fits, (address_good R p, tt)) $ let Ev = env fn.locals l in
    sets ! (of_opd ! (get_in ! (fld ! refl (stop !)) (sub ! 0 refl (whole !)))) refl (Ptr-Good p) $
    -- a lifetime for the allocator
    lft_new ! tt (λ α. let ρ = α ∷ [] in
    let lives : Item 𝓤 = ‵ (flft κ q) ⊛ ‵ (flft ρ full_share) ⊛ ‵ ftrue in
    let k = triple_of 𝓛 (Raw.signature T Passed ghosts dict undropped) (Raw.spec T Passed ghosts dict undropped 𝓛 𝓜.mem 𝓡.returns) in
    let y : k.Ghost = (((κ, (ρ, tt)), (q, (full_share, tt)), tt, (a, (p, tt)), (h ∷ [], (ptr_val p ∷ [], tt))), d.value) in
    move ! (5 ∷ []) $ split ! $ move ! (1 ∷ []) $ drop ! $ move ! (2 ∷ []) $ use0 𝓛 (raw (fact 𝓤 (ρ ⊑ Passed.lives))) (fact_i 𝓤 (ρ ⊑ Passed.lives) (emp 𝓤) (lft.⊑_static ρ)) $
    join ! $ move ! (1 ∷ 0 ∷ []) $ join ! $ move ! (4 ∷ []) $ split ! $ move ! (3 ∷ 1 ∷ []) $ join ! $ move ! (1 ∷ 0 ∷ []) $ join ! $
    move ! (2 ∷ []) $ feq_i ! (List Val) (ptr_val p ∷ []) (ptr_val p ∷ []) refl $ fjoin ! $ move ! (3 ∷ 0 ∷ []) $ fjoin ! $ move ! (1 ∷ 0 ∷ []) $ join ! $ join ! $
    use1 𝓛 (raw (k.pre y)) (id⊢ 𝓤 _) $ first ! $ blocks ! $
    calls_at_last ! (fm 𝓛 𝓜 𝓡) k (raw_met.met 𝓤 𝓛 𝓜 𝓡 (code.calls-std_alloc::boxed::Box::from_raw 𝓡.env wired) T Passed L passed_laws ghosts dict undropped
    (allocator.passed 𝓡.env (code.calls-std_heap::GlobalAllocator::allocate 𝓡.env wired) (code.calls-std_heap::GlobalAllocator::deallocate 𝓡.env wired)
    (code.calls-std_heap::GlobalAllocator::grow 𝓡.env wired) (code.calls-std_heap::GlobalAllocator::shrink 𝓡.env wired) M 𝓤 𝓛 𝓜 𝓡)
    (none.glues "hidstack::Destruct++none::drop" 𝓡.env (code.calls-hidstack::Destruct++none::drop 𝓡.env wired) Passed passed_laws M 𝓤 𝓛 𝓜 𝓡)) y
    (and_then ! (get ! refl) (and_then ! (get ! refl) (no_more !))) (λ u.
    use1 𝓛 (later (some (λ (r : (B E).Denot). (lives ⊛ ‵ ((B E).own_val r (u ∷ []))) ⊛
    some (λ (ls : Lasts (Raw.ended T Passed ghosts dict undropped) y.0.0 y.0.3). ‵ (lasts (Raw.ended T Passed ghosts dict undropped) y.0.0 y.0.3 ls) ⊛
    (raw (fact 𝓤 (r.value ≡ d.value)) ⊛ raw (fact 𝓤 (r.alloc ≡ a))))))) (id⊢ 𝓤 (k.post y u)) $
    await ! tt $ pick ! (λ r. split ! $ move ! (1 ∷ []) $ pick ! (λ _. split3 ! $ drop ! $ heard ! (r.value ≡ d.value) (λ same. drop ! $ split ! $ move ! (1 ∷ []) $
    box_out E ! r (u ∷ []) (λ b o g e us typed. box_in E ! r b o r.value e refl $ rewrite ! 0 (λ (xs : List Val). ‵ ((B E).own_val r xs)) (sym us) refl $
    let good : Good (layout (B E)) u = subst (Good (layout (B E))) (sym (ap only us)) (box_typed E g b o typed) in
    lands_last ! refl good $ exec ! 𝓣.C 𝓣.Λ Ev (after 2 fn.body) (at_ret Ev Post) $ sets ! (of_opd ! (get ! refl)) refl good $
    move ! (1 ∷ []) $ split3 ! $ move ! (1 ∷ []) $ lft_end ! tt $ drop ! $ returns ! (look_at ! 0 refl) $ free_all ! refl $
    -- [the token of κ; nothing; the box]
    move ! (2 ∷ []) $ suffices ! _ (ends_at 𝓛 En hs c z u r (_, (_, tt)) (_, (_, tt))) $ says ! same $
    nothing ! $ nothing ! $ fjoin ! $ nothing ! $ fjoin ! $ join ! $ move ! (1 ∷ 2 ∷ []) $ join ! $ join ! $ done !))))))))))))
