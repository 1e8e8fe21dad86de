-- `hidstack_close`: where the pointer isn't null, the handle there is lent to `close`, and comes back.
use Rattle.std.proofs.Common.{◌≡◌, ℕ, List, [], ◌∷◌, ◌++◌, refl, sym, ap, subst}
use base.Fraction.{full_share}
use base.Fml.{Lft, ftrue, fsep, feq, flft, flent}
use base.Logic.{ent, id⊢}
use mir.Syntax.{named}
use mir.Val.{Val, vunit, vptr}
use prog.Wp.{WpFn}
use contract.Monad.{fact}
use contract.Running.{tables}
use types.Kit.{Item, ‵, raw, ◌⊛◌, given, some, later, at_ret, ◌$◌, ◌∵◌, !, qed, by, move, keep, drop, use1, use3, learn, split, join, fsplit, fjoin, fpack, feq_i, feq_l, pick, await, rewrite, group, suffices, done}
use types.Run.{stop, lit, unit_lit, no_more, and_then, of_opd, bin, addr, first, blocks, branches, skips, exec, returns, returns_within, enter}
use types.SemTy.{Body}
use types.Tokens.{lft_new, lft_end}
use types.ByLocal.{alloc_all, pass_all, free_all, look_at, get, through, sets, sets_last, lands_as, env}
use denote.Builtin.{RawPtr, unit}
use denote.Exit.{yes}
use denote.Lend.{lends_ref, ref_back}
use denote.Memory.{mem}
use denote.RawPtr.{Ptr, block_ptr, null_ptr, ptr_val, Testable, tests_null}
use denote.Ref.{MutBor, MutRef}
use denote.Signature.{plain}
use denote.Steps.{nothing, heard, only}
use denote.Triple.Call.{calls_at}
use denote.Triple.Clauses.{Lasts, lasts}
use denote.Triple.Spec.{triple_of}
use denote.Triple.Walked.{Stays, stay_dropped, walk_of, ends_at, Goes-dropped}
use Rattle.std.specs.Prelude.{Option, None}
use Rattle.std.proofs.raw_atomic.Walks.{proved_at}
use Rattle.core.specs.Ptr.{points_to, if_non_null}
use Rattle.core.proofs.alloc.Calls.{handle_tells}
use Rattle.core.proofs.alloc.Shapes.{after}
use Rattle.core.proofs.atomic.Steps.{Ptr-Good, fm}
use Rattle.hidstack.specs.Closing.{closed_at}
use Rattle.hidstack_session.specs.States.{SessionState}
use Rattle.hidstack.proofs.Steps.{Heap, Passed, on_heap}
use Rattle.hidstack.proofs.HandleSteps.{Handle}
use Rattle.hidstack.proofs.handle.Handle.TheLaws as laws
use Rattle.hidstack.specs.contracts.session.close as G
use Rattle.hidstack.proofs.session.close.Met as close_met
use Rattle.hidstack.specs.contracts.session.hidstack_close as F
use Rattle.hidstack.specs.contracts.session.hidstack_close.Key.{name as #self}
use Rattle.hidstack.proofs.session.hidstack_close.Statement.{statement}
use Rattle.hidstack.proofs.session.hidstack_close.Code as code

abbrev stayed : Stays (F.ended).signature.params (F.ended).kept
stayed = (stay_dropped (plain (λ _. Heap)) yes, (stay_dropped (plain (λ _. RawPtr)) yes, tt))

pub hidstack_close_spec : {M : Type 1} → statement M
hidstack_close_spec 𝓤 𝓛 𝓜 𝓡 wired =
    let c = F.clauses 𝓛 𝓜.mem 𝓡.returns in let 𝓣 = tables 𝓤 𝓛.H 𝓜 𝓡 𝓡.env in let fn = code.function in
    proved_at 𝓛 F.ended stayed c 𝓜 𝓡
    (Goes-dropped 𝓛 0 (plain (λ _. Heap)) yes (λ κs x f. refl), (Goes-dropped 𝓛 0 (plain (λ _. RawPtr)) yes (λ κs x f. refl), tt))
    #self fn (code.unfolded 𝓤 𝓛.H 𝓜 𝓡 wired) (λ z are.
    let a = z.0.3.0 in let p : Ptr = z.0.3.1.0 in let was = z.1 in let Post = (walk_of 𝓛 F.ended stayed c).post z in
    qed 𝓛 ((‵ ftrue ⊛ ‵ (fsep (Heap.own_val a z.0.4.0) (fsep (RawPtr.own_val p z.0.4.1.0) ftrue)))
    ∷ (given (Testable p) (‵ ftrue) ⊛ ‵ (if_non_null p (points_to Handle p was))) ∷ []) ∵
    split ! $ drop ! $ fsplit ! $ handle_tells (on_heap Handle laws.the_row_laws).al ! a z.0.4.0 (λ h eh fits. move ! (1 ∷ []) $ fsplit ! $ feq_l ! (λ ep. drop ! $
    move ! (1 ∷ []) $ split ! $ learn ! (λ may. keep ! (1 ∷ 2 ∷ []) $
    let Γ : Ptr → List (Item 𝓤) = λ s. ‵ (if_non_null s (points_to Handle s was)) ∷ ‵ (Passed.own_val a (h ∷ [])) ∷ [] in
    by ! (subst (λ (us : List Val × List Val). ent 𝓤 (types.Kit.⋆ 𝓛 (Γ p)) (WpFn 𝓤 𝓛.H 𝓣.C 𝓣.Λ fn (us.0 ++ (us.1 ++ [])) Post)) (λ j. (sym eh j, sym ep j))
    (elim p as (λ (s : Ptr). p ≡ s → Testable s → ent 𝓤 (types.Kit.⋆ 𝓛 (Γ s)) (WpFn 𝓤 𝓛.H 𝓣.C 𝓣.Λ fn (h ∷ ptr_val s ∷ []) Post)) [
      | null_ptr ↦ λ e may.
          qed 𝓛 (Γ null_ptr) ∵ keep ! (0 ∷ []) $ enter ! 𝓣.C 𝓣.Λ fn (h ∷ ptr_val null_ptr ∷ []) Post $
          alloc_all ! (λ l. pass_all ! refl (fits, (Ptr-Good null_ptr, tt)) $
          sets ! (of_opd ! (get ! refl)) refl (Ptr-Good null_ptr) $
          sets ! (bin ! (get ! refl) (lit ! tt) (tests_null null_ptr may)) refl (tt, tt) $ first ! $ branches ! (get ! refl)
          (λ _. sets ! (of_opd ! (unit_lit !)) refl (tt, tt) $ returns_within ! Post refl (look_at ! 0 refl) $ free_all ! refl $
          rewrite ! 0 (λ (s : Ptr). ‵ (if_non_null s (closed_at Handle (λ (w : Handle.Denot). w.kept) s))) (sym e) refl $
          suffices ! _ (ends_at 𝓛 F.ended stayed c z vunit tt (tt, (tt, tt)) (tt, (tt, tt))) $
          feq_i ! (List Val) (vunit ∷ []) (vunit ∷ []) refl $ nothing ! $ nothing ! $ fjoin ! $ nothing ! $ fjoin ! $ join ! $ nothing ! $ join ! $ done !)
          (λ wrong. absurd wrong))
      | block_ptr b o ↦ λ e may.
          qed 𝓛 (Γ (block_ptr b o)) ∵ enter ! 𝓣.C 𝓣.Λ fn (h ∷ vptr b o ∷ []) Post $
          alloc_all ! (λ l. pass_all ! refl (fits, (Ptr-Good (block_ptr b o), tt)) $ let Ev = env fn.locals l in
          sets ! (of_opd ! (get ! refl)) refl (Ptr-Good (block_ptr b o)) $
          sets ! (bin ! (get ! refl) (lit ! tt) (tests_null (block_ptr b o) may)) refl (tt, tt) $ first ! $ branches ! (get ! refl)
          (λ wrong. absurd wrong)
          (λ _. skips ! $ exec ! 𝓣.C 𝓣.Λ Ev (after 3 fn.body) (at_ret Ev Post) $
          sets ! (of_opd ! (get ! refl)) refl fits $
          first ! $ blocks ! $ sets_last ! (addr ! (through ! refl (stop !))) refl (tt, tt) $ exec ! 𝓣.C 𝓣.Λ Ev (after 5 fn.body) (at_ret Ev Post) $
          sets ! (of_opd ! (get ! refl)) refl (tt, tt) $
          -- a lifetime for the handle
          lft_new ! tt (λ α. let κ : Lft = α ∷ [] in move ! (1 ∷ 0 ∷ []) $
          let lent : ℕ → MutBor Handle.Denot = λ γ. record { ref_ptr = (b, o); ghost_name = γ; now = was } in
          use1 𝓛 (later (some (λ (γ : ℕ). ‵ ((MutRef (named 0) κ Handle).own_val (lent γ) (vptr b o ∷ [])) ⊛ ‵ (flent κ (Body (mem Handle) b o γ)))))
          (lends_ref 𝓛 Handle (named 0) κ was b o) $ await ! tt $ pick ! (λ γ. split ! $
          -- [the loan; what the lender keeps; the token; the allocator]
          let k = triple_of 𝓛 G.signature (G.spec 𝓛 𝓜.mem 𝓡.returns) in
          let y : k.Ghost = (((κ, tt), (full_share, tt), tt, (a, (lent γ, tt)), (h ∷ [], (vptr b o ∷ [], tt))), tt) in
          nothing ! $ move ! (1 ∷ 0 ∷ []) $ fjoin ! $ move ! (3 ∷ 0 ∷ []) $ fjoin ! $
          nothing ! $ move ! (3 ∷ 0 ∷ []) $ join ! $ join ! $ nothing ! $ move ! (1 ∷ 0 ∷ []) $ join ! $ use1 𝓛 (raw (k.pre y)) (id⊢ 𝓤 _) $
          calls_at ! (fm 𝓛 𝓜 𝓡) k (close_met.met 𝓤 𝓛 𝓜 𝓡 (code.calls-hidstack::session::close 𝓡.env wired)) y
          (and_then ! (get ! refl) (and_then ! (get ! refl) (no_more !))) (λ v.
          use1 𝓛 (later (some (λ (u : Unit {0}). ((‵ (flft κ full_share) ⊛ ‵ ftrue) ⊛ ‵ (unit.own_val u (v ∷ []))) ⊛
          some (λ (ws : Lasts G.ended y.0.0 y.0.3). ‵ (lasts G.ended y.0.0 y.0.3 ws) ⊛ raw (fact 𝓤 (ws.1.0.kept ≡ None)))))) (id⊢ 𝓤 _) $
          await ! tt $ pick ! (λ u. split ! $ split ! $ split ! $ lft_end ! tt $ move ! (2 ∷ []) $ feq_l ! (λ is_unit.
          lands_as ! (ap only is_unit) refl (tt, tt) $ move ! (2 ∷ []) $ pick ! (λ ws. split ! $ move ! (1 ∷ []) $ heard ! _ (λ shut.
          fsplit ! $ move ! (1 ∷ []) $ fsplit ! $ fsplit ! $
          -- [the handle's last value; its borrow; nothing; the allocator's; the lifetime is over; nothing; what the lender keeps]
          move ! (4 ∷ 6 ∷ 0 ∷ []) $ use3 𝓛 (later (‵ ((mem Handle).own_at ws.1.0 b o))) (ref_back 𝓛 Handle κ γ ws.1.0 b o) $ await ! tt $
          feq_i ! (Option SessionState) ws.1.0.kept None shut $ fjoin ! $
          fpack ! Handle.Denot (λ (w : Handle.Denot). fsep (feq (Option SessionState) w.kept None) (points_to Handle (block_ptr b o) w)) ws.1.0 $
          sets ! (of_opd ! (unit_lit !)) refl (tt, tt) $ returns ! (look_at ! 0 refl) $ free_all ! refl $ keep ! (0 ∷ []) $
          rewrite ! 0 (λ (s : Ptr). ‵ (if_non_null s (closed_at Handle (λ (w : Handle.Denot). w.kept) s))) (sym e) refl $
          suffices ! _ (ends_at 𝓛 F.ended stayed c z vunit tt (tt, (tt, tt)) (tt, (tt, tt))) $
          feq_i ! (List Val) (vunit ∷ []) (vunit ∷ []) refl $ nothing ! $ nothing ! $ fjoin ! $ nothing ! $ fjoin ! $ join ! $ nothing ! $ join ! $ done !)))))))))
    ] refl may))))))
