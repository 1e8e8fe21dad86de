-- The machine values of what is kept by its address, and what is owned there. Assumes `Logic`.
use Rattle.std.proofs.Common.{◌≡◌, ℕ, List, [], ◌∷◌, ◌++◌, refl, subst}
use seplogic.Ra.Ura.{Ura}
use mir.Syntax.{Dict, impl, tnil, tcons, dnil, ty_ptr}
use mir.Val.{Val, vstruct, vcons, vnil, of_list, has_ty}
use mir.Raw.{raw as bare}
use base.Logic.{ent, guard, guard_i, never, via, fst∗, snd∗}
use contract.Monad.{fact_use}
use types.Logic.{Logic, sem}
use types.Kit.{Item, Goal, Seq, Step, step, ‵, given, learn, use1, ◌$◌, drop, fsplit, fjoin, fpick, fpack, feq_i, feq_l}
use denote.RattleType.{RattleType, Valss}
use denote.Builtin.{RawPtr}
use denote.Memory.{lone}
use denote.Exit.{no}
use denote.Param.{layout, arg}
use denote.Param.Laws.{Laws, arg_laws}
use denote.RawPtr.{Ptr, block_ptr, null_ptr, ptr_val, in_a_block, Testable}
use denote.Steps.{nothing}
use denote.Struct.Struct.{within}
use denote.Struct.Owning.{shape}
use Rattle.std.specs.Prelude.{Option, None, Some}
use Rattle.std.proofs.GlobalToken.{dealloc_token-Testable}
use Rattle.core.specs.Ptr.{points_to}
use Rattle.core.proofs.atomic.Steps.{Ptr-Good}
use Rattle.core.proofs.cell.Inside.{Good}
use Rattle.std_alloc.proofs.BoxSteps.Form.{Bx}
use Rattle.std_alloc.proofs.ResultValues.{and_tt}
use Rattle.std_alloc.specs.Box.Ownership.{box_owns}
use Rattle.std_heap.specs.contracts.Global as heap
use Rattle.std_heap.specs.contracts.GlobalAllocator.TheImpl.{ghosts, dict}
use Rattle.std_heap.proofs.Global.TheLaws as heap_laws
use Rattle.hidstack.specs.Held.{block_right, owned_box}
use Rattle.hidstack.specs.contracts.address.Address as address
use Rattle.hidstack.specs.contracts.owner.Owner as owner

abbrev pub Heap : RattleType
Heap = heap.the_row

-- `Global` as a type argument
abbrev pub Passed : RattleType
Passed = arg (bare (layout Heap)) no Heap

abbrev pub passed_laws : Laws Passed
passed_laws = arg_laws (bare (layout Heap)) no Heap heap_laws.the_row_laws refl

-- it needs no drop
abbrev pub undropped : Dict
undropped = impl ("hidstack::Destruct++none::drop" ∷ []) (tcons (layout Passed) tnil) dnil

-- a box of such values in the C library's heap
abbrev pub on_heap : (T : RattleType) → Laws T → Bx
on_heap T L = record { row = T; laws = L; al = record { row = Passed; laws = passed_laws; g = ghosts; d = dict; drops = undropped } }

abbrev pub At : RattleType → RattleType
At R = address.the_row R

abbrev pub OwnerAt : RattleType → RattleType
OwnerAt R = owner.the_row R

-- a struct of one field
abbrev pub alone : Val → Val
alone v = vstruct (vcons v vnil)

pub address_good : (R : RattleType) (p : Ptr) → Good (layout (At R)) (alone (ptr_val p))
address_good R p = (and_tt (has_ty ty_ptr (ptr_val p)) (Ptr-Good p).0, ((Ptr-Good p).1, tt))

pub owner_good : (R : RattleType) (p : Ptr) → Good (layout (OwnerAt R)) (alone (ptr_val p))
owner_good R p = (and_tt (has_ty ty_ptr (ptr_val p)) (Ptr-Good p).0, ((Ptr-Good p).1, tt))

-- the start of a block of the heap may be compared with null
pub tested : {M : Type 1} {𝓤 : Ura M} (𝓛 : Logic 𝓤) (R : RattleType) (p : Ptr) (x : R.Denot)
    → ent 𝓤 (sem 𝓛 (box_owns block_right R p x)) (guard 𝓤 (Testable p) (sem 𝓛 (box_owns block_right R p x)))
tested {𝓤 = 𝓤} 𝓛 R p x =
    let block = bare (lone R.mir) in
    let right = snd∗ 𝓤 (sem 𝓛 (points_to R p x)) (sem 𝓛 (block_right block p)) in
    fact_use 𝓤 (Testable p) (via 𝓤 _ right (dealloc_token-Testable 𝓛 (record { memory = record { seal = tt } }) block p))
    (guard_i 𝓤 (Testable p) (sem 𝓛 (box_owns block_right R p x)))

module _ {M : Type 1} {𝓤 : Ura M} {𝓛 : Logic 𝓤} {K : Type 0} {Γ : List (Item 𝓤)} {G : Goal 𝓤 𝓛.H} where
  pub address_in : K → (R : RattleType) (p : Ptr) (x : R.Denot)
      → Step K 𝓛 (‵ ((At R).own_val (record { at = p; value = x }) (alone (ptr_val p) ∷ [])) ∷ Γ) G (‵ (box_owns block_right R p x) ∷ Γ) G
  address_in t R p x = step (λ s. let v : Val = alone (ptr_val p) in
      nothing t $ feq_i t (List Val) (ptr_val p ∷ []) (ptr_val p ∷ []) refl $ fjoin t $ feq_i t (List Val) (v ∷ []) (v ∷ []) refl $ fjoin t $
      fpack t (Valss (RawPtr ∷ [])) (within (shape (address.the_type R)) (p, tt) (v ∷ [])) (ptr_val p ∷ [], tt) $ fjoin t $ s)

  pub address_out : K → (R : RattleType) (d : (At R).Denot) (vs : List Val)
      → (vs ≡ alone (ptr_val d.at) ∷ [] → Seq K 𝓛 (‵ (box_owns block_right R d.at d.value) ∷ Γ) G) → Seq K 𝓛 (‵ ((At R).own_val d vs) ∷ Γ) G
  address_out t R d vs k =
      fsplit t $ fpick t (λ vss. fsplit t $ feq_l t (λ ev. fsplit t $ feq_l t (λ ep. drop t $ k
      (subst (λ (ps : List Val). vs ≡ vstruct (of_list (ps ++ [])) ∷ []) ep ev))))

  pub owner_in : K → (R : RattleType) (p : Ptr) (x : Option R.Denot)
      → Step K 𝓛 (‵ ((OwnerAt R).own_val (record { at = p; kept = x }) (alone (ptr_val p) ∷ [])) ∷ Γ) G (‵ (owned_box R p x) ∷ Γ) G
  owner_in t R p x = step (λ s. let v : Val = alone (ptr_val p) in
      nothing t $ feq_i t (List Val) (ptr_val p ∷ []) (ptr_val p ∷ []) refl $ fjoin t $ feq_i t (List Val) (v ∷ []) (v ∷ []) refl $ fjoin t $
      fpack t (Valss (RawPtr ∷ [])) (within (shape (owner.the_type R)) (p, tt) (v ∷ [])) (ptr_val p ∷ [], tt) $ fjoin t $ s)

  pub owner_out : K → (R : RattleType) (d : (OwnerAt R).Denot) (vs : List Val)
      → (vs ≡ alone (ptr_val d.at) ∷ [] → Seq K 𝓛 (‵ (owned_box R d.at d.kept) ∷ Γ) G) → Seq K 𝓛 (‵ ((OwnerAt R).own_val d vs) ∷ Γ) G
  owner_out t R d vs k =
      fsplit t $ fpick t (λ vss. fsplit t $ feq_l t (λ ev. fsplit t $ feq_l t (λ ep. drop t $ k
      (subst (λ (ps : List Val). vs ≡ vstruct (of_list (ps ++ [])) ∷ []) ep ev))))

  -- null, or a block that may be compared with null
  pub held_out : K → (R : RattleType) (p : Ptr) (x : Option R.Denot)
      → (p ≡ null_ptr → x ≡ None → Seq K 𝓛 Γ G)
      → ((b o : ℕ) (y : R.Denot) → p ≡ block_ptr b o → x ≡ Some y → Testable (block_ptr b o)
      → Seq K 𝓛 (‵ (box_owns block_right R (block_ptr b o) y) ∷ Γ) G)
      → Seq K 𝓛 (‵ (owned_box R p x) ∷ Γ) G
  held_out t R p None none one = feq_l t (λ e. none e refl)
  held_out t R p (Some y) none one =
      use1 𝓛 (given (Testable p) (‵ (box_owns block_right R p y))) (tested 𝓛 R p y) $ learn t (λ ok.
      in_a_block t p (λ q. box_owns block_right R q y) (fst∗ 𝓤 (never 𝓤) (sem 𝓛 (block_right (bare (lone R.mir)) null_ptr))) (λ b o e. one b o y e refl (subst Testable e ok)))
