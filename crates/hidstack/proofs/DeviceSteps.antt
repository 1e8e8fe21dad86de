-- The machine value of a handle of a device, and what it owns. Assumes `Logic`.
use Rattle.std.proofs.Common.{◌≡◌, List, [], ◌∷◌, ◌++◌, refl, subst}
use seplogic.Ra.Ura.{Ura}
use mir.Syntax.{ty_ptr}
use mir.Val.{Val, vstruct, of_list, has_ty}
use types.Logic.{Logic}
use types.Kit.{Item, Goal, Seq, Step, step, ‵, ◌$◌, drop, fsplit, fjoin, fpick, fpack, feq_i, feq_l}
use denote.RattleType.{RattleType, Valss}
use denote.Builtin.{RawPtr}
use denote.Param.{layout}
use denote.RawPtr.{Ptr, ptr_val}
use denote.Steps.{nothing}
use denote.Struct.Struct.{within}
use denote.Struct.Owning.{shape}
use Rattle.std.specs.Prelude.{Option}
use Rattle.core.proofs.atomic.Steps.{Ptr-Good}
use Rattle.core.proofs.cell.Inside.{Good}
use Rattle.std_alloc.proofs.ResultValues.{and_tt}
use Rattle.hidstack.specs.Held.{owned_box}
use Rattle.hid_gadget.specs.contracts.gadget.Gadget as gadget
use Rattle.hidstack.specs.contracts.device_handle.DeviceHandle as handle
use Rattle.hidstack.proofs.Steps.{alone}

abbrev pub Gadget : RattleType
Gadget = gadget.the_row

abbrev pub DeviceHandle : RattleType
DeviceHandle = handle.the_row

pub device_good : (p : Ptr) → Good (layout DeviceHandle) (alone (ptr_val p))
device_good p = (and_tt (has_ty ty_ptr (ptr_val p)) (Ptr-Good p).0, ((Ptr-Good p).1, tt))

module _ {M : Type 1} {𝓤 : Ura M} {𝓛 : Logic 𝓤} {K : Type 0} {Γ : List (Item 𝓤)} {G : Goal 𝓤 𝓛.H} where
  pub device_in : K → (p : Ptr) (kept : Option Gadget.Denot)
      → Step K 𝓛 (‵ (DeviceHandle.own_val (record { at = p; kept = kept }) (alone (ptr_val p) ∷ [])) ∷ Γ) G
      (‵ (owned_box Gadget p kept) ∷ Γ) G
  device_in t p kept = step (λ s. let v : Val = alone (ptr_val p) in
      nothing t $ feq_i t (List Val) (ptr_val p ∷ []) (ptr_val p ∷ []) refl $ fjoin t $ feq_i t (List Val) (v ∷ []) (v ∷ []) refl $ fjoin t $
      fpack t (Valss (RawPtr ∷ [])) (within (shape handle.the_type) (p, tt) (v ∷ [])) (ptr_val p ∷ [], tt) $ fjoin t $ s)

  pub device_out : K → (d : DeviceHandle.Denot) (vs : List Val)
      → (vs ≡ alone (ptr_val d.at) ∷ [] → Seq K 𝓛 (‵ (owned_box Gadget d.at d.kept) ∷ Γ) G)
      → Seq K 𝓛 (‵ (DeviceHandle.own_val d vs) ∷ Γ) G
  device_out t d vs k =
      fsplit t $ fpick t (λ vss. fsplit t $ feq_l t (λ ev. fsplit t $ feq_l t (λ ep. drop t $ k
      (subst (λ (ps : List Val). vs ≡ vstruct (of_list (ps ++ [])) ∷ []) ep ev))))
