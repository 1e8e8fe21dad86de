use Rattle.std.proofs.Common.{◌≡◌, ℕ, ◌∙◌, List, get_or, pos, to_z, of_z, w64, sym, ap, rules, arith}
use Rattle.std.proofs.lemmas.Int.{to_z-of_z}
use Rattle.std.proofs.lemmas.Option.{unwrap_or-slice_get}
use Rattle.hid_snapshots.specs.declared.control_state.ControlState.{ControlState}
use Rattle.hid_snapshots.specs.declared.control_state.ControlState.TheVariants.{Absent}
use Rattle.hid_snapshots.specs.Snapshots.{state_at, motion_in}
use Rattle.hid_snapshots.proofs.shown.Shown.motion.Goals as goal

motion_there : (parts states : List ControlState) (i j : ℕ) (state : ControlState) → states ≡ parts
    → state ≡ get_or states i Absent → motion_in state j ≡ motion_in (state_at parts i) j
motion_there parts states i j state same is =
    ap (λ (x : ControlState). motion_in x j)
    (is ∙ ap (λ (l : List ControlState). get_or l i Absent) same ∙ sym (unwrap_or-slice_get parts i Absent))

pub returns-in-Some-Motions : goal.returns-in-Some-Motions
returns-in-Some-Motions c =
    let number : to_z w64 (of_z w64 c.get_or_zero.result) ≡ c.get_or_zero.result = to_z-of_z w64 c.get_or_zero.result (omega (arith, c.get_or_zero.type_inv)) in
    number ∙ c.get_or_zero.ensures
    ∙ motion_there c.args.self.now c.deref.result.now c.args.control.item c.args.control.index _ (c.deref.ensures.value ∙ c.self.view_is)
    (sym c.in-Some-Motions.field-0-is ∙ c.in-Some-Motions.ensures.lookup.4 (omega arith) Absent)

pub returns-in_default : goal.returns-in_default
returns-in_default c =
    let told = rw c.in_default.is at c.get.ensures.lookup in
    let none : pos 0 ≡ motion_in c.in_default.field-0.now c.args.control.index = search rules in
    none ∙ motion_there c.args.self.now c.deref.result.now c.args.control.item c.args.control.index c.in_default.field-0.now (c.deref.ensures.value ∙ c.self.view_is) (told.4 (omega arith) Absent)

pub returns-in_default-2 : goal.returns-in_default-2
returns-in_default-2 c =
    let told = rw c.in_default.is at c.get.ensures.lookup in
    motion_there c.args.self.now c.deref.result.now c.args.control.item c.args.control.index Absent
    (c.deref.ensures.value ∙ c.self.view_is) (told.4 (omega arith) Absent)
