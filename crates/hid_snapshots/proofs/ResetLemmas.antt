-- What is kept of the controls, made what it was at first in the same room.
use Rattle.std.proofs.Common.{◌≡◌, ℕ, Bool, false, nat_lt, zero, suc, ◌+◌, ◌<◌, List, [], ◌∷◌, ◌++◌, length, map, take, drop, replicate, Some, ℤ, pos, negsuc, refl, ap, ◌∙◌, sym, arith}
use Rattle.std.specs.List.{slice_get, slice_set}
use Rattle.std.proofs.lemmas.Bool.Decides.{nat_tests}
use Rattle.hid_layout.specs.declared.control.Controls.{Controls}
use Rattle.hid_layout.specs.Controls.{Form, Item, controls_of_form, form_at}
use Rattle.hid_layout.specs.declared.control.Controls.TheVariants as head
use Rattle.hid_layout.specs.declared.control.ControlKind.TheVariants.{Switch, Value, NullValue, Relative}
use Rattle.hid_snapshots.specs.declared.control_state.ControlState.{ControlState}
use Rattle.hid_snapshots.specs.declared.control_state.ControlState.TheVariants.{Motions}
use Rattle.hid_snapshots.specs.ControlStates.{blank, blank_state, switch_count}
use Rattle.hid_snapshots.specs.Parts.{clamp, shown_state, blank_parts}
use Rattle.hid_snapshots.proofs.BlankLemmas.{none_pressed}
use Rattle.hid_snapshots.proofs.FillLemmas.{fill_next}
use Rattle.hid_snapshots.proofs.ItemLemmas.{got, form_at-is}
use Rattle.hid_snapshots.proofs.ListLemmas.{map_at}

no_motion : (m : ℤ) → clamp (pos 0) (pos 0) m ≡ pos 0
no_motion (pos n) = grind (arith, nat_tests)
no_motion (negsuc n) = grind (arith, nat_tests)

-- motions clamped between 0 and 0
pub none_left : (ms : List ℤ) → map (clamp (pos 0) (pos 0)) ms ≡ replicate (length ms) (pos 0)
none_left [] = refl
none_left (m ∷ ms) = ap (λ n. n ∷ map (clamp (pos 0) (pos 0)) ms) (no_motion m) ∙ ap (λ t. pos 0 ∷ t) (none_left ms)

pub same_at : {A : Type 0} (n j : ℕ) (v : A) → j < n → slice_get (replicate n v) j ≡ Some v
same_at zero j v within = absurd (omega arith)
same_at (suc n) zero v within = refl
same_at (suc n) (suc j) v within = same_at n j v (omega arith)

-- one value more is filled in
pub fill_more : {A : Type 0} (start now : List A) (j : ℕ) (v : A) → now ≡ take j (replicate (length start) v) ++ drop j start → j < length start
    → slice_set now j v ≡ take (j + 1) (replicate (length start) v) ++ drop (j + 1) start
fill_more start now j v so_far within =
    ap (λ xs. slice_set xs j v) so_far ∙ fill_next (replicate (length start) v) start j v (same_at (length start) j v within) within

none_over : (elements n : ℕ) → (let p : List Bool = replicate n false in nat_lt elements (switch_count p) ≡ false)
none_over elements n = rw (none_pressed n) (grind (arith, nat_tests))

-- where nothing has moved a blank control state is shown as it is
pub blank_shown : (controls : Controls) (state : ControlState) → state ≡ blank_state controls
    → ((ms : List ℤ) → state ≡ Motions ms → ⊥) → state ≡ shown_state controls (blank_state controls)
blank_shown head.None state is still = is
blank_shown (head.Elements Switch least greatest n) state is still = is
blank_shown (head.Elements Value least greatest n) state is still = is
blank_shown (head.Elements NullValue least greatest n) state is still = is
blank_shown (head.Elements Relative least greatest n) state is still = absurd (still (replicate n (pos 0)) is)
blank_shown (head.Keys elements rolls n) state is still = is ∙ rw (none_over elements n) refl

pub ruleset shown_blank = (blank_shown)

-- one part more is made again
pub reset_next : (items : List Item) (start now : List ControlState) (i : ℕ) (new : ControlState)
    → length start ≡ length items → now ≡ take i (blank_parts items) ++ drop i start
    → i < length items
    → new ≡ shown_state (controls_of_form (form_at items i)) (blank_state (controls_of_form (form_at items i)))
    → slice_set now i new ≡ take (i + 1) (blank_parts items) ++ drop (i + 1) start
reset_next items start now i new long so_far within is =
    let item = got items i within in
    let target : slice_get (blank_parts items) i
    ≡ Some (shown_state (controls_of_form item.0.form) (blank_state (controls_of_form item.0.form))) =
    map_at _ items i item.0 item.1 in
    let made : new ≡ shown_state (controls_of_form item.0.form) (blank_state (controls_of_form item.0.form)) =
    is ∙ ap (λ (f : Form). shown_state (controls_of_form f) (blank_state (controls_of_form f)))
    (form_at-is items i item.0 item.1) in
    ap (λ xs. slice_set xs i new) so_far ∙ fill_next (blank_parts items) start i new (target ∙ ap Some (sym made)) (omega arith)

-- one control state of a view more is made again
pub blank_next : (items : List Item) (start now : List ControlState) (i : ℕ) (new : ControlState)
    → length start ≡ length items → now ≡ take i (blank items) ++ drop i start
    → i < length items
    → new ≡ blank_state (controls_of_form (form_at items i))
    → slice_set now i new ≡ take (i + 1) (blank items) ++ drop (i + 1) start
blank_next items start now i new long so_far within is =
    let item = got items i within in
    let target : slice_get (blank items) i ≡ Some (blank_state (controls_of_form item.0.form)) =
    map_at _ items i item.0 item.1 in
    let made : new ≡ blank_state (controls_of_form item.0.form) =
    is ∙ ap (λ (f : Form). blank_state (controls_of_form f)) (form_at-is items i item.0 item.1) in
    ap (λ xs. slice_set xs i new) so_far ∙ fill_next (blank items) start i new (target ∙ ap Some (sym made)) (omega arith)
