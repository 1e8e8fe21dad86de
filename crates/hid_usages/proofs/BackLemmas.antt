-- What leads from a view back to the initial one.
use Rattle.std.proofs.Common.{◌≡◌, ℕ, zero, suc, ◌+◌, ◌<◌, ◌≤◌, Bool, true, false, List, [], ◌∷◌, ◌++◌, length, replicate, Some, append-nil, refl, sym, ap, ◌∙◌, arith}
use Rattle.std.specs.List.{slice_get, zip}
use Rattle.hid_report_descriptor.specs.declared.usage.Usage.{Usage}
use Rattle.hid_layout.specs.declared.control.ControlKind.TheVariants.{Switch, Value, NullValue, Relative}
use Rattle.hid_layout.specs.Controls.{Form, NoControls, Elements, Keys, Item, form_at, controls_of_form, max_events}
use Rattle.hid_snapshots.specs.declared.control_state.ControlState.{ControlState}
use Rattle.hid_snapshots.specs.declared.control_state.ControlState.TheVariants.{Switches}
use Rattle.hid_snapshots.specs.declared.event.Event.{Event}
use Rattle.hid_snapshots.specs.ControlStates.{blank, blank_state, FitsShown, FitsView, HasRoom, InView}
use Rattle.hid_snapshots.specs.Events.{control_at, element_list_events, switch_event, up_event, down_event, ups, usages_of, key_usages, change_events}
use Rattle.hid_snapshots.specs.Views.{changes_between}
use Rattle.hid_snapshots.proofs.BlankLemmas.{blank_in_view, blank_room, suits_all}
use Rattle.hid_snapshots.proofs.ItemLemmas.{got, form_at-is}
use Rattle.hid_snapshots.proofs.ListLemmas.{map_at}
use Rattle.hid_usages.specs.Dropping.{drops_from}
use Rattle.hid_usages.proofs.DropLemmas.{drops_are, drops_few}
use Rattle.hid_usages.proofs.ViewLemmas.{changes_few}

-- a flag list of which none is set is one of any length
zip_none : (bs : List Bool) (m n : ℕ) → length bs ≤ m → length bs ≤ n → zip bs (replicate m false) ≡ zip bs (replicate n false)
zip_none [] m n h k = refl
zip_none (b ∷ bs) zero n h k = absurd (omega arith)
zip_none (b ∷ bs) (suc m) zero h k = absurd (omega arith)
zip_none (b ∷ bs) (suc m) (suc n) h k = ap (λ (t : List (Bool × Bool)). (b, false) ∷ t) (zip_none bs m n (omega arith) (omega arith))

ups_none : (i : ℕ) (us : List Usage) (bs named : List Bool) (n : ℕ) → named ≡ replicate (length named) false → length bs ≤ length named → length bs ≡ n → ups i us bs (replicate n false) ≡ ups i us bs named
ups_none i us bs named n none within same =
    ap (λ (ps : List (Bool × Bool)). element_list_events
    (λ j u (p : Bool × Bool). up_event (control_at i j) u p.0 p.1) 0 us ps)
    (zip_none bs n (length named) (omega arith) within)
    ∙ ap (ups i us bs) (sym none)

downs_none : (i j : ℕ) (us : List Usage) (bs : List Bool) (n : ℕ)
    → element_list_events (λ k u (p : Bool × Bool). down_event (control_at i k) u p.0 p.1) j us (zip bs (replicate n false))
    ≡ []
downs_none i j [] bs n = refl
downs_none i j (u ∷ us) [] n = refl
downs_none i j (u ∷ us) (b ∷ bs) zero = refl
downs_none i j (u ∷ us) (true ∷ bs) (suc n) = downs_none i (j + 1) us bs n
downs_none i j (u ∷ us) (false ∷ bs) (suc n) = downs_none i (j + 1) us bs n

switches_none : (i j : ℕ) (us : List Usage) (bs : List Bool) (n : ℕ)
    → element_list_events (λ k u (p : Bool × Bool). switch_event (control_at i k) u p.0 p.1) j us (zip bs (replicate n false))
    ≡ element_list_events (λ k u (p : Bool × Bool). up_event (control_at i k) u p.0 p.1) j us (zip bs (replicate n false))
switches_none i j [] bs n = refl
switches_none i j (u ∷ us) [] n = refl
switches_none i j (u ∷ us) (b ∷ bs) zero = refl
switches_none i j (u ∷ us) (true ∷ bs) (suc n) = ap (λ (t : List Event). up_event (control_at i j) u true false ++ t) (switches_none i (j + 1) us bs n)
switches_none i j (u ∷ us) (false ∷ bs) (suc n) = switches_none i (j + 1) us bs n

-- pressed switches and keys are released
pub pressed_back : (i : ℕ) (form : Form) (bs named : List Bool) → HasRoom (controls_of_form form) (Switches bs)
    → named ≡ replicate (length named) false → length bs ≤ length named
    → change_events i form (Switches bs) (blank_state (controls_of_form form)) ≡ ups i (usages_of form) bs named
pressed_back i NoControls bs named room none within = absurd room
pressed_back i (Elements Switch least greatest us) bs named room none within = switches_none i 0 us bs (length us) ∙ ups_none i us bs named (length us) none within room
pressed_back i (Elements Value least greatest us) bs named room none within = absurd room
pressed_back i (Elements NullValue least greatest us) bs named room none within = absurd room
pressed_back i (Elements Relative least greatest us) bs named room none within = absurd room
pressed_back i (Keys elements rolls keys) bs named room none within =
    ap (λ (es : List Event). ups i (key_usages keys) bs (replicate (length keys) false) ++ es) (downs_none i 0 (key_usages keys) bs (length keys))
    ∙ append-nil (ups i (key_usages keys) bs (replicate (length keys) false))
    ∙ ups_none i (key_usages keys) bs named (length keys) none within room

pub blank_there : (items : List Item) (i : ℕ) → i < length items
    → slice_get (blank items) i ≡ Some (blank_state (controls_of_form (form_at items i)))
blank_there items i within =
    let item = got items i within in
    map_at (λ (it : Item). blank_state (controls_of_form it.form)) items i item.0 item.1
    ∙ ap (λ (f : Form). Some (blank_state (controls_of_form f))) (sym (form_at-is items i item.0 item.1))

pub blank_view : (items : List Item) → FitsView items (blank items)
blank_view items =
    suits_all InView (λ item. blank_state (controls_of_form item.form)) items
    (λ i item h. (blank_room item.form, blank_in_view item.form))

pub changes_back_few : (items : List Item) (states : List ControlState) → FitsView items states
    → length (changes_between items states (blank items)) ≤ max_events items
changes_back_few items states fits = changes_few 0 items states (blank items) fits (blank_view items)

pub drops_back_few : (items : List Item) (r : ℕ) (states parts : List ControlState) → FitsView items states
    → FitsShown items parts → length (drops_from 0 r items states (blank items) parts) ≤ max_events items
drops_back_few items r states parts fits shown = drops_few 0 r items states (blank items) parts fits (blank_view items) shown

pub ruleset few_back = (changes_back_few)

pub ruleset drops_back = (drops_are, drops_back_few)
