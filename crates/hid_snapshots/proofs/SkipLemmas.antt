-- What an item of another report leaves as it was.
use Rattle.std.proofs.Common.{◌≡◌, ℕ, ◌<◌, Bool, true, false, List, ◌++◌, length, take, drop, get_or, Some, refl, sym, ◌∙◌, arith}
use Rattle.std.specs.List.{list_any}
use Rattle.std.proofs.lemmas.Option.{slice_get_within, slice_get-get_or}
use Rattle.hid_layout.specs.Layout.{Contents}
use Rattle.hid_layout.specs.Reports.{IsLayout}
use Rattle.hid_layout.specs.Controls.{Item, items_of}
use Rattle.hid_snapshots.specs.declared.control_state.ControlState.{ControlState}
use Rattle.hid_snapshots.specs.Parts.{IsInput, is_of, item_at, by_item, part_shown, without_motion_of, calls_for}
use Rattle.hid_snapshots.proofs.FillLemmas.{any_from_miss}
use Rattle.hid_snapshots.proofs.ItemLemmas.{got, items_of-length, set_same}
use Rattle.hid_snapshots.proofs.PartLemmas.{show_next, of_report, called_there}
use Rattle.hid_snapshots.proofs.PlanLemmas.{Skips}

-- of an item of another report f leaves the second control state
abbrev Leaves : Contents → ℕ → (Item → ControlState → ControlState → ControlState) → Type 0
Leaves layout r f =
    (i : ℕ) → is_of r (item_at (items_of layout) i) ≡ false → (a b : ControlState)
    → f (item_at (items_of layout) i) a b ≡ b

skips : (layout : Contents) (r : ℕ) (f : Item → ControlState → ControlState → ControlState)
    (states start now : List ControlState) → IsLayout layout → IsInput layout r
    → length states ≡ length (items_of layout) → length start ≡ length (items_of layout)
    → length now ≡ length start → Leaves layout r f → Skips layout r (λ i. now ≡ take i (by_item f (items_of layout) states start) ++ drop i start)
skips layout r f states start now laid input lc ls ln leaves i item listed other so_far =
    let within : i < length (items_of layout) = omega (arith, items_of-length layout laid, slice_get_within layout.items i item listed) in
    let state = got states i (omega arith) in
    let part = got now i (omega arith) in
    let is : part.0 ≡ get_or now i part.0 = let e : Some part.0 ≡ Some (get_or now i part.0) = sym part.1 ∙ slice_get-get_or now i part.0 (omega arith) in cc in
    let of_other = sym (of_report layout laid i r item listed input) ∙ other in
    let same : part.0 ≡ f (item_at (items_of layout) i) state.0 (get_or now i part.0) = is ∙ sym (leaves i of_other state.0 (get_or now i part.0)) in
    sym (set_same now i part.0 part.1) ∙ show_next f (items_of layout) states start now i state.0 part.0 part.0 lc ls so_far within state.1 ln same

pub shown_skips : (layout : Contents) (r : ℕ) (still : Bool) (states start now : List ControlState) → IsLayout layout
    → IsInput layout r → length states ≡ length (items_of layout) → length start ≡ length (items_of layout)
    → length now ≡ length start
    → Skips layout r (λ i. now ≡ take i (by_item (part_shown still r) (items_of layout) states start) ++ drop i start)
shown_skips layout r still states start now laid input lc ls ln =
    skips layout r (part_shown still r) states start now laid input lc ls ln (λ i other a b. leaves still (item_at (items_of layout) i) other a b)
  where
    leaves : (still : Bool) (item : Item) → is_of r item ≡ false → (a b : ControlState)
        → part_shown still r item a b ≡ b
    leaves true item other a b = rw other refl
    leaves false item other a b = rw other refl

pub taken_skips : (layout : Contents) (r : ℕ) (parts start now : List ControlState) → IsLayout layout
    → IsInput layout r → length parts ≡ length (items_of layout) → length start ≡ length (items_of layout)
    → length now ≡ length start
    → Skips layout r
    (λ i. now ≡ take i (by_item (λ item part state. without_motion_of r item state part) (items_of layout) parts start)
    ++ drop i start)
taken_skips layout r parts start now laid input lp ls ln =
    skips layout r (λ item part state. without_motion_of r item state part) parts start now laid input lp ls ln
    (λ i other a b. rw other refl)

pub changed_skips : (layout : Contents) (r : ℕ) (states parts : List ControlState) (answer : Bool) → IsLayout layout
    → IsInput layout r → length states ≡ length (items_of layout) → length parts ≡ length (items_of layout)
    → Skips layout r (λ i. answer ≡ list_any (λ called. called) (drop i (by_item (calls_for r) (items_of layout) states parts)))
changed_skips layout r states parts answer laid input lc lp i item listed other so_far =
    let within : i < length (items_of layout) = omega (arith, items_of-length layout laid, slice_get_within layout.items i item listed) in
    let state = got states i (omega arith) in
    let part = got parts i (omega arith) in
    let of_other : is_of r (item_at (items_of layout) i) ≡ false = sym (of_report layout laid i r item listed input) ∙ other in
    let none : calls_for r (item_at (items_of layout) i) state.0 part.0 ≡ false = rw of_other refl in
    let here = called_there (calls_for r) (items_of layout) states parts i state.0 part.0 lc lp within state.1 part.1 in
    so_far ∙ any_from_miss (λ called. called) (by_item (calls_for r) (items_of layout) states parts) i _ here none
