-- The globals that open Pushes saved.
use Rattle.std.proofs.Common.{◌≡◌, ◌≢◌, ℕ, List, [], ◌∷◌, ◌++◌, map, refl, sym, ◌∙◌, ap, arith}
use Rattle.std.proofs.lemmas.Grind.{common_steps}
use Rattle.std.proofs.lemmas.Bool.Decides.{nat_tests}
use Rattle.hid_items.specs.ItemEncoding.{prefix_of}
use Rattle.hid_report_descriptor.specs.declared.globals.Globals.{Globals}
use Rattle.hid_report_descriptor.specs.declared.globals.SavedGlobals.{SavedGlobals}
use Rattle.hid_report_descriptor.specs.Items.{EncodedItem, PUSH, POP, USAGE_PAGE, LOGICAL_MINIMUM, LOGICAL_MAXIMUM, REPORT_SIZE, REPORT_ID, REPORT_COUNT}
use Rattle.hid_report_descriptor.specs.Matching.{Placed, open_items}
use Rattle.hid_report_descriptor.specs.Globals.{look_back, in_force, open_pushes}
use Rattle.hid_report_descriptor.specs.State.{globals_at, AreGlobals}
use Rattle.hid_report_descriptor.proofs.Matching.{look_back_matched, open_items_cut}

-- the last of a list's images is that of its last element
pub record LastOf {A B : Type 0} (f : A → B) (xs : List A) (ys : List B) (z : B) : Type 0 where
  pub front : List A
  pub last : A
  pub whole : xs ≡ front ++ last ∷ []
  pub images : map f front ≡ ys
  pub image : f last ≡ z

last_under : {A B : Type 0} (f : A → B) (x : A) (xs : List A) (y : B) (ys : List B) (z : B) → f x ≡ y → LastOf f xs ys z → LastOf f (x ∷ xs) (y ∷ ys) z
last_under f x xs y ys z e l = record { front = x ∷ l.front; last = l.last; whole = ap (λ r. x ∷ r) l.whole; images = cc; image = l.image }

pub last_of : {A B : Type 0} (f : A → B) (xs : List A) (ys : List B) (z : B) → map f xs ≡ ys ++ z ∷ [] → LastOf f xs ys z
last_of f [] [] z e = absurd (cc)
last_of f [] (y ∷ ys) z e = absurd (cc)
last_of f (x ∷ []) [] z e = record { front = []; last = x; whole = refl; images = refl; image = cc }
last_of f (x ∷ w ∷ xs) [] z e = absurd (cc)
last_of f (x ∷ xs) (y ∷ ys) z e = last_under f x xs y ys z (cc) (last_of f xs ys z (cc))

-- after a Pop each global is as at its Push
pub in_force_matched : (prefix : ℕ) (before : List EncodedItem) (item : EncodedItem) (front : List Placed) (p : Placed) → prefix ≢ POP → prefix_of item ≡ POP → open_pushes before ≡ front ++ p ∷ [] → in_force prefix (item ∷ before) ≡ in_force prefix (p.0)
in_force_matched prefix before item front p d h e =
    let q : look_back prefix 1 before ≡ look_back prefix 0 (p.0) = look_back_matched prefix 0 before front p e in
    grind (arith, common_steps, nat_tests)

globals_matched : (before : List EncodedItem) (item : EncodedItem) (front : List Placed) (p : Placed) → prefix_of item ≡ POP → open_pushes before ≡ front ++ p ∷ [] → globals_at (item ∷ before) ≡ globals_at (p.0)
globals_matched before item front p h e =
    let same : (prefix : ℕ) → prefix ≢ POP → in_force prefix (item ∷ before) ≡ in_force prefix (p.0) = λ prefix d. in_force_matched prefix before item front p d h e in
    let e1 : in_force USAGE_PAGE (item ∷ before) ≡ in_force USAGE_PAGE (p.0) = same USAGE_PAGE (λ d. absurd (omega arith)) in
    let e2 : in_force LOGICAL_MINIMUM (item ∷ before) ≡ in_force LOGICAL_MINIMUM (p.0) = same LOGICAL_MINIMUM (λ d. absurd (omega arith)) in
    let e3 : in_force LOGICAL_MAXIMUM (item ∷ before) ≡ in_force LOGICAL_MAXIMUM (p.0) = same LOGICAL_MAXIMUM (λ d. absurd (omega arith)) in
    let e4 : in_force REPORT_SIZE (item ∷ before) ≡ in_force REPORT_SIZE (p.0) = same REPORT_SIZE (λ d. absurd (omega arith)) in
    let e5 : in_force REPORT_COUNT (item ∷ before) ≡ in_force REPORT_COUNT (p.0) = same REPORT_COUNT (λ d. absurd (omega arith)) in
    let e6 : in_force REPORT_ID (item ∷ before) ≡ in_force REPORT_ID (p.0) = same REPORT_ID (λ d. absurd (omega arith)) in
    cc

pushes_matched : (before : List EncodedItem) (item : EncodedItem) (front : List Placed) (p : Placed) → prefix_of item ≡ POP → open_pushes before ≡ front ++ p ∷ [] → open_pushes (item ∷ before) ≡ front
pushes_matched before item front p h e =
    let q : open_items PUSH POP 1 before ≡ front = open_items_cut PUSH POP (λ d. absurd (omega arith)) 0 before front p e in
    grind (arith, common_steps, nat_tests)

-- a Pop takes the globals that were saved last
pub globals_popped : (before : List EncodedItem) (item : EncodedItem) (old new : SavedGlobals) → prefix_of item ≡ POP → AreGlobals before old → old.saved.items ≡ new.saved.items ++ new.now ∷ [] → AreGlobals (item ∷ before) new
globals_popped before item old new h is_old e =
    let f : Placed → Globals = λ push. globals_at (push.0) in
    let l : LastOf f (open_pushes before) new.saved.items new.now = last_of f (open_pushes before) new.saved.items new.now (sym is_old.at_pushes ∙ e) in
    record {
      in_force_now = sym l.image ∙ sym (globals_matched before item l.front l.last h l.whole);
      at_pushes = sym l.images ∙ ap (map f) (sym (pushes_matched before item l.front l.last h l.whole));
    }
