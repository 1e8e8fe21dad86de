-- Descriptors one after another (USB 2.0, 9.5): where the first one ends, and the first of a kind.
use Rattle.std.proofs.Common.{◌≡◌, ◌↔◌, ℕ, refl, sym, ◌∙◌, ap, subst, List, [], ◌∷◌, ◌++◌, length, take, suc, true, ◌==◌, ◌<◌, ◌≤◌, Option, Some, None, arith}
use Rattle.std.proofs.lemmas.List.{append_cancel_left, append-nil}
use Rattle.std.proofs.lemmas.List.Folds.{concat-append}
use Rattle.std.proofs.lemmas.Bool.Decides.{nat_tests}
use Rattle.std.proofs.Math.Seq.{take-append_seam}
use Rattle.std.specs.List.{concat}
use Rattle.std.specs.Prelude.{find, slice_index, option_and_then}
use Rattle.usb_control.specs.Descriptors.{IsDescriptor, AreDescriptors, IsWalk, HasWalk, ReadsConfig, configuration_of, first_type, info_of, interface_info, interface_part, is_hid, is_hid_interface, is_interrupt_in, report_length}

same_length : (d e xs ys : List ℕ) → IsDescriptor d → IsDescriptor e → d ++ xs ≡ e ++ ys → length d ≡ length e
same_length [] e xs ys is_d is_e h = absurd is_d
same_length (x ∷ d) [] xs ys is_d is_e h = absurd is_e
same_length (x ∷ d) (y ∷ e) xs ys is_d is_e h =
    let same : x ≡ y = cc in
    is_d.1 ∙ same ∙ sym is_e.1

same_start : (d e xs ys : List ℕ) → length d ≡ length e → d ++ xs ≡ e ++ ys → d ≡ e
same_start d e xs ys same h =
    sym (take-append_seam d xs) ∙ ap (λ (l : List ℕ). take (length d) l) h ∙ ap (λ (n : ℕ). take n (e ++ ys)) same ∙ take-append_seam e ys

-- bytes begin with one descriptor at most
pub record SameStart (d e xs ys : List ℕ) : Type 0 where
  pub first : d ≡ e
  pub rest : xs ≡ ys

pub one_start : (d e xs ys : List ℕ) → IsDescriptor d → IsDescriptor e → d ++ xs ≡ e ++ ys → SameStart d e xs ys
one_start d e xs ys is_d is_e h =
    let same = same_start d e xs ys (same_length d e xs ys is_d is_e h) h in
    record { first = same; rest = append_cancel_left d xs ys (h ∙ ap (λ (l : List ℕ). l ++ ys) (sym same)) }

-- the walk over what is after the first descriptor
pub record GoesOn (d behind : List ℕ) (ds : List (List ℕ)) : Type 0 where
  pub rest : List (List ℕ)
  pub split : ds ≡ d ∷ rest
  pub walk : IsWalk behind rest

not_empty : (d xs : List ℕ) → IsDescriptor d → ¬ (d ++ xs ≡ [])
not_empty [] xs is h = absurd is
not_empty (x ∷ d) xs is h = cc

pub goes_on : (d behind : List ℕ) (ds : List (List ℕ)) → IsDescriptor d → IsWalk (d ++ behind) ds → GoesOn d behind ds
goes_on d behind [] is walk = absurd (not_empty d behind is (sym walk.whole))
goes_on d behind (e ∷ es) is walk =
    let same = one_start e d (concat es) behind walk.each.0 is walk.whole in
    record {
      rest = es;
      split = ap (λ (x : List ℕ). x ∷ es) same.first;
      walk = record { each = walk.each.1; whole = same.rest };
    }

pub goes_back : (d behind : List ℕ) (ds : List (List ℕ)) → IsDescriptor d → IsWalk behind ds → IsWalk (d ++ behind) (d ∷ ds)
goes_back d behind ds is walk = record { each = (is, walk.each); whole = ap (λ (xs : List ℕ). d ++ xs) walk.whole }

-- bytes are descriptors exactly where those after the first one are
pub over : (rest d behind : List ℕ) → IsDescriptor d → rest ≡ d ++ behind → HasWalk rest ↔ HasWalk behind
over rest d behind is e =
    subst (λ (xs : List ℕ). HasWalk xs ↔ HasWalk behind) (sym e) (
      λ (ds, walk). let h = goes_on d behind ds is walk in (h.rest, h.walk),
      λ (ds, walk). (d ∷ ds, goes_back d behind ds is walk),
    )

some_length : (n : ℕ) → ¬ ((suc n == 0) ≡ true)
some_length n e = grind (arith, nat_tests)

-- where no descriptor begins, only no bytes are descriptors
pub ended : (rest : List ℕ) (ds : List (List ℕ)) → ((d behind : List ℕ) → IsDescriptor d → rest ≡ d ++ behind → ⊥) → IsWalk rest ds → (ds ≡ []) × (rest ≡ [])
ended rest [] none walk = (refl, sym walk.whole)
ended rest (d ∷ ds) none walk = absurd (none d (concat ds) walk.each.0 (sym walk.whole))

pub is_ended : (rest : List ℕ) → ((d behind : List ℕ) → IsDescriptor d → rest ≡ d ++ behind → ⊥) → (HasWalk rest → (length rest == 0) ≡ true) × ((length rest == 0) ≡ true → HasWalk rest)
is_ended [] none = (λ walk. refl, λ e. ([], record { each = tt; whole = refl }))
is_ended (x ∷ xs) none = (λ (ds, walk). let e = (ended (x ∷ xs) ds none walk).1 in cc, λ e. absurd (some_length (length xs) e))

-- joined walks
each_append : (ds es : List (List ℕ)) → AreDescriptors ds → AreDescriptors es → AreDescriptors (ds ++ es)
each_append [] es h g = g
each_append (d ∷ ds) es h g = (h.0, each_append ds es h.1 g)

pub walk_append : (xs ys : List ℕ) (ds es : List (List ℕ)) → IsWalk xs ds → IsWalk ys es → IsWalk (xs ++ ys) (ds ++ es)
walk_append xs ys ds es h g = record {
  each = each_append ds es h.each g.each;
  whole = concat-append ds es ∙ ap (λ (l : List ℕ). l ++ concat es) h.whole ∙ ap (λ (l : List ℕ). xs ++ l) g.whole;
}

pub walk_of_one : (d : List ℕ) → IsDescriptor d → IsWalk d (d ∷ [])
walk_of_one d is = record { each = (is, tt); whole = append-nil d }

-- one byte is no descriptor
one_byte : (x : ℕ) (ds : List (List ℕ)) → ¬ IsWalk (x ∷ []) ds
one_byte x [] walk = let e = walk.whole in cc
one_byte x ([] ∷ ds) walk = absurd walk.each.0
one_byte x ((y ∷ []) ∷ ds) walk = omega (arith, walk.each.0.0, walk.each.0.1)
one_byte x ((y ∷ z ∷ body) ∷ ds) walk = let e = walk.whole in cc

-- under two bytes are no configuration
pub no_walk : (bytes : List ℕ) → length bytes < 2 → ¬ (HasWalk bytes × (9 ≤ slice_index bytes 0))
no_walk [] small (walk, first) = omega (arith, first)
no_walk (x ∷ []) small ((ds, walk), first) = one_byte x ds walk
no_walk (x ∷ y ∷ rest) small (walk, first) = omega (arith, small)

-- the type of the whole is the second byte
pub first_type_is : (bytes : List ℕ) (ds : List (List ℕ)) → IsWalk bytes ds → 9 ≤ slice_index bytes 0 → first_type ds ≡ slice_index bytes 1
first_type_is bytes [] walk first = subst (λ (xs : List ℕ). 9 ≤ slice_index xs 0 → first_type [] ≡ slice_index xs 1) walk.whole (λ wrong. omega (arith, wrong)) first
first_type_is bytes ([] ∷ ds) walk first = absurd walk.each.0
first_type_is bytes ((x ∷ []) ∷ ds) walk first = omega (arith, walk.each.0.0, walk.each.0.1)
first_type_is bytes ((x ∷ y ∷ body) ∷ ds) walk first = ap (λ (xs : List ℕ). slice_index xs 1) walk.whole

-- what is read of descriptors whose first HID interface was found
pub config_is : (ds : List (List ℕ)) (interface : List ℕ) → (first_type ds == 2) ≡ true → find is_hid_interface ds ≡ Some interface
    → configuration_of ds
    ≡ info_of interface (option_and_then report_length (find is_hid (interface_part ds)))
    (find is_interrupt_in (interface_part ds))
config_is ds interface type found =
    rw type (ap (λ (o : Option (List ℕ)). interface_info o (interface_part ds)) found)

-- descriptors of which something is read are what a host reads of their bytes
pub reads_info : (bytes : List ℕ) (ds : List (List ℕ)) (interface : List ℕ) (len : Option ℕ) (endpoint : Option (List ℕ)) → IsWalk bytes ds
    → 9 ≤ slice_index bytes 0 → configuration_of ds ≡ info_of interface len endpoint
    → ReadsConfig bytes (info_of interface len endpoint)
reads_info bytes ds interface None endpoint walk first is = (ds, walk, first, sym is)
reads_info bytes ds interface (Some n) None walk first is = (ds, walk, first, sym is)
reads_info bytes ds interface (Some n) (Some e) walk first is = (ds, walk, first, sym is)
