-- A device that is attached stands under its number, and the others stand where they stood.
use Rattle.std.proofs.Common.{◌≡◌, ◌++◌, ◌+◌, ◌-◌, ℕ, zero, suc, false, List, [], ◌∷◌, Some, length, eqb, refl, sym, ap, ◌∙◌, arith}
use Rattle.std.specs.List.{slice_get}
use Rattle.std.proofs.lemmas.Bool.Decides.{nat_tests}
use Rattle.hid_layout.specs.Layout.{Contents}
use Rattle.hid_device.specs.declared.config.Config.{Config}
use Rattle.hid_bus.specs.declared.start.Start.{Start}
use Rattle.hid_stack.specs.Attaching.{CanAttach, IsAttached, member_at_start}
use Rattle.hid_stack.specs.Members.{Member}
use Rattle.hid_stack.specs.Rig.{member_at}
use Rattle.hid_stack.proofs.Isolation.{no_zero, at_place}

still_at : (members more : List Member) (i : ℕ) (m : Member) → slice_get members i ≡ Some m → slice_get (members ++ more) i ≡ Some m
still_at [] more i m h = absurd (cc)
still_at (x ∷ members) more zero m h = h
still_at (x ∷ members) more (suc i) m h = still_at members more i m h

last_at : (members : List Member) (m : Member) → slice_get (members ++ m ∷ []) (length members) ≡ Some m
last_at [] m = refl
last_at (x ∷ members) m = last_at members m

pub stands_still : (members more : List Member) (dev : ℕ) (m : Member) → member_at members dev ≡ Some m → member_at (members ++ more) dev ≡ Some m
stands_still members more dev m h =
    let some = no_zero members dev m h in
    at_place (members ++ more) dev some ∙ still_at members more (dev - 1) m (sym (at_place members dev some) ∙ h)

pub some_number : (n : ℕ) → eqb (n + 1) 0 ≡ false
some_number n = grind (arith, nat_tests)

pub stands_last : (members : List Member) (m : Member) → member_at (members ++ m ∷ []) (length members + 1) ≡ Some m
stands_last members m =
    let back : length members + 1 - 1 ≡ length members = omega arith in
    at_place (members ++ m ∷ []) (length members + 1) (some_number (length members)) ∙ ap (slice_get (members ++ m ∷ [])) back ∙ last_at members m

pub is_attached : (config : Config) (descriptor : List ℕ) (start : Start) (members new : List Member) (dev : ℕ) (m : Member) (layout : Contents) → dev ≡ length members + 1
    → CanAttach dev config descriptor layout → m ≡ member_at_start start dev config descriptor layout
    → new ≡ members ++ m ∷ [] → IsAttached config descriptor start members dev new
is_attached config descriptor start members new dev m layout number suits is new_is = record {
  number = number;
  layout = layout;
  suits = suits;
  begins = ap (λ (ms : List Member). member_at ms dev) new_is ∙ ap (member_at (members ++ m ∷ [])) number ∙ stands_last members m ∙ ap (λ (x : Member). Some x) is;
  others = λ d k h. ap (λ (ms : List Member). member_at ms d) new_is ∙ stands_still members (m ∷ []) d k h;
}
