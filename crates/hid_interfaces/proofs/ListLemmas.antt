-- The HID interfaces of a configuration, descriptor by descriptor.
use Rattle.std.proofs.Common.{◌≡◌, ℕ, refl, sym, ◌∙◌, ap, subst, Bool, true, false, List, [], ◌∷◌, ◌++◌, Some, None, append_assoc}
use Rattle.std.specs.Prelude.{find}
use Rattle.std.proofs.lemmas.List.{append-nil}
use Rattle.usb_control.specs.Descriptors.{IsDescriptor, IsWalk, is_interface}
use Rattle.usb_control.proofs.WalkLemmas.{goes_on, ended}
use Rattle.hid_interfaces.specs.declared.interface.InterfaceInfo.{InterfaceInfo}
use Rattle.hid_interfaces.specs.Interfaces.{interface_of, interfaces_of, is_listed, own_descriptors}

-- what a search among an interface's own descriptors has still to look at
pub record SearchGoesOn (test : List ℕ → Bool) (all : List (List ℕ)) (rest : List ℕ) : Type 0 where
  pub left : List (List ℕ)
  pub walk : IsWalk rest left
  pub same : find test (own_descriptors all) ≡ find test (own_descriptors left)

pub search_begins : (test : List ℕ → Bool) (all : List (List ℕ)) (bytes : List ℕ) → IsWalk bytes all → SearchGoesOn test all bytes
search_begins test all bytes walk = record { left = all; walk = walk; same = refl }

-- the search passes a descriptor that is neither an interface nor wanted
pub search_passes : (test : List ℕ → Bool) (all : List (List ℕ)) (rest d behind : List ℕ) → IsDescriptor d → rest ≡ d ++ behind
    → is_interface d ≡ false → test d ≡ false → SearchGoesOn test all rest → SearchGoesOn test all behind
search_passes test all rest d behind is split own other on =
    let next = goes_on d behind on.left is (subst (λ (xs : List ℕ). IsWalk xs on.left) split on.walk) in
    let passed : find test (own_descriptors (d ∷ next.rest)) ≡ find test (own_descriptors next.rest) = rw own (rw other refl) in
    record {
      left = next.rest;
      walk = next.walk;
      same = on.same ∙ ap (λ (ds : List (List ℕ)). find test (own_descriptors ds)) next.split ∙ passed;
    }

-- the search ends at an interface
pub search_stops : (test : List ℕ → Bool) (all : List (List ℕ)) (rest d behind : List ℕ) → IsDescriptor d → rest ≡ d ++ behind
    → is_interface d ≡ true → SearchGoesOn test all rest → find test (own_descriptors all) ≡ None
search_stops test all rest d behind is split next_one on =
    let next = goes_on d behind on.left is (subst (λ (xs : List ℕ). IsWalk xs on.left) split on.walk) in
    let stopped : find test (own_descriptors (d ∷ next.rest)) ≡ None = rw next_one refl in
    on.same ∙ ap (λ (ds : List (List ℕ)). find test (own_descriptors ds)) next.split ∙ stopped

-- the search finds a descriptor that is wanted
pub search_finds : (test : List ℕ → Bool) (all : List (List ℕ)) (rest d behind : List ℕ) → IsDescriptor d → rest ≡ d ++ behind
    → is_interface d ≡ false → test d ≡ true → SearchGoesOn test all rest → find test (own_descriptors all) ≡ Some d
search_finds test all rest d behind is split own wanted on =
    let next = goes_on d behind on.left is (subst (λ (xs : List ℕ). IsWalk xs on.left) split on.walk) in
    let found : find test (own_descriptors (d ∷ next.rest)) ≡ Some d = rw own (rw wanted refl) in
    on.same ∙ ap (λ (ds : List (List ℕ)). find test (own_descriptors ds)) next.split ∙ found

-- the search ends where no descriptor begins
pub search_ends : (test : List ℕ → Bool) (all : List (List ℕ)) (rest : List ℕ)
    → ((d behind : List ℕ) → IsDescriptor d → rest ≡ d ++ behind → ⊥) → SearchGoesOn test all rest
    → find test (own_descriptors all) ≡ None
search_ends test all rest none on =
    on.same ∙ ap (λ (ds : List (List ℕ)). find test (own_descriptors ds)) (ended rest on.left none on.walk).0

-- what a list of interfaces has still to look at
pub record ListGoesOn (all : List (List ℕ)) (listed : List InterfaceInfo) (rest : List ℕ) : Type 0 where
  pub left : List (List ℕ)
  pub walk : IsWalk rest left
  pub same : interfaces_of all ≡ listed ++ interfaces_of left

pub list_begins : (all : List (List ℕ)) (bytes : List ℕ) → IsWalk bytes all → ListGoesOn all [] bytes
list_begins all bytes walk = record { left = all; walk = walk; same = refl }

-- another descriptor is passed
pub list_passes : (all : List (List ℕ)) (listed : List InterfaceInfo) (rest d behind : List ℕ) → IsDescriptor d → rest ≡ d ++ behind
    → is_listed d ≡ false → ListGoesOn all listed rest → ListGoesOn all listed behind
list_passes all listed rest d behind is split other on =
    let next = goes_on d behind on.left is (subst (λ (xs : List ℕ). IsWalk xs on.left) split on.walk) in
    let passed : interfaces_of (d ∷ next.rest) ≡ interfaces_of next.rest = rw other refl in
    record {
      left = next.rest;
      walk = next.walk;
      same = on.same ∙ ap (λ (ds : List (List ℕ)). listed ++ interfaces_of ds) next.split
          ∙ ap (λ (infos : List InterfaceInfo). listed ++ infos) passed;
    }

-- an interface is listed
pub list_takes : (all : List (List ℕ)) (listed : List InterfaceInfo) (rest d behind : List ℕ) (info : InterfaceInfo)
    → IsDescriptor d → rest ≡ d ++ behind → is_listed d ≡ true
    → ((ds : List (List ℕ)) → IsWalk behind ds → info ≡ interface_of d (own_descriptors ds))
    → ListGoesOn all listed rest → ListGoesOn all (listed ++ info ∷ []) behind
list_takes all listed rest d behind info is split here read on =
    let next = goes_on d behind on.left is (subst (λ (xs : List ℕ). IsWalk xs on.left) split on.walk) in
    let taken : interfaces_of (d ∷ next.rest) ≡ interface_of d (own_descriptors next.rest) ∷ interfaces_of next.rest = rw here refl in
    let same_info : interface_of d (own_descriptors next.rest) ∷ interfaces_of next.rest ≡ info ∷ interfaces_of next.rest =
    ap (λ (i : InterfaceInfo). i ∷ interfaces_of next.rest) (sym (read next.rest next.walk)) in
    record {
      left = next.rest;
      walk = next.walk;
      same = on.same ∙ ap (λ (ds : List (List ℕ)). listed ++ interfaces_of ds) next.split
          ∙ ap (λ (infos : List InterfaceInfo). listed ++ infos) (taken ∙ same_info)
          ∙ sym (append_assoc listed (info ∷ []) (interfaces_of next.rest));
    }

-- the list is whole where no descriptor begins
pub list_ends : (all : List (List ℕ)) (listed : List InterfaceInfo) (rest : List ℕ)
    → ((d behind : List ℕ) → IsDescriptor d → rest ≡ d ++ behind → ⊥) → ListGoesOn all listed rest
    → listed ≡ interfaces_of all
list_ends all listed rest none on =
    sym (on.same ∙ ap (λ (ds : List (List ℕ)). listed ++ interfaces_of ds) (ended rest on.left none on.walk).0
    ∙ append-nil listed)
