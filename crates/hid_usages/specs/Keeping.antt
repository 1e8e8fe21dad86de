-- What is passed over: elements that their numbers leave as they are, and numbers that name no key again (our choice).
use Rattle.std.specs.Prelude.{◌≡◌, ℕ, ◌<◌, ◌≤◌, List, [], ◌∷◌, length, ◌++◌, Option, Some, None, ℤ, slice_get}
use Rattle.hid_layout.specs.declared.main_item.MainItem.{MainItem}
use Rattle.hid_layout.specs.Controls.{Key}
use Rattle.hid_usages.specs.declared.elements.ElementRange.{ElementRange}
use Rattle.hid_usages.specs.Reading.{named_keys_from}

-- the numbers of the elements from one on, before an end, leave them as they are. Example: all elements of a report that
-- came before
abbrev pub AreKept : {A : Type 0} → (A × ℤ → A) → List A → List ℤ → ℕ → ℕ → Type 0
AreKept {A = A} read held numbers from end =
    (j : ℕ) (x : A) (v : ℤ) → from ≤ j → j < end → slice_get held j ≡ Some x → slice_get numbers j ≡ Some v → read (x, v) ≡ x

-- an element is found before an end, and those from one on before it are kept; or all of them are
abbrev pub FindsKept : {A : Type 0} → (A × ℤ → A) → List A → List ℤ → ℕ → ℕ → Option ℕ → Type 0
FindsKept read held numbers from end None = AreKept read held numbers from end
FindsKept read held numbers from end (Some place) = (from ≤ place) × (place < end) × AreKept read held numbers from place

-- the elements of an item outside of a range are left by their numbers as they are
pub record KeepsOthers {A : Type 0} (read : A × ℤ → A) (held : List A) (numbers : List ℤ)
    (range : ElementRange) : Type 0 where
  pub before : AreKept read held numbers 0 range.first
  pub after : AreKept read held numbers range.end (length held)
  pub first : range.first ≤ length held
  pub end : range.end ≤ length held

-- the number, if there is one, names no key beyond those that the numbers before it name
abbrev pub NamesNoNewKey : MainItem → List ℤ → List Key → Option ℤ → Type 0
NamesNoNewKey item numbers keys None = Unit {0}
NamesNoNewKey item numbers keys (Some v) =
    named_keys_from item numbers 0 keys ≡ named_keys_from item (numbers ++ v ∷ []) 0 keys
