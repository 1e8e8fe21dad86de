-- What a layout keeps beside its items, so that they are read without a search (our choice).
use Rattle.std.specs.Prelude.{◌≡◌, ℕ, ◌+◌, ◌<◌, ◌==◌, if◌then◌else◌, List, [], ◌∷◌, map, length, slice_get, Some}
use Rattle.hid_layout.specs.declared.main_item.MainItem.{MainItem}
use Rattle.hid_layout.specs.declared.codes.Codes.{Codes}
use Rattle.hid_report_descriptor.specs.Usages.{Entry, usage_list}
use Rattle.hid_report_descriptor.specs.declared.shape.Shape.TheVariants.{Array}
use Rattle.hid_report_descriptor.specs.Faults.{numbers_from}
use Rattle.hid_layout.specs.Layout.{Contents}
use Rattle.hid_layout.specs.Codes.{AreCodes}

-- the places of a report's items, from the place i on
abbrev pub places_from : ℕ → ℕ → List MainItem → List ℕ
places_from i r [] = []
places_from i r (item ∷ items) =
    if item.report == r then i ∷ places_from (i + 1) r items else places_from (i + 1) r items

-- The places of a report's items, in order. Example: 0, 1 and 4 for the keyboard's Input report
abbrev pub plan_of : Contents → ℕ → List ℕ
plan_of layout r = places_from 0 r layout.items

-- where codes stand at the place of an array, they are its codes
abbrev pub FitArrays : List MainItem → List (List Entry) → List Codes → Type 0
FitArrays items entries codes = (i : ℕ) (item : MainItem) (es : List Entry) (c : Codes)
    → slice_get items i ≡ Some item → slice_get entries i ≡ Some es → slice_get codes i ≡ Some c
    → item.shape ≡ Array → AreCodes item (usage_list es) c

-- each array has its codes, at its place among the items
pub record AreArrayCodes (items : List MainItem) (entries : List (List Entry)) (codes : List Codes) : Type 0 where
  pub there : (i : ℕ) (item : MainItem) → slice_get items i ≡ Some item → item.shape ≡ Array → i < length codes
  pub theirs : FitArrays items entries codes

-- what is kept is that of the layout
pub record IsIndexed (layout : Contents) (plans : List (List ℕ)) (codes : List Codes) : Type 0 where
  pub plans_there : plans ≡ map (plan_of layout) (numbers_from 0 (length layout.reports))
  pub codes_there : AreArrayCodes layout.items layout.entries codes
