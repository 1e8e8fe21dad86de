-- The data elements of a layout, item by item (our choice).
use Rattle.std.specs.Prelude.{ℕ, zero, suc, List, [], ◌∷◌, ◌++◌, slice_get, Option, Some, None}
use Rattle.hid_layout.specs.Layout.{Contents}
use Rattle.hid_layout.specs.declared.main_item.MainItem.{MainItem}
use Rattle.hidstack_session.specs.declared.element.HidElement.{HidElement}
use Rattle.hidstack_session.specs.Elements.{element_at}

-- a record that may be there
abbrev pub one_or_none : Option HidElement → List HidElement
one_or_none None = []
one_or_none (Some element) = element ∷ []

-- the records of the data elements at the first places of the listed item at a place
abbrev pub elements_below : Contents → ℕ → ℕ → List HidElement
elements_below layout i zero = []
elements_below layout i (suc n) = elements_below layout i n ++ one_or_none (element_at layout i n)

-- the records of the data elements of a listed item that may be there
abbrev pub elements_in : Contents → ℕ → Option MainItem → List HidElement
elements_in layout i None = []
elements_in layout i (Some item) = elements_below layout i item.count

-- the records of the data elements of the listed item at a place
unfoldable pub elements_of_item : Contents → ℕ → List HidElement
elements_of_item layout i = elements_in layout i (slice_get layout.items i)

-- the records of the data elements of the first listed items. Example: the boot mouse has five
abbrev pub elements_of : Contents → ℕ → List HidElement
elements_of layout zero = []
elements_of layout (suc n) = elements_of layout n ++ elements_of_item layout n
