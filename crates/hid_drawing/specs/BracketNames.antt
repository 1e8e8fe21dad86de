-- What brackets are called: by the type of their collection (HID 1.11, 6.2.2.6).
use Rattle.std.specs.Prelude.{ℕ, ◌-◌, List, [], slice_get, Option, None, Some}
use Rattle.hid_report_descriptor.specs.declared.collection.Collection.{Collection}
use Rattle.hid_layout.specs.declared.main_item.MainItem.{MainItem}
use Rattle.hid_layout.specs.Layout.{Contents}
use Rattle.hid_drawing.specs.declared.brackets.Bracket.{Bracket}
use Rattle.hid_drawing.specs.Words.{collection_words}

-- the collection at a level of a path, where there is one
abbrev pub level_name : Option Collection → List ℕ
level_name None = []
level_name (Some collection) = collection_words collection

-- the collection at a level of the path of an item; no text where there is no item
abbrev pub path_name : ℕ → Option MainItem → Option (List Collection) → List ℕ
path_name level (Some item) (Some path) = level_name (slice_get path (level - 1))
path_name level _ _ = []

-- what a bracket is called
unfoldable pub bracket_name : Contents → Bracket → List ℕ
bracket_name layout bracket = path_name bracket.level (slice_get layout.items bracket.item) (slice_get layout.paths bracket.item)
