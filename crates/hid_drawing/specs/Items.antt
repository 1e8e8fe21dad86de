-- The items of a descriptor by their places among the items (HID 1.11, 6.2.2).
use Rattle.std.specs.Prelude.{◌≡◌, ℕ, ◌+◌, Bool, not, ◌==◌, List, [], ◌∷◌, ◌++◌, length, slice_get, Option, None, Some, ◌⊎◌}
use Rattle.std.specs.List.{flat_map, list_any}
use Rattle.hid_items.specs.declared.encoding.Item.{Item}
use Rattle.hid_items.specs.ItemEncoding.{IsItemEncoding, IsCut, data_of}
use Rattle.hid_report_descriptor.specs.Items.{EncodedItem}

-- an item that is encoded whole
abbrev pub IsWholeItem : Item → Type 0
IsWholeItem item = IsItemEncoding item.bytes.now

-- the bytes of items, joined
abbrev pub bytes_in : List Item → List ℕ
bytes_in items = flat_map (λ item. item.bytes.now) items

-- each item is an encoding, and stands after the one before it
abbrev pub ArePlaced : ℕ → List Item → Type 0
ArePlaced at [] = Unit {0}
ArePlaced at (item ∷ items) =
    (item.at ≡ at) × IsItemEncoding item.bytes.now × ArePlaced (at + length item.bytes.now) items

-- the items with which a descriptor begins, up to its end or to where it is cut off
pub record AreItemsOf (descriptor : List ℕ) (items : List Item) : Type 0 where
  pub placed : ArePlaced 0 items
  pub rest : List ℕ
  pub joined : bytes_in items ++ rest ≡ descriptor
  pub ended : (rest ≡ []) ⊎ IsCut rest

-- how an item is encoded; no bytes where there is none
abbrev pub encoding_of : Option Item → EncodedItem
encoding_of None = []
encoding_of (Some item) = item.bytes.now

-- how the item at a place among the items is encoded
abbrev pub item_encoding_at : List Item → ℕ → EncodedItem
item_encoding_at items k = encoding_of (slice_get items k)

-- the byte of the descriptor at which an item begins
abbrev pub item_place : Option Item → ℕ
item_place None = 0
item_place (Some item) = item.at

-- some byte of an item's data isn't 0
abbrev pub is_positive : EncodedItem → Bool
is_positive item = list_any (λ byte. not (byte == 0)) (data_of item)
