-- What one call of `Items::next` gives (HID 1.11, 6.2.2).
use Rattle.std.specs.Prelude.{◌≡◌, ◌≢◌, ℕ, ◌+◌, List, [], ◌++◌, length, Option, Some, None, Result, Ok, Err, ◌==◌, if◌then◌else◌, slice_index}
use Rattle.hid_items.specs.declared.encoding.Item.{Item}
use Rattle.hid_items.specs.declared.encoding.ItemKind.{ItemKind}
use Rattle.hid_items.specs.declared.encoding.ItemKind.TheVariants.{Short, Long}
use Rattle.hid_items.specs.declared.fault.ItemFault.{ItemFault}
use Rattle.hid_items.specs.declared.fault.ItemFault.TheVariants.{Truncated}
use Rattle.hid_items.specs.declared.reading.Items.{Items}
use Rattle.hid_items.specs.ItemEncoding.{IsItemEncoding, IsCut, prefix_of}

-- the place of the next item
abbrev pub place : Items → ℕ
place items = items.at

-- the bytes that are left, from the next item on
abbrev pub remaining_bytes : Items → List ℕ
remaining_bytes items = items.rest.now

-- nothing has been read: these bytes are to come, the first of them at this place
abbrev pub StartsAt : Items → ℕ → List ℕ → Type 0
StartsAt items at bytes = (place items ≡ at) × (remaining_bytes items ≡ bytes)

-- what stands first in an encoding
abbrev pub first_kind : List ℕ → ItemKind
first_kind bytes = if slice_index bytes 0 == 0xFE then Long (slice_index bytes 2) else Short (prefix_of bytes)

-- the next item is at the front of what was left
pub record GivesItem (old : Items) (item : Item) (new : Items) : Type 0 where
  pub at : item.at ≡ place old
  pub encoded : IsItemEncoding item.bytes.now
  pub kind : item.kind ≡ first_kind item.bytes.now
  pub rest : remaining_bytes old ≡ item.bytes.now ++ remaining_bytes new
  pub after : place new ≡ place old + length item.bytes.now

-- what the iterator returns: an item, the one refusal, or the end; after a refusal comes the end
abbrev pub GivesNext : Items → Option (Result Item ItemFault) → Items → Type 0
GivesNext old None new = (remaining_bytes old ≡ []) × (remaining_bytes new ≡ [])
GivesNext old (Some (Ok item)) new = GivesItem old item new
GivesNext old (Some (Err (Truncated at))) new =
    (at ≡ place old) × IsCut (remaining_bytes old) × (remaining_bytes new ≡ [])

-- the item is a short one, encoded as such
abbrev pub IsShort : Item → Type 0
IsShort item = IsItemEncoding item.bytes.now × (slice_index item.bytes.now 0 ≢ 0xFE)
