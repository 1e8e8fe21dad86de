-- One more item is read.
use Rattle.std.proofs.Common.{◌≡◌, ℕ, zero, suc, ◌+◌, ◌<◌, List, slice_index_or, [], ◌∷◌, ◌++◌, length, sym, ◌∙◌, ap, arith, append_assoc, length-append, append-nil, zero-add, add-zero}
use Rattle.hid_items.specs.declared.encoding.Item.{Item}
use Rattle.hid_items.specs.declared.reading.Items.{Items}
use Rattle.hid_items.specs.ItemEncoding.{IsItemEncoding}
use Rattle.hid_items.specs.Reading.{GivesItem, place, remaining_bytes}
use Rattle.hid_drawing.specs.Items.{ArePlaced, IsWholeItem, bytes_in}

-- the items read so far, with what is left
pub record HaveRead (descriptor : List ℕ) (items : List Item) (iterator : Items) : Type 0 where
  pub placed : ArePlaced 0 items
  pub joined : bytes_in items ++ remaining_bytes iterator ≡ descriptor
  pub at : place iterator ≡ length (bytes_in items)

bytes_more : (items : List Item) (item : Item) → bytes_in (items ++ item ∷ []) ≡ bytes_in items ++ item.bytes.now
bytes_more [] item = append-nil item.bytes.now
bytes_more (first ∷ items) item = ap (λ (bs : List ℕ). first.bytes.now ++ bs) (bytes_more items item) ∙ sym (append_assoc first.bytes.now (bytes_in items) item.bytes.now)

placed_more : (at : ℕ) (items : List Item) (item : Item) → ArePlaced at items → item.at ≡ at + length (bytes_in items)
    → IsItemEncoding item.bytes.now → ArePlaced at (items ++ item ∷ [])
placed_more at [] item placed here encoded = (here ∙ add-zero at, encoded, tt)
placed_more at (first ∷ items) item placed here encoded =
    let behind : item.at ≡ (at + length first.bytes.now) + length (bytes_in items) = omega (arith, here, length-append first.bytes.now (bytes_in items)) in
    (placed.0, placed.1, placed_more (at + length first.bytes.now) items item placed.2 behind encoded)

pub read_more : (descriptor : List ℕ) (items : List Item) (item : Item) (old new : Items) → HaveRead descriptor items old
    → GivesItem old item new → HaveRead descriptor (items ++ item ∷ []) new
read_more descriptor items item old new read gives = record {
  placed = placed_more 0 items item read.placed (gives.at ∙ read.at ∙ sym (zero-add (length (bytes_in items)))) gives.encoded;
  joined = rw (bytes_more items item, append_assoc (bytes_in items) item.bytes.now (remaining_bytes new))
      (rw gives.rest at read.joined);
  at = gives.after ∙ rw (bytes_more items item) (omega (arith, read.at, length-append (bytes_in items) item.bytes.now));
}

-- items that are placed are encoded whole
pub placed_whole : (at : ℕ) (items : List Item) → ArePlaced at items → (k : ℕ) (d : Item) → k < length items
    → IsWholeItem (slice_index_or items k d)
placed_whole at [] placed k d below = absurd (omega arith)
placed_whole at (first ∷ items) placed zero d below = placed.1
placed_whole at (first ∷ items) placed (suc k) d below =
    placed_whole (at + length first.bytes.now) items placed.2 k d (omega (arith, below))

pub same_whole : (items others : List Item) → others ≡ items → ArePlaced 0 items → (k : ℕ) (d : Item) → k < length others
    → IsWholeItem (slice_index_or others k d)
same_whole items others same placed = rw same (placed_whole 0 items placed)
