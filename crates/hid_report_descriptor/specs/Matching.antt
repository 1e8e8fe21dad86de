-- Which opening item a closing one matches: the nearest before it with as many opening as closing items in between, Push
-- and Pop, Collection and End Collection (HID 1.11, 6.2.2.6 and 6.2.2.7).
use Rattle.std.specs.Prelude.{ℕ, ◌+◌, ◌-◌, List, [], ◌∷◌, ◌++◌, ◌==◌, ◌&&◌, if◌then◌else◌}
use Rattle.hid_report_descriptor.specs.Items.{EncodedItem, is}

-- Going back over an item: how many of the closing items passed still wait for their opening one, which is
-- the nearest with as many closing as opening items in between.
abbrev pub waiting_after : ℕ → ℕ → ℕ → EncodedItem → ℕ
waiting_after opening closing waiting item =
    if is closing item then waiting + 1 else (if is opening item then waiting - 1 else waiting)

-- an item with the items before it, the nearest first
abbrev pub Placed : Type 0
Placed = List EncodedItem × EncodedItem

-- the opening items that nothing closes, the earliest first
abbrev pub open_items : ℕ → ℕ → ℕ → List EncodedItem → List Placed
open_items opening closing waiting [] = []
open_items opening closing waiting (item ∷ before) =
    open_items opening closing (waiting_after opening closing waiting item) before
    ++ (if is opening item && waiting == 0 then (before, item) ∷ [] else [])
