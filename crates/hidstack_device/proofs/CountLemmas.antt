-- Controls of a usage are counted one place after the other.
use Rattle.std.proofs.Common.{◌≡◌, ℕ, ◌+◌, ◌-◌, ◌<◌, true, false, List, ap, arith, add-one}
use Rattle.hid_report_descriptor.specs.declared.usage.Usage.{Usage}
use Rattle.hid_layout.specs.Controls.{Item}
use Rattle.hidstack_device.specs.Finding.{count_before, count_in, has_usage, one_if, places_of}

-- one that has the usage counts
pub counted : (items : List Item) (u : Usage) (i n left left' nth : ℕ)
    → has_usage items u (record { item = i; index = n }) ≡ true → 0 < left → left' ≡ left - 1
    → count_in items u i n + left ≡ nth → count_in items u i (n + 1) + left' ≡ nth
counted items u i n left left' nth has positive less e = rw add-one (omega (arith, ap one_if has))

-- one that hasn't doesn't
pub uncounted : (items : List Item) (u : Usage) (i n left left' nth : ℕ)
    → has_usage items u (record { item = i; index = n }) ≡ false → left' ≡ left
    → count_in items u i n + left ≡ nth → count_in items u i (n + 1) + left' ≡ nth
uncounted items u i n left left' nth has same e = rw add-one (omega (arith, ap one_if has))

-- an item's count is added to those before it
pub item_counted : (items : List Item) (u : Usage) (i left rest nth : ℕ) → count_before items u i + left ≡ nth
    → count_in items u i (places_of items i) + rest ≡ left → count_before items u (i + 1) + rest ≡ nth
item_counted items u i left rest nth e here = rw add-one (omega arith)
