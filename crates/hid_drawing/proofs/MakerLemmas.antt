-- Looking back by one item.
use Rattle.std.proofs.Common.{◌≡◌, ℕ, suc, ◌+◌, ◌-◌, ◌<◌, ◌==◌, ◌&&◌, false, List, refl, arith}
use Rattle.hid_items.specs.declared.encoding.Item.{Item}
use Rattle.hid_report_descriptor.specs.Items.{is, is_main, PUSH, POP}
use Rattle.hid_report_descriptor.specs.Matching.{waiting_after}
use Rattle.hid_drawing.specs.Items.{item_encoding_at}
use Rattle.hid_drawing.specs.Origins.{nearest_place, locals_start}

nearest_step : (items : List Item) (prefix waiting n k : ℕ) → n ≡ suc k
    → ((waiting == 0) && is prefix (item_encoding_at items k)) ≡ false
    → nearest_place items prefix (waiting_after PUSH POP waiting (item_encoding_at items k)) k
    ≡ nearest_place items prefix waiting n
nearest_step items prefix waiting n k same other = rw (same, other) refl

-- an item that isn't looked for changes at most what waits
pub nearest_more : (items : List Item) (prefix waiting m back : ℕ) → back < m
    → ((waiting == 0) && is prefix (item_encoding_at items ((m - 1) - back))) ≡ false
    → nearest_place items prefix (waiting_after PUSH POP waiting (item_encoding_at items ((m - 1) - back)))
    (m - (back + 1))
    ≡ nearest_place items prefix waiting (m - back)
nearest_more items prefix waiting m back below other =
    let here : m - (back + 1) ≡ (m - 1) - back = omega arith in
    let behind : m - back ≡ suc ((m - 1) - back) = omega arith in
    rw here (nearest_step items prefix waiting (m - back) ((m - 1) - back) behind other)

start_step : (items : List Item) (n k : ℕ) → n ≡ suc k → is_main (item_encoding_at items k) ≡ false
    → locals_start items k ≡ locals_start items n
start_step items n k same other = rw (same, other) refl

-- an item that is no main item changes nothing
pub start_more : (items : List Item) (m back : ℕ) → back < m
    → is_main (item_encoding_at items ((m - 1) - back)) ≡ false
    → locals_start items (m - (back + 1)) ≡ locals_start items (m - back)
start_more items m back below other =
    let here : m - (back + 1) ≡ (m - 1) - back = omega arith in
    let behind : m - back ≡ suc ((m - 1) - back) = omega arith in
    rw here (start_step items (m - back) ((m - 1) - back) behind other)
