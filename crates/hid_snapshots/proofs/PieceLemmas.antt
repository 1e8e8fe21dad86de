-- The pieces of a report: by its items they are those of its bytes, and joined they are the report.
use Rattle.std.proofs.Math.Nat.{min-eq_left, min-eq_right}
use Rattle.std.proofs.Common.{◌≡◌, ℕ, zero, suc, ◌+◌, ◌-◌, ◌*◌, ◌/◌, ◌<◌, ◌≤◌, ◌==◌, ◌||◌, Bool, true, false, cond, List, [], ◌∷◌, ◌++◌, length, take, drop, refl, ap, sym, ◌∙◌, arith, length-drop, take_all}
use Rattle.std.specs.Prelude.{if◌then◌else◌, min, nat_le}
use Rattle.std.specs.List.{list_any}
use Rattle.std.proofs.lemmas.Bool.Decides.{Decides-eqb, nat_tests}
use Rattle.std.proofs.lemmas.List.{drop_all, length-take-le}
use Rattle.hid_report_descriptor.specs.declared.report.Report.{Report}
use Rattle.hid_layout.specs.declared.main_item.MainItem.{MainItem}
use Rattle.hid_report_descriptor.specs.Usages.{Entry, usage_list}
use Rattle.hid_layout.specs.Layout.{Contents, report_bytes}
use Rattle.hid_layout.specs.Reports.{IsLayout}
use Rattle.hid_layout.specs.Controls.{Item, form_of, input_item, no_item, item_of, items_from, items_of, is_input}
use Rattle.hid_snapshots.specs.Parts.{IsInput, is_of}
use Rattle.hid_snapshots.specs.Pieces.{pieces_for, pieces_of, piece_of}

-- a report that may be there and is an Input report is there
input_within : (reports : List Report) (r : ℕ) → is_input reports r ≡ true → r < length reports
input_within [] r h = absurd (cc)
input_within (x ∷ reports) zero h = omega arith
input_within (x ∷ reports) (suc r) h = omega (arith, input_within reports r h)

-- an item by whether its report is an Input report
abbrev item_if : Contents → MainItem → List Entry → Bool → Item
item_if layout m es b = cond b (input_item m.report (report_bytes layout m.report) (form_of m (usage_list es) m.shape)) no_item

-- the item of another report is passed over, and the first one of the report counts
item_pieces : (layout : Contents) (r : ℕ) (m : MainItem) (es : List Entry) (rest : ℕ) → IsInput layout r
    → (if is_of r (item_of layout m es) then pieces_for (item_of layout m es).bytes else rest) ≡ (if m.report == r then pieces_for (report_bytes layout r) else rest)
item_pieces layout r m es rest input = by_number (m.report == r) refl
  where
    other : (b : Bool) → (m.report == r) ≡ false → cond (is_of r (item_if layout m es b)) (pieces_for (item_if layout m es b).bytes) rest ≡ rest
    other true e = ap (λ (x : Bool). cond x (pieces_for (report_bytes layout m.report)) rest) e
    other false e = refl

    by_number : (b : Bool) → (m.report == r) ≡ b → (if is_of r (item_of layout m es) then pieces_for (item_of layout m es).bytes else rest) ≡ (if b then pieces_for (report_bytes layout r) else rest)
    by_number true e =
        let same : m.report ≡ r = (Decides-eqb m.report r).0 e in
        let in_it : is_input layout.reports m.report ≡ true = ap (is_input layout.reports) same ∙ input in
        rw in_it (ap (λ (x : Bool). cond x (pieces_for (report_bytes layout m.report)) rest) e ∙ ap (λ (n : ℕ). pieces_for (report_bytes layout n)) same)
    by_number false e = other (is_input layout.reports m.report) e

pieces_from : (layout : Contents) (r : ℕ) (items : List MainItem) (ess : List (List Entry)) → IsInput layout r → length ess ≡ length items → list_any (λ (item : MainItem). item.report == r) items ≡ true
    → pieces_of (items_from layout items ess) r ≡ pieces_for (report_bytes layout r)
unfolding items_from
pieces_from layout r [] ess input each there = absurd (cc)
pieces_from layout r (m ∷ items) [] input each there = absurd (omega arith)
pieces_from layout r (m ∷ items) (es ∷ ess) input each there =
    item_pieces layout r m es (pieces_of (items_from layout items ess) r) input ∙ by_number (m.report == r) there (pieces_from layout r items ess input (omega arith))
  where
    by_number : (b : Bool) → (b || list_any (λ (item : MainItem). item.report == r) items) ≡ true
        → (list_any (λ (item : MainItem). item.report == r) items ≡ true → pieces_of (items_from layout items ess) r ≡ pieces_for (report_bytes layout r))
        → (if b then pieces_for (report_bytes layout r) else pieces_of (items_from layout items ess) r) ≡ pieces_for (report_bytes layout r)
    by_number true h rest = refl
    by_number false h rest = rest h

-- of each Input report of a layout
pub pieces_are : (layout : Contents) (r : ℕ) → IsLayout layout → IsInput layout r → pieces_of (items_of layout) r ≡ pieces_for (report_bytes layout r)
pieces_are layout r laid input =
    pieces_from layout r layout.items layout.entries input laid.entries_there (laid.item_there r (input_within layout.reports r input))

-- there is one at least
pub some_piece : (items : List Item) (r : ℕ) → 0 < pieces_of items r
some_piece [] r = omega arith
some_piece (item ∷ items) r = elim (is_of r item) as (λ (b : Bool). 0 < cond b (pieces_for item.bytes) (pieces_of items r)) [ true ↦ some item.bytes | false ↦ some_piece items r ]
  where
    some : (bytes : ℕ) → 0 < (bytes - 1) / 64 + 1
    some bytes = omega arith

-- what a host has collected before a piece, and with it
abbrev none : List ℕ
none = []

take_none : (n : ℕ) → take n none ≡ none
take_none zero = refl
take_none (suc n) = refl

take_more : (a b : ℕ) (bytes : List ℕ) → take a bytes ++ take b (drop a bytes) ≡ take (a + b) bytes
take_more zero b bytes = ap (λ (n : ℕ). take n bytes) (let e : b ≡ zero + b = omega arith in e)
take_more (suc a) b [] = take_none b ∙ sym (take_none (suc a + b))
take_more (suc a) b (x ∷ bytes) = ap (λ (rest : List ℕ). x ∷ rest) (take_more a b bytes) ∙ ap (λ (n : ℕ). take n (x ∷ bytes)) (let e : suc (a + b) ≡ suc a + b = omega arith in e)

pub collected_more : (bytes : List ℕ) (piece : ℕ) → take (64 * piece) bytes ++ piece_of bytes piece ≡ take (64 * (piece + 1)) bytes
collected_more bytes piece = take_more (64 * piece) 64 bytes ∙ ap (λ (n : ℕ). take n bytes) (let e : 64 * piece + 64 ≡ 64 * (piece + 1) = omega arith in e)

-- with the last piece that is all
pub collected_all : (bytes : List ℕ) (piece : ℕ) → pieces_for (length bytes) ≤ piece + 1 → take (64 * (piece + 1)) bytes ≡ bytes
collected_all bytes piece last = take_all (64 * (piece + 1)) bytes (omega (arith, last))

-- each piece before it is full, and more is to come
pub full_piece : (bytes : List ℕ) (piece : ℕ) → piece + 1 < pieces_for (length bytes) → length (piece_of bytes piece) ≡ 64
full_piece bytes piece more = length-take-le 64 (drop (64 * piece) bytes) (omega (arith, more, length-drop (64 * piece) bytes))

pub more_to_come : (bytes : List ℕ) (piece : ℕ) → piece + 1 < pieces_for (length bytes) → length (take (64 * (piece + 1)) bytes) < length bytes
more_to_come bytes piece more =
    let few : 64 * (piece + 1) < length bytes = omega (arith, more) in
    let taken : length (take (64 * (piece + 1)) bytes) ≡ 64 * (piece + 1) = length-take-le (64 * (piece + 1)) bytes (omega (arith, few)) in
    omega (arith, few, taken)

-- after the last byte there is none
pub drop_min : (bytes : List ℕ) (n m : ℕ) → length bytes ≤ m → drop (min n m) bytes ≡ drop n bytes
drop_min bytes n m fits = either (nat_le n m) refl
  where
    either : (b : Bool) → nat_le n m ≡ b → drop (min n m) bytes ≡ drop n bytes
    either true h =
        let below : n ≤ m = grind (arith, nat_tests, h) in
        ap (λ (k : ℕ). drop k bytes) (min-eq_left below)
    either false h =
        let above : m ≤ n = grind (arith, nat_tests, h) in
        let past : length bytes ≤ n = omega (arith, fits, above) in
        ap (λ (k : ℕ). drop k bytes) (min-eq_right above) ∙ drop_all m bytes fits ∙ sym (drop_all n bytes past)

-- no byte after the last one is taken
take_min : (bytes : List ℕ) (n m : ℕ) → length bytes ≤ n → take (min n m) bytes ≡ take m bytes
take_min bytes n m fits = either (nat_le n m) refl
  where
    either : (b : Bool) → nat_le n m ≡ b → take (min n m) bytes ≡ take m bytes
    either true h =
        let below : n ≤ m = grind (arith, nat_tests, h) in
        let past : length bytes ≤ m = omega (arith, fits, below) in
        ap (λ (k : ℕ). take k bytes) (min-eq_left below) ∙ take_all n bytes fits ∙ sym (take_all m bytes past)
    either false h =
        let above : m ≤ n = grind (arith, nat_tests, h) in
        ap (λ (k : ℕ). take k bytes) (min-eq_right above)

-- a range of bytes that begins and ends within them is a piece of them
pub piece_is : (bytes : List ℕ) (start from count : ℕ) → from ≡ min start (length bytes) → count ≡ min (length bytes - from) 64
    → take count (take (length bytes - from) (drop from bytes)) ≡ take 64 (drop start bytes)
piece_is bytes start from count begins ends =
    let long : length (drop from bytes) ≡ length bytes - from = length-drop from bytes in
    let fits : length (drop from bytes) ≤ length bytes - from = omega (arith, long) in
    let within : length bytes ≤ length bytes = omega arith in
    ap (take count) (take_all (length bytes - from) (drop from bytes) fits)
    ∙ ap (λ (n : ℕ). take n (drop from bytes)) ends
    ∙ take_min (drop from bytes) (length bytes - from) 64 fits
    ∙ ap (λ (n : ℕ). take 64 (drop n bytes)) begins
    ∙ ap (take 64) (drop_min bytes start (length bytes) within)
