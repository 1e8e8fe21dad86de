-- The pieces of a report lie one after the other, from its first bit to its last.
use Rattle.std.proofs.Common.{◌≡◌, ℕ, zero, suc, ◌+◌, ◌-◌, ◌*◌, ◌/◌, ◌%◌, ◌<◌, ◌≤◌, Bool, true, false, cond, ◌&&◌, ◌==◌, nat_eq, nat_lt, List, [], ◌∷◌, ◌++◌, length, map, take, reverse, refl, sym, ◌∙◌, ap, subst, arith, Some, nat_le}
use Rattle.std.specs.Prelude.{All, slice_get, min}
use Rattle.std.specs.List.{list_any, count_by}
use Rattle.std.proofs.lemmas.List.Elements.{All-nil, All-cons, All-head, All-tail}
use Rattle.std.proofs.lemmas.Grind.{common_steps}
use Rattle.std.proofs.lemmas.Bool.Decides.{nat_tests}
use Rattle.std.proofs.lemmas.Bool.{and_parts}
use Rattle.std.proofs.lemmas.List.{take_all}
use Rattle.std.proofs.lemmas.List.Sums.{sum_by-cons}
use Rattle.hid_items.specs.ItemEncoding.{IsItemEncoding}
use Rattle.hid_report_descriptor.specs.declared.limits.Limits.{Limits}
use Rattle.hid_report_descriptor.specs.declared.report.Report.{Report}
use Rattle.hid_report_descriptor.specs.declared.report.ReportKind.{ReportKind}
use Rattle.hid_report_descriptor.specs.declared.shape.Shape.{Shape}
use Rattle.hid_report_descriptor.specs.declared.shape.Shape.TheVariants.{Padding, Variable, Array}
use Rattle.hid_report_descriptor.specs.Kinds.{same_kind}
use Rattle.hid_report_descriptor.specs.Fields.{Field, fields, report_bits, is_padding, bits_of}
use Rattle.hid_report_descriptor.specs.Faults.{Accepts}
use Rattle.hid_report_descriptor.specs.Items.{EncodedItem, is, REPORT_ID}
use Rattle.hid_report_descriptor.specs.Reporting.{reports_of}
use Rattle.hid_report_descriptor.specs.Totals.{is_report, bits_in_report, report_place}
use Rattle.hid_report_descriptor.proofs.FieldFacts.{AreListed, AreSpelled}
use Rattle.hid_report_descriptor.proofs.ListedLemmas.{id_of, listed}
use Rattle.hid_report_descriptor.proofs.ReportsLemmas.{bits_added, bits_in_report-reports_of}
use Rattle.hid_report_descriptor.proofs.Taking.{reverse_more}
use Rattle.hid_report_descriptor.proofs.Shares.{is_of, same_kind_itself, kinds_equal}
use Rattle.hid_layout.specs.declared.main_item.MainItem.{MainItem}
use Rattle.hid_layout.specs.Layout.{Contents, main_item, contents_of, layout_of}
use Rattle.hid_layout.specs.Reports.{IsLayout, first_bit, report_bytes, bits_of as bits_of_report, element_of, field_at}
use Rattle.hid_layout.proofs.WellFormed.{layout_of_accepted}
use Rattle.hid_drawing.specs.declared.pieces.BitSource.TheVariants.{ReportId, FinalPadding}
use Rattle.hid_drawing.specs.declared.pieces.ByteSlice.{ByteSlice}
use Rattle.hid_drawing.specs.declared.pieces.Segment.{Segment}
use Rattle.hid_drawing.specs.Laws.{LieFrom, has_bit}
use Rattle.hid_drawing.specs.Pieces.{concat_lists, piece_of, segment_pieces, field_segment, element_pieces, shape_pieces, item_pieces, id_pieces, padding_pieces, pieces_of}
use Rattle.hid_drawing.proofs.PieceLemmas.{bits_at}

behind : (from middle to : ℕ) (xs ys : List ByteSlice) → LieFrom from xs middle → LieFrom middle ys to
    → LieFrom from (xs ++ ys) to
behind from middle to [] ys first second = subst (λ (n : ℕ). LieFrom n ys to) (sym first) second
behind from middle to (x ∷ xs) ys first second =
    (first.0, first.1, first.2, behind (8 * x.byte + x.high) middle to xs ys first.3 second)

-- pieces that lie from one bit to another lie between bits that equal these
same_ends : (from to start end : ℕ) (pieces : List ByteSlice) → from ≡ start → to ≡ end → LieFrom from pieces to
    → LieFrom start pieces end
same_ends from to start end pieces e d lie =
    subst (λ (n : ℕ). LieFrom n pieces end) e (subst (λ (n : ℕ). LieFrom from pieces n) d lie)

-- the piece in a byte after the first
later_piece : (s : Segment) (k from : ℕ) → 0 < k → 8 * (s.bit / 8 + k) ≡ from → from < s.bit + s.width
    → LieFrom from (piece_of s k ∷ []) (min (s.bit + s.width) (8 * (s.bit / 8 + suc k)))
later_piece s k from later here below =
    let none : nat_eq k 0 ≡ false = grind (arith, nat_tests) in
    rw none (omega (arith, here), omega (arith, here, below), omega arith, omega (arith, here, below))

first_piece : (s : Segment) → 0 < s.width
    → LieFrom s.bit (piece_of s 0 ∷ []) (min (s.bit + s.width) (8 * (s.bit / 8 + 1)))
first_piece s some = (omega arith, omega (arith, some), omega arith, omega (arith, some))

-- the first pieces of a stretch
stretch_below : (s : Segment) (n : ℕ) → 0 < s.width → suc n ≤ (s.bit % 8 + s.width + 7) / 8
    → LieFrom s.bit (concat_lists (suc n) (λ k. piece_of s k ∷ [])) (min (s.bit + s.width) (8 * (s.bit / 8 + suc n)))
stretch_below s zero some within = first_piece s some
stretch_below s (suc n) some within =
    behind s.bit (min (s.bit + s.width) (8 * (s.bit / 8 + suc n))) _ (concat_lists (suc n) (λ k. piece_of s k ∷ []))
    (piece_of s (suc n) ∷ [])
    (stretch_below s n some (omega (arith, within)))
    (later_piece s (suc n) _ (omega arith) (omega (arith, within)) (omega (arith, within)))

stretch_lies : (s : Segment) → 0 < s.width → LieFrom s.bit (segment_pieces s) (s.bit + s.width)
stretch_lies s some = by_count ((s.bit % 8 + s.width + 7) / 8) refl
  where
    by_count : (n : ℕ) → (s.bit % 8 + s.width + 7) / 8 ≡ n
        → LieFrom s.bit (concat_lists n (λ k. piece_of s k ∷ [])) (s.bit + s.width)
    by_count zero e = absurd (omega (arith, e, some))
    by_count (suc n) e =
        same_ends s.bit _ s.bit (s.bit + s.width) (concat_lists (suc n) (λ k. piece_of s k ∷ [])) refl
        (omega (arith, e))
        (stretch_below s n some (omega (arith, e)))

-- the first data fields of an item
elements_lie : (layout : Contents) (i : ℕ) (item : MainItem) → slice_get layout.items i ≡ Some item → is_padding item.shape ≡ false
    → 0 < item.size → (n : ℕ) → n ≤ item.count
    → LieFrom (first_bit layout + item.offset)
    (concat_lists n (λ j. element_pieces layout i j (element_of layout i j)))
    (first_bit layout + item.offset + n * item.size)
elements_lie layout i item at plain some zero within = omega arith
elements_lie layout i item at plain some (suc j) within =
    let below : nat_lt j item.count ≡ true = grind (arith, nat_tests) in
    let here : element_of layout i j ≡ Some (field_at item j) = rw (at, plain, below) refl in
    behind (first_bit layout + item.offset) (first_bit layout + item.offset + j * item.size) _
    (concat_lists j (λ j. element_pieces layout i j (element_of layout i j)))
    (element_pieces layout i j (element_of layout i j))
    (elements_lie layout i item at plain some j (omega (arith, within)))
    (rw here
    (same_ends _ _ _ _ (segment_pieces (field_segment layout i j (item.offset + j * item.size) item.size))
    (omega arith) (omega arith)
    (stretch_lies (field_segment layout i j (item.offset + j * item.size) item.size) some)))

shape_lies : (layout : Contents) (i : ℕ) (item : MainItem) → slice_get layout.items i ≡ Some item → 0 < item.size * item.count
    → (is_padding item.shape ≡ false → 0 < item.size)
    → LieFrom (first_bit layout + item.offset) (shape_pieces layout i item item.shape) (first_bit layout + item.offset + item.size * item.count)
shape_lies layout i item at some narrow = by_shape item.shape refl
  where
    all : is_padding item.shape ≡ false
        → LieFrom (first_bit layout + item.offset)
        (concat_lists item.count (λ j. element_pieces layout i j (element_of layout i j)))
        (first_bit layout + item.offset + item.size * item.count)
    all plain =
        same_ends _ _ _ _ (concat_lists item.count (λ j. element_pieces layout i j (element_of layout i j))) refl
        (omega arith)
        (elements_lie layout i item at plain (narrow plain) item.count (omega arith))

    by_shape : (shape : Shape) → item.shape ≡ shape
        → LieFrom (first_bit layout + item.offset) (shape_pieces layout i item shape) (first_bit layout + item.offset + item.size * item.count)
    by_shape Padding e = stretch_lies (field_segment layout i 0 item.offset (item.size * item.count)) some
    by_shape Variable e = all (ap is_padding e)
    by_shape Array e = all (ap is_padding e)

-- a report that is the only one of its kind and ID is found by them
only_one : (rs : List Report) (r : ℕ) (report : Report) → slice_get rs r ≡ Some report
    → ((k : ℕ) (b : Report) → slice_get rs k ≡ Some b → b.kind ≡ report.kind → b.id ≡ report.id → k ≡ r)
    → (report_place report.kind report.id rs ≡ r) × (bits_in_report report.kind report.id rs ≡ report.bits)
only_one [] r report at one = absurd cc
only_one (x ∷ rs) zero report at one =
    let same : x ≡ report = cc in
    let own : is_report report.kind report.id report ≡ true =
    (let kind = same_kind_itself report.kind in grind (arith, common_steps, nat_tests)) in
    let found : is_report report.kind report.id x ≡ true = ap (is_report report.kind report.id) same ∙ own in
    rw found (refl, ap (λ (b : Report). b.bits) same)
only_one (x ∷ rs) (suc r) report at one =
    by_case (is_report report.kind report.id x) refl
    (only_one rs r report at (λ k b there kind id. let next : suc k ≡ suc r = one (suc k) b there kind id in omega (arith, next)))
  where
    both : (a b : Bool) → (a && b) ≡ true → (a ≡ true) × (b ≡ true)
    both true b e = (refl, e)
    both false b e = absurd cc

    by_case : (b : Bool) → is_report report.kind report.id x ≡ b
        → (report_place report.kind report.id rs ≡ r) × (bits_in_report report.kind report.id rs ≡ report.bits)
        → (cond b 0 (report_place report.kind report.id rs + 1) ≡ suc r)
        × (cond b x.bits (bits_in_report report.kind report.id rs) ≡ report.bits)
    by_case true e rest =
        let tests = both (same_kind x.kind report.kind) (nat_eq x.id report.id) e in
        let there : 0 ≡ suc r = one 0 x refl (kinds_equal x.kind report.kind tests.0) (let t = tests.1 in grind (arith, nat_tests)) in
        absurd (omega (arith, there))
    by_case false e rest = (omega (arith, rest.0), rest.1)

-- the report at the place of a kind and an ID has them
placed_is : (rs : List Report) (kind : ReportKind) (id r : ℕ) (report : Report) → report_place kind id rs ≡ r
    → slice_get rs r ≡ Some report
    → is_report kind id report ≡ true
placed_is [] kind id r report place at = absurd cc
placed_is (x ∷ rs) kind id zero report place at = by_case (is_report kind id x) refl place
  where
    by_case : (b : Bool) → is_report kind id x ≡ b → cond b 0 (report_place kind id rs + 1) ≡ 0
        → is_report kind id report ≡ true
    by_case true e place = let same : x ≡ report = cc in ap (is_report kind id) (sym same) ∙ e
    by_case false e place = absurd (omega (arith, place))
placed_is (x ∷ rs) kind id (suc r) report place at =
    by_case (is_report kind id x) place (λ later. placed_is rs kind id r report later at)
  where
    by_case : (b : Bool) → cond b 0 (report_place kind id rs + 1) ≡ suc r
        → (report_place kind id rs ≡ r → is_report kind id report ≡ true)
        → is_report kind id report ≡ true
    by_case true place rest = absurd (omega (arith, place))
    by_case false place rest = rest (omega (arith, place))

some_at : {A : Type 0} (xs : List A) (i : ℕ) → i < length xs → (x : A) × (slice_get xs i ≡ Some x)
some_at [] i below = absurd (omega (arith, below))
some_at (x ∷ xs) zero below = (x, refl)
some_at (x ∷ xs) (suc i) below = some_at xs i (omega (arith, below))

one_more : {A : Type 0} (xs : List A) (i : ℕ) (x : A) → slice_get xs i ≡ Some x → take (suc i) xs ≡ take i xs ++ x ∷ []
one_more [] i x at = absurd cc
one_more (y ∷ xs) zero x at = let same : y ≡ x = cc in ap (λ z. z ∷ []) same
one_more (y ∷ xs) (suc i) x at = ap (λ l. y ∷ l) (one_more xs i x at)

map_at : {A B : Type 0} (f : A → B) (xs : List A) (i : ℕ) (x : A) → slice_get xs i ≡ Some x → slice_get (map f xs) i ≡ Some (f x)
map_at f [] i x at = absurd cc
map_at f (y ∷ xs) zero x at = let same : y ≡ x = cc in ap (λ z. Some (f z)) same
map_at f (y ∷ xs) (suc i) x at = map_at f xs i x at

map_length : {A B : Type 0} (f : A → B) (xs : List A) → length (map f xs) ≡ length xs
map_length f [] = refl
map_length f (x ∷ xs) = ap suc (map_length f xs)

-- one item of the report more
item_lies : (limits : Limits) (fs : List Field) (numbered : Bool) (r : ℕ) (report : Report) → AreListed limits fs → IsLayout (contents_of fs numbered)
    → slice_get (reports_of fs) r ≡ Some report → (i : ℕ) (f : Field) → slice_get fs i ≡ Some f
    → LieFrom (first_bit (contents_of fs numbered) + report_bits report.kind report.id (take i fs))
    (item_pieces (contents_of fs numbered) r i (slice_get (contents_of fs numbered).items i))
    (first_bit (contents_of fs numbered) + report_bits report.kind report.id (take (suc i) fs))
item_lies limits fs numbered r report a h at i f there = rw there_in (by_report (is_of report.kind report.id f) refl)
  where
    layout : Contents
    layout = contents_of fs numbered

    there_in : slice_get (contents_of fs numbered).items i ≡ Some (main_item (reports_of fs) f)
    there_in = map_at (main_item (reports_of fs)) fs i f there

    more : report_bits report.kind report.id (take (suc i) fs)
        ≡ report_bits report.kind report.id (take i fs) + cond (is_of report.kind report.id f) (bits_of f) 0
    more = ap (report_bits report.kind report.id) (one_more fs i f there) ∙ bits_added report.kind report.id (take i fs) f

    place : f.kind ≡ report.kind → f.id ≡ report.id → report_place f.kind f.id (reports_of fs) ≡ r
    place kind id =
        ap (λ (k : ReportKind). report_place k f.id (reports_of fs)) kind
        ∙ ap (λ (n : ℕ). report_place report.kind n (reports_of fs)) id
        ∙ (only_one (reports_of fs) r report at (λ k b e kinds ids. h.one_place k r b report e at kinds ids)).0

    by_report : (b : Bool) → is_of report.kind report.id f ≡ b
        → LieFrom (first_bit layout + report_bits report.kind report.id (take i fs))
        (cond (nat_eq (report_place f.kind f.id (reports_of fs)) r)
        (shape_pieces layout i (main_item (reports_of fs) f) f.shape) [])
        (first_bit layout + report_bits report.kind report.id (take (suc i) fs))
    by_report true e =
        let own = id_of report.kind report.id f e in
        let here : nat_eq (report_place f.kind f.id (reports_of fs)) r ≡ true =
        (let p = place own.0 own.1 in grind (arith, nat_tests)) in
        let offset : f.offset ≡ report_bits report.kind report.id (take i fs) =
        a.offsets i f there ∙ ap (λ (k : ReportKind). report_bits k f.id (take i fs)) own.0 ∙ ap (λ (n : ℕ). report_bits report.kind n (take i fs)) own.1 in
        let grown : report_bits report.kind report.id (take (suc i) fs) ≡ report_bits report.kind report.id (take i fs) + bits_of f =
        more ∙ ap (λ (b : Bool). report_bits report.kind report.id (take i fs) + cond b (bits_of f) 0) e in
        rw here
        (same_ends _ _ _ _ (shape_pieces layout i (main_item (reports_of fs) f) f.shape) (omega (arith, offset)) (omega (arith, offset, grown))
        (shape_lies layout i (main_item (reports_of fs) f) there_in (a.sound i f there).some_bits (λ plain. ((a.sound i f there).values plain).some_bits)))
    by_report false e =
        let other : nat_eq (report_place f.kind f.id (reports_of fs)) r ≡ false =
        by_place (nat_eq (report_place f.kind f.id (reports_of fs)) r) refl in
        rw other
        (let none = more ∙ ap (λ (b : Bool). report_bits report.kind report.id (take i fs) + cond b (bits_of f) 0) e in omega (arith, none))
      where
        turned : is_report f.kind f.id report ≡ true → is_of report.kind report.id f ≡ true
        turned e = by_kind (same_kind report.kind f.kind) refl e
          where
            by_kind : (b : Bool) → same_kind report.kind f.kind ≡ b → (b && nat_eq report.id f.id) ≡ true → is_of report.kind report.id f ≡ true
            by_kind true k e =
                let same : report.kind ≡ f.kind = kinds_equal report.kind f.kind k in
                let kind : same_kind f.kind report.kind ≡ true = ap (same_kind f.kind) same ∙ same_kind_itself f.kind in
                grind (arith, common_steps, nat_tests)
            by_kind false k e = absurd cc

        by_place : (b : Bool) → nat_eq (report_place f.kind f.id (reports_of fs)) r ≡ b → b ≡ false
        by_place true p =
            let same : report_place f.kind f.id (reports_of fs) ≡ r = grind (arith, nat_tests) in
            absurd (let q : true ≡ false = sym (turned (placed_is (reports_of fs) f.kind f.id r report same at)) ∙ e in cc)
        by_place false p = refl

-- the first items of the report
items_lie : (limits : Limits) (fs : List Field) (numbered : Bool) (r : ℕ) (report : Report) → AreListed limits fs → IsLayout (contents_of fs numbered)
    → slice_get (reports_of fs) r ≡ Some report → (n : ℕ) → n ≤ length fs
    → LieFrom (first_bit (contents_of fs numbered))
    (concat_lists n (λ i. item_pieces (contents_of fs numbered) r i (slice_get (contents_of fs numbered).items i)))
    (first_bit (contents_of fs numbered) + report_bits report.kind report.id (take n fs))
items_lie limits fs numbered r report a h at zero within = omega arith
items_lie limits fs numbered r report a h at (suc i) within =
    let f = some_at fs i (omega (arith, within)) in
    behind (first_bit (contents_of fs numbered)) _ _
    (concat_lists i (λ i. item_pieces (contents_of fs numbered) r i (slice_get (contents_of fs numbered).items i))) _
    (items_lie limits fs numbered r report a h at i (omega (arith, within)))
    (item_lies limits fs numbered r report a h at i f.0 f.1)

id_lies : (layout : Contents) → LieFrom 0 (id_pieces layout) (first_bit layout)
id_lies layout = by_numbers layout.numbered
  where
    by_numbers : (b : Bool) → LieFrom 0 (cond b (record { part = ReportId; byte = 0; low = 0; high = 8; front = 0; width = 8 } ∷ []) []) (cond b 8 0)
    by_numbers true = (refl, omega arith, omega arith, refl)
    by_numbers false = refl

filler_lies : (layout : Contents) (r : ℕ) (report : Report) → slice_get layout.reports r ≡ Some report
    → LieFrom (first_bit layout + report.bits) (padding_pieces layout (Some report)) (8 * report_bytes layout r)
filler_lies layout r report at = by_rest ((report.bits % 8) == 0) refl
  where
    bytes : 8 * report_bytes layout r ≡ first_bit layout + 8 * ((report.bits + 7) / 8)
    bytes = by_numbers layout.numbered
      where
        by_numbers : (b : Bool) → 8 * ((bits_of_report layout.reports r + 7) / 8 + cond b 1 0) ≡ cond b 8 0 + 8 * ((report.bits + 7) / 8)
        by_numbers true = omega (arith, bits_at layout.reports r report at)
        by_numbers false = omega (arith, bits_at layout.reports r report at)

    by_rest : (b : Bool) → nat_eq (report.bits % 8) 0 ≡ b
        → LieFrom (first_bit layout + report.bits)
        (cond b []
        (segment_pieces
        (record { part = FinalPadding; bit = first_bit layout + report.bits; width = 8 - report.bits % 8 })))
        (8 * report_bytes layout r)
    by_rest true e = let none : report.bits % 8 ≡ 0 = grind (arith, nat_tests) in omega (arith, bytes, none)
    by_rest false e =
        let some : 0 < report.bits % 8 = grind (arith, nat_tests) in
        same_ends _ _ _ _
        (segment_pieces
        (record { part = FinalPadding; bit = first_bit layout + report.bits; width = 8 - report.bits % 8 })) refl
        (omega (arith, bytes, some))
        (stretch_lies
        (record { part = FinalPadding; bit = first_bit layout + report.bits; width = 8 - report.bits % 8 })
        (omega arith))

report_filled : (limits : Limits) (fs : List Field) (numbered : Bool) (r : ℕ) (report : Report) → AreListed limits fs → IsLayout (contents_of fs numbered)
    → slice_get (reports_of fs) r ≡ Some report
    → LieFrom 0 (pieces_of (contents_of fs numbered) r) (8 * report_bytes (contents_of fs numbered) r)
unfolding pieces_of
report_filled limits fs numbered r report a h at =
    let found = only_one (reports_of fs) r report at (λ k b e kinds ids. h.one_place k r b report e at kinds ids) in
    let bits : report_bits report.kind report.id (take (length fs) fs) ≡ report.bits =
    ap (report_bits report.kind report.id) (take_all (length fs) fs (omega arith))
    ∙ sym (bits_in_report-reports_of report.kind report.id fs (h.byte_id r report at)) ∙ found.1 in
    let all : length (contents_of fs numbered).items ≡ length fs = map_length (main_item (reports_of fs)) fs in
    rw (at, all)
    (behind 0 (first_bit (contents_of fs numbered) + report.bits) _
    (id_pieces (contents_of fs numbered)
    ++ concat_lists (length fs)
    (λ i. item_pieces (contents_of fs numbered) r i (slice_get (contents_of fs numbered).items i)))
    (padding_pieces (contents_of fs numbered) (Some report))
    (behind 0 (first_bit (contents_of fs numbered)) _ (id_pieces (contents_of fs numbered)) _ (id_lies (contents_of fs numbered))
    (same_ends _ _ _ _
    (concat_lists (length fs)
    (λ i. item_pieces (contents_of fs numbered) r i (slice_get (contents_of fs numbered).items i))) refl
    (omega (arith, bits))
    (items_lie limits fs numbered r report a h at (length fs) (omega arith))))
    (filler_lies (contents_of fs numbered) r report at))

-- each of some items that are all encodings, the last one first, is one
are_spelled : (before : List EncodedItem) → All IsItemEncoding (reverse before) → AreSpelled before
are_spelled [] all = tt
are_spelled (item ∷ before) all =
    let split = subst (All IsItemEncoding) (reverse_more before item) all in
    (All-head IsItemEncoding item [] (All-right (reverse before) (item ∷ []) split), are_spelled before (All-left (reverse before) (item ∷ []) split))
  where
    All-left : (xs ys : List EncodedItem) → All IsItemEncoding (xs ++ ys) → All IsItemEncoding xs
    All-left [] ys all = All-nil IsItemEncoding
    All-left (x ∷ xs) ys all =
        All-cons IsItemEncoding x xs (All-head IsItemEncoding x (xs ++ ys) all) (All-left xs ys (All-tail IsItemEncoding x (xs ++ ys) all))

    All-right : (xs ys : List EncodedItem) → All IsItemEncoding (xs ++ ys) → All IsItemEncoding ys
    All-right [] ys all = all
    All-right (x ∷ xs) ys all = All-right xs ys (All-tail IsItemEncoding x (xs ++ ys) all)

pub reports_filled : (limits : Limits) (descriptor : List ℕ) (before : List EncodedItem) (r : ℕ) → Accepts limits descriptor before → r < length (layout_of before).reports
    → LieFrom 0 (pieces_of (layout_of before) r) (8 * report_bytes (layout_of before) r)
reports_filled limits descriptor before r a there =
    let report = some_at (reports_of (fields before)) r there in
    report_filled limits (fields before) (list_any (is REPORT_ID) before) r report.0
    (listed limits before a.reaches.accepted (are_spelled before a.reaches.items.encoded)) (layout_of_accepted limits descriptor before a) report.1

-- which bits a piece has
within : (bit : ℕ) (piece : ByteSlice) → has_bit bit piece ≡ true
    → (8 * piece.byte + piece.low ≤ bit) × (bit < 8 * piece.byte + piece.high)
within bit piece e =
    let tests = and_parts (nat_eq piece.byte (bit / 8)) (nat_le piece.low (bit % 8) && nat_lt (bit % 8) piece.high) e in
    let ends = and_parts (nat_le piece.low (bit % 8)) (nat_lt (bit % 8) piece.high) tests.1 in
    let byte : piece.byte ≡ bit / 8 = (let t = tests.0 in grind (arith, nat_tests)) in
    let low : piece.low ≤ bit % 8 = (let t = ends.0 in grind (arith, nat_tests)) in
    let high : bit % 8 < piece.high = (let t = ends.1 in grind (arith, nat_tests)) in
    (omega (arith, byte, low), omega (arith, byte, high))

has_it : (bit : ℕ) (piece : ByteSlice) → piece.high ≤ 8 → 8 * piece.byte + piece.low ≤ bit
    → bit < 8 * piece.byte + piece.high
    → has_bit bit piece ≡ true
has_it bit piece small from to =
    let byte : nat_eq piece.byte (bit / 8) ≡ true = (let same : piece.byte ≡ bit / 8 = omega (arith, small, from, to) in grind (arith, nat_tests)) in
    let low : nat_le piece.low (bit % 8) ≡ true = (let in_it : piece.low ≤ bit % 8 = omega (arith, small, from, to) in grind (arith, nat_tests)) in
    let high : nat_lt (bit % 8) piece.high ≡ true = (let in_it : bit % 8 < piece.high = omega (arith, small, from, to) in grind (arith, nat_tests)) in
    rw (byte, low, high) refl

has_not : (bit : ℕ) (piece : ByteSlice) → (8 * piece.byte + piece.low ≤ bit → bit < 8 * piece.byte + piece.high → ⊥)
    → has_bit bit piece ≡ false
has_not bit piece out = by_case (has_bit bit piece) refl
  where
    by_case : (b : Bool) → has_bit bit piece ≡ b → b ≡ false
    by_case true e = let has = within bit piece e in absurd (out has.0 has.1)
    by_case false e = refl

-- pieces that lie one after the other have no bit in front of them
none_before : (bit from to : ℕ) (pieces : List ByteSlice) → LieFrom from pieces to → bit < from
    → count_by (has_bit bit) pieces ≡ 0
none_before bit from to [] lie before = refl
none_before bit from to (piece ∷ pieces) lie before =
    let not_here : has_bit bit piece ≡ false = has_not bit piece (λ a b. omega (arith, lie.0, before, a)) in
    let rest : count_by (has_bit bit) pieces ≡ 0 = none_before bit (8 * piece.byte + piece.high) to pieces lie.3 (omega (arith, lie.0, lie.1, before)) in
    sum_by-cons (λ (p : ByteSlice). cond (has_bit bit p) 1 0) piece pieces ∙ rw (not_here, rest) refl

-- pieces that lie one after the other have each bit from the first to the last once
one_in : (bit from to : ℕ) (pieces : List ByteSlice) → LieFrom from pieces to → from ≤ bit → bit < to
    → count_by (has_bit bit) pieces ≡ 1
one_in bit from to [] lie first last = absurd (omega (arith, lie, first, last))
one_in bit from to (piece ∷ pieces) lie first last =
    sum_by-cons (λ (p : ByteSlice). cond (has_bit bit p) 1 0) piece pieces
    ∙ by_case (nat_lt bit (8 * piece.byte + piece.high)) refl
    (λ later. one_in bit (8 * piece.byte + piece.high) to pieces lie.3 later last)
    (λ before. none_before bit (8 * piece.byte + piece.high) to pieces lie.3 before)
  where
    by_case : (b : Bool) → nat_lt bit (8 * piece.byte + piece.high) ≡ b
        → (8 * piece.byte + piece.high ≤ bit → count_by (has_bit bit) pieces ≡ 1)
        → (bit < 8 * piece.byte + piece.high → count_by (has_bit bit) pieces ≡ 0)
        → cond (has_bit bit piece) 1 0 + count_by (has_bit bit) pieces ≡ 1
    by_case true e later before =
        let under : bit < 8 * piece.byte + piece.high = grind (arith, nat_tests) in
        let here : has_bit bit piece ≡ true = has_it bit piece lie.2 (omega (arith, lie.0, first)) under in
        rw (here, before under) refl
    by_case false e later before =
        let over : 8 * piece.byte + piece.high ≤ bit = grind (arith, nat_tests) in
        let not_here : has_bit bit piece ≡ false = has_not bit piece (λ a b. omega (arith, over, b)) in
        rw (not_here, later over) refl

pub bits_once : (limits : Limits) (descriptor : List ℕ) (before : List EncodedItem) (r bit : ℕ) → Accepts limits descriptor before → r < length (layout_of before).reports
    → bit < 8 * report_bytes (layout_of before) r → count_by (has_bit bit) (pieces_of (layout_of before) r) ≡ 1
bits_once limits descriptor before r bit a there below =
    one_in bit 0 (8 * report_bytes (layout_of before) r) (pieces_of (layout_of before) r) (reports_filled limits descriptor before r a there) (omega arith) below
