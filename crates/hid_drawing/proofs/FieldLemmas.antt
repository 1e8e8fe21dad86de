-- The places with bits are those of the fields that a descriptor lists.
use Rattle.std.proofs.Common.{◌≡◌, ℕ, zero, suc, ◌+◌, ◌*◌, ◌<◌, ◌≤◌, Bool, true, false, cond, not, ◌&&◌, ◌==◌, nat_eq, List, [], ◌∷◌, ◌++◌, length, map, take, drop, reverse, refl, sym, ◌∙◌, ap, subst, arith, Option, None, Some, append-nil, length-append, get_or, inl, inr}
use Rattle.std.specs.Prelude.{All, ◌⊎◌}
use Rattle.std.specs.List.{list_any, flat_map}
use Rattle.std.proofs.lemmas.Grind.{common_steps}
use Rattle.std.proofs.lemmas.Bool.Decides.{nat_tests}
use Rattle.std.proofs.lemmas.List.{reverse-append, reverse-reverse, take_at, drop_at, take_all}
use Rattle.std.proofs.lemmas.List.Elements.{All-nil, All-cons}
use Rattle.std.proofs.Math.Seq.{take-suc}
use Rattle.hid_items.specs.ItemEncoding.{IsItemEncoding, AreItems, IsTruncatedAt, IsCut, data_of, little_endian, unsigned_of}
use Rattle.hid_items.specs.declared.encoding.Item.{Item}
use Rattle.hid_report_descriptor.specs.declared.limits.Limits.{Limits}
use Rattle.hid_report_descriptor.specs.Faults.{Accepts}
use Rattle.hid_report_descriptor.specs.Fields.{Field, fields, add_field, bits_of}
use Rattle.hid_report_descriptor.specs.Globals.{look_back, report_size, report_count}
use Rattle.hid_report_descriptor.specs.Items.{EncodedItem, is, is_field, PUSH, POP, REPORT_SIZE, REPORT_COUNT}
use Rattle.hid_report_descriptor.specs.Matching.{waiting_after}
use Rattle.hid_layout.specs.Layout.{main_item, layout_of}
use Rattle.hid_drawing.specs.Items.{AreItemsOf, ArePlaced, bytes_in, item_encoding_at}
use Rattle.hid_drawing.specs.Laws.{encoded_before, field_from}
use Rattle.hid_drawing.specs.Origins.{nearest_place, is_positive_at, global_place, is_listed, listed_places}

-- the data of the item at a place that there may be
abbrev value_at : List Item → Option ℕ → List ℕ
value_at items None = []
value_at items (Some k) = data_of (item_encoding_at items k)

-- looking back by places is looking back by items
looks_same : (items : List Item) (prefix waiting n : ℕ)
    → look_back prefix waiting (encoded_before items n) ≡ value_at items (nearest_place items prefix waiting n)
looks_same items prefix waiting zero = refl
looks_same items prefix waiting (suc k) =
    by_case _ (nearest_place items prefix (waiting_after PUSH POP waiting (item_encoding_at items k)) k)
    ((waiting == 0) && is prefix (item_encoding_at items k))
    (looks_same items prefix (waiting_after PUSH POP waiting (item_encoding_at items k)) k)
  where
    by_case : (before : List ℕ) (place : Option ℕ) (b : Bool) → before ≡ value_at items place
        → cond b (data_of (item_encoding_at items k)) before ≡ value_at items (cond b (Some k) place)
    by_case before place true same = refl
    by_case before place false same = same

-- a number isn't 0 where some byte isn't
some_byte : (bytes : List ℕ) → list_any (λ byte. not (byte == 0)) bytes ≡ not (little_endian bytes == 0)
some_byte [] = refl
some_byte (byte ∷ bytes) = let rest = some_byte bytes in grind (arith, common_steps, nat_tests)

positive_value : (items : List Item) (place : Option ℕ) → is_positive_at items place ≡ not (unsigned_of (value_at items place) == 0)
positive_value items None = refl
positive_value items (Some k) = some_byte (data_of (item_encoding_at items k))

positive_global : (items : List Item) (m prefix : ℕ)
    → is_positive_at items (global_place items m prefix) ≡ not (unsigned_of (look_back prefix 0 (encoded_before items m)) == 0)
positive_global items m prefix =
    positive_value items (global_place items m prefix)
    ∙ ap (λ (bytes : List ℕ). not (unsigned_of bytes == 0)) (sym (looks_same items prefix 0 m))

some_product : (a b : ℕ) → (not (a == 0) && not (b == 0)) ≡ not (a * b == 0)
some_product zero b = let none : 0 * b ≡ 0 = omega arith in rw none refl
some_product (suc a) zero =
    let none : suc a * 0 ≡ 0 = omega arith in
    let some : nat_eq (suc a) 0 ≡ false = grind (arith, nat_tests) in
    rw (none, some) refl
some_product (suc a) (suc b) =
    let some : suc a * suc b ≡ suc (b + a * suc b) = omega arith in
    rw some (grind (arith, nat_tests))

-- an item is listed where it describes a field with bits
listed_field : (items : List Item) (m : ℕ)
    → is_listed items m ≡ (is_field (item_encoding_at items m) && not (bits_of (field_from items m) == 0))
listed_field items m =
    ap (λ (b : Bool). is_field (item_encoding_at items m) && b)
    (rw (positive_global items m REPORT_SIZE, positive_global items m REPORT_COUNT)
    (some_product (report_size (encoded_before items m)) (report_count (encoded_before items m))))

map_more : {A B : Type 0} (f : A → B) (xs ys : List A) → map f (xs ++ ys) ≡ map f xs ++ map f ys
map_more f [] ys = refl
map_more f (x ∷ xs) ys = ap (λ l. f x ∷ l) (map_more f xs ys)

fields_below : (items : List Item) (n : ℕ)
    → fields (encoded_before items n) ≡ map (field_from items) (listed_places items n)
unfolding add_field
fields_below items zero = refl
fields_below items (suc m) =
    by_case (is_field (item_encoding_at items m)) (bits_of (field_from items m) == 0) (is_listed items m)
    (fields_below items m) (listed_field items m)
    ∙ sym (map_more (field_from items) (listed_places items m) (cond (is_listed items m) (m ∷ []) []))
  where
    by_case : {earlier shown : List Field} (f none l : Bool) → earlier ≡ shown → l ≡ (f && not none)
        → cond f (cond none earlier (earlier ++ field_from items m ∷ [])) earlier
        ≡ shown ++ map (field_from items) (cond l (m ∷ []) [])
    by_case true true false same is = same ∙ sym (append-nil _)
    by_case true false true same is = ap (λ l. l ++ field_from items m ∷ []) same
    by_case false none false same is = same ∙ sym (append-nil _)
    by_case true true true same is = absurd cc
    by_case true false false same is = absurd cc
    by_case false none true same is = absurd cc

-- how items are encoded, in order
abbrev encodings : List Item → List EncodedItem
encodings items = map (λ item. item.bytes.now) items

spelling_at : (items : List Item) (k : ℕ) (d : EncodedItem) → k < length items
    → get_or (encodings items) k d ≡ item_encoding_at items k
spelling_at [] k d below = absurd (omega (arith, below))
spelling_at (item ∷ items) zero d below = refl
spelling_at (item ∷ items) (suc k) d below = spelling_at items k d (omega (arith, below))

spelled_length : (items : List Item) → length (encodings items) ≡ length items
spelled_length [] = refl
spelled_length (item ∷ items) = ap suc (spelled_length items)

first_spelled : (items : List Item) (n : ℕ) → n ≤ length items → encoded_before items n ≡ reverse (take n (encodings items))
first_spelled items zero within = refl
first_spelled items (suc k) within =
    let below : k < length (encodings items) = omega (arith, within, spelled_length items) in
    rw (take-suc (encodings items) k [] below, reverse-append (take k (encodings items)) (get_or (encodings items) k [] ∷ []), spelling_at items k [] (omega (arith, within)))
    (ap (λ l. item_encoding_at items k ∷ l) (first_spelled items k (omega (arith, within))))

whole_spelled : (items : List Item) → encoded_before items (length items) ≡ reverse (encodings items)
whole_spelled items =
    first_spelled items (length items) (omega arith)
    ∙ ap reverse (take_all (length items) (encodings items) (omega (arith, spelled_length items)))

bytes_spelled : (items : List Item) → flat_map (λ item. item) (encodings items) ≡ bytes_in items
bytes_spelled [] = refl
bytes_spelled (item ∷ items) = ap (λ l. item.bytes.now ++ l) (bytes_spelled items)

all_spelled : (at : ℕ) (items : List Item) → ArePlaced at items → All IsItemEncoding (encodings items)
all_spelled at [] placed = All-nil IsItemEncoding
all_spelled at (item ∷ items) placed =
    All-cons IsItemEncoding item.bytes.now (encodings items) placed.1 (all_spelled (at + length item.bytes.now) items placed.2)

-- bytes are items in one way, and where they are, no reading of items is cut off
abbrev OneReading : Type 0
OneReading = (bytes : List ℕ) (items others : List EncodedItem) → AreItems bytes items → AreItems bytes others → items ≡ others

abbrev NoneCut : Type 0
NoneCut = (bytes : List ℕ) (at : ℕ) (items others : List EncodedItem) → IsTruncatedAt bytes at items → AreItems bytes others → ⊥

-- the items of a descriptor that is accepted are read to its end
are_whole : NoneCut → (descriptor : List ℕ) (items : List Item) (others : List EncodedItem) → AreItemsOf descriptor items → AreItems descriptor others
    → AreItems descriptor (encodings items)
are_whole none_cut descriptor items others read accepted = by_end read.ended
  where
    by_end : (read.rest ≡ []) ⊎ IsCut read.rest → AreItems descriptor (encodings items)
    by_end (inl ended) = record {
      joined = bytes_spelled items ∙ sym (append-nil (bytes_in items)) ∙ ap (λ l. bytes_in items ++ l) (sym ended) ∙ read.joined;
      encoded = all_spelled 0 items read.placed;
    }
    by_end (inr cut) =
        let front : take (length (bytes_in items)) descriptor ≡ bytes_in items = rw (sym read.joined) (take_at (bytes_in items) read.rest (length (bytes_in items)) refl) in
        let behind : drop (length (bytes_in items)) descriptor ≡ read.rest = rw (sym read.joined) (drop_at (bytes_in items) read.rest (length (bytes_in items)) refl) in
        absurd (none_cut descriptor (length (bytes_in items)) (encodings items) others
        (record {
          within = omega (arith, ap length (sym read.joined), length-append (bytes_in items) read.rest, cut.some);
          items_before = record { joined = bytes_spelled items ∙ sym front; encoded = all_spelled 0 items read.placed };
          cut = subst IsCut (sym behind) cut;
        })
        accepted)

whole_items : (limits : Limits) (descriptor : List ℕ) (before : List EncodedItem) → Accepts limits descriptor before → AreItems descriptor (reverse before)
whole_items limits descriptor before a = subst (λ l. AreItems l (reverse before)) (take_all (length descriptor) descriptor (omega arith)) a.reaches.items

pub same_items : (limits : Limits) → OneReading → NoneCut → (descriptor : List ℕ) (items : List Item) (before : List EncodedItem) → AreItemsOf descriptor items
    → Accepts limits descriptor before → before ≡ encoded_before items (length items)
same_items limits one none_cut descriptor items before read a =
    sym (reverse-reverse before)
    ∙ ap reverse (one descriptor (reverse before) (encodings items) (whole_items limits descriptor before a) (are_whole none_cut descriptor items (reverse before) read (whole_items limits descriptor before a)))
    ∙ sym (whole_spelled items)

-- the fields of the descriptor
pub all_fields : (limits : Limits) → OneReading → NoneCut → (descriptor : List ℕ) (items : List Item) (before : List EncodedItem) → AreItemsOf descriptor items
    → Accepts limits descriptor before → fields before ≡ map (field_from items) (listed_places items (length items))
all_fields limits one none_cut descriptor items before read a =
    ap fields (same_items limits one none_cut descriptor items before read a) ∙ fields_below items (length items)

map_map : {A B C : Type 0} (g : B → C) (f : A → B) (xs : List A) → map g (map f xs) ≡ map (λ x. g (f x)) xs
map_map g f [] = refl
map_map g f (x ∷ xs) = ap (λ l. g (f x) ∷ l) (map_map g f xs)

-- the listed items of its layout
pub all_items : (limits : Limits) → OneReading → NoneCut → (descriptor : List ℕ) (items : List Item) (before : List EncodedItem) → AreItemsOf descriptor items
    → Accepts limits descriptor before
    → (layout_of before).items
    ≡ map (λ m. main_item (layout_of before).reports (field_from items m)) (listed_places items (length items))
all_items limits one none_cut descriptor items before read a =
    ap (map (main_item (layout_of before).reports)) (all_fields limits one none_cut descriptor items before read a)
    ∙ map_map (main_item (layout_of before).reports) (field_from items) (listed_places items (length items))
