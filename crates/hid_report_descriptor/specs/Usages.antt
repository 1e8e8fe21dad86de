-- The usages of a main item (HID 1.11, 6.2.2.8).
use Rattle.std.specs.Prelude.{ℕ, zero, suc, ◌+◌, ◌-◌, ◌/◌, ◌%◌, ◌^◌, Bool, not, ◌||◌, List, [], ◌∷◌, ◌++◌, length, reverse, filter, Option, Some, None, ◌==◌, nat_le, ◌&&◌, if◌then◌else◌, slice_get}
use Rattle.std.specs.List.{take_while, list_all, flat_map}
use Rattle.std.specs.Option.{option_map}
use Rattle.hid_items.specs.ItemEncoding.{data_of, unsigned_of}
use Rattle.hid_report_descriptor.specs.declared.usage.Usage.{Usage}
use Rattle.hid_report_descriptor.specs.Items.{EncodedItem, is, is_main, USAGE, USAGE_MINIMUM, USAGE_MAXIMUM}
use Rattle.hid_report_descriptor.specs.Globals.{usage_page}

-- the items after the last main item, in order
abbrev pub locals : List EncodedItem → List EncodedItem
locals before = reverse (take_while (λ item. not (is_main item)) before)

-- The usage that an item names. One of four bytes has its page in the high word; another is on the given page.
abbrev pub usage_named : ℕ → EncodedItem → Usage
usage_named page item =
    let n = unsigned_of (data_of item) in
    if length (data_of item) == 4 then record { page = n / 2 ^ 16; id = n % 2 ^ 16 } else record { page = page; id = n }

-- a range of usages, from the first to the second
abbrev pub Entry : Type 0
Entry = Usage × Usage

-- the range from the usage of one item to that of another
abbrev pub entry_of : ℕ → EncodedItem → EncodedItem → Entry
entry_of page low high = (usage_named page low, usage_named page high)

-- the Usage Minimum items among these
abbrev pub minima : List EncodedItem → List EncodedItem
minima items = filter (is USAGE_MINIMUM) items

-- the Usage Maximum items among these
abbrev pub maxima : List EncodedItem → List EncodedItem
maxima items = filter (is USAGE_MAXIMUM) items

-- a value that may be there, as a list
abbrev pub to_list : {A : Type 0} → Option A → List A
to_list None = []
to_list (Some x) = x ∷ []

-- The entry that is whole at a local item, after the locals in front of it: a Usage's own, or that of the
-- k-th Usage Minimum with the k-th Usage Maximum, at the later of the two.
abbrev pub entry_at : ℕ → List EncodedItem → EncodedItem → List Entry
entry_at page front item =
    if is USAGE item then entry_of page item item ∷ []
    else (if is USAGE_MINIMUM item
    then to_list (option_map (λ high. entry_of page item high) (slice_get (maxima front) (length (minima front))))
    else (if is USAGE_MAXIMUM item
    then to_list (option_map (λ low. entry_of page low item) (slice_get (minima front) (length (maxima front))))
    else []))

-- the entries that these local items make whole, after the locals in front of them
abbrev pub following_entries : ℕ → List EncodedItem → List EncodedItem → List Entry
following_entries page front [] = []
following_entries page front (item ∷ items) =
    entry_at page front item ++ following_entries page (front ++ item ∷ []) items

-- the entries of the main item after these, on the Usage Page in force at that item
abbrev pub entries : List EncodedItem → List Entry
entries before = following_entries (usage_page before) [] (locals before)

-- each Usage Minimum has its Usage Maximum
abbrev pub are_paired : List EncodedItem → Bool
are_paired before = length (minima (locals before)) == length (maxima (locals before))

-- the minimum isn't over its maximum, and the two are on one page
abbrev pub is_range : Entry → Bool
is_range e = e.0.page == e.1.page && nat_le e.0.id e.1.id

-- each entry is a range from a lower to a higher usage of one page
abbrev pub are_ranges : List Entry → Bool
are_ranges es = list_all is_range es

-- `n` usages of a page by rising number
abbrev pub usages_from : ℕ → ℕ → ℕ → List Usage
usages_from page id zero = []
usages_from page id (suc n) = record { page = page; id = id } ∷ usages_from page (id + 1) n

-- a range has as many usages as IDs, and none if its minimum is over its maximum
abbrev pub entry_count : Entry → ℕ
entry_count e = (e.1.id + 1) - e.0.id

-- the usage list: each range written out by rising ID, on its minimum's page. Example: 09:01-09:03 is 09:01, 09:02,
-- 09:03
abbrev pub usage_list : List Entry → List Usage
usage_list es = flat_map (λ e. usages_from e.0.page e.0.id (entry_count e)) es

-- for each range how many usages stand before it
abbrev pub starts_from : ℕ → List Entry → List ℕ
starts_from n [] = []
starts_from n (e ∷ es) = n ∷ starts_from (n + entry_count e) es

-- for each range of a main item how many of its usages stand before it. Example: 0 and 3 for 09:01-09:03, 09:05
abbrev pub starts_of : List Entry → List ℕ
starts_of es = starts_from 0 es

-- the usage is a keyboard's ErrorRollOver, 07:01 (HID Usage Tables, Keyboard/Keypad page)
abbrev pub is_rollover : Usage → Bool
is_rollover u = (u.page == 7) && (u.id == 1)

-- the usage is a keyboard's ErrorRollOver, POSTFail or ErrorUndefined, 07:01 to 07:03, which report an error
abbrev pub is_keyboard_error : Usage → Bool
is_keyboard_error u = (u.page == 7) && ((u.id == 1) || ((u.id == 2) || (u.id == 3)))
