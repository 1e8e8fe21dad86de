-- The items that fields are made from (HID 1.11, 6.2.2). An item is known by its encoding. `before` stands
-- for the items before some item, the nearest first.
use Rattle.std.specs.Prelude.{ℕ, Bool, List, ◌==◌, ◌||◌}
use Rattle.hid_items.specs.ItemEncoding.{prefix_of}

-- an item as it is encoded: its bytes
abbrev pub EncodedItem : Type 0
EncodedItem = List ℕ

-- the item has this prefix
abbrev pub is : ℕ → EncodedItem → Bool
is prefix item = prefix_of item == prefix

-- the prefix of Input, a main item (6.2.2.4)
abbrev pub INPUT : ℕ
INPUT = 0x80

-- the prefix of Output, a main item (6.2.2.4)
abbrev pub OUTPUT : ℕ
OUTPUT = 0x90

-- the prefix of Feature, a main item (6.2.2.4)
abbrev pub FEATURE : ℕ
FEATURE = 0xB0

-- the prefix of Collection, a main item (6.2.2.4)
abbrev pub COLLECTION : ℕ
COLLECTION = 0xA0

-- the prefix of End Collection, a main item (6.2.2.4)
abbrev pub END_COLLECTION : ℕ
END_COLLECTION = 0xC0

-- the prefix of Usage Page, a global item (6.2.2.7)
abbrev pub USAGE_PAGE : ℕ
USAGE_PAGE = 0x04

-- the prefix of Logical Minimum, a global item (6.2.2.7)
abbrev pub LOGICAL_MINIMUM : ℕ
LOGICAL_MINIMUM = 0x14

-- the prefix of Logical Maximum, a global item (6.2.2.7)
abbrev pub LOGICAL_MAXIMUM : ℕ
LOGICAL_MAXIMUM = 0x24

-- the prefix of Report Size, a global item (6.2.2.7)
abbrev pub REPORT_SIZE : ℕ
REPORT_SIZE = 0x74

-- the prefix of Report ID, a global item (6.2.2.7)
abbrev pub REPORT_ID : ℕ
REPORT_ID = 0x84

-- the prefix of Report Count, a global item (6.2.2.7)
abbrev pub REPORT_COUNT : ℕ
REPORT_COUNT = 0x94

-- the prefix of Push, a global item (6.2.2.7)
abbrev pub PUSH : ℕ
PUSH = 0xA4

-- the prefix of Pop, a global item (6.2.2.7)
abbrev pub POP : ℕ
POP = 0xB4

-- the prefix of Usage, a local item (6.2.2.8)
abbrev pub USAGE : ℕ
USAGE = 0x08

-- the prefix of Usage Minimum, a local item (6.2.2.8)
abbrev pub USAGE_MINIMUM : ℕ
USAGE_MINIMUM = 0x18

-- the prefix of Usage Maximum, a local item (6.2.2.8)
abbrev pub USAGE_MAXIMUM : ℕ
USAGE_MAXIMUM = 0x28

-- the prefix of Delimiter, a local item (6.2.2.8)
abbrev pub DELIMITER : ℕ
DELIMITER = 0xA8

-- an Input, Output or Feature item, which describes fields of a report
abbrev pub is_field : EncodedItem → Bool
is_field item = is INPUT item || (is OUTPUT item || is FEATURE item)

-- a Usage, Usage Minimum or Usage Maximum item, which names a usage
abbrev pub names_usage : EncodedItem → Bool
names_usage item = is USAGE item || (is USAGE_MINIMUM item || is USAGE_MAXIMUM item)

-- any of the five main items, at which locals end
abbrev pub is_main : EncodedItem → Bool
is_main item = is_field item || (is COLLECTION item || is END_COLLECTION item)
