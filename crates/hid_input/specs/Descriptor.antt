-- Whole report descriptors (HID 1.11, 6.2.2).
use Rattle.std.specs.Prelude.{◌≡◌, ◌⊎◌, ℕ, ◌==◌, ◌-◌, ◌%◌, ◌+◌, ◌^◌, min, Bool, true, false, not, ◌&&◌, ◌||◌, List, [], ◌∷◌, ◌++◌, All, length, if◌then◌else◌, Option, None, Some, slice_index, nat_le, nat_lt}
use Rattle.std.specs.List.{flat_map, list_all, list_any}
use Rattle.std.specs.Option.{option_and_then}
use Rattle.hid_items.specs.declared.fault.ItemFault.{ItemFault}
use Rattle.hid_items.specs.declared.fault.ItemFault.TheVariants as items
use Rattle.hid_items.specs.ItemEncoding.{IsItemEncoding, IsCut, prefix_of}
use Rattle.hid_input.specs.declared.whole.DescriptorCause.{DescriptorCause}
use Rattle.hid_input.specs.declared.whole.DescriptorCause.TheVariants.{Truncated, EndWithout, Unclosed, Other}
use Rattle.hid_input.specs.declared.whole.DescriptorFault.{DescriptorFault}
use Rattle.hid_input.specs.declared.whole.Progress.{Progress}

-- nothing stands before the first item
abbrev pub start : Progress
start = record { depth = 0; is_begun = false; has_usage = false; is_page = false; is_closed = false }

-- a descriptor begins with a Usage Page of one or two bytes, or with a Usage of four, which has a page in it (6.2.2.7, 6.2.2.8; our choice).
-- The high byte of a page is 0, or F0 or over, as makers' pages have it
abbrev pub is_first : ℕ → List ℕ → Bool
is_first prefix item =
    ((prefix == 0x04) && (length item == 2))
    || ((((prefix == 0x04) && (length item == 3)) || ((prefix == 0x08) && (length item == 5)))
    && ((slice_index item (length item - 1) == 0) || nat_le 0xF0 (slice_index item (length item - 1))))

-- Input, Output, Feature and End Collection (6.2.2.4)
abbrev pub is_inner : ℕ → Bool
is_inner prefix = (prefix == 0x80) || ((prefix == 0x90) || ((prefix == 0xB0) || (prefix == 0xC0)))

-- Push and Pop (6.2.2.7)
abbrev pub is_stack : ℕ → Bool
is_stack prefix = (prefix == 0xA4) || (prefix == 0xB4)

-- an item of tables 6.2.2.7 and 6.2.2.8 other than Usage Page, Push and Pop
abbrev pub is_other : ℕ → Bool
is_other prefix =
    (prefix == 0x08) || ((prefix == 0x14) || ((prefix == 0x18) || ((prefix == 0x24) || ((prefix == 0x28) || ((prefix == 0x34)
    || ((prefix == 0x38) || ((prefix == 0x44) || ((prefix == 0x48) || ((prefix == 0x54) || ((prefix == 0x58) || ((prefix == 0x64)
    || ((prefix == 0x74) || ((prefix == 0x78) || ((prefix == 0x84) || ((prefix == 0x88) || ((prefix == 0x94) || ((prefix == 0x98)
    || (prefix == 0xA8))))))))))))))))))

-- an item of HID 1.11 stands where it may: fields and End Collections in a collection, a Usage before a collection that is in no
-- other (6.2.2.6), and outside of collections no Usage Page after another
abbrev pub is_placed : Progress → ℕ → ℕ → Bool
is_placed p prefix size =
    if is_inner prefix then nat_lt 0 p.depth
    else (if prefix == 0xA0 then nat_lt 0 p.depth || p.has_usage
    else (if is_stack prefix then size == 1
    else (if prefix == 0x04 then nat_lt 0 p.depth || not p.is_page else is_other prefix)))

-- a short item may come next: outside of collections each has data
abbrev pub may_follow : Progress → ℕ → List ℕ → Bool
may_follow p prefix item =
    if p.is_begun then not (not (nat_lt 0 p.depth) && (length item == 1)) && is_placed p prefix (length item) else is_first prefix item

-- how many collections are open after a short item
abbrev pub depth_after : ℕ → ℕ → ℕ
depth_after depth prefix = if prefix == 0xA0 then min (depth + 1) (2 ^ 64 - 1) else (if prefix == 0xC0 then depth - 1 else depth)

-- after a short item, of which a Main item ends the usages
abbrev pub after_prefix : Progress → ℕ → Progress
after_prefix p prefix = record {
  depth = depth_after p.depth prefix;
  is_begun = true;
  has_usage = not (prefix % 16 == 0) && (p.has_usage || ((prefix == 0x08) || (prefix == 0x18)));
  is_page = prefix == 0x04;
  is_closed = (prefix == 0xC0) && (depth_after p.depth prefix == 0);
}

-- after an item, if it may come next; a long one (6.2.2.3) may not
abbrev pub after_item : Progress → List ℕ → Option Progress
after_item p item =
    if slice_index item 0 == 0xFE then None
    else (if may_follow p (prefix_of item) item then Some (after_prefix p (prefix_of item)) else None)

abbrev pub after_items : Progress → List (List ℕ) → Option Progress
after_items p [] = Some p
after_items p (item ∷ items) = option_and_then (λ q. after_items q items) (after_item p item)

-- Bytes are one whole report descriptor: items of HID 1.11, of which the last is the End Collection that closes all collections, and
-- after it nothing but zeros.
pub record IsDescriptor (bytes : List ℕ) : Type 0 where
  pub items : List (List ℕ)
  pub zeros : List ℕ
  pub joined : flat_map (λ item. item) items ++ zeros ≡ bytes
  pub encoded : All IsItemEncoding items
  pub last : Progress
  pub nested : after_items start items ≡ Some last
  pub closed : last.is_closed ≡ true
  pub padded : list_all (λ byte. byte == 0) zeros ≡ true

-- how many bytes are before an item that is cut off
abbrev pub cut_place : ItemFault → ℕ
cut_place (items.Truncated at) = at

-- why an item can't come next: an End Collection ends no collection, and others don't stand there
abbrev pub item_cause : ℕ → DescriptorCause
item_cause prefix = if prefix == 0xC0 then EndWithout else Other

-- the next item of a descriptor can't come next
pub record IsRefused (progress : Progress) (rest : List ℕ) (cause : DescriptorCause) : Type 0 where
  pub item : List ℕ
  pub more : List ℕ
  pub first : rest ≡ item ++ more
  pub encoded : IsItemEncoding item
  pub refused : after_item progress item ≡ None
  pub why : cause ≡ item_cause (prefix_of item)

-- what is wrong after some items: the next one is cut off, or can't come next; or nothing comes, and a collection is open or none was there
abbrev pub IsWrong : Progress → List ℕ → DescriptorCause → Type 0
IsWrong progress rest cause =
    (IsCut rest × (cause ≡ Truncated))
    ⊎ (IsRefused progress rest cause
    ⊎ ((rest ≡ []) × (cause ≡ (if nat_lt 0 progress.depth then Unclosed else Other))))

-- Bytes aren't one whole report descriptor: after some items of HID 1.11, which aren't one, this many bytes from the front on, there is
-- something wrong.
pub record IsFault (bytes : List ℕ) (fault : DescriptorFault) : Type 0 where
  pub items : List (List ℕ)
  pub rest : List ℕ
  pub joined : flat_map (λ item. item) items ++ rest ≡ bytes
  pub place : fault.at ≡ length (flat_map (λ item. item) items)
  pub encoded : All IsItemEncoding items
  pub progress : Progress
  pub nested : after_items start items ≡ Some progress
  pub unended : (progress.is_closed && list_all (λ byte. byte == 0) rest) ≡ false
  pub wrong : IsWrong progress rest fault.cause

-- bytes have a Collection and an End Collection, as those of each descriptor
abbrev pub has_collection : List ℕ → Bool
has_collection bytes =
    list_any (λ byte. (byte - byte % 4) == 0xA0) bytes && list_any (λ byte. (byte - byte % 4) == 0xC0) bytes
