-- What the parser keeps of the local items (HID 1.11, 6.2.2.8).
use Rattle.std.specs.Prelude.{◌≡◌, ℕ, ◌/◌, ◌%◌, ◌^◌, List, [], ◌∷◌, ◌++◌, map, length, slice_get, Some, None, unwrap_or, ◌==◌, if◌then◌else◌}
use Rattle.std.specs.Option.{option_map}
use Rattle.hid_items.specs.ItemEncoding.{data_of, unsigned_of}
use Rattle.hid_report_descriptor.specs.declared.usage.Usage.{Usage}
use Rattle.hid_report_descriptor.specs.declared.locals.NamedUsage.{NamedUsage}
use Rattle.hid_report_descriptor.specs.declared.locals.Locals.{Locals}
use Rattle.hid_report_descriptor.specs.Items.{EncodedItem, USAGE, USAGE_MINIMUM, USAGE_MAXIMUM}
use Rattle.hid_report_descriptor.specs.Usages.{Entry, to_list, locals, minima, maxima, following_entries}

-- the usage that an item names, before its page is known
abbrev pub named_usage : EncodedItem → NamedUsage
named_usage item =
    let n = unsigned_of (data_of item) in
    if length (data_of item) == 4 then record { page = Some (n / 2 ^ 16); id = n % 2 ^ 16 }
    else record { page = None; id = n }

-- a usage, on its own page or else on a given one
abbrev pub on_page : ℕ → NamedUsage → Usage
on_page page usage = record { page = unwrap_or usage.page page; id = usage.id }

-- a range, each end on its own page or else on a given one
abbrev pub entry_on_page : ℕ → NamedUsage × NamedUsage → Entry
entry_on_page page e = (on_page page (e.0), on_page page (e.1))

-- the locals after these items, for whatever page will be in force
pub record AreLocals (before : List EncodedItem) (kept : Locals) : Type 0 where
  pub all_minima : kept.minima ≡ map named_usage (minima (locals before))
  pub all_maxima : kept.maxima ≡ map named_usage (maxima (locals before))
  pub all_entries : (page : ℕ)
      → map (entry_on_page page) kept.entries.items ≡ following_entries page [] (locals before)

-- the entry that a local item makes whole, after these minima and maxima
abbrev pub entry_completed : ℕ → NamedUsage → List NamedUsage → List NamedUsage → List (NamedUsage × NamedUsage)
entry_completed prefix usage lows highs =
    if prefix == USAGE then (usage, usage) ∷ []
    else (if prefix == USAGE_MINIMUM then to_list (option_map (λ high. (usage, high)) (slice_get highs (length lows)))
    else (if prefix == USAGE_MAXIMUM then to_list (option_map (λ low. (low, usage)) (slice_get lows (length highs)))
    else []))

-- one more local item is kept
pub record AddsLocal (prefix : ℕ) (usage : NamedUsage) (old new : Locals) : Type 0 where
  pub entries_after : new.entries.items
      ≡ old.entries.items ++ entry_completed prefix usage old.minima old.maxima
  pub minima_after : new.minima ≡ old.minima ++ (if prefix == USAGE_MINIMUM then usage ∷ [] else [])
  pub maxima_after : new.maxima ≡ old.maxima ++ (if prefix == USAGE_MAXIMUM then usage ∷ [] else [])
