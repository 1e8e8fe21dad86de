-- The usages and collections of the listed items, as they stand one after the other (our choice).
use Rattle.std.specs.Prelude.{◌≡◌, ℕ, ◌+◌, ◌<◌, ◌≤◌, List, [], ◌∷◌, ◌++◌, map, length, slice_get, slice_range, Option, Some, None}
use Rattle.hid_report_descriptor.specs.declared.collection.Collection.{Collection}
use Rattle.hid_report_descriptor.specs.declared.item_lists.ItemSpans.{ItemSpans}
use Rattle.hid_report_descriptor.specs.declared.span.Span.{Span}
use Rattle.hid_report_descriptor.specs.declared.locals.NamedUsage.{NamedUsage}
use Rattle.hid_report_descriptor.specs.declared.limits.TheConstants.{MAX_ENTRIES}
use Rattle.hid_report_descriptor.specs.Faults.{numbers_from}
use Rattle.hid_report_descriptor.specs.Usages.{Entry, starts_of}
use Rattle.hid_report_descriptor.specs.ListSpans.{lists_at, AreWithin}

-- for each listed item its usages as ranges, and the collections round it
pub record Listed : Type 0 where
  pub entries : List (List Entry)
  pub paths : List (List Collection)

-- no item is listed
abbrev pub no_lists : Listed
no_lists = record { entries = []; paths = [] }

-- the lists, once those of one more item are there
abbrev pub lists_with : Listed → List Entry → List Collection → Listed
lists_with old es path = record { entries = old.entries ++ es ∷ []; paths = old.paths ++ path ∷ [] }

-- the places of the usages of each item
abbrev pub entry_spans : List ItemSpans → List Span
entry_spans spans = map (λ (s : ItemSpans). s.entries) spans

-- the places of the collections of each item
abbrev pub path_spans : List ItemSpans → List Span
path_spans spans = map (λ (s : ItemSpans). s.path) spans

-- the lists that stand at these places
abbrev pub lists_of_spans : List Entry → List Collection → List ItemSpans → Listed
lists_of_spans entries paths spans = record {
  entries = lists_at entries (entry_spans spans);
  paths = lists_at paths (path_spans spans);
}

-- each range but the last has one usage
abbrev pub AreSingle : List (NamedUsage × NamedUsage) → Type 0
AreSingle named = (i : ℕ) (e : NamedUsage × NamedUsage) → slice_get named i ≡ Some e → i + 1 < length named
    → e.0.id ≡ e.1.id

-- the starts of these ranges stand at a place, or they are the first numbers
abbrev pub AreStarts : List Entry → Option ℕ → List ℕ → Type 0
AreStarts es None starts = (starts_of es ≡ numbers_from 0 (length es)) × (length es ≤ MAX_ENTRIES)
AreStarts es (Some at) starts =
    (at + length es ≤ length starts) × (slice_range starts at (at + length es) ≡ starts_of es)

-- the starts of these ranges are put after the others, unless they are the first numbers
abbrev pub AddsStarts : List Entry → Option ℕ → List ℕ → List ℕ → Type 0
AddsStarts es None old new = (starts_of es ≡ numbers_from 0 (length es)) × (new ≡ old)
AddsStarts es (Some at) old new = (at ≡ length old) × (new ≡ old ++ starts_of es)

-- each place lies among the values, and the starts of each item's ranges are there
pub record AreListed (entries : List Entry) (starts : List ℕ) (paths : List Collection)
    (spans : List ItemSpans) : Type 0 where
  pub entries_within : AreWithin entries (entry_spans spans)
  pub paths_within : AreWithin paths (path_spans spans)
  pub starts_there : (i : ℕ) (s : ItemSpans) → slice_get spans i ≡ Some s
      → AreStarts (slice_range entries s.entries.start s.entries.end) s.starts starts
