-- Places of an array's usage list that name neither a key nor an error (our choice: see Codes.antt).
use Rattle.std.specs.Prelude.{◌≡◌, ◌≢◌, ℕ, ◌+◌, ◌-◌, ◌<◌, ◌≤◌, Bool, true, false, not, ◌==◌, ◌&&◌, ◌||◌, nat_lt, List, ◌++◌, slice_get, Option, Some, None, ℤ, ◌≤ℤ◌, ◌<ℤ◌}
use Rattle.hid_report_descriptor.specs.declared.limits.TheConstants.{MAX_KEYS}
use Rattle.hid_report_descriptor.specs.declared.usage.Usage.{Usage}
use Rattle.hid_report_descriptor.specs.Usages.{is_keyboard_error, is_rollover, Entry, entry_count, usages_from}
use Rattle.hid_layout.specs.Controls.{rollover_from}
use Rattle.hid_layout.specs.declared.main_item.MainItem.{MainItem}
use Rattle.hid_layout.specs.Codes.{names_nothing}

-- a usage at a place that an element can carry is a key or reports an error
abbrev pub is_named : ℕ → Usage → Bool
is_named place u = (nat_lt place MAX_KEYS && not (u.id == 0)) || is_keyboard_error u

-- the usage at a place names neither a key nor an error, or no usage is there
abbrev pub is_nothing : ℕ → Option Usage → Bool
is_nothing place None = true
is_nothing place (Some u) = not (is_named place u)

-- the usage at a place of a range that begins at another place
abbrev pub usage_at_place : Usage → ℕ → ℕ → Usage
usage_at_place low start place = record { page = low.page; id = low.id + (place - start) }

-- the first place of a range, from one on, that names nothing, or its end; a place after the end itself
pub record IsFirstNothing (low : Usage) (start from end place : ℕ) : Type 0 where
  pub low_bound : from ≤ place
  pub inside : from ≤ end → place ≤ end
  pub behind : end ≤ from → place ≡ from
  pub nothing : place < end → is_named place (usage_at_place low start place) ≡ false
  pub named : (k : ℕ) → from ≤ k → k < place → is_named k (usage_at_place low start k) ≡ true

-- the first place of a whole list, from one on, that names nothing, also after its end
pub record IsFirst (us : List Usage) (from place : ℕ) : Type 0 where
  pub low_bound : from ≤ place
  pub nothing : is_nothing place (slice_get us place) ≡ true
  pub named : (k : ℕ) → from ≤ k → k < place → is_nothing k (slice_get us k) ≡ false

-- each of these numbers names a key or an error
abbrev pub NamesAll : MainItem → List Usage → ℤ → ℤ → Type 0
NamesAll item us first end = (v : ℤ) → first ≤ℤ v → v <ℤ end → names_nothing item us v ≡ false

-- the least of these numbers that names neither
pub record IsLeastNothing (item : MainItem) (us : List Usage) (first end v : ℤ) : Type 0 where
  pub low : first ≤ℤ v
  pub high : v <ℤ end
  pub nothing : names_nothing item us v ≡ true
  pub below : NamesAll item us first v

-- the place of ErrorRollOver in an entry that begins at a place
abbrev pub RollsOverAt : Entry → ℕ → Option ℕ → Type 0
RollsOverAt e start None =
    (k : ℕ) → k < entry_count e → is_rollover (usage_at_place e.0 start (start + k)) ≡ false
RollsOverAt e start (Some place) =
    (start ≤ place) × (place < start + entry_count e) × (is_rollover (usage_at_place e.0 start place) ≡ true)
    × ((k : ℕ) → k < entry_count e → start + k ≢ place
    → is_rollover (usage_at_place e.0 start (start + k)) ≡ false)

-- the search of an item for the rollover ends in this entry, or goes on after it
abbrev pub RollsOverIn : MainItem → Entry → ℕ → List Usage → Option ℕ → Type 0
RollsOverIn item e start us None =
    rollover_from item start (usages_from e.0.page e.0.id (entry_count e) ++ us)
    ≡ rollover_from item (start + entry_count e) us
RollsOverIn item e start us (Some place) =
    rollover_from item start (usages_from e.0.page e.0.id (entry_count e) ++ us) ≡ Some place
