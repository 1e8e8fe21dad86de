-- The keys that numbers name, by place.
use Rattle.std.proofs.Common.{◌≡◌, ℕ, suc, ◌+◌, List, [], ◌∷◌, length, ℤ, refl, ap}
use Rattle.hid_layout.specs.declared.main_item.MainItem.{MainItem}
use Rattle.hid_layout.specs.Controls.{Key}
use Rattle.hid_usages.specs.Reading.{named_keys_from}
use Rattle.hid_snapshots.proofs.FillLemmas.{fill_next, filled, length_map_zip}

pub named_length : (item : MainItem) (vs : List ℤ) (i : ℕ) (keys : List Key)
    → length (named_keys_from item vs i keys) ≡ length keys
named_length item vs i [] = refl
named_length item vs i (key ∷ keys) = ap suc (named_length item vs (i + 1) keys)

pub ruleset fills = (fill_next, filled, length_map_zip, named_length)
