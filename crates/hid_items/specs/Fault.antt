-- The text of the refusal of a descriptor that ends in the middle of an item (our choice).
use Rattle.std.specs.Prelude.{ℕ, List, ◌++◌, codes}
use Rattle.std.specs.Fmt.{decimal}
use Rattle.hid_items.specs.declared.fault.ItemFault.{ItemFault}
use Rattle.hid_items.specs.declared.fault.ItemFault.TheVariants.{Truncated}

-- the refusal is printed as its code and the place where the item begins
abbrev pub item_fault_text : ItemFault → List ℕ
item_fault_text (Truncated at) = codes "I1 at " ++ decimal at
