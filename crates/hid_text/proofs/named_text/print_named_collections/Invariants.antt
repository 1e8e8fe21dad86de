use Rattle.std.proofs.Common.{◌≡◌, ◌++◌, take}
use Rattle.std.specs.Prelude.{string_bytes}
use Rattle.hid_text.specs.NamedText.{named_collections}
use Rattle.hid_text.proofs.named_text.print_named_collections.Given as goal

-- the collections so far
abbrev pub invariant-loop-collection : goal.invariant-loop-collection
invariant-loop-collection l = string_bytes l.text ≡ string_bytes l.fn.text ++ named_collections (take l.collection-index l.collections)
