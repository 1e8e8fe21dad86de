-- What a handle owns: the block of what it keeps, where it keeps something, else nothing, at null (our choice).
use Rattle.std.specs.Prelude.{Option, Some, None}
use base.Fml.{Fml, feq}
use denote.RattleType.{RattleType}
use denote.RawPtr.{Ptr, null_ptr}
use mir.Syntax.{Ty}
use Rattle.std.specs.contracts.impls.GlobalAllocator.TheImpl.{ghosts}
use Rattle.std.specs.Box.Ownership.{box_owns}

-- the right to free a block of the C library's heap
abbrev pub block_right : Ty → Ptr → Fml
block_right = ghosts.dealloc_token (record { memory = record { seal = tt } })

-- what a handle owns at an address
abbrev pub owned_box : (R : RattleType) → Ptr → Option R.Denot → Fml
owned_box R at None = feq Ptr at null_ptr
owned_box R at (Some x) = box_owns block_right R at x
