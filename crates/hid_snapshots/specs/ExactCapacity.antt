-- Lists without spare room (our choice).
use Rattle.std.specs.Prelude.{◌≡◌, Vec, vec_len, vec_capacity}

-- the capacity of a list is its length: it has reserved what it holds, and no more
abbrev pub IsFull : {X Z : Type 0} → Vec X Z → Type 0
IsFull v = vec_capacity v ≡ vec_len v
