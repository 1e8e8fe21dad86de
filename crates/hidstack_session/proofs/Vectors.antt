-- The numbers of include/hidstack.h, written out: a constant of another value fails the check.
use Rattle.std.specs.Prelude.{◌≡◌, refl}
use Rattle.hidstack_session.specs.declared.event.TheConstants.{UP, DOWN, VALUE, NULL, MOTION, DROPPED}

up : UP ≡ 0
up = refl

down : DOWN ≡ 1
down = refl

value : VALUE ≡ 2
value = refl

null : NULL ≡ 3
null = refl

motion : MOTION ≡ 4
motion = refl

dropped : DROPPED ≡ 5
dropped = refl
