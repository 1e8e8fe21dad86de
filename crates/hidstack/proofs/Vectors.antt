-- The numbers of include/hidstack.h, written out: a constant of another value fails the check.
use Rattle.std.specs.Prelude.{◌≡◌, true, false, refl}
use Rattle.hidstack.specs.declared.status.TheConstants.{OK, REFUSED, BUSY, CLOSED, NO_ROOM, SHORT, UNKNOWN, NONE, MEMORY, RANGE, STALLED, FAILED, WRONG_KIND, NO_NULL, NO_DIRECTION, FULL}
use Rattle.hidstack.specs.declared.writing.TheConstants.{BOOT_KEYBOARD, BOOT_MOUSE}
use Rattle.hidstack.specs.Running.{options_of}

-- option 1 tells layouts
option_of_layouts : options_of 1 ≡ record { layout = true; trace = false }
option_of_layouts = refl

-- option 2 tells polls
option_of_polls : options_of 2 ≡ record { layout = false; trace = true }
option_of_polls = refl

ok : OK ≡ 0
ok = refl

refused : REFUSED ≡ 1
refused = refl

busy : BUSY ≡ 2
busy = refl

closed : CLOSED ≡ 3
closed = refl

no_room : NO_ROOM ≡ 4
no_room = refl

short : SHORT ≡ 5
short = refl

unknown : UNKNOWN ≡ 6
unknown = refl

none : NONE ≡ 7
none = refl

memory : MEMORY ≡ 8
memory = refl

range : RANGE ≡ 9
range = refl

wrong_kind : WRONG_KIND ≡ 12
wrong_kind = refl

no_null : NO_NULL ≡ 13
no_null = refl

no_direction : NO_DIRECTION ≡ 14
no_direction = refl

full : FULL ≡ 15
full = refl

boot_keyboard : BOOT_KEYBOARD ≡ 1
boot_keyboard = refl

boot_mouse : BOOT_MOUSE ≡ 2
boot_mouse = refl

stalled : STALLED ≡ 10
stalled = refl

failed : FAILED ≡ 11
failed = refl
