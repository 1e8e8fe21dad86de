-- Worked values of where pieces stand and of what flags say, each by hand.
use Rattle.std.proofs.Common.{◌≡◌, [], ◌∷◌, true, false, refl}
use Rattle.std.specs.Prelude.{codes}
use Rattle.hid_drawing.specs.declared.pieces.BitSource.TheVariants.{Field}
use Rattle.hid_drawing.specs.Pieces.{segment_pieces}
use Rattle.hid_drawing.specs.Words.{flags_text}

-- ten bits from bit 76 on: four in byte 9, six in byte 10
ten_bits : segment_pieces (record { part = Field 2 0; bit = 76; width = 10 })
    ≡ record { part = Field 2 0; byte = 9; low = 4; high = 8; front = 0; width = 10 }
    ∷ record { part = Field 2 0; byte = 10; low = 0; high = 6; front = 4; width = 10 } ∷ []
ten_bits = refl

-- each flag of an Input item by itself, and bit 7 of an Output or Feature item (HID 1.11, 6.2.2.5)
no_flag : flags_text true 0x000 ≡ codes "data, array, absolute"
unfolding flags_text
no_flag = refl

constant : flags_text true 0x001 ≡ codes "constant, array, absolute"
unfolding flags_text
constant = refl

variable : flags_text true 0x002 ≡ codes "data, variable, absolute"
unfolding flags_text
variable = refl

relative : flags_text true 0x004 ≡ codes "data, array, relative"
unfolding flags_text
relative = refl

wrap : flags_text true 0x008 ≡ codes "data, array, absolute, wrap"
unfolding flags_text
wrap = refl

nonlinear : flags_text true 0x010 ≡ codes "data, array, absolute, nonlinear"
unfolding flags_text
nonlinear = refl

no_preferred : flags_text true 0x020 ≡ codes "data, array, absolute, no preferred"
unfolding flags_text
no_preferred = refl

null_state : flags_text true 0x040 ≡ codes "data, array, absolute, null state"
unfolding flags_text
null_state = refl

reserved : flags_text true 0x080 ≡ codes "data, array, absolute, reserved"
unfolding flags_text
reserved = refl

volatile : flags_text false 0x080 ≡ codes "data, array, absolute, volatile"
unfolding flags_text
volatile = refl

buffered : flags_text true 0x100 ≡ codes "data, array, absolute, buffered bytes"
unfolding flags_text
buffered = refl
