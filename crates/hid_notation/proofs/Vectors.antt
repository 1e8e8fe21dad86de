-- Worked values of what is written, each by hand.
use Rattle.std.proofs.Common.{◌≡◌, refl}
use Rattle.std.specs.Prelude.{codes}
use Rattle.std.specs.Fmt.{digits}
use Rattle.hid_notation.specs.Text.{hex_text, usage_text, range_text}

-- two digits at least, and no more than there are
two_digits : hex_text 0x0A ≡ codes "0A"
unfolding hex_text digits
two_digits = refl

four_digits : hex_text 0xFF00 ≡ codes "FF00"
unfolding hex_text digits
four_digits = refl

the_x_axis : usage_text (record { page = 0x01; id = 0x30 }) ≡ codes "01:30"
unfolding hex_text digits
the_x_axis = refl

three_buttons : range_text (record { page = 0x09; id = 0x01 }, record { page = 0x09; id = 0x03 }) ≡ codes "09:01-09:03"
unfolding range_text hex_text digits
three_buttons = refl

one_button : range_text (record { page = 0x09; id = 0x03 }, record { page = 0x09; id = 0x03 }) ≡ codes "09:03"
unfolding range_text hex_text digits
one_button = refl
