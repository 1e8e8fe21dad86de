-- Worked values.
use Rattle.std.proofs.Common.{◌≡◌, true, false, [], ◌∷◌, ◌++◌, refl, codes}
use Rattle.std.specs.Fmt.{digits}
use Rattle.hid_notation.specs.Text.{hex_text}
use Rattle.hid_text.specs.Arguments.{control_meaning}
use Rattle.hid_text.specs.Line.{meaning_of, line_meaning, words_meaning}
use Rattle.hid_text.specs.Numbers.{count_of, number_of, usage_of_word}
use Rattle.hid_text.specs.Short.{short_meaning}
use Rattle.lab_lines.specs.ControlNames.{control_name_of, last_mark, place_of_word}
use Rattle.lab_lines.specs.LabLines.{change_meaning, click_meaning, lab_meaning, new_meaning, other_meaning}
use Rattle.lab_session.specs.Outputs.{output_text}
use Rattle.lab_session.specs.Scripts.{is_line_of_hidrun}

-- press 1 07:04 is a line of hidrun, and press 8 is none of hidrun's and none of the bench's
old_line : is_line_of_hidrun (lab_meaning (codes "press 1 07:04")) ≡ true
unfolding lab_meaning meaning_of line_meaning words_meaning short_meaning control_meaning usage_of_word number_of
old_line = refl

no_line : is_line_of_hidrun (lab_meaning (codes "press 8")) ≡ true
unfolding lab_meaning meaning_of line_meaning words_meaning short_meaning control_meaning other_meaning change_meaning
no_line = refl

-- press 1 Keyboard_A and click 1 7.0 are new
named_control : is_line_of_hidrun (lab_meaning (codes "press 1 Keyboard_A")) ≡ false
unfolding lab_meaning meaning_of line_meaning words_meaning short_meaning control_meaning usage_of_word number_of other_meaning change_meaning control_name_of last_mark count_of place_of_word
named_control = refl

new_line : is_line_of_hidrun (lab_meaning (codes "click 1 7.0")) ≡ false
unfolding lab_meaning meaning_of line_meaning other_meaning new_meaning click_meaning usage_of_word number_of control_name_of last_mark count_of place_of_word
new_line = refl

-- LED 2 of a keyboard without report IDs, and the byte after ID 3
leds : output_text 1 0 (0x02 ∷ []) ≡ codes "1 output 0 02" ++ 10 ∷ []
unfolding hex_text digits
leds = refl

after_an_id : output_text 1 3 (0x03 ∷ 0xFF ∷ []) ≡ codes "1 output 3 FF" ++ 10 ∷ []
unfolding hex_text digits
after_an_id = refl
