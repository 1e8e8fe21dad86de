-- Worked values.
use Rattle.std.proofs.Common.{◌≡◌, true, false, [], ◌∷◌, Some, None, refl, codes}
use Rattle.usb_transact.specs.declared.transaction.Fate.TheVariants.{Clean, TokenLost, AckLost}
use Rattle.lab_lines.specs.Keys.{keyboard_key, key_of}
use Rattle.lab_lines.specs.Fates.{fate_of_word}
use Rattle.lab_lines.specs.Typing.{characters_of, quote_at, text_in_quotes}
use Rattle.lab_lines.specs.Names.{spells, place_of, calls}
use Rattle.lab_lines.specs.ControlNames.{OfUsage, AtPlace, OfName, control_name_of, last_mark, place_of_word}
use Rattle.hid_text.specs.Numbers.{usage_of_word, number_of, count_of}

-- A is 07:04 with Shift, 1 is 07:1E, ? is 07:38 with Shift (HID Usage Tables, 10); é has no key
key_a : key_of 65 ≡ Some (keyboard_key 0x04 true)
unfolding key_of
key_a = refl

key_one : key_of 49 ≡ Some (keyboard_key 0x1E false)
unfolding key_of
key_one = refl

key_question : key_of 63 ≡ Some (keyboard_key 0x38 true)
unfolding key_of
key_question = refl

no_key : key_of 0xE9 ≡ None
unfolding key_of
no_key = refl

-- with 5 percent, 0 to 14 of 300 are losses, a third of each sort
last_loss : fate_of_word 5 14 ≡ AckLost
unfolding fate_of_word
last_loss = refl

first_loss : fate_of_word 5 300 ≡ TokenLost
unfolding fate_of_word
first_loss = refl

no_loss : fate_of_word 5 15 ≡ Clean
unfolding fate_of_word
no_loss = refl

never_lost : fate_of_word 0 0 ≡ Clean
unfolding fate_of_word
never_lost = refl

-- a backslash, and then a quote: one character
one_quote : characters_of (97 ∷ 92 ∷ 34 ∷ 98 ∷ []) ≡ 97 ∷ 34 ∷ 98 ∷ []
unfolding characters_of
one_quote = refl

-- "a" b is the text a with b after it; in "a\" the last quote is one of the text, which has no end
closed : text_in_quotes (34 ∷ 97 ∷ 34 ∷ 32 ∷ 98 ∷ []) ≡ Some (97 ∷ [], 32 ∷ 98 ∷ [])
unfolding quote_at
closed = refl

endless : text_in_quotes (34 ∷ 97 ∷ 92 ∷ 34 ∷ []) ≡ None
unfolding quote_at
endless = refl

enter : characters_of (92 ∷ 110 ∷ []) ≡ 10 ∷ []
unfolding characters_of
enter = refl

-- Keyboard_A and Keyboard_a call Keyboard a and A; Keyboard_B doesn't
upper : calls (codes "Keyboard a and A") (codes "Keyboard_A") ≡ true
unfolding calls spells place_of
upper = refl

ninth : calls (codes "Keyboard 9 and (") (codes "keyboard_(") ≡ true
unfolding calls spells place_of
ninth = refl

enter_key : calls (codes "Keyboard Return (ENTER)") (codes "Keyboard_Return") ≡ true
unfolding calls spells place_of
enter_key = refl

another : calls (codes "Keyboard a and A") (codes "Keyboard_B") ≡ false
unfolding calls spells place_of
another = refl

-- 0D:42#2, 7.0 and Keyboard_#
second_finger : control_name_of (codes "0D:42#2") ≡ Some (OfUsage (record { page = 0x0D; id = 0x42 }) 2)
unfolding control_name_of last_mark usage_of_word number_of count_of place_of_word
second_finger = refl

at_place : control_name_of (codes "7.0") ≡ Some (AtPlace (record { item = 7; index = 0 }))
unfolding control_name_of last_mark usage_of_word number_of count_of place_of_word
at_place = refl

number_sign : control_name_of (codes "Keyboard_#") ≡ Some (OfName (codes "Keyboard_#") 1)
unfolding control_name_of last_mark usage_of_word number_of count_of place_of_word
number_sign = refl
