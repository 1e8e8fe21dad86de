-- Pieces worked out by hand: up to 64 bytes are one, and the last one has the rest.
use Rattle.std.proofs.Common.{◌≡◌, ℕ, List, [], ◌++◌, replicate, refl}
use Rattle.hid_snapshots.specs.Pieces.{pieces_for, pieces_of, piece_of}
use Rattle.hid_snapshots.specs.Samples.{keyboard, wheel_and_button, byte_values}

one_byte : pieces_for 1 ≡ 1
one_byte = refl

full_piece : pieces_for 64 ≡ 1
full_piece = refl

one_more_byte : pieces_for 65 ≡ 2
one_more_byte = refl

two_full_pieces : pieces_for 128 ≡ 2
two_full_pieces = refl

longest_report : pieces_for 256 ≡ 4
longest_report = refl

-- by the items: the keyboard's 8 bytes, the second report of two, and reports of 64, 65 and 256 bytes
keyboard_is_one : pieces_of keyboard 0 ≡ 1
keyboard_is_one = refl

button_is_one : pieces_of wheel_and_button 1 ≡ 1
button_is_one = refl

of_full_piece : pieces_of (byte_values 64) 0 ≡ 1
of_full_piece = refl

of_65_bytes : pieces_of (byte_values 65) 0 ≡ 2
of_65_bytes = refl

of_256_bytes : pieces_of (byte_values 256) 0 ≡ 4
of_256_bytes = refl

-- a hundred bytes, 64 of one value and 36 of another
abbrev hundred : List ℕ
hundred = replicate 64 7 ++ replicate 36 9

first_piece : piece_of hundred 0 ≡ replicate 64 7
first_piece = refl

last_piece : piece_of hundred 1 ≡ replicate 36 9
last_piece = refl

behind_the_last : piece_of hundred 2 ≡ []
behind_the_last = refl
