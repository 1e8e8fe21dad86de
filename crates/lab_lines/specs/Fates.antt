-- The fate that a word of a generator is (our choice: docs/LAB.md).
use Rattle.std.specs.Prelude.{ℕ, ◌*◌, ◌%◌, ◌==◌, nat_lt, if◌then◌else◌}
use Rattle.usb_transact.specs.declared.transaction.Fate.{Fate}
use Rattle.usb_transact.specs.declared.transaction.Fate.TheVariants.{Clean, TokenLost, ReplyLost, AckLost}

-- which packet is lost, by a number of which each third is as likely
abbrev pub loss : ℕ → Fate
loss drawn = if drawn % 3 == 0 then TokenLost else if drawn % 3 == 1 then ReplyLost else AckLost

-- The fate of a word of the generator: of 300 numbers three for each percent are losses. Example: with 5 percent 14 is a lost
-- acknowledgement, and 15 is clean
unfoldable pub fate_of_word : ℕ → ℕ → Fate
fate_of_word percent word = if nat_lt (word % 300) (3 * percent) then loss (word % 300) else Clean
