-- How the fates of polls and tries are drawn, device by device (our choice: docs/LAB.md; the generator: PCG, XSH RR 64/32).
use Rattle.std.specs.Prelude.{ℕ, Option, None, Some, slice_get}
use Rattle.usb_transact.specs.declared.transaction.Fate.{Fate}
use Rattle.usb_transact.specs.declared.transaction.Fate.TheVariants.{Clean}
use Rattle.rand_pcg.specs.Lcg.{Lcg}
use Rattle.rand_pcg.specs.Pcg.{pcg32}
use Rattle.lab_lines.specs.declared.losses.Losses.{Losses}
use Rattle.lab_lines.specs.Fates.{fate_of_word}
use Rattle.lab_lines.specs.Losses.{generator_of}
use Rattle.lab_session.specs.declared.draws.Draws.{Draws}

-- how many of a hundred polls and tries lose a packet, and the generator that says which
pub record Chance : Type 0 where
  pub percent : ℕ
  pub generator : Lcg

-- the chance of losses, if they are drawn
abbrev pub chance_of : Option (Option Losses) → Option Chance
chance_of (Some (Some losses)) = Some (record { percent = losses.percent; generator = generator_of losses })
chance_of (Some None) = None
chance_of None = None

-- how the fates of a device are drawn, if they are
abbrev pub chance_at : Draws → ℕ → Option Chance
chance_at draws dev = chance_of (slice_get draws.losses dev)

-- What is lost of a poll or a try: what its line says, if that is a loss; else what is drawn, if fates are drawn.
abbrev pub fate_by : Option Chance → Fate → Fate
fate_by None said = said
fate_by (Some chance) Clean = fate_of_word chance.percent (pcg32 chance.generator).0
fate_by (Some chance) said = said

-- how the fates after that one are drawn
abbrev pub chance_after : Option Chance → Fate → Option Chance
chance_after None said = None
chance_after (Some chance) Clean = Some (record chance { generator = (pcg32 chance.generator).1 })
chance_after (Some chance) said = Some chance
