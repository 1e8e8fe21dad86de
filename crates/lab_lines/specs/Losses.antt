-- How the fates of a line `lose` are drawn, one after the other (our choice: docs/LAB.md; the generator: PCG, XSH RR 64/32).
use Rattle.std.specs.Prelude.{ℕ, zero, suc, List, [], ◌∷◌}
use Rattle.usb_transact.specs.declared.transaction.Fate.{Fate}
use Rattle.rand_pcg.specs.Lcg.{Lcg, started, increment_of}
use Rattle.rand_pcg.specs.Pcg.{multiplier_64, pcg32}
use Rattle.lab_lines.specs.declared.losses.Losses.{Losses}
use Rattle.lab_lines.specs.Fates.{fate_of_word}

-- the generator of a device at first: the seed is its state, and the device its stream
abbrev pub generator_at_first : ℕ → ℕ → Lcg
generator_at_first dev seed = started 64 multiplier_64 seed (increment_of 64 dev)

-- the generator of what is drawn
abbrev pub generator_of : Losses → Lcg
generator_of losses = record { state = losses.state; increment = increment_of 64 losses.stream }

-- the first fates that a generator gives
abbrev pub fates : ℕ → ℕ → Lcg → List Fate
fates percent zero generator = []
fates percent (suc n) generator =
    fate_of_word percent (pcg32 generator).0 ∷ fates percent n (pcg32 generator).1
