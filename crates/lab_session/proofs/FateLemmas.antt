-- The fates of polls, one after the other.
use Rattle.std.proofs.Common.{◌≡◌, ℕ, zero, suc, List, [], ◌∷◌, ◌++◌, refl, sym, ap, ◌∙◌, map, Some}
use Rattle.usb_transact.specs.declared.transaction.Fate.{Fate}
use Rattle.usb_transact.specs.declared.transaction.Fate.TheVariants.{Clean}
use Rattle.rand_pcg.specs.Lcg.{Lcg}
use Rattle.rand_pcg.specs.Pcg.{pcg32}
use Rattle.lab_lines.specs.Fates.{fate_of_word}
use Rattle.lab_lines.specs.Losses.{fates}
use Rattle.lab_session.specs.Chances.{Chance, chance_after, fate_by}
use Rattle.lab_session.specs.Laws.{PollsHaveFates, poll_with}
use Rattle.lab_session.specs.Lines.{Moment, Often, Polls}
use Rattle.lab_session.specs.Parts.{Part}

-- the generator after so many fates
generator_after : ℕ → Lcg → Lcg
generator_after zero generator = generator
generator_after (suc n) generator = generator_after n (pcg32 generator).1

generator_more : (n : ℕ) (generator : Lcg) → generator_after (suc n) generator ≡ (pcg32 (generator_after n generator)).1
unfolding generator_after
generator_more zero generator = refl
generator_more (suc n) generator = generator_more n (pcg32 generator).1

-- one fate more stands behind the others
fates_more : (percent n : ℕ) (generator : Lcg) → fates percent (suc n) generator ≡ fates percent n generator ++ fate_of_word percent (pcg32 (generator_after n generator)).0 ∷ []
unfolding generator_after
fates_more percent zero generator = refl
fates_more percent (suc n) generator = ap (λ l. fate_of_word percent (pcg32 generator).0 ∷ l) (fates_more percent n (pcg32 generator).1)

map_more : (dev : ℕ) (front : List Fate) (fate : Fate) → map (poll_with dev) front ++ poll_with dev fate ∷ [] ≡ map (poll_with dev) (front ++ fate ∷ [])
map_more dev [] fate = refl
map_more dev (first ∷ front) fate = ap (λ l. poll_with dev first ∷ l) (map_more dev front fate)

drawn_polls : (dev n : ℕ) (chance : Chance) (before after : Moment) (parts : List Part) (text : List ℕ)
    → before.chance dev ≡ Some chance → Often n (Polls dev Clean) before parts text after
    → (parts ≡ map (poll_with dev) (fates chance.percent n chance.generator)) × (after.chance dev ≡ Some (record chance { generator = generator_after n chance.generator }))
unfolding generator_after
drawn_polls dev zero chance before after parts text is h = (h.0, h.3 dev ∙ is)
drawn_polls dev (suc n) chance before after parts text is h =
    let first = drawn_polls dev n chance before h.middle h.first_parts h.first_text is h.first in
    let once = h.next.1 in
    let last = once.part ∙ ap (λ c. poll_with dev (fate_by c Clean) ∷ []) first.1 in (
      h.all_parts ∙ ap (λ l. l ++ h.next_parts) first.0 ∙ ap (λ l. map (poll_with dev) (fates chance.percent n chance.generator) ++ l) last
          ∙ map_more dev (fates chance.percent n chance.generator) (fate_of_word chance.percent (pcg32 (generator_after n chance.generator)).0)
          ∙ ap (map (poll_with dev)) (sym (fates_more chance.percent n chance.generator)),
      once.drawn.0 ∙ ap (λ c. chance_after c Clean) first.1 ∙ ap (λ g. Some (record chance { generator = g })) (sym (generator_more n chance.generator)),
    )

pub polls_have_fates : PollsHaveFates
polls_have_fates dev n chance before after parts text is h = (drawn_polls dev n chance before after parts text is h).0
