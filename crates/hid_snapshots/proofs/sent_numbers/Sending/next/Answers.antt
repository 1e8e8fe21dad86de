use Rattle.std.proofs.Common.{◌≡◌, ◌∷◌, ◌∙◌, sym, ap, subst, to_z, of_z, w64, ◌+◌, length, map, drop, unwrap_or, ℤ, pos, ◌+ℤ◌, rules, arith}
use Rattle.std.proofs.lemmas.Int.{to_z-of_z}
use Rattle.std.proofs.lemmas.List.{length-map, length-replicate}
use Rattle.hid_snapshots.specs.declared.sent_numbers.Source.TheVariants.{Keys}
use Rattle.hid_snapshots.specs.Sending.{switch_number}
use Rattle.hid_snapshots.specs.SentNumbers.{numbers_of, repeats, IsSource}
use Rattle.hid_snapshots.proofs.DrawLemmas.{left_within, next_fits, map_drawn, key_drawn, keys_drawn}
use Rattle.hid_snapshots.proofs.ListLemmas.{drop_at}
use Rattle.hid_snapshots.proofs.sent_numbers.Sending.next.Goals as goal

pub get-requires : goal.get-requires
get-requires c =
    left_within c.in-Switches.flags.now c.in-Switches.index _ (ap length (sym c.self.view_is ∙ ap numbers_of c.in-Switches.is) ∙ length-map (drop c.in-Switches.index c.in-Switches.flags.now) _) c.requires

pub get-requires-in-Values : goal.get-requires-in-Values
get-requires-in-Values c =
    left_within c.in-Values.values.now c.in-Values.index _ (ap length (sym c.self.view_is ∙ ap numbers_of c.in-Values.is) ∙ length-map (drop c.in-Values.index c.in-Values.values.now) _) c.requires

pub get-requires-in-Motions : goal.get-requires-in-Motions
get-requires-in-Motions c = left_within c.in-Motions.motions.now c.in-Motions.index _ (ap length (sym c.self.view_is ∙ ap numbers_of c.in-Motions.is)) c.requires

pub one_fewer-requires : goal.one_fewer-requires
one_fewer-requires c =
    let left : c.args.self.now ≡ repeats c.in-Keys.then =
    sym c.self.view_is ∙ ap numbers_of c.in-Keys.is ∙ keys_drawn c.in-Keys.min c.in-Keys.flags.now c.in-Keys.from (repeats c.in-Keys.then) c.in-None.ensures.first in
    omega (arith, c.requires, ap length left, length-replicate c.in-Keys.then.count c.in-Keys.then.number)

pub returns-in-Switches : goal.returns-in-Switches
returns-in-Switches c =
    let number : to_z w64 (of_z w64 c.switch_number.result) ≡ switch_number c.get.result = search rules in
    sym c.self.view_is ∙ ap numbers_of c.in-Switches.is ∙ map_drawn switch_number c.in-Switches.flags.now c.in-Switches.index c.get.result _ c.get.ensures number

pub returns-in-Values : goal.returns-in-Values
returns-in-Values c =
    let null : to_z w64 (of_z w64 c.in-Values.null) ≡ c.in-Values.null = search (rules, to_z-of_z) in
    let number : to_z w64 (of_z w64 c.unwrap_or.result) ≡ unwrap_or c.get-in-Values.result c.in-Values.null = search (rules, to_z-of_z) in
    sym c.self.view_is ∙ ap numbers_of c.in-Values.is ∙ map_drawn (λ v. unwrap_or v c.in-Values.null) c.in-Values.values.now c.in-Values.index c.get-in-Values.result _ c.get-in-Values.ensures number
    ∙ ap (λ (n : ℤ). to_z w64 (of_z w64 c.unwrap_or.result) ∷ map (λ v. unwrap_or v n) (drop (c.in-Values.index + 1) c.in-Values.values.now)) (sym null)

pub returns-in-Motions : goal.returns-in-Motions
returns-in-Motions c =
    let number : to_z w64 (of_z w64 c.get-in-Motions.result) ≡ c.get-in-Motions.result = search (rules, to_z-of_z) in
    sym c.self.view_is ∙ ap numbers_of c.in-Motions.is ∙ rw number (drop_at c.in-Motions.motions.now c.in-Motions.index c.get-in-Motions.result c.get-in-Motions.ensures)

pub returns-in-Some : goal.returns-in-Some
returns-in-Some c =
    let min : to_z w64 (of_z w64 c.in-Keys.min) ≡ c.in-Keys.min = search (rules, to_z-of_z) in
    let number : to_z w64 (of_z w64 (to_z w64 (of_z w64 c.in-Keys.min) +ℤ to_z w64 c.in-Some.place)) ≡ c.in-Keys.min +ℤ pos c.in-Some.place = search (rules, to_z-of_z) in
    sym c.self.view_is ∙ ap numbers_of c.in-Keys.is
    ∙ key_drawn c.in-Keys.min _ _ c.in-Keys.flags.now c.in-Keys.from c.in-Some.place _ c.in-Some.ensures.first min number

pub returns-in-None : goal.returns-in-None
returns-in-None c =
    let number : to_z w64 (of_z w64 c.in-Keys.then.number) ≡ c.in-Keys.then.number = search (rules, to_z-of_z) in
    sym c.self.view_is ∙ ap numbers_of c.in-Keys.is ∙ keys_drawn c.in-Keys.min c.in-Keys.flags.now c.in-Keys.from (repeats c.in-Keys.then) c.in-None.ensures.first
    ∙ c.one_fewer.ensures ∙ ap (λ (n : ℤ). n ∷ repeats c.one_fewer.result) (sym number)

pub overflow_add-self : goal.overflow_add-self
overflow_add-self c =
    next_fits c.in-Switches.index (length c.in-Switches.flags.now) (left_within c.in-Switches.flags.now c.in-Switches.index _ (ap length (sym c.self.view_is ∙ ap numbers_of c.in-Switches.is) ∙ length-map (drop c.in-Switches.index c.in-Switches.flags.now) _) c.requires)
    (subst IsSource c.in-Switches.is c.self.invariant)

pub invariant_of-self : goal.invariant_of-self
invariant_of-self c = subst IsSource c.in-Switches.is c.self.invariant

pub overflow_add-self-in-Values : goal.overflow_add-self-in-Values
overflow_add-self-in-Values c =
    next_fits c.in-Values.index (length c.in-Values.values.now) (left_within c.in-Values.values.now c.in-Values.index _ (ap length (sym c.self.view_is ∙ ap numbers_of c.in-Values.is) ∙ length-map (drop c.in-Values.index c.in-Values.values.now) _) c.requires)
    (subst IsSource c.in-Values.is c.self.invariant)

pub invariant_of-self-in-Values : goal.invariant_of-self-in-Values
invariant_of-self-in-Values c = subst IsSource c.in-Values.is c.self.invariant

pub overflow_add-self-in-Motions : goal.overflow_add-self-in-Motions
overflow_add-self-in-Motions c =
    next_fits c.in-Motions.index (length c.in-Motions.motions.now) (left_within c.in-Motions.motions.now c.in-Motions.index _ (ap length (sym c.self.view_is ∙ ap numbers_of c.in-Motions.is)) c.requires)
    (subst IsSource c.in-Motions.is c.self.invariant)

pub invariant_of-self-in-Motions : goal.invariant_of-self-in-Motions
invariant_of-self-in-Motions c = subst IsSource c.in-Motions.is c.self.invariant

pub invariant_of-self-in-Some : goal.invariant_of-self-in-Some
invariant_of-self-in-Some c =
    let min : to_z w64 (of_z w64 c.in-Keys.min) ≡ c.in-Keys.min = search (rules, to_z-of_z) in
    subst (λ (least : ℤ). IsSource (Keys c.in-Keys.flags c.in-Keys.from least c.in-Keys.then)) (sym min) (subst IsSource c.in-Keys.is c.self.invariant)
