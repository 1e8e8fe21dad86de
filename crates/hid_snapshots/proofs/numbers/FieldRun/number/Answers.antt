use Rattle.std.proofs.Common.{◌≡◌, ℕ, ◌<◌, ◌∙◌, to_z, of_z, w64, ap, arith, rules}
use Rattle.std.proofs.lemmas.Int.{to_z-of_z}
use Rattle.hid_fields.specs.Value.{value_of}
use Rattle.hid_snapshots.proofs.NumberLemmas.{step_within, within_run, number_of_run}
use Rattle.hid_snapshots.proofs.numbers.FieldRun.number.Goals as goal

pub overflow_mul-self-inside : goal.overflow_mul-self-inside
overflow_mul-self-inside g c =
    let f = c.self.inside in
    let within : c.args.index < c.self.inside.count = within_run f.bytes.now f.at f.width f.is_signed f.count c.args.index c.args.self.now c.self.view_is c.requires in
    record { fits = omega (arith, step_within c.self.inside.width c.args.index c.self.inside.count within, c.self.invariant.short) }

pub overflow_add-self-inside : goal.overflow_add-self-inside
overflow_add-self-inside g c =
    let f = c.self.inside in
    let within : c.args.index < c.self.inside.count = within_run f.bytes.now f.at f.width f.is_signed f.count c.args.index c.args.self.now c.self.view_is c.requires in
    record { fits = omega (arith, step_within c.self.inside.width c.args.index c.self.inside.count within, c.self.invariant.short) }

pub get-pattern-requires-clause-inside : goal.get-pattern-requires-clause-inside
get-pattern-requires-clause-inside g c =
    let f = c.self.inside in
    let within : c.args.index < c.self.inside.count = within_run f.bytes.now f.at f.width f.is_signed f.count c.args.index c.args.self.now c.self.view_is c.requires in
    omega (arith, step_within c.self.inside.width c.args.index c.self.inside.count within, c.self.invariant.inside)

pub to_value-requires-clause-fits : goal.to_value-requires-clause-fits
to_value-requires-clause-fits g c = c.get-pattern.ensures.fits

pub returns : goal.returns
returns g c =
    let f = c.self.inside in
    let number : to_z w64 (of_z w64 c.to_value.result) ≡ c.to_value.result = search (rules, to_z-of_z) in
    rw number
    (number_of_run f.bytes.now f.at f.width f.is_signed f.count c.args.index c.args.self.now c.to_value.result c.self.view_is c.requires (c.to_value.ensures ∙ ap (λ (x : ℕ). value_of x f.width f.is_signed) c.get-pattern.ensures.pattern))
