use Rattle.std.proofs.Common.{◌≡◌, ℕ, ◌+◌, ◌*◌, ◌<◌, ◌∙◌, get_or, to_z, of_z, w64, sym, ap, arith, rules}
use Rattle.std.proofs.lemmas.Int.{to_z-of_z}
use Rattle.hid_fields.specs.Field.{pattern_of}
use Rattle.hid_fields.specs.Value.{value_of}
use Rattle.hid_fields.proofs.WordLemmas.{pattern_of-byte}
use Rattle.hid_snapshots.specs.Numbers.{number_at}
use Rattle.hid_snapshots.proofs.NumberLemmas.{within_run, number_of_run}
use Rattle.hid_snapshots.proofs.numbers.FieldRun.number_by_byte.Goals as goal

pub bounds-self-inside-index : goal.bounds-self-inside-index
bounds-self-inside-index g c =
    let f = c.self.inside in
    let within : c.args.index < c.self.inside.count = within_run f.bytes.now f.at f.width f.is_signed f.count c.args.index c.args.self.now c.self.view_is c.requires in
    omega (arith, ap (λ (w : ℕ). w * c.self.inside.count) c.if-self-eq8.true, c.self.invariant.inside)

pub returns-then-self-eq0 : goal.returns-then-self-eq0
returns-then-self-eq0 g c =
    let f = c.self.inside in
    let number : to_z w64 (of_z w64 c.to_value.result) ≡ c.to_value.result = search (rules, to_z-of_z) in
    let place : 8 * c.args.index ≡ c.self.inside.at + c.self.inside.width * c.args.index = omega (arith, ap (λ (w : ℕ). w * c.args.index) c.if-self-eq8.true, c.if-self-eq0.true) in
    let small : get_or c.self.inside.bytes.now c.args.index 0 < 256 = search rules in
    let byte : c.from.result ≡ pattern_of c.self.inside.bytes.now (8 * c.args.index) 8 = c.from.ensures ∙ sym (pattern_of-byte f.bytes.now c.args.index small) in
    rw number
    (number_of_run f.bytes.now f.at f.width f.is_signed f.count c.args.index c.args.self.now c.to_value.result c.self.view_is c.requires
    (c.to_value.ensures ∙ ap (λ (x : ℕ). value_of x 8 f.is_signed) byte ∙ ap (λ (a : ℕ). number_at f.bytes.now a 8 f.is_signed) place ∙ ap (λ (w : ℕ). number_at f.bytes.now (f.at + f.width * c.args.index) w f.is_signed) (sym c.if-self-eq8.true)))

pub returns-else-self-eq8 : goal.returns-else-self-eq8
returns-else-self-eq8 g c =
    let number : to_z w64 (of_z w64 c.number.result) ≡ c.number.result = search (rules, to_z-of_z) in
    rw number c.number.ensures
