use Rattle.std.proofs.Common.{◌≡◌, ◌∙◌, Ok, true, false, ◌+ℤ◌, to_z, of_z, w32, w64, refl, sym, ap, rules}
use Rattle.std.proofs.lemmas.Int.{to_z-of_z}
use Rattle.hid_snapshots.specs.Snapshots.{has_direction, motion_in}
use Rattle.hid_snapshots.proofs.SnapshotLemmas.{moved_by, wide_motion}
use Rattle.hid_snapshots.proofs.snapshot.shift.Goals as goal

pub returns-then-not-has_direction : goal.returns-then-not-has_direction
returns-then-not-has_direction c =
    let none : has_direction c.args.controls.now c.args.by ≡ false = search (rules, to_z-of_z) in
    (moved_by c.args.controls.now c.args.state.now c.args.control c.args.by _ false _ none refl refl, refl)

pub returns-in-Some : goal.returns-in-Some
returns-in-Some c =
    let toward : has_direction c.args.controls.now c.args.by ≡ true = search (rules, to_z-of_z) in
    let sum : motion_in c.args.state.now c.args.control.index +ℤ c.args.by ≡ to_z w64 (of_z w64 c.in-Some.total) = search (rules, to_z-of_z) in
    moved_by c.args.controls.now c.args.state.now c.args.control c.args.by _ true true toward sum (sym c.is_i32.ensures ∙ c.if-is_i32.true) ∙ ap Ok (sym c.set_motion.ensures)

pub returns-in_default : goal.returns-in_default
returns-in_default c =
    let toward : has_direction c.args.controls.now c.args.by ≡ true = search (rules, to_z-of_z) in
    let sum : motion_in c.args.state.now c.args.control.index +ℤ c.args.by ≡ to_z w64 (of_z w64 c.in-Some.total) = search (rules, to_z-of_z) in
    (moved_by c.args.controls.now c.args.state.now c.args.control c.args.by _ true false toward sum (sym c.is_i32.ensures ∙ c.if-is_i32.false), refl)

pub returns-in_default-2 : goal.returns-in_default-2
returns-in_default-2 c =
    let toward : has_direction c.args.controls.now c.args.by ≡ true = search (rules, to_z-of_z) in
    let sum : motion_in c.args.state.now c.args.control.index +ℤ c.args.by ≡ to_z w64 (of_z w64 c.motion.result) +ℤ to_z w64 (of_z w64 (to_z w32 (of_z w32 c.args.by))) = search (rules, to_z-of_z) in
    (moved_by c.args.controls.now c.args.state.now c.args.control c.args.by _ true false toward sum (wide_motion _ c.in_default.ensures), refl)
