use Rattle.std.proofs.Common.{rules, arith, ◌<◌, ◌^◌, ℕ, sym}
use Rattle.hid_fields.specs.Value.{IsLeastOutside, IsWithin, value_of, is_negative}
use Rattle.std.proofs.lemmas.Int.{to_z-of_z}
use Rattle.hid_layout.proofs.NullLemmas.{null_found, null_not_found}
use Rattle.hid_layout.proofs.codes.null_number.Goals as goal

pub returns-in-Some : goal.returns-in-Some
returns-in-Some c =
    let least : IsLeastOutside c.args.item.now.size c.args.item.now.min c.args.item.now.max c.in-Some.pattern = search rules in
    let found = null_found c.args.item.now c.in-Some.pattern least in
    grind (arith, to_z-of_z, c.number_of.ensures, found)

pub returns-in-None : goal.returns-in-None
returns-in-None c =
    let within : (pattern : ℕ) → pattern < 2 ^ c.args.item.now.size → IsWithin c.args.item.now.min c.args.item.now.max (value_of pattern c.args.item.now.size (is_negative c.args.item.now.min)) = search rules in
    sym (null_not_found c.args.item.now within)
