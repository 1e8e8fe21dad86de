use Rattle.std.proofs.Common.{◌≡◌, ◌∙◌, ◌==◌, ◌≤◌, ℕ, List, refl, sym, subst, true, Result, arith}
use Rattle.std.specs.List.{after_first}
use Rattle.std.specs.Prelude.{find, option_and_then, slice_index}
use Rattle.std.proofs.lemmas.Bool.Decides.{nat_tests}
use Rattle.usb_control.specs.declared.descriptors.ConfigInfo.{ConfigInfo}
use Rattle.usb_control.specs.declared.fault.InfoFault.{InfoFault}
use Rattle.usb_control.specs.Descriptors.{IsWalk, ReadsConfig, configuration_of, first_type, info_of, interface_part, is_hid, is_hid_interface, is_interrupt_in, report_length}
use Rattle.usb_control.proofs.WalkLemmas.{config_is, first_type_is, no_walk, reads_info}
use Rattle.usb_control.proofs.descriptors.ConfigInfo.read.Goals as goal
use Rattle.usb_control.proofs.descriptors.ConfigInfo.read.Goals.{After-config_info}

pub returns-in_default-clause-reads : goal.returns-in_default-clause-reads
returns-in_default-clause-reads c = no_walk c.args.bytes.now c.in_default.len_below

-- the type is the one of a configuration
is_configuration : (c : After-config_info) (ds : List (List ℕ)) → IsWalk c.args.bytes.now ds → 9 ≤ slice_index c.args.bytes.now 0 → (first_type ds == 2) ≡ true
is_configuration c ds walk first =
    let type = first_type_is c.args.bytes.now ds walk first in
    grind (arith, nat_tests, type, c.if-kind-ne-CONFIGURATION.false)

made : (c : After-config_info) (ds : List (List ℕ)) → IsWalk c.args.bytes.now ds
    → c.config_info.result ≡ info_of c.in-Some.interface.found.now (option_and_then report_length (find is_hid (interface_part ds))) (find is_interrupt_in (interface_part ds))
made c ds walk = c.config_info.ensures.info (interface_part ds) (c.stretch.ensures (after_first is_hid_interface ds) (c.in-Some.ensures.walks ds walk).2)

read_is : (c : After-config_info) (ds : List (List ℕ)) → IsWalk c.args.bytes.now ds → 9 ≤ slice_index c.args.bytes.now 0
    → configuration_of ds
    ≡ info_of c.in-Some.interface.found.now (option_and_then report_length (find is_hid (interface_part ds)))
    (find is_interrupt_in (interface_part ds))
read_is c ds walk first = config_is ds c.in-Some.interface.found.now (is_configuration c ds walk first) (c.in-Some.ensures.walks ds walk).0

pub returns-clause-value : goal.returns-clause-value
returns-clause-value c = λ ds walk first. made c ds walk ∙ sym (read_is c ds walk first)

pub returns-clause-reads : goal.returns-clause-reads
returns-clause-reads c =
    let has = c.if-not-is_walk.ensures.0 refl in
    let first : 9 ≤ slice_index c.args.bytes.now 0 = omega (arith, c.if-size-lt-CONFIGURATION_LENGTH.false) in
    subst (λ (r : Result ConfigInfo InfoFault). ReadsConfig c.args.bytes.now r) (sym (made c has.0 has.1))
    (reads_info c.args.bytes.now has.0 c.in-Some.interface.found.now (option_and_then report_length (find is_hid (interface_part has.0))) (find is_interrupt_in (interface_part has.0)) has.1 first
    (read_is c has.0 has.1 first))
