use Rattle.std.proofs.Common.{Some, None, cond, sym, ap, ◌∙◌, arith}
use Rattle.std.specs.Option.{option_map}
use Rattle.hid_report_descriptor.specs.declared.usage.Usage.{Usage}
use Rattle.hid_layout.specs.declared.control.Control.{Control}
use Rattle.hid_layout.specs.declared.control.ControlKind.TheVariants.{Switch}
use Rattle.hid_report_descriptor.specs.Usages.{usage_list}
use Rattle.hid_layout.specs.Controls.{is_key, control_of_key}
use Rattle.hid_layout.proofs.FormLemmas.{key-get, key-past}
use Rattle.hid_layout.proofs.main_item.MainItem.key_control.Goals as goal

abbrev switch : Usage → Control
switch usage = record { kind = Switch; usage = usage }

pub returns-then-index-ge-MAX_KEYS : goal.returns-then-index-ge-MAX_KEYS
returns-then-index-ge-MAX_KEYS c = sym (ap control_of_key (key-past c.args.self.now (usage_list c.args.entries.now) c.args.index (omega arith)))

pub returns-in-Some : goal.returns-in-Some
returns-in-Some c =
    let found = ap (option_map (λ u. record { usage = u; is_switch = is_key c.args.self.now c.args.index u })) (sym c.in-Some.ensures) in
    ap (λ b. cond b (Some (switch c.in-Some.usage)) None) c.if-is_key.ensures ∙ sym (ap control_of_key (key-get c.args.self.now (usage_list c.args.entries.now) c.args.index (omega arith) ∙ found))

pub returns-in_default : goal.returns-in_default
returns-in_default c =
    let found = ap (option_map (λ u. record { usage = u; is_switch = is_key c.args.self.now c.args.index u })) (sym c.in-Some.ensures) in
    ap (λ b. cond b (Some (switch c.in-Some.usage)) None) c.if-is_key.ensures ∙ sym (ap control_of_key (key-get c.args.self.now (usage_list c.args.entries.now) c.args.index (omega arith) ∙ found))

pub returns-in_default-2 : goal.returns-in_default-2
returns-in_default-2 c = sym (ap control_of_key (key-get c.args.self.now (usage_list c.args.entries.now) c.args.index (omega arith) ∙ ap (option_map (λ u. record { usage = u; is_switch = is_key c.args.self.now c.args.index u })) (sym c.in_default.ensures)))
