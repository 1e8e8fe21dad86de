use Rattle.std.proofs.Common.{◌≡◌, ◌-◌, min, length, Some, sym, ap, ◌∙◌, arith}
use Rattle.std.specs.List.{slice_get}
use Rattle.std.specs.Option.{option_map}
use Rattle.hid_report_descriptor.specs.declared.usage.Usage.{Usage}
use Rattle.hid_layout.specs.declared.control.Control.{Control}
use Rattle.hid_layout.specs.declared.control.ControlKind.{ControlKind}
use Rattle.hid_report_descriptor.specs.Usages.{usage_list}
use Rattle.hid_layout.specs.Controls.{element_kind}
use Rattle.hid_layout.proofs.FormLemmas.{spread_usages-get, spread_usages-past}
use Rattle.hid_layout.proofs.main_item.MainItem.element_control.Goals as goal

abbrev control : ControlKind → Usage → Control
control kind usage = record { kind = kind; usage = usage }

pub returns-then-index-self : goal.returns-then-index-self
returns-then-index-self c =
    sym (ap (option_map (control (element_kind c.args.self.now)))
    (spread_usages-past c.args.self.now.count (usage_list c.args.entries.now) c.args.index c.requires.some
    (omega arith)))

pub returns-in-Some : goal.returns-in-Some
returns-in-Some c =
    let us = usage_list c.args.entries.now in
    let place : c.min.result ≡ min c.args.index (length us - 1) = c.min.ensures ∙ ap (λ n. min c.args.index (n - 1)) c.count_by_starts-last.ensures in
    ap (λ k. Some (control k c.in-Some.usage)) c.element_kind.ensures
    ∙ ap (option_map (control (element_kind c.args.self.now)))
    (c.in-Some.ensures ∙ ap (slice_get us) place
    ∙ sym (spread_usages-get c.args.self.now.count us c.args.index c.requires.some (omega arith)))

pub returns-in-None : goal.returns-in-None
returns-in-None c =
    let us = usage_list c.args.entries.now in
    let place : c.min.result ≡ min c.args.index (length us - 1) = c.min.ensures ∙ ap (λ n. min c.args.index (n - 1)) c.count_by_starts-last.ensures in
    ap (option_map (control (element_kind c.args.self.now)))
    (c.in-None.ensures ∙ ap (slice_get us) place
    ∙ sym (spread_usages-get c.args.self.now.count us c.args.index c.requires.some (omega arith)))
