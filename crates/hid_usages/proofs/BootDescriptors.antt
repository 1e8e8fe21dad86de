-- The descriptors of the boot keyboard and the boot mouse are accepted, each with one layout (HID 1.11, B.1 and B.2).
use Rattle.std.proofs.Common.{◌≡◌, List, [], ◌∷◌, reverse, refl, ap, ◌∙◌, lit≤}
use Rattle.std.proofs.lemmas.List.Elements.{All-from_recursion}
use Rattle.hid_items.specs.ItemEncoding.{IsItemEncoding}
use Rattle.hid_report_descriptor.specs.Items.{EncodedItem}
use Rattle.hid_report_descriptor.specs.Fields.{add_field}
use Rattle.hid_report_descriptor.specs.Bus.{Accepts, AreAccepted, HasOneReading}
use Rattle.hid_report_descriptor.specs.Faults.{field_fault, are_too_many, numbers_from, report_ids}
use Rattle.hid_layout.specs.Layout.{layout_of}
use Rattle.hid_report_descriptor.specs.Reporting.{reports_of, reports_of_kind}
use Rattle.hid_layout.specs.declared.boot.TheConstants.{KEYBOARD, MOUSE}
use Rattle.hid_usages.specs.Boot.{keyboard_layout, mouse_layout, GivesOnly}

-- the items of the boot keyboard's descriptor, the last one first
abbrev keyboard_items : List EncodedItem
keyboard_items = (0xC0 ∷ []) ∷ (0x81 ∷ 0x00 ∷ []) ∷ (0x29 ∷ 0x65 ∷ []) ∷ (0x19 ∷ 0x00 ∷ []) ∷ (0x05 ∷ 0x07 ∷ []) ∷ (0x25 ∷ 0x65 ∷ []) ∷ (0x15 ∷ 0x00 ∷ []) ∷ (0x75 ∷ 0x08 ∷ []) ∷ (0x95 ∷ 0x06 ∷ []) ∷ (0x91 ∷ 0x01 ∷ []) ∷ (0x75 ∷ 0x03 ∷ []) ∷ (0x95 ∷ 0x01 ∷ []) ∷ (0x91 ∷ 0x02 ∷ []) ∷ (0x29 ∷ 0x05 ∷ []) ∷ (0x19 ∷ 0x01 ∷ []) ∷ (0x05 ∷ 0x08 ∷ []) ∷ (0x75 ∷ 0x01 ∷ []) ∷ (0x95 ∷ 0x05 ∷ []) ∷ (0x81 ∷ 0x01 ∷ []) ∷ (0x75 ∷ 0x08 ∷ []) ∷ (0x95 ∷ 0x01 ∷ []) ∷ (0x81 ∷ 0x02 ∷ []) ∷ (0x95 ∷ 0x08 ∷ []) ∷ (0x75 ∷ 0x01 ∷ []) ∷ (0x25 ∷ 0x01 ∷ []) ∷ (0x15 ∷ 0x00 ∷ []) ∷ (0x29 ∷ 0xE7 ∷ []) ∷ (0x19 ∷ 0xE0 ∷ []) ∷ (0x05 ∷ 0x07 ∷ []) ∷ (0xA1 ∷ 0x01 ∷ []) ∷ (0x09 ∷ 0x06 ∷ []) ∷ (0x05 ∷ 0x01 ∷ []) ∷ []

keyboard_accepted : AreAccepted keyboard_items
unfolding field_fault are_too_many add_field reports_of reports_of_kind numbers_from report_ids
keyboard_accepted = ((((((((((((((((((((((((((((((((tt, refl), refl), refl), refl), refl), refl), refl), refl), refl), refl), refl), refl), refl), refl), refl), refl), refl), refl), refl), refl), refl), refl), refl), refl), refl), refl), refl), refl), refl), refl), refl), refl)

keyboard_read : layout_of keyboard_items ≡ keyboard_layout
unfolding add_field reports_of reports_of_kind numbers_from
keyboard_read = refl

keyboard_spelled : Accepts KEYBOARD keyboard_items
unfolding add_field
keyboard_spelled = record {
  reaches = record {
    short = lit≤ tt;
    within = lit≤ tt;
    items = record { joined = refl; encoded = All-from_recursion IsItemEncoding (reverse keyboard_items) (refl, (refl, (refl, (refl, (refl, (refl, (refl, (refl, (refl, (refl, (refl, (refl, (refl, (refl, (refl, (refl, (refl, (refl, (refl, (refl, (refl, (refl, (refl, (refl, (refl, (refl, (refl, (refl, (refl, (refl, (refl, (refl, tt)))))))))))))))))))))))))))))))) };
    accepted = keyboard_accepted;
  };
  closed = refl;
  unmixed = refl;
}

pub keyboard_given : HasOneReading → GivesOnly KEYBOARD keyboard_layout
keyboard_given one = record {
  accepted = (keyboard_items, keyboard_spelled);
  only = λ before accepted. ap layout_of (one KEYBOARD before keyboard_items accepted keyboard_spelled) ∙ keyboard_read;
}

-- the items of the boot mouse's descriptor, the last one first
abbrev mouse_items : List EncodedItem
mouse_items = (0xC0 ∷ []) ∷ (0xC0 ∷ []) ∷ (0x81 ∷ 0x06 ∷ []) ∷ (0x95 ∷ 0x02 ∷ []) ∷ (0x75 ∷ 0x08 ∷ []) ∷ (0x25 ∷ 0x7F ∷ []) ∷ (0x15 ∷ 0x81 ∷ []) ∷ (0x09 ∷ 0x31 ∷ []) ∷ (0x09 ∷ 0x30 ∷ []) ∷ (0x05 ∷ 0x01 ∷ []) ∷ (0x81 ∷ 0x01 ∷ []) ∷ (0x75 ∷ 0x05 ∷ []) ∷ (0x95 ∷ 0x01 ∷ []) ∷ (0x81 ∷ 0x02 ∷ []) ∷ (0x75 ∷ 0x01 ∷ []) ∷ (0x95 ∷ 0x03 ∷ []) ∷ (0x25 ∷ 0x01 ∷ []) ∷ (0x15 ∷ 0x00 ∷ []) ∷ (0x29 ∷ 0x03 ∷ []) ∷ (0x19 ∷ 0x01 ∷ []) ∷ (0x05 ∷ 0x09 ∷ []) ∷ (0xA1 ∷ 0x00 ∷ []) ∷ (0x09 ∷ 0x01 ∷ []) ∷ (0xA1 ∷ 0x01 ∷ []) ∷ (0x09 ∷ 0x02 ∷ []) ∷ (0x05 ∷ 0x01 ∷ []) ∷ []

mouse_accepted : AreAccepted mouse_items
unfolding field_fault are_too_many add_field reports_of reports_of_kind numbers_from report_ids
mouse_accepted = ((((((((((((((((((((((((((tt, refl), refl), refl), refl), refl), refl), refl), refl), refl), refl), refl), refl), refl), refl), refl), refl), refl), refl), refl), refl), refl), refl), refl), refl), refl), refl)

mouse_read : layout_of mouse_items ≡ mouse_layout
unfolding add_field reports_of reports_of_kind numbers_from
mouse_read = refl

mouse_spelled : Accepts MOUSE mouse_items
unfolding add_field
mouse_spelled = record {
  reaches = record {
    short = lit≤ tt;
    within = lit≤ tt;
    items = record { joined = refl; encoded = All-from_recursion IsItemEncoding (reverse mouse_items) (refl, (refl, (refl, (refl, (refl, (refl, (refl, (refl, (refl, (refl, (refl, (refl, (refl, (refl, (refl, (refl, (refl, (refl, (refl, (refl, (refl, (refl, (refl, (refl, (refl, (refl, tt)))))))))))))))))))))))))) };
    accepted = mouse_accepted;
  };
  closed = refl;
  unmixed = refl;
}

pub mouse_given : HasOneReading → GivesOnly MOUSE mouse_layout
mouse_given one = record {
  accepted = (mouse_items, mouse_spelled);
  only = λ before accepted. ap layout_of (one MOUSE before mouse_items accepted mouse_spelled) ∙ mouse_read;
}
