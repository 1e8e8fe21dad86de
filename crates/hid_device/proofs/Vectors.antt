-- Worked values of known devices: each is worked out by hand, and a wrong one fails the check.
use Rattle.std.specs.Prelude.{◌≡◌, ℕ, Bool, true, false, List, [], ◌∷◌, Some, None, refl}
use Rattle.hid_report_descriptor.specs.declared.report.Report.{Report}
use Rattle.hid_report_descriptor.specs.declared.report.ReportKind.{ReportKind}
use Rattle.hid_report_descriptor.specs.declared.report.ReportKind.TheVariants.{Input, Output, Feature}
use Rattle.hid_layout.specs.declared.boot.TheConstants.{KEYBOARD, MOUSE}
use Rattle.hid_device.specs.Config.{is_config}
use Rattle.hid_device.specs.Inputs.{input_count}
use Rattle.hid_device.specs.Outputs.{kept_place, report_number_of, with_report}
use Rattle.hid_device.specs.RequestTable.{config_info, configuration_number, endpoint_status, with_idle_time}
use Rattle.hid_device.specs.RequestDecisions.{Refuses, Reads, reads_if}
use Rattle.hid_requests.specs.Descriptors.{configuration_bytes}
use Rattle.hid_requests.specs.declared.boot.Boot.TheVariants as boot
use Rattle.hid_requests.specs.declared.boot.Boot.{Boot}

-- the wheel and the button are two Input reports; an Output report after them is none
abbrev report : ReportKind → ℕ → Report
report kind id = record { kind = kind; id = id; bits = 8 }

two_inputs : input_count (report Input 1 ∷ report Input 2 ∷ report Output 1 ∷ []) ≡ 2
two_inputs = refl

-- which descriptors and addresses suit a boot mouse
abbrev boot_mouse : ℕ → List ℕ → Bool
boot_mouse addr descriptor = is_config addr (record { vendor = 0xFFFF; product = 1; interval = 10; boot = boot.Mouse }) descriptor

a_boot_mouse : boot_mouse 127 MOUSE ≡ true
a_boot_mouse = refl

no_boot_mouse : boot_mouse 127 KEYBOARD ≡ false
no_boot_mouse = refl

no_address : boot_mouse 0 MOUSE ≡ false
no_address = refl

address_of_eight_bits : boot_mouse 128 MOUSE ≡ false
address_of_eight_bits = refl

-- what a host reads of a device of this kind whose report descriptor has n bytes (HID 1.11, 4.2, 4.3 and appendix E)
abbrev configuration : Boot → ℕ → List ℕ
configuration kind len = configuration_bytes (config_info (record { vendor = 0xFFFF; product = 1; interval = 10; boot = kind }) len) 10

boot_keyboard : configuration boot.Keyboard 63
    ≡ 0x09 ∷ 0x02 ∷ 0x22 ∷ 0x00 ∷ 0x01 ∷ 0x01 ∷ 0x00 ∷ 0x80 ∷ 0x32
    ∷ 0x09 ∷ 0x04 ∷ 0x00 ∷ 0x00 ∷ 0x01 ∷ 0x03 ∷ 0x01 ∷ 0x01 ∷ 0x00
    ∷ 0x09 ∷ 0x21 ∷ 0x11 ∷ 0x01 ∷ 0x00 ∷ 0x01 ∷ 0x22 ∷ 0x3F ∷ 0x00
    ∷ 0x07 ∷ 0x05 ∷ 0x81 ∷ 0x03 ∷ 0x40 ∷ 0x00 ∷ 0x0A ∷ []
boot_keyboard = refl

boot_mouse_of_50 : configuration boot.Mouse 50
    ≡ 0x09 ∷ 0x02 ∷ 0x22 ∷ 0x00 ∷ 0x01 ∷ 0x01 ∷ 0x00 ∷ 0x80 ∷ 0x32
    ∷ 0x09 ∷ 0x04 ∷ 0x00 ∷ 0x00 ∷ 0x01 ∷ 0x03 ∷ 0x01 ∷ 0x02 ∷ 0x00
    ∷ 0x09 ∷ 0x21 ∷ 0x11 ∷ 0x01 ∷ 0x00 ∷ 0x01 ∷ 0x22 ∷ 0x32 ∷ 0x00
    ∷ 0x07 ∷ 0x05 ∷ 0x81 ∷ 0x03 ∷ 0x40 ∷ 0x00 ∷ 0x0A ∷ []
boot_mouse_of_50 = refl

plain_device : configuration boot.No 300
    ≡ 0x09 ∷ 0x02 ∷ 0x22 ∷ 0x00 ∷ 0x01 ∷ 0x01 ∷ 0x00 ∷ 0x80 ∷ 0x32
    ∷ 0x09 ∷ 0x04 ∷ 0x00 ∷ 0x00 ∷ 0x01 ∷ 0x03 ∷ 0x00 ∷ 0x00 ∷ 0x00
    ∷ 0x09 ∷ 0x21 ∷ 0x11 ∷ 0x01 ∷ 0x00 ∷ 0x01 ∷ 0x22 ∷ 0x2C ∷ 0x01
    ∷ 0x07 ∷ 0x05 ∷ 0x81 ∷ 0x03 ∷ 0x40 ∷ 0x00 ∷ 0x0A ∷ []
plain_device = refl

-- of a device that isn't configured: its number is 0, and what a configured device alone answers is refused
not_configured : configuration_number false ≡ 0
not_configured = refl

configured_once : configuration_number true ≡ 1
configured_once = refl

-- the status of a halted endpoint (9.4.5)
halted_status : endpoint_status true ≡ 1 ∷ 0 ∷ []
halted_status = refl

going_status : endpoint_status false ≡ 0 ∷ 0 ∷ []
going_status = refl

refused_before : reads_if false (0 ∷ []) ≡ Refuses
refused_before = refl

read_after : reads_if true (0 ∷ []) ≡ Reads (0 ∷ [])
read_after = refl

-- a report is set whole: two bytes are none of three, and there is no second one
kept_whole : with_report ((1 ∷ 0 ∷ 0 ∷ []) ∷ []) 0 (1 ∷ 0xAB ∷ 0xCD ∷ []) ≡ (1 ∷ 0xAB ∷ 0xCD ∷ []) ∷ []
kept_whole = refl

none_of_two : with_report ((1 ∷ 0 ∷ 0 ∷ []) ∷ []) 0 (1 ∷ 0xAB ∷ []) ≡ (1 ∷ 0 ∷ 0 ∷ []) ∷ []
none_of_two = refl

no_second : with_report ((1 ∷ 0 ∷ 0 ∷ []) ∷ []) 1 (1 ∷ 0xAB ∷ 0xCD ∷ []) ≡ (1 ∷ 0 ∷ 0 ∷ []) ∷ []
no_second = refl

-- after two Input reports, those of an Output report of ID 1 and a Feature report of ID 2 are kept
abbrev reports : List Report
reports = report Input 1 ∷ report Input 3 ∷ report Output 1 ∷ report Feature 2 ∷ []

second_input : report_number_of reports Input 3 ≡ Some 1
second_input = refl

second_kept : kept_place reports Feature 2 ≡ Some 1
second_kept = refl

no_output_of_2 : kept_place reports Output 2 ≡ None
no_output_of_2 = refl

no_input_kept : kept_place reports Input 1 ≡ None
no_input_kept = refl

-- an idle time of the second of two Input reports, and of both (HID 1.11, 7.2.4)
idle_of_one : with_idle_time (0 ∷ 0 ∷ []) (Some 1) 5 ≡ 0 ∷ 5 ∷ []
idle_of_one = refl

idle_of_all : with_idle_time (0 ∷ 5 ∷ []) None 7 ≡ 7 ∷ 7 ∷ []
idle_of_all = refl
