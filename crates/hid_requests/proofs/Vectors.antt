-- Worked requests and descriptors (USB 2.0, 9.3, 9.4 and 9.6; HID 1.11, 7.2 and appendix E): each is computed by hand, and a wrong
-- one fails the check.
use Rattle.std.proofs.Common.{◌≡◌, [], ◌∷◌, true, Some, None, refl}
use Rattle.hid_report_descriptor.specs.declared.report.ReportKind.TheVariants.{Feature}
use Rattle.usb_control.specs.SetupBytes.{setup_bytes, setup_of}
use Rattle.hid_requests.specs.declared.request_kinds.RequestKind.TheVariants.{ReportDescriptor}
use Rattle.hid_requests.specs.declared.codes.TheConstants.{REPORT_ENDPOINT}
use Rattle.hid_requests.specs.declared.request_kinds.RequestKind.TheVariants as rows
use Rattle.hid_requests.specs.declared.class.Protocol.TheVariants.{Boot}
use Rattle.hid_requests.specs.declared.request.Request.TheVariants.{Report, Idle, GetReport, Protocol, Halt, Clear, EndpointStatus}
use Rattle.hid_requests.specs.RequestKinds.{request_kind_of}
use Rattle.hid_requests.specs.RequestSetup.{setup_for}
use Rattle.hid_requests.specs.Descriptors.{configuration_bytes, device_bytes}

-- a keyboard's report descriptor has 63 bytes (HID 1.11, appendix E.6)
report_bytes : setup_bytes (setup_for Report (record { report_length = 63; endpoint = 1 }))
    ≡ 0x81 ∷ 0x06 ∷ 0x00 ∷ 0x22 ∷ 0x00 ∷ 0x00 ∷ 0x3F ∷ 0x00 ∷ []
report_bytes = refl

-- its first one is a row, and its second is none
report_row : request_kind_of (setup_of (0x81 ∷ 0x06 ∷ 0x00 ∷ 0x22 ∷ 0x00 ∷ 0x00 ∷ 0x3F ∷ 0x00 ∷ []))
    ≡ Some ReportDescriptor
unfolding request_kind_of
report_row = refl

second_report : request_kind_of (setup_of (0x81 ∷ 0x06 ∷ 0x01 ∷ 0x22 ∷ 0x00 ∷ 0x00 ∷ 0x3F ∷ 0x00 ∷ [])) ≡ None
unfolding request_kind_of
second_report = refl

-- an idle time of 500 ms for all Input reports (HID 1.11, 7.2.4): its duration is 125
idle_bytes : setup_bytes (setup_for (Idle 0 125) (record { report_length = 63; endpoint = 1 }))
    ≡ 0x21 ∷ 0x0A ∷ 0x00 ∷ 0x7D ∷ 0x00 ∷ 0x00 ∷ 0x00 ∷ 0x00 ∷ []
idle_bytes = refl

-- the Feature report of ID 7 (7.2.1)
feature_bytes : setup_bytes (setup_for (GetReport Feature 7) (record { report_length = 63; endpoint = 1 }))
    ≡ 0xA1 ∷ 0x01 ∷ 0x07 ∷ 0x03 ∷ 0x00 ∷ 0x00 ∷ 0x00 ∷ 0x01 ∷ []
feature_bytes = refl

feature_row : request_kind_of (setup_of (0xA1 ∷ 0x01 ∷ 0x07 ∷ 0x03 ∷ 0x00 ∷ 0x00 ∷ 0x00 ∷ 0x01 ∷ []))
    ≡ Some (rows.GetReport Feature 7)
unfolding request_kind_of
feature_row = refl

-- there are no reports of type 4
fourth_type : request_kind_of (setup_of (0xA1 ∷ 0x01 ∷ 0x07 ∷ 0x04 ∷ 0x00 ∷ 0x00 ∷ 0x40 ∷ 0x00 ∷ [])) ≡ None
unfolding request_kind_of
fourth_type = refl

-- the boot protocol is 0 (7.2.6)
boot_bytes : setup_bytes (setup_for (Protocol true) (record { report_length = 63; endpoint = 1 }))
    ≡ 0x21 ∷ 0x0B ∷ 0x00 ∷ 0x00 ∷ 0x00 ∷ 0x00 ∷ 0x00 ∷ 0x00 ∷ []
boot_bytes = refl

boot_row : request_kind_of (setup_of (0x21 ∷ 0x0B ∷ 0x00 ∷ 0x00 ∷ 0x00 ∷ 0x00 ∷ 0x00 ∷ 0x00 ∷ []))
    ≡ Some (rows.SetProtocol Boot)
unfolding request_kind_of
boot_row = refl

-- Input reports come from endpoint 1
endpoint_of_reports : REPORT_ENDPOINT ≡ 1
endpoint_of_reports = refl

-- endpoint 1, to the host, is halted, its halt is ended, and its status is asked for (9.4.9, 9.4.1 and 9.4.5)
halt_bytes : setup_bytes (setup_for Halt (record { report_length = 63; endpoint = 1 }))
    ≡ 0x02 ∷ 0x03 ∷ 0x00 ∷ 0x00 ∷ 0x81 ∷ 0x00 ∷ 0x00 ∷ 0x00 ∷ []
halt_bytes = refl

clear_bytes : setup_bytes (setup_for Clear (record { report_length = 63; endpoint = 1 }))
    ≡ 0x02 ∷ 0x01 ∷ 0x00 ∷ 0x00 ∷ 0x81 ∷ 0x00 ∷ 0x00 ∷ 0x00 ∷ []
clear_bytes = refl

status_bytes : setup_bytes (setup_for EndpointStatus (record { report_length = 63; endpoint = 1 }))
    ≡ 0x82 ∷ 0x00 ∷ 0x00 ∷ 0x00 ∷ 0x81 ∷ 0x00 ∷ 0x02 ∷ 0x00 ∷ []
status_bytes = refl

halt_row : request_kind_of (setup_of (0x02 ∷ 0x03 ∷ 0x00 ∷ 0x00 ∷ 0x81 ∷ 0x00 ∷ 0x00 ∷ 0x00 ∷ []))
    ≡ Some rows.SetFeature
unfolding request_kind_of
halt_row = refl

-- of endpoint 1 from the host it is no row
halt_from_the_host : request_kind_of (setup_of (0x02 ∷ 0x03 ∷ 0x00 ∷ 0x00 ∷ 0x01 ∷ 0x00 ∷ 0x00 ∷ 0x00 ∷ [])) ≡ None
unfolding request_kind_of
halt_from_the_host = refl

-- vendor FFFF, product 0001
device : device_bytes (record { vendor = 0xFFFF; product = 0x0001 })
    ≡ 0x12 ∷ 0x01 ∷ 0x00 ∷ 0x02 ∷ 0x00 ∷ 0x00 ∷ 0x00 ∷ 0x08 ∷ 0xFF ∷ 0xFF ∷ 0x01 ∷ 0x00 ∷ 0x00 ∷ 0x01 ∷ 0x00 ∷ 0x00 ∷ 0x00 ∷ 0x01 ∷ []
device = refl

-- the boot keyboard of 63 bytes, polled every ten frames
keyboard : configuration_bytes (record { report_length = 63; endpoint = 1; subclass = 1; protocol = 1 }) 10
    ≡ 0x09 ∷ 0x02 ∷ 0x22 ∷ 0x00 ∷ 0x01 ∷ 0x01 ∷ 0x00 ∷ 0x80 ∷ 0x32
    ∷ 0x09 ∷ 0x04 ∷ 0x00 ∷ 0x00 ∷ 0x01 ∷ 0x03 ∷ 0x01 ∷ 0x01 ∷ 0x00
    ∷ 0x09 ∷ 0x21 ∷ 0x11 ∷ 0x01 ∷ 0x00 ∷ 0x01 ∷ 0x22 ∷ 0x3F ∷ 0x00
    ∷ 0x07 ∷ 0x05 ∷ 0x81 ∷ 0x03 ∷ 0x40 ∷ 0x00 ∷ 0x0A ∷ []
keyboard = refl
