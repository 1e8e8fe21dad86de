-- A request as a record of numbers (USB 2.0, 9.3; the record: our choice).
use Rattle.usb_control.specs.declared.setup.Setup.{Setup}
use Rattle.hidstack.specs.declared.setup.HidSetup.{HidSetup}

-- the request of a record, field by field
abbrev pub setup_of : HidSetup → Setup
setup_of s = record { request_type = s.request_type; request = s.request; value = s.value; index = s.index; length = s.length }

-- the record of a request, field by field
abbrev pub setup_record : Setup → HidSetup
setup_record s = record { request_type = s.request_type; request = s.request; value = s.value; index = s.index; length = s.length }
