-- What is asked of an interface, by a record of numbers (HID 1.11, 7.2; the record: our choice).
use Rattle.std.specs.Prelude.{◌≡◌, ℕ, List}
use Rattle.hid_report_descriptor.specs.Kinds.{rank}
use Rattle.hid_driver.specs.declared.ask.Ask.{Ask}
use Rattle.hid_driver.specs.declared.ask.Ask.TheVariants.{GetReport, SetReport, Idle}
use Rattle.hidstack_host.specs.declared.asked.HidAsk.{HidAsk}
use Rattle.hidstack_host.specs.declared.asked.TheConstants.{GET_REPORT, SET_REPORT, SET_IDLE}

-- a record asks for this, with these data: its request is the bRequest, and its kind that of the report
abbrev pub IsAsk : HidAsk → List ℕ → Ask → Type 0
IsAsk asked sent (GetReport kind id) = (asked.request ≡ GET_REPORT) × (asked.kind ≡ rank kind) × (asked.id ≡ id)
IsAsk asked sent (SetReport kind id bytes) =
    (asked.request ≡ SET_REPORT) × (asked.kind ≡ rank kind) × (asked.id ≡ id) × (bytes.now ≡ sent)
IsAsk asked sent (Idle id time) = (asked.request ≡ SET_IDLE) × (asked.id ≡ id) × (asked.time ≡ time)
