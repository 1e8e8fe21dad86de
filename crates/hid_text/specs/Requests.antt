-- What a line says of a request: its name, and after that an ID, an idle time, a protocol or a type of report (our
-- choice: the script language of docs/SCRIPT.md; USB 2.0, 9.4; HID 1.11, 7.2 and 7.2.2).
use Rattle.std.specs.Prelude.{ℕ, nat_lt, Bool, true, false, List, [], ◌∷◌, if◌then◌else◌, Option, None, Some, Result, Ok, Err, codes}
use Rattle.hid_report_descriptor.specs.declared.report.ReportKind.{ReportKind}
use Rattle.hid_report_descriptor.specs.declared.report.ReportKind.TheVariants as kinds
use Rattle.hid_requests.specs.declared.request.Request.{Request}
use Rattle.hid_requests.specs.declared.request.Request.TheVariants.{Device, Config, Report, Configure, Status, GetConfiguration, Idle, GetIdle, Protocol, GetProtocol, GetReport, SetReport, Halt, Clear, EndpointStatus}
use Rattle.hid_text.specs.declared.fault.LineFault.{LineFault}
use Rattle.hid_text.specs.declared.fault.LineFault.TheVariants.{Syntax}
use Rattle.hid_text.specs.declared.line.Line.{Line}
use Rattle.hid_text.specs.declared.line.Line.TheVariants.{Begin}
use Rattle.hid_text.specs.declared.requests.RequestWord.{RequestWord}
use Rattle.hid_text.specs.declared.requests.RequestWord.TheVariants as words
use Rattle.hid_text.specs.Words.{Word, look_up, hex_of, byte_count}
use Rattle.hid_text.specs.Numbers.{device_of, byte_of}
use Rattle.hid_text.specs.Arguments.{or_syntax, with_bytes, both}

-- the first word of a request
abbrev pub request_word_of : Word → Option RequestWord
request_word_of = look_up (
    (codes "device", words.Device) ∷ (codes "config", words.Config) ∷ (codes "report", words.Report)
    ∷ (codes "configure", words.Configure) ∷ (codes "status", words.Status)
    ∷ (codes "get-configuration", words.GetConfiguration) ∷ (codes "idle", words.Idle)
    ∷ (codes "get-idle", words.GetIdle) ∷ (codes "protocol", words.Protocol)
    ∷ (codes "get-protocol", words.GetProtocol) ∷ (codes "get-report", words.GetReport)
    ∷ (codes "set-report", words.SetReport) ∷ (codes "halt", words.Halt) ∷ (codes "clear", words.Clear)
    ∷ (codes "endpoint-status", words.EndpointStatus) ∷ [])

-- TYPE
abbrev pub report_type_of : Word → Option ReportKind
report_type_of =
    look_up ((codes "input", kinds.Input) ∷ (codes "output", kinds.Output) ∷ (codes "feature", kinds.Feature)
    ∷ [])

-- whether a protocol is the boot protocol
abbrev pub boot_protocol_of : Word → Option Bool
boot_protocol_of = look_up ((codes "boot", true) ∷ (codes "report", false) ∷ [])

-- a request with no words after it
unfoldable pub bare_request : Request → List Word → Result Request LineFault
bare_request request [] = Ok request
bare_request request _ = Err Syntax

-- ID TIME
unfoldable pub idle_meaning : List Word → Option (ℕ × ℕ)
idle_meaning (id ∷ time ∷ []) = both (byte_of id) (byte_of time)
idle_meaning _ = None

-- ID
unfoldable pub id_meaning : List Word → Option ℕ
id_meaning (id ∷ []) = byte_of id
id_meaning _ = None

-- boot or report
unfoldable pub protocol_meaning : List Word → Option Bool
protocol_meaning (protocol ∷ []) = boot_protocol_of protocol
protocol_meaning _ = None

-- TYPE ID
unfoldable pub report_meaning : List Word → Option (ReportKind × ℕ)
report_meaning (kind ∷ id ∷ []) = both (report_type_of kind) (byte_of id)
report_meaning _ = None

-- a report and its bytes, 256 at most: how many there are is looked at before their digits
abbrev pub set_report : Option (ReportKind × ℕ) → List Word → Result Request LineFault
set_report None hex = Err Syntax
set_report (Some said) hex =
    if nat_lt 256 (byte_count hex) then Err Syntax
    else with_bytes (SetReport said.0 said.1) (hex_of hex)

-- TYPE ID HEX
unfoldable pub set_report_meaning : List Word → Result Request LineFault
set_report_meaning (kind ∷ id ∷ hex) = set_report (both (report_type_of kind) (byte_of id)) hex
set_report_meaning _ = Err Syntax

-- what the words after the first one of a request say
unfoldable pub request_of_words : RequestWord → List Word → Result Request LineFault
request_of_words words.Device more = bare_request Device more
request_of_words words.Config more = bare_request Config more
request_of_words words.Report more = bare_request Report more
request_of_words words.Configure more = bare_request Configure more
request_of_words words.Status more = bare_request Status more
request_of_words words.GetConfiguration more = bare_request GetConfiguration more
request_of_words words.Idle more = or_syntax (λ said. Idle said.0 said.1) (idle_meaning more)
request_of_words words.GetIdle more = or_syntax GetIdle (id_meaning more)
request_of_words words.Protocol more = or_syntax Protocol (protocol_meaning more)
request_of_words words.GetProtocol more = bare_request GetProtocol more
request_of_words words.GetReport more = or_syntax (λ said. GetReport said.0 said.1) (report_meaning more)
request_of_words words.SetReport more = set_report_meaning more
request_of_words words.Halt more = bare_request Halt more
request_of_words words.Clear more = bare_request Clear more
request_of_words words.EndpointStatus more = bare_request EndpointStatus more

-- a request that begins with another word is none
abbrev pub request_of_word : Option RequestWord → List Word → Result Request LineFault
request_of_word None more = Err Syntax
request_of_word (Some word) more = request_of_words word more

-- what the words of a request say, after its name. Example: idle 0 125 is an idle time of 500 ms for all Input reports;
-- clear 81 is X1
unfoldable pub request_meaning : List Word → Result Request LineFault
request_meaning [] = Err Syntax
request_meaning (first ∷ more) = request_of_word (request_word_of first) more

-- a device and what its host asks: the device is looked at first
abbrev pub begin_with : Option ℕ → Result Request LineFault → Result Line LineFault
begin_with None request = Err Syntax
begin_with (Some dev) (Err fault) = Err fault
begin_with (Some dev) (Ok request) = Ok (Begin dev request)

-- D REQUEST
unfoldable pub begin_meaning : List Word → Result Line LineFault
begin_meaning (dev ∷ request) = begin_with (device_of dev) (request_meaning request)
begin_meaning _ = Err Syntax
