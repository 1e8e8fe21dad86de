-- Requests and their rows.
use Rattle.std.proofs.Common.{◌≡◌, ◌<◌, ℕ, Bool, true, false, Option, Some, None, length, refl, ap, sym, subst, ◌∙◌, arith, ◌==◌, ◌&&◌, ◌%◌, ◌/◌, ◌^◌, ◌*◌, ◌+◌, eq-eqb}
use Rattle.std.specs.Prelude.{if◌then◌else◌, nat_le, option_map}
use Rattle.std.proofs.lemmas.Bool.Decides.{nat_tests}
use Rattle.hid_report_descriptor.specs.declared.report.ReportKind.{ReportKind}
use Rattle.hid_report_descriptor.specs.declared.report.ReportKind.TheVariants.{Input, Output, Feature}
use Rattle.usb_control.specs.declared.setup.Setup.{Setup}
use Rattle.usb_control.specs.SetupBytes.{IsEncoded, reads}
use Rattle.usb_control.specs.Host.{sent_length}
use Rattle.hid_requests.specs.declared.request_kinds.RequestKind.{RequestKind}
use Rattle.hid_requests.specs.declared.request_kinds.RequestKind.TheVariants.{Status, InterfaceStatus, ControlStatus, ReportStatus, DeviceDescriptor, Configuration, HidDescriptor, ReportDescriptor, GetConfiguration, GetInterface, SetConfiguration, ClearFeature, SetFeature, GetReport, GetIdle, GetProtocol, SetReport, SetIdle, SetProtocol}
use Rattle.hid_requests.specs.declared.class.Protocol.TheVariants as protocols
use Rattle.hid_requests.specs.declared.request.Request.{Request}
use Rattle.hid_requests.specs.declared.request.Request.TheVariants as requests
use Rattle.hid_requests.specs.declared.request.Asking.{Asking}
use Rattle.hid_requests.specs.Class.{kind_of, type_of}
use Rattle.hid_requests.specs.RequestKinds.{IsSorted, class_row, high_of, is_bare_class, is_bare_row, is_class, is_read, is_row, low_of, report_data_length, request_kind_of, standard_row}
use Rattle.hid_requests.specs.RequestSetup.{FitsRequest, IsOfReports, asks, endpoint_setup, row_of, sends_of, setup_for, word_of}

-- the row that there is, if any, is one of the request's
abbrev AreSorted : Setup → Option RequestKind → Type 0
AreSorted setup o = (asked : RequestKind) → o ≡ Some asked → IsSorted setup asked

-- a request of the first row, or of one of the rest
row : (setup : Setup) (test : Bool) (here rest : Option RequestKind) → (test ≡ true → AreSorted setup here)
    → AreSorted setup rest
    → AreSorted setup (if test then here else rest)
row setup true here rest there others = there refl
row setup false here rest there others = others

one : (setup : Setup) (asked : RequestKind) → IsSorted setup asked → AreSorted setup (Some asked)
one setup asked is other h = let e : asked ≡ other = cc in subst (IsSorted setup) e is

of_kind : (setup : Setup) (o : Option ReportKind) (made : ReportKind → RequestKind)
    → ((kind : ReportKind) → IsSorted setup (made kind))
    → AreSorted setup (option_map made o)
of_kind setup None made all = λ other h. absurd (cc)
of_kind setup (Some kind) made all = one setup (made kind) (all kind)

-- which way its data go, by bmRequestType
way : (setup : Setup) (type number : ℕ) (more : Bool) → ((setup.request_type == type) && (setup.request == number)) && more ≡ true
    → reads setup ≡ nat_le 128 type
way setup type number more h =
    let e : (setup.request_type == type) ≡ true = grind (arith, h) in
    let same : setup.request_type ≡ type = grind (arith, nat_tests, e) in
    ap (nat_le 128) same

-- a row of one wValue that reads
reading : (setup : Setup) (type number value index : ℕ) (asked : RequestKind) → nat_le 128 type ≡ is_read asked
    → is_read asked ≡ true
    → is_row setup type number value index ≡ true → AreSorted setup (Some asked)
reading setup type number value index asked same is h =
    one setup asked (record {
      ways = way setup type number ((setup.value == value) && (setup.index == index)) h ∙ same;
      bytes = λ writes. absurd (cc);
    })

-- a row of any wValue, with its data
with_data : (setup : Setup) (type number : ℕ) (asked : RequestKind) → nat_le 128 type ≡ is_read asked
    → (is_read asked ≡ false → setup.length ≡ report_data_length asked) → is_class setup type number ≡ true
    → IsSorted setup asked
with_data setup type number asked same bytes h =
    record { ways = way setup type number (setup.index == 0) h ∙ same; bytes = bytes }

-- rows that write without data
writing : (setup : Setup) (type number value index : ℕ) (asked : RequestKind) → nat_le 128 type ≡ is_read asked
    → report_data_length asked ≡ 0
    → is_bare_row setup type number value index ≡ true → AreSorted setup (Some asked)
writing setup type number value index asked same none h =
    let empty : setup.length ≡ 0 = grind (arith, nat_tests, h) in
    one setup asked (record {
      ways = way setup type number ((setup.value == value) && (setup.index == index)) (grind (arith, h)) ∙ same;
      bytes = λ writes. empty ∙ sym none;
    })

writing_any : (setup : Setup) (type number : ℕ) (asked : RequestKind) → nat_le 128 type ≡ is_read asked
    → report_data_length asked ≡ 0
    → is_bare_class setup type number ≡ true → AreSorted setup (Some asked)
writing_any setup type number asked same none h =
    let empty : setup.length ≡ 0 = grind (arith, nat_tests, h) in
    one setup asked (record {
      ways = way setup type number (setup.index == 0) (grind (arith, h)) ∙ same;
      bytes = λ writes. empty ∙ sym none;
    })

standard_sorted : (setup : Setup) → AreSorted setup (standard_row setup)
standard_sorted setup =
    row setup (is_row setup 0x80 0 0 0) (Some Status) _ (reading setup 0x80 0 0 0 Status refl refl)
    (row setup (is_row setup 0x81 0 0 0) (Some InterfaceStatus) _ (reading setup 0x81 0 0 0 InterfaceStatus refl refl)
    (row setup (is_row setup 0x82 0 0 0x00) (Some ControlStatus) _ (reading setup 0x82 0 0 0x00 ControlStatus refl refl)
    (row setup (is_row setup 0x82 0 0 0x80) (Some ControlStatus) _ (reading setup 0x82 0 0 0x80 ControlStatus refl refl)
    (row setup (is_row setup 0x82 0 0 0x81) (Some ReportStatus) _ (reading setup 0x82 0 0 0x81 ReportStatus refl refl)
    (row setup (is_row setup 0x80 6 0x0100 0) (Some DeviceDescriptor) _ (reading setup 0x80 6 0x0100 0 DeviceDescriptor refl refl)
    (row setup (is_row setup 0x80 6 0x0200 0) (Some Configuration) _ (reading setup 0x80 6 0x0200 0 Configuration refl refl)
    (row setup (is_row setup 0x81 6 0x2100 0) (Some HidDescriptor) _ (reading setup 0x81 6 0x2100 0 HidDescriptor refl refl)
    (row setup (is_row setup 0x81 6 0x2200 0) (Some ReportDescriptor) _ (reading setup 0x81 6 0x2200 0 ReportDescriptor refl refl)
    (row setup (is_row setup 0x80 8 0 0) (Some GetConfiguration) _ (reading setup 0x80 8 0 0 GetConfiguration refl refl)
    (row setup (is_row setup 0x81 10 0 0) (Some GetInterface) _ (reading setup 0x81 10 0 0 GetInterface refl refl)
    (row setup (is_bare_row setup 0x00 9 1 0) (Some SetConfiguration) _ (writing setup 0x00 9 1 0 SetConfiguration refl refl)
    (row setup (is_bare_row setup 0x02 1 0 0x81) (Some ClearFeature) _ (writing setup 0x02 1 0 0x81 ClearFeature refl refl)
    (row setup (is_bare_row setup 0x02 3 0 0x81) (Some SetFeature) None (writing setup 0x02 3 0 0x81 SetFeature refl refl)
    (λ other h. absurd (cc)))))))))))))))

class_sorted : (setup : Setup) → AreSorted setup (class_row setup)
class_sorted setup =
    row setup (is_class setup 0xA1 1) (option_map (λ kind. GetReport kind (low_of setup)) (kind_of (high_of setup))) _
    (λ h. of_kind setup (kind_of (high_of setup)) _ (λ kind. with_data setup 0xA1 1 (GetReport kind (low_of setup)) refl (λ writes. absurd (cc)) h))
    (row setup (is_row setup 0xA1 2 (low_of setup) 0) (Some (GetIdle (low_of setup))) _ (reading setup 0xA1 2 (low_of setup) 0 (GetIdle (low_of setup)) refl refl)
    (row setup (is_row setup 0xA1 3 0 0) (Some GetProtocol) _ (reading setup 0xA1 3 0 0 GetProtocol refl refl)
    (row setup (is_class setup 0x21 9) (option_map (λ kind. SetReport kind (low_of setup) setup.length) (kind_of (high_of setup))) _
    (λ h. of_kind setup (kind_of (high_of setup)) _ (λ kind. with_data setup 0x21 9 (SetReport kind (low_of setup) setup.length) refl (λ writes. refl) h))
    (row setup (is_bare_class setup 0x21 10) (Some (SetIdle (low_of setup) (high_of setup))) _ (writing_any setup 0x21 10 (SetIdle (low_of setup) (high_of setup)) refl refl)
    (row setup (is_bare_row setup 0x21 11 0 0) (Some (SetProtocol protocols.Boot)) _ (writing setup 0x21 11 0 0 (SetProtocol protocols.Boot) refl refl)
    (row setup (is_bare_row setup 0x21 11 1 0) (Some (SetProtocol protocols.Report)) None (writing setup 0x21 11 1 0 (SetProtocol protocols.Report) refl refl)
    (λ other h. absurd (cc))))))))

first_sorted : (setup : Setup) (first second : Option RequestKind) → AreSorted setup first → AreSorted setup second
    → AreSorted setup (elim first [ None ↦ second | Some asked ↦ Some asked ])
first_sorted setup None second here there = there
first_sorted setup (Some asked) second here there = here

pub sorted : (setup : Setup) (asked : RequestKind) → request_kind_of setup ≡ Some asked → IsSorted setup asked
unfolding request_kind_of
sorted setup = first_sorted setup (standard_row setup) (class_row setup) (standard_sorted setup) (class_sorted setup)

-- the bytes of a word
high_is : (high low : ℕ) → low < 2 ^ 8 → word_of high low / 2 ^ 8 ≡ high
high_is high low small = omega arith

low_is : (high low : ℕ) → low < 2 ^ 8 → word_of high low % 2 ^ 8 ≡ low
low_is high low small = omega arith

kind_back : (kind : ReportKind) → kind_of (type_of kind) ≡ Some kind
kind_back Input = refl
kind_back Output = refl
kind_back Feature = refl

-- a host that knows that endpoint asks of it
pub of_reports : (request : Request) (asking : Asking) → asking.endpoint ≡ 1 → IsOfReports request asking
of_reports requests.Device asking known = tt
of_reports requests.Config asking known = tt
of_reports requests.Report asking known = tt
of_reports requests.Configure asking known = tt
of_reports requests.Status asking known = tt
of_reports requests.GetConfiguration asking known = tt
of_reports (requests.Idle id time) asking known = tt
of_reports (requests.GetIdle id) asking known = tt
of_reports (requests.Protocol boot) asking known = tt
of_reports requests.GetProtocol asking known = tt
of_reports (requests.GetReport kind id) asking known = tt
of_reports (requests.SetReport kind id bytes) asking known = tt
of_reports requests.Halt asking known = known
of_reports requests.Clear asking known = known
of_reports requests.EndpointStatus asking known = known

pub asked_so : (request : Request) (asking : Asking) → FitsRequest request → IsOfReports request asking
    → request_kind_of (setup_for request asking) ≡ Some (row_of request)
unfolding request_kind_of
asked_so requests.Device asking fits known = refl
asked_so requests.Config asking fits known = refl
asked_so requests.Report asking fits known = refl
asked_so requests.Configure asking fits known = refl
asked_so requests.Status asking fits known = refl
asked_so requests.GetConfiguration asking fits known = refl
asked_so (requests.Idle id time) asking fits known = rw (high_is time id fits.0, low_is time id fits.0) refl
asked_so (requests.GetIdle id) asking fits known =
    let low : id % 2 ^ 8 ≡ id = omega (arith, fits) in
    rw (low, eq-eqb id id refl) refl
asked_so (requests.Protocol true) asking fits known = refl
asked_so (requests.Protocol false) asking fits known = refl
asked_so requests.GetProtocol asking fits known = refl
asked_so (requests.GetReport kind id) asking fits known =
    rw (high_is (type_of kind) id fits, low_is (type_of kind) id fits, kind_back kind) refl
asked_so (requests.SetReport kind id bytes) asking fits known =
    rw (high_is (type_of kind) id fits.0, low_is (type_of kind) id fits.0, kind_back kind) refl
asked_so requests.Halt asking fits known = rw known refl
asked_so requests.Clear asking fits known = rw known refl
asked_so requests.EndpointStatus asking fits known = rw known refl

-- the data that go with a request are as long as it says
pub sends_so : (request : Request) (asking : Asking) → length (sends_of request) ≡ sent_length (setup_for request asking)
sends_so requests.Device asking = refl
sends_so requests.Config asking = refl
sends_so requests.Report asking = refl
sends_so requests.Configure asking = refl
sends_so requests.Status asking = refl
sends_so requests.GetConfiguration asking = refl
sends_so (requests.Idle id time) asking = refl
sends_so (requests.GetIdle id) asking = refl
sends_so (requests.Protocol boot) asking = refl
sends_so requests.GetProtocol asking = refl
sends_so (requests.GetReport kind id) asking = refl
sends_so (requests.SetReport kind id bytes) asking = refl
sends_so requests.Halt asking = refl
sends_so requests.Clear asking = refl
sends_so requests.EndpointStatus asking = refl

word_back : (n : ℕ) → n < 2 ^ 16 → n % 256 + 256 * (n / 256 % 256) ≡ n
word_back n small = omega arith

encoded : (type number value len : ℕ) → value < 2 ^ 16 → len < 2 ^ 16 → IsEncoded (asks type number value len)
encoded type number value len v l =
    ap (λ (n : ℕ). asks type number n (len % 256 + 256 * (len / 256 % 256))) (word_back value v)
    ∙ ap (asks type number value) (word_back len l)

spelled_endpoint : (type number endpoint len : ℕ) → endpoint < 2 ^ 8 → len < 2 ^ 16
    → IsEncoded (endpoint_setup type number endpoint len)
spelled_endpoint type number endpoint len e l =
    ap (λ (n : ℕ). record (endpoint_setup type number endpoint (len % 256 + 256 * (len / 256 % 256))) { index = n })
    (word_back (0x80 + endpoint) (omega (arith, e)))
    ∙ ap (endpoint_setup type number endpoint) (word_back len l)

type_small : (kind : ReportKind) → type_of kind < 2 ^ 8
type_small Input = omega arith
type_small Output = omega arith
type_small Feature = omega arith

pub encoded_so : (request : Request) (asking : Asking) → FitsRequest request → asking.report_length < 2 ^ 16 → asking.endpoint < 2 ^ 8 → IsEncoded (setup_for request asking)
encoded_so requests.Device asking fits short few = refl
encoded_so requests.Config asking fits short few = refl
encoded_so requests.Report asking fits short few = encoded 0x81 6 0x2200 asking.report_length (omega arith) short
encoded_so requests.Configure asking fits short few = refl
encoded_so requests.Status asking fits short few = refl
encoded_so requests.GetConfiguration asking fits short few = refl
encoded_so (requests.Idle id time) asking fits short few =
    let h = fits.0 in let t = fits.1 in
    encoded 0x21 10 (word_of time id) 0 (omega arith) (omega arith)
encoded_so (requests.GetIdle id) asking fits short few = encoded 0xA1 2 id 1 (omega (arith, fits)) (omega arith)
encoded_so (requests.Protocol true) asking fits short few = refl
encoded_so (requests.Protocol false) asking fits short few = refl
encoded_so requests.GetProtocol asking fits short few = refl
encoded_so (requests.GetReport kind id) asking fits short few =
    let t = type_small kind in
    encoded 0xA1 1 (word_of (type_of kind) id) 256 (omega (arith, fits)) (omega arith)
encoded_so (requests.SetReport kind id bytes) asking fits short few =
    let t = type_small kind in
    let i = fits.0 in
    let l = fits.1 in
    encoded 0x21 9 (word_of (type_of kind) id) (length bytes.items) (omega arith) (omega arith)
encoded_so requests.Halt asking fits short few = spelled_endpoint 0x02 3 asking.endpoint 0 few (omega arith)
encoded_so requests.Clear asking fits short few = spelled_endpoint 0x02 1 asking.endpoint 0 few (omega arith)
encoded_so requests.EndpointStatus asking fits short few = spelled_endpoint 0x82 0 asking.endpoint 2 few (omega arith)
