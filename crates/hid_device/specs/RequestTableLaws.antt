-- The laws of what answers requests (USB 2.0, 9.2 and 9.4; HID 1.11, 7.2), with the lemmas from which they follow.
use Rattle.std.proofs.Common.{◌≡◌, ◌≤◌, ℕ, Bool, true, false, ◌&&◌, ◌==◌, not, List, Option, Some, None, refl, ap, sym, ◌∙◌, subst, arith}
use Rattle.std.specs.Prelude.{IsSome, if◌then◌else◌, nat_le, option_map, [], ◌∷◌}
use Rattle.std.proofs.lemmas.Bool.Decides.{nat_tests}
use Rattle.usb_control.specs.declared.device.TheConstants.{MAX_WRITE}
use Rattle.usb_control.specs.declared.setup.Setup.{Setup}
use Rattle.usb_control.specs.SetupBytes.{reads}
use Rattle.usb_control.specs.TryFunctions.{AppliesBy, PreparesBy}
use Rattle.hid_requests.specs.declared.request_kinds.RequestKind.{RequestKind}
use Rattle.hid_requests.specs.declared.request_kinds.RequestKind.TheVariants.{Status, InterfaceStatus, ControlStatus, ReportStatus, DeviceDescriptor, Configuration, HidDescriptor, ReportDescriptor, GetConfiguration, GetInterface, SetConfiguration, ClearFeature, SetFeature, GetReport, GetIdle, GetProtocol, SetReport, SetIdle, SetProtocol}
use Rattle.hid_requests.specs.RequestKinds.{IsSorted, request_kind_of}
use Rattle.hid_report_descriptor.specs.declared.report.ReportKind.TheVariants.{Input}
use Rattle.hid_requests.specs.Class.{protocol_number}
use Rattle.hid_requests.proofs.RequestKindLemmas.{sorted}
use Rattle.hid_requests.specs.Boot.{is_boot}
use Rattle.hid_device.specs.declared.decisions.PendingWrite.{PendingWrite}
use Rattle.hid_device.specs.declared.decisions.PendingWrite.TheVariants.{Nothing, Configure, Keep, Idle, Halt, Clear}
use Rattle.hid_device.specs.declared.decisions.PendingWrite.TheVariants as pendings
use Rattle.hid_device.specs.Core.{CoreState}
use Rattle.hid_device.specs.RequestDecisions.{RequestDecision, Refuses, Reads, Writes, is_accepted, reads_if, writes_if}
use Rattle.hid_device.specs.Outputs.{kept_bytes, kept_place, report_number_of}
use Rattle.hid_device.specs.RequestTable.{core_after_decision, core_after_write, core_table, decide, decision_on, endpoint_status, idle_time_of, reads_optional, report_now, row_decision, sets_idle, sets_idle_of, sets_report}

-- a decision fits a setup: a read one that reads, and a write one that writes no more bytes than a device takes
abbrev IsOf : Setup → RequestDecision → Type 0
IsOf setup Refuses = Unit {0}
IsOf setup (Reads bytes) = reads setup ≡ true
IsOf setup (Writes pending) = (reads setup ≡ false) × (setup.length ≤ MAX_WRITE)

-- a read with a condition fits a setup that reads
of_reads : (setup : Setup) (holds : Bool) (bytes : List ℕ) → reads setup ≡ true → IsOf setup (reads_if holds bytes)
of_reads setup true bytes is = is
of_reads setup false bytes is = tt

-- a read of what there is fits a setup that reads
of_any : (setup : Setup) (bytes : Option (List ℕ)) → reads setup ≡ true → IsOf setup (reads_optional bytes)
of_any setup None is = tt
of_any setup (Some bytes) is = is

-- a write of a row without data fits a setup that writes no bytes
of_write : (setup : Setup) (pending : PendingWrite) → reads setup ≡ false → setup.length ≡ 0
    → IsOf setup (Writes pending)
of_write setup pending writes none = (writes, omega (arith, none))

-- a write with a condition fits a setup that writes no more bytes than a device takes
of_writes :
    (setup : Setup) (holds : Bool) (pending : PendingWrite) → reads setup ≡ false
    → (holds ≡ true → setup.length ≤ MAX_WRITE) → IsOf setup (writes_if holds pending)
of_writes setup true pending writes short = (writes, short refl)
of_writes setup false pending writes short = tt

-- a report that is set fits a setup that writes as many bytes
of_keeps :
    (core : CoreState) (setup : Setup) (len : ℕ) (place : Option ℕ) → reads setup ≡ false → setup.length ≡ len
    → IsOf setup (sets_report core len place)
of_keeps core setup len None writes same = tt
of_keeps core setup len (Some i) writes same =
    of_writes setup ((len == kept_bytes core.layout i) && nat_le len MAX_WRITE) (Keep i) writes
    (λ h. let small : len ≤ MAX_WRITE = grind (arith, nat_tests, h) in omega (arith, same, small))

-- an idle time of one report fits a setup that writes no bytes
of_idle_of :
    (setup : Setup) (time : ℕ) (place : Option ℕ) → reads setup ≡ false → setup.length ≡ 0
    → IsOf setup (sets_idle_of time place)
of_idle_of setup time None writes none = tt
of_idle_of setup time (Some r) writes none = of_write setup (Idle (Some r) time) writes none

-- of two decisions that fit a setup each choice fits it
of_either : (setup : Setup) (test : Bool) (one other : RequestDecision) → IsOf setup one → IsOf setup other
    → IsOf setup (if test then one else other)
of_either setup true one other h k = h
of_either setup false one other h k = k

-- idle times fit a setup that writes no bytes
of_idle :
    (core : CoreState) (setup : Setup) (id time : ℕ) → reads setup ≡ false → setup.length ≡ 0
    → IsOf setup (sets_idle core id time)
of_idle core setup id time writes none =
    of_either setup (id == 0) (Writes (Idle None time))
    (sets_idle_of time (report_number_of core.layout.reports Input id))
    (of_write setup (Idle None time) writes none)
    (of_idle_of setup time (report_number_of core.layout.reports Input id) writes none)

-- what is decided on a row of the request tables fits the setups of that row
of_row : (core : CoreState) (setup : Setup) (asked : RequestKind) → IsSorted setup asked
    → IsOf setup (row_decision core asked)
of_row core setup Status h = h.ways
of_row core setup InterfaceStatus h = of_reads setup core.is_configured (0 ∷ 0 ∷ []) h.ways
of_row core setup ControlStatus h = h.ways
of_row core setup ReportStatus h = of_reads setup core.is_configured (endpoint_status core.halted) h.ways
of_row core setup DeviceDescriptor h = h.ways
of_row core setup Configuration h = h.ways
of_row core setup HidDescriptor h = h.ways
of_row core setup ReportDescriptor h = h.ways
of_row core setup GetConfiguration h = h.ways
of_row core setup GetInterface h = of_reads setup core.is_configured (0 ∷ []) h.ways
of_row core setup SetConfiguration h = of_write setup Configure h.ways (h.bytes refl)
of_row core setup ClearFeature h =
    of_writes setup core.is_configured Clear h.ways (λ holds. let none = h.bytes refl in omega (arith, none))
of_row core setup SetFeature h =
    of_writes setup core.is_configured Halt h.ways (λ holds. let none = h.bytes refl in omega (arith, none))
of_row core setup (GetReport kind id) h = of_any setup (report_now core kind id) h.ways
of_row core setup (GetIdle id) h = of_any setup (option_map (λ time. time ∷ []) (idle_time_of core id)) h.ways
of_row core setup GetProtocol h =
    of_reads setup (is_boot core.config.boot) (protocol_number core.protocol ∷ []) h.ways
of_row core setup (SetReport kind id len) h =
    of_keeps core setup len (kept_place core.layout.reports kind id) h.ways (h.bytes refl)
of_row core setup (SetIdle id time) h = of_idle core setup id time h.ways (h.bytes refl)
of_row core setup (SetProtocol protocol) h =
    of_writes setup (is_boot core.config.boot && not core.is_configured) (pendings.Protocol protocol) h.ways
    (λ holds. let none = h.bytes refl in omega (arith, none))

-- what is decided on a setup by its row fits the setup
of_asked :
    (core : CoreState) (setup : Setup) (o : Option RequestKind)
    → ((asked : RequestKind) → o ≡ Some asked → IsSorted setup asked)
    → IsOf setup (decision_on core o)
of_asked core setup None h = tt
of_asked core setup (Some asked) h = of_row core setup asked (h asked refl)

-- what is decided on a setup fits it: reads read, and writes have no more bytes than a device takes
decides : (core : CoreState) (setup : Setup) → IsOf setup (decide core setup)
unfolding decide
decides core setup = of_asked core setup (request_kind_of setup) (sorted setup)

-- a read that is accepted leaves an answer, whatever was decided
answer_there :
    (s t : CoreState) (setup : Setup) (d : RequestDecision) → IsOf setup d → true ≡ is_accepted d
    → t ≡ core_after_decision s d
    → reads setup ≡ true → IsSome t.answer
answer_there s t setup Refuses of accepted left is_read = absurd (cc)
answer_there s t setup (Reads bytes) of accepted left is_read =
    subst (λ (x : CoreState). IsSome x.answer) (sym left) refl
answer_there s t setup (Writes pending) of accepted left is_read = let no = of.0 in absurd (cc)

-- a read that is accepted has an answer
pub read_has_answer :
    (s t : CoreState) (setup : Setup) → PreparesBy core_table s setup true t → reads setup ≡ true
    → IsSome (core_table.answer_of t)
read_has_answer s t setup h is_read = answer_there s t setup (decide s setup) (decides s setup) h.0 h.1 is_read

-- a write that is accepted has no more bytes than a device takes, whatever was decided
short_there :
    (setup : Setup) (d : RequestDecision) → IsOf setup d → true ≡ is_accepted d → reads setup ≡ false
    → setup.length ≤ MAX_WRITE
short_there setup Refuses of accepted writes = absurd (cc)
short_there setup (Reads bytes) of accepted writes = absurd (cc)
short_there setup (Writes pending) of accepted writes = of.1

-- a write that is accepted has no more bytes than endpoint 0 collects
pub write_is_short :
    (s t : CoreState) (setup : Setup) → PreparesBy core_table s setup true t → reads setup ≡ false
    → setup.length ≤ MAX_WRITE
write_is_short s t setup h writes = short_there setup (decide s setup) (decides s setup) h.0 writes

-- the core of a device with another answer and another effect of the last request
abbrev pub with_request : CoreState → Option (List ℕ) → PendingWrite → CoreState
with_request core answer pending = record core { answer = answer; pending = pending }

-- nothing changed but the answer and the pending effect of the last request
abbrev pub SameButRequest : CoreState → CoreState → Type 0
SameButRequest s t = t ≡ with_request s t.answer t.pending

-- a decision changes the answer and the pending effect alone
decision_is_request : (s : CoreState) (d : RequestDecision)
    → core_after_decision s d
    ≡ with_request s (core_after_decision s d).answer (core_after_decision s d).pending
decision_is_request s Refuses = refl
decision_is_request s (Reads bytes) = refl
decision_is_request s (Writes pending) = refl

-- a decision changes nothing but the answer and the pending effect
pub prepare_keeps :
    (s t : CoreState) (setup : Setup) (said : Bool) → PreparesBy core_table s setup said t → SameButRequest s t
prepare_keeps s t setup said h =
    h.1 ∙ decision_is_request s (decide s setup)
    ∙ sym (ap (λ (x : CoreState). with_request s x.answer x.pending) h.1)

-- what is decided on a row depends on no earlier answer or pending effect
same_row :
    (s : CoreState) (answer : Option (List ℕ)) (pending : PendingWrite) (asked : RequestKind)
    → row_decision (with_request s answer pending) asked ≡ row_decision s asked
same_row s answer pending Status = refl
same_row s answer pending InterfaceStatus = refl
same_row s answer pending ControlStatus = refl
same_row s answer pending ReportStatus = refl
same_row s answer pending DeviceDescriptor = refl
same_row s answer pending Configuration = refl
same_row s answer pending HidDescriptor = refl
same_row s answer pending ReportDescriptor = refl
same_row s answer pending GetConfiguration = refl
same_row s answer pending GetInterface = refl
same_row s answer pending SetConfiguration = refl
same_row s answer pending ClearFeature = refl
same_row s answer pending SetFeature = refl
same_row s answer pending (GetReport kind id) = refl
same_row s answer pending (GetIdle id) = refl
same_row s answer pending GetProtocol = refl
same_row s answer pending (SetReport kind id len) = refl
same_row s answer pending (SetIdle id time) = refl
same_row s answer pending (SetProtocol protocol) = refl

-- what is decided on a row that may be none depends on no earlier answer or pending effect
same_asked :
    (s : CoreState) (answer : Option (List ℕ)) (pending : PendingWrite) (o : Option RequestKind)
    → decision_on (with_request s answer pending) o ≡ decision_on s o
same_asked s answer pending None = refl
same_asked s answer pending (Some asked) = same_row s answer pending asked

-- what is decided on a setup depends on no earlier answer or pending effect
same_decided :
    (s : CoreState) (answer : Option (List ℕ)) (pending : PendingWrite) (setup : Setup)
    → decide (with_request s answer pending) setup ≡ decide s setup
unfolding decide
same_decided s answer pending setup = same_asked s answer pending (request_kind_of setup)

-- what a decision leaves depends on no earlier answer or pending effect
same_left :
    (s : CoreState) (answer : Option (List ℕ)) (pending : PendingWrite) (d : RequestDecision)
    → core_after_decision (with_request s answer pending) d ≡ core_after_decision s d
same_left s answer pending Refuses = refl
same_left s answer pending (Reads bytes) = refl
same_left s answer pending (Writes later) = refl

-- what deciding on a request leaves depends on no earlier answer or pending effect
request_is_forgotten :
    (s u : CoreState) (answer : Option (List ℕ)) (pending : PendingWrite) (setup : Setup) (said : Bool)
    → PreparesBy core_table (with_request s answer pending) setup said u → PreparesBy core_table s setup said u
request_is_forgotten s u answer pending setup said h = (
  h.0 ∙ ap is_accepted (same_decided s answer pending setup),
  h.1 ∙ same_left s answer pending (decide (with_request s answer pending) setup)
      ∙ ap (core_after_decision s) (same_decided s answer pending setup),
)

-- a decision depends on no earlier answer, and on no write that waits
pub prepare_forgets :
    (s t u : CoreState) (setup : Setup) (said : Bool) → SameButRequest s t → PreparesBy core_table t setup said u
    → PreparesBy core_table s setup said u
prepare_forgets s t u setup said same h =
    request_is_forgotten s u t.answer t.pending setup said
    (subst (λ (x : CoreState). PreparesBy core_table x setup said u) same h)

-- a read leaves no pending effect
nothing_pending : (s : CoreState) (setup : Setup) (d : RequestDecision) → IsOf setup d → reads setup ≡ true
    → (core_after_decision s d).pending ≡ Nothing
nothing_pending s setup Refuses of is_read = refl
nothing_pending s setup (Reads bytes) of is_read = refl
nothing_pending s setup (Writes pending) of is_read = let no = of.0 in absurd (cc)

-- a read brings nothing about
pub read_has_no_effect :
    (s t u : CoreState) (setup : Setup) (bytes : List ℕ) → PreparesBy core_table s setup true t → reads setup ≡ true
    → AppliesBy core_table t bytes u → u ≡ t
read_has_no_effect s t u setup bytes h is_read applies =
    applies ∙ ap (core_after_write t bytes) (ap (λ (x : CoreState). x.pending) h.1
    ∙ nothing_pending s setup (decide s setup) (decides s setup) is_read)
