-- What a host makes of the answers of its virtual device is so, and nothing of them is refused.
use Rattle.std.proofs.Common.{rules, ◌≡◌, ◌⊎◌, inl, inr, ℕ, true, List, [], ◌∷◌, length, Result, Ok, Err, refl, ap, sym, ◌∙◌, subst, arith}
use Rattle.std.specs.Prelude.{◌<◌, ◌^◌}
use Rattle.std.specs.List.{concat}
use Rattle.hid_report_descriptor.specs.Bus.{HasOneReading, AcceptsNoRefused}
use Rattle.hid_layout.specs.Layout.{Contents, layout_of}
use Rattle.usb_control.specs.declared.descriptors.ConfigInfo.{ConfigInfo}
use Rattle.usb_control.specs.declared.descriptors.DeviceInfo.{DeviceInfo}
use Rattle.usb_control.specs.declared.fault.InfoFault.{InfoFault}
use Rattle.usb_control.specs.declared.fault.InfoFault.TheVariants.{TooShort, WrongType, NoHidInterface, NoReportDescriptor, NoEndpoint}
use Rattle.usb_control.specs.Descriptors.{IsDevice, IsWalk, ReadsConfig, configuration_of}
use Rattle.usb_control.proofs.WalkLemmas.{goes_on}
use Rattle.hid_requests.specs.declared.request.Request.{Request}
use Rattle.hid_requests.specs.declared.request.Request.TheVariants as requests
use Rattle.hid_requests.specs.Descriptors.{FitsConfig, configuration_bytes, device_bytes}
use Rattle.hid_requests.proofs.DescriptorLemmas.{configuration_read}
use Rattle.hid_device.specs.Core.{CoreState}
use Rattle.hid_device.specs.RequestTable.{device_info}
use Rattle.hid_layout.specs.Parsing.{ParsesTo}
use Rattle.hid_host.specs.declared.fault.StackFault.{StackFault}
use Rattle.hid_host.specs.declared.fault.StackFault.TheVariants.{NoDevice, NotReady, Refused, Control, BadDescriptor, Report, TooManyDevices, Memory}
use Rattle.hid_host.specs.declared.fault.DescriptorFault.TheVariants.{Info, ReportLength, Layout, Device}
use Rattle.hid_host.specs.declared.phase.HostPhase.{HostPhase}
use Rattle.hid_host.specs.declared.phase.HostPhase.TheVariants.{Cold, Described, Parsed, Ready}
use Rattle.hid_host.specs.Conclusions.{Concludes, ConfigRead, Configured, DeviceRead, ReportRead, phase_after_answer, phase_or_fault}
use Rattle.hid_host.specs.Host.{conclusion_result}
use Rattle.hid_stack.specs.HostInvariant.{HasEffect, IsConsistentAt, IsNoRefusal, phase_info}
use Rattle.hid_host.specs.Phase.{cleared_phase, may_begin, state_of}

-- ---- a configuration is read in one way

one_walk : (bytes : List ℕ) (ds es : List (List ℕ)) → IsWalk bytes ds → IsWalk bytes es → ds ≡ es
one_walk bytes [] [] w v = refl
one_walk bytes [] (e ∷ es) w v =
    let g = goes_on e (concat es) [] v.each.0 (subst (λ (b : List ℕ). IsWalk b []) (sym v.whole) w) in
    let wrong = g.split in absurd (cc)
one_walk bytes (d ∷ ds) es w v =
    let g = goes_on d (concat ds) es w.each.0 (subst (λ (b : List ℕ). IsWalk b es) (sym w.whole) v) in
    ap (λ (xs : List (List ℕ)). d ∷ xs) (one_walk (concat ds) ds g.rest (record { each = w.each.1; whole = refl }) g.walk) ∙ sym g.split

read_by : (bytes : List ℕ) (ds es : List (List ℕ)) (info : ConfigInfo) (r : Result ConfigInfo InfoFault)
    → IsWalk bytes ds → IsWalk bytes es → Ok info ≡ configuration_of ds → r ≡ configuration_of es → r ≡ Ok info
read_by bytes ds es info r w v is_ok is = is ∙ ap configuration_of (sym (one_walk bytes ds es w v)) ∙ sym is_ok

one_config : (bytes : List ℕ) (info : ConfigInfo) (r : Result ConfigInfo InfoFault) → ReadsConfig bytes (Ok info) → ReadsConfig bytes r → r ≡ Ok info
one_config bytes info (Ok other) (ds, walk, first, is) (es, walk', first', is') = read_by bytes ds es info (Ok other) walk walk' is is'
one_config bytes info (Err TooShort) (ds, walk, first, is) none = absurd (none ((ds, walk), first))
one_config bytes info (Err WrongType) (ds, walk, first, is) (es, walk', first', is') = read_by bytes ds es info (Err WrongType) walk walk' is is'
one_config bytes info (Err NoHidInterface) (ds, walk, first, is) (es, walk', first', is') = read_by bytes ds es info (Err NoHidInterface) walk walk' is is'
one_config bytes info (Err NoReportDescriptor) (ds, walk, first, is) (es, walk', first', is') = read_by bytes ds es info (Err NoReportDescriptor) walk walk' is is'
one_config bytes info (Err NoEndpoint) (ds, walk, first, is) (es, walk', first', is') = read_by bytes ds es info (Err NoEndpoint) walk walk' is is'

pub config_is : (bytes : List ℕ) (info : ConfigInfo) (read : Result ConfigInfo StackFault) → ReadsConfig bytes (Ok info) → ConfigRead bytes read → read ≡ Ok info
config_is bytes info (Ok other) reads h = let same = one_config bytes info (Ok other) reads h in cc
config_is bytes info (Err (BadDescriptor (Info fault))) reads h = let wrong = one_config bytes info (Err fault) reads h in absurd (cc)
config_is bytes info (Err (BadDescriptor ReportLength)) reads h = absurd h
config_is bytes info (Err (BadDescriptor (Layout fault))) reads h = absurd h
config_is bytes info (Err (BadDescriptor (Device fault))) reads h = absurd h
config_is bytes info (Err NoDevice) reads h = absurd h
config_is bytes info (Err NotReady) reads h = absurd h
config_is bytes info (Err (Refused fault)) reads h = absurd h
config_is bytes info (Err (Control fault)) reads h = absurd h
config_is bytes info (Err (Report fault)) reads h = absurd h
config_is bytes info (Err TooManyDevices) reads h = absurd h
config_is bytes info (Err Memory) reads h = absurd h

-- ---- a device descriptor can be read

pub device_is : (bytes : List ℕ) (info : DeviceInfo) (read : Result (Unit {0}) StackFault) → bytes ≡ device_bytes info → DeviceRead bytes read → read ≡ Ok tt
device_is bytes info (Ok tt) is h = refl
device_is bytes info (Err (BadDescriptor (Info TooShort))) is h = let small : length (device_bytes info) < 18 = subst (λ (b : List ℕ). length b < 18) is h in absurd (omega (arith, small))
device_is bytes info (Err (BadDescriptor (Info WrongType))) is h = absurd (subst (λ (b : List ℕ). ¬ IsDevice b) is h.1 refl)
device_is bytes info (Err (BadDescriptor (Info NoHidInterface))) is h = absurd h
device_is bytes info (Err (BadDescriptor (Info NoReportDescriptor))) is h = absurd h
device_is bytes info (Err (BadDescriptor (Info NoEndpoint))) is h = absurd h
device_is bytes info (Err (BadDescriptor ReportLength)) is h = absurd h
device_is bytes info (Err (BadDescriptor (Layout fault))) is h = absurd h
device_is bytes info (Err (BadDescriptor (Device fault))) is h = absurd h
device_is bytes info (Err NoDevice) is h = absurd h
device_is bytes info (Err NotReady) is h = absurd h
device_is bytes info (Err (Refused fault)) is h = absurd h
device_is bytes info (Err (Control fault)) is h = absurd h
device_is bytes info (Err (Report fault)) is h = absurd h
device_is bytes info (Err TooManyDevices) is h = absurd h
device_is bytes info (Err Memory) is h = absurd h

-- ---- the report descriptor has the device's layout, memory aside

pub report_is : HasOneReading → AcceptsNoRefused
    → (info : ConfigInfo) (bytes : List ℕ) (layout : Contents) (read : Result Contents StackFault)
    → ParsesTo bytes layout → length bytes ≡ info.report_length
    → ReportRead info bytes read → (read ≡ Ok layout) ⊎ (read ≡ Err Memory)
report_is one apart info bytes layout (Ok other) lays long (len, other_lays) =
    let same : other ≡ layout = other_lays.laid ∙ ap layout_of (one bytes other_lays.items lays.items other_lays.accepted lays.accepted) ∙ sym lays.laid in
    inl (ap (λ (l : Contents). Ok l) same)
report_is one apart info bytes layout (Err Memory) lays long h = inr refl
report_is one apart info bytes layout (Err (BadDescriptor ReportLength)) lays long h = absurd (h long)
report_is one apart info bytes layout (Err (BadDescriptor (Layout fault))) lays long h = absurd (apart bytes lays.items fault.cause fault.at lays.accepted h.1)
report_is one apart info bytes layout (Err (BadDescriptor (Info fault))) lays long h = absurd h.1
report_is one apart info bytes layout (Err (BadDescriptor (Device fault))) lays long h = absurd h.1
report_is one apart info bytes layout (Err NoDevice) lays long h = absurd h.1
report_is one apart info bytes layout (Err NotReady) lays long h = absurd h.1
report_is one apart info bytes layout (Err (Refused fault)) lays long h = absurd h.1
report_is one apart info bytes layout (Err (Control fault)) lays long h = absurd h.1
report_is one apart info bytes layout (Err (Report fault)) lays long h = absurd h.1
report_is one apart info bytes layout (Err TooManyDevices) lays long h = absurd h.1

-- ---- what a request that is done leads to

-- the bytes that a virtual device gave
abbrev pub IsAnswer : Request → CoreState → List ℕ → Type 0
IsAnswer requests.Device core bytes = bytes ≡ device_bytes (device_info core.config)
IsAnswer requests.Config core bytes = bytes ≡ configuration_bytes (phase_info core) core.config.interval
IsAnswer requests.Report core bytes = bytes ≡ core.descriptor
IsAnswer _ core bytes = Unit {0}

-- the host knows its device after it, and nothing was refused
pub record Learns (addr : ℕ) (phase : HostPhase) (core : CoreState) (made : Result HostPhase StackFault) : Type 0 where
  pub knows : IsConsistentAt (phase_after_answer phase made) addr core
  pub told : IsNoRefusal (conclusion_result made)

learns_so : (addr : ℕ) (phase : HostPhase) (core : CoreState) (made other : Result HostPhase StackFault) → made ≡ other → Learns addr phase core other → Learns addr phase core made
learns_so addr phase core made other is h = subst (λ (m : Result HostPhase StackFault). Learns addr phase core m) (sym is) h

pub fits_info : (core : CoreState) → length core.descriptor < 2 ^ 16 → FitsConfig (phase_info core)
fits_info core short = record { report_length = short; endpoint = search rules }

report_learned : HasOneReading → AcceptsNoRefused
    → (addr : ℕ) (info : ConfigInfo) (core : CoreState) (bytes : List ℕ) (read : Result Contents StackFault)
    → ParsesTo core.descriptor core.layout
    → info ≡ phase_info core → bytes ≡ core.descriptor → ReportRead info bytes read
    → Learns addr (Described info) core (phase_or_fault (Parsed info) read)
report_learned one apart addr info core bytes read lays knows is h =
    elim (report_is one apart info bytes core.layout read
    (subst (λ (b : List ℕ). ParsesTo b core.layout) (sym is) lays)
    (ap (λ (b : List ℕ). length b) is ∙ ap (λ (i : ConfigInfo). i.report_length) (sym knows)) h) [
      | inl ok ↦
          learns_so addr (Described info) core _ (Ok (Parsed info core.layout)) (ap (phase_or_fault (Parsed info)) ok)
          (record { knows = (knows, refl); told = tt })
      | inr none ↦
          learns_so addr (Described info) core _ (Err Memory) (ap (phase_or_fault (Parsed info)) none)
          (record { knows = knows; told = tt })
    ]

configured_learned : (addr : ℕ) (info : ConfigInfo) (layout : Contents) (core : CoreState)
    (made : Result HostPhase StackFault) → info ≡ phase_info core → layout ≡ core.layout → core.is_configured ≡ true
    → Configured addr info layout made → Learns addr (Parsed info layout) core made
configured_learned addr info layout core (Ok next) says laid took is = record {
  knows = subst (λ (p : HostPhase). IsConsistentAt p addr core) (sym is)
      (laid, took, refl, ap (λ (i : ConfigInfo). i.endpoint) says);
  told = tt;
}
configured_learned addr info layout core (Err fault) says laid took is = learns_so addr (Parsed info layout) core (Err fault) (Err Memory) (ap (λ (f : StackFault). Err f) is) (record { knows = (says, laid); told = tt })

-- a host whose pipe starts again knows the same
cleared_known : (phase : HostPhase) (addr : ℕ) (core : CoreState) → IsConsistentAt phase addr core
    → IsConsistentAt (cleared_phase phase) addr core
cleared_known Cold addr core knows = knows
cleared_known (Described info) addr core knows = knows
cleared_known (Parsed info layout) addr core knows = knows
cleared_known (Ready known) addr core knows = knows

pub learned : HasOneReading → AcceptsNoRefused → (addr : ℕ) (request : Request) (phase : HostPhase) (core : CoreState) (bytes : List ℕ) (made : Result HostPhase StackFault)
    → ParsesTo core.descriptor core.layout → length core.descriptor < 2 ^ 16 → IsConsistentAt phase addr core
    → may_begin request (state_of phase) ≡ true → IsAnswer request core bytes → HasEffect request core
    → Concludes addr request phase bytes made → Learns addr phase core made
learned one apart addr requests.Device phase core bytes made lays short knows needs answer effect (read, h, is) =
    learns_so addr phase core made (Ok phase)
    (is ∙ ap (phase_or_fault (λ _. phase)) (device_is bytes (device_info core.config) read answer h))
    (record { knows = knows; told = tt })
learned one apart addr requests.Config phase core bytes made lays short knows needs answer effect (read, h, is) =
    let reads : ReadsConfig bytes (Ok (phase_info core)) =
    subst (λ (b : List ℕ). ReadsConfig b (Ok (phase_info core))) (sym answer)
    (configuration_read (phase_info core) core.config.interval (fits_info core short)) in
    learns_so addr phase core made (Ok (Described (phase_info core)))
    (is ∙ ap (phase_or_fault Described) (config_is bytes (phase_info core) read reads h))
    (record { knows = refl; told = tt })
learned one apart addr requests.Report (Described info) core bytes made lays short knows needs answer effect (read, h, is) =
    learns_so addr (Described info) core made _ is (report_learned one apart addr info core bytes read lays knows answer h)
learned one apart addr requests.Report Cold core bytes made lays short knows needs answer effect is = absurd (cc)
learned one apart addr requests.Report (Parsed info layout) core bytes made lays short knows needs answer effect is = absurd (cc)
learned one apart addr requests.Report (Ready known) core bytes made lays short knows needs answer effect is = absurd (cc)
learned one apart addr requests.Configure (Parsed info layout) core bytes made lays short knows needs answer effect is = configured_learned addr info layout core made knows.0 knows.1 effect is
learned one apart addr requests.Configure Cold core bytes made lays short knows needs answer effect is = absurd (cc)
learned one apart addr requests.Configure (Described info) core bytes made lays short knows needs answer effect is = absurd (cc)
learned one apart addr requests.Configure (Ready known) core bytes made lays short knows needs answer effect is = absurd (cc)
learned one apart addr requests.Status phase core bytes made lays short knows needs answer effect is = learns_so addr phase core made (Ok phase) is (record { knows = knows; told = tt })
learned one apart addr requests.GetConfiguration phase core bytes made lays short knows needs answer effect is = learns_so addr phase core made (Ok phase) is (record { knows = knows; told = tt })
learned one apart addr (requests.Idle id time) phase core bytes made lays short knows needs answer effect is = learns_so addr phase core made (Ok phase) is (record { knows = knows; told = tt })
learned one apart addr (requests.GetIdle id) phase core bytes made lays short knows needs answer effect is = learns_so addr phase core made (Ok phase) is (record { knows = knows; told = tt })
learned one apart addr (requests.Protocol boot) phase core bytes made lays short knows needs answer effect is = learns_so addr phase core made (Ok phase) is (record { knows = knows; told = tt })
learned one apart addr requests.GetProtocol phase core bytes made lays short knows needs answer effect is = learns_so addr phase core made (Ok phase) is (record { knows = knows; told = tt })
learned one apart addr (requests.GetReport kind id) phase core bytes made lays short knows needs answer effect is = learns_so addr phase core made (Ok phase) is (record { knows = knows; told = tt })
learned one apart addr (requests.SetReport kind id set) phase core bytes made lays short knows needs answer effect is = learns_so addr phase core made (Ok phase) is (record { knows = knows; told = tt })
learned one apart addr requests.Halt phase core bytes made lays short knows needs answer effect is = learns_so addr phase core made (Ok phase) is (record { knows = knows; told = tt })
learned one apart addr requests.Clear phase core bytes made lays short knows needs answer effect is =
    learns_so addr phase core made (Ok (cleared_phase phase)) is (record { knows = cleared_known phase addr core knows; told = tt })
learned one apart addr requests.EndpointStatus phase core bytes made lays short knows needs answer effect is = learns_so addr phase core made (Ok phase) is (record { knows = knows; told = tt })
