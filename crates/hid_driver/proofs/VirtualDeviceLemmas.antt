-- A driver comes up beside a virtual device.
use Rattle.std.proofs.Common.{rules, ◌≡◌, ◌≢◌, ◌⊎◌, ℕ, ◌+◌, ◌*◌, ◌/◌, ◌%◌, ◌^◌, ◌<◌, ◌≤◌, refl, sym, ◌∙◌, ap, subst, inl, inr, Bool, true, false, cond, List, [], ◌∷◌, ◌++◌, length, take, Option, Some, None, Result, Ok, Err, arith}
use Rattle.std.specs.Prelude.{nat_le, not, ◌==◌, max}
use Rattle.std.proofs.lemmas.Bool.{le-leb, ne_eqb}
use Rattle.std.proofs.lemmas.List.{take_all}
use Rattle.usb_control.specs.declared.descriptors.ConfigInfo.{ConfigInfo}
use Rattle.usb_control.specs.declared.descriptors.DeviceInfo.{DeviceInfo}
use Rattle.usb_control.specs.declared.setup.Setup.{Setup}
use Rattle.usb_control.specs.Descriptors.{IsDescriptor, IsWalk, device_info_of}
use Rattle.usb_control.proofs.WalkLemmas.{ended, goes_on}
use Rattle.hid_report_descriptor.specs.declared.limits.Limits.TheVariants.{Real}
use Rattle.hid_report_descriptor.specs.Items.{EncodedItem}
use Rattle.hid_report_descriptor.specs.Laws.{AcceptsNoRefused, HasOneReading}
use Rattle.hid_report_descriptor.specs.Real.{Accepts}
use Rattle.hid_layout.specs.Layout.{Contents, layout_of}
use Rattle.hid_requests.specs.Descriptors.{FitsConfig, FitsDevice, configuration_bytes, configuration_descriptor, configuration_walk, device_bytes, endpoint_descriptor, hid_bytes, interface_descriptor}
use Rattle.hid_requests.specs.RequestKinds.{request_kind_of}
use Rattle.hid_requests.proofs.DescriptorLemmas.{device_read}
use Rattle.hid_interfaces.specs.declared.configuration.Configuration.{Configuration}
use Rattle.hid_interfaces.specs.declared.fault.ConfigurationFault.{ConfigurationFault}
use Rattle.hid_interfaces.specs.declared.fault.ConfigurationFault.TheVariants as faults
use Rattle.hid_interfaces.specs.declared.interface.InterfaceInfo.{InterfaceInfo}
use Rattle.hid_interfaces.specs.Configuration.{IsConfiguration, Refuses, total_length, whole_length}
use Rattle.hid_interfaces.specs.Interfaces.{endpoint_of, interfaces_of, is_report_endpoint}
use Rattle.hid_driver.specs.declared.answers.NoPipe.{NoPipe}
use Rattle.hid_driver.specs.declared.answers.NoPipe.TheVariants as pipes
use Rattle.hid_driver.specs.declared.fault.DriverFault.{DriverFault}
use Rattle.hid_driver.specs.declared.fault.DriverFault.TheVariants.{Memory}
use Rattle.hid_driver.specs.declared.fault.InterfaceCause.TheVariants as causes
use Rattle.hid_driver.specs.declared.interface.Interface.{Interface}
use Rattle.hid_driver.specs.declared.interface.Reading.TheVariants.{Waiting, Open}
use Rattle.hid_driver.specs.declared.outcome.Outcome.{Outcome}
use Rattle.hid_driver.specs.declared.outcome.Outcome.TheVariants.{Done, Stalled, Failed}
use Rattle.hid_driver.specs.declared.state.DriverState.TheVariants as states
use Rattle.hid_driver.specs.declared.state.Moved.{Moved}
use Rattle.hid_driver.specs.Answers as answers
use Rattle.hid_driver.specs.Answers.{ConfigurationRead, length_read, DescriptorRead, configuration_refusal, device_answer, length_answer, status_answer}
use Rattle.hid_driver.specs.Driver.{DriverValue, driver_at_start}
use Rattle.hid_driver.specs.Interfaces.{interfaces_after}
use Rattle.hid_driver.specs.Moves.{ConfigurationMoves, Goes, Moves, ReportMovesOf, Settles, driver_settled, driver_with_configuration}
use Rattle.hid_driver.specs.Pipe.{PipeState, pipe_at_start}
use Rattle.hid_driver.specs.Requests.{idle_setup, next_state, report_setup, request, setup_awaited}
use Rattle.hid_driver.specs.VirtualDevices.{IsOutcome, MovesBeside, MovesBesideBy, VirtualDevice, device_gives, ready_for, virtual_interface}

-- ---- what it gives to each request

gives_device : (device : VirtualDevice) → device_gives device (request 0x80 6 0x0100 0 18) ≡ Some (device_bytes device.info)
unfolding request_kind_of
gives_device device = refl

gives_length : (device : VirtualDevice) → device_gives device (request 0x80 6 0x0200 0 9) ≡ Some (take 9 (configuration_bytes device.known device.interval))
unfolding request_kind_of
gives_length device = refl

gives_configuration : (device : VirtualDevice)
    → device_gives device (request 0x80 6 0x0200 0 34) ≡ Some (configuration_bytes device.known device.interval)
unfolding request_kind_of
gives_configuration device = refl

gives_configured : (device : VirtualDevice) → device_gives device (request 0x00 9 1 0 0) ≡ Some []
unfolding request_kind_of
gives_configured device = refl

gives_idle : (device : VirtualDevice) → device_gives device (idle_setup (virtual_interface device)) ≡ Some []
unfolding request_kind_of
gives_idle device = refl

gives_report : (device : VirtualDevice) → device.known.report_length ≡ length device.descriptor
    → device_gives device (report_setup (virtual_interface device)) ≡ Some device.descriptor
unfolding request_kind_of
gives_report device len = ap Some (take_all device.known.report_length device.descriptor (omega (arith, len)))

-- ---- the configuration

configuration_is_d : IsDescriptor configuration_descriptor
configuration_is_d = (omega arith, refl)

interface_is_d : (subclass protocol : ℕ) → IsDescriptor (interface_descriptor subclass protocol)
interface_is_d subclass protocol = (omega arith, refl)

hid_is_d : (len : ℕ) → IsDescriptor (hid_bytes len)
hid_is_d len = (omega arith, refl)

endpoint_is_d : (endpoint interval : ℕ) → IsDescriptor (endpoint_descriptor endpoint interval)
endpoint_is_d endpoint interval = (omega arith, refl)

no_descriptor : (d behind : List ℕ) → IsDescriptor d → [] ≡ d ++ behind → ⊥
no_descriptor [] behind is same = is
no_descriptor (x ∷ d) behind is same = let wrong : ◌≡◌ {A = List ℕ} [] (x ∷ (d ++ behind)) = same in cc

-- its bytes are its descriptors in one way
one_walk : (known : ConfigInfo) (interval : ℕ) (ds : List (List ℕ)) → IsWalk (configuration_bytes known interval) ds → ds ≡ configuration_walk known interval
one_walk known interval ds walk =
    let d1 : List ℕ = configuration_descriptor in
    let d2 : List ℕ = interface_descriptor known.subclass known.protocol in
    let d3 : List ℕ = hid_bytes known.report_length in
    let d4 : List ℕ = endpoint_descriptor known.endpoint interval in
    let one = goes_on d1 (d2 ++ (d3 ++ (d4 ++ []))) ds configuration_is_d walk in
    let two = goes_on d2 (d3 ++ (d4 ++ [])) one.rest (interface_is_d known.subclass known.protocol) one.walk in
    let three = goes_on d3 (d4 ++ []) two.rest (hid_is_d known.report_length) two.walk in
    let four = goes_on d4 [] three.rest (endpoint_is_d known.endpoint interval) three.walk in
    let end = (ended [] four.rest no_descriptor four.walk).0 in
    one.split ∙ ap (λ (es : List (List ℕ)). d1 ∷ es) (two.split ∙ ap (λ (es : List (List ℕ)). d2 ∷ es) (three.split
    ∙ ap (λ (es : List (List ℕ)). d3 ∷ es) (four.split ∙ ap (λ (es : List (List ℕ)). d4 ∷ es) end)))

word_back : (n : ℕ) → n < 2 ^ 16 → n % 256 + 256 * (n / 256 % 256) ≡ n
word_back n small = omega arith

-- its one interface
lists_one : (device : VirtualDevice) → FitsConfig device.known → 0 < device.known.endpoint
    → interfaces_of (configuration_walk device.known device.interval) ≡ virtual_interface device ∷ []
lists_one device fits some =
    let low : device.known.endpoint ≤ 15 = fits.endpoint in
    let number : (128 + device.known.endpoint) % 16 ≡ device.known.endpoint = omega arith in
    let to_host : nat_le 128 (128 + device.known.endpoint) ≡ true = le-leb 128 (128 + device.known.endpoint) (omega arith) in
    let other : ((128 + device.known.endpoint) % 16 == 0) ≡ false =
    ap (λ (n : ℕ). n == 0) number ∙ ne_eqb device.known.endpoint 0 (λ e. absurd (omega (arith, e, some))) in
    let len = word_back device.known.report_length fits.report_length in
    rw (to_host, other, number, len) refl

whole_walk : (known : ConfigInfo) (interval : ℕ) → IsWalk (configuration_bytes known interval) (configuration_walk known interval)
whole_walk known interval = record {
  each = (configuration_is_d, (interface_is_d known.subclass known.protocol, (hid_is_d known.report_length, (endpoint_is_d known.endpoint interval, tt))));
  whole = refl;
}

whole : (device : VirtualDevice) → whole_length (configuration_bytes device.known device.interval) ≡ Ok tt
whole device = refl

-- ---- the moves

-- a move whose answer is read
pub goes_when : {A : Type 0} (before : DriverValue) (next : A → DriverValue) (answer : Result A DriverFault) (read : A) (result : Result Moved DriverFault) (after : DriverValue)
    → answer ≡ Ok read → Goes before next answer result after → after ≡ next read
goes_when {A = A} before next answer read result after is goes =
    (subst (λ (a : Result A DriverFault). Goes before next a result after) is goes).1

-- an outcome that gives bytes is done
pub device_when : (device : VirtualDevice) (outcome : Outcome) → FitsDevice device.info → IsOutcome (Some (device_bytes device.info)) outcome
    → device_answer outcome ≡ Ok device.info
device_when device (Done bytes) fits comes =
    ap (λ (bs : List ℕ). answers.device_read bs) comes ∙ ap (λ (info : DeviceInfo). Ok info) (device_read device.info fits)
device_when device Stalled fits comes = absurd comes
device_when device Failed fits comes = absurd comes

pub length_when : (device : VirtualDevice) (outcome : Outcome) → IsOutcome (Some (take 9 (configuration_bytes device.known device.interval))) outcome
    → length_answer outcome ≡ Ok 34
length_when device (Done bytes) comes = ap (λ (bs : List ℕ). length_read (total_length bs)) comes
length_when device Stalled comes = absurd comes
length_when device Failed comes = absurd comes

pub status_when : (given : List ℕ) (outcome : Outcome) → IsOutcome (Some given) outcome → status_answer outcome ≡ Ok tt
status_when given (Done bytes) comes = refl
status_when given Stalled comes = absurd comes
status_when given Failed comes = absurd comes

-- the driver that knows the configuration
abbrev pub waiting_for : VirtualDevice → Interface
waiting_for device = record { info = virtual_interface device; reading = Waiting }

-- the only interface can be read
listed_one : (device : VirtualDevice) → 0 < device.known.report_length
    → interfaces_after [] (virtual_interface device ∷ []) ≡ waiting_for device ∷ []
listed_one device some =
    let any : (device.known.report_length == 0) ≡ false = ne_eqb device.known.report_length 0 (λ e. absurd (omega (arith, e, some))) in
    rw any refl

-- a refusal that it isn't
pub not_refused : (device : VirtualDevice) (fault : ConfigurationFault) → FitsConfig device.known → 0 < device.known.endpoint
    → Refuses (configuration_bytes device.known device.interval) fault → fault ≡ faults.Memory
not_refused device faults.TooShort fits some refuses = let wrong : ◌≡◌ {A = Result (Unit {0}) ConfigurationFault} (Ok tt) (Err faults.TooShort) = refuses in cc
not_refused device faults.WrongType fits some refuses = let wrong : ◌≡◌ {A = Result (Unit {0}) ConfigurationFault} (Ok tt) (Err faults.WrongType) = refuses in cc
not_refused device faults.TotalLength fits some refuses = let wrong : ◌≡◌ {A = Result (Unit {0}) ConfigurationFault} (Ok tt) (Err faults.TotalLength) = refuses in cc
not_refused device faults.NoDescriptors fits some refuses =
    absurd (refuses.1 (configuration_walk device.known device.interval, whole_walk device.known device.interval))
not_refused device faults.NoNumber fits some refuses = absurd (omega (arith, refuses.2))
not_refused device faults.NoHidInterface fits some refuses =
    let same : refuses.1.0 ≡ configuration_walk device.known device.interval = one_walk device.known device.interval refuses.1.0 refuses.1.1 in
    let wrong : virtual_interface device ∷ [] ≡ [] = sym (lists_one device fits some) ∙ sym (ap interfaces_of same) ∙ refuses.1.2 in
    cc
not_refused device faults.Memory fits some refuses = refl

configuration_read_as : (device : VirtualDevice) (before : DriverValue) (read : Result Configuration DriverFault) (result : Result Moved DriverFault) (after : DriverValue)
    → FitsConfig device.known → 0 < device.known.endpoint → 0 < device.known.report_length → result ≢ Err Memory
    → ConfigurationRead (configuration_bytes device.known device.interval) read → Goes before (driver_with_configuration before) read result after
    → after ≡ record before { state = states.Configure 1; interfaces = waiting_for device ∷ [] }
configuration_read_as device before (Ok configuration) result after fits some any memory came goes =
    let same : came.descriptors ≡ configuration_walk device.known device.interval = one_walk device.known device.interval came.descriptors came.walk in
    let infos : configuration.interfaces.items ≡ virtual_interface device ∷ [] = came.interfaces ∙ ap interfaces_of same ∙ lists_one device fits some in
    let listed : interfaces_after [] configuration.interfaces.items ≡ waiting_for device ∷ [] = ap (interfaces_after []) infos ∙ listed_one device any in
    goes.1 ∙ ap (λ (n : ℕ). record before { state = states.Configure n; interfaces = interfaces_after [] configuration.interfaces.items }) came.number
    ∙ ap (λ (xs : List Interface). record before { state = states.Configure 1; interfaces = xs }) listed
configuration_read_as device before (Err refused) result after fits some any memory came goes =
    let out : came.0 ≡ faults.Memory = not_refused device came.0 fits some came.1 in
    absurd (memory (goes.0 ∙ ap (λ (f : DriverFault). Err f) (came.2 ∙ ap configuration_refusal out)))

pub configuration_when : (device : VirtualDevice) (before : DriverValue) (outcome : Outcome) (result : Result Moved DriverFault) (after : DriverValue)
    → FitsConfig device.known → 0 < device.known.endpoint → 0 < device.known.report_length → result ≢ Err Memory
    → IsOutcome (Some (configuration_bytes device.known device.interval)) outcome → ConfigurationMoves before outcome result after
    → after ≡ record before { state = states.Configure 1; interfaces = waiting_for device ∷ [] }
configuration_when device before (Done bytes) result after fits some any memory comes (inl moves) =
    configuration_read_as device before moves.0 result after fits some any memory
    (subst (λ (bs : List ℕ). ConfigurationRead bs moves.0) comes moves.1) moves.2
configuration_when device before (Done bytes) result after fits some any memory comes (inr stays) = absurd (memory stays.0)
configuration_when device before Stalled result after fits some any memory comes moves = absurd comes
configuration_when device before Failed result after fits some any memory comes moves = absurd comes

-- the interface is settled
settled_one : (device : VirtualDevice) (pipe : PipeState) (before : DriverValue) → before.interfaces ≡ waiting_for device ∷ []
    → driver_settled 0 (Open pipe) before
    ≡ record before { state = next_state (record { info = virtual_interface device; reading = Open pipe } ∷ []); interfaces = record { info = virtual_interface device; reading = Open pipe } ∷ [] }
settled_one device pipe before is =
    ap (λ (xs : List Interface). driver_settled 0 (Open pipe) (record before { interfaces = xs })) is

-- the report descriptor
opens : (device : VirtualDevice) (layout : Contents) (items : List EncodedItem) (before : DriverValue) (read : Result PipeState NoPipe) (result : Result Moved DriverFault) (after : DriverValue)
    → HasOneReading Real → AcceptsNoRefused Real → Accepts device.descriptor items → layout ≡ layout_of items
    → device.known.report_length ≡ length device.descriptor → result ≢ Err Memory
    → before.interfaces ≡ waiting_for device ∷ []
    → DescriptorRead (virtual_interface device) device.descriptor read → Settles 0 before read result after
    → after ≡ record before { state = states.Ready; interfaces = record { info = virtual_interface device; reading = Open (pipe_at_start 64 layout) } ∷ [] }
opens device layout items before (Ok pipe) result after one_reading no_refusal accepts laid len memory is came (inl settled) =
    let same : came.1.0 ≡ items = one_reading device.descriptor came.1.0 items came.1.1 accepts in
    let pipe_is : pipe ≡ pipe_at_start 64 layout =
    came.1.2 ∙ ap (λ (xs : List EncodedItem). pipe_at_start 64 (layout_of xs)) same ∙ ap (pipe_at_start 64) (sym laid) in
    settled.1 ∙ settled_one device pipe before is
    ∙ ap (λ (p : PipeState). record before { state = next_state (record { info = virtual_interface device; reading = Open p } ∷ []); interfaces = record { info = virtual_interface device; reading = Open p } ∷ [] }) pipe_is
opens device layout items before (Ok pipe) result after one_reading no_refusal accepts laid len memory is came (inr stays) = absurd (memory stays.0)
opens device layout items before (Err pipes.Memory) result after one_reading no_refusal accepts laid len memory is came stays = absurd (memory stays.0)
opens device layout items before (Err (pipes.Refused causes.ReportLength)) result after one_reading no_refusal accepts laid len memory is came settled = absurd (came (sym len))
opens device layout items before (Err (pipes.Refused (causes.Layout fault))) result after one_reading no_refusal accepts laid len memory is came settled =
    absurd (no_refusal device.descriptor items fault.cause fault.at accepts came.1)
opens device layout items before (Err (pipes.Refused cause)) result after one_reading no_refusal accepts laid len memory is came settled = absurd came

pub report_when : (device : VirtualDevice) (layout : Contents) (items : List EncodedItem) (before : DriverValue) (outcome : Outcome) (result : Result Moved DriverFault) (after : DriverValue)
    → HasOneReading Real → AcceptsNoRefused Real → Accepts device.descriptor items → layout ≡ layout_of items
    → device.known.report_length ≡ length device.descriptor → result ≢ Err Memory
    → before.interfaces ≡ waiting_for device ∷ [] → IsOutcome (Some device.descriptor) outcome
    → ReportMovesOf 0 before outcome result after (Some (waiting_for device))
    → after ≡ record before { state = states.Ready; interfaces = record { info = virtual_interface device; reading = Open (pipe_at_start 64 layout) } ∷ [] }
report_when device layout items before (Done bytes) result after one_reading no_refusal accepts laid len memory is comes moves =
    opens device layout items before moves.0 result after one_reading no_refusal accepts laid len memory is
    (subst (λ (bs : List ℕ). DescriptorRead (virtual_interface device) bs moves.0) comes moves.1) moves.2
report_when device layout items before Stalled result after one_reading no_refusal accepts laid len memory is comes moves = absurd comes
report_when device layout items before Failed result after one_reading no_refusal accepts laid len memory is comes moves = absurd comes

-- the outcome of the request that a driver makes
comes_of : (device : VirtualDevice) (before after : DriverValue) (move : MovesBeside device before after) (setup : Setup) (given : List ℕ)
    → setup_awaited before.state before.interfaces ≡ Some setup → device_gives device setup ≡ Some given → IsOutcome (Some given) move.outcome
comes_of device before after move setup given asks gives =
    let found : ◌≡◌ {A = Option Setup} (Some move.setup) (Some setup) = sym move.asks ∙ asks in
    let same : move.setup ≡ setup = cc in
    subst (λ (o : Option (List ℕ)). IsOutcome o move.outcome) (ap (device_gives device) same ∙ gives) move.comes

pub six_moves : (device : VirtualDevice) (layout : Contents) (items : List EncodedItem) (after : DriverValue)
    → HasOneReading Real → AcceptsNoRefused Real → Accepts device.descriptor items → layout ≡ layout_of items
    → FitsDevice device.info → FitsConfig device.known → 0 < device.known.endpoint → 0 < device.known.report_length
    → device.known.report_length ≡ length device.descriptor → MovesBesideBy 6 device driver_at_start after → after ≡ ready_for device layout
six_moves device layout items after one_reading no_refusal accepts laid fits_info fits some any len moves =
    let m1 = moves.1 in
    let k1 : DriverValue = record driver_at_start { state = states.Length; device = Some device.info } in
    let d1 : moves.0 ≡ k1 =
    goes_when driver_at_start (λ (info : DeviceInfo). record driver_at_start { state = states.Length; device = Some info }) (device_answer m1.outcome) device.info
    m1.result moves.0
    (device_when device m1.outcome fits_info (comes_of device driver_at_start moves.0 m1 (request 0x80 6 0x0100 0 18) (device_bytes device.info) refl (gives_device device)))
    m1.moves in
    let second = moves.2 in
    let m2 = subst (λ (d : DriverValue). MovesBeside device d second.0) d1 second.1 in
    let k2 : DriverValue = record k1 { state = states.Configuration 34 } in
    let d2 : second.0 ≡ k2 =
    goes_when k1 (λ (n : ℕ). record k1 { state = states.Configuration n }) (length_answer m2.outcome) 34 m2.result second.0
    (length_when device m2.outcome
    (comes_of device k1 second.0 m2 (request 0x80 6 0x0200 0 9) (take 9 (configuration_bytes device.known device.interval)) refl (gives_length device)))
    m2.moves in
    let third = second.2 in
    let m3 = subst (λ (d : DriverValue). MovesBeside device d third.0) d2 third.1 in
    let k3 : DriverValue = record k2 { state = states.Configure 1; interfaces = waiting_for device ∷ [] } in
    let d3 : third.0 ≡ k3 =
    configuration_when device k2 m3.outcome m3.result third.0 fits some any m3.memory
    (comes_of device k2 third.0 m3 (request 0x80 6 0x0200 0 34) (configuration_bytes device.known device.interval) refl (gives_configuration device)) m3.moves in
    let fourth = third.2 in
    let m4 = subst (λ (d : DriverValue). MovesBeside device d fourth.0) d3 fourth.1 in
    let k4 : DriverValue = record k3 { state = states.Idle 0 } in
    let d4 : fourth.0 ≡ k4 =
    goes_when k3 (λ (done : Unit {0}). record k3 { state = next_state k3.interfaces }) (status_answer m4.outcome) tt m4.result fourth.0
    (status_when [] m4.outcome (comes_of device k3 fourth.0 m4 (request 0x00 9 1 0 0) [] refl (gives_configured device))) m4.moves in
    let fifth = fourth.2 in
    let m5 = subst (λ (d : DriverValue). MovesBeside device d fifth.0) d4 fifth.1 in
    let k5 : DriverValue = record k4 { state = states.Report 0 } in
    let d5 : fifth.0 ≡ k5 = m5.moves.1 in
    let sixth = fifth.2 in
    let m6 = subst (λ (d : DriverValue). MovesBeside device d sixth.0) d5 sixth.1 in
    let d6 : sixth.0 ≡ ready_for device layout =
    report_when device layout items k5 m6.outcome m6.result sixth.0 one_reading no_refusal accepts laid len m6.memory refl
    (comes_of device k5 sixth.0 m6 (report_setup (virtual_interface device)) device.descriptor refl (gives_report device len)) m6.moves in
    sixth.2 ∙ d6
