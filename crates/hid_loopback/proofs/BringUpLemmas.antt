-- A driver comes up beside a gadget by six transfers.
use Rattle.std.proofs.Common.{rules, ◌≡◌, ◌≢◌, ◌⊎◌, refl, sym, ◌∙◌, ap, subst, inl, inr, ℕ, zero, suc, ◌+◌, ◌*◌, ◌/◌, ◌%◌, ◌<◌, ◌≤◌, Bool, true, false, List, [], ◌∷◌, ◌++◌, length, replicate, take, Option, Some, None, Result, Ok, Err, arith}
use Rattle.std.proofs.lemmas.List.{length-replicate, take_all}
use Rattle.usb_control.specs.declared.descriptors.DeviceInfo.{DeviceInfo}
use Rattle.usb_control.specs.declared.setup.Setup.{Setup}
use Rattle.hid_report_descriptor.specs.declared.limits.Limits.TheVariants.{Real}
use Rattle.hid_report_descriptor.specs.Items.{EncodedItem}
use Rattle.hid_report_descriptor.specs.Laws.{AcceptsAllOfBus, AcceptsNoRefused, HasOneReading}
use Rattle.hid_report_descriptor.specs.Real.{Accepts}
use Rattle.hid_layout.specs.Controls.{items_of}
use Rattle.hid_layout.specs.Layout.{layout_of}
use Rattle.hid_interfaces.specs.declared.configuration.Configuration.{Configuration}
use Rattle.hid_requests.specs.Descriptors.{FitsConfig, FitsDevice, configuration_bytes, descriptor, device_bytes, word}
use Rattle.hid_requests.specs.RequestKinds.{request_kind_of}
use Rattle.hid_snapshots.specs.Parts.{blank_parts}
use Rattle.hid_bus.specs.ReportState.{ReportState, no_idle}
use Rattle.hid_device.specs.Core.{CoreState, IsSound}
use Rattle.hid_device.specs.RequestTable.{core_table, decide, device_info}
use Rattle.hid_driver.specs.declared.answers.NoPipe.{NoPipe}
use Rattle.hid_driver.specs.declared.answers.NoPipe.TheVariants as pipes
use Rattle.hid_driver.specs.declared.fault.DriverFault.{DriverFault}
use Rattle.hid_driver.specs.declared.fault.DriverFault.TheVariants.{Memory}
use Rattle.hid_driver.specs.declared.fault.InterfaceCause.TheVariants as causes
use Rattle.hid_interfaces.specs.declared.fault.ConfigurationFault.TheVariants as faults
use Rattle.hid_driver.specs.declared.outcome.Outcome.{Outcome}
use Rattle.hid_driver.specs.declared.outcome.Outcome.TheVariants.{Done, Stalled, Failed}
use Rattle.hid_driver.specs.declared.state.DriverState.TheVariants as states
use Rattle.hid_driver.specs.declared.state.Moved.{Moved}
use Rattle.hid_driver.specs.declared.state.Moved.TheVariants as moves
use Rattle.hid_driver.specs.Answers.{ConfigurationRead, DescriptorRead, configuration_refusal, device_answer, length_answer, status_answer}
use Rattle.hid_driver.specs.Driver.{DriverValue, data_awaited, driver_at_start}
use Rattle.hid_driver.specs.Moves.{ConfigurationMoves, Goes, Moves, ReportMovesOf, Settles as SettlesPipe, driver_with_configuration}
use Rattle.hid_driver.specs.Pipe.{PipeState}
use Rattle.hid_driver.specs.Requests.{next_state, request, setup_awaited}
use Rattle.hid_driver.specs.VirtualDevices.{IsOutcome, VirtualDevice, ready_for, virtual_interface}
use Rattle.hid_driver.proofs.VirtualDeviceLemmas.{configuration_when, device_when, length_when, not_refused, report_when, status_when, waiting_for}
use Rattle.hid_gadget.specs.ReceivedReports.{IsFresh}
use Rattle.hid_gadget.specs.WholeTransfers.{after_transfer, bytes_given}
use Rattle.hid_gadget.proofs.SoundLemmas.{sound_after_transfer}
use Rattle.hid_loopback.specs.BringUp.{BringsUp, core_brought_up, device_of}
use Rattle.hid_loopback.specs.ControlTransfers.{Answers, IsMade, MakesTransfer, MakesTransfersBy, Settles, Stays, is_whole, transfer_result}

-- ---- what a gadget says of itself

low_again : (n : ℕ) → (n % 256 + 256 * (n / 256 % 256)) % 256 ≡ n % 256
low_again n = omega arith

high_again : (n : ℕ) → (n % 256 + 256 * (n / 256 % 256)) / 256 % 256 ≡ n / 256 % 256
high_again n = omega arith

word_again : (n : ℕ) → word (n % 256 + 256 * (n / 256 % 256)) ≡ word n
word_again n =
    ap (λ (low : ℕ). let w : List ℕ = low ∷ (n % 256 + 256 * (n / 256 % 256)) / 256 % 256 ∷ [] in w) (low_again n)
    ∙ ap (λ (high : ℕ). let w : List ℕ = n % 256 ∷ high ∷ [] in w) (high_again n)

-- it gives the same device descriptor
bytes_again : (core : CoreState) → device_bytes (device_of core).info ≡ device_bytes (device_info core.config)
bytes_again core =
    ap (λ (w : List ℕ). descriptor 1 (word 0x0200 ++ 0 ∷ 0 ∷ 0 ∷ 8 ∷ (w ++ word (device_of core).info.product ++ word 0x0100 ++ 0 ∷ 0 ∷ 0 ∷ 1 ∷ [])))
    (word_again core.config.vendor)
    ∙ ap (λ (w : List ℕ). descriptor 1 (word 0x0200 ++ 0 ∷ 0 ∷ 0 ∷ 8 ∷ (word core.config.vendor ++ w ++ word 0x0100 ++ 0 ∷ 0 ∷ 0 ∷ 1 ∷ [])))
    (word_again core.config.product)

info_fits : (core : CoreState) → FitsDevice (device_of core).info
info_fits core = record { vendor = omega arith; product = omega arith }

some_endpoint : (core : CoreState) → 0 < (device_of core).known.endpoint
some_endpoint core = search rules

known_fits : (core : CoreState) → IsSound core → FitsConfig (device_of core).known
known_fits core sound =
    let short = sound.lays.accepted.reaches.short in
    record { report_length = omega (arith, short); endpoint = search rules }

-- ---- the six requests, and the gadget between them

abbrev to_device : Setup
to_device = request 0x80 6 0x0100 0 18

abbrev to_length : Setup
to_length = request 0x80 6 0x0200 0 9

abbrev to_configuration : Setup
to_configuration = request 0x80 6 0x0200 0 34

abbrev to_configure : Setup
to_configure = request 0x00 9 1 0 0

abbrev to_idle : Setup
to_idle = request 0x21 10 0 0 0

abbrev to_report : CoreState → Setup
to_report core = request 0x81 6 0x2200 0 (length core.descriptor)

abbrev after1 : CoreState → CoreState
after1 core = after_transfer core_table core to_device []

abbrev after2 : CoreState → CoreState
after2 core = after_transfer core_table (after1 core) to_length []

abbrev after3 : CoreState → CoreState
after3 core = after_transfer core_table (after2 core) to_configuration []

abbrev after4 : CoreState → CoreState
after4 core = after_transfer core_table (after3 core) to_configure []

abbrev after5 : CoreState → CoreState
after5 core = after_transfer core_table (after4 core) to_idle []

gives1 : (core : CoreState) → bytes_given core_table core to_device ≡ Some (device_bytes (device_info core.config))
unfolding decide request_kind_of
gives1 core = refl

gives2 : (core : CoreState) → bytes_given core_table (after1 core) to_length
    ≡ Some (take 9 (configuration_bytes (device_of core).known (device_of core).interval))
unfolding decide request_kind_of
gives2 core = refl

gives3 : (core : CoreState) → bytes_given core_table (after2 core) to_configuration
    ≡ Some (configuration_bytes (device_of core).known (device_of core).interval)
unfolding decide request_kind_of
gives3 core = refl

gives4 : (core : CoreState) → bytes_given core_table (after3 core) to_configure ≡ Some []
unfolding decide request_kind_of
gives4 core = refl

gives5 : (core : CoreState) → bytes_given core_table (after4 core) to_idle ≡ Some []
unfolding decide request_kind_of
gives5 core = refl

gives6 : (core : CoreState) → bytes_given core_table (after5 core) (to_report core) ≡ Some (take (length core.descriptor) core.descriptor)
unfolding decide request_kind_of
gives6 core = refl

-- ---- one move

-- what a driver returns leads there, or memory ran out
record Ends (told : Result Moved DriverFault) (later next : DriverValue) : Type 0 where
  done : (moved : Moved) → told ≡ Ok moved → later ≡ next
  memory : (fault : DriverFault) → told ≡ Err fault → fault ≡ Memory

-- a transfer leads there, or memory ran out
record Leads (result : Result (Option Moved) DriverFault) (later : DriverValue) (after : CoreState) (next : DriverValue) (goal : CoreState) : Type 0 where
  done : (moved : Moved) → result ≡ Ok (Some moved) → (later ≡ next) × (after ≡ goal)
  memory : (fault : DriverFault) → result ≡ Err fault → fault ≡ Memory

told_of : (told : Result Moved DriverFault) (moved : Moved) → transfer_result told ≡ Ok (Some moved) → told ≡ Ok moved
told_of (Ok other) moved is = cc
told_of (Err fault) moved is = let wrong : ◌≡◌ {A = Result (Option Moved) DriverFault} (Err fault) (Ok (Some moved)) = is in cc

fault_of : (told : Result Moved DriverFault) (fault : DriverFault) → transfer_result told ≡ Err fault → told ≡ Err fault
fault_of (Ok moved) fault is = let wrong : ◌≡◌ {A = Result (Option Moved) DriverFault} (Ok (Some moved)) (Err fault) = is in cc
fault_of (Err other) fault is = let same : ◌≡◌ {A = Result (Option Moved) DriverFault} (Err other) (Err fault) = is in cc

leads : (setup : Setup) (given : List ℕ) (before next : DriverValue) (core goal : CoreState)
    (result : Result (Option Moved) DriverFault) (later : DriverValue) (after : CoreState)
    → is_whole setup (data_awaited before) ≡ true → bytes_given core_table core setup ≡ Some given
    → after_transfer core_table core setup (data_awaited before) ≡ goal
    → ((outcome : Outcome) (told : Result Moved DriverFault) → IsOutcome (Some given) outcome → Moves before outcome told later → Ends told later next)
    → ((result ≡ Err Memory) × Stays before core later after) ⊎ IsMade setup (data_awaited before) before core result later after
    → Leads result later after next goal
leads setup given before next core goal result later after whole gives is ends (inl none) = record {
  done = λ moved ok. let wrong : ◌≡◌ {A = Result (Option Moved) DriverFault} (Err Memory) (Ok (Some moved)) = sym none.0 ∙ ok in cc;
  memory = λ fault err. let same : ◌≡◌ {A = Result (Option Moved) DriverFault} (Err Memory) (Err fault) = sym none.0 ∙ err in cc;
}
leads setup given before next core goal result later after whole gives is ends (inr made) =
    let answers = subst (λ (b : Bool). Answers b core setup (data_awaited before) made.outcome after) whole made.answers in
    let comes = subst (λ (o : Option (List ℕ)). IsOutcome o made.outcome) gives answers.0 in
    let end = ends made.outcome made.told comes made.moves in
    record {
      done = λ moved ok. (end.done moved (told_of made.told moved (sym made.returns ∙ ok)), answers.1 ∙ is);
      memory = λ fault err. end.memory fault (fault_of made.told fault (sym made.returns ∙ err));
    }

onward_ends : (told : Result Moved DriverFault) (later next : DriverValue) → told ≡ Ok moves.Onward → later ≡ next → Ends told later next
onward_ends told later next is there = record {
  done = λ moved ok. there;
  memory = λ fault err. let wrong : ◌≡◌ {A = Result Moved DriverFault} (Ok moves.Onward) (Err fault) = sym is ∙ err in cc;
}

goes_ends : {A : Type 0} (before : DriverValue) (next : A → DriverValue) (answer : Result A DriverFault) (read : A) (told : Result Moved DriverFault) (later : DriverValue)
    → answer ≡ Ok read → Goes before next answer told later → Ends told later (next read)
goes_ends {A = A} before next answer read told later is goes =
    let there = subst (λ (a : Result A DriverFault). Goes before next a told later) is goes in
    onward_ends told later (next read) there.0 there.1

err_same : (a b : DriverFault) → ◌≡◌ {A = Result Moved DriverFault} (Err a) (Err b) → a ≡ b
err_same a b is = cc

ok_no_memory : (told : Result Moved DriverFault) (moved : Moved) → told ≡ Ok moved → told ≢ Err Memory
ok_no_memory told moved ok err = let wrong : ◌≡◌ {A = Result Moved DriverFault} (Ok moved) (Err Memory) = sym ok ∙ err in cc

-- ---- the configuration

read_memory : (device : VirtualDevice) (before : DriverValue) (read : Result Configuration DriverFault) (fault : DriverFault) (later : DriverValue)
    → FitsConfig device.known → 0 < device.known.endpoint
    → ConfigurationRead (configuration_bytes device.known device.interval) read → Goes before (driver_with_configuration before) read (Err fault) later
    → fault ≡ Memory
read_memory device before (Ok configuration) fault later fits some came goes =
    let wrong : ◌≡◌ {A = Result Moved DriverFault} (Err fault) (Ok moves.Onward) = goes.0 in cc
read_memory device before (Err refused) fault later fits some came goes =
    let out : came.0 ≡ faults.Memory = not_refused device came.0 fits some came.1 in
    err_same fault refused goes.0 ∙ came.2 ∙ ap configuration_refusal out

configuration_memory : (device : VirtualDevice) (before : DriverValue) (outcome : Outcome) (fault : DriverFault) (later : DriverValue)
    → FitsConfig device.known → 0 < device.known.endpoint → IsOutcome (Some (configuration_bytes device.known device.interval)) outcome
    → ConfigurationMoves before outcome (Err fault) later → fault ≡ Memory
configuration_memory device before (Done bytes) fault later fits some comes (inl made) =
    read_memory device before made.0 fault later fits some (subst (λ (bs : List ℕ). ConfigurationRead bs made.0) comes made.1) made.2
configuration_memory device before (Done bytes) fault later fits some comes (inr stays) = err_same fault Memory stays.0
configuration_memory device before Stalled fault later fits some comes made = absurd comes
configuration_memory device before Failed fault later fits some comes made = absurd comes

-- ---- the report descriptor

opened_memory : (device : VirtualDevice) (items : List EncodedItem) (before : DriverValue) (read : Result PipeState NoPipe) (fault : DriverFault) (later : DriverValue)
    → AcceptsNoRefused Real → Accepts device.descriptor items → device.known.report_length ≡ length device.descriptor
    → DescriptorRead (virtual_interface device) device.descriptor read → SettlesPipe 0 before read (Err fault) later → fault ≡ Memory
opened_memory device items before (Ok pipe) fault later no_refusal accepts len came (inl settled) =
    let wrong : ◌≡◌ {A = Result Moved DriverFault} (Err fault) (Ok (moves.Live 0)) = settled.0 in cc
opened_memory device items before (Ok pipe) fault later no_refusal accepts len came (inr stays) = err_same fault Memory stays.0
opened_memory device items before (Err pipes.Memory) fault later no_refusal accepts len came stays = err_same fault Memory stays.0
opened_memory device items before (Err (pipes.Refused causes.ReportLength)) fault later no_refusal accepts len came settled = absurd (came (sym len))
opened_memory device items before (Err (pipes.Refused (causes.Layout at))) fault later no_refusal accepts len came settled =
    absurd (no_refusal device.descriptor items at.cause at.at accepts came.1)
opened_memory device items before (Err (pipes.Refused cause)) fault later no_refusal accepts len came settled = absurd came

report_memory : (device : VirtualDevice) (items : List EncodedItem) (before : DriverValue) (outcome : Outcome) (fault : DriverFault) (later : DriverValue)
    → AcceptsNoRefused Real → Accepts device.descriptor items → device.known.report_length ≡ length device.descriptor
    → IsOutcome (Some device.descriptor) outcome → ReportMovesOf 0 before outcome (Err fault) later (Some (waiting_for device)) → fault ≡ Memory
report_memory device items before (Done bytes) fault later no_refusal accepts len comes made =
    opened_memory device items before made.0 fault later no_refusal accepts len
    (subst (λ (bs : List ℕ). DescriptorRead (virtual_interface device) bs made.0) comes made.1) made.2
report_memory device items before Stalled fault later no_refusal accepts len comes made = absurd comes
report_memory device items before Failed fault later no_refusal accepts len comes made = absurd comes

-- ---- the six moves

abbrev known1 : VirtualDevice → DriverValue
known1 device = record driver_at_start { state = states.Length; device = Some device.info }

abbrev known2 : VirtualDevice → DriverValue
known2 device = record (known1 device) { state = states.Configuration 34 }

abbrev known3 : VirtualDevice → DriverValue
known3 device = record (known2 device) { state = states.Configure 1; interfaces = waiting_for device ∷ [] }

abbrev known4 : VirtualDevice → DriverValue
known4 device = record (known3 device) { state = states.Idle 0 }

abbrev known5 : VirtualDevice → DriverValue
known5 device = record (known4 device) { state = states.Report 0 }

-- what holds of a gadget beside which a driver comes up
record CanBeRead (core : CoreState) : Type 0 where
  sound : IsSound core
  some : 0 < length core.descriptor
  one_reading : HasOneReading Real
  no_refusal : AcceptsNoRefused Real
  items : List EncodedItem
  accepts : Accepts core.descriptor items
  laid : core.layout ≡ layout_of items

move1 : (core : CoreState) (result : Result (Option Moved) DriverFault) (later : DriverValue) (after : CoreState)
    → MakesTransfer driver_at_start core result later after → Leads result later after (known1 (device_of core)) (after1 core)
move1 core result later after transfers =
    let device : VirtualDevice = device_of core in
    leads to_device (device_bytes device.info) driver_at_start (known1 device) core (after1 core) result later after refl
    (gives1 core ∙ ap (λ (bytes : List ℕ). Some bytes) (sym (bytes_again core))) refl
    (λ outcome told comes made. goes_ends driver_at_start (λ (info : DeviceInfo). record driver_at_start { state = states.Length; device = Some info })
    (device_answer outcome) device.info told later (device_when device outcome (info_fits core) comes) made)
    transfers

move2 : (core : CoreState) (result : Result (Option Moved) DriverFault) (later : DriverValue) (after : CoreState)
    → MakesTransfer (known1 (device_of core)) (after1 core) result later after → Leads result later after (known2 (device_of core)) (after2 core)
move2 core result later after transfers =
    let device : VirtualDevice = device_of core in
    leads to_length (take 9 (configuration_bytes device.known device.interval)) (known1 device) (known2 device) (after1 core) (after2 core) result later after refl
    (gives2 core) refl
    (λ outcome told comes made. goes_ends (known1 device) (λ (n : ℕ). record (known1 device) { state = states.Configuration n })
    (length_answer outcome) 34 told later (length_when device outcome comes) made)
    transfers

move3 : (core : CoreState) (result : Result (Option Moved) DriverFault) (later : DriverValue) (after : CoreState) → IsSound core → 0 < length core.descriptor
    → MakesTransfer (known2 (device_of core)) (after2 core) result later after → Leads result later after (known3 (device_of core)) (after3 core)
move3 core result later after sound some transfers =
    let device : VirtualDevice = device_of core in
    let fits = known_fits core sound in
    leads to_configuration (configuration_bytes device.known device.interval) (known2 device) (known3 device) (after2 core) (after3 core) result later after refl
    (gives3 core) refl
    (λ outcome told comes made. record {
      done = λ moved ok. configuration_when device (known2 device) outcome told later fits (some_endpoint core) some (ok_no_memory told moved ok) comes made;
      memory = λ fault err. configuration_memory device (known2 device) outcome fault later fits (some_endpoint core) comes
          (subst (λ (t : Result Moved DriverFault). ConfigurationMoves (known2 device) outcome t later) err made);
    })
    transfers

move4 : (core : CoreState) (result : Result (Option Moved) DriverFault) (later : DriverValue) (after : CoreState)
    → MakesTransfer (known3 (device_of core)) (after3 core) result later after → Leads result later after (known4 (device_of core)) (after4 core)
move4 core result later after transfers =
    let device : VirtualDevice = device_of core in
    leads to_configure [] (known3 device) (known4 device) (after3 core) (after4 core) result later after refl
    (gives4 core) refl
    (λ outcome told comes made. goes_ends (known3 device) (λ (done : Unit {0}). record (known3 device) { state = next_state (known3 device).interfaces })
    (status_answer outcome) tt told later (status_when [] outcome comes) made)
    transfers

move5 : (core : CoreState) (result : Result (Option Moved) DriverFault) (later : DriverValue) (after : CoreState)
    → MakesTransfer (known4 (device_of core)) (after4 core) result later after → Leads result later after (known5 (device_of core)) (after5 core)
move5 core result later after transfers =
    let device : VirtualDevice = device_of core in
    leads to_idle [] (known4 device) (known5 device) (after4 core) (after5 core) result later after refl
    (gives5 core) refl
    (λ outcome told comes made. onward_ends told later (known5 device) made.0 made.1)
    transfers

move6 : (core : CoreState) (result : Result (Option Moved) DriverFault) (later : DriverValue) (after : CoreState) → CanBeRead core
    → MakesTransfer (known5 (device_of core)) (after5 core) result later after
    → Leads result later after (ready_for (device_of core) core.layout) (core_brought_up core)
move6 core result later after can transfers =
    let device : VirtualDevice = device_of core in
    leads (to_report core) core.descriptor (known5 device) (ready_for device core.layout) (after5 core) (core_brought_up core) result later after refl
    (gives6 core ∙ ap (λ (bytes : List ℕ). Some bytes) (take_all (length core.descriptor) core.descriptor (omega arith))) refl
    (λ outcome told comes made. record {
      done = λ moved ok. report_when device core.layout can.items (known5 device) outcome told later can.one_reading can.no_refusal can.accepts can.laid refl
          (ok_no_memory told moved ok) refl comes made;
      memory = λ fault err. report_memory device can.items (known5 device) outcome fault later can.no_refusal can.accepts refl comes
          (subst (λ (t : Result Moved DriverFault). ReportMovesOf 0 (known5 device) outcome t later (Some (waiting_for device))) err made);
    })
    transfers

-- ---- one after another

-- both ends stand so after so many transfers
abbrev StandsAfter : ℕ → CoreState → DriverValue → CoreState → Type 0
StandsAfter count core next goal =
    (later : DriverValue) (after : CoreState) → MakesTransfersBy count driver_at_start core later after → (later ≡ next) × (after ≡ goal)

-- both ends stand so after one transfer more
onward : (count : ℕ) (core : CoreState) (here next : DriverValue) (at goal : CoreState) → StandsAfter count core here at
    → ((result : Result (Option Moved) DriverFault) (later : DriverValue) (after : CoreState) → MakesTransfer here at result later after → Leads result later after next goal)
    → StandsAfter (suc count) core next goal
onward count core here next at goal stands leads_on later after made =
    let before = stands made.0 made.1 made.3 in
    let last = subst (λ (d : DriverValue). MakesTransfer d made.1 (Ok (Some made.2)) later after) before.0 made.4 in
    let last_here = subst (λ (c : CoreState). MakesTransfer here c (Ok (Some made.2)) later after) before.1 last in
    (leads_on (Ok (Some made.2)) later after last_here).done made.2 refl

-- where a transfer isn't done, memory ran out
ran_out : (count : ℕ) (core : CoreState) (here next : DriverValue) (at goal : CoreState) → StandsAfter count core here at
    → ((result : Result (Option Moved) DriverFault) (later : DriverValue) (after : CoreState) → MakesTransfer here at result later after → Leads result later after next goal)
    → (d : DriverValue) (c : CoreState) (fault : DriverFault) (later : DriverValue) (after : CoreState)
    → MakesTransfersBy count driver_at_start core d c → MakesTransfer d c (Err fault) later after → fault ≡ Memory
ran_out count core here next at goal stands leads_on d c fault later after made last =
    let before = stands d c made in
    let at_here = subst (λ (k : DriverValue). MakesTransfer k c (Err fault) later after) before.0 last in
    let last_here = subst (λ (k : CoreState). MakesTransfer here k (Err fault) later after) before.1 at_here in
    (leads_on (Err fault) later after last_here).memory fault refl

stands0 : (core : CoreState) → StandsAfter 0 core driver_at_start core
stands0 core later after stays = stays

stands1 : (core : CoreState) → StandsAfter 1 core (known1 (device_of core)) (after1 core)
stands1 core = onward 0 core driver_at_start (known1 (device_of core)) core (after1 core) (stands0 core) (move1 core)

stands2 : (core : CoreState) → StandsAfter 2 core (known2 (device_of core)) (after2 core)
stands2 core = onward 1 core (known1 (device_of core)) (known2 (device_of core)) (after1 core) (after2 core) (stands1 core) (move2 core)

stands3 : (core : CoreState) → CanBeRead core → StandsAfter 3 core (known3 (device_of core)) (after3 core)
stands3 core can =
    onward 2 core (known2 (device_of core)) (known3 (device_of core)) (after2 core) (after3 core) (stands2 core)
    (λ result later after transfers. move3 core result later after can.sound can.some transfers)

stands4 : (core : CoreState) → CanBeRead core → StandsAfter 4 core (known4 (device_of core)) (after4 core)
stands4 core can = onward 3 core (known3 (device_of core)) (known4 (device_of core)) (after3 core) (after4 core) (stands3 core can) (move4 core)

stands5 : (core : CoreState) → CanBeRead core → StandsAfter 5 core (known5 (device_of core)) (after5 core)
stands5 core can = onward 4 core (known4 (device_of core)) (known5 (device_of core)) (after4 core) (after5 core) (stands4 core can) (move5 core)

stands6 : (core : CoreState) → CanBeRead core → StandsAfter 6 core (ready_for (device_of core) core.layout) (core_brought_up core)
stands6 core can =
    onward 5 core (known5 (device_of core)) (ready_for (device_of core) core.layout) (after5 core) (core_brought_up core) (stands5 core can)
    (λ result later after transfers. move6 core result later after can transfers)

-- a driver that waits for a request isn't done
waits_on : (setup : Setup) (here later : DriverValue) → setup_awaited here.state here.interfaces ≡ Some setup → later ≡ here
    → setup_awaited later.state later.interfaces ≡ None → ⊥
waits_on setup here later asks is none =
    let wrong : ◌≡◌ {A = Option Setup} None (Some setup) = sym none ∙ ap (λ (d : DriverValue). setup_awaited d.state d.interfaces) is ∙ asks in cc

-- so all six are made
all_six : (count : ℕ) (core : CoreState) (later : DriverValue) (after : CoreState) → CanBeRead core → count ≤ 6
    → MakesTransfersBy count driver_at_start core later after → setup_awaited later.state later.interfaces ≡ None → count ≡ 6
all_six zero core later after can few made none = absurd (waits_on to_device driver_at_start later refl (stands0 core later after made).0 none)
all_six (suc zero) core later after can few made none = absurd (waits_on to_length (known1 (device_of core)) later refl (stands1 core later after made).0 none)
all_six (suc (suc zero)) core later after can few made none = absurd (waits_on to_configuration (known2 (device_of core)) later refl (stands2 core later after made).0 none)
all_six (suc (suc (suc zero))) core later after can few made none = absurd (waits_on to_configure (known3 (device_of core)) later refl (stands3 core can later after made).0 none)
all_six (suc (suc (suc (suc zero)))) core later after can few made none = absurd (waits_on to_idle (known4 (device_of core)) later refl (stands4 core can later after made).0 none)
all_six (suc (suc (suc (suc (suc zero))))) core later after can few made none = absurd (waits_on (to_report core) (known5 (device_of core)) later refl (stands5 core can later after made).0 none)
all_six (suc (suc (suc (suc (suc (suc zero)))))) core later after can few made none = refl
all_six (suc (suc (suc (suc (suc (suc (suc count))))))) core later after can few made none = absurd (omega (arith, few))

memory_ran_out : (count : ℕ) (core : CoreState) (d : DriverValue) (c : CoreState) (fault : DriverFault) (later : DriverValue) (after : CoreState)
    → CanBeRead core → suc count ≤ 6 → MakesTransfersBy count driver_at_start core d c → MakesTransfer d c (Err fault) later after → fault ≡ Memory
memory_ran_out zero core d c fault later after can few made last =
    ran_out 0 core driver_at_start (known1 (device_of core)) core (after1 core) (stands0 core) (move1 core) d c fault later after made last
memory_ran_out (suc zero) core d c fault later after can few made last =
    ran_out 1 core (known1 (device_of core)) (known2 (device_of core)) (after1 core) (after2 core) (stands1 core) (move2 core) d c fault later after made last
memory_ran_out (suc (suc zero)) core d c fault later after can few made last =
    ran_out 2 core (known2 (device_of core)) (known3 (device_of core)) (after2 core) (after3 core) (stands2 core)
    (λ result later after transfers. move3 core result later after can.sound can.some transfers) d c fault later after made last
memory_ran_out (suc (suc (suc zero))) core d c fault later after can few made last =
    ran_out 3 core (known3 (device_of core)) (known4 (device_of core)) (after3 core) (after4 core) (stands3 core can) (move4 core) d c fault later after made last
memory_ran_out (suc (suc (suc (suc zero)))) core d c fault later after can few made last =
    ran_out 4 core (known4 (device_of core)) (known5 (device_of core)) (after4 core) (after5 core) (stands4 core can) (move5 core) d c fault later after made last
memory_ran_out (suc (suc (suc (suc (suc zero))))) core d c fault later after can few made last =
    ran_out 5 core (known5 (device_of core)) (ready_for (device_of core) core.layout) (after5 core) (core_brought_up core) (stands5 core can)
    (λ result later after transfers. move6 core result later after can transfers) d c fault later after made last
memory_ran_out (suc (suc (suc (suc (suc (suc count)))))) core d c fault later after can few made last = absurd (omega (arith, few))

six_of : (count : ℕ) (core : CoreState) (later : DriverValue) (after : CoreState) → CanBeRead core → count ≤ 6
    → MakesTransfersBy count driver_at_start core later after → (count ≡ 6) ⊎ (setup_awaited later.state later.interfaces ≡ None) → count ≡ 6
six_of count core later after can few made (inl all) = all
six_of count core later after can few made (inr none) = all_six count core later after can few made none

up_by : (core : CoreState) (result : Result ℕ DriverFault) (later : DriverValue) (after : CoreState) → CanBeRead core
    → Settles 6 driver_at_start core result later after → BringsUp core result later after
up_by core (Ok count) later after can settles =
    let all : count ≡ 6 = six_of count core later after can settles.1 settles.0 settles.2 in
    let stands = stands6 core can later after (subst (λ (n : ℕ). MakesTransfersBy n driver_at_start core later after) all settles.0) in
    (all, stands.0, stands.1)
up_by core (Err fault) later after can settles =
    memory_ran_out settles.0 core settles.1 settles.2 fault later after can settles.4 settles.3 settles.5

-- A new driver comes up beside any gadget whose report descriptor isn't empty.
pub brings_up : (core : CoreState) (result : Result ℕ DriverFault) (driver later : DriverValue) (after : CoreState) → IsSound core
    → HasOneReading Real → AcceptsNoRefused Real → AcceptsAllOfBus → Settles 6 driver core result later after
    → driver ≡ driver_at_start → 0 < length core.descriptor → BringsUp core result later after
brings_up core result driver later after sound one_reading no_refusal accepts_all settles start some =
    up_by core result later after
    (record {
      sound = sound;
      some = some;
      one_reading = one_reading;
      no_refusal = no_refusal;
      items = sound.lays.items;
      accepts = accepts_all core.descriptor sound.lays.items sound.lays.accepted;
      laid = sound.lays.laid;
    })
    (subst (λ (d : DriverValue). Settles 6 d core result later after) start settles)

-- ---- the gadget then

pub layout_up : (core : CoreState) → (core_brought_up core).layout ≡ core.layout
unfolding decide request_kind_of
layout_up core = refl

-- its counts begin again, for as many reports
abbrev counted_from : CoreState → ℕ → ReportState
counted_from core count = record {
  snapshot = core.reports.snapshot;
  fixed = blank_parts (items_of core.layout);
  frames = replicate count 0;
  idle = no_idle core.reports.idle;
  aborted = replicate count false;
}

pub fresh_up : (core : CoreState) → IsSound core → IsFresh (core_brought_up core) core.reports.snapshot (no_idle core.reports.idle)
unfolding decide request_kind_of
fresh_up core sound =
    let sound1 = sound_after_transfer core to_device [] sound in
    let sound2 = sound_after_transfer (after1 core) to_length [] sound1 in
    let sound3 = sound_after_transfer (after2 core) to_configuration [] sound2 in
    let sound4 = sound_after_transfer (after3 core) to_configure [] sound3 in
    let sound5 = sound_after_transfer (after4 core) to_idle [] sound4 in
    record {
      sound = sound_after_transfer (after5 core) (to_report core) [] sound5;
      configured = refl;
      going = refl;
      no_round = refl;
      reports = ap (counted_from core) (sym (length-replicate (length core.reports.idle) 0));
      toggle = refl;
    }
