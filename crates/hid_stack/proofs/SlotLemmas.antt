-- A device and its host as one slot of the bus.
use Rattle.std.proofs.Common.{◌≡◌, ◌∙◌, ◌<◌, ◌≤◌, ◌+◌, ◌++◌, ℕ, Bool, true, false, ◌||◌, List, [], ◌∷◌, length, get_or, map, take, append_assoc, Option, Some, None, Result, Ok, Err, inl, refl, ap, sym, subst, arith}
use Rattle.std.specs.Prelude.{IfOk, OnErr, if◌then◌else◌, min}
use Rattle.std.proofs.lemmas.List.{append-nil, length-map, map-append, nil_from_length, take_more}
use Rattle.usb_transact.specs.declared.transaction.Fate.{Fate}
use Rattle.usb_control.specs.declared.host.Progress.{Progress}
use Rattle.hid_requests.specs.declared.request.Request.{Request}
use Rattle.hid_requests.specs.declared.request.Request.TheVariants as requests
use Rattle.hid_bus.specs.declared.start.Start.{Start}
use Rattle.hid_bus.specs.declared.start.Start.TheVariants as starts
use Rattle.hid_snapshots.specs.declared.control_state.ControlState.{ControlState}
use Rattle.hid_snapshots.specs.declared.event.Event.{Event}
use Rattle.hid_layout.specs.Controls.{Item, items_of, max_events}
use Rattle.hid_snapshots.specs.declared.change.Change.{Change}
use Rattle.hid_snapshots.specs.declared.fault.ChangeFault.{ChangeFault}
use Rattle.hid_snapshots.specs.Snapshots.{snapshot_after}
use Rattle.hid_bus.specs.ReportState.{ReportState, after_change, most_frames}
use Rattle.hid_report_descriptor.specs.declared.limits.Limits.TheVariants.{Bus}
use Rattle.hid_report_descriptor.specs.Bus.{HasOneReading, AcceptsNoRefused}
use Rattle.hid_layout.specs.Layout.{Contents, layout_of}
use Rattle.hid_layout.specs.Reports.{IsLayout}
use Rattle.hid_layout.proofs.WellFormed.{layout_of_accepted}
use Rattle.hid_snapshots.proofs.BlankLemmas.{initial_fits}
use Rattle.hid_device.specs.declared.config.Config.{Config}
use Rattle.hid_device.specs.Core.{CoreState, IsSound}
use Rattle.hid_layout.specs.Parsing.{ParsesTo}
use Rattle.hid_device.specs.Device.{DeviceState, configured_device, core_of, framed_device}
use Rattle.hid_device.proofs.OutputLemmas.{sound_framed}
use Rattle.hid_device.specs.Creation.{MakesDevice, new_device}
use Rattle.hid_host.specs.declared.fault.StackFault.{StackFault}
use Rattle.hid_host.specs.declared.fault.StackFault.TheVariants as faults
use Rattle.hid_host.specs.declared.fault.DescriptorFault.TheVariants.{Info, ReportLength, Layout, Device}
use Rattle.usb_control.specs.Device.{DevControlState}
use Rattle.hid_host.specs.declared.host.Transfer.{Transfer}
use Rattle.hid_stack.specs.ControlSteps.{TakesMemory}
use Rattle.hid_stack.specs.HostInvariant.{IsConsistent, LeavesTransfers}
use Rattle.hid_host.specs.Phase.{may_poll, state_of}
use Rattle.hid_host.specs.Ready.{ReadyHostState}
use Rattle.hid_stack.specs.Attaching.{CanAttach, IsAttachFault, member_at_start}
use Rattle.hid_host.specs.Conclusions.{IsNoLayout}
use Rattle.hid_host.specs.Host.{HostDeviceState, cold_host, may_abort_round, ready_host, request_aborts_round}
use Rattle.hid_host.specs.declared.phase.HostPhase.{HostPhase}
use Rattle.hid_host.specs.declared.phase.HostPhase.TheVariants.{Cold, Described, Parsed, Ready}
use Rattle.hid_bus.specs.declared.step.Delivered.{Delivered}
use Rattle.hid_stack.specs.Members.{Member, member_after_try_in}
use Rattle.hid_stack.specs.Rig.{HasRoomToTry, with_device_number}
use Rattle.hid_stack.specs.Slot.{pair_member, round_between, HasReceivedUnless, TogglesAgreeUnless, IsPair, IsUntouched, AreConsistentEnds, TriesOnPair, TriesTransfer}

-- where the device accepts the descriptor, its host lacks nothing but memory
pub no_pair : (addr : ℕ) (config : Config) (descriptor : List ℕ) (fault : StackFault) (made : DeviceState)
    → AcceptsNoRefused → MakesDevice addr config descriptor (Ok made) → IsNoLayout descriptor fault → IsAttachFault addr config descriptor fault
no_pair addr config descriptor (faults.BadDescriptor (Layout f)) made law (fits, (layout, serves, is)) none =
    absurd (law descriptor serves.lays.items f.cause f.at serves.lays.accepted none)
no_pair addr config descriptor (faults.BadDescriptor (Device f)) made law makes none = absurd none
no_pair addr config descriptor (faults.BadDescriptor (Info f)) made law makes none = absurd none
no_pair addr config descriptor (faults.BadDescriptor ReportLength) made law makes none = absurd none
no_pair addr config descriptor faults.Memory made law (fits, (layout, serves, is)) none = (fits, none)
no_pair addr config descriptor faults.NoDevice made law makes none = absurd none
no_pair addr config descriptor faults.NotReady made law makes none = absurd none
no_pair addr config descriptor (faults.Refused f) made law makes none = absurd none
no_pair addr config descriptor (faults.Control f) made law makes none = absurd none
no_pair addr config descriptor (faults.Report f) made law makes none = absurd none
no_pair addr config descriptor faults.TooManyDevices made law makes none = absurd none

-- a device and a host that were made from one descriptor
pub record Made (start : Start) (addr : ℕ) (config : Config) (descriptor : List ℕ) (device : DeviceState)
    (host : HostDeviceState) : Type 0 where
  pub layout : Contents
  pub suits : CanAttach addr config descriptor layout
  pub member : pair_member device host ≡ member_at_start start addr config descriptor layout
  pub together : AreConsistentEnds device host.clearing host.phase
  pub knows : IsConsistent host device.control
  pub home : host.addr ≡ device.addr

-- what a slot of the two gives begins as the member does
pub joined_begins : (start : Start) (addr : ℕ) (config : Config) (descriptor : List ℕ) (device : DeviceState)
    (host : HostDeviceState)
    → Made start addr config descriptor device host → (result : Result Member StackFault)
    → IfOk result (λ slot. slot ≡ pair_member device host)
    → IfOk result
    (λ slot. (layout : Contents) × CanAttach addr config descriptor layout
    × (slot ≡ member_at_start start addr config descriptor layout))
joined_begins start addr config descriptor device host made (Ok slot) joins = (made.layout, made.suits, joins ∙ made.member)
joined_begins start addr config descriptor device host made (Err fault) joins = tt

-- laws of hosts that know their devices
abbrev StartsReady : Type 0
StartsReady =
    (addr : ℕ) (control : DevControlState CoreState) → control.requests.is_configured ≡ true
    → IsConsistent (ready_host addr control.requests.layout) control

abbrev StartsCold : Type 0
StartsCold = (addr : ℕ) (control : DevControlState CoreState) → IsConsistent (cold_host addr) control

pub laid_by : (descriptor : List ℕ) (layout : Contents) → ParsesTo descriptor layout → IsLayout layout
laid_by descriptor layout lays = subst IsLayout (sym lays.laid) (layout_of_accepted Bus descriptor lays.items lays.accepted)

pub makes_ready : (addr : ℕ) (config : Config) (descriptor : List ℕ) (made device : DeviceState)
    (host : HostDeviceState)
    → HasOneReading → StartsReady → MakesDevice addr config descriptor (Ok made) → device ≡ configured_device made
    → ((other : Contents) × ParsesTo descriptor other × (host ≡ ready_host addr other)) → IsSound (core_of device)
    → Made starts.Ready addr config descriptor device host
makes_ready addr config descriptor made device host law begins (fits, (layout, serves, made_is)) device_was (other, lays, host_was) sound =
    let same : other ≡ layout = lays.laid ∙ ap layout_of (law descriptor lays.items serves.lays.items lays.accepted serves.lays.accepted) ∙ sym serves.lays.laid in
    let device_is : device ≡ configured_device (new_device addr config descriptor layout) = device_was ∙ ap configured_device made_is in
    let host_is : host ≡ ready_host addr layout = host_was ∙ ap (ready_host addr) same in
    let laid : IsLayout layout = laid_by descriptor layout serves.lays in
    record {
      layout = layout;
      suits = record { config_fits = fits; serves = serves };
      member = ap (λ (d : DeviceState). pair_member d host) device_is
          ∙ ap (λ (h : HostDeviceState). pair_member
          (configured_device (new_device addr config descriptor layout)) h) host_is;
      together =
          subst (λ (d : DeviceState). AreConsistentEnds d host.clearing host.phase) (sym device_is)
          (subst (λ (h : HostDeviceState). AreConsistentEnds
          (configured_device (new_device addr config descriptor layout)) h.clearing h.phase) (sym host_is) (record {
            configured = refl;
            layout = refl;
            addr = refl;
            endp = refl;
            even = refl;
            got = refl;
            sound = subst (λ (d : DeviceState). IsSound (core_of d)) device_is sound;
            laid = laid;
            fits = initial_fits layout laid;
          }));
      knows = subst (λ (d : DeviceState). IsConsistent host d.control) (sym device_is)
          (subst (λ (h : HostDeviceState). IsConsistent h
          (configured_device (new_device addr config descriptor layout)).control) (sym host_is)
          (begins addr (configured_device (new_device addr config descriptor layout)).control refl));
      home = ap (λ (h : HostDeviceState). h.addr) host_is ∙ sym (ap (λ (d : DeviceState). d.addr) device_is);
    }

pub makes_cold : (addr : ℕ) (config : Config) (descriptor : List ℕ) (device : DeviceState) (host : HostDeviceState)
    → StartsCold → MakesDevice addr config descriptor (Ok device) → host ≡ cold_host addr → IsSound (core_of device)
    → Made starts.Cold addr config descriptor device host
makes_cold addr config descriptor device host begins (fits, (layout, serves, device_is)) host_is sound =
    let made = new_device addr config descriptor layout in
    record {
      layout = layout;
      suits = record { config_fits = fits; serves = serves };
      member = ap (λ (d : DeviceState). pair_member d host) device_is
          ∙ ap (λ (h : HostDeviceState). pair_member made h) host_is;
      together = subst (λ (h : HostDeviceState). AreConsistentEnds device h.clearing h.phase) (sym host_is) (record {
        sound = sound;
        no_round = ap (λ (d : DeviceState). (core_of d).current) device_is;
        even = ap (λ (d : DeviceState). (core_of d).toggle) device_is;
      });
      knows = subst (λ (h : HostDeviceState). IsConsistent h device.control) (sym host_is)
          (begins addr device.control);
      home = ap (λ (h : HostDeviceState). h.addr) host_is ∙ sym (ap (λ (d : DeviceState). d.addr) device_is);
    }

-- ---- what leaves the two together

-- what a step of the schedule leaves of a device
pub record Leaves (device device_then : DeviceState) : Type 0 where
  pub addr : device_then.addr ≡ device.addr
  pub layout : (core_of device_then).layout ≡ (core_of device).layout
  pub configured : (core_of device_then).is_configured ≡ (core_of device).is_configured
  pub current : (core_of device_then).current ≡ (core_of device).current
  pub piece : (core_of device_then).piece ≡ (core_of device).piece
  pub fixed : (core_of device_then).reports.fixed ≡ (core_of device).reports.fixed
  pub toggle : (core_of device_then).toggle ≡ (core_of device).toggle
  pub halted : (core_of device_then).halted ≡ (core_of device).halted
  pub sound : IsSound (core_of device_then)

untouched_on : (device device_then : DeviceState) → Leaves device device_then → IsUntouched (core_of device) → IsUntouched (core_of device_then)
untouched_on device device_then l u = record { sound = l.sound; no_round = l.current ∙ u.no_round; even = l.toggle ∙ u.even }

even_on : (known : ReadyHostState) (clearing h t i u : Bool) (o p : Option ℕ) → i ≡ h → u ≡ t → p ≡ o
    → TogglesAgreeUnless (h || clearing) t known.pipe.expects o
    → TogglesAgreeUnless (i || clearing) u known.pipe.expects p
even_on known clearing h t i u o p halted toggle current even =
    subst (λ (b : Bool). TogglesAgreeUnless (b || clearing) u known.pipe.expects p) (sym halted)
    (subst (λ (b : Bool). TogglesAgreeUnless (h || clearing) b known.pipe.expects p) (sym toggle)
    (subst (λ (x : Option ℕ). TogglesAgreeUnless (h || clearing) t known.pipe.expects x) (sym current) even))

-- what a host has of the open round
abbrev Got : ReadyHostState → Bool → Contents → Bool → Bool → List ControlState → Option ℕ → ℕ → Type 0
Got known clearing layout h t parts o n =
    HasReceivedUnless (h || clearing) layout parts
    (round_between (items_of layout) t known.pipe.expects o n) known.collected

got_on : (known : ReadyHostState) (clearing h t i u : Bool) (l k : Contents) (parts others : List ControlState)
    (o p : Option ℕ) (n m : ℕ) → i ≡ h → u ≡ t → k ≡ l → others ≡ parts → p ≡ o → m ≡ n
    → Got known clearing l h t parts o n → Got known clearing k i u others p m
got_on known clearing h t i u l k parts others o p n m halted toggle layout fixed current piece got =
    subst (λ (b : Bool). Got known clearing k b u others p m) (sym halted)
    (subst (λ (b : Bool). Got known clearing k h b others p m) (sym toggle)
    (subst (λ (x : Contents). Got known clearing x h t others p m) (sym layout)
    (subst (λ (x : List ControlState). Got known clearing l h t x p m) (sym fixed)
    (subst (λ (x : Option ℕ). Got known clearing l h t parts x m) (sym current)
    (subst (λ (x : ℕ). Got known clearing l h t parts o x) (sym piece) got)))))

pub stays_together : (clearing : Bool) (phase : HostPhase) (device device_then : DeviceState)
    → Leaves device device_then → AreConsistentEnds device clearing phase
    → AreConsistentEnds device_then clearing phase
stays_together clearing Cold device device_then l u = untouched_on device device_then l u
stays_together clearing (Described info) device device_then l u = untouched_on device device_then l u
stays_together clearing (Parsed info layout) device device_then l u = untouched_on device device_then l u
stays_together clearing (Ready known) device device_then l pair = record {
  configured = l.configured ∙ pair.configured;
  layout = pair.layout ∙ sym l.layout;
  addr = pair.addr ∙ sym l.addr;
  endp = pair.endp;
  even = even_on known clearing (core_of device).halted (core_of device).toggle (core_of device_then).halted (core_of device_then).toggle (core_of device).current (core_of device_then).current l.halted l.toggle l.current pair.even;
  got = got_on known clearing (core_of device).halted (core_of device).toggle (core_of device_then).halted (core_of device_then).toggle (core_of device).layout (core_of device_then).layout
      (core_of device).reports.fixed (core_of device_then).reports.fixed (core_of device).current
      (core_of device_then).current (core_of device).piece (core_of device_then).piece
      l.halted l.toggle l.layout l.fixed l.current l.piece pair.got;
  sound = l.sound;
  laid = pair.laid;
  fits = pair.fits;
}

-- the invariant of a slot
abbrev Holds : DeviceState → HostDeviceState → ℕ → ℕ → Type 0
Holds device host capacity most =
    AreConsistentEnds device host.clearing host.phase × IsConsistent host device.control × (host.addr ≡ device.addr)
    × (capacity ≡ max_events (items_of (core_of device).layout))
    × (most ≡ max_events (items_of (core_of device).layout))

abbrev OthersLeave : Type 0
OthersLeave =
    (host : HostDeviceState) (old new : DevControlState CoreState) → LeavesTransfers host.clearing old new
    → IsConsistent host old → IsConsistent host new

pub holds_on : (device device_then : DeviceState) (host : HostDeviceState) (capacity most : ℕ) → OthersLeave
    → LeavesTransfers host.clearing device.control device_then.control → Leaves device device_then
    → Holds device host capacity most → Holds device_then host capacity most
holds_on device device_then host capacity most others transfers l (together, knows, home, room, events) = (
  stays_together host.clearing host.phase device device_then l together,
  others host device.control device_then.control transfers knows,
  home ∙ sym l.addr,
  subst (λ (x : Contents). capacity ≡ max_events (items_of x)) (sym l.layout) room,
  subst (λ (x : Contents). most ≡ max_events (items_of x)) (sym l.layout) events,
)

-- the invariant of a slot is kept by a step at both ends
pub holds_by : (device device_then : DeviceState) (host host_then : HostDeviceState) (capacity capacity_then most : ℕ)
    → AreConsistentEnds device_then host_then.clearing host_then.phase → IsConsistent host_then device_then.control
    → host_then.addr ≡ host.addr → device_then.addr ≡ device.addr
    → (core_of device_then).layout ≡ (core_of device).layout → capacity_then ≡ capacity → Holds device host capacity most → Holds device_then host_then capacity_then most
holds_by device device_then host host_then capacity capacity_then most together knows home addr layout same (_, _, at_home, room, events) = (
  together,
  knows,
  home ∙ at_home ∙ sym addr,
  subst (λ (x : Contents). capacity_then ≡ max_events (items_of x)) (sym layout) (same ∙ room),
  subst (λ (x : Contents). most ≡ max_events (items_of x)) (sym layout) events,
)

-- what is handed on of a step is no more than its member gives
pub few_handed : (m n : Member) (len reserved now events : ℕ) → m ≡ n → reserved ≡ len → now ≡ reserved + events → events ≤ max_events (items_of m.layout) → now ≤ len + max_events (items_of n.layout)
few_handed m n len reserved now events same kept handed few =
    let most = ap (λ (k : Member). max_events (items_of k.layout)) same in omega (arith, most)

-- a change leaves the part that was fixed
pub fixed_stays : (items : List Item) (d : ReportState) (change : Change)
    → (after_change items d change).fixed ≡ d.fixed
fixed_stays items d change =
    elim (snapshot_after items d.snapshot change) as
    (λ (x : Result (List ControlState) ChangeFault).
    (elim x as
    (λ _. ReportState) [
      | Ok states ↦
          record { snapshot = states; fixed = d.fixed; frames = d.frames; idle = d.idle; aborted = d.aborted }
      | Err fault ↦
          d
    ]).fixed ≡ d.fixed)
    [ Ok states ↦ refl | Err fault ↦ refl ]

-- a device is sound after a frame
pub framed_sound : (device device_then : DeviceState) → device_then ≡ framed_device device → IsSound (core_of device) → IsSound (core_of device_then)
framed_sound device device_then is before =
    let frames = (core_of device).reports.frames in
    let after = map (λ (n : ℕ). min (n + 1) most_frames) frames in
    subst (λ (d : DeviceState). IsSound (core_of d)) (sym is) (sound_framed (core_of device) after before (length-map frames (λ (n : ℕ). min (n + 1) most_frames) ∙ before.each_frames))

-- a device that such a step leaves so
pub leaves_as : (device other device_then : DeviceState) → device_then ≡ other → other.addr ≡ device.addr → (core_of other).layout ≡ (core_of device).layout → (core_of other).is_configured ≡ (core_of device).is_configured
    → (core_of other).current ≡ (core_of device).current → (core_of other).piece ≡ (core_of device).piece
    → (core_of other).reports.fixed ≡ (core_of device).reports.fixed
    → (core_of other).toggle ≡ (core_of device).toggle → (core_of other).halted ≡ (core_of device).halted
    → IsSound (core_of device_then) → Leaves device device_then
leaves_as device other device_then is addr layout configured current piece fixed toggle halted sound = record {
  addr = ap (λ (d : DeviceState). d.addr) is ∙ addr;
  layout = ap (λ (d : DeviceState). (core_of d).layout) is ∙ layout;
  configured = ap (λ (d : DeviceState). (core_of d).is_configured) is ∙ configured;
  current = ap (λ (d : DeviceState). (core_of d).current) is ∙ current;
  piece = ap (λ (d : DeviceState). (core_of d).piece) is ∙ piece;
  fixed = ap (λ (d : DeviceState). (core_of d).reports.fixed) is ∙ fixed;
  toggle = ap (λ (d : DeviceState). (core_of d).toggle) is ∙ toggle;
  halted = ap (λ (d : DeviceState). (core_of d).halted) is ∙ halted;
  sound = sound;
}

pub transfers_as : (clearing : Bool) (device other device_then : DeviceState) → device_then ≡ other → LeavesTransfers clearing device.control other.control → LeavesTransfers clearing device.control device_then.control
transfers_as clearing device other device_then is leaves = subst (λ (d : DeviceState). LeavesTransfers clearing device.control d.control) (sym is) leaves

-- ---- polls

pub pair_where_polled : (device : DeviceState) (clearing : Bool) (phase : HostPhase)
    → may_poll (state_of phase) clearing ≡ true → AreConsistentEnds device clearing phase
    → IsPair device false phase × (clearing ≡ false)
pair_where_polled device clearing Cold is together = absurd (cc)
pair_where_polled device clearing (Described info) is together = absurd (cc)
pair_where_polled device clearing (Parsed info layout) is together = absurd (cc)
pair_where_polled device true (Ready known) is together = absurd (cc)
pair_where_polled device false (Ready known) is together = (together, refl)

pub pair_together : (device : DeviceState) (clearing : Bool) (phase : HostPhase) → IsPair device clearing phase
    → AreConsistentEnds device clearing phase
pair_together device clearing Cold pair = absurd pair
pair_together device clearing (Described info) pair = absurd pair
pair_together device clearing (Parsed info layout) pair = absurd pair
pair_together device clearing (Ready known) pair = pair

-- ---- tries of a transfer

-- a request that gives more ends no round
uncut_request : (request : Request) → TakesMemory request → request_aborts_round request ≡ false
uncut_request requests.Halt takes = absurd takes
uncut_request requests.Clear takes = absurd takes
uncut_request _ takes = refl

-- so the two try as their member
pub transfers_so : (fate : Fate) (m : Member) (o : Option Transfer) (result : Result Progress StackFault) (new : Member) → TriesOnPair fate m o result new → TriesTransfer fate m o result new
transfers_so fate m None result new tries = tries
transfers_so fate m (Some t) (Ok progress) new tries = tries
transfers_so fate m (Some t) (Err fault) new (is, more, to) = (
  is,
  inl more,
  to
      ∙ sym (ap (λ (b : Bool). if b then m else member_after_try_in fate m t m.host)
      (uncut_request t.request more.1)),
)

-- where one is refused it ends no round
pub uncut_err : (fate : Fate) (m : Member) (o : Option Transfer) (result : Result Progress StackFault) (new : Member)
    → TriesOnPair fate m o result new → OnErr result (may_abort_round o ≡ false)
uncut_err fate m o (Ok progress) new tries = tt
uncut_err fate m None (Err fault) new tries = refl
uncut_err fate m (Some t) (Err fault) new (is, more, to) = uncut_request t.request more.1

-- a try that is refused delivers nothing
pub err_nothing : (o : Option Transfer) (result : Result Progress StackFault) (dev : ℕ) (events : List Event)
    (before now : List Delivered) → OnErr result (may_abort_round o ≡ false)
    → (may_abort_round o ≡ false → length events ≡ 0)
    → now ≡ before ++ map (with_device_number dev) events → OnErr result (now ≡ before)
err_nothing o (Ok progress) dev events before now uncut none is = tt
err_nothing o (Err fault) dev events before now uncut none is =
    is ∙ ap (λ (es : List Event). before ++ map (with_device_number dev) es) (nil_from_length events (none uncut))
    ∙ append-nil before

-- with room for what it may drop, memory runs out only where its request gives more
pub never_wanting : (fate : Fate) (m : Member) (o : Option Transfer) (result : Result Progress StackFault) (new : Member) (used capacity : ℕ) → TriesOnPair fate m o result new → HasRoomToTry fate m o used capacity
    → result ≡ Err faults.Memory → ⊥
never_wanting fate m None result new used capacity tries room wants = let is = tries.0 in absurd (cc)
never_wanting fate m (Some t) (Ok progress) new used capacity tries room wants = absurd (cc)
never_wanting fate m (Some t) (Err fault) new used capacity (is, more, to) room wants = room.1 more

-- one more event is handed on
pub handed_more : (dev : ℕ) (events : List Event) (i : ℕ) (d : Event) (out before now : List Delivered)
    → i < length events → before ≡ out ++ map (with_device_number dev) (take i events)
    → now ≡ before ++ with_device_number dev (get_or events i d) ∷ []
    → now ≡ out ++ map (with_device_number dev) (take (i + 1) events)
handed_more dev events i d out before now within copied pushed =
    let one = with_device_number dev (get_or events i d) ∷ [] in
    let more : map (with_device_number dev) (take (i + 1) events) ≡ map (with_device_number dev) (take i events)
    ++ one = ap (map (with_device_number dev)) (take_more events i d within)
    ∙ map-append (with_device_number dev) (take i events) (get_or events i d ∷ []) in
    pushed ∙ ap (λ (ds : List Delivered). ds ++ one) copied
    ∙ append_assoc out (map (with_device_number dev) (take i events)) one
    ∙ ap (λ (ds : List Delivered). out ++ ds) (sym more)
