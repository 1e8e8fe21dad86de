-- A try of a transfer at the two ends is a try of their member, and the toggle that its host expects after it (USB
-- 2.0, 8.5.3 and 9.1.1).
use Rattle.std.proofs.Common.{◌≡◌, ◌∙◌, ℕ, Bool, true, false, cond, not, List, Option, Some, None, Result, Ok, Err, inl, inr, refl, ap, sym, subst}
use Rattle.std.specs.Prelude.{◌||◌, IfSome}
use Rattle.hid_layout.specs.Controls.{Item, items_of}
use Rattle.hid_layout.specs.Layout.{Contents}
use Rattle.usb_transact.specs.declared.transaction.Fate.{Fate}
use Rattle.usb_transact.specs.declared.transaction.Fate.TheVariants.{Clean, TokenLost, ReplyLost, AckLost}
use Rattle.usb_control.specs.declared.fault.ControlFault.TheVariants.{NoTransfer}
use Rattle.usb_control.specs.declared.host.HostStage.{HostStage}
use Rattle.usb_control.specs.declared.host.HostStage.TheVariants as stages
use Rattle.usb_control.specs.declared.host.Progress.{Progress}
use Rattle.usb_control.specs.TryFunctions.{AppliesBy, PreparesBy, control_tried, effect_reached}
use Rattle.usb_control.specs.Device.{Answers, Applies, Decides, DevControlState, Effect}
use Rattle.usb_control.specs.Host.{HostTransferState, IsRunning, progress_of}
use Rattle.hid_requests.specs.declared.request.Request.{Request}
use Rattle.hid_requests.specs.declared.request.Request.TheVariants as requests
use Rattle.hid_bus.specs.LinkState.{LinkState, expected_toggle}
use Rattle.hid_bus.specs.DeviceHistory.{BusEvent, Own, Idles, Configures}
use Rattle.hid_bus.specs.DeviceHistory as bus
use Rattle.hid_device.specs.declared.decisions.PendingWrite.{PendingWrite}
use Rattle.hid_device.specs.declared.decisions.PendingWrite.TheVariants as pendings
use Rattle.hid_device.specs.Core.{CoreState, IsSound}
use Rattle.hid_device.specs.RequestTable.{core_after_write, core_table}
use Rattle.hid_device.specs.Device.{DeviceState, core_of}
use Rattle.hid_host.specs.declared.fault.StackFault.{StackFault}
use Rattle.hid_host.specs.declared.fault.StackFault.TheVariants.{Control, Memory}
use Rattle.hid_host.specs.declared.host.Transfer.{Transfer}
use Rattle.hid_host.specs.declared.phase.HostPhase.{HostPhase}
use Rattle.hid_host.specs.declared.phase.HostPhase.TheVariants.{Cold, Described, Parsed, Ready}
use Rattle.hid_host.specs.declared.phase.HostState.{HostState}
use Rattle.hid_host.specs.declared.phase.HostState.TheVariants as states
use Rattle.hid_stack.specs.ControlSteps.{StepsAsFunction, TakesMemory, core_after_effect, core_after_try, host_after_try, phase_after, phase_after_try, transfer_after_try, try_aborts_round, try_configures, with_answer_of}
use Rattle.hid_host.specs.Host.{ControlSteps, HostDeviceState, TriesOnce, clearing_after, is_clear, request_aborts_round, running, running_at}
use Rattle.hid_stack.specs.HostInvariant.{IsConsistent, IsConsistentAt, IsNoRefusal, IsPending}
use Rattle.hid_host.specs.Phase.{may_begin, state_of}
use Rattle.hid_host.specs.Ready.{ReadyHostState}
use Rattle.hid_device.specs.declared.config.Config.{Config}
use Rattle.hid_stack.specs.Members.{Endpoint, Member, control_of_member, effect_bus_event, endpoint_of, expected_toggle_after_try, expected_toggle_of, host_state_after_try, member_after_try_in, member_held_toggle, member_transfer_after, state_after_event_if, toggle_if_held, try_bus_event, try_bus_event_of, write_bus_event}
use Rattle.hid_stack.specs.Slot.{AreConsistentEnds, ArePaired, TogglesAgree, TogglesAgreeUnless, TriesOnPair, held_toggle, link_of, link_of_pair, pair_member, round_between}
use Rattle.hid_stack.specs.Sums.{AbortsByRequest, AbortsNone, IsBetween}
use Rattle.hid_stack.proofs.TransferLemmas.{Leaves, NoRounds, brought_at_link, brought_clears, brought_configures, brought_cuts, goes_together_at, leaves_by, same_try, state_brought_at, still_together, takes_no_clear, unready_none}

-- ---- the toggle that a host expects

one_toggle : (items : List Item) (t e : Bool) (current : Option ℕ) (piece : ℕ) → TogglesAgree t e current
    → (elim (round_between items t e current piece) as (λ _. Bool) [ None ↦ t | Some round ↦ cond round.crossed (not t) t ]) ≡ e
one_toggle items t e None piece even = even
one_toggle items true true (Some r) piece even = refl
one_toggle items true false (Some r) piece even = refl
one_toggle items false true (Some r) piece even = refl
one_toggle items false false (Some r) piece even = refl

expects_if : (b : Bool) (core : CoreState) (known : ReadyHostState)
    → TogglesAgreeUnless b core.toggle known.pipe.expects core.current
    → (elim (toggle_if_held b known.pipe.expects) as
    (λ _. Bool) [ Some expects ↦ expects | None ↦ expected_toggle (link_of_pair core known) ]) ≡ known.pipe.expects
expects_if true core known even = refl
expects_if false core known even = one_toggle (items_of core.layout) core.toggle known.pipe.expects core.current core.piece even

-- of a member that is a device and its ready host
pub expects_so : (device : DeviceState) (addr : ℕ) (transfer : Option Transfer) (clearing : Bool)
    (known : ReadyHostState) → ArePaired device known clearing
    → expected_toggle_of
    (pair_member device (record { addr = addr; phase = Ready known; transfer = transfer; clearing = clearing }))
    ≡ known.pipe.expects
expects_so device addr transfer clearing known pair = expects_if ((core_of device).halted || clearing) (core_of device) known pair.even

-- what is held is that
pub halts_so : (core : CoreState) (phase : HostPhase) → (link_of core phase).halted ≡ core.halted
halts_so core Cold = refl
halts_so core (Described info) = refl
halts_so core (Parsed info layout) = refl
halts_so core (Ready known) = refl

-- with the host where it was
abbrev pub host_by : ℕ → Option Transfer → Bool → HostPhase → HostDeviceState
host_by addr transfer clearing phase = record { addr = addr; phase = phase; transfer = transfer; clearing = clearing }

pub holds_still : (device : DeviceState) (core : CoreState) (addr : ℕ) (transfer : Option Transfer)
    (before now : Bool) (phase : HostPhase) → AreConsistentEnds device before phase
    → held_toggle core now phase
    ≡ member_held_toggle (state_of phase) (core.halted || now)
    (expected_toggle_of (pair_member device (host_by addr transfer before phase)))
holds_still device core addr transfer before now Cold together = refl
holds_still device core addr transfer before now (Described info) together = refl
holds_still device core addr transfer before now (Parsed info layout) together = refl
holds_still device core addr transfer before now (Ready known) together =
    ap (toggle_if_held (core.halted || now)) (sym (expects_so device addr transfer before known together))

-- the host where it went on after a request
holds_on : (request : Request) (device : DeviceState) (core : CoreState) (home addr : ℕ) (transfer : Option Transfer)
    (before now : Bool) (phase : HostPhase) → may_begin request (state_of phase) ≡ true
    → AreConsistentEnds device before phase
    → held_toggle core now (phase_after request home core phase)
    ≡ member_held_toggle (state_of (phase_after request home core phase)) (core.halted || now)
    (expected_toggle_after_try stages.Done request
    (expected_toggle_of (pair_member device (host_by addr transfer before phase))))
holds_on requests.Device device core home addr transfer before now phase needs together = holds_still device core addr transfer before now phase together
holds_on requests.Status device core home addr transfer before now phase needs together = holds_still device core addr transfer before now phase together
holds_on requests.GetConfiguration device core home addr transfer before now phase needs together = holds_still device core addr transfer before now phase together
holds_on (requests.Idle id time) device core home addr transfer before now phase needs together = holds_still device core addr transfer before now phase together
holds_on (requests.GetIdle id) device core home addr transfer before now phase needs together = holds_still device core addr transfer before now phase together
holds_on (requests.Protocol boot) device core home addr transfer before now phase needs together = holds_still device core addr transfer before now phase together
holds_on requests.GetProtocol device core home addr transfer before now phase needs together = holds_still device core addr transfer before now phase together
holds_on (requests.GetReport kind id) device core home addr transfer before now phase needs together = holds_still device core addr transfer before now phase together
holds_on (requests.SetReport kind id set) device core home addr transfer before now phase needs together = holds_still device core addr transfer before now phase together
holds_on requests.Halt device core home addr transfer before now phase needs together = holds_still device core addr transfer before now phase together
holds_on requests.EndpointStatus device core home addr transfer before now phase needs together = holds_still device core addr transfer before now phase together
holds_on requests.Config device core home addr transfer before now phase needs together = refl
holds_on requests.Report device core home addr transfer before now phase needs together = refl
holds_on requests.Configure device core home addr transfer before now phase needs together = refl
holds_on requests.Clear device core home addr transfer before now Cold needs together = refl
holds_on requests.Clear device core home addr transfer before now (Described info) needs together = refl
holds_on requests.Clear device core home addr transfer before now (Parsed info layout) needs together = refl
holds_on requests.Clear device core home addr transfer before now (Ready known) needs together = refl

holds_at : (stage : HostStage) (request : Request) (device : DeviceState) (core : CoreState) (home addr : ℕ)
    (transfer : Option Transfer) (before now : Bool) (phase : HostPhase) → may_begin request (state_of phase) ≡ true
    → AreConsistentEnds device before phase
    → held_toggle core now (phase_after_try stage request home core phase)
    ≡ member_held_toggle (state_of (phase_after_try stage request home core phase)) (core.halted || now)
    (expected_toggle_after_try stage request
    (expected_toggle_of (pair_member device (host_by addr transfer before phase))))
holds_at stages.Done request device core home addr transfer before now phase needs together = holds_on request device core home addr transfer before now phase needs together
holds_at stages.Setup request device core home addr transfer before now phase needs together = holds_still device core addr transfer before now phase together
holds_at (stages.DataIn one) request device core home addr transfer before now phase needs together = holds_still device core addr transfer before now phase together
holds_at (stages.DataOut sent one) request device core home addr transfer before now phase needs together = holds_still device core addr transfer before now phase together
holds_at stages.StatusIn request device core home addr transfer before now phase needs together = holds_still device core addr transfer before now phase together
holds_at stages.StatusOut request device core home addr transfer before now phase needs together = holds_still device core addr transfer before now phase together
holds_at (stages.Failed fault) request device core home addr transfer before now phase needs together = holds_still device core addr transfer before now phase together

-- where memory ran out for a layout or a view, the host isn't ready
holds_none : (request : Request) (device : DeviceState) (core : CoreState) (addr : ℕ) (transfer : Option Transfer) (before now : Bool) (expects : Bool) (phase : HostPhase) → may_begin request (state_of phase) ≡ true → TakesMemory request
    → held_toggle core now phase ≡ member_held_toggle (state_of phase) (core.halted || now) expects
holds_none request device core addr transfer before now expects Cold needs takes = refl
holds_none request device core addr transfer before now expects (Described info) needs takes = refl
holds_none request device core addr transfer before now expects (Parsed info layout) needs takes = refl
holds_none request device core addr transfer before now expects (Ready known) needs takes = absurd (not_ready request needs takes)
  where
    not_ready : (q : Request) → may_begin q states.Ready ≡ true → TakesMemory q → ⊥
    not_ready requests.Report n k = cc
    not_ready requests.Configure n k = cc
    not_ready requests.Device n k = k
    not_ready requests.Config n k = k
    not_ready requests.Status n k = k
    not_ready requests.GetConfiguration n k = k
    not_ready (requests.Idle id time) n k = k
    not_ready (requests.GetIdle id) n k = k
    not_ready (requests.Protocol boot) n k = k
    not_ready requests.GetProtocol n k = k
    not_ready (requests.GetReport kind id) n k = k
    not_ready (requests.SetReport kind id set) n k = k
    not_ready requests.Halt n k = k
    not_ready requests.Clear n k = k
    not_ready requests.EndpointStatus n k = k

-- ---- a try

pub sound_of : (device : DeviceState) (clearing : Bool) (phase : HostPhase) → AreConsistentEnds device clearing phase
    → IsSound (core_of device)
sound_of device clearing Cold together = together.sound
sound_of device clearing (Described info) together = together.sound
sound_of device clearing (Parsed info layout) together = together.sound
sound_of device clearing (Ready known) together = together.sound

-- a member by its parts
abbrev of_parts : Transfer → ℕ → Config → List ℕ → Contents → LinkState → Endpoint → HostState → HostTransferState
    → Bool → Option Bool → Member
of_parts t addr config descriptor layout s e host ends clearing held = record {
  addr = addr;
  config = config;
  descriptor = descriptor;
  layout = layout;
  link = s;
  endpoint = e;
  host = host;
  transfer = Some (record t { ends = ends });
  clearing = clearing;
  held = held;
}

record SameParts (m : Member) (t : Transfer) (addr : ℕ) (config : Config) (descriptor : List ℕ) (layout : Contents)
    (s s' : LinkState) (e e' : Endpoint) (h h' : HostState) (ends ends' : HostTransferState) (c c' : Bool)
    (held held' : Option Bool) : Type 0 where
  home : addr ≡ m.addr
  config_is : config ≡ m.config
  descriptor_is : descriptor ≡ m.descriptor
  layout_is : layout ≡ m.layout
  link : s ≡ s'
  endpoint : e ≡ e'
  host : h ≡ h'
  ends_are : ends ≡ ends'
  clearing : c ≡ c'
  holds : held ≡ held'

parts_same : (m : Member) (t : Transfer) (addr : ℕ) (config : Config) (descriptor : List ℕ) (layout : Contents)
    (s s' : LinkState) (e e' : Endpoint) (h h' : HostState) (ends ends' : HostTransferState) (c c' : Bool)
    (held held' : Option Bool)
    → SameParts m t addr config descriptor layout s s' e e' h h' ends ends' c c' held held' → of_parts t addr config descriptor layout s e h ends c held ≡ of_parts t m.addr m.config m.descriptor m.layout s' e' h' ends' c' held'
parts_same m t addr config descriptor layout s s' e e' h h' ends ends' c c' held held' p =
    ap (λ (x : ℕ). of_parts t x config descriptor layout s e h ends c held) p.home
    ∙ ap (λ (x : Config). of_parts t m.addr x descriptor layout s e h ends c held) p.config_is
    ∙ ap (λ (x : List ℕ). of_parts t m.addr m.config x layout s e h ends c held) p.descriptor_is
    ∙ ap (λ (x : Contents). of_parts t m.addr m.config m.descriptor x s e h ends c held) p.layout_is
    ∙ ap (λ (x : LinkState). of_parts t m.addr m.config m.descriptor m.layout x e h ends c held) p.link
    ∙ ap (λ (x : Endpoint). of_parts t m.addr m.config m.descriptor m.layout s' x h ends c held) p.endpoint
    ∙ ap (λ (x : HostState). of_parts t m.addr m.config m.descriptor m.layout s' e' x ends c held) p.host
    ∙ ap (λ (x : HostTransferState). of_parts t m.addr m.config m.descriptor m.layout s' e' h' x c held) p.ends_are
    ∙ ap (λ (x : Bool). of_parts t m.addr m.config m.descriptor m.layout s' e' h' ends' x held) p.clearing
    ∙ ap (λ (x : Option Bool). of_parts t m.addr m.config m.descriptor m.layout s' e' h' ends' c' x) p.holds

-- the member after a try, where the host's phase leaves the link state
joint_tried : (fate : Fate) (device device_then : DeviceState) (host : HostDeviceState) (t : Transfer)
    (phase : HostPhase) (next : HostState) → IsSound (core_of device)
    → device_then.control ≡ control_tried core_table fate t.ends device.control
    → Leaves (core_of device) (core_of device_then) (try_bus_event_of fate t.ends device.control)
    → (try_bus_event_of fate t.ends device.control ≡ Some Configures → state_of host.phase ≡ states.Parsed)
    → device_then.addr ≡ device.addr
    → link_of (core_of device_then) phase ≡ link_of (core_of device_then) host.phase → state_of phase ≡ next
    → (let stage = (transfer_after_try fate t device.control).stage in let now =
    clearing_after stage t.request host.clearing in
    held_toggle (core_of device_then) now phase
    ≡ member_held_toggle (state_of phase) ((core_of device_then).halted || now)
    (expected_toggle_after_try stage t.request (expected_toggle_of (pair_member device host))))
    → pair_member device_then (host_after_try fate host t device.control phase)
    ≡ member_after_try_in fate (pair_member device host) t next
joint_tried fate device device_then host t phase next sound control_is l parsed home stays state holds =
    let m = pair_member device host in
    let same = same_try fate device host t sound in
    let core = core_of device_then in
    let s' = state_after_event_if (items_of m.layout) m.link (try_bus_event_of fate t.ends (control_of_member m)) in
    let link : link_of core phase ≡ s' =
    stays ∙ l.link host.phase parsed
    ∙ ap (λ (x : Option BusEvent). state_after_event_if (items_of m.layout) m.link x) same.bus_event in
    let halts : core.halted ≡ s'.halted = sym (halts_so core phase) ∙ ap (λ (s : LinkState). s.halted) link in
    let now : HostTransferState → Bool = λ ends. clearing_after ends.stage t.request host.clearing in
    let expects : HostTransferState → Bool =
    λ ends. expected_toggle_after_try ends.stage t.request (expected_toggle_of m) in
    parts_same m t device_then.addr core.config core.descriptor core.layout
    (link_of core phase) s'
    (endpoint_of device_then.control) (endpoint_of (control_tried core_table fate t.ends (control_of_member m)))
    (state_of phase) next (transfer_after_try fate t device.control) (member_transfer_after fate m t)
    (now (transfer_after_try fate t device.control)) (now (member_transfer_after fate m t))
    (held_toggle core (now (transfer_after_try fate t device.control)) phase)
    (member_held_toggle next (s'.halted || now (member_transfer_after fate m t))
    (expects (member_transfer_after fate m t))) (record {
      home = home;
      config_is = l.config;
      descriptor_is = l.descriptor;
      layout_is = l.layout;
      link = link;
      endpoint = ap endpoint_of control_is ∙ same.endpoint;
      host = state;
      ends_are = same.ends;
      clearing = ap now same.ends;
      holds = holds
          ∙ ap (λ (h : HostState). member_held_toggle h
          (core.halted || now (transfer_after_try fate t device.control))
          (expects (transfer_after_try fate t device.control))) state
          ∙ ap (λ (b : Bool). member_held_toggle next (b || now (transfer_after_try fate t device.control))
          (expects (transfer_after_try fate t device.control))) halts
          ∙ ap (λ (e : HostTransferState). member_held_toggle next (s'.halted || now e) (expects e)) same.ends;
    })

-- the one request that ends a halt
pub clear_is : (request : Request) → is_clear request ≡ true → request ≡ requests.Clear
clear_is requests.Clear is = refl
clear_is requests.Device is = absurd (cc)
clear_is requests.Config is = absurd (cc)
clear_is requests.Report is = absurd (cc)
clear_is requests.Configure is = absurd (cc)
clear_is requests.Status is = absurd (cc)
clear_is requests.GetConfiguration is = absurd (cc)
clear_is (requests.Idle id time) is = absurd (cc)
clear_is (requests.GetIdle id) is = absurd (cc)
clear_is (requests.Protocol boot) is = absurd (cc)
clear_is requests.GetProtocol is = absurd (cc)
clear_is (requests.GetReport kind id) is = absurd (cc)
clear_is (requests.SetReport kind id set) is = absurd (cc)
clear_is requests.Halt is = absurd (cc)
clear_is requests.EndpointStatus is = absurd (cc)

-- what holds after a try
record Tried (fate : Fate) (device device_then : DeviceState) (host host_then : HostDeviceState) (t : Transfer)
    (result : Result Progress StackFault) : Type 0 where
  tries : TriesOnPair fate (pair_member device host) (Some t) result (pair_member device_then host_then)
  together : AreConsistentEnds device_then host_then.clearing host_then.phase

-- what a try needs of its host: a clear that takes effect is pending
abbrev Pends : Fate → DeviceState → HostDeviceState → Transfer → Type 0
Pends fate device host t = try_bus_event_of fate t.ends device.control ≡ Some bus.Clears → host.clearing ≡ true

goes_on : (fate : Fate) (device device_then : DeviceState) (host host_then : HostDeviceState) (t : Transfer)
    (progress : Progress) → StepsAsFunction fate host t device.control (Ok progress) host_then device_then.control
    → progress ≡ progress_of (transfer_after_try fate t device.control).stage
    → host_then
    ≡ host_after_try fate host t device.control
    (phase_after_try (transfer_after_try fate t device.control).stage t.request host.addr
    (core_of device_then) host.phase)
    → Pends fate device host t → IsConsistent host_then device_then.control
    → AreConsistentEnds device host.clearing host.phase → host.addr ≡ device.addr → device_then.addr ≡ device.addr
    → IsSound (core_of device_then)
    → Tried fate device device_then host host_then t (Ok progress)
goes_on fate device device_then host host_then t progress c told moved pends knows together home stays sound =
    let core = core_of device_then in
    let stage = (transfer_after_try fate t device.control).stage in
    let now = clearing_after stage t.request host.clearing in
    let phase = phase_after_try stage t.request host.addr core host.phase in
    let before = sound_of device host.clearing host.phase together in
    let same = same_try fate device host t before in
    let stage_is : stage ≡ (member_transfer_after fate (pair_member device host) t).stage =
    ap (λ (e : HostTransferState). e.stage) same.ends in
    let l = leaves_by fate t.ends device.control core c.brings in
    let parsed : try_bus_event_of fate t.ends device.control ≡ Some Configures → state_of host.phase ≡ states.Parsed =
    λ is. c.parsed (brought_configures fate t.ends device.control is) in
    let none : state_of host.phase ≡ states.Parsed → NoRounds core = λ is. l.none (unready_none device host.clearing host.phase together is) in
    let known : IsConsistentAt phase device_then.addr core =
    subst (λ (a : ℕ). IsConsistentAt phase a core) (home ∙ sym stays)
    (subst (λ (h : HostDeviceState). IsConsistentAt h.phase h.addr core) moved knows.by.phase) in
    let here =
    still_together device device_then host.clearing host.phase
    (try_bus_event_of fate t.ends device.control) parsed pends l stays sound together in
    record {
      tries = (
        told ∙ ap progress_of stage_is,
        ap (pair_member device_then) moved
            ∙ joint_tried fate device device_then host t phase
            (host_state_after_try stage t.request (state_of host.phase)) before c.device_then l parsed stays
            (brought_at_link stage t.request host.addr core host.phase c.needs (λ is. (none is).no_round)
            (λ is done. (c.cleared (clear_is t.request is) done).current))
            (state_brought_at stage t.request host.addr core host.phase)
            (holds_at stage t.request device core host.addr host.addr host.transfer host.clearing now host.phase c.needs together)
            ∙ ap (λ (x : HostStage). member_after_try_in fate (pair_member device host) t
            (host_state_after_try x t.request (state_of host.phase))) stage_is,
      );
      together =
          subst (λ (h : HostDeviceState). AreConsistentEnds device_then h.clearing h.phase) (sym moved)
          (goes_together_at stage t.request host.addr device_then host.clearing host.phase c.needs sound none
          (λ is. c.cleared (clear_is t.request is)) known here);
    }

finds_none : (fate : Fate) (device device_then : DeviceState) (host host_then : HostDeviceState) (t : Transfer)
    (fault : StackFault) → StepsAsFunction fate host t device.control (Err fault) host_then device_then.control
    → fault ≡ Memory → (transfer_after_try fate t device.control).stage ≡ stages.Done → TakesMemory t.request
    → host_then ≡ host_after_try fate host t device.control host.phase
    → Pends fate device host t → AreConsistentEnds device host.clearing host.phase → device_then.addr ≡ device.addr
    → IsSound (core_of device_then) → Tried fate device device_then host host_then t (Err fault)
finds_none fate device device_then host host_then t fault c memory done takes moved pends together stays sound =
    let before = sound_of device host.clearing host.phase together in
    let same = same_try fate device host t before in
    let core = core_of device_then in
    let stage = (transfer_after_try fate t device.control).stage in
    let now = clearing_after stage t.request host.clearing in
    let l = leaves_by fate t.ends device.control (core_of device_then) c.brings in
    let parsed : try_bus_event_of fate t.ends device.control ≡ Some Configures → state_of host.phase ≡ states.Parsed =
    λ is. c.parsed (brought_configures fate t.ends device.control is) in
    let no_clear : now ≡ host.clearing =
    ap (λ (x : HostStage). clearing_after x t.request host.clearing) done
    ∙ takes_no_clear t.request host.clearing takes in
    record {
      tries = (
        memory,
        (sym (ap (λ (e : HostTransferState). e.stage) same.ends) ∙ done, takes),
        ap (pair_member device_then) moved
            ∙ joint_tried fate device device_then host t host.phase (state_of host.phase) before c.device_then l parsed stays refl refl
            (holds_none t.request device core host.addr host.transfer host.clearing now
            (expected_toggle_after_try stage t.request
            (expected_toggle_of (pair_member device host))) host.phase c.needs takes),
      );
      together = subst (λ (h : HostDeviceState). AreConsistentEnds device_then h.clearing h.phase) (sym moved)
          (subst (λ (b : Bool). AreConsistentEnds device_then b host.phase) (sym no_clear)
          (still_together device device_then host.clearing host.phase
          (try_bus_event_of fate t.ends device.control) parsed pends l stays sound together));
    }

tried_by : (fate : Fate) (device device_then : DeviceState) (host host_then : HostDeviceState) (t : Transfer)
    (result : Result Progress StackFault)
    → StepsAsFunction fate host t device.control result host_then device_then.control
    → Pends fate device host t → IsConsistent host_then device_then.control
    → AreConsistentEnds device host.clearing host.phase → host.addr ≡ device.addr → device_then.addr ≡ device.addr
    → IsSound (core_of device_then)
    → Tried fate device device_then host host_then t result
tried_by fate device device_then host host_then t (Ok progress) c pends knows together home stays sound = elim c.host_then [
  | inl (told, moved) ↦ goes_on fate device device_then host host_then t progress c (cc) moved pends knows together home stays sound
  | inr rest ↦ let wrong = rest.0 in absurd (cc)
]
tried_by fate device device_then host host_then t (Err fault) c pends knows together home stays sound = elim c.host_then [
  | inl rest ↦ let wrong = rest.0 in absurd (cc)
  | inr (told, done, takes, moved) ↦ finds_none fate device device_then host host_then t fault c (cc) done takes moved pends together stays sound
]

-- a configuration takes effect where no round is open
unready_current : (device : DeviceState) (clearing : Bool) (phase : HostPhase)
    → AreConsistentEnds device clearing phase
    → state_of phase ≡ states.Parsed → (link_of (core_of device) phase).current ≡ None
unready_current device clearing Cold together is = absurd (cc)
unready_current device clearing (Described info) together is = absurd (cc)
unready_current device clearing (Parsed info layout) together is =
    ap (λ (o : Option ℕ). round_between (items_of (core_of device).layout) (core_of device).toggle (core_of device).toggle o (core_of device).piece) together.no_round
unready_current device clearing (Ready known) together is = absurd (cc)

bus_event_between : (s : LinkState) (bus_event : Option BusEvent) → (bus_event ≡ Some Configures → s.current ≡ None)
    → IsBetween s bus_event
bus_event_between s None none = tt
bus_event_between s (Some (Own x)) none = tt
bus_event_between s (Some (Idles idle)) none = tt
bus_event_between s (Some bus.Halts) none = tt
bus_event_between s (Some bus.Clears) none = tt
bus_event_between s (Some bus.Resets) none = tt
bus_event_between s (Some Configures) none = none refl

between_rounds : (fate : Fate) (device : DeviceState) (host : HostDeviceState) (t : Transfer)
    → (try_configures fate t.ends device.control ≡ true → state_of host.phase ≡ states.Parsed)
    → AreConsistentEnds device host.clearing host.phase
    → IsBetween (pair_member device host).link
    (try_bus_event_of fate t.ends (control_of_member (pair_member device host)))
between_rounds fate device host t parsed together =
    bus_event_between (pair_member device host).link
    (try_bus_event_of fate t.ends (control_of_member (pair_member device host)))
    (λ is. unready_current device host.clearing host.phase together
    (parsed (brought_configures fate t.ends device.control
    ((same_try fate device host t (sound_of device host.clearing host.phase together)).bus_event ∙ is))))

-- ---- the open round after a try

-- it stays, unless a configuration, a halt or the end of one takes effect, and then none is open
abbrev pub IsOpenBehind : Option ℕ → Option BusEvent → Option ℕ → Type 0
IsOpenBehind before None now = now ≡ before
IsOpenBehind before (Some (Own x)) now = Unit {0}
IsOpenBehind before (Some (Idles idle)) now = now ≡ before
IsOpenBehind before (Some Configures) now = now ≡ None
IsOpenBehind before (Some bus.Halts) now = now ≡ None
IsOpenBehind before (Some bus.Clears) now = now ≡ None
IsOpenBehind before (Some bus.Resets) now = Unit {0}

written_opens : (core other : CoreState) (bytes : List ℕ) (pending : PendingWrite)
    → IsOpenBehind core.current (write_bus_event core pending)
    (with_answer_of (core_after_write core bytes pending) other).current
written_opens core other bytes pendings.Nothing = refl
written_opens core other bytes pendings.Configure = refl
written_opens core other bytes (pendings.Keep i) = refl
written_opens core other bytes (pendings.Idle report time) = refl
written_opens core other bytes (pendings.Protocol protocol) = refl
written_opens core other bytes pendings.Halt = refl
written_opens core other bytes pendings.Clear = refl

effect_opens : (effect : Effect) (core other : CoreState)
    → IsOpenBehind core.current (effect_bus_event effect core)
    (with_answer_of (core_after_effect effect core) other).current
effect_opens (Answers answer stage last_packet) core other = refl
effect_opens (Decides bytes) core other = refl
effect_opens (Applies bytes) core other = written_opens core other bytes core.pending

brought_opens : (fate : Fate) (ends : HostTransferState) (control : DevControlState CoreState) (other : CoreState)
    → IsOpenBehind control.requests.current (try_bus_event_of fate ends control)
    (with_answer_of (core_after_try fate ends control) other).current
brought_opens TokenLost ends control other = refl
brought_opens Clean ends control other = effect_opens (effect_reached core_table ends control) control.requests other
brought_opens ReplyLost ends control other = effect_opens (effect_reached core_table ends control) control.requests other
brought_opens AckLost ends control other = effect_opens (effect_reached core_table ends control) control.requests other

opens_behind : (fate : Fate) (ends : HostTransferState) (control : DevControlState CoreState) (then : CoreState)
    → then ≡ with_answer_of (core_after_try fate ends control) then
    → IsOpenBehind control.requests.current (try_bus_event_of fate ends control) then.current
opens_behind fate ends control then is =
    subst (λ (c : CoreState). IsOpenBehind control.requests.current (try_bus_event_of fate ends control) c.current)
    (sym is) (brought_opens fate ends control then)

-- ---- a control step

-- the device after a call of its endpoint 0
abbrev controlled : DeviceState → DevControlState CoreState → DeviceState
controlled device control = record { addr = device.addr; control = control; awaits_ack = false }

-- what holds after a control step
pub record Steps (fate : Fate) (device : DeviceState) (control : DevControlState CoreState)
    (host host_then : HostDeviceState) (o : Option Transfer) (result : Result Progress StackFault) : Type 0 where
  pub tries : TriesOnPair fate (pair_member device host) o result (pair_member (controlled device control) host_then)
  pub between : IsBetween (pair_member device host).link (try_bus_event fate (pair_member device host) o)
  pub aborts : AbortsByRequest fate (pair_member device host) o
  pub together : AreConsistentEnds (controlled device control) host_then.clearing host_then.phase
  pub home : host_then.addr ≡ host.addr
  pub layout : control.requests.layout ≡ (core_of device).layout
  -- the open round after it, by what befell the device
  pub open_then : IsOpenBehind (core_of device).current
      (try_bus_event fate (pair_member device host) o) control.requests.current

-- laws of hosts that know their devices
abbrev ControlStep : Fate → HostDeviceState → DevControlState CoreState → Result Progress StackFault → HostDeviceState
    → DevControlState CoreState → Type 0
ControlStep fate host old result after new = ControlSteps (PreparesBy core_table) (AppliesBy core_table) core_table.answer_of fate host old result after new

abbrev StepsKnow : Type 0
StepsKnow =
    (fate : Fate) (host after : HostDeviceState) (old new : DevControlState CoreState)
    (result : Result Progress StackFault)
    → IsSound old.requests → IsConsistent host old
    → ControlStep fate host old result after new → IsConsistent after new × IsNoRefusal result

abbrev StepsCompute : Type 0
StepsCompute =
    (fate : Fate) (host after : HostDeviceState) (transfer : Transfer) (old new : DevControlState CoreState)
    (result : Result Progress StackFault) → IsSound old.requests → IsConsistent host old
    → running host.transfer ≡ Some transfer → ControlStep fate host old result after new
    → StepsAsFunction fate host transfer old result after new

waits_not : (device : DeviceState) (clearing : Bool) (phase : HostPhase) → AreConsistentEnds device clearing phase
    → AreConsistentEnds (controlled device device.control) clearing phase
waits_not device clearing Cold together = record { sound = together.sound; no_round = together.no_round; even = together.even }
waits_not device clearing (Described info) together = record { sound = together.sound; no_round = together.no_round; even = together.even }
waits_not device clearing (Parsed info layout) together = record { sound = together.sound; no_round = together.no_round; even = together.even }
waits_not device clearing (Ready known) pair = record {
  configured = pair.configured;
  layout = pair.layout;
  addr = pair.addr;
  endp = pair.endp;
  even = pair.even;
  got = pair.got;
  sound = pair.sound;
  laid = pair.laid;
  fits = pair.fits;
}

host_stays_at : (fate : Fate) (device : DeviceState) (control : DevControlState CoreState)
    (host host_then : HostDeviceState)
    (t : Transfer) (result : Result Progress StackFault)
    → StepsAsFunction fate host t device.control result host_then control → host_then.addr ≡ host.addr
host_stays_at fate device control host host_then t result c = elim c.host_then [
  | inl (told, moved) ↦ ap (λ (h : HostDeviceState). h.addr) moved
  | inr (told, done, takes, moved) ↦ ap (λ (h : HostDeviceState). h.addr) moved
]

-- a clear that runs is pending
pends_at : (host : HostDeviceState) (t : Transfer) (o : Option Transfer) → o ≡ host.transfer → running o ≡ Some t
    → IfSome o (IsPending host.clearing) → t.request ≡ requests.Clear → host.clearing ≡ true
pends_at host t None same runs pending is = absurd (cc)
pends_at host t (Some u) same runs pending is = by_stage u.ends.stage refl runs
  where
    by_stage : (stage : HostStage) → u.ends.stage ≡ stage → running_at u stage ≡ Some t → host.clearing ≡ true
    by_stage stages.Done e run = absurd (cc)
    by_stage (stages.Failed fault) e run = absurd (cc)
    by_stage stages.Setup e run = let one : u ≡ t = cc in pending (ap (λ (x : Transfer). x.request) one ∙ is) (subst IsRunning (sym e) refl)
    by_stage (stages.DataIn one) e run = let one : u ≡ t = cc in pending (ap (λ (x : Transfer). x.request) one ∙ is) (subst IsRunning (sym e) refl)
    by_stage (stages.DataOut sent one) e run = let one : u ≡ t = cc in pending (ap (λ (x : Transfer). x.request) one ∙ is) (subst IsRunning (sym e) refl)
    by_stage stages.StatusIn e run = let one : u ≡ t = cc in pending (ap (λ (x : Transfer). x.request) one ∙ is) (subst IsRunning (sym e) refl)
    by_stage stages.StatusOut e run = let one : u ≡ t = cc in pending (ap (λ (x : Transfer). x.request) one ∙ is) (subst IsRunning (sym e) refl)

-- a request that cuts no round cuts none
cuts_so : (cuts_it asks : Bool) → (cuts_it ≡ true → asks ≡ true) → asks ≡ false → cuts_it ≡ true → ⊥
cuts_so cuts_it asks only none is = let wrong : true ≡ false = sym (only is) ∙ none in absurd (cc)

steps_by : (fate : Fate) (device : DeviceState) (control : DevControlState CoreState)
    (host host_then : HostDeviceState) (o : Option Transfer) (result : Result Progress StackFault) → StepsKnow
    → StepsCompute → running host.transfer ≡ o
    → ControlStep fate host device.control result host_then control
    → AreConsistentEnds device host.clearing host.phase → IsConsistent host device.control → host.addr ≡ device.addr
    → IsSound control.requests → Steps fate device control host host_then o result
steps_by fate device control host host_then None result know compute is steps together knows home sound =
    let stays : (result ≡ Err (Control NoTransfer)) × (host_then ≡ host) × (control ≡ device.control)
    = subst (λ (x : Option Transfer). elim x as (λ _. Type 0) [
      | None ↦ (result ≡ Err (Control NoTransfer)) × (host_then ≡ host) × (control ≡ device.control)
      | Some t ↦ TriesOnce (PreparesBy core_table) (AppliesBy core_table) core_table.answer_of fate host t device.control result host_then control
    ]) is steps in
    record {
      tries = (
        stays.0,
        ap (pair_member (controlled device control)) stays.1
            ∙ ap (λ (x : DevControlState CoreState). pair_member (controlled device x) host) stays.2,
      );
      between = tt;
      aborts = tt;
      together =
          subst (λ (h : HostDeviceState). AreConsistentEnds (controlled device control) h.clearing h.phase)
          (sym stays.1)
          (subst (λ (x : DevControlState CoreState). AreConsistentEnds (controlled device x) host.clearing host.phase)
          (sym stays.2) (waits_not device host.clearing host.phase together));
      home = ap (λ (h : HostDeviceState). h.addr) stays.1;
      layout = ap (λ (x : DevControlState CoreState). x.requests.layout) stays.2;
      open_then = ap (λ (x : DevControlState CoreState). x.requests.current) stays.2;
    }
steps_by fate device control host host_then (Some t) result know compute is steps together knows home sound =
    let before = sound_of device host.clearing host.phase together in
    let c = compute fate host host_then t device.control control result before knows is steps in
    let k = know fate host host_then device.control control result before knows steps in
    let pends : Pends fate device host t = λ cleared. pends_at host t host.transfer refl is knows.by.clears (c.clears (brought_clears fate t.ends device.control cleared)) in
    let done = tried_by fate device (controlled device control) host host_then t result c pends k.0 together home refl sound in
    let same = same_try fate device host t before in
    record {
      tries = done.tries;
      between = between_rounds fate device host t c.parsed together;
      aborts = λ none. subst AbortsNone same.bus_event
          (brought_cuts fate t.ends device.control
          (cuts_so (try_aborts_round fate t.ends device.control) (request_aborts_round t.request) c.aborted none));
      together = done.together;
      home = host_stays_at fate device control host host_then t result c;
      layout = (leaves_by fate t.ends device.control control.requests c.brings).layout;
      open_then =
          subst (λ (x : Option BusEvent). IsOpenBehind
          (core_of device).current x control.requests.current) same.bus_event
          (opens_behind fate t.ends device.control control.requests c.brings);
    }

pub steps_so : (fate : Fate) (device : DeviceState) (old control : DevControlState CoreState)
    (host host_then : HostDeviceState) (result : Result Progress StackFault) → StepsKnow → StepsCompute
    → old ≡ device.control → ControlStep fate host old result host_then control
    → AreConsistentEnds device host.clearing host.phase → IsConsistent host device.control → host.addr ≡ device.addr
    → IsSound control.requests → Steps fate device control host host_then (running host.transfer) result
steps_so fate device old control host host_then result know compute same steps together knows home sound =
    steps_by fate device control host host_then (running host.transfer) result know compute refl
    (subst (λ (x : DevControlState CoreState). ControlStep fate host x result host_then control) same steps) together knows home sound

-- after a try the host knows its device
pub knows_so : (fate : Fate) (device : DeviceState) (old control : DevControlState CoreState)
    (host host_then : HostDeviceState) (result : Result Progress StackFault) → StepsKnow
    → old ≡ device.control → ControlStep fate host old result host_then control
    → AreConsistentEnds device host.clearing host.phase → IsConsistent host device.control
    → IsConsistent host_then control
knows_so fate device old control host host_then result know same steps together knows =
    (know fate host host_then device.control control result (sound_of device host.clearing host.phase together) knows (subst (λ (x : DevControlState CoreState). ControlStep fate host x result host_then control) same steps)).0
