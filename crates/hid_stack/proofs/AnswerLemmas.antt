-- A bus answers one thing: what a step tells, which control a usage names, and how a device is attached.
use Rattle.std.proofs.Common.{◌≡◌, ◌≢◌, ◌∙◌, ◌+◌, ◌++◌, ◌<◌, ◌≤◌, ℕ, zero, suc, Bool, true, false, List, [], ◌∷◌, length, Option, Some, None, Result, Ok, Err, refl, ap, sym, subst, inl, inr, ◌⊎◌, arith}
use Rattle.hid_layout.specs.declared.control.ControlId.{ControlId}
use Rattle.hid_report_descriptor.specs.declared.fault.Cause.{Cause}
use Rattle.hid_report_descriptor.specs.declared.usage.Usage.{Usage}
use Rattle.hid_layout.specs.Controls.{items_of}
use Rattle.hid_report_descriptor.specs.Faults.{is_memory}
use Rattle.hid_report_descriptor.specs.Bus.{Explains, Refuses, HasOneReading, AcceptsNoRefused, HasOneCause, HasOnePlace}
use Rattle.hid_layout.specs.Finding.{control_usage}
use Rattle.hid_layout.specs.Layout.{Contents, layout_of}
use Rattle.hid_snapshots.specs.declared.fault.ChangeFault.TheVariants as change
use Rattle.usb_transact.specs.declared.transaction.Fate.{Fate}
use Rattle.usb_transact.specs.declared.transaction.Fate.TheVariants.{Clean, TokenLost, ReplyLost, AckLost}
use Rattle.hid_snapshots.specs.Codes.{has_empty_codes}
use Rattle.hid_snapshots.specs.Parts.{has_zeros}
use Rattle.hid_device.specs.declared.config.Config.{Config}
use Rattle.hid_requests.specs.declared.fault.DeviceCause.{DeviceCause}
use Rattle.hid_requests.specs.declared.fault.DeviceCause.TheVariants as causes
use Rattle.hid_requests.specs.declared.fault.DeviceFault.{DeviceFault}
use Rattle.hid_device.specs.Creation.{ParsesTo}
use Rattle.hid_device.specs.Creation as making
use Rattle.hid_host.specs.declared.fault.StackFault.{StackFault}
use Rattle.hid_host.specs.declared.fault.StackFault.TheVariants.{NoDevice, NotReady, Refused, Control, BadDescriptor, Report, TooManyDevices, Memory}
use Rattle.hid_host.specs.declared.fault.DescriptorFault.TheVariants.{Info, ReportLength, Layout, Device}
use Rattle.hid_bus.specs.declared.step.Step.TheVariants.{Change, Frame, Poll, Begin, Control, Halt, Reset}
use Rattle.hid_bus.specs.declared.step.Told.{Told}
use Rattle.hid_stack.specs.Attaching.{CanAttach, is_out_of_memory, Attaches, IsBefore, IsLeast, Finds, member_at_start}
use Rattle.hid_stack.specs.Laws.{ResultIsUnique, FindsOneControl, AttachesOneDevice}
use Rattle.hid_bus.specs.declared.start.Start.{Start}
use Rattle.hid_stack.specs.Members.{Member}
use Rattle.hid_stack.specs.Rig.{member_at}
use Rattle.hid_host.specs.declared.host.Transfer.{Transfer}
use Rattle.hid_host.specs.Host.{running}
use Rattle.hid_bus.specs.LinkState.{LinkState}
use Rattle.hid_stack.specs.StepResult.{PollReturns, TryReturns}
use Rattle.hid_host.proofs.ReadyLemmas.{refused_unless}

-- ---- polls

one_poll : (layout : Contents) (s : LinkState) (fate : Fate) (told other : Told) → PollReturns layout s fate told
    → PollReturns layout s fate other → told ≡ other
one_poll layout s TokenLost told other h k = h ∙ sym k
one_poll layout s ReplyLost told other h k = h ∙ sym k
one_poll layout s Clean told other h k = h ∙ sym k
one_poll layout s AckLost told other h k = h ∙ sym k

-- a poll of the device that a number names, if it names one
abbrev PollTells : Option Member → Fate → Told → Type 0
PollTells found fate told = elim found [ None ↦ ⊥ | Some m ↦ PollReturns m.layout m.link fate told ]

one_of_found : (found : Option Member) (fate : Fate) (told other : Told) → PollTells found fate told → PollTells found fate other → told ≡ other
one_of_found None fate told other h k = absurd h
one_of_found (Some m) fate told other h k = one_poll m.layout m.link fate told other h k

try_of : (fate : Fate) (m : Member) (o : Option Transfer) (told other : Told) → TryReturns fate m o told
    → TryReturns fate m o other → told ≡ other
try_of fate m None told other h k = absurd h
try_of fate m (Some t) told other h k = h ∙ sym k

abbrev TryTells : Option Member → Fate → Told → Type 0
TryTells found fate told = elim found [ None ↦ ⊥ | Some m ↦ TryReturns fate m (running m.transfer) told ]

one_try : (found : Option Member) (fate : Fate) (told other : Told) → TryTells found fate told → TryTells found fate other → told ≡ other
one_try None fate told other h k = absurd h
one_try (Some m) fate told other h k = try_of fate m (running m.transfer) told other h k

pub tells_one : ResultIsUnique
tells_one members (Change dev change) told other h k = h ∙ sym k
tells_one members Frame told other h k = h ∙ sym k
tells_one members (Poll dev fate) told other h k = one_of_found (member_at members dev) fate told other h k
tells_one members (Begin dev request) told other h k = h ∙ sym k
tells_one members (Halt dev) told other h k = h ∙ sym k
tells_one members (Reset dev) told other h k = h ∙ sym k
tells_one members (Control dev fate) told other h k = one_try (member_at members dev) fate told other h k

-- ---- controls

compared : (a b : ℕ) → (a < b) ⊎ ((a ≡ b) ⊎ (b < a))
compared zero zero = inr (inl refl)
compared zero (suc b) = inl (omega arith)
compared (suc a) zero = inr (inr (omega arith))
compared (suc a) (suc b) = elim (compared a b) [
  | inl less ↦ inl (omega arith)
  | inr (inl same) ↦ inr (inl (ap suc same))
  | inr (inr more) ↦ inr (inr (omega arith))
]

-- of two places one is the first, or they are the same
places_compared : (c d : ControlId) → IsBefore c d ⊎ ((c ≡ d) ⊎ IsBefore d c)
places_compared c d = elim (compared c.item d.item) [
  | inl less ↦ inl (inl less)
  | inr (inr more) ↦ inr (inr (inl more))
  | inr (inl same) ↦ elim (compared c.index d.index) [
    | inl less ↦ inl (inr (same, less))
    | inr (inr more) ↦ inr (inr (inr (sym same, more)))
    | inr (inl even) ↦ inr (inl (ap (λ i. record c { item = i }) same ∙ ap (λ j. record d { index = j }) even))
  ]
]

one_least : (layout : Contents) (usage : Usage) (c d : ControlId) → IsLeast layout usage c → IsLeast layout usage d → c ≡ d
one_least layout usage c d h k = elim (places_compared c d) [
  | inl before ↦ absurd (k.none_before c before h.has_usage)
  | inr (inl same) ↦ same
  | inr (inr behind) ↦ absurd (h.none_before d behind k.has_usage)
]

same_member : (o : Option Member) (m n : Member) → o ≡ Some m → o ≡ Some n → m ≡ n
same_member o m n h k = let e : (let a : Option Member = Some m in a) ≡ Some n = sym h ∙ k in cc

-- what finding a control comes to: a least control, no device, or no control
data Found (members : List Member) (dev : ℕ) (usage : Usage) (r : Result ControlId StackFault) : Type 0 where
  Least : (c : ControlId) (m : Member) → r ≡ Ok c → member_at members dev ≡ Some m → IsLeast m.layout usage c → Found members dev usage r
  NoMember : r ≡ Err NoDevice → member_at members dev ≡ None → Found members dev usage r
  NoControl : (m : Member) → r ≡ Err (Refused change.NoSuchControl) → member_at members dev ≡ Some m
      → ((d : ControlId) → control_usage (items_of m.layout) d ≡ Some usage → ⊥) → Found members dev usage r

found : (members : List Member) (dev : ℕ) (usage : Usage) (r : Result ControlId StackFault) → Finds members dev usage r → Found members dev usage r
found members dev usage (Ok c) h = Least c h.0 refl h.1 h.2
found members dev usage (Err NoDevice) h = NoMember refl h
found members dev usage (Err (Refused change.NoSuchControl)) h = NoControl h.0 refl h.1 h.2
found members dev usage (Err (Refused change.WrongKind)) h = absurd h
found members dev usage (Err (Refused change.OutOfRange)) h = absurd h
found members dev usage (Err (Refused change.NoNull)) h = absurd h
found members dev usage (Err (Refused change.NoDirection)) h = absurd h
found members dev usage (Err (Refused change.MotionFull)) h = absurd h
found members dev usage (Err (Refused change.ArrayFull)) h = absurd h
found members dev usage (Err NotReady) h = absurd h
found members dev usage (Err (Control fault)) h = absurd h
found members dev usage (Err (BadDescriptor fault)) h = absurd h
found members dev usage (Err (Report fault)) h = absurd h
found members dev usage (Err TooManyDevices) h = absurd h
found members dev usage (Err Memory) h = absurd h

one_found : (members : List Member) (dev : ℕ) (usage : Usage) (r other : Result ControlId StackFault) → Found members dev usage r → Found members dev usage other → r ≡ other
one_found members dev usage r other (Least c m is at least) (Least d n is' at' least') =
    let same = one_least n.layout usage c d (subst (λ (x : Member). IsLeast x.layout usage c) (same_member (member_at members dev) m n at at') least) least' in
    is ∙ ap Ok same ∙ sym is'
one_found members dev usage r other (Least c m is at least) (NoMember is' none) = let e : Some m ≡ None = sym at ∙ none in absurd (cc)
one_found members dev usage r other (Least c m is at least) (NoControl n is' at' none) =
    absurd (none c
    (subst (λ (x : Member). control_usage (items_of x.layout) c ≡ Some usage)
    (same_member (member_at members dev) m n at at') least.has_usage))
one_found members dev usage r other (NoMember is none) (Least d n is' at' least') = let e : Some n ≡ None = sym at' ∙ none in absurd (cc)
one_found members dev usage r other (NoMember is none) (NoMember is' none') = is ∙ sym is'
one_found members dev usage r other (NoMember is none) (NoControl n is' at' none') = let e : Some n ≡ None = sym at' ∙ none in absurd (cc)
one_found members dev usage r other (NoControl m is at none) (Least d n is' at' least') =
    absurd (none d
    (subst (λ (x : Member). control_usage (items_of x.layout) d ≡ Some usage)
    (same_member (member_at members dev) n m at' at) least'.has_usage))
one_found members dev usage r other (NoControl m is at none) (NoMember is' none') = let e : Some m ≡ None = sym at ∙ none' in absurd (cc)
one_found members dev usage r other (NoControl m is at none) (NoControl n is' at' none') = is ∙ sym is'

pub finds_one : FindsOneControl
finds_one members dev usage r other h k = one_found members dev usage r other (found members dev usage r h) (found members dev usage other k)

-- ---- devices

-- what is read of a descriptor is one thing
pub record OneReading : Type 0 where
  pub reading : HasOneReading
  pub apart : AcceptsNoRefused
  pub cause : HasOneCause
  pub place : HasOnePlace

one_layout : HasOneReading → (descriptor : List ℕ) (layout other : Contents) → ParsesTo descriptor layout
    → ParsesTo descriptor other → layout ≡ other
one_layout reading descriptor layout other h k = h.laid ∙ ap layout_of (reading descriptor h.items k.items h.accepted k.accepted) ∙ sym k.laid

-- a cause that is no running out of memory is the descriptor's
layout_refused : (descriptor : List ℕ) (found : Cause) (at : ℕ) → is_memory found ≡ false → Explains descriptor found at → Refuses descriptor found at
layout_refused descriptor found at aside h =
    refused_unless descriptor found at (λ e. let wrong : true ≡ false = sym (ap is_memory e) ∙ aside in cc) h

clash : {A : Type 0} {b : Bool} → b ≡ true → b ≡ false → A
clash h k = let e : true ≡ false = sym h ∙ k in absurd (cc)

-- a device is refused for one cause at most, at one place, out of memory aside
one_refusal : OneReading → (addr : ℕ) (config : Config) (descriptor : List ℕ) (found other : DeviceCause) (at there : ℕ)
    → is_out_of_memory found ≡ false → is_out_of_memory other ≡ false
    → making.Refuses addr config descriptor found at → making.Refuses addr config descriptor other there → (found ≡ other) × (at ≡ there)
one_refusal one addr config descriptor causes.Memory other at there aside other_aside h k = absurd (cc)
one_refusal one addr config descriptor causes.BadConfig causes.BadConfig at there aside other_aside h k = (refl, h.1 ∙ sym k.1)
one_refusal one addr config descriptor causes.BadConfig (causes.Layout d) at there aside other_aside h k = clash k.0 h.0
one_refusal one addr config descriptor causes.BadConfig causes.NoEmptyCode at there aside other_aside h k = clash k.0 h.0
one_refusal one addr config descriptor causes.BadConfig causes.RelativeWithoutZero at there aside other_aside h k = clash k.0 h.0
one_refusal one addr config descriptor causes.BadConfig causes.Memory at there aside other_aside h k = absurd (cc)
one_refusal one addr config descriptor (causes.Layout c) causes.BadConfig at there aside other_aside h k = clash h.0 k.0
one_refusal one addr config descriptor (causes.Layout c) (causes.Layout d) at there aside other_aside h k =
    let first = layout_refused descriptor c at aside h.1 in
    let second = layout_refused descriptor d there other_aside k.1 in
    (ap causes.Layout (one.cause descriptor c d at there first second), one.place descriptor c d at there first second)
one_refusal one addr config descriptor (causes.Layout c) causes.NoEmptyCode at there aside other_aside h (fits, (layout, lays, lacks, place)) =
    absurd (one.apart descriptor lays.items c at lays.accepted (layout_refused descriptor c at aside h.1))
one_refusal one addr config descriptor (causes.Layout c) causes.RelativeWithoutZero at there aside other_aside h (fits, (layout, lays, codes, lacks, place)) =
    absurd (one.apart descriptor lays.items c at lays.accepted (layout_refused descriptor c at aside h.1))
one_refusal one addr config descriptor (causes.Layout c) causes.Memory at there aside other_aside h k = absurd (cc)
one_refusal one addr config descriptor causes.NoEmptyCode causes.BadConfig at there aside other_aside h k = clash h.0 k.0
one_refusal one addr config descriptor causes.NoEmptyCode (causes.Layout d) at there aside other_aside (fits, (layout, lays, lacks, place)) k =
    absurd (one.apart descriptor lays.items d there lays.accepted (layout_refused descriptor d there other_aside k.1))
one_refusal one addr config descriptor causes.NoEmptyCode causes.NoEmptyCode at there aside other_aside (fits, (layout, lays, lacks, place)) (fits', (layout', lays', lacks', place')) =
    (refl, place ∙ sym place')
one_refusal one addr config descriptor causes.NoEmptyCode causes.RelativeWithoutZero at there aside other_aside (fits, (layout, lays, lacks, place)) (fits', (layout', lays', codes', lacks', place')) =
    clash codes' (ap has_empty_codes (one_layout one.reading descriptor layout' layout lays' lays) ∙ lacks)
one_refusal one addr config descriptor causes.NoEmptyCode causes.Memory at there aside other_aside h k = absurd (cc)
one_refusal one addr config descriptor causes.RelativeWithoutZero causes.BadConfig at there aside other_aside h k = clash h.0 k.0
one_refusal one addr config descriptor causes.RelativeWithoutZero (causes.Layout d) at there aside other_aside (fits, (layout, lays, codes, lacks, place)) k =
    absurd (one.apart descriptor lays.items d there lays.accepted (layout_refused descriptor d there other_aside k.1))
one_refusal one addr config descriptor causes.RelativeWithoutZero causes.NoEmptyCode at there aside other_aside (fits, (layout, lays, codes, lacks, place)) (fits', (layout', lays', lacks', place')) =
    clash codes (ap has_empty_codes (one_layout one.reading descriptor layout layout' lays lays') ∙ lacks')
one_refusal one addr config descriptor causes.RelativeWithoutZero causes.RelativeWithoutZero at there aside other_aside (fits, (layout, lays, codes, lacks, place)) (fits', (layout', lays', codes', lacks', place')) =
    (refl, place ∙ sym place')
one_refusal one addr config descriptor causes.RelativeWithoutZero causes.Memory at there aside other_aside h k = absurd (cc)

-- where a device can be made it isn't refused, out of memory aside
serves_or_refused : OneReading → (addr : ℕ) (config : Config) (descriptor : List ℕ) (layout : Contents) (found : DeviceCause) (at : ℕ)
    → is_out_of_memory found ≡ false → CanAttach addr config descriptor layout
    → making.Refuses addr config descriptor found at → ⊥
serves_or_refused one addr config descriptor layout causes.Memory at aside suits h = cc
serves_or_refused one addr config descriptor layout causes.BadConfig at aside suits h = clash suits.config_fits h.0
serves_or_refused one addr config descriptor layout (causes.Layout c) at aside suits h =
    let lays = suits.serves.lays in one.apart descriptor lays.items c at lays.accepted (layout_refused descriptor c at aside h.1)
serves_or_refused one addr config descriptor layout causes.NoEmptyCode at aside suits (fits, (other, lays, lacks, place)) =
    clash suits.serves.empty_codes (ap has_empty_codes (one_layout one.reading descriptor layout other suits.serves.lays lays) ∙ lacks)
serves_or_refused one addr config descriptor layout causes.RelativeWithoutZero at aside suits (fits, (other, lays, codes, lacks, place)) =
    clash suits.serves.zeros (ap (λ l. has_zeros (items_of l)) (one_layout one.reading descriptor layout other suits.serves.lays lays) ∙ lacks)

-- what attaching a device comes to, out of memory aside: a member more, no room, or a refusal
data Attached (room : ℕ) (config : Config) (descriptor : List ℕ) (start : Start) (old : List Member) (r : Result ℕ StackFault) (new : List Member) : Type 0 where
  OneMore : length old < room → r ≡ Ok (length old + 1) → (layout : Contents)
      → CanAttach (length old + 1) config descriptor layout
      → new ≡ old ++ member_at_start start (length old + 1) config descriptor layout ∷ [] → Attached room config descriptor start old r new
  NoRoom : room ≤ length old → r ≡ Err TooManyDevices → new ≡ old → Attached room config descriptor start old r new
  NoPair : length old < room → (fault : DeviceFault) → r ≡ Err (BadDescriptor (Device fault))
      → is_out_of_memory fault.cause ≡ false
      → making.Refuses (length old + 1) config descriptor fault.cause fault.at → new ≡ old → Attached room config descriptor start old r new

attached : (room : ℕ) (config : Config) (descriptor : List ℕ) (start : Start) (old new : List Member) (r : Result ℕ StackFault)
    → r ≢ Err Memory → Attaches room config descriptor start old r new → Attached room config descriptor start old r new
attached room config descriptor start old new (Ok dev) aside (within, number, (layout, suits, is)) =
    OneMore within (ap Ok number) layout (subst (λ n. CanAttach n config descriptor layout) number suits)
    (is ∙ ap (λ n. old ++ member_at_start start n config descriptor layout ∷ []) number)
attached room config descriptor start old new (Err TooManyDevices) aside (full, is) = NoRoom full refl is
attached room config descriptor start old new (Err (BadDescriptor (Device fault))) aside (within, none, is) = NoPair within fault refl none.1 none.0 is
attached room config descriptor start old new (Err (BadDescriptor (Layout fault))) aside (within, none, is) = absurd none
attached room config descriptor start old new (Err (BadDescriptor (Info fault))) aside (within, none, is) = absurd none
attached room config descriptor start old new (Err (BadDescriptor ReportLength)) aside (within, none, is) = absurd none
attached room config descriptor start old new (Err Memory) aside h = absurd (aside refl)
attached room config descriptor start old new (Err NoDevice) aside (within, none, is) = absurd none
attached room config descriptor start old new (Err NotReady) aside (within, none, is) = absurd none
attached room config descriptor start old new (Err (Control fault)) aside (within, none, is) = absurd none
attached room config descriptor start old new (Err (Refused fault)) aside (within, none, is) = absurd none
attached room config descriptor start old new (Err (Report fault)) aside (within, none, is) = absurd none

same_fault : (f g : DeviceFault) → f.cause ≡ g.cause → f.at ≡ g.at → f ≡ g
same_fault f g cause at = ap (λ c. record f { cause = c }) cause ∙ ap (λ a. record g { at = a }) at

one_attached : OneReading → (room : ℕ) (config : Config) (descriptor : List ℕ) (start : Start) (old after others : List Member) (r other : Result ℕ StackFault)
    → Attached room config descriptor start old r after → Attached room config descriptor start old other others → (r ≡ other) × (after ≡ others)
one_attached one room config descriptor start old after others r other (OneMore within is layout suits stands) (OneMore within' is' layout' suits' stands') =
    let same = one_layout one.reading descriptor layout layout' suits.serves.lays suits'.serves.lays in
    (is ∙ sym is', stands ∙ ap (λ l. old ++ member_at_start start (length old + 1) config descriptor l ∷ []) same ∙ sym stands')
one_attached one room config descriptor start old after others r other (OneMore within is layout suits stands) (NoRoom full is' stands') = absurd (omega arith)
one_attached one room config descriptor start old after others r other (OneMore within is layout suits stands) (NoPair within' fault is' aside refused stands') =
    absurd (serves_or_refused one (length old + 1) config descriptor layout fault.cause fault.at aside suits refused)
one_attached one room config descriptor start old after others r other (NoRoom full is stands) (OneMore within is' layout suits stands') = absurd (omega arith)
one_attached one room config descriptor start old after others r other (NoRoom full is stands) (NoRoom full' is' stands') = (is ∙ sym is', stands ∙ sym stands')
one_attached one room config descriptor start old after others r other (NoRoom full is stands) (NoPair within fault is' aside refused stands') = absurd (omega arith)
one_attached one room config descriptor start old after others r other (NoPair within fault is aside refused stands) (OneMore within' is' layout suits stands') =
    absurd (serves_or_refused one (length old + 1) config descriptor layout fault.cause fault.at aside suits refused)
one_attached one room config descriptor start old after others r other (NoPair within fault is aside refused stands) (NoRoom full is' stands') = absurd (omega arith)
one_attached one room config descriptor start old after others r other (NoPair within fault is aside refused stands) (NoPair within' fault' is' aside' refused' stands') =
    let same = one_refusal one (length old + 1) config descriptor fault.cause fault'.cause fault.at fault'.at aside aside' refused refused' in
    (is ∙ ap (λ f. Err (BadDescriptor (Device f))) (same_fault fault fault' same.0 same.1) ∙ sym is', stands ∙ sym stands')

pub attaches_one : HasOneReading → AcceptsNoRefused → HasOneCause → HasOnePlace → AttachesOneDevice
attaches_one reading apart cause place room config descriptor start old after others r other h k aside other_aside =
    one_attached (record { reading = reading; apart = apart; cause = cause; place = place }) room config descriptor start old after others r other
    (attached room config descriptor start old after r aside h) (attached room config descriptor start old others other other_aside k)
