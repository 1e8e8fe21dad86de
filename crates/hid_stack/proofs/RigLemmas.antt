-- What holds of every device of a rig holds after its calls.
use Rattle.std.proofs.Common.{◌≡◌, ◌∙◌, ◌<◌, ◌≤◌, ◌++◌, take, drop, ap, arith, ℕ, List, [], ◌∷◌, length, get_or, map, Option, Some, None, Result, Ok, Err, OnOk, OnErr, refl, sym, subst}
use Rattle.std.specs.Prelude.{slice_set}
use Rattle.std.proofs.lemmas.List.{take-append-le, take_all, length-map}
use Rattle.std.proofs.lemmas.List.Elements.{All-get_or, All-set}
use Rattle.hid_layout.specs.Controls.{items_of}
use Rattle.hid_layout.specs.Layout.{Contents}
use Rattle.hid_device.specs.declared.config.Config.{Config}
use Rattle.hid_bus.specs.Rounds.{Frame}
use Rattle.hid_bus.specs.declared.step.Step.TheVariants.{Frame as FrameStep}
use Rattle.hid_host.specs.declared.fault.StackFault.{StackFault}
use Rattle.usb_transact.specs.declared.transaction.Fate.{Fate}
use Rattle.usb_control.specs.declared.host.Progress.{Progress}
use Rattle.hid_host.specs.declared.host.Transfer.{Transfer}
use Rattle.hid_host.specs.Host.{running}
use Rattle.hid_bus.specs.declared.start.Start.{Start}
use Rattle.hid_bus.specs.declared.start.Start.TheVariants as starts
use Rattle.hid_stack.specs.Attaching.{member_at_start}
use Rattle.hid_stack.specs.Members.{Member, MemberStep, Scheduled, Controls, member_after, member_after_try}
use Rattle.hid_stack.specs.Slot.{TriesTransfer}
use Rattle.hid_stack.specs.ExpectedToggles.{AllHoldToggles}
use Rattle.hid_stack.specs.Sums.{AllHaveMotions}
use Rattle.hid_bus.proofs.MotionLemmas.{fresh_has}
use Rattle.hid_stack.proofs.HoldLemmas.{bus_holds}
use Rattle.hid_stack.proofs.SumLemmas.{HasItsMotions, after_member, after_unconcluded, bus_has, attached_has}

at_place : (members : List Member) (i : ℕ) (m : Member) → AllHaveMotions members → i < length members → m ≡ get_or members i m → HasItsMotions m
at_place members i m all within is = subst HasItsMotions (sym is) (All-get_or HasItsMotions members i m within all)

-- after a call that is a step of a device, or that is refused and changes nothing, or makes a try
pub stepped_have : (members : List Member) (i : ℕ) (m n : Member) → AllHaveMotions members → i < length members → m ≡ get_or members i m → (HasItsMotions m → HasItsMotions n)
    → AllHaveMotions (slice_set members i n)
stepped_have members i m n all within is goes = All-set HasItsMotions members i n (goes (at_place members i m all within is)) all

pub stepped : (m n : Member) (x : MemberStep) → n ≡ member_after m x → HasItsMotions m → HasItsMotions n
stepped m n x is has = subst HasItsMotions (sym is) (after_member m x has)

pub called : {A : Type 0} (m n : Member) (x : MemberStep) (result : Result A StackFault) → OnOk result (n ≡ member_after m x) → OnErr result (n ≡ m) → HasItsMotions m → HasItsMotions n
called m n x (Ok told) after err has = stepped m n x after has
called m n x (Err fault) after err has = subst HasItsMotions (sym err) has

pub polled : {A : Type 0} (m n : Member) (x : MemberStep) (result : Result A StackFault) (P : Type 0) → OnOk result (n ≡ member_after m x) → OnErr result ((n ≡ m) × P) → HasItsMotions m → HasItsMotions n
polled m n x (Ok told) P after err has = stepped m n x after has
polled m n x (Err fault) P after err has = subst HasItsMotions (sym err.0) has

tried_by : (fate : Fate) (m n : Member) (o : Option Transfer) (result : Result Progress StackFault) → running m.transfer ≡ o → TriesTransfer fate m o result n → HasItsMotions m → HasItsMotions n
tried_by fate m n None result is tries has = subst HasItsMotions (sym tries.1) has
tried_by fate m n (Some t) (Ok progress) is tries has =
    stepped m n (Controls fate) (tries.1 ∙ ap (member_after_try fate m) (sym is)) has
tried_by fate m n (Some t) (Err fault) is tries has = subst HasItsMotions (sym tries.2) (after_unconcluded fate m (Some t) has)

pub tried : (fate : Fate) (m n : Member) (result : Result Progress StackFault) → TriesTransfer fate m (running m.transfer) result n → HasItsMotions m → HasItsMotions n
tried fate m n result tries has = tried_by fate m n (running m.transfer) result refl tries has

-- after a frame, whose slots stand in the memory of the list before
pub framed : (members new : List Member) (len : ℕ) → length new ≡ len → take len (new ++ drop (length new) members) ≡ new
framed members new len size = take-append-le len new (drop (length new) members) (omega arith) ∙ take_all len new (omega arith)

pub framed_hold : (members new : List Member) (len cap limit : ℕ) → (length members ≤ limit) × (cap ≡ limit) × AllHaveMotions members × AllHoldToggles members → new ≡ map (λ (m : Member). member_after m (Scheduled Frame)) members → length new ≡ len
    → (length (take len (new ++ drop (length new) members)) ≤ limit) × (cap ≡ limit) × AllHaveMotions (take len (new ++ drop (length new) members)) × AllHoldToggles (take len (new ++ drop (length new) members))
framed_hold members new len cap limit (within, room, all, hold) is size =
    let whole = framed members new len size in
    let same : length new ≡ length members = ap (λ (ms : List Member). length ms) is ∙ length-map members (λ (m : Member). member_after m (Scheduled Frame)) in
    subst (λ (ms : List Member). (length ms ≤ limit) × (cap ≡ limit) × AllHaveMotions ms × AllHoldToggles ms) (sym whole)
    (omega arith, room, subst AllHaveMotions (sym is) (bus_has members FrameStep all), subst AllHoldToggles (sym is) (bus_holds members FrameStep hold))

-- where a device was attached
starts_with : (start : Start) (addr : ℕ) (config : Config) (descriptor : List ℕ) (layout : Contents) → HasItsMotions (member_at_start start addr config descriptor layout)
starts_with starts.Ready addr config descriptor layout = fresh_has (items_of layout) _
starts_with starts.Cold addr config descriptor layout =
    let has = fresh_has (items_of layout) [] in
    record { snapshot = has.snapshot; fixed = has.fixed; view = has.view }

pub attached_have : (members new : List Member) (m : Member) (start : Start) (addr : ℕ) (config : Config) (descriptor : List ℕ) (layout : Contents) → AllHaveMotions members
    → m ≡ member_at_start start addr config descriptor layout → new ≡ members ++ m ∷ [] → AllHaveMotions new
attached_have members new m start addr config descriptor layout all is new_is =
    subst AllHaveMotions (sym new_is) (attached_has members m all (subst HasItsMotions (sym is) (starts_with start addr config descriptor layout)))
