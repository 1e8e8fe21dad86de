-- No device has two connections.
use Rattle.std.proofs.Common.{◌≡◌, ℕ, zero, suc, ◌+◌, ◌≤◌, eqb, Bool, true, false, cond, List, [], ◌∷◌, Option, Some, None, Result, Ok, Err, refl, sym, ap, ◌∙◌, subst, arith, zero-add, slice_get, slice_set}
use Rattle.std.specs.List.{All}
use Rattle.std.proofs.lemmas.Bool.{eqb-true, eqb-false}
use Rattle.usbip.specs.declared.message.Command.{Command}
use Rattle.usbip.specs.declared.message.Command.TheVariants as commands
use Rattle.usbip.specs.declared.message.Submit.{Submit}
use Rattle.usbip.specs.declared.message.Unlink.{Unlink}
use Rattle.usbip.specs.declared.operation.Operation.{Operation as Asked}
use Rattle.usbip.specs.declared.operation.Operation.TheVariants as operations
use Rattle.usbip.specs.declared.operation.OperationStatus.TheVariants.{Busy}
use Rattle.usbip.specs.Pending.{one_if_same, pending_after_submit}
use Rattle.usbip_export.specs.declared.fault.ExportFault.{ExportFault}
use Rattle.usbip_export.specs.declared.connection.Stage.{Stage}
use Rattle.usbip_export.specs.declared.connection.Stage.TheVariants.{Operation, BusId, Command as AtCommand, Data, Over}
use Rattle.usbip_export.specs.declared.exported_device.ExportedDevice.{ExportedDevice}
use Rattle.usbip_export.specs.ExportedDevices.{asks_for_report, core_after_control, device_after_end, device_after_import, device_after_report, device_after_submit, device_after_unlink}
use Rattle.usbip_export.specs.Descriptions.{named_place}
use Rattle.usbip_export.specs.Connections.{IsEnded, IsLeft, Outcome, Takes, after_bus_id, after_command, after_import_at, after_import_of, after_operation, after_refused_import, after_submit, after_submit_to, after_unlink_of, changed_device, data_outcome, devices_after_end, devices_after_report, has_data, imported_outcome, place_of_stage, with_device, without_device}
use Rattle.usbip_export.specs.Holders.{HaveHolders, IsFree, NoneIsShared, holders, one_if_at, one_if_imported}

-- ---- a device that is changed at its place

some-is : (y d : ExportedDevice) → Some y ≡ Some d → y ≡ d
some-is y d e = cc

-- a change that keeps who has the device
kept : (ds : List ExportedDevice) (p q : ℕ) (d x : ExportedDevice) → slice_get ds p ≡ Some d → x.imported ≡ d.imported
    → one_if_imported (slice_get (slice_set ds p x) q) ≡ one_if_imported (slice_get ds q)
kept [] p q d x e same = refl
kept (y ∷ ds) zero zero d x e same =
    ap (λ (b : Bool). cond b 1 0) (same ∙ ap (λ (z : ExportedDevice). z.imported) (sym (some-is y d e)))
kept (y ∷ ds) zero (suc q) d x e same = refl
kept (y ∷ ds) (suc p) zero d x e same = refl
kept (y ∷ ds) (suc p) (suc q) d x e same = kept ds p q d x e same

-- the device at a place after a change there
here : (ds : List ExportedDevice) (p : ℕ) (d x : ExportedDevice) → slice_get ds p ≡ Some d
    → slice_get (slice_set ds p x) p ≡ Some x
here [] p d x e = absurd (cc)
here (y ∷ ds) zero d x e = refl
here (y ∷ ds) (suc p) d x e = here ds p d x e

-- the devices at other places
there : (ds : List ExportedDevice) (p q : ℕ) (x : ExportedDevice) → (p ≡ q → ⊥)
    → slice_get (slice_set ds p x) q ≡ slice_get ds q
there [] p q x ne = refl
there (y ∷ ds) zero zero x ne = absurd (ne refl)
there (y ∷ ds) zero (suc q) x ne = refl
there (y ∷ ds) (suc p) zero x ne = refl
there (y ∷ ds) (suc p) (suc q) x ne = there ds p q x (λ e. ne (ap suc e))

-- ---- a stage that gets a device, and one that leaves it

flag-small : (b : Bool) → cond b 1 0 ≤ 1
flag-small true = omega arith
flag-small false = omega arith

at-most-one : (o : Option ExportedDevice) → one_if_imported o ≤ 1
at-most-one None = omega arith
at-most-one (Some d) = flag-small d.imported

gets-at : (ds : List ExportedDevice) (others : List Stage) (p q : ℕ) (d : ExportedDevice) (b : Bool) → eqb p q ≡ b
    → slice_get ds p ≡ Some d → d.imported ≡ false → holders q others ≡ one_if_imported (slice_get ds q)
    → cond b 1 0 + holders q others ≡ one_if_imported (slice_get (slice_set ds p (device_after_import d)) q)
gets-at ds others p q d true e is free have =
    let same : p ≡ q = eqb-true p q e in
    let now : slice_get (slice_set ds p (device_after_import d)) q ≡ Some (device_after_import d) =
    subst (λ (k : ℕ). slice_get (slice_set ds p (device_after_import d)) k ≡ Some (device_after_import d)) same
    (here ds p d (device_after_import d) is) in
    let before : one_if_imported (slice_get ds q) ≡ 0 =
    subst (λ (k : ℕ). one_if_imported (slice_get ds k) ≡ 0) same
    (ap one_if_imported is ∙ ap (λ (c : Bool). cond c 1 0) free) in
    let after : one_if_imported (slice_get (slice_set ds p (device_after_import d)) q) ≡ 1 = ap one_if_imported now in
    omega (arith, have, before, after)
gets-at ds others p q d false e is free have =
    zero-add (holders q others) ∙ have ∙ ap one_if_imported (sym (there ds p q (device_after_import d) (eqb-false p q e)))

-- a device whose connection ends
leaves-at : (ds : List ExportedDevice) (others : List Stage) (p q : ℕ) (d : ExportedDevice) (b : Bool) → eqb p q ≡ b
    → slice_get ds p ≡ Some d → cond b 1 0 + holders q others ≡ one_if_imported (slice_get ds q)
    → holders q others ≡ one_if_imported (slice_get (slice_set ds p (device_after_end d)) q)
leaves-at ds others p q d true e is have =
    let same : p ≡ q = eqb-true p q e in
    let now : slice_get (slice_set ds p (device_after_end d)) q ≡ Some (device_after_end d) =
    subst (λ (k : ℕ). slice_get (slice_set ds p (device_after_end d)) k ≡ Some (device_after_end d)) same
    (here ds p d (device_after_end d) is) in
    let after : one_if_imported (slice_get (slice_set ds p (device_after_end d)) q) ≡ 0 = ap one_if_imported now in
    let few : one_if_imported (slice_get ds q) ≤ 1 = at-most-one (slice_get ds q) in
    omega (arith, have, after, few)
leaves-at ds others p q d false e is have =
    omega (arith, have) ∙ ap one_if_imported (sym (there ds p q (device_after_end d) (eqb-false p q e)))

-- where the device isn't there, no connection of its place is
leaves-none : (ds : List ExportedDevice) (others : List Stage) (p q : ℕ) (b : Bool) → eqb p q ≡ b → slice_get ds p ≡ None
    → cond b 1 0 + holders q others ≡ one_if_imported (slice_get ds q) → holders q others ≡ one_if_imported (slice_get ds q)
leaves-none ds others p q true e is have =
    let none : one_if_imported (slice_get ds q) ≡ 0 =
    subst (λ (k : ℕ). one_if_imported (slice_get ds k) ≡ 0) (eqb-true p q e) (ap one_if_imported is) in
    omega (arith, have, none)
leaves-none ds others p q false e is have = omega (arith, have)

-- ---- changes, and the end

change-at : (ds : List ExportedDevice) (p q : ℕ) (change : ExportedDevice → ExportedDevice) (o : Option ExportedDevice)
    → slice_get ds p ≡ o → ((d : ExportedDevice) → (change d).imported ≡ d.imported)
    → one_if_imported (slice_get (with_device ds p change o) q) ≡ one_if_imported (slice_get ds q)
change-at ds p q change None is keeps = refl
change-at ds p q change (Some d) is keeps = kept ds p q d (change d) is (keeps d)

change-of : (ds : List ExportedDevice) (q : ℕ) (change : ExportedDevice → ExportedDevice) (place : Option ℕ)
    → ((d : ExportedDevice) → (change d).imported ≡ d.imported)
    → one_if_imported (slice_get (changed_device ds change place) q) ≡ one_if_imported (slice_get ds q)
change-of ds q change None keeps = refl
change-of ds q change (Some p) keeps = change-at ds p q change (slice_get ds p) refl keeps

pub reports_holders : (stage : Stage) (others : List Stage) (ds : List ExportedDevice) → HaveHolders ds (stage ∷ others)
    → HaveHolders (devices_after_report ds stage) (stage ∷ others)
reports_holders stage others ds have q =
    have q ∙ sym (change-of ds q device_after_report (place_of_stage stage) (λ d. refl))

end-at : (ds : List ExportedDevice) (others : List Stage) (p q : ℕ) (o : Option ExportedDevice) → slice_get ds p ≡ o
    → one_if_same q p + holders q others ≡ one_if_imported (slice_get ds q)
    → holders q others ≡ one_if_imported (slice_get (with_device ds p device_after_end o) q)
end-at ds others p q None is have = leaves-none ds others p q (eqb p q) refl is have
end-at ds others p q (Some d) is have = leaves-at ds others p q d (eqb p q) refl is have

end-of : (ds : List ExportedDevice) (others : List Stage) (q : ℕ) (place : Option ℕ)
    → one_if_at q place + holders q others ≡ one_if_imported (slice_get ds q)
    → holders q others ≡ one_if_imported (slice_get (changed_device ds device_after_end place) q)
end-of ds others q None have = omega (arith, have)
end-of ds others q (Some p) have = end-at ds others p q (slice_get ds p) refl have

pub ends_holders : (stage : Stage) (others : List Stage) (ds : List ExportedDevice) → HaveHolders ds (stage ∷ others)
    → HaveHolders (devices_after_end ds stage) (Over ∷ others)
ends_holders stage others ds have q = omega (arith, end-of ds others q (place_of_stage stage) (have q))

-- ---- what is taken

waits-keep : (d : ExportedDevice) (s : Submit) (b : Bool)
    → (cond b (record d { pending = pending_after_submit d.pending s }) d).imported ≡ d.imported
waits-keep d s true = refl
waits-keep d s false = refl

submit-keeps : (d : ExportedDevice) (s : Submit) (sent : List ℕ) (b : Bool)
    → (cond b (record d { gadget = core_after_control d.gadget s sent })
    (cond (asks_for_report d.gadget s) (record d { pending = pending_after_submit d.pending s }) d)).imported ≡ d.imported
submit-keeps d s sent true = refl
submit-keeps d s sent false = waits-keep d s (asks_for_report d.gadget s)

operation-have : (ds : List ExportedDevice) (others : List Stage) (operation : Asked) → HaveHolders ds (Operation ∷ others)
    → HaveHolders (after_operation ds operation).devices ((after_operation ds operation).stage ∷ others)
operation-have ds others operations.DeviceList have = have
operation-have ds others operations.Import have = have

import-flag : (ds : List ExportedDevice) (others : List Stage) (p : ℕ) (d : ExportedDevice) (b : Bool) → d.imported ≡ b
    → slice_get ds p ≡ Some d → HaveHolders ds (BusId ∷ others)
    → HaveHolders (cond b (after_refused_import ds Busy) (imported_outcome ds p d)).devices
    ((cond b (after_refused_import ds Busy) (imported_outcome ds p d)).stage ∷ others)
import-flag ds others p d true e is have q = have q
import-flag ds others p d false e is have q = gets-at ds others p q d (eqb p q) refl is e (omega (arith, have q))

import-of : (ds : List ExportedDevice) (others : List Stage) (p : ℕ) (o : Option ExportedDevice) → slice_get ds p ≡ o
    → HaveHolders ds (BusId ∷ others)
    → HaveHolders (after_import_of ds p o).devices ((after_import_of ds p o).stage ∷ others)
import-of ds others p None is have q = have q
import-of ds others p (Some d) is have q = import-flag ds others p d d.imported refl is have q

import-at : (ds : List ExportedDevice) (others : List Stage) (place : Option ℕ) → HaveHolders ds (BusId ∷ others)
    → HaveHolders (after_import_at ds place).devices ((after_import_at ds place).stage ∷ others)
import-at ds others None have q = have q
import-at ds others (Some p) have q = import-of ds others p (slice_get ds p) refl have q

-- a connection of a place where no device is
none-have : (ds : List ExportedDevice) (others : List Stage) (p q : ℕ) → slice_get ds p ≡ None
    → one_if_same q p + holders q others ≡ one_if_imported (slice_get ds q)
    → 0 + holders q others ≡ one_if_imported (slice_get ds q)
none-have ds others p q is have = omega (arith, leaves-none ds others p q (eqb p q) refl is have)

submit-to : (ds : List ExportedDevice) (others : List Stage) (p : ℕ) (s : Submit) (sent : List ℕ) (o : Option ExportedDevice)
    → slice_get ds p ≡ o → HaveHolders ds (AtCommand p ∷ others)
    → HaveHolders (after_submit_to ds p s sent o).devices ((after_submit_to ds p s sent o).stage ∷ others)
submit-to ds others p s sent None is have q = none-have ds others p q is (have q)
submit-to ds others p s sent (Some d) is have q =
    have q ∙ sym (kept ds p q d (device_after_submit d s sent) is (submit-keeps d s sent (eqb s.endpoint 0)))

unlink-of : (ds : List ExportedDevice) (others : List Stage) (p : ℕ) (u : Unlink) (o : Option ExportedDevice)
    → slice_get ds p ≡ o → HaveHolders ds (AtCommand p ∷ others)
    → HaveHolders (after_unlink_of ds p u o).devices ((after_unlink_of ds p u o).stage ∷ others)
unlink-of ds others p u None is have q = none-have ds others p q is (have q)
unlink-of ds others p u (Some d) is have q = have q ∙ sym (kept ds p q d (device_after_unlink d u) is refl)

submit-have : (ds : List ExportedDevice) (others : List Stage) (p : ℕ) (s : Submit) (b : Bool)
    → HaveHolders ds (AtCommand p ∷ others)
    → HaveHolders (cond b (data_outcome ds p s) (after_submit ds p s [])).devices
    ((cond b (data_outcome ds p s) (after_submit ds p s [])).stage ∷ others)
submit-have ds others p s true have q = have q
submit-have ds others p s false have q = submit-to ds others p s [] (slice_get ds p) refl have q

command-have : (ds : List ExportedDevice) (others : List Stage) (p : ℕ) (command : Command)
    → HaveHolders ds (AtCommand p ∷ others)
    → HaveHolders (after_command ds p command).devices ((after_command ds p command).stage ∷ others)
command-have ds others p (commands.Submit s) have q = submit-have ds others p s (has_data s) have q
command-have ds others p (commands.Unlink u) have q = unlink-of ds others p u (slice_get ds p) refl have q

left-have : (others : List Stage) (outcome : Outcome) (room : List ℕ) (n : ℕ) (next : Stage) (left : List ExportedDevice)
    (filled : List ℕ) → HaveHolders outcome.devices (outcome.stage ∷ others) → IsLeft outcome room n next left filled
    → HaveHolders left (next ∷ others)
left-have others outcome room n next left filled have h q =
    ap (λ (s : Stage). one_if_at q (place_of_stage s) + holders q others) h.stage
    ∙ (have q ∙ ap (λ (ds : List ExportedDevice). one_if_imported (slice_get ds q)) (sym h.devices))

ended-have : (others : List Stage) (before : Stage) (ds : List ExportedDevice) (room : List ℕ) (next : Stage)
    (left : List ExportedDevice) (filled : List ℕ) → HaveHolders ds (before ∷ others)
    → IsEnded before ds room next left filled → HaveHolders left (next ∷ others)
ended-have others before ds room next left filled have h q =
    ap (λ (s : Stage). one_if_at q (place_of_stage s) + holders q others) h.stage
    ∙ (ends_holders before others ds have q ∙ ap (λ (xs : List ExportedDevice). one_if_imported (slice_get xs q)) (sym h.devices))

pub takes_holders : (stage next : Stage) (others : List Stage) (ds left : List ExportedDevice) (bytes room filled : List ℕ)
    (result : Result ℕ ExportFault) → HaveHolders ds (stage ∷ others)
    → Takes stage ds bytes room result next left filled → HaveHolders left (next ∷ others)
takes_holders Operation next others ds left bytes room filled (Ok n) have (operation, is, h) =
    left-have others (after_operation ds operation) room n next left filled (operation-have ds others operation have) h
takes_holders Operation next others ds left bytes room filled (Err fault) have (is, h) =
    ended-have others Operation ds room next left filled have h
takes_holders BusId next others ds left bytes room filled (Ok n) have h =
    left-have others (after_bus_id ds bytes) room n next left filled (import-at ds others (named_place bytes) have) h
takes_holders BusId next others ds left bytes room filled (Err fault) have h = absurd h
takes_holders (AtCommand p) next others ds left bytes room filled (Ok n) have (command, is, named, h) =
    left-have others (after_command ds p command) room n next left filled (command-have ds others p command have) h
takes_holders (AtCommand p) next others ds left bytes room filled (Err fault) have (is, h) =
    ended-have others (AtCommand p) ds room next left filled have h
takes_holders (Data p s) next others ds left bytes room filled (Ok n) have h =
    left-have others (after_submit ds p s bytes) room n next left filled
    (submit-to ds others p s bytes (slice_get ds p) refl have) h
takes_holders (Data p s) next others ds left bytes room filled (Err fault) have h = absurd h
takes_holders Over next others ds left bytes room filled (Ok n) have h =
    left-have others (without_device ds) room n next left filled have h
takes_holders Over next others ds left bytes room filled (Err fault) have h = absurd h

-- ---- at first, and what follows

pub free_holders : (ds : List ExportedDevice) → All IsFree ds → HaveHolders ds []
free_holders [] all q = refl
free_holders (d ∷ ds) all zero = sym (ap (λ (b : Bool). cond b 1 0) (all 0 d (omega arith)))
free_holders (d ∷ ds) all (suc q) = free_holders ds (λ k x lt. all (suc k) x (omega (arith, lt))) q

pub none_is_shared : (ds : List ExportedDevice) (stages : List Stage) → HaveHolders ds stages → NoneIsShared stages
none_is_shared ds stages have q = omega (arith, have q, at-most-one (slice_get ds q))
