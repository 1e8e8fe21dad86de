-- A truncated frame gives neither a descriptor nor a report.
use Rattle.std.proofs.Common.{◌≡◌, ℕ, List, Bool, refl, sym, subst, Option, Some, None, true, false}
use Rattle.std.specs.Prelude.{if◌then◌else◌, nat_lt, position}
use Rattle.std.specs.List.{find, list_any}
use Rattle.usb_capture.specs.declared.urb.Direction.{Direction}
use Rattle.usb_capture.specs.declared.urb.Direction.TheVariants.{Out, In}
use Rattle.usb_capture.specs.declared.urb.Transfer.{Transfer}
use Rattle.usb_capture.specs.declared.urb.Transfer.TheVariants.{Isochronous, Interrupt, Control, Bulk}
use Rattle.usb_capture.specs.declared.urb.UrbEvent.{UrbEvent}
use Rattle.usb_capture.specs.declared.urb.UrbEvent.TheVariants.{Submitted, Completed, Stalled, Failed}
use Rattle.usb_capture.specs.UrbRecord.{UrbRecord}
use Rattle.hid_capture.specs.declared.request.Request.{Request}
use Rattle.hid_capture.specs.declared.request.Request.TheVariants.{SetAddress, SetConfiguration, GetConfigurationDescriptor, GetReportDescriptor, SetProtocol, HubPort, Other}
use Rattle.hid_capture.specs.declared.tables.PendingRequest.{PendingRequest}
use Rattle.hid_capture.specs.declared.tracker.Content.{Content}
use Rattle.hid_capture.specs.declared.tracker.Content.TheVariants.{Nothing, Undescribed, Unknown, BootReport, DeviceDisconnected}
use Rattle.hid_capture.specs.Laws.{is_descriptor, is_report}
use Rattle.hid_capture.specs.Requests.{request_of}
use Rattle.hid_capture.specs.Tracking.{Tracking, has_id, is_boot, is_configuration_on, is_described_on, has_descriptor_of, has_data, is_gone, leaves, disconnection, source, silence, content_by, content_from, content_of_bytes, without_request, outcome, outcome_of_description, outcome_of_answer, outcome_of_completion, outcome_of_submission, outcome_of_success, outcome_of_stall, outcome_of_failure, outcome_of_shutdown, disconnection_of, outcome_by_event}

-- what holds of no content that a truncated frame, or the loss of a descriptor, gives
pub record IsOfData (test : Content → Bool) : Type 0 where
  pub nothing : test Nothing ≡ false
  pub device : (bus device : ℕ) → test (DeviceDisconnected bus device) ≡ false
  pub rest : (t : Tracking) (urb : UrbRecord) (interface : ℕ) → test (outcome_of_description t urb interface true).content ≡ false
  pub bytes : (interface : ℕ) (number : Option ℕ) → test (content_by true interface number) ≡ false
  pub boot : test BootReport ≡ false
  pub shutdown : (t : Tracking) (urb : UrbRecord) (from : Option ℕ) → test (outcome_of_shutdown t urb from).content ≡ false

by_if : (test : Content → Bool) (b : Bool) (x y : Content) → test x ≡ false → test y ≡ false → test (if b then x else y) ≡ false
by_if test true x y p q = p
by_if test false x y p q = q

no_disconnection : (test : Content → Bool) → IsOfData test → (t : Tracking) (bus device : ℕ) → test (disconnection t bus device) ≡ false
no_disconnection test o t bus device = by_if test (list_any (is_described_on bus device) t.interfaces) (DeviceDisconnected bus device) Nothing (o.device bus device) o.nothing

no_answer : (test : Content → Bool) → IsOfData test → (t : Tracking) (urb : UrbRecord) (request : Request) → urb.is_truncated ≡ true
    → test (outcome_of_answer t urb request).content ≡ false
no_answer test o t urb (SetAddress address) cut = no_disconnection test o t urb.bus address
no_answer test o t urb (SetConfiguration value) cut =
    by_if test (leaves (find (is_configuration_on urb.bus urb.device) t.active_configurations) value) (disconnection t urb.bus urb.device) Nothing
    (no_disconnection test o t urb.bus urb.device) o.nothing
no_answer test o t urb GetConfigurationDescriptor cut = o.nothing
no_answer test o t urb (GetReportDescriptor interface) cut =
    subst (λ (b : Bool). test (outcome_of_description t urb interface b).content ≡ false) (sym cut) (o.rest t urb interface)
no_answer test o t urb (SetProtocol interface boot) cut = o.nothing
no_answer test o t urb HubPort cut = o.nothing
no_answer test o t urb Other cut = o.nothing

no_completion : (test : Content → Bool) → IsOfData test → (t : Tracking) (urb : UrbRecord) (found : Option PendingRequest) → urb.is_truncated ≡ true
    → test (outcome_of_completion t urb found).content ≡ false
no_completion test o t urb None cut = o.nothing
no_completion test o t urb (Some r) cut = no_answer test o (without_request t urb) urb (request_of r.setup) cut

no_data : (test : Content → Bool) → IsOfData test → (t : Tracking) (urb : UrbRecord) (from : Option ℕ) → urb.is_truncated ≡ true
    → test (content_from t urb from) ≡ false
no_data test o t urb None cut = o.nothing
no_data test o t urb (Some interface) cut =
    let number : Option ℕ = position (has_descriptor_of urb.bus urb.device interface) t.interfaces in
    by_if test (list_any (is_boot urb.bus urb.device interface) t.boots) BootReport (content_by urb.is_truncated interface number) o.boot
    (subst (λ (b : Bool). test (content_by b interface number) ≡ false) (sym cut) (o.bytes interface number))

no_transfer : (test : Content → Bool) → IsOfData test → (t : Tracking) (urb : UrbRecord) (direction : Direction) → urb.is_truncated ≡ true
    → test (content_of_bytes t urb direction) ≡ false
no_transfer test o t urb Out cut = o.nothing
no_transfer test o t urb In cut =
    by_if test (has_data urb) (content_from t urb (source t urb.bus urb.device urb.endpoint)) Nothing
    (no_data test o t urb (source t urb.bus urb.device urb.endpoint) cut) o.nothing

no_success : (test : Content → Bool) → IsOfData test → (t : Tracking) (urb : UrbRecord) (transfer : Transfer) → urb.is_truncated ≡ true
    → test (outcome_of_success t urb transfer).content ≡ false
no_success test o t urb Control cut = no_completion test o t urb (find (has_id urb.bus urb.device urb.id) t.requests) cut
no_success test o t urb Interrupt cut = no_transfer test o t urb urb.direction cut
no_success test o t urb Isochronous cut = o.nothing
no_success test o t urb Bulk cut = o.nothing

no_stall : (test : Content → Bool) → IsOfData test → (t : Tracking) (urb : UrbRecord) (transfer : Transfer)
    → test (outcome_of_stall t urb transfer).content ≡ false
no_stall test o t urb Control = o.nothing
no_stall test o t urb Interrupt = o.nothing
no_stall test o t urb Isochronous = o.nothing
no_stall test o t urb Bulk = o.nothing

no_failure : (test : Content → Bool) → IsOfData test → (t : Tracking) (urb : UrbRecord) (status : ℕ) (transfer : Transfer)
    → test (outcome_of_failure t urb status transfer).content ≡ false
no_failure test o t urb status Control = o.nothing
no_failure test o t urb status Interrupt = by_shutdown (is_gone status)
  where
    by_shutdown : (b : Bool) → test (if b then outcome_of_shutdown t urb (source t urb.bus urb.device urb.endpoint) else silence t).content ≡ false
    by_shutdown true = o.shutdown t urb (source t urb.bus urb.device urb.endpoint)
    by_shutdown false = o.nothing
no_failure test o t urb status Isochronous = o.nothing
no_failure test o t urb status Bulk = o.nothing

no_submission : (test : Content → Bool) → IsOfData test → (t : Tracking) (urb : UrbRecord) (setup : Option (List ℕ))
    → test (outcome_of_submission t urb setup).content ≡ false
no_submission test o t urb None = o.nothing
no_submission test o t urb (Some setup) = o.nothing

no_event : (test : Content → Bool) → IsOfData test → (t : Tracking) (urb : UrbRecord) (event : UrbEvent) → urb.is_truncated ≡ true
    → test (outcome_by_event t urb event).content ≡ false
no_event test o t urb Submitted cut = no_submission test o t urb urb.setup
no_event test o t urb Completed cut = no_success test o t urb urb.transfer cut
no_event test o t urb Stalled cut = no_stall test o t urb urb.transfer
no_event test o t urb (Failed status) cut = no_failure test o t urb status urb.transfer

-- a test that a URB of a truncated frame doesn't pass
no_outcome : (test : Content → Bool) → IsOfData test → (t : Tracking) (urb : UrbRecord) → urb.is_truncated ≡ true
    → test (outcome t urb).content ≡ false
unfolding outcome
no_outcome test o t urb cut = no_event test o t urb urb.event cut

of_descriptors : IsOfData is_descriptor
of_descriptors = record {
  nothing = refl;
  device = λ bus device. refl;
  rest = λ t urb interface. refl;
  bytes = of_bytes;
  boot = refl;
  shutdown = of_shutdown;
}
  where
    of_bytes : (interface : ℕ) (number : Option ℕ) → is_descriptor (content_by true interface number) ≡ false
    of_bytes interface None = by_if is_descriptor (nat_lt interface 256) Undescribed Unknown refl refl
    of_bytes interface (Some n) = refl

    of_number : (number : Option ℕ) → is_descriptor (disconnection_of number) ≡ false
    of_number None = refl
    of_number (Some n) = refl

    of_shutdown : (t : Tracking) (urb : UrbRecord) (from : Option ℕ) → is_descriptor (outcome_of_shutdown t urb from).content ≡ false
    of_shutdown t urb None = refl
    of_shutdown t urb (Some interface) = of_number (position (has_descriptor_of urb.bus urb.device interface) t.interfaces)

of_reports : IsOfData is_report
of_reports = record {
  nothing = refl;
  device = λ bus device. refl;
  rest = λ t urb interface. refl;
  bytes = of_bytes;
  boot = refl;
  shutdown = of_shutdown;
}
  where
    of_bytes : (interface : ℕ) (number : Option ℕ) → is_report (content_by true interface number) ≡ false
    of_bytes interface None = by_if is_report (nat_lt interface 256) Undescribed Unknown refl refl
    of_bytes interface (Some n) = refl

    of_number : (number : Option ℕ) → is_report (disconnection_of number) ≡ false
    of_number None = refl
    of_number (Some n) = refl

    of_shutdown : (t : Tracking) (urb : UrbRecord) (from : Option ℕ) → is_report (outcome_of_shutdown t urb from).content ≡ false
    of_shutdown t urb None = refl
    of_shutdown t urb (Some interface) = of_number (position (has_descriptor_of urb.bus urb.device interface) t.interfaces)

pub no_descriptor : (t : Tracking) (urb : UrbRecord) → urb.is_truncated ≡ true → is_descriptor (outcome t urb).content ≡ false
no_descriptor t urb cut = no_outcome is_descriptor of_descriptors t urb cut

pub no_report : (t : Tracking) (urb : UrbRecord) → urb.is_truncated ≡ true → is_report (outcome t urb).content ≡ false
no_report t urb cut = no_outcome is_report of_reports t urb cut
