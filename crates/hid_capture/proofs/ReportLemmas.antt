-- The reports of an interface are read from its descriptor on, until an end comes.
use Rattle.std.proofs.Common.{◌≡◌, ℕ, ◌<◌, Bool, List, [], ◌∷◌, ◌++◌, length, drop, map, refl, sym, ap, ◌∙◌, subst, cond, Option, Some, None, true, false}
use Rattle.std.proofs.lemmas.Bool.{and_parts, eqb-true, eq-eqb, lt-ltb}
use Rattle.std.proofs.lemmas.List.Folds.{list_any-append}
use Rattle.std.specs.Prelude.{if◌then◌else◌, ◌==◌, ◌&&◌, ◌||◌, not, nat_lt, filter, position, slice_set}
use Rattle.std.specs.List.{find, list_any}
use Rattle.usb_capture.specs.declared.urb.Direction.{Direction}
use Rattle.usb_capture.specs.declared.urb.Direction.TheVariants.{Out, In}
use Rattle.usb_capture.specs.declared.urb.Transfer.{Transfer}
use Rattle.usb_capture.specs.declared.urb.Transfer.TheVariants.{Isochronous, Interrupt, Control, Bulk}
use Rattle.usb_capture.specs.declared.urb.UrbEvent.{UrbEvent}
use Rattle.usb_capture.specs.declared.urb.UrbEvent.TheVariants.{Submitted, Completed, Stalled, Failed}
use Rattle.usb_capture.specs.UrbRecord.{UrbRecord}
use Rattle.hid_capture.specs.declared.configuration.Configuration.{Configuration}
use Rattle.hid_capture.specs.declared.configuration.InterruptEndpoint.{InterruptEndpoint}
use Rattle.hid_capture.specs.declared.request.Request.{Request}
use Rattle.hid_capture.specs.declared.request.Request.TheVariants.{SetAddress, SetConfiguration, GetConfigurationDescriptor, GetReportDescriptor, SetProtocol, HubPort, Other}
use Rattle.hid_capture.specs.declared.tables.BootInterface.{BootInterface}
use Rattle.hid_capture.specs.declared.tables.PendingRequest.{PendingRequest}
use Rattle.hid_capture.specs.declared.tables.TrackedInterface.{TrackedInterface}
use Rattle.hid_capture.specs.declared.tracker.Content.{Content}
use Rattle.hid_capture.specs.declared.undescribed.UndescribedEndpoint.{UndescribedEndpoint}
use Rattle.hid_capture.specs.declared.tracker.Content.TheVariants.{Nothing, Descriptor, TruncatedDescriptor, TooManyInterfaces, Report, TruncatedReport, Undescribed, Unknown, BootReport, InterfaceDisconnected, DeviceDisconnected}
use Rattle.hid_capture.specs.Descriptors.{whole_configuration}
use Rattle.hid_capture.specs.Laws.{is_report}
use Rattle.hid_capture.specs.Reports.{NumberedInterface, IsRead, Describes, IsFor, NoneEnds, pending_request, answer_ends, event_ends, request_ends, ends, is_completed_interrupt, is_known_as, is_to_host, is_from, is_report_from, is_report_of, is_there, reports_told, reports_sent}
use Rattle.hid_capture.specs.Requests.{request_of}
use Rattle.hid_capture.specs.Tracking.{Tracking, Outcome, has_id, is_at, is_boot, is_boot_of, boots_with, latest, most_kept, is_configuration_on, is_of_device, is_endpoint, may_be_active, is_free, is_interface, other_requests, has_descriptor_of, is_gone, interfaces_with, lacks_descriptor, new_interface, source, source_of, after_bytes, content_by, content_from, content_of_bytes, without_descriptor_on, with_described, with_protocol, without_request, with_address, with_answer, outcome, outcome_of_description, outcome_of_descriptor, outcome_of_number, outcome_of_answer, outcome_of_completion, outcome_of_submission, outcome_of_success, outcome_of_stall, outcome_of_failure, outcome_of_shutdown, outcome_by_event, silence}
use Rattle.hid_capture.specs.Undescribed.{with_transfer_of, without_hub}
use Rattle.hid_capture.proofs.ListPlaces.{find_kept, any_filter, any_behind, position_map, both_at, position_append, position_push, position_set, position_none}
use Rattle.hid_capture.proofs.UndescribedLemmas.{report_no_completion, report_no_stall, report_no_failure, report_no_submission}

-- ---- tests

and_false : (b : Bool) → (b && false) ≡ false
and_false true = refl
and_false false = refl

-- one place on a bus
at_parts : (bus device bus' device' : ℕ) → is_at bus device bus' device' ≡ true → (bus ≡ bus') × (device ≡ device')
at_parts bus device bus' device' is =
    let p = and_parts (bus == bus') (device == device') is in
    (eqb-true bus bus' p.0, eqb-true device device' p.1)

at_same : (bus device bus' device' : ℕ) → bus ≡ bus' → device ≡ device' → is_at bus device bus' device' ≡ true
at_same bus device bus' device' p q =
    ap (λ (b : Bool). b && (device == device')) (eq-eqb bus bus' p) ∙ eq-eqb device device' q

-- an element that is at two places: they are one
at_meets : (a b bus device bus' device' : ℕ) → is_at a b bus device ≡ true → is_at a b bus' device' ≡ true → is_at bus device bus' device' ≡ true
at_meets a b bus device bus' device' is there =
    let p = at_parts a b bus device is in
    let q = at_parts a b bus' device' there in
    at_same bus device bus' device' (sym p.0 ∙ q.0) (sym p.1 ∙ q.1)

-- where they differ, what is at the one isn't at the other
at_apart : (a b bus device bus' device' : ℕ) → is_at bus device bus' device' ≡ false → is_at a b bus device ≡ true → is_at a b bus' device' ≡ false
at_apart a b bus device bus' device' other is = by (is_at a b bus' device') refl
  where
    by : (u : Bool) → is_at a b bus' device' ≡ u → is_at a b bus' device' ≡ false
    by false e = e
    by true e = absurd (let same : is_at bus device bus' device' ≡ true = at_meets a b bus device bus' device' is e in let wrong : true ≡ false = sym same ∙ other in cc)

tracked_apart : (i : NumberedInterface) (bus device interface : ℕ) → (is_at bus device i.bus i.device && (interface == i.interface)) ≡ false → (x : TrackedInterface)
    → is_interface bus device interface x ≡ true → is_interface i.bus i.device i.interface x ≡ false
tracked_apart i bus device interface other x is = by (is_interface i.bus i.device i.interface x) refl
  where
    met : is_interface i.bus i.device i.interface x ≡ true → (is_at bus device i.bus i.device && (interface == i.interface)) ≡ true
    met there =
        let p = and_parts (is_at x.bus x.device bus device) (x.interface == interface) is in
        let q = and_parts (is_at x.bus x.device i.bus i.device) (x.interface == i.interface) there in
        ap (λ (b : Bool). b && (interface == i.interface)) (at_meets x.bus x.device bus device i.bus i.device p.0 q.0)
        ∙ eq-eqb interface i.interface (sym (eqb-true x.interface interface p.1) ∙ eqb-true x.interface i.interface q.1)

    by : (u : Bool) → is_interface i.bus i.device i.interface x ≡ u → is_interface i.bus i.device i.interface x ≡ false
    by false e = e
    by true e = absurd (let wrong : true ≡ false = sym (met e) ∙ other in cc)

-- ---- what is said of a URB

-- of what is no report, none is said to be one
not_report : (n : ℕ) (content : Content) → is_report content ≡ false → is_report_of n content ≡ false
not_report n (Report m) other = absurd cc
not_report n Nothing other = refl
not_report n (Descriptor m) other = refl
not_report n TruncatedDescriptor other = refl
not_report n TooManyInterfaces other = refl
not_report n (TruncatedReport m) other = refl
not_report n Undescribed other = refl
not_report n Unknown other = refl
not_report n BootReport other = refl
not_report n (InterfaceDisconnected m) other = refl
not_report n (DeviceDisconnected bus device) other = refl

by_if : (n : ℕ) (b : Bool) (x y : Content) → is_report_of n x ≡ false → is_report_of n y ≡ false → is_report_of n (if b then x else y) ≡ false
by_if n true x y p q = p
by_if n false x y p q = q

-- data of another interface aren't a report of this one
other_data : (t : Tracking) (i : NumberedInterface) (urb : UrbRecord) (interface : ℕ) → IsRead t i
    → (is_at urb.bus urb.device i.bus i.device && (interface == i.interface)) ≡ false → is_report_of i.number (content_from t urb (Some interface)) ≡ false
other_data t i urb interface read other =
    by_if i.number (list_any (is_boot urb.bus urb.device interface) t.boots) BootReport
    (content_by urb.is_truncated interface (position (has_descriptor_of urb.bus urb.device interface) t.interfaces)) refl
    (by_number (position (has_descriptor_of urb.bus urb.device interface) t.interfaces) refl)
  where
    apart : position (has_descriptor_of urb.bus urb.device interface) t.interfaces ≡ Some i.number → ⊥
    apart there =
        let x = both_at (has_descriptor_of urb.bus urb.device interface) (has_descriptor_of i.bus i.device i.interface) i.number t.interfaces there read.described in
        let is = (and_parts (is_interface urb.bus urb.device interface x.0) x.0.is_described x.1).0 in
        let here = (and_parts (is_interface i.bus i.device i.interface x.0) x.0.is_described x.2).0 in
        let wrong : true ≡ false = sym here ∙ tracked_apart i urb.bus urb.device interface other x.0 is in cc

    by_test : (m : ℕ) (b : Bool) → (m == i.number) ≡ b → position (has_descriptor_of urb.bus urb.device interface) t.interfaces ≡ Some m → (m == i.number) ≡ false
    by_test m false e there = e
    by_test m true e there = absurd (apart (there ∙ ap Some (eqb-true m i.number e)))

    by_cut : (cut : Bool) (m : ℕ) → (m == i.number) ≡ false → is_report_of i.number (if cut then TruncatedReport m else Report m) ≡ false
    by_cut true m e = refl
    by_cut false m e = e

    by_number : (found : Option ℕ) → position (has_descriptor_of urb.bus urb.device interface) t.interfaces ≡ found
        → is_report_of i.number (content_by urb.is_truncated interface found) ≡ false
    by_number None there = by_if i.number (nat_lt interface 256) Undescribed Unknown refl refl
    by_number (Some m) there = by_cut urb.is_truncated m (by_test m (m == i.number) refl there)

-- data of the interface are a report of it, if each byte was captured
own_data : (t : Tracking) (i : NumberedInterface) (urb : UrbRecord) → IsRead t i
    → is_report_of i.number (if list_any (is_boot i.bus i.device i.interface) t.boots then BootReport
    else content_by urb.is_truncated i.interface (position (has_descriptor_of i.bus i.device i.interface) t.interfaces)) ≡ not urb.is_truncated
own_data t i urb read =
    ap (λ (b : Bool). is_report_of i.number (if b then BootReport else content_by urb.is_truncated i.interface (position (has_descriptor_of i.bus i.device i.interface) t.interfaces))) read.reports
    ∙ ap (λ (n : Option ℕ). is_report_of i.number (content_by urb.is_truncated i.interface n)) read.described
    ∙ by_cut urb.is_truncated
  where
    by_cut : (cut : Bool) → is_report_of i.number (if cut then TruncatedReport i.number else Report i.number) ≡ not cut
    by_cut true = refl
    by_cut false = eq-eqb i.number i.number refl

same_data : (t : Tracking) (i : NumberedInterface) (urb : UrbRecord) (interface : ℕ) → IsRead t i → urb.bus ≡ i.bus → urb.device ≡ i.device → interface ≡ i.interface
    → is_report_of i.number (content_from t urb (Some interface)) ≡ not urb.is_truncated
same_data t i urb interface read p q r =
    ap (λ (b : ℕ). is_report_of i.number (if list_any (is_boot b urb.device interface) t.boots then BootReport
    else content_by urb.is_truncated interface (position (has_descriptor_of b urb.device interface) t.interfaces))) p
    ∙ ap (λ (d : ℕ). is_report_of i.number (if list_any (is_boot i.bus d interface) t.boots then BootReport
    else content_by urb.is_truncated interface (position (has_descriptor_of i.bus d interface) t.interfaces))) q
    ∙ ap (λ (n : ℕ). is_report_of i.number (if list_any (is_boot i.bus i.device n) t.boots then BootReport
    else content_by urb.is_truncated n (position (has_descriptor_of i.bus i.device n) t.interfaces))) r
    ∙ own_data t i urb read

-- data on the device are a report of the interface, if it is the one that they come from
data_on_device : (t : Tracking) (i : NumberedInterface) (urb : UrbRecord) (from : Option ℕ) → IsRead t i → is_at urb.bus urb.device i.bus i.device ≡ true
    → is_report_of i.number (content_from t urb from) ≡ (is_known_as i.interface from && not urb.is_truncated)
data_on_device t i urb None read here = refl
data_on_device t i urb (Some interface) read here = by (interface == i.interface) refl
  where
    by : (b : Bool) → (interface == i.interface) ≡ b → is_report_of i.number (content_from t urb (Some interface)) ≡ ((interface == i.interface) && not urb.is_truncated)
    by true e =
        let p = at_parts urb.bus urb.device i.bus i.device here in
        same_data t i urb interface read p.0 p.1 (eqb-true interface i.interface e)
        ∙ ap (λ (u : Bool). u && not urb.is_truncated) (sym e)
    by false e =
        other_data t i urb interface read (ap (λ (u : Bool). u && (interface == i.interface)) here ∙ e)
        ∙ ap (λ (u : Bool). u && not urb.is_truncated) (sym e)

data_elsewhere : (t : Tracking) (i : NumberedInterface) (urb : UrbRecord) (from : Option ℕ) → IsRead t i → is_at urb.bus urb.device i.bus i.device ≡ false
    → is_report_of i.number (content_from t urb from) ≡ false
data_elsewhere t i urb None read other = refl
data_elsewhere t i urb (Some interface) read other =
    other_data t i urb interface read (ap (λ (u : Bool). u && (interface == i.interface)) other)

data_of_endpoint : (t : Tracking) (i : NumberedInterface) (urb : UrbRecord) → IsRead t i
    → is_report_of i.number (content_from t urb (source t urb.bus urb.device urb.endpoint)) ≡ (is_from t i urb && not urb.is_truncated)
data_of_endpoint t i urb read = by (is_at urb.bus urb.device i.bus i.device) refl
  where
    by : (b : Bool) → is_at urb.bus urb.device i.bus i.device ≡ b
        → is_report_of i.number (content_from t urb (source t urb.bus urb.device urb.endpoint)) ≡ (is_from t i urb && not urb.is_truncated)
    by true e =
        let p = at_parts urb.bus urb.device i.bus i.device e in
        data_on_device t i urb (source t urb.bus urb.device urb.endpoint) read e
        ∙ ap (λ (b : ℕ). is_known_as i.interface (source t b urb.device urb.endpoint) && not urb.is_truncated) p.0
        ∙ ap (λ (d : ℕ). is_known_as i.interface (source t i.bus d urb.endpoint) && not urb.is_truncated) p.1
        ∙ ap (λ (u : Bool). (u && is_known_as i.interface (source t i.bus i.device urb.endpoint)) && not urb.is_truncated) (sym e)
    by false e =
        data_elsewhere t i urb (source t urb.bus urb.device urb.endpoint) read e
        ∙ ap (λ (u : Bool). (u && is_known_as i.interface (source t i.bus i.device urb.endpoint)) && not urb.is_truncated) (sym e)

with_data : (n : ℕ) (some cut own : Bool) (content : Content) → is_report_of n content ≡ (own && not cut)
    → is_report_of n (if some || cut then content else Nothing) ≡ (own && (some && not cut))
with_data n true cut own content is = is
with_data n false true own content is = is
with_data n false false own content is = sym (and_false own)

report_of_bytes : (t : Tracking) (i : NumberedInterface) (urb : UrbRecord) (direction : Direction) → IsRead t i
    → is_report_of i.number (content_of_bytes t urb direction)
    ≡ (is_to_host direction && (is_from t i urb && (not (length urb.payload == 0) && not urb.is_truncated)))
report_of_bytes t i urb Out read = refl
report_of_bytes t i urb In read =
    with_data i.number (not (length urb.payload == 0)) urb.is_truncated (is_from t i urb) (content_from t urb (source t urb.bus urb.device urb.endpoint))
    (data_of_endpoint t i urb read)

report_of_success : (t : Tracking) (i : NumberedInterface) (urb : UrbRecord) (transfer : Transfer) → IsRead t i
    → is_report_of i.number (outcome_of_success t urb transfer).content
    ≡ (is_completed_interrupt Completed transfer && (is_to_host urb.direction && (is_from t i urb && (not (length urb.payload == 0) && not urb.is_truncated))))
report_of_success t i urb Control read =
    not_report i.number (outcome_of_completion t urb (find (has_id urb.bus urb.device urb.id) t.requests)).content
    (report_no_completion t urb (find (has_id urb.bus urb.device urb.id) t.requests))
report_of_success t i urb Interrupt read = report_of_bytes t i urb urb.direction read
report_of_success t i urb Isochronous read = refl
report_of_success t i urb Bulk read = refl

report_by_event : (t : Tracking) (i : NumberedInterface) (urb : UrbRecord) (event : UrbEvent) → IsRead t i
    → is_report_of i.number (outcome_by_event t urb event).content
    ≡ (is_completed_interrupt event urb.transfer && (is_to_host urb.direction && (is_from t i urb && (not (length urb.payload == 0) && not urb.is_truncated))))
report_by_event t i urb Submitted read = not_report i.number (outcome_of_submission t urb urb.setup).content (report_no_submission t urb urb.setup)
report_by_event t i urb Completed read = report_of_success t i urb urb.transfer read
report_by_event t i urb Stalled read = not_report i.number (outcome_of_stall t urb urb.transfer).content (report_no_stall t urb urb.transfer)
report_by_event t i urb (Failed status) read = not_report i.number (outcome_of_failure t urb status urb.transfer).content (report_no_failure t urb status urb.transfer)

-- a URB is said to be a report of the interface if it is one
pub report_told : (t : Tracking) (i : NumberedInterface) (urb : UrbRecord) → IsRead t i → is_report_of i.number (outcome t urb).content ≡ is_report_from t i urb
unfolding outcome
report_told t i urb read = report_by_event t i urb urb.event read

-- ---- what is known after a URB

-- the interface is read, and its endpoints are those that it had
record Keeps (t after : Tracking) (i : NumberedInterface) : Type 0 where
  read : IsRead after i
  same : (endpoint : ℕ) → source after i.bus i.device endpoint ≡ source t i.bus i.device endpoint

-- nothing changes of interfaces and endpoints
kept : (t : Tracking) (i : NumberedInterface) → IsRead t i → Keeps t t i
kept t i read = record { read = read; same = λ endpoint. refl }

with_requests : (t : Tracking) (i : NumberedInterface) (requests : List PendingRequest) → IsRead t i → Keeps t (record t { requests = requests }) i
with_requests t i requests read =
    record { read = record { numbered = read.numbered; described = read.described; reports = read.reports }; same = λ endpoint. refl }

-- interfaces change that aren't this one
with_changed : (t : Tracking) (i : NumberedInterface) (interfaces : List TrackedInterface) → IsRead t i
    → position (is_interface i.bus i.device i.interface) interfaces ≡ Some i.number
    → position (has_descriptor_of i.bus i.device i.interface) interfaces ≡ Some i.number → Keeps t (record t { interfaces = interfaces }) i
with_changed t i interfaces read numbered described =
    record { read = record { numbered = numbered; described = described; reports = read.reports }; same = λ endpoint. refl }

-- a descriptor that is there or isn't leaves the number
described_number : (i : NumberedInterface) (bus device interface : ℕ) (value : Bool) (x : TrackedInterface)
    → is_interface i.bus i.device i.interface (with_described bus device interface value x) ≡ is_interface i.bus i.device i.interface x
described_number i bus device interface value x = by (is_interface bus device interface x)
  where
    by : (u : Bool) → is_interface i.bus i.device i.interface (if u then record x { is_described = value } else x) ≡ is_interface i.bus i.device i.interface x
    by true = refl
    by false = refl

-- that of another interface leaves this one's
described_apart : (i : NumberedInterface) (bus device interface : ℕ) (value : Bool) → (is_at bus device i.bus i.device && (interface == i.interface)) ≡ false → (x : TrackedInterface)
    → has_descriptor_of i.bus i.device i.interface (with_described bus device interface value x) ≡ has_descriptor_of i.bus i.device i.interface x
described_apart i bus device interface value other x = by (is_interface bus device interface x) refl
  where
    by : (u : Bool) → is_interface bus device interface x ≡ u
        → has_descriptor_of i.bus i.device i.interface (if u then record x { is_described = value } else x) ≡ has_descriptor_of i.bus i.device i.interface x
    by true e =
        let away = tracked_apart i bus device interface other x e in
        ap (λ (u : Bool). u && value) away ∙ sym (ap (λ (u : Bool). u && x.is_described) away)
    by false e = refl

described_other : (t : Tracking) (i : NumberedInterface) (bus device interface : ℕ) (value : Bool) → IsRead t i
    → (is_at bus device i.bus i.device && (interface == i.interface)) ≡ false → Keeps t (record t { interfaces = map (with_described bus device interface value) t.interfaces }) i
described_other t i bus device interface value read other =
    with_changed t i (map (with_described bus device interface value) t.interfaces) read
    (position_map (is_interface i.bus i.device i.interface) (is_interface i.bus i.device i.interface) (with_described bus device interface value)
    (described_number i bus device interface value) t.interfaces ∙ read.numbered)
    (position_map (has_descriptor_of i.bus i.device i.interface) (has_descriptor_of i.bus i.device i.interface) (with_described bus device interface value)
    (described_apart i bus device interface value other) t.interfaces ∙ read.described)

-- with its descriptor, an interface has one
described_as : (bus device interface : ℕ) (x : TrackedInterface)
    → has_descriptor_of bus device interface (with_described bus device interface true x) ≡ is_interface bus device interface x
described_as bus device interface x = by (is_interface bus device interface x) refl
  where
    by : (u : Bool) → is_interface bus device interface x ≡ u
        → has_descriptor_of bus device interface (if u then record x { is_described = true } else x) ≡ is_interface bus device interface x
    by true e = ap (λ (u : Bool). u && true) e ∙ sym e
    by false e = ap (λ (u : Bool). u && x.is_described) e ∙ sym e

-- where no interface has its number, none with a descriptor has
undescribed_none : (bus device interface : ℕ) (xs : List TrackedInterface) → position (is_interface bus device interface) xs ≡ None
    → position (has_descriptor_of bus device interface) xs ≡ None
undescribed_none bus device interface xs none =
    position_none (is_interface bus device interface) (has_descriptor_of bus device interface)
    (λ x has. (and_parts (is_interface bus device interface x) x.is_described has).0) xs none

-- its own descriptor is read once more
described_again : (t : Tracking) (i : NumberedInterface) → IsRead t i
    → Keeps t (record t { interfaces = map (with_described i.bus i.device i.interface true) t.interfaces }) i
described_again t i read =
    with_changed t i (map (with_described i.bus i.device i.interface true) t.interfaces) read
    (position_map (is_interface i.bus i.device i.interface) (is_interface i.bus i.device i.interface) (with_described i.bus i.device i.interface true)
    (described_number i i.bus i.device i.interface true) t.interfaces ∙ read.numbered)
    (position_map (has_descriptor_of i.bus i.device i.interface) (is_interface i.bus i.device i.interface) (with_described i.bus i.device i.interface true)
    (described_as i.bus i.device i.interface) t.interfaces ∙ read.numbered)

described_any : (t : Tracking) (i : NumberedInterface) (bus device interface : ℕ) → IsRead t i
    → Keeps t (record t { interfaces = map (with_described bus device interface true) t.interfaces }) i
described_any t i bus device interface read = by (is_at bus device i.bus i.device && (interface == i.interface)) refl
  where
    by : (b : Bool) → (is_at bus device i.bus i.device && (interface == i.interface)) ≡ b
        → Keeps t (record t { interfaces = map (with_described bus device interface true) t.interfaces }) i
    by false e = described_other t i bus device interface true read e
    by true e =
        let p = and_parts (is_at bus device i.bus i.device) (interface == i.interface) e in
        let q = at_parts bus device i.bus i.device p.0 in
        let r = eqb-true interface i.interface p.1 in
        subst (λ (b : ℕ). Keeps t (record t { interfaces = map (with_described b device interface true) t.interfaces }) i) (sym q.0)
        (subst (λ (d : ℕ). Keeps t (record t { interfaces = map (with_described i.bus d interface true) t.interfaces }) i) (sym q.1)
        (subst (λ (n : ℕ). Keeps t (record t { interfaces = map (with_described i.bus i.device n true) t.interfaces }) i) (sym r)
        (described_again t i read)))

-- ---- an interface that gets a number

-- a free number isn't that of an interface that is read
free_apart : (t : Tracking) (i : NumberedInterface) (n : ℕ) → IsRead t i → position is_free t.interfaces ≡ Some n → n ≡ i.number → ⊥
free_apart t i n read free same =
    let x = both_at is_free (has_descriptor_of i.bus i.device i.interface) i.number t.interfaces (free ∙ ap Some same) read.described in
    let has = (and_parts (is_interface i.bus i.device i.interface x.0) x.0.is_described x.2).1 in
    let wrong : false ≡ true = sym (ap not has) ∙ x.1 in cc

-- one that has none isn't the one that is read
unnumbered_apart : (t : Tracking) (i : NumberedInterface) (bus device interface : ℕ) → IsRead t i → position (is_interface bus device interface) t.interfaces ≡ None
    → (is_at bus device i.bus i.device && (interface == i.interface)) ≡ false
unnumbered_apart t i bus device interface read none = by (is_at bus device i.bus i.device && (interface == i.interface)) refl
  where
    wrong : (is_at bus device i.bus i.device && (interface == i.interface)) ≡ true → ⊥
    wrong e =
        let p = and_parts (is_at bus device i.bus i.device) (interface == i.interface) e in
        let q = at_parts bus device i.bus i.device p.0 in
        let r = eqb-true interface i.interface p.1 in
        let there : position (is_interface bus device interface) t.interfaces ≡ Some i.number =
        ap (λ (b : ℕ). position (is_interface b device interface) t.interfaces) q.0
        ∙ ap (λ (d : ℕ). position (is_interface i.bus d interface) t.interfaces) q.1
        ∙ ap (λ (n : ℕ). position (is_interface i.bus i.device n) t.interfaces) r ∙ read.numbered in
        let none_is_some : None ≡ Some i.number = sym none ∙ there in cc

    by : (b : Bool) → (is_at bus device i.bus i.device && (interface == i.interface)) ≡ b → (is_at bus device i.bus i.device && (interface == i.interface)) ≡ false
    by false e = e
    by true e = absurd (wrong e)

new_number : (t : Tracking) (i : NumberedInterface) (bus device interface n : ℕ) → IsRead t i → position (is_interface bus device interface) t.interfaces ≡ None
    → ((n == length t.interfaces) ≡ false → n ≡ i.number → ⊥)
    → Keeps t (record t { interfaces = interfaces_with t.interfaces n (new_interface bus device interface) }) i
new_number t i bus device interface n read none apart = by (n == length t.interfaces) refl
  where
    other : is_interface i.bus i.device i.interface (new_interface bus device interface) ≡ false
    other =
        tracked_apart i bus device interface (unnumbered_apart t i bus device interface read none) (new_interface bus device interface)
        (ap (λ (b : Bool). b && (interface == interface)) (at_same bus device bus device refl refl) ∙ eq-eqb interface interface refl)

    undescribed : has_descriptor_of i.bus i.device i.interface (new_interface bus device interface) ≡ false
    undescribed = ap (λ (b : Bool). b && true) other

    by : (b : Bool) → (n == length t.interfaces) ≡ b
        → Keeps t (record t { interfaces = if b then t.interfaces ++ new_interface bus device interface ∷ [] else slice_set t.interfaces n (new_interface bus device interface) }) i
    by true e =
        with_changed t i (t.interfaces ++ new_interface bus device interface ∷ []) read
        (position_append (is_interface i.bus i.device i.interface) i.number t.interfaces (new_interface bus device interface ∷ []) read.numbered)
        (position_append (has_descriptor_of i.bus i.device i.interface) i.number t.interfaces (new_interface bus device interface ∷ []) read.described)
    by false e =
        with_changed t i (slice_set t.interfaces n (new_interface bus device interface)) read
        (position_set (is_interface i.bus i.device i.interface) i.number n t.interfaces (new_interface bus device interface) read.numbered other (apart e))
        (position_set (has_descriptor_of i.bus i.device i.interface) i.number n t.interfaces (new_interface bus device interface) read.described undescribed (apart e))

keeps_next : (t : Tracking) (i : NumberedInterface) (bus device interface : ℕ) (b : Bool) → IsRead t i → position (is_interface bus device interface) t.interfaces ≡ None
    → Keeps t (outcome_of_number t (new_interface bus device interface) (if b then Some (length t.interfaces) else position is_free t.interfaces)).after i
keeps_next t i bus device interface true read none =
    new_number t i bus device interface (length t.interfaces) read none
    (λ e same. let wrong : true ≡ false = sym (eq-eqb (length t.interfaces) (length t.interfaces) refl) ∙ e in cc)
keeps_next t i bus device interface false read none = by (position is_free t.interfaces) refl
  where
    by : (found : Option ℕ) → position is_free t.interfaces ≡ found
        → Keeps t (outcome_of_number t (new_interface bus device interface) found).after i
    by None e = kept t i read
    by (Some n) e = new_number t i bus device interface n read none (λ other same. free_apart t i n read e same)

keeps_descriptor : (t : Tracking) (i : NumberedInterface) (bus device interface : ℕ) (found : Option ℕ) → IsRead t i
    → position (is_interface bus device interface) t.interfaces ≡ found → Keeps t (outcome_of_descriptor t bus device interface found).after i
keeps_descriptor t i bus device interface (Some n) read at = described_any t i bus device interface read
keeps_descriptor t i bus device interface None read at = keeps_next t i bus device interface (nat_lt (length t.interfaces) 16) read at

keeps_description : (t : Tracking) (i : NumberedInterface) (urb : UrbRecord) (interface : ℕ) (cut : Bool) → IsRead t i
    → Keeps t (outcome_of_description t urb interface cut).after i
keeps_description t i urb interface true read = kept t i read
keeps_description t i urb interface false read =
    keeps_descriptor t i urb.bus urb.device interface (position (is_interface urb.bus urb.device interface) t.interfaces) read refl

-- ---- another device gets an address

without_number : (i : NumberedInterface) (bus device : ℕ) (x : TrackedInterface)
    → is_interface i.bus i.device i.interface (without_descriptor_on bus device x) ≡ is_interface i.bus i.device i.interface x
without_number i bus device x = by (is_at x.bus x.device bus device)
  where
    by : (u : Bool) → is_interface i.bus i.device i.interface (if u then record x { is_described = false } else x) ≡ is_interface i.bus i.device i.interface x
    by true = refl
    by false = refl

without_apart : (i : NumberedInterface) (bus device : ℕ) → is_at bus device i.bus i.device ≡ false → (x : TrackedInterface)
    → has_descriptor_of i.bus i.device i.interface (without_descriptor_on bus device x) ≡ has_descriptor_of i.bus i.device i.interface x
without_apart i bus device other x = by (is_at x.bus x.device bus device) refl
  where
    by : (u : Bool) → is_at x.bus x.device bus device ≡ u
        → has_descriptor_of i.bus i.device i.interface (if u then record x { is_described = false } else x) ≡ has_descriptor_of i.bus i.device i.interface x
    by true e =
        let away = at_apart x.bus x.device bus device i.bus i.device other e in
        let none = ap (λ (b : Bool). b && (x.interface == i.interface)) away in
        ap (λ (u : Bool). u && false) none ∙ sym (ap (λ (u : Bool). u && x.is_described) none)
    by false e = refl

-- what is on the device isn't on the other
pub on_device : (bus device a b : ℕ) (i : NumberedInterface) → is_at bus device i.bus i.device ≡ false → is_at a b i.bus i.device ≡ true → not (is_at a b bus device) ≡ true
on_device bus device a b i other is = by (is_at a b bus device) refl
  where
    by : (u : Bool) → is_at a b bus device ≡ u → not u ≡ true
    by false e = refl
    by true e = absurd (let wrong : true ≡ false = sym (at_meets a b bus device i.bus i.device e is) ∙ other in cc)

-- an endpoint is on its device
pub endpoint_on : (active : Option Configuration) (bus device endpoint : ℕ) (e : InterruptEndpoint) → is_endpoint active bus device endpoint e ≡ true
    → is_at e.configuration.bus e.configuration.device bus device ≡ true
endpoint_on active bus device endpoint e is = by (is_of_device bus device e) (e.endpoint == endpoint) (may_be_active active e.configuration) is
  where
    by : (u v w : Bool) → (u && v && w) ≡ true → u ≡ true
    by true v w h = refl
    by false v w h = h

same_source : (t : Tracking) (i : NumberedInterface) (bus device endpoint : ℕ) → is_at bus device i.bus i.device ≡ false
    → source (with_address t bus device) i.bus i.device endpoint ≡ source t i.bus i.device endpoint
same_source t i bus device endpoint other =
    ap (λ (c : Option Configuration). source_of endpoint (find (is_endpoint c i.bus i.device endpoint) (filter (λ e. not (is_of_device bus device e)) t.endpoints)))
    (find_kept (is_configuration_on i.bus i.device) (λ c. not (is_configuration_on bus device c)) (λ c is. on_device bus device c.bus c.device i other is) t.active_configurations)
    ∙ ap (source_of endpoint)
    (find_kept (is_endpoint (find (is_configuration_on i.bus i.device) t.active_configurations) i.bus i.device endpoint) (λ e. not (is_of_device bus device e))
    (λ e is. on_device bus device e.configuration.bus e.configuration.device i other
    (endpoint_on (find (is_configuration_on i.bus i.device) t.active_configurations) i.bus i.device endpoint e is)) t.endpoints)

keeps_address : (t : Tracking) (i : NumberedInterface) (bus device : ℕ) → IsRead t i → is_at bus device i.bus i.device ≡ false → Keeps t (with_address t bus device) i
keeps_address t i bus device read other = record {
  read = record {
    numbered =
        position_map (is_interface i.bus i.device i.interface) (is_interface i.bus i.device i.interface) (without_descriptor_on bus device)
        (without_number i bus device) t.interfaces ∙ read.numbered;
    described =
        position_map (has_descriptor_of i.bus i.device i.interface) (has_descriptor_of i.bus i.device i.interface) (without_descriptor_on bus device)
        (without_apart i bus device other) t.interfaces ∙ read.described;
    reports = any_filter (is_boot i.bus i.device i.interface) (λ b. not (is_boot_of bus device b)) t.boots read.reports;
  };
  same = λ endpoint. same_source t i bus device endpoint other;
}

-- ---- another interface is put into a protocol

any_latest : (p : BootInterface → Bool) (b : Bool) (xs : List BootInterface) → list_any p xs ≡ false → list_any p (if b then xs else drop 1 xs) ≡ false
any_latest p true xs none = none
any_latest p false xs none = any_behind p xs none

any_boots : (i : NumberedInterface) (boot : Bool) (one : BootInterface) (others : List BootInterface) → list_any (is_boot i.bus i.device i.interface) others ≡ false
    → (boot && is_boot i.bus i.device i.interface one) ≡ false → list_any (is_boot i.bus i.device i.interface) (boots_with boot one others) ≡ false
any_boots i true one others none other =
    list_any-append (is_boot i.bus i.device i.interface) (latest most_kept others) (one ∷ [])
    ∙ ap (λ (b : Bool). b || (is_boot i.bus i.device i.interface one || false))
    (any_latest (is_boot i.bus i.device i.interface) (nat_lt (length others) most_kept) others none)
    ∙ ap (λ (b : Bool). b || false) other
any_boots i false one others none other = none

keeps_protocol : (t : Tracking) (i : NumberedInterface) (bus device interface : ℕ) (boot : Bool) → IsRead t i
    → (boot && (is_at bus device i.bus i.device && (interface == i.interface))) ≡ false → Keeps t (with_protocol t bus device interface boot) i
keeps_protocol t i bus device interface boot read other = record {
  read = record {
    numbered = read.numbered;
    described = read.described;
    reports =
        any_boots i boot (record { bus = bus; device = device; interface = interface }) (filter (λ b. not (is_boot bus device interface b)) t.boots)
        (any_filter (is_boot i.bus i.device i.interface) (λ b. not (is_boot bus device interface b)) t.boots read.reports) other;
  };
  same = λ endpoint. refl;
}

-- ---- a URB

with_undescribed : (t : Tracking) (i : NumberedInterface) (known : List UndescribedEndpoint) → IsRead t i → Keeps t (record t { undescribed = known }) i
with_undescribed t i known read =
    record { read = record { numbered = read.numbered; described = read.described; reports = read.reports }; same = λ endpoint. refl }

keeps_answer : (t : Tracking) (i : NumberedInterface) (urb : UrbRecord) (request : Request) → IsRead t i → request_ends i urb request ≡ false
    → Keeps t (outcome_of_answer t urb request).after i
keeps_answer t i urb (SetAddress address) read on = keeps_address t i urb.bus address read on
keeps_answer t i urb (SetConfiguration value) read on = absurd cc
keeps_answer t i urb GetConfigurationDescriptor read on = by (whole_configuration urb.payload) on
  where
    by : (found : Option (ℕ × ℕ)) → is_there found ≡ false → Keeps t (with_answer t urb found) i
    by None e = kept t i read
    by (Some found) e = absurd cc
keeps_answer t i urb (GetReportDescriptor interface) read on = keeps_description t i urb interface urb.is_truncated read
keeps_answer t i urb (SetProtocol interface boot) read on = keeps_protocol t i urb.bus urb.device interface boot read on
keeps_answer t i urb HubPort read on = with_undescribed t i (without_hub t.undescribed urb.bus urb.device) read
keeps_answer t i urb Other read on = kept t i read

-- after a request was dropped, the same
keeps_on : (t between after : Tracking) (i : NumberedInterface) → Keeps t between i → Keeps between after i → Keeps t after i
keeps_on t between after i one two = record { read = two.read; same = λ endpoint. two.same endpoint ∙ one.same endpoint }

keeps_completion : (t : Tracking) (i : NumberedInterface) (urb : UrbRecord) (found : Option PendingRequest) → IsRead t i → answer_ends i urb found ≡ false
    → Keeps t (outcome_of_completion t urb found).after i
keeps_completion t i urb None read on = kept t i read
keeps_completion t i urb (Some r) read on =
    let dropped = with_requests t i (other_requests urb t.requests) read in
    keeps_on t (without_request t urb) (outcome_of_answer (without_request t urb) urb (request_of r.setup)).after i dropped
    (keeps_answer (without_request t urb) i urb (request_of r.setup) dropped.read on)

keeps_bytes : (t : Tracking) (i : NumberedInterface) (urb : UrbRecord) (is_hid : Option Bool) → IsRead t i → Keeps t (after_bytes t urb is_hid) i
keeps_bytes t i urb None read = kept t i read
keeps_bytes t i urb (Some is_hid) read = with_undescribed t i (with_transfer_of t.undescribed urb.bus urb.device urb.endpoint is_hid) read

keeps_success : (t : Tracking) (i : NumberedInterface) (urb : UrbRecord) (transfer : Transfer) → IsRead t i → event_ends t i urb Completed transfer ≡ false
    → Keeps t (outcome_of_success t urb transfer).after i
keeps_success t i urb Control read on = keeps_completion t i urb (pending_request t urb) read on
keeps_success t i urb Interrupt read on = keeps_bytes t i urb (lacks_descriptor (content_of_bytes t urb urb.direction)) read
keeps_success t i urb Isochronous read on = kept t i read
keeps_success t i urb Bulk read on = kept t i read

keeps_stall : (t : Tracking) (i : NumberedInterface) (urb : UrbRecord) (transfer : Transfer) → IsRead t i → Keeps t (outcome_of_stall t urb transfer).after i
keeps_stall t i urb Control read = with_requests t i (other_requests urb t.requests) read
keeps_stall t i urb Interrupt read = kept t i read
keeps_stall t i urb Isochronous read = kept t i read
keeps_stall t i urb Bulk read = kept t i read

-- an endpoint of another interface is gone
keeps_shutdown : (t : Tracking) (i : NumberedInterface) (urb : UrbRecord) (from : Option ℕ) → IsRead t i
    → (is_at urb.bus urb.device i.bus i.device && is_known_as i.interface from) ≡ false → Keeps t (outcome_of_shutdown t urb from).after i
keeps_shutdown t i urb None read on = kept t i read
keeps_shutdown t i urb (Some interface) read on = described_other t i urb.bus urb.device interface false read on

-- the endpoint's interface on the device where the URB is
elsewhere : (t : Tracking) (i : NumberedInterface) (urb : UrbRecord) → is_from t i urb ≡ false
    → (is_at urb.bus urb.device i.bus i.device && is_known_as i.interface (source t urb.bus urb.device urb.endpoint)) ≡ false
elsewhere t i urb on = by (is_at urb.bus urb.device i.bus i.device) refl on
  where
    by : (b : Bool) → is_at urb.bus urb.device i.bus i.device ≡ b → (b && is_known_as i.interface (source t i.bus i.device urb.endpoint)) ≡ false
        → (b && is_known_as i.interface (source t urb.bus urb.device urb.endpoint)) ≡ false
    by true e h =
        let p = at_parts urb.bus urb.device i.bus i.device e in
        ap (λ (b : ℕ). is_known_as i.interface (source t b urb.device urb.endpoint)) p.0
        ∙ ap (λ (d : ℕ). is_known_as i.interface (source t i.bus d urb.endpoint)) p.1 ∙ h
    by false e h = refl

keeps_failure : (t : Tracking) (i : NumberedInterface) (urb : UrbRecord) (status : ℕ) (transfer : Transfer) → IsRead t i
    → event_ends t i urb (Failed status) transfer ≡ false → Keeps t (outcome_of_failure t urb status transfer).after i
keeps_failure t i urb status Control read on = with_requests t i (other_requests urb t.requests) read
keeps_failure t i urb status Interrupt read on = by (is_gone status) on
  where
    by : (b : Bool) → (b && is_from t i urb) ≡ false → Keeps t (if b then outcome_of_shutdown t urb (source t urb.bus urb.device urb.endpoint) else silence t).after i
    by true h = keeps_shutdown t i urb (source t urb.bus urb.device urb.endpoint) read (elsewhere t i urb h)
    by false h = kept t i read
keeps_failure t i urb status Isochronous read on = kept t i read
keeps_failure t i urb status Bulk read on = kept t i read

keeps_submission : (t : Tracking) (i : NumberedInterface) (urb : UrbRecord) (setup : Option (List ℕ)) → IsRead t i → Keeps t (outcome_of_submission t urb setup).after i
keeps_submission t i urb None read = kept t i read
keeps_submission t i urb (Some setup) read =
    with_requests t i (latest most_kept (other_requests urb t.requests) ++ record { bus = urb.bus; device = urb.device; id = urb.id; setup = setup } ∷ []) read

keeps_event : (t : Tracking) (i : NumberedInterface) (urb : UrbRecord) (event : UrbEvent) → IsRead t i → event_ends t i urb event urb.transfer ≡ false
    → Keeps t (outcome_by_event t urb event).after i
keeps_event t i urb Submitted read on = keeps_submission t i urb urb.setup read
keeps_event t i urb Completed read on = keeps_success t i urb urb.transfer read on
keeps_event t i urb Stalled read on = keeps_stall t i urb urb.transfer read
keeps_event t i urb (Failed status) read on = keeps_failure t i urb status urb.transfer read on

-- a URB that doesn't end it
keeps : (t : Tracking) (i : NumberedInterface) (urb : UrbRecord) → IsRead t i → ends t i urb ≡ false → Keeps t (outcome t urb).after i
unfolding outcome
keeps t i urb read on = keeps_event t i urb urb.event read on

-- ---- all URBs

same_report : (t after : Tracking) (i : NumberedInterface) (urb : UrbRecord) → Keeps t after i → is_report_from after i urb ≡ is_report_from t i urb
same_report t after i urb keeps =
    ap (λ (from : Option ℕ). is_completed_interrupt urb.event urb.transfer && (is_to_host urb.direction
    && ((is_at urb.bus urb.device i.bus i.device && is_known_as i.interface from) && (not (length urb.payload == 0) && not urb.is_truncated))))
    (keeps.same urb.endpoint)

same_sent : (t after : Tracking) (i : NumberedInterface) (urbs : List UrbRecord) → Keeps t after i → reports_sent after i urbs ≡ reports_sent t i urbs
same_sent t after i [] keeps = refl
same_sent t after i (urb ∷ rest) keeps =
    ap (λ (b : Bool). map (λ (u : UrbRecord). u.payload) (cond b (urb ∷ filter (is_report_from after i) rest) (filter (is_report_from after i) rest))) (same_report t after i urb keeps)
    ∙ by (is_report_from t i urb) (same_sent t after i rest keeps)
  where
    by : (b : Bool) → reports_sent after i rest ≡ reports_sent t i rest
        → map (λ (u : UrbRecord). u.payload) (cond b (urb ∷ filter (is_report_from after i) rest) (filter (is_report_from after i) rest))
        ≡ map (λ (u : UrbRecord). u.payload) (cond b (urb ∷ filter (is_report_from t i) rest) (filter (is_report_from t i) rest))
    by true e = ap (λ (l : List (List ℕ)). urb.payload ∷ l) e
    by false e = e

sent_first : (t : Tracking) (i : NumberedInterface) (urb : UrbRecord) (rest : List UrbRecord)
    → reports_sent t i (urb ∷ rest) ≡ (if is_report_from t i urb then urb.payload ∷ [] else []) ++ reports_sent t i rest
sent_first t i urb rest = by (is_report_from t i urb)
  where
    by : (b : Bool) → map (λ (u : UrbRecord). u.payload) (cond b (urb ∷ filter (is_report_from t i) rest) (filter (is_report_from t i) rest))
        ≡ (if b then urb.payload ∷ [] else []) ++ reports_sent t i rest
    by true = refl
    by false = refl

-- what is told is what is sent
pub all_told : (t : Tracking) (i : NumberedInterface) (urbs : List UrbRecord) → IsRead t i → NoneEnds t i urbs → reports_told t i.number urbs ≡ reports_sent t i urbs
all_told t i [] read on = refl
all_told t i (urb ∷ rest) read on =
    let after = keeps t i urb read on.0 in
    ap (λ (b : Bool). (if b then urb.payload ∷ [] else []) ++ reports_told (outcome t urb).after i.number rest) (report_told t i urb read)
    ∙ ap (λ (l : List (List ℕ)). (if is_report_from t i urb then urb.payload ∷ [] else []) ++ l)
    (all_told (outcome t urb).after i rest after.read on.1 ∙ same_sent t (outcome t urb).after i rest after)
    ∙ sym (sent_first t i urb rest)

-- ---- the first descriptor

-- an interface has a number and a descriptor
abbrev Begins : UrbRecord → ℕ → Outcome → Type 0
Begins urb interface o =
    (n : ℕ) × (o.content ≡ Descriptor n) × IsRead o.after (record { bus = urb.bus; device = urb.device; interface = interface; number = n })

begins_number : (t : Tracking) (urb : UrbRecord) (interface : ℕ) (found : Option ℕ) → position (is_interface urb.bus urb.device interface) t.interfaces ≡ found
    → list_any (is_boot urb.bus urb.device interface) t.boots ≡ false → length t.interfaces < 16
    → Begins urb interface (outcome_of_descriptor t urb.bus urb.device interface found)
begins_number t urb interface (Some n) at reports few = (
  n,
  refl,
  record {
    numbered =
        position_map (is_interface urb.bus urb.device interface) (is_interface urb.bus urb.device interface) (with_described urb.bus urb.device interface true)
        (described_number (record { bus = urb.bus; device = urb.device; interface = interface; number = n }) urb.bus urb.device interface true) t.interfaces ∙ at;
    described =
        position_map (has_descriptor_of urb.bus urb.device interface) (is_interface urb.bus urb.device interface) (with_described urb.bus urb.device interface true)
        (described_as urb.bus urb.device interface) t.interfaces ∙ at;
    reports = reports;
  },
)
begins_number t urb interface None at reports few =
    subst (λ (b : Bool). Begins urb interface (outcome_of_number t new (if b then Some (length t.interfaces) else position is_free t.interfaces)))
    (sym (lt-ltb (length t.interfaces) 16 few)) (
      length t.interfaces,
      refl,
      record {
        numbered = subst (λ (b : Bool). position (is_interface urb.bus urb.device interface) (if b then t.interfaces ++ new ∷ [] else slice_set t.interfaces (length t.interfaces) new) ≡ Some (length t.interfaces))
            (sym (eq-eqb (length t.interfaces) (length t.interfaces) refl)) (position_push (is_interface urb.bus urb.device interface) t.interfaces new at is_new);
        described = subst (λ (b : Bool). position (has_descriptor_of urb.bus urb.device interface) (if b then t.interfaces ++ new ∷ [] else slice_set t.interfaces (length t.interfaces) new) ≡ Some (length t.interfaces))
            (sym (eq-eqb (length t.interfaces) (length t.interfaces) refl))
            (position_push (has_descriptor_of urb.bus urb.device interface) t.interfaces new (undescribed_none urb.bus urb.device interface t.interfaces at) (ap (λ (b : Bool). b && true) is_new));
        reports = reports;
      },
    )
  where
    new : TrackedInterface
    new = new_interface urb.bus urb.device interface

    is_new : is_interface urb.bus urb.device interface (new_interface urb.bus urb.device interface) ≡ true
    is_new = ap (λ (b : Bool). b && (interface == interface)) (at_same urb.bus urb.device urb.bus urb.device refl refl) ∙ eq-eqb interface interface refl

begins_completion : (t : Tracking) (urb : UrbRecord) (interface : ℕ) (found : Option PendingRequest) → IsFor interface found → urb.is_truncated ≡ false
    → list_any (is_boot urb.bus urb.device interface) t.boots ≡ false → length t.interfaces < 16
    → Begins urb interface (outcome_of_completion t urb found)
begins_completion t urb interface None is whole reports few = absurd cc
begins_completion t urb interface (Some r) is whole reports few =
    subst (λ (q : Request). Begins urb interface (outcome_of_answer (without_request t urb) urb q)) (sym is)
    (subst (λ (b : Bool). Begins urb interface (outcome_of_description (without_request t urb) urb interface b)) (sym whole)
    (begins_number (without_request t urb) urb interface (position (is_interface urb.bus urb.device interface) t.interfaces) refl reports few))

pub begins : (t : Tracking) (urb : UrbRecord) (interface : ℕ) → Describes t urb interface → list_any (is_boot urb.bus urb.device interface) t.boots ≡ false
    → length t.interfaces < 16 → Begins urb interface (outcome t urb)
unfolding outcome
begins t urb interface d reports few =
    subst (λ (e : UrbEvent). Begins urb interface (outcome_by_event t urb e)) (sym d.completed)
    (subst (λ (r : Transfer). Begins urb interface (outcome_of_success t urb r)) (sym d.control)
    (begins_completion t urb interface (pending_request t urb) d.request d.whole reports few))
