-- A device without a descriptor sends no report, and stays without one until a URB has a descriptor.
use Rattle.std.proofs.Common.{◌≡◌, ℕ, ◌+◌, Bool, List, [], ◌∷◌, ◌++◌, length, take, map, refl, sym, ap, ◌∙◌, subst, cond, Option, Some, None, true, false}
use Rattle.std.specs.Prelude.{if◌then◌else◌, ◌==◌, ◌&&◌, ◌||◌, not, nat_lt, filter, position}
use Rattle.std.specs.List.{find, list_any, position_from}
use Rattle.std.proofs.lemmas.Iterator.Adapters.{position_from-zero}
use Rattle.usb_capture.specs.declared.urb.Direction.{Direction}
use Rattle.usb_capture.specs.declared.urb.Direction.TheVariants.{Out, In}
use Rattle.usb_capture.specs.declared.urb.Transfer.{Transfer}
use Rattle.usb_capture.specs.declared.urb.Transfer.TheVariants.{Isochronous, Interrupt, Control, Bulk}
use Rattle.usb_capture.specs.declared.urb.UrbEvent.{UrbEvent}
use Rattle.usb_capture.specs.declared.urb.UrbEvent.TheVariants.{Submitted, Completed, Stalled, Failed}
use Rattle.usb_capture.specs.UrbRecord.{UrbRecord}
use Rattle.hid_capture.specs.declared.configuration.Configuration.{Configuration}
use Rattle.hid_capture.specs.declared.configuration.InterruptEndpoint.{InterruptEndpoint}
use Rattle.hid_capture.specs.declared.request.Request.{Request}
use Rattle.hid_capture.specs.declared.request.Request.TheVariants.{SetAddress, SetConfiguration, GetConfigurationDescriptor, GetReportDescriptor, SetProtocol, HubPort, Other}
use Rattle.hid_capture.specs.declared.tables.PendingRequest.{PendingRequest}
use Rattle.hid_capture.specs.declared.tables.TrackedInterface.{TrackedInterface}
use Rattle.hid_capture.specs.declared.tracker.Content.{Content}
use Rattle.hid_capture.specs.declared.tracker.Content.TheVariants.{Nothing, Undescribed, Unknown, BootReport, DeviceDisconnected}
use Rattle.hid_capture.specs.Descriptors.{endpoints_in, whole_configuration}
use Rattle.hid_capture.specs.Laws.{is_descriptor, is_report, IsUndescribed}
use Rattle.hid_capture.specs.Requests.{request_of}
use Rattle.hid_capture.specs.Tracking.{Tracking, Outcome, has_id, is_at, is_boot, is_configuration_on, is_described_on, is_endpoint_of, is_interface, has_descriptor_of, has_data, is_gone, latest, leaves, most_kept, next_number, is_of_configuration, endpoints_with, with_configuration, with_endpoints, new_interface, disconnection, disconnection_of, source, silence, after_bytes, lacks_descriptor, content_by, content_from, content_of_bytes, without_descriptor_on, with_described, with_interface, with_interface_of, with_interface_in, without_request, with_address, with_answer, outcome, outcome_of_description, outcome_of_descriptor, outcome_of_number, outcome_of_answer, outcome_of_completion, outcome_of_submission, outcome_of_success, outcome_of_stall, outcome_of_failure, outcome_of_shutdown, outcome_by_event}

-- ---- lists

-- where a test passes nowhere, one that it implies passes nowhere
any_less : {X : Type 0} (p q : X → Bool) → ((x : X) → q x ≡ true → p x ≡ true) → (xs : List X) → list_any p xs ≡ false → list_any q xs ≡ false
any_less p q less [] none = refl
any_less p q less (x ∷ xs) none = by (p x) (q x) (less x) (any_less p q less xs) none
  where
    different : false ≡ true → ⊥
    different e = cc

    by : (b c : Bool) → (c ≡ true → b ≡ true) → (list_any p xs ≡ false → list_any q xs ≡ false) → (b || list_any p xs) ≡ false → (c || list_any q xs) ≡ false
    by true c l more n = absurd cc
    by false true l more n = absurd (different (l refl))
    by false false l more n = more n

-- what lets a test pass nowhere more than before keeps it so
any_map : {X : Type 0} (p : X → Bool) (f : X → X) → ((x : X) → p (f x) ≡ true → p x ≡ true) → (xs : List X) → list_any p xs ≡ false → list_any p (map f xs) ≡ false
any_map p f less [] none = refl
any_map p f less (x ∷ xs) none = by (p x) (p (f x)) (less x) (any_map p f less xs) none
  where
    different : false ≡ true → ⊥
    different e = cc

    by : (b c : Bool) → (c ≡ true → b ≡ true) → (list_any p xs ≡ false → list_any p (map f xs) ≡ false) → (b || list_any p xs) ≡ false → (c || list_any p (map f xs)) ≡ false
    by true c l more n = absurd cc
    by false true l more n = absurd (different (l refl))
    by false false l more n = more n

-- a test that passes nowhere has no position
none_from : {X : Type 0} (p : X → Bool) (i : ℕ) (xs : List X) → list_any p xs ≡ false → position_from p i xs ≡ None
none_from p i [] none = refl
none_from p i (x ∷ xs) none = by (p x) (none_from p (i + 1) xs) none
  where
    by : (b : Bool) → (list_any p xs ≡ false → position_from p (i + 1) xs ≡ None) → (b || list_any p xs) ≡ false → cond b (Some i) (position_from p (i + 1) xs) ≡ None
    by true more n = absurd cc
    by false more n = more n

no_position : {X : Type 0} (p : X → Bool) (xs : List X) → list_any p xs ≡ false → position p xs ≡ None
no_position p xs none = position_from-zero p xs ∙ none_from p 0 xs none

-- ---- interfaces

-- an interface with a descriptor is one of its device
described_of : (bus device interface : ℕ) (x : TrackedInterface) → has_descriptor_of bus device interface x ≡ true → is_described_on bus device x ≡ true
described_of bus device interface x has = by (is_at x.bus x.device bus device) (x.interface == interface) x.is_described has
  where
    by : (u v w : Bool) → ((u && v) && w) ≡ true → (u && w) ≡ true
    by true true w h = h
    by true false w h = absurd cc
    by false v w h = absurd cc

-- what becomes of an interface without its descriptor
without_more : (bus device : ℕ) (b : Bool) (x : TrackedInterface) → is_described_on bus device (if b then record x { is_described = false } else x) ≡ true
    → is_described_on bus device x ≡ true
without_more bus device true x has = absurd (by (is_at x.bus x.device bus device) has)
  where
    by : (u : Bool) → (u && false) ≡ true → ⊥
    by true h = cc
    by false h = cc
without_more bus device false x has = has

interface_more : (bus device : ℕ) (x : TrackedInterface) (found : Option ℕ) → is_described_on bus device (with_interface x found) ≡ true → is_described_on bus device x ≡ true
interface_more bus device x None has = has
interface_more bus device x (Some interface) has = has

interface_of_more : (bus device : ℕ) (x : TrackedInterface) (found : Option InterruptEndpoint) → is_described_on bus device (with_interface_of x found) ≡ true
    → is_described_on bus device x ≡ true
interface_of_more bus device x None has = has
interface_of_more bus device x (Some e) has = interface_more bus device x e.interface has

-- the interfaces keep none where they get their numbers
numbered_none : (bus device : ℕ) (cs : List Configuration) (es : List InterruptEndpoint) (xs : List TrackedInterface)
    → list_any (is_described_on bus device) xs ≡ false → list_any (is_described_on bus device) (map (with_interface_in cs es) xs) ≡ false
numbered_none bus device cs es xs none =
    any_map (is_described_on bus device) (with_interface_in cs es)
    (λ x has. interface_of_more bus device x (find (is_endpoint_of (find (is_configuration_on x.bus x.device) cs) x) es) has) xs none

without_none : (bus device other there : ℕ) (xs : List TrackedInterface) → list_any (is_described_on bus device) xs ≡ false
    → list_any (is_described_on bus device) (map (without_descriptor_on other there) xs) ≡ false
without_none bus device other there xs none =
    any_map (is_described_on bus device) (without_descriptor_on other there) (λ x has. without_more bus device (is_at x.bus x.device other there) x has) xs none

undescribed_none : (bus device other there interface : ℕ) (xs : List TrackedInterface) → list_any (is_described_on bus device) xs ≡ false
    → list_any (is_described_on bus device) (map (with_described other there interface false) xs) ≡ false
undescribed_none bus device other there interface xs none =
    any_map (is_described_on bus device) (with_described other there interface false) (λ x has. without_more bus device (is_interface other there interface x) x has) xs none

-- ---- an address

forgotten : (bus device : ℕ) (x : TrackedInterface) → is_described_on bus device (without_descriptor_on bus device x) ≡ false
forgotten bus device x = by (is_at x.bus x.device bus device) refl
  where
    by : (b : Bool) → is_at x.bus x.device bus device ≡ b → is_described_on bus device (if b then record x { is_described = false } else x) ≡ false
    by true e = (ap (λ (u : Bool). u && false) e)
    by false e = (ap (λ (u : Bool). u && x.is_described) e)

all_forgotten : (bus device : ℕ) (xs : List TrackedInterface) → list_any (is_described_on bus device) (map (without_descriptor_on bus device) xs) ≡ false
all_forgotten bus device [] = refl
all_forgotten bus device (x ∷ xs) =
    ap (λ (u : Bool). u || list_any (is_described_on bus device) (map (without_descriptor_on bus device) xs)) (forgotten bus device x)
    ∙ all_forgotten bus device xs

pub begins_undescribed : (t : Tracking) (bus device : ℕ) → IsUndescribed (with_address t bus device) bus device
begins_undescribed t bus device = all_forgotten bus device t.interfaces

-- ---- a URB of such a device is no report

by_if : (b : Bool) (x y : Content) → is_report x ≡ false → is_report y ≡ false → is_report (if b then x else y) ≡ false
by_if true x y p q = p
by_if false x y p q = q

report_no_disconnection : (t : Tracking) (bus device : ℕ) → is_report (disconnection t bus device) ≡ false
report_no_disconnection t bus device = by_if (list_any (is_described_on bus device) t.interfaces) (DeviceDisconnected bus device) Nothing refl refl

report_no_number : (t : Tracking) (x : TrackedInterface) (n : Option ℕ) → is_report (outcome_of_number t x n).content ≡ false
report_no_number t x None = refl
report_no_number t x (Some n) = refl

report_no_descriptor : (t : Tracking) (bus device interface : ℕ) (n : Option ℕ) → is_report (outcome_of_descriptor t bus device interface n).content ≡ false
report_no_descriptor t bus device interface (Some n) = refl
report_no_descriptor t bus device interface None = report_no_number t (new_interface bus device interface) (next_number t.interfaces)

report_no_description : (t : Tracking) (urb : UrbRecord) (interface : ℕ) (b : Bool) → is_report (outcome_of_description t urb interface b).content ≡ false
report_no_description t urb interface true = refl
report_no_description t urb interface false =
    report_no_descriptor t urb.bus urb.device interface (position (is_interface urb.bus urb.device interface) t.interfaces)

report_no_answer : (t : Tracking) (urb : UrbRecord) (request : Request) → is_report (outcome_of_answer t urb request).content ≡ false
report_no_answer t urb (SetAddress address) = report_no_disconnection t urb.bus address
report_no_answer t urb (SetConfiguration value) =
    by_if (leaves (find (is_configuration_on urb.bus urb.device) t.active_configurations) value) (disconnection t urb.bus urb.device) Nothing
    (report_no_disconnection t urb.bus urb.device) refl
report_no_answer t urb GetConfigurationDescriptor = refl
report_no_answer t urb (GetReportDescriptor interface) = report_no_description t urb interface urb.is_truncated
report_no_answer t urb (SetProtocol interface boot) = refl
report_no_answer t urb HubPort = refl
report_no_answer t urb Other = refl

pub report_no_completion : (t : Tracking) (urb : UrbRecord) (found : Option PendingRequest) → is_report (outcome_of_completion t urb found).content ≡ false
report_no_completion t urb None = refl
report_no_completion t urb (Some r) = report_no_answer (without_request t urb) urb (request_of r.setup)

report_no_data : (t : Tracking) (urb : UrbRecord) (from : Option ℕ) → IsUndescribed t urb.bus urb.device → is_report (content_from t urb from) ≡ false
report_no_data t urb None none = refl
report_no_data t urb (Some interface) none =
    by_if (list_any (is_boot urb.bus urb.device interface) t.boots) BootReport
    (content_by urb.is_truncated interface (position (has_descriptor_of urb.bus urb.device interface) t.interfaces)) refl
    (subst (λ (n : Option ℕ). is_report (content_by urb.is_truncated interface n) ≡ false) (sym unnumbered)
    (by_if (nat_lt interface 256) Undescribed Unknown refl refl))
  where
    unnumbered : position (has_descriptor_of urb.bus urb.device interface) t.interfaces ≡ None
    unnumbered =
        no_position (has_descriptor_of urb.bus urb.device interface) t.interfaces
        (any_less (is_described_on urb.bus urb.device) (has_descriptor_of urb.bus urb.device interface) (described_of urb.bus urb.device interface) t.interfaces none)

report_no_transfer : (t : Tracking) (urb : UrbRecord) (direction : Direction) → IsUndescribed t urb.bus urb.device → is_report (content_of_bytes t urb direction) ≡ false
report_no_transfer t urb Out none = refl
report_no_transfer t urb In none =
    by_if (has_data urb) (content_from t urb (source t urb.bus urb.device urb.endpoint)) Nothing
    (report_no_data t urb (source t urb.bus urb.device urb.endpoint) none) refl

report_no_success : (t : Tracking) (urb : UrbRecord) (transfer : Transfer) → IsUndescribed t urb.bus urb.device → is_report (outcome_of_success t urb transfer).content ≡ false
report_no_success t urb Control none = report_no_completion t urb (find (has_id urb.bus urb.device urb.id) t.requests)
report_no_success t urb Interrupt none = report_no_transfer t urb urb.direction none
report_no_success t urb Isochronous none = refl
report_no_success t urb Bulk none = refl

pub report_no_stall : (t : Tracking) (urb : UrbRecord) (transfer : Transfer) → is_report (outcome_of_stall t urb transfer).content ≡ false
report_no_stall t urb Control = refl
report_no_stall t urb Interrupt = refl
report_no_stall t urb Isochronous = refl
report_no_stall t urb Bulk = refl

report_no_number_lost : (n : Option ℕ) → is_report (disconnection_of n) ≡ false
report_no_number_lost None = refl
report_no_number_lost (Some n) = refl

report_no_shutdown : (t : Tracking) (urb : UrbRecord) (from : Option ℕ) → is_report (outcome_of_shutdown t urb from).content ≡ false
report_no_shutdown t urb None = refl
report_no_shutdown t urb (Some interface) = report_no_number_lost (position (has_descriptor_of urb.bus urb.device interface) t.interfaces)

pub report_no_failure : (t : Tracking) (urb : UrbRecord) (status : ℕ) (transfer : Transfer) → is_report (outcome_of_failure t urb status transfer).content ≡ false
report_no_failure t urb status Control = refl
report_no_failure t urb status Interrupt = by (is_gone status)
  where
    by : (b : Bool) → is_report (if b then outcome_of_shutdown t urb (source t urb.bus urb.device urb.endpoint) else silence t).content ≡ false
    by true = report_no_shutdown t urb (source t urb.bus urb.device urb.endpoint)
    by false = refl
report_no_failure t urb status Isochronous = refl
report_no_failure t urb status Bulk = refl

pub report_no_submission : (t : Tracking) (urb : UrbRecord) (setup : Option (List ℕ)) → is_report (outcome_of_submission t urb setup).content ≡ false
report_no_submission t urb None = refl
report_no_submission t urb (Some setup) = refl

report_no_event : (t : Tracking) (urb : UrbRecord) (event : UrbEvent) → IsUndescribed t urb.bus urb.device → is_report (outcome_by_event t urb event).content ≡ false
report_no_event t urb Submitted none = report_no_submission t urb urb.setup
report_no_event t urb Completed none = report_no_success t urb urb.transfer none
report_no_event t urb Stalled none = report_no_stall t urb urb.transfer
report_no_event t urb (Failed status) none = report_no_failure t urb status urb.transfer

pub no_report : (t : Tracking) (urb : UrbRecord) → IsUndescribed t urb.bus urb.device → is_report (outcome t urb).content ≡ false
unfolding outcome
no_report t urb none = report_no_event t urb urb.event none

-- ---- such a device stays so

-- a device has no descriptor after a URB, unless that has one
abbrev Stays : ℕ → ℕ → Outcome → Type 0
Stays bus device o = is_descriptor o.content ≡ false → IsUndescribed o.after bus device

stays_number : (bus device : ℕ) (t : Tracking) (x : TrackedInterface) (n : Option ℕ) → IsUndescribed t bus device → Stays bus device (outcome_of_number t x n)
stays_number bus device t x None none other = none
stays_number bus device t x (Some n) none other = absurd cc

stays_descriptor : (bus device : ℕ) (t : Tracking) (here there interface : ℕ) (n : Option ℕ) → IsUndescribed t bus device
    → Stays bus device (outcome_of_descriptor t here there interface n)
stays_descriptor bus device t here there interface (Some n) none other = absurd cc
stays_descriptor bus device t here there interface None none other =
    stays_number bus device t (new_interface here there interface) (next_number t.interfaces) none other

stays_description : (bus device : ℕ) (t : Tracking) (urb : UrbRecord) (interface : ℕ) (b : Bool) → IsUndescribed t bus device
    → Stays bus device (outcome_of_description t urb interface b)
stays_description bus device t urb interface true none other = none
stays_description bus device t urb interface false none other =
    stays_descriptor bus device t urb.bus urb.device interface (position (is_interface urb.bus urb.device interface) t.interfaces) none other

stays_endpoints : (bus device : ℕ) (t : Tracking) (c : Configuration) (bytes : List ℕ) → IsUndescribed t bus device → IsUndescribed (with_endpoints t c bytes) bus device
stays_endpoints bus device t c bytes none =
    numbered_none bus device t.active_configurations
    (endpoints_with (filter (λ e. not (is_of_configuration c e)) t.endpoints) (endpoints_in (length bytes) c None bytes)) t.interfaces none

stays_read : (bus device : ℕ) (t : Tracking) (urb : UrbRecord) (found : Option (ℕ × ℕ)) → IsUndescribed t bus device → IsUndescribed (with_answer t urb found) bus device
stays_read bus device t urb None none = none
stays_read bus device t urb (Some found) none =
    stays_endpoints bus device t (record { bus = urb.bus; device = urb.device; value = found.0 }) (take found.1 urb.payload) none

left_none : (bus device other there : ℕ) (b : Bool) (xs : List TrackedInterface) → list_any (is_described_on bus device) xs ≡ false
    → list_any (is_described_on bus device) (if b then map (without_descriptor_on other there) xs else xs) ≡ false
left_none bus device other there true xs none = without_none bus device other there xs none
left_none bus device other there false xs none = none

stays_configuration : (bus device : ℕ) (t : Tracking) (c : Configuration) → IsUndescribed t bus device → IsUndescribed (with_configuration t c) bus device
stays_configuration bus device t c none =
    let left : Bool = leaves (find (is_configuration_on c.bus c.device) t.active_configurations) c.value in
    numbered_none bus device (latest most_kept (filter (λ s. not (is_configuration_on c.bus c.device s)) t.active_configurations) ++ c ∷ []) t.endpoints
    (if left then map (without_descriptor_on c.bus c.device) t.interfaces else t.interfaces)
    (left_none bus device c.bus c.device left t.interfaces none)

stays_answer : (bus device : ℕ) (t : Tracking) (urb : UrbRecord) (request : Request) → IsUndescribed t bus device → Stays bus device (outcome_of_answer t urb request)
stays_answer bus device t urb (SetAddress address) none other = without_none bus device urb.bus address t.interfaces none
stays_answer bus device t urb (SetConfiguration value) none other =
    stays_configuration bus device t (record { bus = urb.bus; device = urb.device; value = value }) none
stays_answer bus device t urb GetConfigurationDescriptor none other = stays_read bus device t urb (whole_configuration urb.payload) none
stays_answer bus device t urb (GetReportDescriptor interface) none other = stays_description bus device t urb interface urb.is_truncated none other
stays_answer bus device t urb (SetProtocol interface boot) none other = none
stays_answer bus device t urb HubPort none other = none
stays_answer bus device t urb Other none other = none

stays_completion : (bus device : ℕ) (t : Tracking) (urb : UrbRecord) (found : Option PendingRequest) → IsUndescribed t bus device
    → Stays bus device (outcome_of_completion t urb found)
stays_completion bus device t urb None none other = none
stays_completion bus device t urb (Some r) none other = stays_answer bus device (without_request t urb) urb (request_of r.setup) none other

-- a transfer that is counted describes nothing
stays_counted : (bus device : ℕ) (t : Tracking) (urb : UrbRecord) (is_hid : Option Bool) → IsUndescribed t bus device
    → IsUndescribed (after_bytes t urb is_hid) bus device
stays_counted bus device t urb None none = none
stays_counted bus device t urb (Some is_hid) none = none

stays_success : (bus device : ℕ) (t : Tracking) (urb : UrbRecord) (transfer : Transfer) → IsUndescribed t bus device → Stays bus device (outcome_of_success t urb transfer)
stays_success bus device t urb Control none other = stays_completion bus device t urb (find (has_id urb.bus urb.device urb.id) t.requests) none other
stays_success bus device t urb Interrupt none other = stays_counted bus device t urb (lacks_descriptor (content_of_bytes t urb urb.direction)) none
stays_success bus device t urb Isochronous none other = none
stays_success bus device t urb Bulk none other = none

stays_stall : (bus device : ℕ) (t : Tracking) (urb : UrbRecord) (transfer : Transfer) → IsUndescribed t bus device → Stays bus device (outcome_of_stall t urb transfer)
stays_stall bus device t urb Control none other = none
stays_stall bus device t urb Interrupt none other = none
stays_stall bus device t urb Isochronous none other = none
stays_stall bus device t urb Bulk none other = none

stays_shutdown : (bus device : ℕ) (t : Tracking) (urb : UrbRecord) (from : Option ℕ) → IsUndescribed t bus device → IsUndescribed (outcome_of_shutdown t urb from).after bus device
stays_shutdown bus device t urb None none = none
stays_shutdown bus device t urb (Some interface) none = undescribed_none bus device urb.bus urb.device interface t.interfaces none

stays_failure : (bus device : ℕ) (t : Tracking) (urb : UrbRecord) (status : ℕ) (transfer : Transfer) → IsUndescribed t bus device
    → Stays bus device (outcome_of_failure t urb status transfer)
stays_failure bus device t urb status Control none other = none
stays_failure bus device t urb status Interrupt none other = by (is_gone status)
  where
    by : (b : Bool) → IsUndescribed (if b then outcome_of_shutdown t urb (source t urb.bus urb.device urb.endpoint) else silence t).after bus device
    by true = stays_shutdown bus device t urb (source t urb.bus urb.device urb.endpoint) none
    by false = none
stays_failure bus device t urb status Isochronous none other = none
stays_failure bus device t urb status Bulk none other = none

stays_submission : (bus device : ℕ) (t : Tracking) (urb : UrbRecord) (setup : Option (List ℕ)) → IsUndescribed t bus device → Stays bus device (outcome_of_submission t urb setup)
stays_submission bus device t urb None none other = none
stays_submission bus device t urb (Some setup) none other = none

stays_event : (bus device : ℕ) (t : Tracking) (urb : UrbRecord) (event : UrbEvent) → IsUndescribed t bus device → Stays bus device (outcome_by_event t urb event)
stays_event bus device t urb Submitted none other = stays_submission bus device t urb urb.setup none other
stays_event bus device t urb Completed none other = stays_success bus device t urb urb.transfer none other
stays_event bus device t urb Stalled none other = stays_stall bus device t urb urb.transfer none other
stays_event bus device t urb (Failed status) none other = stays_failure bus device t urb status urb.transfer none other

pub stays_undescribed : (t : Tracking) (urb : UrbRecord) (bus device : ℕ) → IsUndescribed t bus device → is_descriptor (outcome t urb).content ≡ false
    → IsUndescribed (outcome t urb).after bus device
unfolding outcome
stays_undescribed t urb bus device none other = stays_event bus device t urb urb.event none other
