-- The first interrupt IN endpoint after the descriptor of a HID interface is that interface's.
use Rattle.std.proofs.Common.{◌≡◌, ℕ, zero, suc, ◌+◌, ◌*◌, ◌%◌, ◌-◌, ◌<◌, ◌≤◌, Bool, List, [], ◌∷◌, ◌++◌, length, take, drop, refl, sym, ap, ◌∙◌, subst, cond, Option, Some, None, true, false, arith, length-append, inl, inr}
use Rattle.std.proofs.lemmas.Bool.{and_parts, and_from, and_left, and_right, or_parts, eqb-true, eq-eqb, leb-true, ltb-false, le-leb, cond-true, cond-false, not-false}
use Rattle.std.proofs.lemmas.List.{get_or_append_left, length-drop, length-take}
use Rattle.std.proofs.lemmas.List.Folds.{find-append}
use Rattle.std.proofs.lemmas.List.Filters.{length-filter_both}
use Rattle.std.specs.Prelude.{◌≢◌, if◌then◌else◌, ◌==◌, ◌&&◌, ◌||◌, not, nat_lt, nat_le, filter, position}
use Rattle.std.specs.Option.{option_or}
use Rattle.std.specs.List.{find, list_any}
use Rattle.usb_capture.specs.declared.urb.Transfer.{Transfer}
use Rattle.usb_capture.specs.declared.urb.Transfer.TheVariants.{Isochronous, Interrupt, Control, Bulk}
use Rattle.usb_capture.specs.declared.urb.UrbEvent.{UrbEvent}
use Rattle.usb_capture.specs.declared.urb.UrbEvent.TheVariants.{Submitted, Completed, Stalled, Failed}
use Rattle.usb_capture.specs.UrbRecord.{UrbRecord}
use Rattle.hid_capture.specs.declared.configuration.Configuration.{Configuration}
use Rattle.hid_capture.specs.declared.configuration.InterruptEndpoint.{InterruptEndpoint}
use Rattle.hid_capture.specs.declared.request.Request.{Request}
use Rattle.hid_capture.specs.declared.request.Request.TheVariants.{SetAddress, SetConfiguration, GetConfigurationDescriptor, GetReportDescriptor, SetProtocol, HubPort, Other}
use Rattle.hid_capture.specs.declared.tables.PendingRequest.{PendingRequest}
use Rattle.hid_capture.specs.declared.tables.TrackedInterface.{TrackedInterface}
use Rattle.hid_capture.specs.Descriptors.{byte, total_length, has_descriptor, is_hid_interface, is_interrupt_in, interface_after, endpoint_at, endpoints_in, whole_configuration}
use Rattle.hid_capture.specs.InterfaceEndpoints.{followed_by, AreDescriptors, is_of_interface, is_of_endpoint, IsHidInterface, IsInterruptIn, HasEndpoint, IsForConfiguration, Configures, configuration_of, IsActiveBy, IsActive, HasRoom, IsKnown, request_forgets, answer_forgets, event_forgets, forgets}
use Rattle.hid_capture.specs.Reports.{pending_request, is_there}
use Rattle.hid_capture.specs.Requests.{request_of}
use Rattle.hid_capture.specs.Tracking.{Tracking, is_configuration_on, is_of_configuration, is_of_device, is_endpoint, may_be_active, source, source_of, endpoints_with, with_endpoints, with_answer, without_request, outcome, outcome_by_event, outcome_of_success, outcome_of_completion, outcome_of_answer, latest, most_kept, with_configuration, with_address, is_at, outcome_of_description, outcome_of_descriptor, outcome_of_number, new_interface, next_number, is_free, is_interface, after_bytes, lacks_descriptor, content_of_bytes, outcome_of_stall, outcome_of_failure, outcome_of_shutdown, outcome_of_submission, silence, is_gone}
use Rattle.hid_capture.proofs.ConfigurationLemmas.{next_in}
use Rattle.hid_capture.proofs.ListPlaces.{find_kept}
use Rattle.hid_capture.proofs.ReportLemmas.{on_device, endpoint_on}

-- ---- the bytes of a descriptor

byte_in : (d rest : List ℕ) (k : ℕ) → k < length d → byte (d ++ rest) k ≡ byte d k
byte_in d rest k within = get_or_append_left d rest 0 k within

lt_false : (a b : ℕ) → b ≤ a → nat_lt a b ≡ false
lt_false a b over = by (nat_lt a b) refl
  where
    by : (u : Bool) → nat_lt a b ≡ u → nat_lt a b ≡ false
    by false e = e
    by true e = let under : suc a ≤ b = leb-true (suc a) b e in absurd (omega arith)

other_number : (a b c : ℕ) → a ≡ b → b ≢ c → (a == c) ≡ false
other_number a b c same apart = by (a == c) refl
  where
    by : (u : Bool) → (a == c) ≡ u → (a == c) ≡ false
    by false e = e
    by true e = absurd (apart (sym same ∙ eqb-true a c e))

-- a whole descriptor is there
there : (d rest : List ℕ) → byte d 0 ≡ length d → 2 ≤ length d → has_descriptor (d ++ rest) ≡ true
unfolding has_descriptor
there d rest size long =
    let first : byte (d ++ rest) 0 ≡ length d = byte_in d rest 0 (omega (arith, long)) ∙ size in
    and_from (not (nat_lt (byte (d ++ rest) 0) 2)) (not (nat_lt (length (d ++ rest)) (byte (d ++ rest) 0)))
    (ap not (lt_false (byte (d ++ rest) 0) 2 (omega (arith, first, long))))
    (ap not (lt_false (length (d ++ rest)) (byte (d ++ rest) 0) (omega (arith, first, length-append d rest))))

dropped : (d rest : List ℕ) → drop (length d) (d ++ rest) ≡ rest
dropped [] rest = refl
dropped (x ∷ d) rest = dropped d rest

-- a descriptor comes, and the bytes after it
step : (n : ℕ) (c : Configuration) (here : Option ℕ) (d rest : List ℕ) → byte d 0 ≡ length d → 2 ≤ length d
    → endpoints_in (suc n) c here (d ++ rest)
    ≡ endpoint_at c (interface_after here (d ++ rest)) (d ++ rest) ++ endpoints_in n c (interface_after here (d ++ rest)) rest
step n c here d rest size long =
    next_in n c here (d ++ rest) (there d rest size long)
    ∙ ap (λ (l : List ℕ). endpoint_at c (interface_after here (d ++ rest)) (d ++ rest) ++ endpoints_in n c (interface_after here (d ++ rest)) l)
    (ap (λ (k : ℕ). drop k (d ++ rest)) (byte_in d rest 0 (omega (arith, long)) ∙ size) ∙ dropped d rest)

-- ---- the interface of the next endpoints

-- the interface after descriptors
abbrev interface_past : Option ℕ → List (List ℕ) → List ℕ → Option ℕ
interface_past here [] rest = here
interface_past here (d ∷ ds) rest = interface_past (interface_after here (d ++ followed_by ds rest)) ds rest

stays : (here : Option ℕ) (d rest : List ℕ) → 2 ≤ length d → is_of_interface d ≡ false → interface_after here (d ++ rest) ≡ here
unfolding interface_after
stays here d rest long other =
    cond-false (byte (d ++ rest) 1 == 4) _ _ (ap (λ (k : ℕ). k == 4) (byte_in d rest 1 (omega (arith, long))) ∙ other)

stays_past : (here : Option ℕ) (ds : List (List ℕ)) (rest : List ℕ) → AreDescriptors ds → list_any is_of_interface ds ≡ false → interface_past here ds rest ≡ here
stays_past here [] rest are none = refl
stays_past here (d ∷ ds) rest are none =
    let p = or_parts (is_of_interface d) (list_any is_of_interface ds) none in
    stays_past (interface_after here (d ++ followed_by ds rest)) ds rest are.2 p.1
    ∙ stays here d (followed_by ds rest) are.1 p.0

enters : (here : Option ℕ) (d rest : List ℕ) (interface : ℕ) → IsHidInterface d interface → interface_after here (d ++ rest) ≡ Some interface
unfolding interface_after
enters here d rest interface is =
    let long = is.long in
    let at : (k : ℕ) → k < 9 → byte (d ++ rest) k ≡ byte d k = λ k under. byte_in d rest k (omega (arith, long, under)) in
    let kind : (byte (d ++ rest) 1 == 4) ≡ true = eq-eqb (byte (d ++ rest) 1) 4 (at 1 (omega arith) ∙ is.kind) in
    let size : byte (d ++ rest) 0 ≡ length d = at 0 (omega arith) ∙ is.size in
    let hid : is_hid_interface (d ++ rest) ≡ true =
    and_from ((byte (d ++ rest) 1 == 4) && nat_le 9 (byte (d ++ rest) 0)) (byte (d ++ rest) 5 == 3)
    (and_from (byte (d ++ rest) 1 == 4) (nat_le 9 (byte (d ++ rest) 0)) kind (le-leb 9 (byte (d ++ rest) 0) (omega (arith, size, long))))
    (eq-eqb (byte (d ++ rest) 5) 3 (at 5 (omega arith) ∙ is.class)) in
    cond-true (byte (d ++ rest) 1 == 4) _ _ kind ∙ cond-true (is_hid_interface (d ++ rest)) _ _ hid ∙ ap Some (at 2 (omega arith) ∙ is.number)

-- ---- the endpoints of descriptors

-- a test that only an endpoint with this number passes
abbrev IsOfNumber : Configuration → ℕ → (InterruptEndpoint → Bool) → Type 0
IsOfNumber c endpoint p =
    (here : Option ℕ) (k : ℕ) → (k == endpoint) ≡ false → p (record { configuration = c; interface = here; endpoint = k }) ≡ false

-- the facts of an interrupt IN endpoint's descriptor
interrupt_parts : (bytes : List ℕ) → is_interrupt_in bytes ≡ true → (byte bytes 1 ≡ 5) × (7 ≤ byte bytes 0) × (nat_le 128 (byte bytes 2) ≡ true)
unfolding is_interrupt_in
interrupt_parts bytes is =
    let p = and_parts ((byte bytes 1 == 5) && nat_le 7 (byte bytes 0) && (byte bytes 3 % 4 == 3)) (nat_le 128 (byte bytes 2)) is in
    let q = and_parts ((byte bytes 1 == 5) && nat_le 7 (byte bytes 0)) (byte bytes 3 % 4 == 3) p.0 in
    let r = and_parts (byte bytes 1 == 5) (nat_le 7 (byte bytes 0)) q.0 in
    (eqb-true (byte bytes 1) 5 r.0, leb-true 7 (byte bytes 0) r.1, p.1)

-- a descriptor that isn't of the endpoint gives none with its number
misses : (c : Configuration) (endpoint : ℕ) (p : InterruptEndpoint → Bool) → IsOfNumber c endpoint p → (here : Option ℕ) (d rest : List ℕ)
    → byte d 0 ≡ length d → 2 ≤ length d → is_of_endpoint endpoint d ≡ false → (more : List InterruptEndpoint)
    → find p (endpoint_at c here (d ++ rest) ++ more) ≡ find p more
unfolding endpoint_at
misses c endpoint p only here d rest size long other more = by (is_interrupt_in (d ++ rest)) refl
  where
    number : is_interrupt_in (d ++ rest) ≡ true → (byte (d ++ rest) 2 % 128 == endpoint) ≡ false
    number is =
        let parts = interrupt_parts (d ++ rest) is in
        let first = byte_in d rest 0 (omega (arith, long)) in
        let seven = parts.1 in
        let kind : byte d 1 ≡ 5 = sym (byte_in d rest 1 (omega (arith, long))) ∙ parts.0 in
        let second : byte (d ++ rest) 2 ≡ byte d 2 = byte_in d rest 2 (omega (arith, first, size, seven)) in
        ap (λ (k : ℕ). k % 128 == endpoint) second
        ∙ ap (λ (u : Bool). u && (byte d 2 % 128 == endpoint)) (sym (ap (nat_le 128) (sym second) ∙ parts.2))
        ∙ ap (λ (u : Bool). u && (nat_le 128 (byte d 2) && (byte d 2 % 128 == endpoint))) (sym (eq-eqb (byte d 1) 5 kind)) ∙ other

    by : (b : Bool) → is_interrupt_in (d ++ rest) ≡ b
        → find p ((if b then record { configuration = c; interface = here; endpoint = byte (d ++ rest) 2 % 128 } ∷ [] else []) ++ more) ≡ find p more
    by false e = refl
    by true e =
        cond-false (p (record { configuration = c; interface = here; endpoint = byte (d ++ rest) 2 % 128 })) _ _
        (only here (byte (d ++ rest) 2 % 128) (number e))

-- what is found in the bytes after descriptors that aren't of the endpoint
abbrev FoundPast : Configuration → (InterruptEndpoint → Bool) → ℕ → Option ℕ → List (List ℕ) → List ℕ → Type 0
FoundPast c p n here ds rest =
    (m : ℕ) × (length rest ≤ m)
    × (find p (endpoints_in n c here (followed_by ds rest)) ≡ find p (endpoints_in m c (interface_past here ds rest) rest))

past : (c : Configuration) (endpoint : ℕ) (p : InterruptEndpoint → Bool) → IsOfNumber c endpoint p → (n : ℕ) (here : Option ℕ) (ds : List (List ℕ)) (rest : List ℕ)
    → AreDescriptors ds → list_any (is_of_endpoint endpoint) ds ≡ false → length (followed_by ds rest) ≤ n → FoundPast c p n here ds rest
past c endpoint p only n here [] rest are none most = (n, most, refl)
past c endpoint p only zero here (d ∷ ds) rest are none most =
    let long = are.1 in absurd (omega (arith, most, long, length-append d (followed_by ds rest)))
past c endpoint p only (suc n) here (d ∷ ds) rest are none most =
    let size = are.0 in
    let long = are.1 in
    let q = or_parts (is_of_endpoint endpoint d) (list_any (is_of_endpoint endpoint) ds) none in
    let next = interface_after here (d ++ followed_by ds rest) in
    let more = past c endpoint p only n next ds rest are.2 q.1 (omega (arith, most, long, length-append d (followed_by ds rest))) in (
      more.0,
      more.1,
      ap (find p) (step n c here d (followed_by ds rest) size long)
          ∙ misses c endpoint p only next d (followed_by ds rest) size long q.0 (endpoints_in n c next (followed_by ds rest))
          ∙ more.2,
    )

-- ---- the endpoint that is found

-- the descriptor of an interrupt IN endpoint gives it
gives : (c : Configuration) (endpoint : ℕ) (here : Option ℕ) (d rest : List ℕ) → IsInterruptIn d endpoint
    → endpoint_at c here (d ++ rest) ≡ record { configuration = c; interface = here; endpoint = endpoint } ∷ []
unfolding endpoint_at is_interrupt_in
gives c endpoint here d rest is =
    let long = is.long in
    let at : (k : ℕ) → k < 7 → byte (d ++ rest) k ≡ byte d k = λ k under. byte_in d rest k (omega (arith, long, under)) in
    let size : byte (d ++ rest) 0 ≡ length d = at 0 (omega arith) ∙ is.size in
    let p = and_parts (byte d 1 == 5) (nat_le 128 (byte d 2) && (byte d 2 % 128 == endpoint)) is.address in
    let q = and_parts (nat_le 128 (byte d 2)) (byte d 2 % 128 == endpoint) p.1 in
    let kind : (byte (d ++ rest) 1 == 5) ≡ true = ap (λ (k : ℕ). k == 5) (at 1 (omega arith)) ∙ p.0 in
    let seven : nat_le 7 (byte (d ++ rest) 0) ≡ true = le-leb 7 (byte (d ++ rest) 0) (omega (arith, size, long)) in
    let interrupt : (byte (d ++ rest) 3 % 4 == 3) ≡ true = eq-eqb (byte (d ++ rest) 3 % 4) 3 (ap (λ (k : ℕ). k % 4) (at 3 (omega arith)) ∙ is.interrupt) in
    let in_it : nat_le 128 (byte (d ++ rest) 2) ≡ true = ap (nat_le 128) (at 2 (omega arith)) ∙ q.0 in
    cond-true ((byte (d ++ rest) 1 == 5) && nat_le 7 (byte (d ++ rest) 0) && (byte (d ++ rest) 3 % 4 == 3) && nat_le 128 (byte (d ++ rest) 2)) _ _
    (and_from ((byte (d ++ rest) 1 == 5) && nat_le 7 (byte (d ++ rest) 0) && (byte (d ++ rest) 3 % 4 == 3)) (nat_le 128 (byte (d ++ rest) 2))
    (and_from ((byte (d ++ rest) 1 == 5) && nat_le 7 (byte (d ++ rest) 0)) (byte (d ++ rest) 3 % 4 == 3)
    (and_from (byte (d ++ rest) 1 == 5) (nat_le 7 (byte (d ++ rest) 0)) kind seven) interrupt) in_it)
    ∙ ap (λ (k : ℕ). record { configuration = c; interface = here; endpoint = k } ∷ [])
    (ap (λ (k : ℕ). k % 128) (at 2 (omega arith)) ∙ eqb-true (byte d 2 % 128) endpoint q.1)

-- the descriptor of an endpoint isn't an interface's
no_interface : (endpoint : ℕ) (d : List ℕ) → is_of_endpoint endpoint d ≡ true → is_of_interface d ≡ false
no_interface endpoint d is =
    let p = and_parts (byte d 1 == 5) (nat_le 128 (byte d 2) && (byte d 2 % 128 == endpoint)) is in
    ap (λ (k : ℕ). k == 4) (eqb-true (byte d 1) 5 p.0)

-- the descriptor of an interface isn't an endpoint's
no_endpoint : (endpoint : ℕ) (d : List ℕ) → byte d 1 ≡ 4 → is_of_endpoint endpoint d ≡ false
no_endpoint endpoint d kind = ap (λ (k : ℕ). (k == 5) && (nat_le 128 (byte d 2) && (byte d 2 % 128 == endpoint))) kind

found_at : (c : Configuration) (endpoint : ℕ) (p : InterruptEndpoint → Bool) (n : ℕ) (here : Option ℕ) (d rest : List ℕ) → IsInterruptIn d endpoint
    → p (record { configuration = c; interface = here; endpoint = endpoint }) ≡ true → length (d ++ rest) ≤ n
    → find p (endpoints_in n c here (d ++ rest)) ≡ Some (record { configuration = c; interface = here; endpoint = endpoint })
found_at c endpoint p zero here d rest is passes most = let long = is.long in absurd (omega (arith, most, long, length-append d rest))
found_at c endpoint p (suc n) here d rest is passes most =
    let long = is.long in
    let two : 2 ≤ length d = omega (arith, long) in
    ap (find p) (step n c here d rest is.size two
    ∙ ap (λ (h : Option ℕ). endpoint_at c h (d ++ rest) ++ endpoints_in n c h rest) (stays here d rest two (no_interface endpoint d is.address))
    ∙ ap (λ (l : List InterruptEndpoint). l ++ endpoints_in n c here rest) (gives c endpoint here d rest is))
    ∙ cond-true (p (record { configuration = c; interface = here; endpoint = endpoint })) _ _ passes

-- the first that is found in a configuration is the interface's
pub found_first : (c : Configuration) (interface endpoint : ℕ) (p : InterruptEndpoint → Bool) → IsOfNumber c endpoint p
    → p (record { configuration = c; interface = Some interface; endpoint = endpoint }) ≡ true → (bytes : List ℕ) → HasEndpoint bytes interface endpoint
    → find p (endpoints_in (length bytes) c None bytes) ≡ Some (record { configuration = c; interface = Some interface; endpoint = endpoint })
found_first c interface endpoint p only passes bytes has =
    subst (λ (l : List ℕ). find p (endpoints_in (length l) c None l) ≡ Some (record { configuration = c; interface = Some interface; endpoint = endpoint })) (sym has.order)
    (one.2 ∙ two.2 ∙ ap (λ (h : Option ℕ). find p (endpoints_in two.0 c h (has.last ++ has.after))) own
    ∙ found_at c endpoint p two.0 (Some interface) has.last has.after has.last_is passes two.1)
  where
    one : FoundPast c p (length (followed_by has.before (followed_by (has.head ∷ has.between) (has.last ++ has.after)))) None has.before (followed_by (has.head ∷ has.between) (has.last ++ has.after))
    one =
        past c endpoint p only (length (followed_by has.before (followed_by (has.head ∷ has.between) (has.last ++ has.after)))) None has.before
        (followed_by (has.head ∷ has.between) (has.last ++ has.after)) has.before_are has.first_before (omega arith)

    head_long : 2 ≤ length has.head
    head_long = let long = has.head_is.long in omega (arith, long)

    two : FoundPast c p one.0 (interface_past None has.before (followed_by (has.head ∷ has.between) (has.last ++ has.after))) (has.head ∷ has.between) (has.last ++ has.after)
    two =
        past c endpoint p only one.0 (interface_past None has.before (followed_by (has.head ∷ has.between) (has.last ++ has.after))) (has.head ∷ has.between)
        (has.last ++ has.after) (has.head_is.size, head_long, has.between_are)
        (ap (λ (u : Bool). u || list_any (is_of_endpoint endpoint) has.between) (no_endpoint endpoint has.head has.head_is.kind) ∙ has.first_between) one.1

    own : interface_past (interface_past None has.before (followed_by (has.head ∷ has.between) (has.last ++ has.after))) (has.head ∷ has.between) (has.last ++ has.after) ≡ Some interface
    own =
        stays_past (interface_after (interface_past None has.before (followed_by (has.head ∷ has.between) (has.last ++ has.after))) (has.head ++ followed_by has.between (has.last ++ has.after)))
        has.between (has.last ++ has.after) has.between_are has.own
        ∙ enters (interface_past None has.before (followed_by (has.head ∷ has.between) (has.last ++ has.after))) has.head (followed_by has.between (has.last ++ has.after)) interface has.head_is

-- ---- room for the endpoints of a configuration

lt_not : (a b : ℕ) → not (nat_lt a b) ≡ true → b ≤ a
lt_not a b is = ltb-false a b (by (nat_lt a b) is)
  where
    by : (u : Bool) → not u ≡ true → u ≡ false
    by false e = refl
    by true e = absurd cc

within : (bytes : List ℕ) → has_descriptor bytes ≡ true → byte bytes 0 ≤ length bytes
unfolding has_descriptor
within bytes is =
    let p = and_parts (not (nat_lt (byte bytes 0) 2)) (not (nat_lt (length bytes) (byte bytes 0))) is in
    lt_not (length bytes) (byte bytes 0) p.1

few_at : (c : Configuration) (here : Option ℕ) (bytes : List ℕ) → length (endpoint_at c here bytes) * 7 ≤ byte bytes 0
unfolding endpoint_at
few_at c here bytes = by (is_interrupt_in bytes) refl
  where
    by : (b : Bool) → is_interrupt_in bytes ≡ b
        → length {A = InterruptEndpoint} (if b then record { configuration = c; interface = here; endpoint = byte bytes 2 % 128 } ∷ [] else []) * 7 ≤ byte bytes 0
    by false e = omega arith
    by true e = let p = interrupt_parts bytes e in let seven = p.1 in omega (arith, seven)

few : (n : ℕ) (c : Configuration) (here : Option ℕ) (bytes : List ℕ) → length (endpoints_in n c here bytes) * 7 ≤ length bytes
unfolding endpoints_in
few zero c here bytes = omega arith
few (suc n) c here bytes = by (has_descriptor bytes) refl (few n c (interface_after here bytes) (drop (byte bytes 0) bytes))
  where
    by : (b : Bool) → has_descriptor bytes ≡ b
        → length (endpoints_in n c (interface_after here bytes) (drop (byte bytes 0) bytes)) * 7 ≤ length (drop (byte bytes 0) bytes)
        → length (if b then endpoint_at c (interface_after here bytes) bytes ++ endpoints_in n c (interface_after here bytes) (drop (byte bytes 0) bytes) else []) * 7 ≤ length bytes
    by false e more = omega arith
    by true e more =
        let one = few_at c (interface_after here bytes) bytes in
        let size = within bytes e in
        let left = length-drop (byte bytes 0) bytes in
        let all = length-append (endpoint_at c (interface_after here bytes) bytes) (endpoints_in n c (interface_after here bytes) (drop (byte bytes 0) bytes)) in
        omega (arith, one, more, size, left, all)

-- ---- the configuration that is active

none_left : {X : Type 0} (p q : X → Bool) → ((x : X) → p x ≡ true → q x ≡ false) → (xs : List X) → find p (filter q xs) ≡ None
none_left p q apart [] = refl
none_left p q apart (x ∷ xs) = by (q x) (p x) refl refl (none_left p q apart xs)
  where
    by : (b u : Bool) → q x ≡ b → p x ≡ u → find p (filter q xs) ≡ None → find p (cond b (x ∷ filter q xs) (filter q xs)) ≡ None
    by false u e f more = more
    by true true e f more = absurd (let wrong : true ≡ false = sym e ∙ apart x f in cc)
    by true false e f more = ap (λ (v : Bool). cond v (Some x) (find p (filter q xs))) f ∙ more

none_of_any : {X : Type 0} (p q : X → Bool) → ((x : X) → p x ≡ true → q x ≡ true) → (xs : List X) → list_any q xs ≡ false → find p xs ≡ None
none_of_any p q implied [] none = refl
none_of_any p q implied (x ∷ xs) none = let parts = or_parts (q x) (list_any q xs) none in by (p x) refl parts.0 (none_of_any p q implied xs parts.1)
  where
    by : (u : Bool) → p x ≡ u → q x ≡ false → find p xs ≡ None → cond u (Some x) (find p xs) ≡ None
    by true e other more = absurd (let wrong : true ≡ false = sym (implied x e) ∙ other in cc)
    by false e other more = more

-- the parts of a test of an endpoint
endpoint_parts : (a : Option Configuration) (bus device endpoint : ℕ) (e : InterruptEndpoint) → is_endpoint a bus device endpoint e ≡ true
    → (is_of_device bus device e ≡ true) × (may_be_active a e.configuration ≡ true)
endpoint_parts a bus device endpoint e is =
    let p = and_parts (is_of_device bus device e && (e.endpoint == endpoint)) (may_be_active a e.configuration) is in
    let q = and_parts (is_of_device bus device e) (e.endpoint == endpoint) p.0 in
    (q.0, p.1)

-- no endpoint of another configuration that may be active is known
no_other : (t : Tracking) (c : Configuration) (endpoint : ℕ) (a : Option Configuration) → IsActiveBy t c a
    → find (is_endpoint a c.bus c.device endpoint) (filter (λ e. not (is_of_configuration c e)) t.endpoints) ≡ None
no_other t c endpoint None active =
    none_of_any (is_endpoint None c.bus c.device endpoint) (is_of_device c.bus c.device) (λ e is. (endpoint_parts None c.bus c.device endpoint e is).0)
    (filter (λ e. not (is_of_configuration c e)) t.endpoints) active
no_other t c endpoint (Some s) active =
    none_left (is_endpoint (Some s) c.bus c.device endpoint) (λ e. not (is_of_configuration c e))
    (λ e is. let p = endpoint_parts (Some s) c.bus c.device endpoint e is in
    ap not (and_from (is_of_device c.bus c.device e) (e.configuration.value == c.value) p.0
    (eq-eqb e.configuration.value c.value (sym (eqb-true s.value e.configuration.value p.1) ∙ active)))) t.endpoints

may_be : (t : Tracking) (c : Configuration) (a : Option Configuration) → IsActiveBy t c a → may_be_active a c ≡ true
may_be t c None active = refl
may_be t c (Some s) active = eq-eqb s.value c.value active

-- an endpoint of the configuration passes
own_passes : (t : Tracking) (c : Configuration) (endpoint : ℕ) (a : Option Configuration) (here : Option ℕ) → IsActiveBy t c a
    → is_endpoint a c.bus c.device endpoint (record { configuration = c; interface = here; endpoint = endpoint }) ≡ true
own_passes t c endpoint a here active =
    and_from (((c.bus == c.bus) && (c.device == c.device)) && (endpoint == endpoint)) (may_be_active a c)
    (and_from ((c.bus == c.bus) && (c.device == c.device)) (endpoint == endpoint)
    (and_from (c.bus == c.bus) (c.device == c.device) (eq-eqb c.bus c.bus refl) (eq-eqb c.device c.device refl)) (eq-eqb endpoint endpoint refl))
    (may_be t c a active)

-- one with another number doesn't
number_only : (c : Configuration) (endpoint : ℕ) (a : Option Configuration) → IsOfNumber c endpoint (is_endpoint a c.bus c.device endpoint)
number_only c endpoint a here k other =
    and_left (((c.bus == c.bus) && (c.device == c.device)) && (k == endpoint)) (may_be_active a c)
    (and_right ((c.bus == c.bus) && (c.device == c.device)) (k == endpoint) other)

-- ---- the URB

-- the configuration that is set
abbrev set_on : Tracking → Configuration → Option Configuration
set_on t c = find (is_configuration_on c.bus c.device) t.active_configurations

-- the endpoints of other configurations
abbrev others_in : Tracking → Configuration → List InterruptEndpoint
others_in t c = filter (λ e. not (is_of_configuration c e)) t.endpoints

-- there is room for them all
kept : (t : Tracking) (c : Configuration) (bytes : List ℕ) → length t.endpoints * 7 + length bytes ≤ 256 * 7
    → endpoints_with (others_in t c) (endpoints_in (length bytes) c None bytes) ≡ others_in t c ++ endpoints_in (length bytes) c None bytes
kept t c bytes room =
    let size = few (length bytes) c None bytes in
    let fewer = length-filter_both (is_of_configuration c) (λ e. not (is_of_configuration c e)) (λ e. refl) t.endpoints in
    cond-false (nat_lt (256 - length (others_in t c)) (length (endpoints_in (length bytes) c None bytes))) _ _
    (lt_false (256 - length (others_in t c)) (length (endpoints_in (length bytes) c None bytes)) (omega (arith, size, fewer, room)))

-- a configuration has the endpoint, by what is kept
abbrev FoundIn : Tracking → Configuration → ℕ → ℕ → Type 0
FoundIn t c interface endpoint =
    find (is_endpoint (find (is_configuration_on c.bus c.device) t.active_configurations) c.bus c.device endpoint) t.endpoints
    ≡ Some (record { configuration = c; interface = Some interface; endpoint = endpoint })

found_in_read : (t : Tracking) (c : Configuration) (interface endpoint : ℕ) (bytes : List ℕ) → IsActive t c
    → length t.endpoints * 7 + length bytes ≤ 256 * 7 → HasEndpoint bytes interface endpoint → FoundIn (with_endpoints t c bytes) c interface endpoint
found_in_read t c interface endpoint bytes active room has =
    ap (find (is_endpoint (set_on t c) c.bus c.device endpoint)) (kept t c bytes room)
    ∙ find-append (is_endpoint (set_on t c) c.bus c.device endpoint) (others_in t c) (endpoints_in (length bytes) c None bytes)
    ∙ ap (λ (o : Option InterruptEndpoint). option_or o (find (is_endpoint (set_on t c) c.bus c.device endpoint) (endpoints_in (length bytes) c None bytes)))
    (no_other t c endpoint (set_on t c) active)
    ∙ found_first c interface endpoint (is_endpoint (set_on t c) c.bus c.device endpoint) (number_only c endpoint (set_on t c))
    (own_passes t c endpoint (set_on t c) (Some interface) active) bytes has

whole : (urb : UrbRecord) → 9 ≤ total_length urb.payload → total_length urb.payload ≤ length urb.payload
    → whole_configuration urb.payload ≡ Some (byte urb.payload 5, total_length urb.payload)
whole urb long all =
    cond-false (nat_lt (total_length urb.payload) 9) _ _ (lt_false (total_length urb.payload) 9 long)
    ∙ cond-false (nat_lt (length urb.payload) (total_length urb.payload)) _ _ (lt_false (length urb.payload) (total_length urb.payload) all)

by_completion : (t : Tracking) (urb : UrbRecord) (interface endpoint : ℕ) (found : Option PendingRequest) → IsForConfiguration found
    → 9 ≤ total_length urb.payload → total_length urb.payload ≤ length urb.payload → IsActive t (configuration_of urb) → HasRoom t urb
    → HasEndpoint (take (total_length urb.payload) urb.payload) interface endpoint
    → FoundIn (outcome_of_completion t urb found).after (configuration_of urb) interface endpoint
by_completion t urb interface endpoint None is long all active room has = absurd cc
by_completion t urb interface endpoint (Some r) is long all active room has =
    subst (λ (q : Request). FoundIn (outcome_of_answer (without_request t urb) urb q).after (configuration_of urb) interface endpoint) (sym is)
    (subst (λ (o : Option (ℕ × ℕ)). FoundIn (with_answer (without_request t urb) urb o) (configuration_of urb) interface endpoint) (sym (whole urb long all))
    (found_in_read (without_request t urb) (configuration_of urb) interface endpoint (take (total_length urb.payload) urb.payload) active
    (let cut = length-take (total_length urb.payload) urb.payload in omega (arith, room, cut)) has))

-- what is found is known
known_by : (t : Tracking) (c : Configuration) (interface endpoint : ℕ) → FoundIn t c interface endpoint → IsKnown t c interface endpoint
known_by t c interface endpoint found = record { known = ap (source_of endpoint) found; found = found }

pub endpoints_read : (t : Tracking) (urb : UrbRecord) (interface endpoint : ℕ) → Configures t urb → IsActive t (configuration_of urb) → HasRoom t urb
    → HasEndpoint (take (total_length urb.payload) urb.payload) interface endpoint → IsKnown (outcome t urb).after (configuration_of urb) interface endpoint
unfolding outcome
endpoints_read t urb interface endpoint d active room has =
    known_by (outcome t urb).after (configuration_of urb) interface endpoint
    (subst (λ (e : UrbEvent). FoundIn (outcome_by_event t urb e).after (configuration_of urb) interface endpoint) (sym d.completed)
    (subst (λ (r : Transfer). FoundIn (outcome_of_success t urb r).after (configuration_of urb) interface endpoint) (sym d.control)
    (by_completion t urb interface endpoint (pending_request t urb) d.request d.long d.whole active room has)))

-- ---- the configuration is set

find_passes : {X : Type 0} (p : X → Bool) (x : X) (xs : List X) → find p xs ≡ Some x → p x ≡ true
find_passes p x [] at = absurd cc
find_passes p x (y ∷ ys) at = by (p y) refl (find_passes p x ys) at
  where
    by : (b : Bool) → p y ≡ b → (find p ys ≡ Some x → p x ≡ true) → cond b (Some y) (find p ys) ≡ Some x → p x ≡ true
    by true e more found = let same : y ≡ x = cc in subst (λ z. p z ≡ true) same e
    by false e more found = more found

-- the first that passes a test is the first that passes a narrower one, if it does
narrow : {X : Type 0} (p q : X → Bool) (x : X) → ((y : X) → q y ≡ true → p y ≡ true) → q x ≡ true → (xs : List X) → find p xs ≡ Some x → find q xs ≡ Some x
narrow p q x less passes [] at = absurd cc
narrow p q x less passes (y ∷ ys) at = by (p y) (q y) refl refl (narrow p q x less passes ys) at
  where
    by : (b u : Bool) → p y ≡ b → q y ≡ u → (find p ys ≡ Some x → find q ys ≡ Some x) → cond b (Some y) (find p ys) ≡ Some x
        → cond u (Some y) (find q ys) ≡ Some x
    by true true e f more found = found
    by true false e f more found =
        absurd (let same : y ≡ x = cc in let wrong : true ≡ false = sym passes ∙ sym (ap q same) ∙ f in cc)
    by false true e f more found = absurd (let wrong : true ≡ false = sym (less y f) ∙ e in cc)
    by false false e f more found = more found

find_behind : {X : Type 0} (p : X → Bool) (xs : List X) → find p xs ≡ None → find p (drop 1 xs) ≡ None
find_behind p [] none = refl
find_behind p (x ∷ xs) none = by (p x) none
  where
    by : (b : Bool) → cond b (Some x) (find p xs) ≡ None → find p xs ≡ None
    by true n = absurd cc
    by false n = n

-- the configuration that is set last is found
set_found : (c : Configuration) (xs : List Configuration)
    → find (is_configuration_on c.bus c.device) (latest most_kept (filter (λ s. not (is_configuration_on c.bus c.device s)) xs) ++ c ∷ []) ≡ Some c
set_found c xs =
    find-append (is_configuration_on c.bus c.device) (latest most_kept (filter (λ s. not (is_configuration_on c.bus c.device s)) xs)) (c ∷ [])
    ∙ ap (λ (o : Option Configuration). option_or o (find (is_configuration_on c.bus c.device) (c ∷ [])))
    (by (nat_lt (length (filter (λ s. not (is_configuration_on c.bus c.device s)) xs)) most_kept))
    ∙ cond-true (is_configuration_on c.bus c.device c) _ _
    (and_from (c.bus == c.bus) (c.device == c.device) (eq-eqb c.bus c.bus refl) (eq-eqb c.device c.device refl))
  where
    none : find (is_configuration_on c.bus c.device) (filter (λ s. not (is_configuration_on c.bus c.device s)) xs) ≡ None
    none = none_left (is_configuration_on c.bus c.device) (λ s. not (is_configuration_on c.bus c.device s)) (λ s is. ap not is) xs

    by : (b : Bool) → find (is_configuration_on c.bus c.device) (if b then filter (λ s. not (is_configuration_on c.bus c.device s)) xs else drop 1 (filter (λ s. not (is_configuration_on c.bus c.device s)) xs)) ≡ None
    by true = none
    by false = find_behind (is_configuration_on c.bus c.device) (filter (λ s. not (is_configuration_on c.bus c.device s)) xs) none

-- an endpoint of the configuration may be of the one that was set before, if that has its value
wider : (a : Option Configuration) (c : Configuration) (endpoint : ℕ) (y : InterruptEndpoint) → may_be_active a c ≡ true
    → is_endpoint (Some c) c.bus c.device endpoint y ≡ true → is_endpoint a c.bus c.device endpoint y ≡ true
wider None c endpoint y may is =
    and_from (is_of_device c.bus c.device y && (y.endpoint == endpoint)) true
    (and_parts (is_of_device c.bus c.device y && (y.endpoint == endpoint)) (c.value == y.configuration.value) is).0 refl
wider (Some s) c endpoint y may is =
    let p = and_parts (is_of_device c.bus c.device y && (y.endpoint == endpoint)) (c.value == y.configuration.value) is in
    and_from (is_of_device c.bus c.device y && (y.endpoint == endpoint)) (s.value == y.configuration.value) p.0
    (eq-eqb s.value y.configuration.value (eqb-true s.value c.value may ∙ eqb-true c.value y.configuration.value p.1))

set_on_own : (t : Tracking) (c : Configuration) (interface endpoint : ℕ) → FoundIn t c interface endpoint → FoundIn (with_configuration t c) c interface endpoint
set_on_own t c interface endpoint found =
    ap (λ (a : Option Configuration). find (is_endpoint a c.bus c.device endpoint) t.endpoints) (set_found c t.active_configurations)
    ∙ narrow (is_endpoint (set_on t c) c.bus c.device endpoint) (is_endpoint (Some c) c.bus c.device endpoint) one
    (λ y is. wider (set_on t c) c endpoint y (endpoint_parts (set_on t c) c.bus c.device endpoint one (find_passes (is_endpoint (set_on t c) c.bus c.device endpoint) one t.endpoints found)).1 is)
    (own_passes t c endpoint (Some c) (Some interface) refl) t.endpoints found
  where
    one : InterruptEndpoint
    one = record { configuration = c; interface = Some interface; endpoint = endpoint }

set_again : (t : Tracking) (c : Configuration) (bus device value interface endpoint : ℕ) → not (is_at bus device c.bus c.device && (value == c.value)) ≡ false
    → FoundIn t c interface endpoint → FoundIn (with_configuration t (record { bus = bus; device = device; value = value })) c interface endpoint
set_again t c bus device value interface endpoint on found =
    let p = and_parts (is_at bus device c.bus c.device) (value == c.value) (not-false (is_at bus device c.bus c.device && (value == c.value)) on) in
    let q = and_parts (bus == c.bus) (device == c.device) p.0 in
    subst (λ (b : ℕ). FoundIn (with_configuration t (record { bus = b; device = device; value = value })) c interface endpoint) (sym (eqb-true bus c.bus q.0))
    (subst (λ (d : ℕ). FoundIn (with_configuration t (record { bus = c.bus; device = d; value = value })) c interface endpoint) (sym (eqb-true device c.device q.1))
    (subst (λ (v : ℕ). FoundIn (with_configuration t (record { bus = c.bus; device = c.device; value = v })) c interface endpoint) (sym (eqb-true value c.value p.1))
    (set_on_own t c interface endpoint found)))

-- ---- a URB that doesn't end it

-- another device gets an address
found_address : (t : Tracking) (c : Configuration) (bus device interface endpoint : ℕ) → is_at bus device c.bus c.device ≡ false
    → FoundIn t c interface endpoint → FoundIn (with_address t bus device) c interface endpoint
found_address t c bus device interface endpoint other found =
    ap (λ (a : Option Configuration). find (is_endpoint a c.bus c.device endpoint) (filter (λ e. not (is_of_device bus device e)) t.endpoints))
    (find_kept (is_configuration_on c.bus c.device) (λ s. not (is_configuration_on bus device s))
    (λ s is. on_device bus device s.bus s.device (record { bus = c.bus; device = c.device; interface = interface; number = 0 }) other is) t.active_configurations)
    ∙ find_kept (is_endpoint (set_on t c) c.bus c.device endpoint) (λ e. not (is_of_device bus device e))
    (λ e is. on_device bus device e.configuration.bus e.configuration.device (record { bus = c.bus; device = c.device; interface = interface; number = 0 }) other
    (endpoint_on (set_on t c) c.bus c.device endpoint e is)) t.endpoints
    ∙ found

found_number : (t : Tracking) (c : Configuration) (interface endpoint : ℕ) (tracked : TrackedInterface) (number : Option ℕ)
    → FoundIn t c interface endpoint → FoundIn (outcome_of_number t tracked number).after c interface endpoint
found_number t c interface endpoint tracked None found = found
found_number t c interface endpoint tracked (Some n) found = found

found_descriptor : (t : Tracking) (c : Configuration) (bus device of_it interface endpoint : ℕ) (number : Option ℕ)
    → FoundIn t c interface endpoint → FoundIn (outcome_of_descriptor t bus device of_it number).after c interface endpoint
found_descriptor t c bus device of_it interface endpoint (Some n) found = found
found_descriptor t c bus device of_it interface endpoint None found =
    found_number t c interface endpoint (new_interface bus device of_it) (next_number t.interfaces) found

found_description : (t : Tracking) (c : Configuration) (urb : UrbRecord) (of_it interface endpoint : ℕ) (cut : Bool)
    → FoundIn t c interface endpoint → FoundIn (outcome_of_description t urb of_it cut).after c interface endpoint
found_description t c urb of_it interface endpoint true found = found
found_description t c urb of_it interface endpoint false found =
    found_descriptor t c urb.bus urb.device of_it interface endpoint (position (is_interface urb.bus urb.device of_it) t.interfaces) found

found_answer : (t : Tracking) (c : Configuration) (urb : UrbRecord) (interface endpoint : ℕ) (request : Request) → request_forgets c urb request ≡ false
    → FoundIn t c interface endpoint → FoundIn (outcome_of_answer t urb request).after c interface endpoint
found_answer t c urb interface endpoint (SetAddress address) on found = found_address t c urb.bus address interface endpoint on found
found_answer t c urb interface endpoint (SetConfiguration value) on found = set_again t c urb.bus urb.device value interface endpoint on found
found_answer t c urb interface endpoint GetConfigurationDescriptor on found = by (whole_configuration urb.payload) on
  where
    by : (read : Option (ℕ × ℕ)) → is_there read ≡ false → FoundIn (with_answer t urb read) c interface endpoint
    by None e = found
    by (Some read) e = absurd cc
found_answer t c urb interface endpoint (GetReportDescriptor of_it) on found = found_description t c urb of_it interface endpoint urb.is_truncated found
found_answer t c urb interface endpoint (SetProtocol of_it boot) on found = found
found_answer t c urb interface endpoint HubPort on found = found
found_answer t c urb interface endpoint Other on found = found

found_completion : (t : Tracking) (c : Configuration) (urb : UrbRecord) (interface endpoint : ℕ) (asked : Option PendingRequest) → answer_forgets c urb asked ≡ false
    → FoundIn t c interface endpoint → FoundIn (outcome_of_completion t urb asked).after c interface endpoint
found_completion t c urb interface endpoint None on found = found
found_completion t c urb interface endpoint (Some r) on found =
    found_answer (without_request t urb) c urb interface endpoint (request_of r.setup) on found

found_bytes : (t : Tracking) (c : Configuration) (urb : UrbRecord) (interface endpoint : ℕ) (is_hid : Option Bool)
    → FoundIn t c interface endpoint → FoundIn (after_bytes t urb is_hid) c interface endpoint
found_bytes t c urb interface endpoint None found = found
found_bytes t c urb interface endpoint (Some is_hid) found = found

found_success : (t : Tracking) (c : Configuration) (urb : UrbRecord) (interface endpoint : ℕ) (transfer : Transfer) → event_forgets t c urb Completed transfer ≡ false
    → FoundIn t c interface endpoint → FoundIn (outcome_of_success t urb transfer).after c interface endpoint
found_success t c urb interface endpoint Control on found = found_completion t c urb interface endpoint (pending_request t urb) on found
found_success t c urb interface endpoint Interrupt on found = found_bytes t c urb interface endpoint (lacks_descriptor (content_of_bytes t urb urb.direction)) found
found_success t c urb interface endpoint Isochronous on found = found
found_success t c urb interface endpoint Bulk on found = found

found_stall : (t : Tracking) (c : Configuration) (urb : UrbRecord) (interface endpoint : ℕ) (transfer : Transfer)
    → FoundIn t c interface endpoint → FoundIn (outcome_of_stall t urb transfer).after c interface endpoint
found_stall t c urb interface endpoint Control found = found
found_stall t c urb interface endpoint Interrupt found = found
found_stall t c urb interface endpoint Isochronous found = found
found_stall t c urb interface endpoint Bulk found = found

found_shutdown : (t : Tracking) (c : Configuration) (urb : UrbRecord) (interface endpoint : ℕ) (from : Option ℕ)
    → FoundIn t c interface endpoint → FoundIn (outcome_of_shutdown t urb from).after c interface endpoint
found_shutdown t c urb interface endpoint None found = found
found_shutdown t c urb interface endpoint (Some of_it) found = found

found_failure : (t : Tracking) (c : Configuration) (urb : UrbRecord) (interface endpoint status : ℕ) (transfer : Transfer)
    → FoundIn t c interface endpoint → FoundIn (outcome_of_failure t urb status transfer).after c interface endpoint
found_failure t c urb interface endpoint status Control found = found
found_failure t c urb interface endpoint status Interrupt found = by (is_gone status)
  where
    by : (b : Bool) → FoundIn (if b then outcome_of_shutdown t urb (source t urb.bus urb.device urb.endpoint) else silence t).after c interface endpoint
    by true = found_shutdown t c urb interface endpoint (source t urb.bus urb.device urb.endpoint) found
    by false = found
found_failure t c urb interface endpoint status Isochronous found = found
found_failure t c urb interface endpoint status Bulk found = found

found_submission : (t : Tracking) (c : Configuration) (urb : UrbRecord) (interface endpoint : ℕ) (setup : Option (List ℕ))
    → FoundIn t c interface endpoint → FoundIn (outcome_of_submission t urb setup).after c interface endpoint
found_submission t c urb interface endpoint None found = found
found_submission t c urb interface endpoint (Some setup) found = found

found_event : (t : Tracking) (c : Configuration) (urb : UrbRecord) (interface endpoint : ℕ) (event : UrbEvent) → event_forgets t c urb event urb.transfer ≡ false
    → FoundIn t c interface endpoint → FoundIn (outcome_by_event t urb event).after c interface endpoint
found_event t c urb interface endpoint Submitted on found = found_submission t c urb interface endpoint urb.setup found
found_event t c urb interface endpoint Completed on found = found_success t c urb interface endpoint urb.transfer on found
found_event t c urb interface endpoint Stalled on found = found_stall t c urb interface endpoint urb.transfer found
found_event t c urb interface endpoint (Failed status) on found = found_failure t c urb interface endpoint status urb.transfer found

-- a URB that doesn't end what is known of the endpoint leaves it
pub endpoints_stay : (t : Tracking) (urb : UrbRecord) (c : Configuration) (interface endpoint : ℕ) → IsKnown t c interface endpoint → forgets t c urb ≡ false
    → IsKnown (outcome t urb).after c interface endpoint
unfolding outcome
endpoints_stay t urb c interface endpoint known on =
    known_by (outcome t urb).after c interface endpoint (found_event t c urb interface endpoint urb.event on known.found)
