-- A reply has the data that it says.
use Rattle.std.proofs.Common.{◌≡◌, ℕ, ◌*◌, ◌/◌, ◌≤◌, ◌⊎◌, inl, inr, eqb, leb, ltb, Bool, true, false, cond, ◌&&◌, ◌||◌, List, [], ◌∷◌, Option, Some, None, refl, sym, ap, ◌∙◌, subst, arith, length, take, min, unwrap_or, slice_get}
use Rattle.std.proofs.lemmas.Bool.{eqb-true, leb-true}
use Rattle.std.proofs.lemmas.List.{length-take}
use Rattle.std.proofs.Math.Nat.{mul-div-le}
use Rattle.usb_control.specs.SetupBytes.{reads, setup_of}
use Rattle.usb_control.specs.Transfer.{Shape, Decision, Refused, Accepted, transfer_shape}
use Rattle.hid_snapshots.specs.Pieces.{pieces_for}
use Rattle.hid_device.specs.Core.{CoreState, core_at_poll}
use Rattle.hid_device.specs.RequestTable.{core_table}
use Rattle.hid_gadget.specs.declared.outcomes.Poll.{Poll}
use Rattle.hid_gadget.specs.declared.outcomes.Poll.TheVariants as polls
use Rattle.hid_gadget.specs.WholeTransfers.{bytes_given, control_result, decision_at_setup, end_with, given_bytes}
use Rattle.hid_gadget.specs.WholeReports.{bytes_fitting, bytes_left, bytes_taken, end_of_round, fitting_bytes, fitting_pieces, report_result}
use Rattle.usbip.specs.declared.message.Direction.{Direction}
use Rattle.usbip.specs.declared.message.Direction.TheVariants.{Out, In}
use Rattle.usbip.specs.declared.message.Status.TheVariants.{BadRequest, NoMemory, Stalled}
use Rattle.usbip.specs.declared.message.Submit.{Submit}
use Rattle.usbip.specs.declared.message.SubmitReply.{SubmitReply}
use Rattle.usbip.specs.declared.pending.TheConstants.{MAX_PENDING}
use Rattle.usbip.specs.declared.pending.PendingSubmit.{PendingSubmit}
use Rattle.usbip_export.specs.declared.exported_device.ExportedDevice.{ExportedDevice}
use Rattle.usbip_export.specs.ExportedDevices.{asks_for_report, control_data, control_reply, ended_reply, fits_setup, is_way, data_of_oldest, refused_reply, reply_of_oldest, reply_of_poll, report_room}
use Rattle.usbip_export.specs.Payloads.{HasPayload, HasPayloadIfAny, OldestHasPayload, ReportHasPayload, SubmitHasPayload, payload_length}

-- ---- no data

pub none_has : (way : Direction) (room : ℕ) (r : SubmitReply) → r.length ≡ 0 → HasPayload way room [] r
none_has Out room r e = record { payload = refl; within = omega (arith, e) }
none_has In room r e = record { payload = sym e; within = omega (arith, e) }

-- ---- control transfers

length-of-taken : (n : ℕ) (bytes : List ℕ) → length (take n bytes) ≤ n
length-of-taken n bytes = omega (arith, length-take n bytes)

short-if : (r : Bool) (n : ℕ) (bytes : List ℕ) → length (cond r (take n bytes) []) ≤ n
short-if true n bytes = length-of-taken n bytes
short-if false n bytes = omega arith

given-short : (shape : Shape) (decision : Decision) → length (unwrap_or (given_bytes shape decision) []) ≤ shape.length
given-short shape Refused = omega arith
given-short shape (Accepted answer) = short-if shape.reads shape.length (unwrap_or answer [])

given-none : (shape : Shape) (decision : Decision) → shape.reads ≡ false → unwrap_or (given_bytes shape decision) [] ≡ []
given-none shape Refused e = refl
given-none shape (Accepted answer) e = ap (λ (b : Bool). cond b (take shape.length (unwrap_or answer [])) []) e

-- the setup data of a submit that fits
fits-means : (a b c : Bool) → (a && (b || c)) ≡ true → (a ≡ true) × ((b ≡ true) ⊎ (c ≡ true))
fits-means true true c e = (refl, inl refl)
fits-means true false c e = (refl, inr e)
fits-means false b c e = absurd (cc)

some-has : (way : Direction) (b : Bool) (size : ℕ) (bytes : List ℕ) → length bytes ≤ size → (b ≡ false → bytes ≡ [])
    → ((size ≡ 0) ⊎ (is_way way b ≡ true))
    → (length bytes ≡ payload_length way (cond b (length bytes) size)) × (cond b (length bytes) size ≤ size)
some-has Out true size bytes short none (inl e) = (omega (arith, e, short), short)
some-has Out true size bytes short none (inr e) = absurd (cc)
some-has Out false size bytes short none w = (ap length (none refl), omega arith)
some-has In true size bytes short none w = (refl, short)
some-has In false size bytes short none (inl e) = (ap length (none refl) ∙ sym e, omega arith)
some-has In false size bytes short none (inr e) = absurd (cc)

ended-has : (s : Submit) (o : Option (List ℕ)) → length (unwrap_or o []) ≤ s.length
    → (reads (setup_of s.setup) ≡ false → unwrap_or o [] ≡ [])
    → ((s.length ≡ 0) ⊎ (is_way s.direction (reads (setup_of s.setup)) ≡ true))
    → HasPayload s.direction s.length (unwrap_or o []) (ended_reply s (end_with o))
ended-has s None short none w = none_has s.direction s.length (refused_reply s Stalled) refl
ended-has s (Some bytes) short none w =
    let h = some-has s.direction (reads (setup_of s.setup)) s.length bytes short none w in
    record { payload = h.0; within = h.1 }

control-has : (core : CoreState) (s : Submit) (fits : Bool) → fits_setup s (setup_of s.setup) ≡ fits
    → HasPayload s.direction s.length (cond fits (unwrap_or (bytes_given core_table core (setup_of s.setup)) []) [])
    (cond fits (ended_reply s (control_result core_table core (setup_of s.setup))) (refused_reply s BadRequest))
control-has core s true e =
    let shape = transfer_shape (setup_of s.setup) in
    let decision = decision_at_setup core_table core (setup_of s.setup) in
    let means = fits-means (eqb s.length (setup_of s.setup).length) (eqb (setup_of s.setup).length 0)
    (is_way s.direction (reads (setup_of s.setup))) e in
    let same : s.length ≡ (setup_of s.setup).length = eqb-true s.length (setup_of s.setup).length means.0 in
    ended-has s (bytes_given core_table core (setup_of s.setup))
    (subst (λ (n : ℕ). length (unwrap_or (given_bytes shape decision) []) ≤ n) (sym same) (given-short shape decision))
    (λ w. given-none shape decision w)
    (elim means.1 [ inl z ↦ inl (same ∙ eqb-true (setup_of s.setup).length 0 z) | inr w ↦ inr w ])
control-has core s false e = none_has s.direction s.length (refused_reply s BadRequest) refl

-- ---- submits

waits-has : (s : Submit) (b : Bool)
    → HasPayloadIfAny s.direction s.length []
    (cond b None (Some (record { seqnum = s.seqnum; status = NoMemory; length = 0 })))
waits-has s true = refl
waits-has s false = none_has s.direction s.length (record { seqnum = s.seqnum; status = NoMemory; length = 0 }) refl

asked-has : (d : ExportedDevice) (s : Submit) (b : Bool)
    → HasPayloadIfAny s.direction s.length []
    (cond b (cond (ltb (length d.pending) MAX_PENDING) None (Some (record { seqnum = s.seqnum; status = NoMemory; length = 0 })))
    (Some (refused_reply s Stalled)))
asked-has d s true = waits-has s (ltb (length d.pending) MAX_PENDING)
asked-has d s false = none_has s.direction s.length (refused_reply s Stalled) refl

submit-has : (d : ExportedDevice) (s : Submit) (b : Bool)
    → HasPayloadIfAny s.direction s.length (cond b (control_data d.gadget s) [])
    (cond b (Some (control_reply d.gadget s)) (cond (asks_for_report d.gadget s)
    (cond (ltb (length d.pending) MAX_PENDING) None (Some (record { seqnum = s.seqnum; status = NoMemory; length = 0 })))
    (Some (refused_reply s Stalled))))
submit-has d s true = control-has d.gadget s (fits_setup s (setup_of s.setup)) refl
submit-has d s false = asked-has d s (asks_for_report d.gadget s)

data-short : (core : CoreState) (s : Submit) (b : Bool)
    → length (cond b (unwrap_or (bytes_given core_table core (setup_of s.setup)) []) []) ≤ (setup_of s.setup).length
data-short core s true =
    given-short (transfer_shape (setup_of s.setup)) (decision_at_setup core_table core (setup_of s.setup))
data-short core s false = omega arith

submit-short : (d : ExportedDevice) (s : Submit) (b : Bool)
    → length (cond b (control_data d.gadget s) []) ≤ (setup_of s.setup).length
submit-short d s true = data-short d.gadget s (fits_setup s (setup_of s.setup))
submit-short d s false = omega arith

pub submit_has_payload : (d : ExportedDevice) (s : Submit) → SubmitHasPayload d s
submit_has_payload d s =
    record { reply = submit-has d s (eqb s.endpoint 0); within = submit-short d s (eqb s.endpoint 0) }

-- ---- reports

-- what an interrupt transfer gives, by how it ends: no more bytes than its room
abbrev pub GivesBytes : ℕ → List ℕ → Poll → Type 0
GivesBytes room bytes polls.Nothing = bytes ≡ []
GivesBytes room bytes (polls.Done n) = (n ≡ length bytes) × (length bytes ≤ room)
GivesBytes room bytes polls.Stalled = bytes ≡ []
GivesBytes room bytes polls.TooSmall = bytes ≡ []

-- the pieces that fit a room, by whether all of the bytes do
fitting-short : (room : ℕ) (left : List ℕ) (k : ℕ) (b : Bool) → leb (length left) room ≡ b
    → length (take (64 * cond b k (room / 64)) left) ≤ room
fitting-short room left k true e =
    let long : length (take (64 * k) left) ≡ min (64 * k) (length left) = length-take (64 * k) left in
    let within : length left ≤ room = leb-true (length left) room e in
    omega (arith, long, within)
fitting-short room left k false e =
    let long : length (take (64 * (room / 64)) left) ≤ 64 * (room / 64) = length-of-taken (64 * (room / 64)) left in
    let within : 64 * (room / 64) ≤ room = mul-div-le room 64 in
    omega (arith, long, within)

pieces-give : (room count : ℕ) (bytes left : List ℕ) (b : Bool) → eqb count 0 ≡ b → bytes ≡ take (64 * count) left
    → length bytes ≤ room → GivesBytes room bytes (cond b polls.TooSmall (polls.Done (length bytes)))
pieces-give room count bytes left true e is short =
    is ∙ ap (λ (n : ℕ). take (64 * n) left) (eqb-true count 0 e)
pieces-give room count bytes left false e is short = (refl, short)

halted-gives : (room : ℕ) (b : Bool) → GivesBytes room [] (cond b polls.Stalled polls.Nothing)
halted-gives room true = refl
halted-gives room false = refl

round-gives : (room : ℕ) (core : CoreState) (current : Option ℕ)
    → GivesBytes room (bytes_fitting room core current) (end_of_round room core current)
round-gives room core None = halted-gives room core.halted
round-gives room core (Some r) =
    pieces-give room (fitting_pieces room (bytes_left core r)) (fitting_bytes room (bytes_left core r)) (bytes_left core r)
    (eqb (fitting_pieces room (bytes_left core r)) 0) refl refl
    (fitting-short room (bytes_left core r) (pieces_for (length (bytes_left core r))) (leb (length (bytes_left core r)) room) refl)

poll-gives : (room : ℕ) (core : CoreState) (b : Bool)
    → GivesBytes room (cond b (bytes_fitting room (core_at_poll core) (core_at_poll core).current) [])
    (cond b (end_of_round room (core_at_poll core) (core_at_poll core).current) polls.Nothing)
poll-gives room core true = round-gives room (core_at_poll core) (core_at_poll core).current
poll-gives room core false = refl

-- a transfer gives no more bytes than its room, and none where it isn't done
pub report_gives : (room : ℕ) (core : CoreState) → GivesBytes room (bytes_taken core room) (report_result core room)
report_gives room core = poll-gives room core core.is_configured

oldest-has : (p : PendingSubmit) (rest : List PendingSubmit) (room : ℕ) (bytes : List ℕ) (poll : Poll) → room ≤ p.length
    → GivesBytes room bytes poll → HasPayloadIfAny In p.length bytes (reply_of_poll (p ∷ rest) poll)
oldest-has p rest room bytes polls.Nothing fits gives = gives
oldest-has p rest room bytes (polls.Done n) fits gives =
    record { payload = sym gives.0; within = omega (arith, gives.0, gives.1, fits) }
oldest-has p rest room bytes polls.Stalled fits gives =
    record { payload = ap length gives; within = omega arith }
oldest-has p rest room bytes polls.TooSmall fits gives =
    record { payload = ap length gives; within = omega arith }

oldest-payload : (core : CoreState) (ps : List PendingSubmit)
    → OldestHasPayload ps (data_of_oldest core ps) (reply_of_oldest core ps)
oldest-payload core [] = (refl, refl)
oldest-payload core (p ∷ rest) =
    oldest-has p rest (report_room p) (bytes_taken core (report_room p)) (report_result core (report_room p))
    (omega arith) (report_gives (report_room p) core)

pub report_has_payload : (d : ExportedDevice) → ReportHasPayload d
report_has_payload d = oldest-payload d.gadget d.pending

-- ---- what is known of a reply that there is

pub some_payload : (way : Direction) (room : ℕ) (bytes : List ℕ) (reply : Option SubmitReply) (r : SubmitReply)
    → HasPayloadIfAny way room bytes reply → reply ≡ Some r → HasPayload way room bytes r
some_payload way room bytes reply r has is = subst (HasPayloadIfAny way room bytes) is has

pub none_payload : (way : Direction) (room : ℕ) (bytes : List ℕ) (reply : Option SubmitReply)
    → HasPayloadIfAny way room bytes reply → reply ≡ None → bytes ≡ []
none_payload way room bytes reply has is = subst (HasPayloadIfAny way room bytes) is has

pub oldest_some : (ps : List PendingSubmit) (bytes : List ℕ) (reply : Option SubmitReply) (r : SubmitReply)
    → OldestHasPayload ps bytes reply → reply ≡ Some r → length bytes ≡ r.length
oldest_some [] bytes reply r has is =
    let none : reply ≡ None = has.1 in
    absurd (cc)
oldest_some (p ∷ rest) bytes reply r has is = (some_payload In p.length bytes reply r has is).payload

pub oldest_none : (ps : List PendingSubmit) (bytes : List ℕ) (reply : Option SubmitReply)
    → OldestHasPayload ps bytes reply → reply ≡ None → bytes ≡ []
oldest_none [] bytes reply has is = has.0
oldest_none (p ∷ rest) bytes reply has is = none_payload In p.length bytes reply has is

gives-short : (room : ℕ) (bytes : List ℕ) (poll : Poll) → GivesBytes room bytes poll → length bytes ≤ room
gives-short room bytes polls.Nothing gives = omega (arith, ap length gives)
gives-short room bytes (polls.Done n) gives = gives.1
gives-short room bytes polls.Stalled gives = omega (arith, ap length gives)
gives-short room bytes polls.TooSmall gives = omega (arith, ap length gives)

pub taken_short : (core : CoreState) (room : ℕ) → length (bytes_taken core room) ≤ room
taken_short core room = gives-short room (bytes_taken core room) (report_result core room) (report_gives room core)

same-pending : (x p : PendingSubmit) → Some x ≡ Some p → x ≡ p
same-pending x p e = cc

pub oldest_data : (core : CoreState) (ps : List PendingSubmit) (p : PendingSubmit) → slice_get ps 0 ≡ Some p
    → data_of_oldest core ps ≡ bytes_taken core (report_room p)
oldest_data core [] p e = absurd (cc)
oldest_data core (x ∷ rest) p e = ap (λ (y : PendingSubmit). bytes_taken core (report_room y)) (same-pending x p e)
