-- What is printed of the bytes that a device sent.
use Rattle.std.proofs.Common.{◌≡◌, ℕ, true, false, nat_eq, nat_le, List, [], ◌∷◌, length, refl, ap, ◌∙◌, Result, Ok, Err, lit≤}
use Rattle.std.specs.Prelude.{codes}
use Rattle.std.proofs.lemmas.Bool.{and_parts, le-leb, leb-true, eqb-true, false_from_ne_true}
use Rattle.std.proofs.lemmas.List.{nil_from_length}
use Rattle.usb_packet.specs.declared.packet.TheConstants.{MAX_PAYLOAD}
use Rattle.usb_packet.specs.declared.packet.TokenKind.TheVariants.{Out, In, Setup}
use Rattle.usb_packet.specs.declared.packet.Packet.{Packet}
use Rattle.usb_packet.specs.declared.packet.Packet.TheVariants.{Token, Data, Ack, Nak, Stall}
use Rattle.usb_packet.specs.declared.fault.PacketFault.{PacketFault}
use Rattle.usb_packet.specs.PacketEncoding.{Encodes, data_pid, pid_of}
use Rattle.hid_text.specs.PollText.{packet_words, reply_at, reply_words}

-- bytes that encode a packet are printed as that packet
pub packet_shown : (packet : Packet) (bytes : List ℕ) → Encodes packet bytes → reply_words bytes ≡ packet_words packet
unfolding reply_at
packet_shown (Token Out addr endp) bytes h = rw h.encoded refl
packet_shown (Token In addr endp) bytes h = rw h.encoded refl
packet_shown (Token Setup addr endp) bytes h = rw h.encoded refl
packet_shown (Data false payload) bytes h = rw (h.encoded, le-leb (length payload.items) MAX_PAYLOAD h.short) refl
packet_shown (Data true payload) bytes h = rw (h.encoded, le-leb (length payload.items) MAX_PAYLOAD h.short) refl
packet_shown Ack bytes h = rw h.encoded refl
packet_shown Nak bytes h = rw h.encoded refl
packet_shown Stall bytes h = rw h.encoded refl

-- bytes that encode no packet tell nothing
pub nothing_shown : (bytes : List ℕ) (r : Result Packet PacketFault) (fault : PacketFault) → ((packet : Packet) → Encodes packet bytes → r ≡ Ok packet) → r ≡ Err fault → reply_words bytes ≡ codes "none"
unfolding reply_at
nothing_shown [] r fault complete refused = refl
nothing_shown (first ∷ body) r fault complete refused =
    let none : (packet : Packet) → Encodes packet (first ∷ body) → ⊥ = λ packet h. let read = complete packet h in cc in
    let zero = false_from_ne_true _ (λ t. let parts = and_parts (nat_eq first (data_pid false)) (nat_le (length body) MAX_PAYLOAD) t in
    none (Data false (record { items = body })) (record { fits = tt; short = leb-true (length body) MAX_PAYLOAD parts.1; encoded = ap (λ f. f ∷ body) (eqb-true first (data_pid false) parts.0) })) in
    let one = false_from_ne_true _ (λ t. let parts = and_parts (nat_eq first (data_pid true)) (nat_le (length body) MAX_PAYLOAD) t in
    none (Data true (record { items = body })) (record { fits = tt; short = leb-true (length body) MAX_PAYLOAD parts.1; encoded = ap (λ f. f ∷ body) (eqb-true first (data_pid true) parts.0) })) in
    let nak = false_from_ne_true _ (λ t. let parts = and_parts (nat_eq first (pid_of Nak)) (nat_eq (length body) 0) t in
    none Nak (record { fits = tt; short = lit≤ tt; encoded = spelled_alone first body (pid_of Nak) parts.0 parts.1 })) in
    let stall = false_from_ne_true _ (λ t. let parts = and_parts (nat_eq first (pid_of Stall)) (nat_eq (length body) 0) t in
    none Stall (record { fits = tt; short = lit≤ tt; encoded = spelled_alone first body (pid_of Stall) parts.0 parts.1 })) in
    rw (zero, one, nak, stall) refl
  where
    spelled_alone : (first : ℕ) (body : List ℕ) (pid : ℕ) → nat_eq first pid ≡ true → nat_eq (length body) 0 ≡ true → first ∷ body ≡ pid ∷ []
    spelled_alone first body pid same none = ap (λ f. f ∷ body) (eqb-true first pid same) ∙ ap (λ b. pid ∷ b) (nil_from_length body (eqb-true (length body) 0 none))
