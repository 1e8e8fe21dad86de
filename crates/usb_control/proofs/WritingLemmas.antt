-- apply_gives write takes effect with the payloads of its data stage joined.
use Rattle.std.proofs.Common.{◌≡◌, ℕ, ◌+◌, refl, sym, ◌∙◌, ap, subst, Bool, true, false, not, nat_lt, nat_le, ◌==◌, ◌&&◌, List, [], ◌∷◌, ◌++◌, length, Option, Some, arith, append_assoc}
use Rattle.std.specs.Prelude.{if◌then◌else◌}
use Rattle.std.specs.Bool.{beq}
use Rattle.std.specs.List.{concat}
use Rattle.std.proofs.lemmas.List.{append-nil}
use Rattle.std.proofs.lemmas.Bool.Decides.{nat_tests}
use Rattle.arrayvec.specs.ArrayVec.{ArrayVec}
use Rattle.usb_packet.specs.declared.packet.TokenKind.TheVariants as tokens
use Rattle.usb_packet.specs.declared.packet.Packet.{Packet}
use Rattle.usb_packet.specs.declared.packet.Packet.TheVariants.{Token, Data, Ack, Nak, Stall}
use Rattle.usb_control.specs.declared.device.Stage.{Stage}
use Rattle.usb_control.specs.declared.device.Stage.TheVariants as stages
use Rattle.usb_control.specs.declared.device.LastPacket.{LastPacket}
use Rattle.usb_control.specs.declared.device.LastPacket.TheVariants as last_packets
use Rattle.usb_control.specs.Device.{Effect, Answers, Applies, Decides, effect, effect_of_in, effect_of_out, effect_of_status, effect_of_data_packet, effect_of_ack, stall_effect, effect_without_answer, stage_after_ack, read_piece}
use Rattle.usb_control.specs.Writing.{IsAnswered, AnswersAll, IsApplied, IsNoWrite, given_data}

-- what has no write to come brings no effect, and goes on to what has none
record Harmless (brings : Effect) : Type 0 where
  none : (bytes : List ℕ) → ¬ IsApplied brings bytes
  goes : (stage : Stage) (last_packet : LastPacket) → IsAnswered brings stage last_packet → IsNoWrite stage

answers_harmless : (said : Option Packet) (stage : Stage) (last_packet : LastPacket) → IsNoWrite stage
    → Harmless (Answers said stage last_packet)
answers_harmless said stage last_packet h = record { none = λ bytes g. g; goes = λ s l g. subst IsNoWrite (sym g.0) h }

decides_harmless : (bytes : List ℕ) → Harmless (Decides bytes)
decides_harmless bytes = record { none = λ b g. g; goes = λ s l g. absurd g }

stalled_harmless : Harmless stall_effect
stalled_harmless = answers_harmless _ stages.Idle last_packets.Nothing tt

asked_harmless : (answer : Option (List ℕ)) (stage : Stage) → IsNoWrite stage → Harmless (effect_of_in answer stage)
asked_harmless answer stages.Idle h = stalled_harmless
asked_harmless answer (stages.ReadData len sent one) h = answers_harmless _ _ _ h
asked_harmless answer stages.StatusOut h = stalled_harmless
asked_harmless answer (stages.WriteData len one bytes more) h = absurd h
asked_harmless answer stages.StatusIn h = answers_harmless _ _ _ h

status_harmless : (one : Bool) (payload : List ℕ) → Harmless (effect_of_status one payload)
status_harmless true [] = answers_harmless _ stages.StatusOut last_packets.Nothing tt
status_harmless true (x ∷ xs) = stalled_harmless
status_harmless false payload = stalled_harmless

given_harmless : (stage : Stage) (one : Bool) (payload : List ℕ) → IsNoWrite stage
    → Harmless (effect_of_out stage one payload)
given_harmless stages.Idle one payload h = stalled_harmless
given_harmless (stages.ReadData len sent expected) one payload h = status_harmless one payload
given_harmless stages.StatusOut one payload h = status_harmless one payload
given_harmless (stages.WriteData len expected bytes more) one payload h = absurd h
given_harmless stages.StatusIn one payload h = stalled_harmless

setup_harmless : (b : Bool) (stage : Stage) (payload : List ℕ) → IsNoWrite stage
    → Harmless (if b then Decides payload else effect_without_answer stage)
setup_harmless true stage payload h = decides_harmless payload
setup_harmless false stage payload h = answers_harmless _ stage last_packets.Nothing h

data_harmless : (last_packet : LastPacket) (stage : Stage) (one : Bool) (payload : List ℕ) → IsNoWrite stage
    → Harmless (effect_of_data_packet stage last_packet one payload)
data_harmless last_packets.Nothing stage one payload h = answers_harmless _ stage last_packets.Nothing h
data_harmless last_packets.Setup stage one payload h = setup_harmless (not one && (length payload == 8)) stage payload h
data_harmless last_packets.Out stage one payload h = given_harmless stage one payload h
data_harmless last_packets.Answered stage one payload h = answers_harmless _ stage last_packets.Nothing h

goes_on_no_write : (len sent : ℕ) (one : Bool) (count : ℕ) (b : Bool) → IsNoWrite (if b then stages.ReadData len (sent + count) (not one) else stages.StatusOut)
goes_on_no_write len sent one count true = tt
goes_on_no_write len sent one count false = tt

acknowledged_no_write : (answer : Option (List ℕ)) (stage : Stage) → IsNoWrite stage
    → IsNoWrite (stage_after_ack answer stage)
acknowledged_no_write answer stages.Idle h = h
acknowledged_no_write answer (stages.ReadData len sent one) h = goes_on_no_write len sent one (length (read_piece answer len sent)) _
acknowledged_no_write answer stages.StatusOut h = h
acknowledged_no_write answer (stages.WriteData len one bytes more) h = h
acknowledged_no_write answer stages.StatusIn h = tt

ack_harmless : (answer : Option (List ℕ)) (last_packet : LastPacket) (stage : Stage) → IsNoWrite stage
    → Harmless (effect_of_ack answer stage last_packet)
ack_harmless answer last_packets.Nothing stage h = answers_harmless _ stage last_packets.Nothing h
ack_harmless answer last_packets.Setup stage h = answers_harmless _ stage last_packets.Nothing h
ack_harmless answer last_packets.Out stage h = answers_harmless _ stage last_packets.Nothing h
ack_harmless answer last_packets.Answered stage h =
    answers_harmless _ (stage_after_ack answer stage) last_packets.Nothing (acknowledged_no_write answer stage h)

effect_harmless : (answer : Option (List ℕ)) (stage : Stage) (last_packet : LastPacket) (packet : Packet) → IsNoWrite stage
    → Harmless (effect answer stage last_packet packet)
effect_harmless answer stage last_packet (Token tokens.Setup a e) h = answers_harmless _ stage last_packets.Setup h
effect_harmless answer stage last_packet (Token tokens.Out a e) h = answers_harmless _ stage last_packets.Out h
effect_harmless answer stage last_packet (Token tokens.In a e) h = asked_harmless answer stage h
effect_harmless answer stage last_packet (Data one payload) h = data_harmless last_packet stage one payload.items h
effect_harmless answer stage last_packet Ack h = ack_harmless answer last_packet stage h
effect_harmless answer stage last_packet Nak h = answers_harmless _ stage last_packets.Nothing h
effect_harmless answer stage last_packet Stall h = answers_harmless _ stage last_packets.Nothing h

pub no_effect : (answer : Option (List ℕ)) (begins stage : Stage) (first last : LastPacket) (packets : List Packet)
    (packet : Packet) (bytes : List ℕ) → IsNoWrite begins → AnswersAll answer begins first packets stage last
    → ¬ IsApplied (effect answer stage last packet) bytes
no_effect answer begins stage first last [] packet bytes h all applied =
    (effect_harmless answer stage last packet (subst IsNoWrite (sym all.0) h)).none bytes applied
no_effect answer begins stage first last (p ∷ packets) packet bytes h (mid, last_packet, goes, all) applied =
    no_effect answer mid stage last_packet last packets packet bytes ((effect_harmless answer begins first p h).goes mid last_packet goes) all applied

-- whether an OUT token was heard last
abbrev pub is_out : LastPacket → Bool
is_out last_packets.Out = true
is_out _ = false

-- a write takes effect with these payloads after the bytes that it has, and with all that were announced
pub record Writes (len : ℕ) (had : List ℕ) (payloads : List (List ℕ)) (bytes : List ℕ) : Type 0 where
  pub joined : bytes ≡ had ++ concat payloads
  pub whole : length bytes ≡ len

-- what a stage of a write leads to over these packets
abbrev pub WritesFrom : Option (List ℕ) → List Packet → Stage → LastPacket → Packet → List ℕ → Type 0
WritesFrom answer packets stage last packet bytes =
    (len : ℕ) (one : Bool) (had : ArrayVec ℕ) (more : Bool) (last_packet : LastPacket)
    → AnswersAll answer (stages.WriteData len one had more) last_packet packets stage last
    → Writes len had.items (given_data (is_out last_packet) one packets) bytes

-- the packet that brings the effect
applied_if : (b : Bool) (len : ℕ) (had bytes : List ℕ) → (length had == len) ≡ b
    → IsApplied (if b then Applies had else stall_effect) bytes → Writes len had [] bytes
applied_if true len had bytes e h =
    let whole : length had ≡ len = grind (arith, nat_tests) in
    record { joined = h ∙ sym (append-nil had); whole = ap (λ (l : List ℕ). length l) h ∙ whole }
applied_if false len had bytes e h = absurd h

given_no_effect_if : (b c : Bool) (len : ℕ) (expected one : Bool) (had : List ℕ) (more : Bool) (then_more : Bool)
    (payload : List ℕ) (bytes : List ℕ)
    → ¬ IsApplied
    (if b then
    (if c then Answers (Some Ack)
    (stages.WriteData len (not one)
    (record { items = had ++ payload }) then_more) last_packets.Nothing else stall_effect) else Answers (Some Ack)
    (stages.WriteData len expected (record { items = had }) more) last_packets.Nothing) bytes
given_no_effect_if true true len expected one had more then_more payload bytes h = h
given_no_effect_if true false len expected one had more then_more payload bytes h = h
given_no_effect_if false c len expected one had more then_more payload bytes h = h

write_applied : (answer : Option (List ℕ)) (len : ℕ) (one : Bool) (had : ArrayVec ℕ) (more : Bool)
    (last_packet : LastPacket) (packet : Packet) (bytes : List ℕ)
    → IsApplied (effect answer (stages.WriteData len one had more) last_packet packet) bytes → Writes len had.items [] bytes
write_applied answer len one had more last_packet (Token tokens.Setup a e) bytes h = absurd h
write_applied answer len one had more last_packet (Token tokens.Out a e) bytes h = absurd h
write_applied answer len one had more last_packet (Token tokens.In a e) bytes h = applied_if (length had.items == len) len had.items bytes refl h
write_applied answer len one had more last_packets.Nothing (Data t p) bytes h = absurd h
write_applied answer len one had more last_packets.Setup (Data t p) bytes h = absurd (setup_none (not t && (length p.items == 8)) (stages.WriteData len one had more) p.items bytes h)
  where
    setup_none : (b : Bool) (stage : Stage) (payload bytes : List ℕ)
        → ¬ IsApplied (if b then Decides payload else effect_without_answer stage) bytes
    setup_none true stage payload bytes g = g
    setup_none false stage payload bytes g = g
write_applied answer len one had more last_packets.Out (Data t p) bytes h = absurd (given_no_effect_if (beq t one) ((more && nat_le (length p.items) 8) && nat_le (length had.items + length p.items) len) len one one had.items more ((length p.items == 8) && nat_lt (length had.items + length p.items) len) p.items bytes h)
write_applied answer len one had more last_packets.Answered (Data t p) bytes h = absurd h
write_applied answer len one had more last_packets.Nothing Ack bytes h = absurd h
write_applied answer len one had more last_packets.Setup Ack bytes h = absurd h
write_applied answer len one had more last_packets.Out Ack bytes h = absurd h
write_applied answer len one had more last_packets.Answered Ack bytes h = absurd h
write_applied answer len one had more last_packet Nak bytes h = absurd h
write_applied answer len one had more last_packet Stall bytes h = absurd h

-- what data after a SETUP token, or an IN token, lead to
setup_goes : (b : Bool) (stage : Stage) (payload : List ℕ) (mid : Stage) (last_packet : LastPacket)
    → IsAnswered (if b then Decides payload else effect_without_answer stage) mid last_packet
    → (mid ≡ stage) × (last_packet ≡ last_packets.Nothing)
setup_goes true stage payload mid last_packet h = absurd h
setup_goes false stage payload mid last_packet h = h

in_goes : (b : Bool) (had : List ℕ) (mid : Stage) (last_packet : LastPacket)
    → IsAnswered (if b then Applies had else stall_effect) mid last_packet → mid ≡ stages.Idle
in_goes true had mid last_packet h = absurd h
in_goes false had mid last_packet h = h.0

-- packets that are skipped
skip_out : (b one : Bool) (a e : ℕ) (rest : List Packet) → given_data b one (Token tokens.Out a e ∷ rest) ≡ given_data true one rest
skip_out true one a e rest = refl
skip_out false one a e rest = refl

skip_setup : (b one : Bool) (a e : ℕ) (rest : List Packet) → given_data b one (Token tokens.Setup a e ∷ rest) ≡ given_data false one rest
skip_setup true one a e rest = refl
skip_setup false one a e rest = refl

skip_ack : (b one : Bool) (rest : List Packet) → given_data b one (Ack ∷ rest) ≡ given_data false one rest
skip_ack true one rest = refl
skip_ack false one rest = refl

skip_nak : (b one : Bool) (rest : List Packet) → given_data b one (Nak ∷ rest) ≡ given_data false one rest
skip_nak true one rest = refl
skip_nak false one rest = refl

skip_stall : (b one : Bool) (rest : List Packet) → given_data b one (Stall ∷ rest) ≡ given_data false one rest
skip_stall true one rest = refl
skip_stall false one rest = refl

-- a packet that leaves the stage
same_writes : (answer : Option (List ℕ)) (packets : List Packet) (stage : Stage) (last : LastPacket) (packet : Packet)
    (bytes : List ℕ) (len : ℕ) (one : Bool) (had : ArrayVec ℕ) (more : Bool) (mid : Stage) (next : LastPacket)
    (last_packet : LastPacket) (payloads : List (List ℕ)) → WritesFrom answer packets stage last packet bytes
    → payloads ≡ given_data (is_out next) one packets → (mid ≡ stages.WriteData len one had more) × (last_packet ≡ next)
    → AnswersAll answer mid last_packet packets stage last → Writes len had.items payloads bytes
same_writes answer packets stage last packet bytes len one had more mid next last_packet payloads ih e goes all =
    let from = subst (λ (s : Stage). AnswersAll answer s last_packet packets stage last) goes.0 all in
    let from2 =
    subst (λ (h : LastPacket). AnswersAll answer
    (stages.WriteData len one had more) h packets stage last) goes.1 from in
    rw e (ih len one had more next from2)

-- a STALL ends the write
ended_writes : (answer : Option (List ℕ)) (packets : List Packet) (stage : Stage) (last : LastPacket)
    (packet : Packet) (bytes : List ℕ) (len : ℕ) (had : List ℕ) (mid : Stage) (last_packet : LastPacket)
    (payloads : List (List ℕ)) → IsApplied (effect answer stage last packet) bytes → mid ≡ stages.Idle
    → AnswersAll answer mid last_packet packets stage last → Writes len had payloads bytes
ended_writes answer packets stage last packet bytes len had mid last_packet payloads applied e all =
    absurd (no_effect answer mid stage last_packet last packets packet bytes (subst IsNoWrite (sym e) tt) all applied)

-- data that are accepted
taken_writes : (b : Bool) (answer : Option (List ℕ)) (packets : List Packet) (stage : Stage) (last : LastPacket)
    (packet : Packet) (bytes : List ℕ) (len : ℕ) (one : Bool) (had p : ArrayVec ℕ) (more : Bool) (mid : Stage)
    (last_packet : LastPacket) → WritesFrom answer packets stage last packet bytes
    → IsApplied (effect answer stage last packet) bytes
    → IsAnswered
    (if b then Answers (Some Ack)
    (stages.WriteData len (not one)
    (record { items = had.items ++ p.items }) more) last_packets.Nothing else stall_effect) mid last_packet
    → AnswersAll answer mid last_packet packets stage last
    → Writes len had.items (p.items ∷ given_data false (not one) packets) bytes
taken_writes true answer packets stage last packet bytes len one had p more mid last_packet ih applied goes all =
    let w = same_writes answer packets stage last packet bytes len (not one) (record { items = had.items ++ p.items }) more mid last_packets.Nothing last_packet (given_data false (not one) packets) ih refl goes all in
    record { joined = w.joined ∙ append_assoc had.items p.items _; whole = w.whole }
taken_writes false answer packets stage last packet bytes len one had p more mid last_packet ih applied goes all =
    ended_writes answer packets stage last packet bytes len had.items mid last_packet _ applied goes.0 all

pub writes_from : (packets : List Packet) (answer : Option (List ℕ)) (stage : Stage) (last : LastPacket)
    (packet : Packet) (bytes : List ℕ) → IsApplied (effect answer stage last packet) bytes
    → WritesFrom answer packets stage last packet bytes
writes_from [] answer stage last packet bytes applied len one had more last_packet all =
    write_applied answer len one had more last_packet packet bytes
    (subst (λ (h : LastPacket). IsApplied (effect answer (stages.WriteData len one had more) h packet) bytes) all.1
    (subst (λ (s : Stage). IsApplied (effect answer s last packet) bytes) all.0 applied))
writes_from (Token tokens.Setup a e ∷ packets) answer stage last packet bytes applied len one had more last_packet (mid, next, goes, all) = same_writes answer packets stage last packet bytes len one had more mid last_packets.Setup next _ (writes_from packets answer stage last packet bytes applied) (skip_setup (is_out last_packet) one a e packets) goes all
writes_from (Token tokens.Out a e ∷ packets) answer stage last packet bytes applied len one had more last_packet (mid, next, goes, all) = same_writes answer packets stage last packet bytes len one had more mid last_packets.Out next _ (writes_from packets answer stage last packet bytes applied) (skip_out (is_out last_packet) one a e packets) goes all
writes_from (Token tokens.In a e ∷ packets) answer stage last packet bytes applied len one had more last_packet (mid, next, goes, all) = ended_writes answer packets stage last packet bytes len had.items mid next _ applied (in_goes (length had.items == len) had.items mid next goes) all
writes_from (Data t p ∷ packets) answer stage last packet bytes applied len one had more last_packets.Nothing (mid, next, goes, all) = same_writes answer packets stage last packet bytes len one had more mid last_packets.Nothing next _ (writes_from packets answer stage last packet bytes applied) refl goes all
writes_from (Data t p ∷ packets) answer stage last packet bytes applied len one had more last_packets.Answered (mid, next, goes, all) = same_writes answer packets stage last packet bytes len one had more mid last_packets.Nothing next _ (writes_from packets answer stage last packet bytes applied) refl goes all
writes_from (Data t p ∷ packets) answer stage last packet bytes applied len one had more last_packets.Setup (mid, next, goes, all) = same_writes answer packets stage last packet bytes len one had more mid last_packets.Nothing next _ (writes_from packets answer stage last packet bytes applied) refl (setup_goes (not t && (length p.items == 8)) (stages.WriteData len one had more) p.items mid next goes) all
writes_from (Data true p ∷ packets) answer stage last packet bytes applied len false had more last_packets.Out (mid, next, goes, all) = same_writes answer packets stage last packet bytes len false had more mid last_packets.Nothing next _ (writes_from packets answer stage last packet bytes applied) refl goes all
writes_from (Data false p ∷ packets) answer stage last packet bytes applied len true had more last_packets.Out (mid, next, goes, all) = same_writes answer packets stage last packet bytes len true had more mid last_packets.Nothing next _ (writes_from packets answer stage last packet bytes applied) refl goes all
writes_from (Data true p ∷ packets) answer stage last packet bytes applied len true had more last_packets.Out (mid, next, goes, all) = taken_writes ((more && nat_le (length p.items) 8) && nat_le (length had.items + length p.items) len) answer packets stage last packet bytes len true had p ((length p.items == 8) && nat_lt (length had.items + length p.items) len) mid next (writes_from packets answer stage last packet bytes applied) applied goes all
writes_from (Data false p ∷ packets) answer stage last packet bytes applied len false had more last_packets.Out (mid, next, goes, all) = taken_writes ((more && nat_le (length p.items) 8) && nat_le (length had.items + length p.items) len) answer packets stage last packet bytes len false had p ((length p.items == 8) && nat_lt (length had.items + length p.items) len) mid next (writes_from packets answer stage last packet bytes applied) applied goes all
writes_from (Ack ∷ packets) answer stage last packet bytes applied len one had more last_packets.Nothing (mid, next, goes, all) = same_writes answer packets stage last packet bytes len one had more mid last_packets.Nothing next _ (writes_from packets answer stage last packet bytes applied) refl goes all
writes_from (Ack ∷ packets) answer stage last packet bytes applied len one had more last_packets.Setup (mid, next, goes, all) = same_writes answer packets stage last packet bytes len one had more mid last_packets.Nothing next _ (writes_from packets answer stage last packet bytes applied) refl goes all
writes_from (Ack ∷ packets) answer stage last packet bytes applied len one had more last_packets.Out (mid, next, goes, all) = same_writes answer packets stage last packet bytes len one had more mid last_packets.Nothing next _ (writes_from packets answer stage last packet bytes applied) refl goes all
writes_from (Ack ∷ packets) answer stage last packet bytes applied len one had more last_packets.Answered (mid, next, goes, all) = same_writes answer packets stage last packet bytes len one had more mid last_packets.Nothing next _ (writes_from packets answer stage last packet bytes applied) refl goes all
writes_from (Nak ∷ packets) answer stage last packet bytes applied len one had more last_packet (mid, next, goes, all) = same_writes answer packets stage last packet bytes len one had more mid last_packets.Nothing next _ (writes_from packets answer stage last packet bytes applied) (skip_nak (is_out last_packet) one packets) goes all
writes_from (Stall ∷ packets) answer stage last packet bytes applied len one had more last_packet (mid, next, goes, all) = same_writes answer packets stage last packet bytes len one had more mid last_packets.Nothing next _ (writes_from packets answer stage last packet bytes applied) (skip_stall (is_out last_packet) one packets) goes all
