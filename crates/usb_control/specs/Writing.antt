-- The bytes of a write, by the packets that the device received (USB 2.0, 8.5.3, 8.5.3.1 and 8.6.2).
use Rattle.std.specs.Prelude.{◌≡◌, ℕ, Bool, true, false, not, if◌then◌else◌, List, [], ◌∷◌, Option}
use Rattle.std.specs.Bool.{beq}
use Rattle.usb_packet.specs.declared.packet.TokenKind.TheVariants.{Out}
use Rattle.usb_packet.specs.declared.packet.Packet.{Packet}
use Rattle.usb_packet.specs.declared.packet.Packet.TheVariants.{Token, Data}
use Rattle.usb_control.specs.declared.device.Stage.{Stage}
use Rattle.usb_control.specs.declared.device.Stage.TheVariants.{WriteData}
use Rattle.usb_control.specs.declared.device.LastPacket.{LastPacket}
use Rattle.usb_control.specs.Device.{Effect, Answers, Applies, effect}

-- a packet is only answered: it brings no decision and no effect, but this stage, and this as received last
abbrev pub IsAnswered : Effect → Stage → LastPacket → Type 0
IsAnswered (Answers answer stage last_packet) stage_then last_then =
    (stage_then ≡ stage) × (last_then ≡ last_packet)
IsAnswered _ stage_then last_then = ⊥

-- packets one after another are only answered, from a stage and what was received last to others
abbrev pub AnswersAll : Option (List ℕ) → Stage → LastPacket → List Packet → Stage → LastPacket → Type 0
AnswersAll answer stage last_packet [] stage_then last_then = (stage_then ≡ stage) × (last_then ≡ last_packet)
AnswersAll answer stage last_packet (packet ∷ rest) stage_then last_then =
    (stage_mid : Stage) × (last_mid : LastPacket)
    × IsAnswered (effect answer stage last_packet packet) stage_mid last_mid
    × AnswersAll answer stage_mid last_mid rest stage_then last_then

-- a write of these bytes takes effect
abbrev pub IsApplied : Effect → List ℕ → Type 0
IsApplied (Applies applied) bytes = bytes ≡ applied
IsApplied _ bytes = ⊥

-- the payloads that a data stage accepts: data directly after an OUT token, under this toggle the next, then under the
-- other in turn; all else is thrown away (8.6.2)
abbrev pub given_data : Bool → Bool → List Packet → List (List ℕ)
given_data after_out one [] = []
given_data true one (Data toggle payload ∷ rest) =
    if beq toggle one
    then payload.items ∷ given_data false (not one) rest
    else given_data false one rest
given_data after_out one (Token Out addr endp ∷ rest) = given_data true one rest
given_data after_out one (_ ∷ rest) = given_data false one rest

-- the stage isn't that of a write whose effect is to come
abbrev pub IsNoWrite : Stage → Type 0
IsNoWrite (WriteData len one bytes more) = ⊥
IsNoWrite _ = Unit {0}
