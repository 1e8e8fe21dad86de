-- What a device makes of a token to endpoint 0, and of an ACK directly after the data of a poll.
use Rattle.std.proofs.Common.{◌≡◌, ◌∙◌, ℕ, Bool, true, false, ◌==◌, ◌&&◌, Option, None, Some, refl, ap, arith}
use Rattle.std.specs.Prelude.{if◌then◌else◌, not}
use Rattle.std.proofs.lemmas.Bool.Decides.{nat_tests}
use Rattle.usb_packet.specs.declared.packet.Packet.{Packet}
use Rattle.usb_packet.specs.declared.packet.Packet.TheVariants.{Token, Data, Ack, Nak, Stall}
use Rattle.usb_packet.specs.declared.packet.TokenKind.{TokenKind}
use Rattle.usb_packet.specs.declared.packet.TokenKind.TheVariants.{Out, In, Setup}
use Rattle.usb_control.specs.TryFunctions.{answer_to}
use Rattle.hid_layout.specs.Controls.{items_of}
use Rattle.hid_requests.specs.declared.codes.TheConstants.{REPORT_ENDPOINT}
use Rattle.hid_bus.specs.ReportState.{due_where}
use Rattle.hid_device.specs.Core.{CoreState, core_after_ack, core_after_due, core_at_poll, core_with_due_round, poll_response}
use Rattle.hid_device.specs.Device.{DeviceState, after_ignored_packet, control_answer, core_of, device_after, device_after_effect, device_after_other, device_after_poll, device_after_ignored, device_answer, effect_of, is_control, is_poll}

-- a test that fails last fails
never : (a b : Bool) → a && (b && false) ≡ false
never true true = refl
never true false = refl
never false b = refl

-- a token to endpoint 0 is no poll
no_poll : (d : DeviceState) (kind : TokenKind) (addr endp : ℕ) → endp ≡ 0 → is_poll d (Token kind addr endp) ≡ false
no_poll d Out addr endp zero = refl
no_poll d Setup addr endp zero = refl
no_poll d In addr endp zero = rw zero (never (core_of d).is_configured (addr == d.addr))

-- a token to endpoint 0 is given to it
given : (d : DeviceState) (kind : TokenKind) (addr endp : ℕ) → addr ≡ d.addr → endp ≡ 0 → is_control d (Token kind addr endp) ≡ true
given d kind addr endp here zero = grind (arith, nat_tests, here, zero)

-- so endpoint 0 receives it, and answers
pub token_after : (d : DeviceState) (packet : Packet) (kind : TokenKind) (addr endp : ℕ) → packet ≡ Token kind addr endp → addr ≡ d.addr → endp ≡ 0
    → device_after d packet ≡ device_after_effect d (effect_of d packet)
token_after d packet kind addr endp is here zero =
    ap (λ (b : Bool). if b then device_after_poll d (core_at_poll (core_of d)) else device_after_other d packet)
    (ap (is_poll d) is ∙ no_poll d kind addr endp zero)
    ∙ ap (λ (b : Bool). if b then device_after_effect d (effect_of d packet) else device_after_ignored d packet)
    (ap (is_control d) is ∙ given d kind addr endp here zero)

pub token_answer : (d : DeviceState) (packet : Packet) (kind : TokenKind) (addr endp : ℕ) → packet ≡ Token kind addr endp → addr ≡ d.addr → endp ≡ 0
    → device_answer d packet ≡ answer_to (effect_of d packet)
token_answer d packet kind addr endp is here zero =
    ap (λ (b : Bool). if b then Some (poll_response (core_at_poll (core_of d))) else control_answer d packet)
    (ap (is_poll d) is ∙ no_poll d kind addr endp zero)
    ∙ ap (λ (b : Bool). if b then answer_to (effect_of d packet) else None) (ap (is_control d) is ∙ given d kind addr endp here zero)

-- an ACK directly after the data of a poll closes the piece that they are, and isn't answered
pub ack_after : (d : DeviceState) → d.awaits_ack ≡ true
    → device_after d Ack ≡ after_ignored_packet d (core_after_ack (core_of d)) false
ack_after d awaits_ack =
    ap (λ (w : Bool). if not w then device_after_effect d (effect_of d Ack) else device_after_ignored d Ack) awaits_ack

pub ack_answer : (d : DeviceState) → d.awaits_ack ≡ true → device_answer d Ack ≡ None
ack_answer d awaits_ack = ap (λ (w : Bool). if not w then answer_to (effect_of d Ack) else None) awaits_ack

-- the first of two tests that hold together
first_holds : (a b : Bool) → a && b ≡ true → a ≡ true
first_holds true b both = refl
first_holds false b both = both

-- a device is polled once it is configured
pub polled_configured : (d : DeviceState) (packet : Packet) → is_poll d packet ≡ true → (core_of d).is_configured ≡ true
polled_configured d (Token In addr endp) is = first_holds (core_of d).is_configured ((addr == d.addr) && (endp == REPORT_ENDPOINT)) is
polled_configured d (Token Out addr endp) is = absurd (cc)
polled_configured d (Token Setup addr endp) is = absurd (cc)
polled_configured d (Data one payload) is = absurd (cc)
polled_configured d Ack is = absurd (cc)
polled_configured d Nak is = absurd (cc)
polled_configured d Stall is = absurd (cc)

-- a round that opens leaves it configured, or not
opened_configured : (core : CoreState) (due : Option ℕ)
    → (core_with_due_round core due).is_configured ≡ core.is_configured
opened_configured core None = refl
opened_configured core (Some r) = refl

opened_where_configured : (core : CoreState) (current : Option ℕ)
    → (core_after_due core current).is_configured ≡ core.is_configured
opened_where_configured core None = opened_configured core (due_where (items_of core.layout) core.halted core.reports)
opened_where_configured core (Some r) = refl

pub opening_configured : (core : CoreState) → (core_at_poll core).is_configured ≡ core.is_configured
opening_configured core = opened_where_configured core core.current
