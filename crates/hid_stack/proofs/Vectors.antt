-- Worked polls of a boot keyboard, by the states that both ends keep: each is worked out by hand, and a wrong one fails the check.
use Rattle.std.specs.Prelude.{◌≡◌, ℕ, true, false, List, [], ◌∷◌, replicate, Some, None, refl}
use Rattle.usb_transact.specs.declared.host.Took.TheVariants.{Fresh, Again, Nak, Silent}
use Rattle.usb_transact.specs.declared.transaction.Fate.{Fate}
use Rattle.usb_transact.specs.declared.transaction.Fate.TheVariants.{Clean, TokenLost, ReplyLost, AckLost}
use Rattle.hid_snapshots.specs.Samples.{keyboard}
use Rattle.hid_bus.specs.Rounds.{OwnStep, Polls}
use Rattle.hid_bus.specs.declared.step.Told.{Told}
use Rattle.hid_bus.specs.declared.step.Told.TheVariants.{Polled}
use Rattle.hid_stack.specs.declared.rig.TheConstants.{MAX_DEVICES}
use Rattle.hid_bus.specs.WorkedHistories.{open_at, press, state_after_own_steps}
use Rattle.hid_bus.specs.LinkState.{state_at_token}
use Rattle.hid_layout.specs.Layout.{Contents}
use Rattle.hid_requests.specs.declared.request.Request.TheVariants.{Clear, Status}
use Rattle.hid_device.specs.declared.config.Config.{Config}
use Rattle.hid_stack.specs.Members.{MemberStep, Begins, Controls, fresh_member, crossed_bytes, member_after_all, polls_it}
use Rattle.hid_stack.specs.StepResult.{poll_result}

-- what a poll tells after these steps, where the part that is sent has these bytes
abbrev poll_after : List OwnStep → Fate → List ℕ → Told
poll_after steps fate report =
    poll_result (state_at_token keyboard (state_after_own_steps keyboard steps)) fate report

abbrev one_key : List ℕ
one_key = 0 ∷ 0 ∷ 0x04 ∷ 0 ∷ 0 ∷ 0 ∷ 0 ∷ 0 ∷ []

abbrev two_keys : List ℕ
two_keys = 0 ∷ 0 ∷ 0x04 ∷ 0x05 ∷ 0 ∷ 0 ∷ 0 ∷ 0 ∷ []

-- a key, a lost acknowledgement, another key
abbrev retried : List OwnStep
retried = press 4 4 ∷ Polls AckLost ∷ press 4 5 ∷ []

-- the report goes as DATA0 and is taken
first_poll : poll_after (press 4 4 ∷ []) AckLost one_key ≡ Polled (Some (record { items = 0xC3 ∷ one_key })) (Fresh (record { items = one_key }))
first_poll = refl

-- the second poll brings the bytes of the first one, whatever is pressed meanwhile, and the host drops them
second_poll : poll_after retried Clean one_key ≡ Polled (Some (record { items = 0xC3 ∷ one_key })) Again
second_poll = refl

-- the other key goes in the next round, as DATA1
third_poll : poll_after (press 4 4 ∷ Polls AckLost ∷ press 4 5 ∷ Polls Clean ∷ []) Clean two_keys
    ≡ Polled (Some (record { items = 0x4B ∷ two_keys })) (Fresh (record { items = two_keys }))
third_poll = refl

-- with nothing to report the device answers NAK; of a token that is lost nothing comes back
nothing_due : poll_after [] Clean [] ≡ Polled (Some (record { items = 0x5A ∷ [] })) Nak
nothing_due = refl

token_lost : poll_after (press 4 4 ∷ []) TokenLost one_key ≡ Polled None Silent
token_lost = refl

-- a reply that is lost was sent, and the host receives nothing
reply_lost : poll_after (press 4 4 ∷ []) ReplyLost one_key ≡ Polled (Some (record { items = 0xC3 ∷ one_key })) Silent
reply_lost = refl

-- of a report of 100 bytes the host has 64 after the first piece, and none after the last, with which it was read
got_first : crossed_bytes (replicate 100 7) (open_at 2 0 true) ≡ replicate 64 7
got_first = refl

got_none : crossed_bytes (replicate 100 7) (open_at 2 0 false) ≡ []
got_none = refl

got_before_the_last : crossed_bytes (replicate 100 7) (open_at 2 1 false) ≡ replicate 64 7
got_before_the_last = refl

got_all : crossed_bytes (replicate 100 7) (open_at 2 1 true) ≡ []
got_all = refl

-- a Clear of which three tokens are lost has failed (C2); while the status of the device is asked for, it is still pending
abbrev failed_clear : List MemberStep
failed_clear = Begins Clear ∷ Controls TokenLost ∷ Controls TokenLost ∷ Controls TokenLost ∷ Begins Status ∷ []

held_back : (config : Config) (layout : Contents) → polls_it (member_after_all (fresh_member 1 config [] layout) failed_clear) ≡ false
held_back config layout = refl

polled_before : (config : Config) (layout : Contents) → polls_it (fresh_member 1 config [] layout) ≡ true
polled_before config layout = refl

-- a bus has room for seven devices
devices_at_most : MAX_DEVICES ≡ 7
devices_at_most = refl
