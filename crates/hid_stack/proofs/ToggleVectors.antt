-- Worked toggles of a device with two keys, by what its host expects: each is worked out by hand, and a wrong one fails the check.
use Rattle.std.specs.Prelude.{◌≡◌, true, false, List, [], ◌∷◌, ◌++◌, pos, refl}
use Rattle.hid_report_descriptor.specs.declared.shape.Shape.TheVariants.{Variable}
use Rattle.hid_report_descriptor.specs.declared.report.ReportKind.TheVariants.{Input}
use Rattle.hid_layout.specs.Layout.{Contents}
use Rattle.hid_layout.specs.Controls.{items_from, spread_usages}
use Rattle.hid_snapshots.specs.Samples.{usage}
use Rattle.usb_transact.specs.declared.transaction.Fate.TheVariants.{Clean, ReplyLost, AckLost}
use Rattle.hid_requests.specs.declared.request.Request.TheVariants.{Clear}
use Rattle.hid_requests.specs.RequestKinds.{request_kind_of}
use Rattle.hid_bus.specs.Rounds.{Polls}
use Rattle.hid_bus.specs.WorkedHistories.{press}
use Rattle.hid_device.specs.declared.config.Config.{Config}
use Rattle.hid_requests.specs.declared.boot.Boot.TheVariants as boots
use Rattle.hid_device.specs.RequestTable.{decide}
use Rattle.hid_stack.specs.Members.{Begins, Controls, Halts, Member, MemberStep, Scheduled, expected_toggle_of, fresh_member, member_after_all, polls_it}
use Rattle.hid_stack.specs.ExpectedToggles.{parity_after}

-- the keys 07:04 and 07:05, a bit each
abbrev two_keys : Contents
two_keys = record {
  reports = record { kind = Input; id = 0; bits = 2 } ∷ [];
  numbered = false;
  items = record { report = 0; offset = 0; size = 1; count = 2; flags = record { 0 = 2 }; min = pos 0; max = pos 1; shape = Variable } ∷ [];
  entries = ((usage 7 4, usage 7 5) ∷ []) ∷ [];
  paths = [] ∷ [];
}

abbrev plain : Config
plain = record { vendor = 0; product = 0; interval = 10; boot = boots.No }

-- just configured
abbrev attached : Member
attached = fresh_member 1 plain [] two_keys

abbrev behind : List MemberStep → Member
behind steps = member_after_all attached steps

-- a key is pressed, and the acknowledgement of its report lost: the host is ahead
abbrev acknowledgement_lost : List MemberStep
acknowledgement_lost = Scheduled (press 0 0) ∷ Scheduled (Polls AckLost) ∷ []

-- press 1 07:04, poll 1 ack, halt 1: the endpoint is halted and the device at DATA0, and the host expects DATA1
abbrev halted : List MemberStep
halted = acknowledgement_lost ++ Halts ∷ []

halted_expects : expected_toggle_of (behind halted) ≡ true
unfolding items_from spread_usages
halted_expects = refl

halted_device : (behind halted).link.toggle ≡ false
unfolding items_from spread_usages
halted_device = refl

halted_parity : parity_after attached halted ≡ true
unfolding items_from spread_usages
halted_parity = refl

halted_polls : polls_it (behind halted) ≡ true
halted_polls = refl

-- a halt in a round that hasn't crossed leaves DATA0
uncrossed_expects : expected_toggle_of (behind (Scheduled (press 0 0) ∷ Scheduled (Polls ReplyLost) ∷ Halts ∷ []))
    ≡ false
unfolding items_from spread_usages
uncrossed_expects = refl

-- the halt is cleared, by SETUP and a status: DATA0 at both ends, and polls go again
abbrev cleared : List MemberStep
cleared = halted ++ Begins Clear ∷ Controls Clean ∷ Controls Clean ∷ []

cleared_expects : expected_toggle_of (behind cleared) ≡ false
unfolding items_from spread_usages request_kind_of decide
cleared_expects = refl

cleared_parity : parity_after attached cleared ≡ false
unfolding items_from spread_usages request_kind_of decide
cleared_parity = refl

cleared_polls : polls_it (behind cleared) ≡ true
unfolding items_from spread_usages request_kind_of decide
cleared_polls = refl

-- the device halts again before the status of the clear got through: DATA0 all the same, also while it is halted
abbrev halted_again : List MemberStep
halted_again = halted ++ Begins Clear ∷ Controls Clean ∷ Controls ReplyLost ∷ Halts ∷ Controls Clean ∷ []

again_expects : expected_toggle_of (behind halted_again) ≡ false
unfolding items_from spread_usages request_kind_of decide
again_expects = refl

again_polls : polls_it (behind halted_again) ≡ true
unfolding items_from spread_usages request_kind_of decide
again_polls = refl

again_halted : (behind halted_again).link.halted ≡ true
unfolding items_from spread_usages request_kind_of decide
again_halted = refl
