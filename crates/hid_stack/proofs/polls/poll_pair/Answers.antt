use Rattle.hid_device.specs.Device.{core_of}
use Rattle.std.proofs.Common.{◌≡◌, ◌∙◌, Ok, Err, sym}
use Rattle.usb_transact.specs.Fate.{arrives_under}
use Rattle.hid_stack.specs.Slot.{link_of}
use Rattle.hid_stack.proofs.TrailLemmas.{some_meanwhile, some_replies}
use Rattle.hid_stack.proofs.StepLemmas.{polls_by, polled_to, polls_know, told_is, home_stays, few_of}
use Rattle.hid_stack.proofs.polls.poll_pair.Goals as goal

pub unreachable-requires : goal.unreachable-requires
unreachable-requires c =
    let done = polls_by c.args.fate c.args.device.now c.args.host.now c.poll.result c.poll.new.device c.poll.new.host c.clear.new.self.items c.poll.new.out.items c.requires.pair c.requires.free c.clear.ensures.items c.poll.ensures.packets in
    let wrong : Err c.in-Err.field-0 ≡ Ok done.told.0 = sym c.in-Err.is ∙ done.told.1 in cc

pub returns-clause-told : goal.returns-clause-told
returns-clause-told c =
    let done = polls_by c.args.fate c.args.device.now c.args.host.now c.poll.result c.poll.new.device c.poll.new.host c.clear.new.self.items c.poll.new.out.items c.requires.pair c.requires.free c.clear.ensures.items c.poll.ensures.packets in
    told_is (core_of c.args.device.now).layout
    (link_of (core_of c.args.device.now) c.args.host.now.phase) c.args.fate c.poll.result c.in-Ok.told c.in-Ok.is done.told

pub returns-clause-after : goal.returns-clause-after
returns-clause-after c =
    let done = polls_by c.args.fate c.args.device.now c.args.host.now c.poll.result c.poll.new.device c.poll.new.host c.clear.new.self.items c.poll.new.out.items c.requires.pair c.requires.free c.clear.ensures.items c.poll.ensures.packets in
    polled_to c.args.fate c.args.device.now c.args.host.now c.poll.result c.poll.new.device c.poll.new.host c.poll.new.out.items c.requires.pair c.requires.free done

pub returns-clause-knows : goal.returns-clause-knows
returns-clause-knows c =
    let done = polls_by c.args.fate c.args.device.now c.args.host.now c.poll.result c.poll.new.device c.poll.new.host c.clear.new.self.items c.poll.new.out.items c.requires.pair c.requires.free c.clear.ensures.items c.poll.ensures.packets in
    polls_know (arrives_under c.args.fate) c.args.device.now c.poll.new.device c.args.host.now c.poll.new.host c.poll.result c.clear.new.self.items c.poll.new.out.items _ _
    (some_replies c.hosts_know_their_devices.ensures.replies) (some_meanwhile c.hosts_know_their_devices.ensures.meanwhile) c.requires.pair c.requires.free c.poll.ensures.packets done.member

pub returns-clause-pair : goal.returns-clause-pair
returns-clause-pair c = (polls_by c.args.fate c.args.device.now c.args.host.now c.poll.result c.poll.new.device c.poll.new.host c.clear.new.self.items c.poll.new.out.items c.requires.pair c.requires.free c.clear.ensures.items c.poll.ensures.packets).pair

pub returns-clause-events : goal.returns-clause-events
returns-clause-events c = (polls_by c.args.fate c.args.device.now c.args.host.now c.poll.result c.poll.new.device c.poll.new.host c.clear.new.self.items c.poll.new.out.items c.requires.pair c.requires.free c.clear.ensures.items c.poll.ensures.packets).delivered

pub returns-clause-home : goal.returns-clause-home
returns-clause-home c =
    home_stays (arrives_under c.args.fate) c.args.device.now c.args.host.now c.args.host.now.clearing c.args.host.now.phase c.poll.result c.poll.new.device c.poll.new.host c.clear.new.self.items c.poll.new.out.items c.poll.ensures.packets

pub returns-clause-few : goal.returns-clause-few
returns-clause-few c = few_of c.args.device.now c.args.host.now.phase c.clear.new.self.items c.poll.new.out.items c.requires.pair c.clear.ensures.items c.poll.ensures.few
