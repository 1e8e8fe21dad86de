use Rattle.std.proofs.Common.{◌≡◌, ◌++◌, false, rules}
use Rattle.usbip.specs.declared.message.Command.TheVariants as commands
use Rattle.usbip.specs.Messages.{command_bytes}
use Rattle.usbip_import.specs.declared.flight.Purpose.TheVariants.{Control}
use Rattle.usbip_import.specs.Flights.{is_asked}
use Rattle.usbip_import.proofs.SendingLemmas.{control_sent}
use Rattle.usbip_import.proofs.import.Import.send_control.Goals as goal

pub returns : goal.returns
returns c =
    let before = c.args.self.now in
    let free : is_asked Control before.flights ≡ false = search rules in
    let appended : c.append.new.out.items ≡ c.args.out.now.items
    ++ command_bytes (commands.Submit c.control_submit-submit.result) ++ c.payload_of-payload.result.now = search rules in
    control_sent before c.begin.new.self c.args.out.now.items c.append.new.out.items c.in-Control.data.now c.payload_of-payload.result.now c.in-Control.setup
    c.control_submit-submit.result free c.in-Control.ensures.0 c.in-Control.ensures.1 c.payload_of-payload.ensures.payload c.control_submit-submit.ensures
    c.begin.ensures appended
