-- What a driver waits for is sent.
use Rattle.std.proofs.Common.{◌≡◌, ℕ, ◌++◌, cond, Bool, true, false, List, Option, Some, None, Ok, refl, sym, ap, subst, ◌∙◌}
use Rattle.usb_control.specs.declared.setup.Setup.{Setup}
use Rattle.hid_driver.specs.Driver.{data_awaited}
use Rattle.hid_driver.specs.Requests.{setup_awaited}
use Rattle.usbip.specs.declared.message.Command.TheVariants as commands
use Rattle.usbip.specs.declared.message.Submit.{Submit}
use Rattle.usbip.specs.Messages.{command_bytes}
use Rattle.usbip_import.specs.declared.flight.Purpose.TheVariants.{Control}
use Rattle.usbip_import.specs.declared.import.Import.{Import}
use Rattle.usbip_import.specs.Flights.{is_asked}
use Rattle.usbip_import.specs.Submits.{control_submit, payload_of}
use Rattle.usbip_import.specs.Sending.{Sending, Sends, control_sending, import_begun, sending_of_setup}

-- the submit of a request that the driver waits for
control_is : (before : Import) (setup : Setup) → is_asked Control before.flights ≡ false
    → setup_awaited before.driver.state before.driver.interfaces ≡ Some setup
    → control_sending before ≡ sending_of_setup before (Some setup)
control_is before setup free awaited =
    ap (λ (b : Bool). cond b None (sending_of_setup before (setup_awaited before.driver.state before.driver.interfaces))) free
    ∙ ap (sending_of_setup before) awaited

-- that submit, with the data that the driver has for it, is what is sent
pub control_sent : (before after : Import) (old new given payload : List ℕ) (setup : Setup) (submit : Submit)
    → is_asked Control before.flights ≡ false → setup_awaited before.driver.state before.driver.interfaces ≡ Some setup
    → given ≡ data_awaited before.driver → payload ≡ payload_of setup given
    → submit ≡ control_submit before.device before.next setup payload → after ≡ import_begun Control submit before
    → new ≡ old ++ command_bytes (commands.Submit submit) ++ payload → Sends (control_sending before) before (Ok true) after old new
control_sent before after old new given payload setup submit free awaited given_is payload_is submit_is after_is new_is =
    let kept : payload ≡ payload_of setup (data_awaited before.driver) = payload_is ∙ ap (payload_of setup) given_is in
    let same : submit ≡ control_submit before.device before.next setup (payload_of setup (data_awaited before.driver)) =
    submit_is ∙ ap (control_submit before.device before.next setup) kept in
    let sends = λ (s : Option Sending). Sends s before (Ok true) after old new in
    subst sends (sym (control_is before setup free awaited)) (
      refl,
      after_is ∙ ap (λ (s : Submit). import_begun Control s before) same,
      new_is ∙ ap (λ (s : Submit). old ++ command_bytes (commands.Submit s) ++ payload) same
          ∙ ap (λ (p : List ℕ). old ++ command_bytes (commands.Submit (control_submit before.device before.next setup (payload_of setup (data_awaited before.driver)))) ++ p) kept,
    )
