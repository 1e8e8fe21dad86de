use Rattle.hid_report_descriptor.specs.declared.limits.Limits.TheVariants.{Bus}
use Rattle.hid_usages.proofs.BootDescriptors.{keyboard_given, mouse_given}
use Rattle.hid_usages.proofs.BootLemmas.{keys_told, buttons_are_told}
use Rattle.hid_usages.proofs.boot.laws.Goals as goal

pub returns-clause-keyboard : goal.returns-clause-keyboard
returns-clause-keyboard c = keyboard_given (c.one_reading.ensures Bus)

pub returns-clause-mouse : goal.returns-clause-mouse
returns-clause-mouse c = mouse_given (c.one_reading.ensures Bus)

pub returns-clause-keys : goal.returns-clause-keys
returns-clause-keys c = keys_told

pub returns-clause-buttons : goal.returns-clause-buttons
returns-clause-buttons c = buttons_are_told
