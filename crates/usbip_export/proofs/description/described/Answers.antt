use Rattle.std.proofs.Common.{◌∙◌, ap}
use Rattle.usbip.specs.Operations.{description_bytes}
use Rattle.usbip_export.proofs.description.described.Goals as goal

pub returns : goal.returns
returns c = c.encode_description.ensures ∙ ap description_bytes c.describe.ensures
