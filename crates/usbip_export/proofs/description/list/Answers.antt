use Rattle.std.proofs.Common.{◌∙◌, ◌++◌, List, ℕ, ap, arith, length}
use Rattle.std.specs.Int.{w32, to_be_bytes}
use Rattle.usbip.specs.declared.operation.Operation.TheVariants.{DeviceList}
use Rattle.usbip.specs.declared.operation.OperationStatus.TheVariants.{Success}
use Rattle.usbip.specs.Operations.{head_bytes, operation_status_word, reply_code}
use Rattle.usbip_export.specs.Descriptions.{listed_bytes}
use Rattle.usbip_export.proofs.DescriptionLemmas.{list_more}
use Rattle.usbip_export.proofs.description.list.Goals as goal

pub loop-place-preserved : goal.loop-place-preserved
loop-place-preserved c = record {
  bytes = c.add_listed.ensures.bytes
      ∙ (ap (λ (l : List ℕ). l ++ listed_bytes c.loop-place.place c.index-devices-place.result) c.loop-place.invariant.bytes
      ∙ list_more (head_bytes (reply_code DeviceList) (operation_status_word Success) ++ to_be_bytes w32 (length c.args.devices.now))
      c.args.devices.now c.loop-place.place c.index-devices-place.result c.loop-place-test.true c.index-devices-place.is);
  room = omega (arith, c.add_listed.ensures.few, c.loop-place.invariant.room);
}
