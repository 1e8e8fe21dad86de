use Rattle.std.proofs.Common.{◌≡◌, ◌+◌, ◌*◌, ◌≤◌, ◌++◌, length, take}
use Rattle.std.specs.Int.{w32, to_be_bytes}
use Rattle.usbip.specs.declared.operation.Operation.TheVariants.{DeviceList}
use Rattle.usbip.specs.declared.operation.OperationStatus.TheVariants.{Success}
use Rattle.usbip.specs.Operations.{head_bytes, operation_status_word, reply_code}
use Rattle.usbip_export.specs.Descriptions.{devices_bytes}
use Rattle.usbip_export.proofs.description.list.Given as goal

-- the devices so far stand after the head, each in 316 bytes
abbrev pub invariant-loop-place : goal.invariant-loop-place
invariant-loop-place l = record {
  bytes : l.bytes.items
      ≡ (head_bytes (reply_code DeviceList) (operation_status_word Success) ++ to_be_bytes w32 (length l.fn.devices))
      ++ devices_bytes 0 (take l.place l.fn.devices);
  room : length l.bytes.items ≤ 12 + 316 * l.place;
}
