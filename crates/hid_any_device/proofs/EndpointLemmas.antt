-- A `HostDevice` is the host of an endpoint whose full packets have 64 bytes.
use Rattle.std.proofs.Common.{refl}
use Rattle.usb_transact.specs.declared.host.Took.{Took}
use Rattle.usb_transact.specs.declared.host.Took.TheVariants.{Fresh, Again, Nak, Stall, Silent}
use Rattle.hid_host.specs.Ready.{ReadyHostState}
use Rattle.hid_any_device.specs.Endpoint.{ReadsPacketsOf64}

pub reads_packets_of_64 : (known : ReadyHostState) (taken : Took) → ReadsPacketsOf64 known taken
reads_packets_of_64 known (Fresh payload) = record { outcome = refl; after = refl; events = refl }
reads_packets_of_64 known Again = record { outcome = refl; after = refl; events = refl }
reads_packets_of_64 known Nak = record { outcome = refl; after = refl; events = refl }
reads_packets_of_64 known Stall = record { outcome = refl; after = refl; events = refl }
reads_packets_of_64 known Silent = record { outcome = refl; after = refl; events = refl }
