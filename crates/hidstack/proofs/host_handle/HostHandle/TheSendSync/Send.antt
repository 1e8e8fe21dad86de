-- A handle of a host goes to another thread as its host does.
use mir.Raw.{raw}
use denote.Memory.{lone}
use denote.Struct.Struct.{exits_of}
use denote.Struct.Owning.{shape, fields, to}
use denote.RawPtr.{Ptr}
use denote.Param.Send.{IsSend, AllSend, owning_send, struct_send, sendable}
use Rattle.std.specs.Prelude.{Option, None, Some}
use Rattle.std_alloc.proofs.SendSync.{quiet, lies}
use Rattle.std.proofs.Crossing as heap
use Rattle.hidstack.specs.Held.{owned_box}
use Rattle.hidstack_host.specs.contracts.host.Host as host
use Rattle.hidstack_host.proofs.host.Host.TheSendSync.{the_send as host_send}
use Rattle.hidstack.specs.contracts.host_handle.HostHandle.{the_row, the_type}

keyless : (p : Ptr) (kept : Option (host.the_row).Denot) → base.Shift.Keyless (owned_box host.the_row p kept)
keyless p None = tt
keyless p (Some x) = (lies host.the_row host_send p x, heap.frees.frees (record { memory = record { seal = tt } }) (raw (lone (host.the_row).mir)) p)

pub send : IsSend the_row
send =
    let all : AllSend (fields the_type) = (search sendable, tt) in
    owning_send the_type all (λ d. keyless d.at d.kept)
    (λ k. quiet (to the_type) (exits_of k (fields the_type)) ((struct_send (shape the_type) all).leaving k))
