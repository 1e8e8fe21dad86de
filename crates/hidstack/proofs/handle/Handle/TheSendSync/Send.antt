-- A handle goes to another thread as its session does.
use mir.Raw.{raw}
use denote.Memory.{lone}
use denote.Struct.Struct.{exits_of}
use denote.Struct.Owning.{shape, fields, to}
use denote.RawPtr.{Ptr}
use denote.Param.Send.{IsSend, AllSend, owning_send, struct_send, sendable}
use Rattle.std.specs.Prelude.{Option, None, Some}
use Rattle.std_alloc.proofs.SendSync.{quiet, lies}
use Rattle.std.proofs.Crossing as heap
use Rattle.hidstack.specs.Held.{owned_box}
use Rattle.hidstack_session.specs.contracts.session.Session as session
use Rattle.hidstack_session.proofs.session.Session.TheSendSync.{the_send as session_send}
use Rattle.hidstack.specs.contracts.handle.Handle.{the_row, the_type}

keyless : (p : Ptr) (kept : Option (session.the_row).Denot) → base.Shift.Keyless (owned_box session.the_row p kept)
keyless p None = tt
keyless p (Some x) = (lies session.the_row session_send p x, heap.frees.frees (record { memory = record { seal = tt } }) (raw (lone (session.the_row).mir)) p)

pub send : IsSend the_row
send =
    let all : AllSend (fields the_type) = (search sendable, tt) in
    owning_send the_type all (λ d. keyless d.at d.kept)
    (λ k. quiet (to the_type) (exits_of k (fields the_type)) ((struct_send (shape the_type) all).leaving k))
