use Rattle.std.proofs.Common.{◌≡◌, ℕ, List, length, take, drop, ◌++◌, ap, sym, ◌∙◌}
use Rattle.hid_device.specs.declared.decisions.PendingWrite.{PendingWrite}
use Rattle.hid_device.specs.declared.decisions.PendingWrite.TheVariants.{Nothing, Configure, Keep, Idle, Protocol, Halt, Clear}
use Rattle.hid_device.specs.Core.{CoreState}
use Rattle.hid_device.specs.RequestTable.{core_after_write, with_idle_time}
use Rattle.hid_bus.specs.ReportState.{with_idle}
use Rattle.hid_device.specs.contracts.device_core.Core.{the_view}
use Rattle.hid_device.proofs.OutputLemmas.{idle_length, refilled, sound_with}
use Rattle.hid_device.proofs.device_core.CoreRequests.apply.Goals as goal

idle_is : (c : goal.After-self-in-Idle-1)
    → c.set_idle.new.idle ≡ with_idle_time c.self.inside.idle.items c.in-Idle.report c.in-Idle.time
idle_is c =
    c.set_idle.ensures
    ∙ ap (λ (idle : List ℕ). with_idle_time idle c.in-Idle.report c.in-Idle.time) c.deref_mut.ensures.value

same_length : (c : goal.After-self-in-Idle-1) → length c.set_idle.new.idle ≡ length c.self.inside.idle.items
same_length c = ap (λ (idle : List ℕ). length idle) (idle_is c) ∙ idle_length c.self.inside.idle.items c.in-Idle.report c.in-Idle.time

idle_then : (c : goal.After-self-in-Idle-1)
    → take c.self.inside.idle.len (c.set_idle.new.idle ++ drop (length c.set_idle.new.idle) c.self.inside.idle.items) ≡ c.set_idle.new.idle
idle_then c = refilled c.set_idle.new.idle c.self.inside.idle.items c.self.inside.idle.len c.self.inside.idle.ok.0 (same_length c)

pub returns-in-Nothing : goal.returns-in-Nothing
returns-in-Nothing c =
    let pending : c.args.self.now.pending ≡ Nothing = ap (λ (core : CoreState). core.pending) (sym c.self.view_is) ∙ c.in-Nothing.is in
    ap (λ (pending : PendingWrite). core_after_write c.args.self.now c.args.bytes.now pending) (sym pending)

pub returns-in-Configure : goal.returns-in-Configure
returns-in-Configure c =
    let pending : c.args.self.now.pending ≡ Configure = ap (λ (core : CoreState). core.pending) (sym c.self.view_is) ∙ c.in-Configure.is in
    c.configure.ensures
    ∙ ap (λ (pending : PendingWrite). core_after_write c.args.self.now c.args.bytes.now pending) (sym pending)

pub returns-in-Keep : goal.returns-in-Keep
returns-in-Keep c =
    let pending : c.args.self.now.pending ≡ Keep c.in-Keep.place = ap (λ (core : CoreState). core.pending) (sym c.self.view_is) ∙ c.in-Keep.is in
    c.keep.ensures
    ∙ ap (λ (pending : PendingWrite). core_after_write c.args.self.now c.args.bytes.now pending) (sym pending)

pub returns-in-Halt : goal.returns-in-Halt
returns-in-Halt c =
    let pending : c.args.self.now.pending ≡ Halt = ap (λ (core : CoreState). core.pending) (sym c.self.view_is) ∙ c.in-Halt.is in
    c.halt.ensures
    ∙ ap (λ (pending : PendingWrite). core_after_write c.args.self.now c.args.bytes.now pending) (sym pending)

pub returns-in-Clear : goal.returns-in-Clear
returns-in-Clear c =
    let pending : c.args.self.now.pending ≡ Clear = ap (λ (core : CoreState). core.pending) (sym c.self.view_is) ∙ c.in-Clear.is in
    c.clear.ensures
    ∙ ap (λ (pending : PendingWrite). core_after_write c.args.self.now c.args.bytes.now pending) (sym pending)

pub returns-in-Protocol : goal.returns-in-Protocol
returns-in-Protocol c =
    let pending : c.args.self.now.pending ≡ Protocol c.in-Protocol.protocol = ap (λ (core : CoreState). core.pending) (sym c.self.view_is) ∙ c.in-Protocol.is in
    ap (λ (core : CoreState). core_after_write core c.args.bytes.now (Protocol c.in-Protocol.protocol)) c.self.view_is
    ∙ ap (λ (pending : PendingWrite). core_after_write c.args.self.now c.args.bytes.now pending) (sym pending)

pub invariant_of-self-in-Protocol : goal.invariant_of-self-in-Protocol
invariant_of-self-in-Protocol c =
    let before = c.self.invariant.sound in
    record {
      sound = sound_with (the_view c.self.inside) c.self.inside.is_configured c.self.inside.idle.items c.in-Protocol.protocol _ before before.each_idle before.outputs;
      nothing_due = c.self.invariant.nothing_due;
      armed = c.self.invariant.armed;
      round = c.self.invariant.round;
      room = c.self.invariant.room;
    }

pub invariant_of-self : goal.invariant_of-self
invariant_of-self c =
    let before = c.self.invariant.sound in
    record {
      sound = sound_with (the_view c.self.inside) c.self.inside.is_configured _ c.self.inside.protocol _ before (ap (λ (idle : List ℕ). length idle) (idle_then c) ∙ same_length c ∙ before.each_idle) before.outputs;
      nothing_due = c.self.invariant.nothing_due;
      armed = c.self.invariant.armed;
      round = c.self.invariant.round;
      room = c.self.invariant.room;
    }

pub returns-in-Idle : goal.returns-in-Idle
returns-in-Idle c =
    let core = the_view c.self.inside in
    let pending : c.args.self.now.pending ≡ Idle c.in-Idle.report c.in-Idle.time = ap (λ (core : CoreState). core.pending) (sym c.self.view_is) ∙ c.in-Idle.is in
    ap (λ (idle : List ℕ). let set : CoreState = record core { reports = with_idle idle core.reports } in set)
    (idle_then c ∙ idle_is c)
    ∙ ap (λ (core : CoreState). core_after_write core c.args.bytes.now
    (Idle c.in-Idle.report c.in-Idle.time)) c.self.view_is
    ∙ ap (λ (pending : PendingWrite). core_after_write c.args.self.now c.args.bytes.now pending) (sym pending)
