-- What a device shows of its open round suits a host that knows it.
use Rattle.std.proofs.Common.{ℕ, Bool, Option, Some, None, sym, subst}
use Rattle.std.specs.Prelude.{IfSome}
use Rattle.hid_layout.specs.Layout.{Contents}
use Rattle.hid_snapshots.specs.Parts.{IsInput}
use Rattle.usb_control.specs.Device.{DevControlState}
use Rattle.hid_device.specs.Inputs.{AreInputsFirst, input_count}
use Rattle.hid_device.specs.Core.{CoreState, IsBelow, IsSound, round_of}
use Rattle.hid_host.specs.declared.phase.HostPhase.{HostPhase}
use Rattle.hid_host.specs.declared.phase.HostPhase.TheVariants.{Cold, Described, Parsed, Ready}
use Rattle.hid_host.specs.Host.{HostDeviceState}
use Rattle.hid_stack.specs.HostInvariant.{IsConsistent, IsConsistentAt}
use Rattle.hid_host.specs.Phase.{IfReady}
use Rattle.hid_host.specs.ResetEvents.{SuitsRound}

input_so : (layout : Contents) (current : Option ℕ) (toggle : Bool) → AreInputsFirst layout.reports → IsBelow (input_count layout.reports) current
    → (let round : Option (ℕ × Bool) = elim current [ None ↦ None | Some r ↦ Some (r, toggle) ] in IfSome round (λ it. IsInput layout it.0))
input_so layout None toggle first below = tt
input_so layout (Some r) toggle first below = first.first r below

suits_so : (core : CoreState) → IsSound core → SuitsRound core.layout (round_of core) core.reports.fixed
suits_so core sound = record { input = input_so core.layout core.current core.toggle sound.inputs_first sound.of_input; fits = sound.fixed }

at_phase : (phase : HostPhase) (addr : ℕ) (core : CoreState) → IsSound core → IsConsistentAt phase addr core
    → IfReady phase (λ known. SuitsRound known.layout (round_of core) core.reports.fixed)
at_phase Cold addr core sound knows = tt
at_phase (Described info) addr core sound knows = tt
at_phase (Parsed info layout) addr core sound knows = tt
at_phase (Ready known) addr core sound knows =
    subst (λ (layout : Contents). SuitsRound layout (round_of core) core.reports.fixed) (sym knows.0)
    (suits_so core sound)

pub rounds_suit : (host : HostDeviceState) (control : DevControlState CoreState) → IsSound control.requests
    → IsConsistent host control
    → IfReady host.phase (λ known. SuitsRound known.layout (round_of control.requests) control.requests.reports.fixed)
rounds_suit host control sound knows = at_phase host.phase host.addr control.requests sound knows.by.phase
