-- A device after a reset of the bus is a new one with the snapshot that it had.
use Rattle.std.proofs.Common.{◌≡◌, ℕ, Bool, false, List, length, replicate, ap, ◌∙◌}
use Rattle.std.proofs.lemmas.List.{length-replicate}
use Rattle.hid_layout.specs.Controls.{items_of}
use Rattle.hid_snapshots.specs.Parts.{blank_parts}
use Rattle.hid_bus.specs.ReportState.{no_idle}
use Rattle.hid_device.specs.Inputs.{input_count}
use Rattle.hid_device.specs.Core.{CoreState, IsSound, reset_core}
use Rattle.hid_device.specs.Device.{DeviceState, core_of, reset_device, with_core}
use Rattle.hid_device.specs.Creation.{new_device_with}

-- as many of the same as there are idle times
counted : {A : Type 0} (same : A) (n count : ℕ) → n ≡ count → (let none : ℕ = 0 in replicate (length (replicate n none)) same ≡ replicate count same)
counted same n count is = let none : ℕ = 0 in ap (λ (k : ℕ). replicate k same) (length-replicate n none ∙ is)

pub reset_is_new : (device : DeviceState) → IsSound (core_of device)
    → reset_device device
    ≡ new_device_with device.addr (core_of device).config (core_of device).descriptor (core_of device).layout
    (core_of device).reports.snapshot
reset_is_new device sound =
    let core : CoreState = core_of device in
    let count : ℕ = input_count core.layout.reports in
    let with : List ℕ → List Bool → List ℕ → DeviceState = λ frames aborted idle. with_core (reset_device device) (record (reset_core core) {
      reports =
          record {
            snapshot = core.reports.snapshot;
            fixed = blank_parts (items_of core.layout);
            frames =
                frames;
            idle = idle;
            aborted = aborted;
          };
    }) in
    let none : ℕ = 0 in
    let aborted : List Bool = (reset_core core).reports.aborted in
    ap (λ (frames : List ℕ). with frames aborted (no_idle core.reports.idle))
    (counted none (length core.reports.idle) count sound.each_idle)
    ∙ ap (λ (aborted : List Bool). with (replicate count 0) aborted (no_idle core.reports.idle))
    (counted false (length core.reports.idle) count sound.each_idle)
    ∙ ap (λ (n : ℕ). with (replicate count 0) (replicate count false) (replicate n 0)) sound.each_idle
