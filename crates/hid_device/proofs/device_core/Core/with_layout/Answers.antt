use Rattle.std.proofs.Common.{◌≡◌, ℕ, List, None, refl, sym, ap, subst, arith}
use Rattle.std.proofs.lemmas.Grind.{common_steps}
use Rattle.usb_transact.specs.Device.{DevPipeState}
use Rattle.hid_layout.specs.Parsing.{ParsesTo}
use Rattle.hid_device.specs.Outputs.{AreOutputs}
use Rattle.hid_device.proofs.InputLemmas.{inputs_first}
use Rattle.hid_device.proofs.OutputLemmas.{bare_are}
use Rattle.hid_device.proofs.BusLemmas.{of_bus}
use Rattle.hid_device.proofs.device_core.Core.with_layout.Goals as goal

pub invariant_of-result-2 : goal.invariant_of-result-2
invariant_of-result-2 c =
    let armed : c.new.result.armed ≡ None = ap (λ (pipe : DevPipeState). pipe.armed) c.new.ensures in
    record {
      sound = record {
        lays = subst (λ (bytes : List ℕ). ParsesTo bytes c.args.layout)
            (sym c.in-Ok.ensures.made.descriptor) c.requires.lays;
        empty_codes = c.requires.empty_codes;
        zeros = c.requires.zeros;
        inputs_first = inputs_first c.args.descriptor.now c.args.layout c.requires.lays;
        snapshot = c.in-Ok.ensures.made.fits;
        fixed = c.in-Ok.ensures.made.fits_fixed;
        each_frames = grind (arith, common_steps);
        each_idle = grind (arith, common_steps);
        each_cut = grind (arith, common_steps);
        of_input = tt;
        piece = refl;
        sends = tt;
        quiet = tt;
        outputs = subst (λ (outputs : List (List ℕ)). AreOutputs c.args.layout outputs) (sym c.in-Ok.ensures.made.outputs)
            (bare_are c.args.layout);
      };
      room = c.in-Ok.ensures.made.fits_still;
      nothing_due = tt;
      armed = armed;
      round = tt;
    }

pub of-requires : goal.of-requires
of-requires c = record { bus = of_bus c.args.descriptor.now c.args.layout c.requires.lays }
