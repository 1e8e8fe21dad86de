use Rattle.std.proofs.Common.{◌∷◌, [], ap, arith, length, length-append}
use Rattle.hid_report_descriptor.proofs.Frames.{depth_kept}
use Rattle.hid_report_descriptor.proofs.Saved.{globals_popped}
use Rattle.hid_report_descriptor.proofs.globals.SavedGlobals.pop.Goals as goal

pub returns-in-Some-clause-matched : goal.returns-in-Some-clause-matched
returns-in-Some-clause-matched c before item h is_old = globals_popped before item _ _ h is_old c.in-Some.ensures.items

pub returns-in-Some-clause-among : goal.returns-in-Some-clause-among
returns-in-Some-clause-among c before is_old =
    omega (arith, depth_kept before c.args.self.now is_old, ap length c.in-Some.ensures.items, length-append c.pop.new.self.items (c.in-Some.globals ∷ []))
