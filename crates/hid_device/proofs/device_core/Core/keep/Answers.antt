use Rattle.std.proofs.Common.{◌≡◌, ◌<◌, ℕ, List, length, Some, sym, ap, ◌∙◌, subst, arith}
use Rattle.std.specs.Prelude.{slice_get, slice_set}
use Rattle.std.proofs.lemmas.Option.{slice_get-get_or}
use Rattle.std.proofs.lemmas.Grind.{common_steps}
use Rattle.hid_device.specs.declared.decisions.PendingWrite.TheVariants.{Keep}
use Rattle.hid_device.specs.contracts.device_core.Core.{the_view}
use Rattle.hid_device.specs.Core.{CoreState}
use Rattle.hid_device.specs.RequestTable.{core_after_write}
use Rattle.hid_device.specs.Outputs.{AreOutputs, with_report}
use Rattle.hid_device.proofs.OutputLemmas.{kept_are, kept_is, sound_with}
use Rattle.hid_device.proofs.device_core.Core.keep.Goals as goal

pub invariant_of-self : goal.invariant_of-self
invariant_of-self c =
    let before = c.self.invariant.sound in
    let within : c.args.place < length c.self.inside.outputs.items = grind (arith, common_steps) in
    let there : slice_get c.self.inside.outputs.items c.args.place ≡ Some c.index_mut.result.now = slice_get-get_or c.self.inside.outputs.items c.args.place c.index_mut.result.now within ∙ ap Some (sym c.index_mut.ensures.value) in
    let set : slice_set c.self.inside.outputs.items c.args.place c.keep.new.self
    ≡ with_report c.self.inside.outputs.items c.args.place c.args.bytes.now
    = kept_is c.self.inside.outputs.items c.args.place c.args.bytes.now c.index_mut.result.now c.keep.new.self there c.keep.ensures in
    record {
      sound = sound_with (the_view c.self.inside) c.self.inside.is_configured c.self.inside.idle.items c.self.inside.protocol _ before before.each_idle (subst (AreOutputs c.self.inside.layout) (sym set)
          (kept_are c.self.inside.layout c.self.inside.outputs.items c.args.place c.args.bytes.now before.outputs));
      nothing_due = c.self.invariant.nothing_due;
      armed = c.self.invariant.armed;
      round = c.self.invariant.round;
      room = c.self.invariant.room;
    }

pub returns-then-place-len : goal.returns-then-place-len
returns-then-place-len c =
    let within : c.args.place < length c.self.inside.outputs.items = grind (arith, common_steps) in
    let there : slice_get c.self.inside.outputs.items c.args.place ≡ Some c.index_mut.result.now = slice_get-get_or c.self.inside.outputs.items c.args.place c.index_mut.result.now within ∙ ap Some (sym c.index_mut.ensures.value) in
    let set : slice_set c.self.inside.outputs.items c.args.place c.keep.new.self
    ≡ with_report c.self.inside.outputs.items c.args.place c.args.bytes.now
    = kept_is c.self.inside.outputs.items c.args.place c.args.bytes.now c.index_mut.result.now c.keep.new.self there c.keep.ensures in
    ap (λ (outputs : List (List ℕ)). record (the_view c.self.inside) { outputs = outputs }) set
    ∙ ap (λ (core : CoreState). core_after_write core c.args.bytes.now (Keep c.args.place)) c.self.view_is
