use Rattle.std.proofs.Common.{◌≡◌, ◌∙◌, ◌<◌, ◌++◌, ℕ, List, length, Option, None, Some, ap, subst, sym}
use Rattle.std.specs.Prelude.{slice_get}
use Rattle.std.proofs.lemmas.Option.{slice_get-get_or}
use Rattle.hid_device.specs.contracts.device_core.Core.{the_view}
use Rattle.hid_device.specs.Core.{CoreState}
use Rattle.hid_device.specs.RequestTable.{core_after_decision, reads_optional}
use Rattle.hid_device.specs.RequestDecisions.{is_accepted}
use Rattle.hid_device.specs.declared.decisions.PendingWrite.TheVariants.{Nothing}
use Rattle.hid_device.proofs.device_core.Core.read_kept.Goals as goal

pub returns : goal.returns
returns c =
    let core = c.args.self.now in
    let outputs = c.self.inside.outputs.items in
    let place = c.args.place in
    let bytes = c.try_extend_from_slice.new.self.items in
    let forgot : the_view c.self.inside ≡ record core { answer = None; pending = Nothing } = c.self.view_is ∙ c.forget_request.ensures in
    let within : place < length outputs = subst (λ (core : CoreState). place < length core.outputs) (sym forgot) c.requires in
    let at : slice_get outputs place ≡ Some c.index.result.now = slice_get-get_or outputs place c.index.result.now within ∙ ap Some (sym c.index.ensures) in
    let all : bytes ≡ c.clear.new.self.items ++ c.bytes.result.now = rw c.unwrap.ensures at c.try_extend_from_slice.ensures.ok in
    let written : bytes ≡ c.index.result.now = all ∙ ap (λ (l : List ℕ). l ++ c.bytes.result.now) c.clear.ensures ∙ c.bytes.ensures.bytes in
    let out : slice_get core.outputs place ≡ Some bytes
    = ap (λ (core : CoreState). slice_get core.outputs place) (sym forgot) ∙ at ∙ ap Some (sym written) in (
      ap (λ (o : Option (List ℕ)). is_accepted (reads_optional o)) (sym out),
      ap (λ (core : CoreState). let read : CoreState = record core { answer = Some bytes } in read) forgot
          ∙ ap (λ (o : Option (List ℕ)). core_after_decision core (reads_optional o)) (sym out),
    )
