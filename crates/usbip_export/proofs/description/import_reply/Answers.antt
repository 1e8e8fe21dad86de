use Rattle.std.proofs.Common.{◌∙◌, ◌++◌, List, ℕ, ap}
use Rattle.usbip.specs.declared.operation.Operation.TheVariants.{Import}
use Rattle.usbip.specs.declared.operation.OperationStatus.TheVariants.{Success}
use Rattle.usbip.specs.Operations.{head_bytes, operation_status_word, reply_code}
use Rattle.usbip_export.proofs.description.import_reply.Goals as goal

pub returns : goal.returns
returns c =
    let one = rw c.unwrap.ensures at c.try_extend_from_slice.ensures.ok in
    let two = rw c.unwrap-2.ensures at c.try_extend_from_slice-2.ensures.ok in
    two
    ∙ (ap (λ (l : List ℕ). l ++ c.deref.result.now)
    (one ∙ (ap (λ (l : List ℕ). l ++ c.encode_operation_reply-head.result) c.new-bytes.ensures ∙ c.encode_operation_reply-head.ensures))
    ∙ ap (λ (l : List ℕ). head_bytes (reply_code Import) (operation_status_word Success) ++ l)
    (c.deref.ensures.0 ∙ c.described-described.ensures))
