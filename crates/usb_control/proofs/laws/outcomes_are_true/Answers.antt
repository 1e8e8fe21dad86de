use Rattle.std.proofs.Common.{sym, ◌∙◌, ap, []}
use Rattle.std.specs.Prelude.{if◌then◌else◌}
use Rattle.usb_control.specs.declared.setup.Setup.{Setup as Request}
use Rattle.usb_control.proofs.StepsLemmas.{DecidesAgain, told_from_start, read_told, write_told, stall_told, once_told}
use Rattle.usb_control.proofs.laws.outcomes_are_true.Goals as goal

pub returns : goal.returns
returns g c =
    let prepare_gives = g.R.Requests.prepare_gives in
    let apply_gives = g.R.Requests.apply_gives in
    let answer_of = g.R.Requests.answer_of in
    let again : (request : Request) → DecidesAgain prepare_gives request = λ request s t u b said first second.
    g.met.R.Requests.prepare_forgets s t u request said (g.met.R.Requests.prepare_keeps s t request b first) second in
    record {
      read = λ addr request fates old new host encoded is steps done.
          read_told prepare_gives apply_gives answer_of request [] old.requests host new is done (told_from_start prepare_gives apply_gives answer_of addr request [] fates old host new encoded (again request) (sym (ap (λ b. if b then 0 else request.length) is)) steps);
      write = λ addr request sends fates old new host encoded is whole steps done.
          write_told prepare_gives apply_gives answer_of request sends old.requests host new is done (told_from_start prepare_gives apply_gives answer_of addr request sends fates old host new encoded (again request) (whole ∙ sym (ap (λ b. if b then 0 else request.length) is)) steps);
      stalled = λ addr request sends fates old new host encoded whole steps e.
          stall_told prepare_gives apply_gives answer_of request sends old.requests host new e (told_from_start prepare_gives apply_gives answer_of addr request sends fates old host new encoded (again request) whole steps);
      any = λ addr request sends fates old new host encoded whole steps.
          once_told prepare_gives apply_gives answer_of request sends old.requests host new (told_from_start prepare_gives apply_gives answer_of addr request sends fates old host new encoded (again request) whole steps);
    }
