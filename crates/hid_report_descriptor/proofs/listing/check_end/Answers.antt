use Rattle.std.proofs.Common.{sym, arith}
use Rattle.hid_report_descriptor.proofs.Ends.{mixed_refused, all_accepted}
use Rattle.hid_report_descriptor.proofs.listing.check_end.Goals as goal

pub returns-then-mixes_ids-clause-err : goal.returns-then-mixes_ids-clause-err
returns-then-mixes_ids-clause-err c limits before r s =
    mixed_refused limits _ before _ r s (omega arith) (sym (c.if-mixes_ids.ensures before s))

pub returns-clause-ok : goal.returns-clause-ok
returns-clause-ok c limits before r s =
    all_accepted limits _ before _ r s (omega arith) (sym (c.if-mixes_ids.ensures before s))
