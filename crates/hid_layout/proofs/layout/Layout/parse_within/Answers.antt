use Rattle.std.proofs.Common.{sym, subst}
use Rattle.hid_layout.specs.Reports.{KeepsTo}
use Rattle.hid_layout.proofs.WellFormed.{layout_of_accepted, accepted_keeps}
use Rattle.hid_layout.proofs.layout.Layout.parse_within.Goals as goal

pub returns-in-Ok-lay_out-clause-ok : goal.returns-in-Ok-lay_out-clause-ok
returns-in-Ok-lay_out-clause-ok c =
    let found = c.in-Ok.ensures.ok in
    (found.0, found.1, c.in-Ok-lay_out.ensures found.0 found.2)

pub returns-in-Ok-lay_out-clause-short : goal.returns-in-Ok-lay_out-clause-short
returns-in-Ok-lay_out-clause-short c =
    let found = c.in-Ok.ensures.ok in
    subst (KeepsTo c.args.limits) (sym (c.in-Ok-lay_out.ensures found.0 found.2)) (accepted_keeps c.args.limits _ found.0 found.1)

pub lay_out-requires : goal.lay_out-requires
lay_out-requires c =
    let found = c.in-Ok.ensures.ok in
    (found.0, found.2, layout_of_accepted c.args.limits _ found.0 found.1)
