use Rattle.hid_report_descriptor.proofs.listing.list_fields.Goals as goal

pub returns-in-Err-clause-err : goal.returns-in-Err-clause-err
returns-in-Err-clause-err c =
    let found = c.in_ok-parser.ensures.ok in
    c.in-Err.ensures.err c.args.limits found.0 found.1 found.2

pub returns-in-Ok-clause-ok : goal.returns-in-Ok-clause-ok
returns-in-Ok-clause-ok c =
    let found = c.in_ok-parser.ensures.ok in
    (found.0, c.in-Ok.ensures.ok c.args.limits found.0 found.1 found.2, c.into_fields.ensures found.0 found.2)
