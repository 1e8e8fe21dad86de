use Rattle.hid_driver.proofs.answers.layout_answer.Goals as goal

pub returns-in-Err-clause-err : goal.returns-in-Err-clause-err
returns-in-Err-clause-err c = c.no_layout.ensures.explained c.args.bytes.now c.in-Err.ensures.err
