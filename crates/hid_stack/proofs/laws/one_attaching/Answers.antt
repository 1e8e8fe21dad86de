use Rattle.hid_report_descriptor.specs.declared.limits.Limits.TheVariants.{Bus}
use Rattle.hid_stack.proofs.AnswerLemmas.{attaches_one}
use Rattle.hid_stack.proofs.laws.one_attaching.Goals as goal

pub returns : goal.returns
returns c = attaches_one (c.one_reading.ensures Bus) (c.accepted_or_refused.ensures Bus) (c.one_refusal.ensures.cause Bus) (c.one_refusal.ensures.place Bus)
