use Rattle.std.proofs.Common.{arith}
use Rattle.lab_lines.proofs.BodyLemmas.{next_round, no_round, no_text, none_of}
use Rattle.lab_lines.proofs.body.Body.has_more.Goals as goal

pub returns-then-self-le1-clause-none : goal.returns-then-self-le1-clause-none
returns-then-self-le1-clause-none c = λ _. no_round c.args.self.now.at c.args.self.now.left c.args.self.now.text.items (omega arith) (omega arith)

pub returns-then-is_empty-clause-none : goal.returns-then-is_empty-clause-none
returns-then-is_empty-clause-none c = λ _. no_text c.args.self.now.at c.args.self.now.left c.args.self.now.text.items (omega arith) (none_of c.args.self.now.text.items (grind arith))

pub returns-clause-same : goal.returns-clause-same
returns-clause-same c = next_round c.args.self.now.at c.args.self.now.left c.args.self.now.text.items (omega arith) (omega arith)
