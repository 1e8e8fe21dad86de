use Rattle.std.proofs.Common.{◌≡◌, ◌∙◌, ◌++◌, length, nat_eq, ap}
use Rattle.lab_session.specs.Ahead.{unread}
use Rattle.lab_session.proofs.RunLemmas.{rest_taken}
use Rattle.lab_session.proofs.ahead.Ahead.take_rest.Goals as goal

pub returns-clause-taken : goal.returns-clause-taken
returns-clause-taken c =
    let line_is : c.extend_from_slice.new.self.items ≡ unread c.args.self.now =
    c.in_ok-extend_from_slice.ensures.items ∙ ap (λ l. l ++ c.unread-rest.result.now) c.requires.empty ∙ c.unread-rest.ensures in
    rest_taken (unread c.args.self.now) c.extend_from_slice.new.self.items (unread c.advance.new.self) c.is_empty-some.result c.requires.unbroken line_is
    c.advance.ensures.unread (c.is_empty-some.ensures ∙ ap (λ l. nat_eq (length l) 0) c.unread-rest.ensures)
