use Rattle.std.proofs.Common.{◌∙◌, Bool, Ok, sym, ap, subst}
use Rattle.hid_text.specs.Lines.{IsUnbroken}
use Rattle.lab_session.specs.Ahead.{unread}
use Rattle.lab_session.specs.Feeds.{EndsTaking, lines_after}
use Rattle.lab_session.proofs.RunLemmas.{err_told, err_mapped, ends_by_memory, ends_by_reading}
use Rattle.lab_session.proofs.ahead.Ahead.next_line.Goals as goal

pub returns-in_err-count_taken-clause-err : goal.returns-in_err-count_taken-clause-err
returns-in_err-count_taken-clause-err g c =
    let rest = unread c.args.self.now in
    let before = g.F.Feed.remaining c.args.feed.now in
    let count = c.args.self.now.lines in
    let fault = c.in_err-count_taken.field-0.0 in
    let at = c.take_whole_line-taken.ensures.lines ∙ c.loop.invariant.4 in
    err_told (EndsTaking rest before count) fault c.from_residual.result c.from_residual.ensures.1 (ends_by_memory rest before count _ fault at c.in_err-count_taken.ensures.err)

pub returns-in_err-read_on-clause-err : goal.returns-in_err-read_on-clause-err
returns-in_err-read_on-clause-err g c =
    let rest = unread c.args.self.now in
    let before = g.F.Feed.remaining c.args.feed.now in
    let count = c.args.self.now.lines in
    let fault = c.in_err-read_on.field-0.0 in
    let now = unread c.count_taken.new.self in
    let none = c.in_ok-count_taken.ensures.same ∙ ap (λ (b : Bool). Ok b) c.if-branch.false in
    let left = (rw none at c.take_whole_line-taken.ensures.taken) in
    let stayed = c.count_taken.ensures.unread ∙ left.2 in
    let at = c.in_ok-count_taken.ensures.lines ∙ ap (λ (b : Bool). lines_after c.take_whole_line-taken.new.self.lines (Ok b)) c.if-branch.false ∙ c.take_whole_line-taken.ensures.lines ∙ c.loop.invariant.4 in
    err_told (EndsTaking rest before count) fault c.from_residual-in_err-read_on.result c.from_residual-in_err-read_on.ensures.1
    (ends_by_reading rest c.loop.invariant.1 now before (g.F.Feed.remaining c.loop.feed) count c.count_taken.new.self.lines fault at c.loop.invariant.2 (stayed ∙ c.loop.invariant.3) (subst IsUnbroken (sym stayed) left.0) c.in_err-read_on.ensures.ends)

pub returns-then-not-branch-clause-err : goal.returns-then-not-branch-clause-err
returns-then-not-branch-clause-err g c =
    let rest = unread c.args.self.now in
    let before = g.F.Feed.remaining c.args.feed.now in
    let count = c.args.self.now.lines in
    let at = c.in_ok-count_taken.ensures.lines ∙ ap (λ (b : Bool). lines_after c.take_whole_line-taken.new.self.lines (Ok b)) c.if-branch.false ∙ c.take_whole_line-taken.ensures.lines ∙ c.loop.invariant.4 in
    let later = c.take_rest-rest.ensures.lines ∙ c.read_on.ensures.lines ∙ at in
    err_mapped _ (EndsTaking rest before count) c.count_taken-then-not-branch.result (λ fault h. ends_by_memory rest before count _ fault later h) c.count_taken-then-not-branch.ensures.err
