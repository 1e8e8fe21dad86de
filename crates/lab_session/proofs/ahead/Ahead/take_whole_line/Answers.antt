use Rattle.std.proofs.Common.{◌≡◌, ◌∙◌, [], ◌∷◌, ◌++◌, ap, refl, sym, subst}
use Rattle.std.specs.Str.Lines.{lines, strip_carriage_return}
use Rattle.lab_session.specs.Ahead.{unread}
use Rattle.hid_text.proofs.PieceLemmas.{behind_line}
use Rattle.lab_session.proofs.RunLemmas.{behind_more, left_is, lines_split}
use Rattle.lab_session.proofs.ahead.Ahead.take_whole_line.Goals as goal

pub returns-clause-taken : goal.returns-clause-taken
returns-clause-taken c = λ more.
    let u = c.unread.result.now in
    let last = c.in-Some.last.now in
    let behind = c.in-Some.behind.now in
    let bytes : unread c.args.self.now ≡ last ++ 10 ∷ behind = sym c.unread.ensures ∙ c.in-Some.ensures.1 in
    let split = lines_split (unread c.args.self.now ++ more) last (behind ++ more) c.in-Some.ensures.0 (behind_more (unread c.args.self.now) last behind more bytes) in
    let left = left_is c.args.self.now c.advance.new.self u (last ++ 10 ∷ []) behind c.unread.ensures (behind_line u [] u last behind refl c.in-Some.ensures.1) c.advance.ensures.unread in
    let line_is : c.extend_from_slice.new.self.items ≡ strip_carriage_return last =
    c.in_ok-extend_from_slice.ensures.items ∙ ap (λ l. l ++ c.without_return.result.now) c.requires ∙ c.without_return.ensures in
    subst (λ r. lines (unread c.args.self.now ++ more) ≡ c.extend_from_slice.new.self.items ∷ lines (r ++ more)) (sym left)
    (subst (λ l. lines (unread c.args.self.now ++ more) ≡ l ∷ lines (behind ++ more)) (sym line_is) split)
