use Rattle.std.proofs.Common.{◌≡◌, ◌∙◌, ap, sym, subst, List, ℕ}
use Rattle.std.proofs.lemmas.Bool.{cond-true, eq-eqb}
use Rattle.std.specs.Prelude.{◌++◌, codes}
use Rattle.std.specs.Fmt.{decimal, HasWritten}
use Rattle.command_words.specs.declared.read_lines.ReadLines.{ReadLines}
use Rattle.command_words.specs.ReadLines.{plural, read_text}
use Rattle.command_words.proofs.read_lines.ReadLinesDisplay.fmt.Goals as goal

-- the text with this ending of the word, and these lines
abbrev text : ReadLines → List ℕ → List ℕ → List ℕ
text read ending lines = decimal read.count ++ (codes " byte" ++ (ending ++ (codes " from " ++ lines)))

pub returns-then-first-last-clause-writes : goal.returns-then-first-last-clause-writes
returns-then-first-last-clause-writes g c plain done =
    let read : ReadLines = c.args.self.now in
    let lines : List ℕ = codes "line " ++ decimal read.first in
    let same : text read c.plural-ending.result.now lines ≡ read_text read
    = ap (λ s. text read s lines) c.plural-ending.ensures
    ∙ ap (λ l. text read (plural read.count) l) (sym (cond-true _ _ _ (eq-eqb read.first read.last c.if-first-last.true))) in
    subst (λ t. HasWritten g.W.Write.write_str_gives c.args.f.now t c.write.new.self) same (c.write.ensures.writes plain done)
