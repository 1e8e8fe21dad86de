use Rattle.std.proofs.Common.{◌≡◌, ◌∙◌, ap, sym, subst, List, ℕ}
use Rattle.std.proofs.lemmas.Bool.{cond-true, cond-false}
use Rattle.std.specs.Prelude.{◌++◌, codes}
use Rattle.std.specs.Fmt.{decimal, HasWritten}
use Rattle.hid_capture.specs.declared.undescribed.UndescribedEndpoint.{UndescribedEndpoint}
use Rattle.hidplay.specs.UndescribedLine.{plural, address_text, undescribed_text}
use Rattle.hidplay.proofs.undescribed_line.UndescribedLineDisplay.fmt.Goals as goal

-- the line with this end of the word, and this advice
abbrev text : UndescribedEndpoint → List ℕ → List ℕ → List ℕ
text one ending rest =
    codes "endpoint " ++ (address_text one ++ (codes ": " ++ (decimal one.transfers ++ (codes " report" ++ (ending ++ rest)))))

pub returns-then-self-clause-writes : goal.returns-then-self-clause-writes
returns-then-self-clause-writes g c plain done =
    let one : UndescribedEndpoint = c.args.self.now.endpoint in
    let rest : List ℕ = codes " without a descriptor: give it by --descriptor FILE" in
    let same : text one c.plural-ending.result.now rest ≡ undescribed_text one
    = ap (λ s. text one s rest) c.plural-ending.ensures
    ∙ ap (λ r. text one (plural one.transfers) r) (sym (cond-true _ _ _ c.if-self.true)) in
    subst (λ t. HasWritten g.W.Write.write_str_gives c.args.f.now t c.write.new.self) same (c.write.ensures.writes plain done)

pub returns-else-self-clause-writes : goal.returns-else-self-clause-writes
returns-else-self-clause-writes g c plain done =
    let one : UndescribedEndpoint = c.args.self.now.endpoint in
    let rest : List ℕ = codes ", if it is HID: --descriptor FILE --endpoint " ++ address_text one in
    let same : text one c.plural-ending.result.now rest ≡ undescribed_text one
    = ap (λ s. text one s rest) c.plural-ending.ensures
    ∙ ap (λ r. text one (plural one.transfers) r) (sym (cond-false _ _ _ c.if-self.false)) in
    subst (λ t. HasWritten g.W.Write.write_str_gives c.args.f.now t c.write-else-self.new.self) same
    (c.write-else-self.ensures.writes plain done)
