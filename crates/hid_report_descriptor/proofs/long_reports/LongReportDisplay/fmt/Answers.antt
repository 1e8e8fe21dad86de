use Rattle.std.proofs.Common.{◌≡◌, ◌∙◌, ap, subst, List, ℕ}
use Rattle.std.specs.Prelude.{◌++◌, codes}
use Rattle.std.specs.Fmt.{decimal, HasWritten}
use Rattle.hid_report_descriptor.specs.LongReports.{kind_words, whole_bytes, long_report_text}
use Rattle.hid_report_descriptor.proofs.long_reports.LongReportDisplay.fmt.Goals as goal

abbrev text : List ℕ → ℕ → ℕ → ℕ → List ℕ
text kind id bytes most = kind ++ (codes " report " ++ (decimal id ++ (codes " has " ++ (decimal bytes ++ (codes " bytes, over " ++ decimal most)))))

pub returns-clause-writes : goal.returns-clause-writes
returns-clause-writes g c plain done =
    let id : ℕ = c.args.self.now.id in
    let same : text c.kind_words-kind.result.now id c.bytes-bytes.result c.report_bytes-most.result ≡ long_report_text c.args.self.now
    = ap (λ k. text k id c.bytes-bytes.result c.report_bytes-most.result) c.kind_words-kind.ensures
    ∙ ap (λ n. text (kind_words c.args.self.now.kind) id n c.report_bytes-most.result) c.bytes-bytes.ensures
    ∙ ap (λ n. text (kind_words c.args.self.now.kind) id (whole_bytes c.args.self.now) n) c.report_bytes-most.ensures in
    subst (λ t. HasWritten g.W.Write.write_str_gives c.args.f.now t c.write.new.self) same (c.write.ensures.writes plain done)
