use Rattle.std.proofs.Common.{◌≡◌, Some, rules, ⊎_elim, ◌∙◌, ap, sym}
use Rattle.std.specs.Option.{option_copied}
use Rattle.std.proofs.lemmas.Bool.{cond-true}
use Rattle.std.proofs.lemmas.Result.{IfOk-weaker, IfErr-weaker}
use Rattle.command_words.proofs.OpenedLemmas.{word_of_path, no_word}
use Rattle.command_words.proofs.words.word_at.Goals as goal

pub returns-in_ok-path-in-Err-NotText-clause-word :
    goal.returns-in_ok-path-in-Err-NotText-clause-word
returns-in_ok-path-in-Err-NotText-clause-word c =
    let same : c.in-Err-NotText.bytes ≡ c.args.bytes = search rules in
    let is = word_of_path (option_copied c.args.files) c.args.place c.args.bytes.items (option_copied c.in_ok-path-in-Err-NotText.path) c.in-Err-NotText.ensures.fault.0 c.in_ok-path-in-Err-NotText.ensures in
    IfOk-weaker c.opened_word.result _ _ (λ word e. is ∙ e) (rw same at c.opened_word.ensures.word)

pub returns-in_ok-path-in-Err-NotText-clause-fault :
    goal.returns-in_ok-path-in-Err-NotText-clause-fault
returns-in_ok-path-in-Err-NotText-clause-fault c =
    let same : c.in-Err-NotText.bytes ≡ c.args.bytes = search rules in
    let is = no_word (option_copied c.args.files) c.args.place c.args.bytes.items (option_copied c.in_ok-path-in-Err-NotText.path) c.in-Err-NotText.ensures.fault.0 c.in_ok-path-in-Err-NotText.ensures in
    IfErr-weaker c.opened_word.result _ _ (λ fault. ⊎_elim (λ memory. search rules) (λ other. search rules)) (rw same at c.opened_word.ensures.fault)

pub returns-in_default-2-clause-word : goal.returns-in_default-2-clause-word
returns-in_default-2-clause-word c =
    IfOk-weaker c.word_of.result _ _ (λ word is. cond-true _ _ _ is.0 ∙ ap Some (sym is.1)) c.word_of.ensures.bytes
