use Rattle.std.proofs.Common.{[], ◌++◌, length, sym, ap, ◌∙◌, append_assoc, append-nil, rules}
use Rattle.std.proofs.Output.{writes_in_calls_nil, has_written_append, has_written_of_eq}
use Rattle.command_words.specs.Names.{name_text, bytes_text, shown_bytes}
use Rattle.command_words.proofs.NameLemmas.{shown_on, shown_nothing}
use Rattle.command_words.proofs.names.ShownBytesDisplay.fmt.Goals as goal

pub loop-chunk-init : goal.loop-chunk-init
unfolding shown_bytes
loop-chunk-init g c =
    λ plain.
    (length c.args.self.now.0.now, [], search rules, record { wrote = writes_in_calls_nil _ _; plain = plain }, search rules)

pub loop-chunk-preserved : goal.loop-chunk-preserved
loop-chunk-preserved g c =
    λ plain.
    let now = c.loop-chunk.invariant plain in
    let steps = c.in-Some.ensures.steps in
    let text = name_text c.in-Some.chunk.valid.now in
    let others = bytes_text c.in-Some.chunk.invalid.now in
    let next = shown_on now.0 _ c.in-Some.chunk.valid.now c.in-Some.chunk.invalid.now _ now.2 steps.0 steps.1 steps.3.0 steps.3.1 in (
      next.0,
      now.1 ++ (text ++ others),
      next.1,
      has_written_append _ _ _ _ _ _ now.3 (search rules),
      append_assoc now.1 (text ++ others) _ ∙ ap (λ l. now.1 ++ l) (append_assoc text others _ ∙ sym next.2) ∙ now.4,
    )

pub returns-clause-writes : goal.returns-clause-writes
returns-clause-writes g c =
    λ plain _.
    let now = c.loop-chunk.invariant plain in
    let none = shown_nothing now.0 _ c.in-None.ensures.steps.0 in
    has_written_of_eq _ _ _ _ _ (sym (append-nil now.1) ∙ ap (λ l. now.1 ++ l) (sym none) ∙ now.4) now.3
