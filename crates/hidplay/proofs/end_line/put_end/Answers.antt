use Rattle.std.proofs.lemmas.Result.{on_ok_weaker}
use Rattle.hid_recording.proofs.JsonLemmas.{after_four}
use Rattle.hidplay.specs.EndLine.{end_tokens}
use Rattle.hidplay.proofs.end_line.put_end.Goals as goal

pub returns-clause-tokens : goal.returns-clause-tokens
unfolding end_tokens
returns-clause-tokens c =
    rw (← c.requires)
    (on_ok_weaker c.end_object.result (λ e. after_four _ _ _ _ _ _ _ _ _ c.in_ok-begin_object.ensures.ok c.in_ok-put_cause.ensures.tokens c.in_ok-put_played.ensures.tokens e) c.end_object.ensures.ok)
