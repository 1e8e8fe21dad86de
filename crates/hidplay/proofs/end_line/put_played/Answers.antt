use Rattle.std.proofs.lemmas.Result.{on_ok_weaker}
use Rattle.hid_recording.proofs.JsonLemmas.{after_four}
use Rattle.hidplay.proofs.end_line.put_played.Goals as goal

pub returns-clause-tokens : goal.returns-clause-tokens
returns-clause-tokens c =
    rw (← c.refusals_of.ensures)
    (on_ok_weaker c.put_count-4.result (λ e. after_four _ _ _ _ _ _ _ _ _ c.in_ok-put_count.ensures.tokens c.in_ok-put_count-2.ensures.tokens c.in_ok-put_count-3.ensures.tokens e) c.put_count-4.ensures.tokens)
