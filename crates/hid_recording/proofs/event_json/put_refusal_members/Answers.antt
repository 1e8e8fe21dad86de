use Rattle.std.proofs.lemmas.Result.{on_ok_weaker}
use Rattle.hid_recording.proofs.JsonLemmas.{after_four}
use Rattle.hid_recording.proofs.event_json.put_refusal_members.Goals as goal

pub returns-clause-tokens : goal.returns-clause-tokens
returns-clause-tokens c = rw (← c.counted_word.ensures) (on_ok_weaker c.string.result (λ e. after_four _ _ _ _ _ _ _ _ _ c.in_ok-key.ensures.ok c.in_ok-u64.ensures.ok c.in_ok-key-2.ensures.ok e) c.string.ensures.ok)
