use Rattle.std.proofs.lemmas.Result.{on_ok_weaker}
use Rattle.hid_recording.specs.EventJson.{event_tokens}
use Rattle.hid_recording.proofs.JsonLemmas.{after_three}
use Rattle.hid_recording.proofs.event_json.put_event.Goals as goal

pub returns-clause-tokens : goal.returns-clause-tokens
unfolding event_tokens
returns-clause-tokens c = on_ok_weaker c.end_object.result (λ e. after_three _ _ _ _ _ _ _ c.in_ok-begin_object.ensures.ok c.in_ok-put_event_members.ensures.tokens e) c.end_object.ensures.ok
