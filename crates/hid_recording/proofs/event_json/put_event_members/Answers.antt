use Rattle.std.proofs.lemmas.Result.{on_ok_weaker}
use Rattle.hid_recording.proofs.JsonLemmas.{after_five}
use Rattle.hid_recording.proofs.event_json.put_event_members.Goals as goal

pub returns-clause-tokens : goal.returns-clause-tokens
returns-clause-tokens c =
    rw (← c.usage_in-usage.ensures, ← c.event_word.ensures, ← c.control_in.ensures)
    (on_ok_weaker c.put_name.result (λ e. after_five _ _ _ _ _ _ _ _ _ _ _ c.in_ok-put_source.ensures.tokens c.in_ok-put_usage.ensures.tokens c.in_ok-put_control.ensures.tokens c.in_ok-put_value.ensures.tokens e) c.put_name.ensures.tokens)
