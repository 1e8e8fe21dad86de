-- What a text is after the last words that are added to it.
use Rattle.std.proofs.Common.{◌≡◌, ℕ, List, Result, Ok, Err, cond, ◌∙◌}
use Rattle.std.specs.Result.{OnOk, is_ok}

-- The words were added or the text is as it was, and with them it is the whole.
pub last_added : {T E : Type 0} (r : Result T E) (new after old whole : List ℕ) → new ≡ cond (is_ok r) after old → after ≡ whole → OnOk r (new ≡ whole)
last_added (Ok x) new after old whole e f = e ∙ f
last_added (Err x) new after old whole e f = tt
