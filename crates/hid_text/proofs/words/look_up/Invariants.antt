use Rattle.std.proofs.Common.{◌≡◌, drop, map}
use Rattle.hid_text.specs.Words.{look_up}
use Rattle.hid_text.proofs.words.look_up.Given as goal

-- what the rest of the table has is what the table has
abbrev pub invariant-loop-entry : goal.invariant-loop-entry
invariant-loop-entry g l = look_up (map (λ e. (e.0.now, e.1)) (drop l.entry-index l.table)) l.word ≡ look_up (map (λ e. (e.0.now, e.1)) l.table) l.word
