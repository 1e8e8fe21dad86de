use Rattle.std.proofs.Common.{◌≡◌, map, string_bytes}
use Rattle.command_words.specs.Opened.{shown_word}
use Rattle.command_words.proofs.words.read_words.Given as goal

-- each word as it is printed is of the word as it was given
abbrev pub invariant-loop-place : goal.invariant-loop-place
invariant-loop-place l = map string_bytes l.words.shown.items ≡ map (λ word. shown_word (string_bytes word)) l.words.given.items
