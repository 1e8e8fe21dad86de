-- The lines of a text that are of a device's events (our choice: docs/SCRIPT.md).
use Rattle.std.specs.Prelude.{◌≡◌, ◌<◌, ℕ, Bool, true, false, ◌==◌, ◌&&◌, List, [], ◌∷◌, ◌++◌, map, codes}
use Rattle.std.specs.List.{filter, list_any}
use Rattle.std.specs.Fmt.{decimal}
use Rattle.std.specs.Str.Lines.{lines}
use Rattle.hid_bus.specs.declared.step.Delivered.{Delivered}
use Rattle.hid_bus.specs.Delivered.{from_device}
use Rattle.hid_text.specs.EventText.{event_text}

-- the line begins with these bytes
abbrev pub begins_with : List ℕ → List ℕ → Bool
begins_with [] line = true
begins_with (b ∷ front) [] = false
begins_with (b ∷ front) (c ∷ line) = (b == c) && begins_with front line

-- the words of events
abbrev pub words_of_events : List (List ℕ)
words_of_events =
    codes " down " ∷ codes " up " ∷ codes " value " ∷ codes " null " ∷ codes " motion " ∷ codes " dropped " ∷ []

-- whether a line is of an event of a device: its number comes first, in decimal, and then one of the six words of
-- events, between spaces. Example: of 1 poll NAK nak, 1 down 07:04 and 11 up 07:04 the second alone is device 1's
abbrev pub is_event_line : ℕ → List ℕ → Bool
is_event_line dev line = list_any (λ word. begins_with (decimal dev ++ word) line) words_of_events

-- the lines of a text that are of a device's events
abbrev pub event_lines : ℕ → List ℕ → List (List ℕ)
event_lines dev text = filter (is_event_line dev) (lines text)

-- A text shows these events: whatever text follows, its event lines of each device are the texts of that device's events,
-- in order.
abbrev pub ShowsEvents : List ℕ → List Delivered → Type 0
ShowsEvents text delivered = (dev : ℕ) (rest : List ℕ)
    → event_lines dev (text ++ rest) ≡ map (event_text dev) (from_device dev delivered) ++ event_lines dev rest

-- the devices have numbers of one digit
abbrev pub HaveOneDigit : List Delivered → Type 0
HaveOneDigit [] = Unit {0}
HaveOneDigit (d ∷ delivered) = (d.dev < 10) × HaveOneDigit delivered
