-- Lines without hex words that begin no request: what one device, the time or a count needs (our choice: the script
-- language of docs/SCRIPT.md).
use Rattle.std.specs.Prelude.{List, Option, None}
use Rattle.std.specs.Option.{option_map}
use Rattle.hid_text.specs.declared.line.Keyword.{Keyword}
use Rattle.hid_text.specs.declared.line.Keyword.TheVariants as keywords
use Rattle.hid_text.specs.declared.short.ShortLine.{ShortLine}
use Rattle.hid_text.specs.declared.short.ShortLine.TheVariants.{Press, Release, Null, Set, Move, Frame, Poll, Control, Reset, Halt}
use Rattle.hid_text.specs.Words.{Word}
use Rattle.hid_text.specs.Arguments.{control_meaning, set_meaning, move_meaning, frame_meaning, poll_meaning, one_device_meaning}

-- what the words after the keyword of a short line say; none after that of another. Example: poll 1 is short, layout
-- 05 01 isn't
unfoldable pub short_meaning : Keyword → List Word → Option ShortLine
short_meaning keywords.Press words = option_map (λ said. Press said.0 said.1) (control_meaning words)
short_meaning keywords.Release words = option_map (λ said. Release said.0 said.1) (control_meaning words)
short_meaning keywords.Null words = option_map (λ said. Null said.0 said.1) (control_meaning words)
short_meaning keywords.Set words = option_map (λ said. Set said.0 said.1 said.2) (set_meaning words)
short_meaning keywords.Move words = option_map (λ said. Move said.0 said.1 said.2) (move_meaning words)
short_meaning keywords.Frame words = option_map Frame (frame_meaning words)
short_meaning keywords.Poll words = option_map (λ said. Poll said.0 said.1 said.2) (poll_meaning words)
short_meaning keywords.Control words = option_map (λ said. Control said.0 said.1 said.2) (poll_meaning words)
short_meaning keywords.Reset words = option_map Reset (one_device_meaning words)
short_meaning keywords.Halt words = option_map Halt (one_device_meaning words)
short_meaning _ words = None
