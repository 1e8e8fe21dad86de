-- What the lines of the bench are, in lines of a script, where a host has the devices (our choice: docs/LAB.md).
use Rattle.std.specs.Prelude.{ℕ, List, [], ◌∷◌, ◌++◌, if◌then◌else◌, Option, Some, None}
use Rattle.hid_report_descriptor.specs.declared.usage.Usage.{Usage}
use Rattle.hid_text.specs.declared.change_kind.ChangeKind.TheVariants as kind
use Rattle.hid_text.specs.declared.short.ShortLine.TheVariants.{Press, Release, Frame}
use Rattle.lab_lines.specs.declared.keys.Key.{Key}
use Rattle.lab_lines.specs.declared.keys.TheConstants.{LEFT_SHIFT}
use Rattle.lab_lines.specs.Keys.{key_of}
use Rattle.lab_lines.specs.Typing.{characters_of}
use Rattle.lab_lines.specs.LabLines.{Said, Short, Change, Click, Typing, Wait}

-- a key goes down and up
abbrev pub plain_lines : ℕ → Usage → List Said
plain_lines dev usage = Short (Press dev usage) ∷ Short (Release dev usage) ∷ []

-- a key goes down and up while Shift is held
abbrev pub shifted_lines : ℕ → Usage → List Said
shifted_lines dev usage =
    Short (Press dev LEFT_SHIFT) ∷ Short (Press dev usage) ∷ Short (Release dev usage) ∷ Short (Release dev LEFT_SHIFT) ∷ []

-- a key is typed, with Shift where it is needed
abbrev pub key_lines : ℕ → Key → List Said
key_lines dev key = if key.is_shifted then shifted_lines dev key.usage else plain_lines dev key.usage

-- a character is typed, by the key that has it
abbrev pub character_lines : ℕ → Option Key → List Said
character_lines dev None = []
character_lines dev (Some key) = key_lines dev key

-- Characters are typed, one after the other. Example: A is Shift down, 07:04 down, 07:04 up, Shift up
abbrev pub typed_lines : ℕ → List ℕ → List Said
typed_lines dev [] = []
typed_lines dev (character ∷ more) = character_lines dev (key_of character) ++ typed_lines dev more

-- the lines of a script, and those that name controls as the bench does, that a line is
abbrev pub parts_of : Said → List Said
parts_of (Click dev named) = Change dev named kind.Press ∷ Change dev named kind.Release ∷ []
parts_of (Typing dev bytes) = typed_lines dev (characters_of bytes)
parts_of (Wait count) = Short (Frame count) ∷ []
parts_of said = said ∷ []
