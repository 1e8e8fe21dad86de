-- Text without the marks of quoted lines and without comments (our choice: docs/INPUT-FORMS.md). They become blanks, so that places stay.
use Rattle.std.specs.Prelude.{ℕ, ◌==◌, Bool, true, false, not, ◌&&◌, ◌||◌, nat_eq, map, List, [], ◌∷◌, if◌then◌else◌, Option, None, Some}
use Rattle.std.specs.List.{list_all, list_any, slice_get, starts_with}
use Rattle.std.specs.Char.{is_ascii_alphanumeric, is_ascii_whitespace}
use Rattle.hid_input.specs.declared.plain.Scene.{Scene}
use Rattle.hid_input.specs.declared.plain.Scene.TheVariants.{Blank, Text, Quoted, Escaped, Closed, Line, Backslash, Opening, Block, Closing, Unclear}
use Rattle.hid_input.specs.declared.plain.TheConstants.{DIRECTIVES}
use Rattle.hid_input.specs.Text.{lines_of, without_space}

-- a line begins with a mark, or is empty
abbrev pub is_marked : ℕ → List ℕ → Bool
is_marked mark [] = true
is_marked mark (first ∷ rest) = (first == mark) || (first == 13)

-- the first character of each line is one of > + |, the same
abbrev pub is_quoted_by : Option ℕ → List ℕ → Bool
is_quoted_by None text = false
is_quoted_by (Some mark) text =
    ((mark == 62) || ((mark == 43) || (mark == 124))) && list_all (is_marked mark) (lines_of text)

abbrev pub is_quoted : List ℕ → Bool
is_quoted text = is_quoted_by (slice_get text 0) text

-- a text with a blank for the first character of each line, if its own first one begins a line
abbrev pub unmarked_from : Bool → List ℕ → List ℕ
unmarked_from is_first [] = []
unmarked_from is_first (byte ∷ text) = (if is_first && not (byte == 10) then 32 else byte) ∷ unmarked_from (byte == 10) text

-- a text without the marks of quoted lines
abbrev pub without_quotes : List ℕ → List ℕ
without_quotes text = if is_quoted text then unmarked_from true text else text

-- a character, if there is one, is this one
abbrev pub is_byte : ℕ → Option ℕ → Bool
is_byte byte None = false
is_byte byte (Some other) = other == byte

-- a character is white space, or there is none
abbrev pub is_space : Option ℕ → Bool
is_space None = true
is_space (Some byte) = is_ascii_whitespace byte

-- the sign that begins the comments of a text: # or /, the one that stands first; a blank if it has neither
abbrev pub comment_sign : List ℕ → ℕ
comment_sign [] = 32
comment_sign (byte ∷ text) = if (byte == 35) || (byte == 47) then byte else comment_sign text

-- a character that ends a line of some programs alone: CR, or FF
abbrev pub is_other_end : ℕ → Option ℕ → Bool
is_other_end byte next = (byte == 12) || ((byte == 13) && not (is_byte 10 next))

-- what stands at the next place after a quotation mark: a string, but not directly after another one
abbrev pub scene_after_mark : Scene → ℕ → Scene
scene_after_mark Closed mark = Unclear
scene_after_mark scene mark = Quoted mark

abbrev pub is_blank : Scene → Bool
is_blank Blank = true
is_blank scene = false

-- where the next character stands after one of text: comments are # between white space, or // and /*
abbrev pub scene_after_text : Scene → ℕ → ℕ → Option ℕ → Scene
scene_after_text scene sign byte next =
    if (byte == 35) && ((sign == 35) && (is_blank scene && is_space next)) then Line
    else (if (byte == 47) && ((sign == 47) && is_byte 47 next) then Line
    else (if (byte == 47) && ((sign == 47) && is_byte 42 next) then Opening
    else (if (byte == 34) || (byte == 39) then scene_after_mark scene byte
    else (if is_ascii_whitespace byte then Blank else Text))))

-- where the next character stands, after this one and before the one that follows. A string ends in its line
abbrev pub scene_in : Scene → ℕ → ℕ → Option ℕ → Scene
scene_in Blank sign byte next = scene_after_text Blank sign byte next
scene_in Text sign byte next = scene_after_text Text sign byte next
scene_in Closed sign byte next = scene_after_text Closed sign byte next
scene_in (Quoted mark) sign byte next =
    if byte == 10 then Unclear else (if byte == mark then Closed else (if byte == 92 then Escaped mark else Quoted mark))
scene_in (Escaped mark) sign byte next = if byte == 10 then Unclear else Quoted mark
scene_in Line sign byte next = if byte == 10 then Blank else (if byte == 92 then Backslash else Line)
scene_in Backslash sign byte next =
    if byte == 10 then Unclear else (if (byte == 92) || is_ascii_whitespace byte then Backslash else Line)
scene_in Opening sign byte next = if is_byte 47 next then Unclear else Block
scene_in Block sign byte next = if (byte == 42) && is_byte 47 next then Closing else Block
scene_in Closing sign byte next = Blank
scene_in Unclear sign byte next = Unclear

abbrev pub scene_after : Scene → ℕ → ℕ → Option ℕ → Scene
scene_after scene sign byte next = if is_other_end byte next then Unclear else scene_in scene sign byte next

-- characters there are those of text and strings
abbrev pub are_text : Scene → Bool
are_text Blank = true
are_text Text = true
are_text (Quoted mark) = true
are_text (Escaped mark) = true
are_text Closed = true
are_text scene = false

-- a character isn't part of a comment
abbrev pub is_shown : Scene → ℕ → ℕ → Option ℕ → Bool
is_shown scene sign byte next = (byte == 10) || (are_text scene && are_text (scene_after scene sign byte next))

-- a text with a blank for each character of a comment, from a place on
abbrev pub shown_from : Scene → ℕ → List ℕ → List ℕ
shown_from scene sign [] = []
shown_from scene sign (byte ∷ text) =
    (if is_shown scene sign byte (slice_get text 0) then byte else 32) ∷ shown_from (scene_after scene sign byte (slice_get text 0)) sign text

-- the scene at the end of a text
abbrev pub end_from : Scene → ℕ → List ℕ → Scene
end_from scene sign [] = scene
end_from scene sign (byte ∷ text) = end_from (scene_after scene sign byte (slice_get text 0)) sign text

-- the end of a text stands in no string, and in no comment that may go on
abbrev pub is_clear : Scene → Bool
is_clear Blank = true
is_clear Text = true
is_clear Closed = true
is_clear Line = true
is_clear scene = false

-- a word begins as a directive of C that leaves bytes out or brings others
abbrev pub names_directive : List ℕ → Bool
names_directive word = list_any (λ name. starts_with nat_eq word name.now) DIRECTIVES

-- a line is such a directive, perhaps with a blank after its #
abbrev pub directive_behind : List ℕ → Bool
directive_behind [] = false
directive_behind (first ∷ rest) = (first == 35) && names_directive (without_space rest)

abbrev pub is_directive : List ℕ → Bool
is_directive line = directive_behind (without_space line)

-- the first character after lines is a comma, or closes a list of a language in which // divides, and a byte ends these lines
abbrev pub is_open_from : ℕ → Bool → List ℕ → Bool
is_open_from last is_below [] = false
is_open_from last is_below (byte ∷ text) =
    (is_below && (is_ascii_alphanumeric last && ((byte == 44) || ((byte == 93) || (byte == 41)))))
    || is_open_from (if is_ascii_whitespace byte then last else byte) ((byte == 10) || (is_below && is_ascii_whitespace byte)) text

abbrev pub has_open_line : List ℕ → Bool
has_open_line text = is_open_from 32 false text

-- a text without comments
abbrev pub plain : List ℕ → List ℕ
plain text = shown_from Blank (comment_sign text) text

-- strings and comments of a text end, and hide nothing: no directive after a #, and no number that // divides
abbrev pub is_bare : List ℕ → Bool
is_bare text =
    is_clear (end_from Blank (comment_sign text) text)
    && (not ((comment_sign text == 35) && list_any is_directive (lines_of text))
    && not ((comment_sign text == 47) && has_open_line (plain text)))
