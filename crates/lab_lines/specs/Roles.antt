-- What a line is to the body of a `repeat` in which it stands (our choice: docs/LAB.md).
use Rattle.std.specs.Prelude.{ℕ, ◌+◌, ◌-◌, ◌==◌, nat_lt, List, [], ◌∷◌, if◌then◌else◌, is_some, codes}
use Rattle.std.specs.Str.{bytes_eq}
use Rattle.hid_text.specs.Words.{Word}
use Rattle.hid_text.specs.Numbers.{count_of}
use Rattle.lab_lines.specs.declared.body.Added.{Added}
use Rattle.lab_lines.specs.declared.body.Added.TheVariants as added
use Rattle.lab_lines.specs.declared.body.Role.{Role}
use Rattle.lab_lines.specs.declared.body.Role.TheVariants as role

-- an `end`, by the words after it
abbrev pub end_role : List Word → Role
end_role [] = role.Ends
end_role (word ∷ more) = role.Malformed

-- a `repeat`, by the words after it: it opens a body where they are a count alone
abbrev pub repeat_role : List Word → Role
repeat_role [] = role.Malformed
repeat_role (count ∷ []) = if is_some (count_of count) then role.Opens else role.Malformed
repeat_role (count ∷ word ∷ more) = role.Malformed

-- what a line is to the body in which it stands: it opens another one, ends one, or is any other line of it
abbrev pub role_of : List Word → Role
role_of [] = role.Stays
role_of (word ∷ more) =
    if bytes_eq word (codes "repeat") then repeat_role more
    else if bytes_eq word (codes "end") then end_role more else role.Stays

-- how many bodies are open in a body after a line that belongs to it
abbrev pub depth_after : ℕ → Role → ℕ
depth_after depth role.Opens = depth + 1
depth_after depth role.Ends = depth - 1
depth_after depth role.Malformed = depth
depth_after depth role.Stays = depth

-- a line has room after so many bytes, with its line feed: a body has at most 1,048,576
abbrev pub added_within : ℕ → ℕ → Added
added_within size length = if nat_lt (size + length) 1048576 then added.Open else added.TooLong

-- What comes of a line: words after an `end` are refused, and a `repeat` without just a count; the `end` with which no other body
-- is open ends this one; any other line belongs to it, where there is room
abbrev pub added_by : ℕ → Role → ℕ → ℕ → Added
added_by depth role.Malformed size length = added.Malformed
added_by depth role.Ends size length = if depth == 0 then added.Whole else added_within size length
added_by depth role.Opens size length = added_within size length
added_by depth role.Stays size length = added_within size length
