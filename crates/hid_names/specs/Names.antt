-- What usages are called (HID Usage Tables).
use Rattle.std.specs.Prelude.{ℕ, ◌==◌, ◌&&◌, not, List, ◌++◌, if◌then◌else◌, Option, Some, codes}
use Rattle.std.specs.Option.{option_map}
use Rattle.std.specs.Fmt.{decimal}
use Rattle.hid_names.specs.declared.names.UsageName.{UsageName}
use Rattle.hid_names.specs.declared.names.UsageName.TheVariants as kinds
use Rattle.hid_names.specs.Pages.{in_page}

-- a name of the tables, or the number of a button or of an instance
pub data Name : Type 0 where
  Known : List ℕ → Name
  Button : ℕ → Name
  Instance : ℕ → Name

-- the name that a value of a usage's name stands for
abbrev pub name_of_value : UsageName → Name
name_of_value (kinds.Known name) = Known name.now
name_of_value (kinds.Button number) = Button number
name_of_value (kinds.Instance number) = Instance number

-- the name of a usage as it is printed
abbrev pub name_text : Name → List ℕ
name_text (Known name) = name
name_text (Button number) = codes "Button " ++ decimal number
name_text (Instance number) = codes "Instance " ++ decimal number

-- the name of a usage: buttons and instances are called by their ID, and others as the table of their page says.
-- Example: 01:30 is X
unfoldable pub name_of : ℕ → ℕ → Option Name
name_of page id =
    if (page == 0x09) && not (id == 0) then Some (Button id)
    else if (page == 0x0A) && not (id == 0) then Some (Instance id)
    else option_map Known (in_page page id)
