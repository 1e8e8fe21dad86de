-- What a usage is called in a picture (our choice: docs/PICTURES.md).
use Rattle.std.specs.Prelude.{ℕ, List, Option, None, Some}
use Rattle.hid_report_descriptor.specs.declared.usage.Usage.{Usage}
use Rattle.hid_names.specs.Names.{Name, name_of, name_text}
use Rattle.hid_notation.specs.Text.{usage_text}

-- a name, or else page and ID
abbrev pub name_or_code : Usage → Option Name → List ℕ
name_or_code usage None = usage_text usage
name_or_code usage (Some name) = name_text name

-- what a usage is called
abbrev pub usage_label : Usage → List ℕ
usage_label usage = name_or_code usage (name_of usage.page usage.id)
