-- Numbers in hex, bytes and usages, as they are printed (our choice: docs/SCRIPT.md).
use Rattle.std.specs.Prelude.{ℕ, zero, suc, List, [], ◌∷◌, ◌++◌, ◌==◌, ◌&&◌, nat_lt, if◌then◌else◌, true, Option, None, Some, codes}
use Rattle.std.specs.List.{flat_map}
use Rattle.std.specs.Fmt.{digits}
use Rattle.hid_report_descriptor.specs.declared.usage.Usage.{Usage}
use Rattle.hid_report_descriptor.specs.Usages.{Entry}

-- upper-case hex, of two digits at least
unfoldable pub hex_text : ℕ → List ℕ
hex_text n = if nat_lt n 16 then 48 ∷ digits 16 true n else digits 16 true n

-- bytes in hex, each after a space
abbrev pub bytes_text : List ℕ → List ℕ
bytes_text bytes = flat_map (λ b. 32 ∷ hex_text b) bytes

-- a usage in hex: page and ID, joined by a colon. Example: 01:30
abbrev pub usage_text : Usage → List ℕ
usage_text usage = hex_text usage.page ++ 58 ∷ hex_text usage.id

-- a usage, or `-` where there is none
abbrev pub usage_or_dash : Option Usage → List ℕ
usage_or_dash None = codes "-"
usage_or_dash (Some usage) = usage_text usage

-- a range of usages, or the one usage of a range with equal ends
unfoldable pub range_text : Entry → List ℕ
range_text range =
    if (range.0.page == range.1.page) && (range.0.id == range.1.id) then usage_text range.0
    else usage_text range.0 ++ 45 ∷ usage_text range.1

-- the texts of 0, 1 and so on below n, joined
abbrev pub concat_below : ℕ → (ℕ → List ℕ) → List ℕ
concat_below zero text = []
concat_below (suc n) text = concat_below n text ++ text n
