-- What the parser keeps of the listed fields (our choice).
use Rattle.std.specs.Prelude.{◌≡◌, ℕ, List, [], ◌∷◌, ◌++◌, length, map, true, false, not, ◌==◌, ◌&&◌, Result, Ok, Err}
use Rattle.std.specs.List.{list_any}
use Rattle.hid_report_descriptor.specs.declared.fault.Cause.{Cause}
use Rattle.hid_report_descriptor.specs.declared.fault.Cause.TheVariants.{Memory, TooMany}
use Rattle.hid_report_descriptor.specs.declared.limits.Limits.{Limits}
use Rattle.hid_report_descriptor.specs.declared.field_list.KeptFields.{KeptFields}
use Rattle.hid_report_descriptor.specs.Fields.{Field}
use Rattle.hid_report_descriptor.specs.Faults.{are_too_many, element_count, report_ids}
use Rattle.hid_report_descriptor.specs.Reporting.{reports_of}
use Rattle.hid_report_descriptor.specs.KeptFields.{kept_field_of, AreFieldsPlaced}

-- what is kept of the listed fields: their heads, usages and collections, and their totals
pub record AreKept (fs : List Field) (kept : KeptFields) : Type 0 where
  pub heads : kept.list.items ≡ map kept_field_of fs
  pub placed : AreFieldsPlaced kept.list.items
  pub entries : kept.lists.entries ≡ map (λ field. field.entries) fs
  pub paths : kept.lists.paths ≡ map (λ field. field.path) fs
  pub reports : kept.reports.list.items ≡ reports_of fs
  pub elements : kept.elements ≡ element_count fs
  pub id_count : length kept.ids.list.items ≡ length (report_ids fs)
  pub ids : (id : ℕ) → list_any (λ other. other == id) kept.ids.list.items
      ≡ (not (id == 0) && list_any (λ field. field.id == id) fs)

-- the field is listed and the fields aren't too many, or they are, or memory ran out
abbrev pub Keeps : Limits → List Field → Field → Result Unit Cause → KeptFields → Type 0
Keeps limits fs field (Ok done) new = AreKept (fs ++ field ∷ []) new × (are_too_many limits (fs ++ field ∷ []) ≡ false)
Keeps limits fs field (Err Memory) new = Unit {0}
Keeps limits fs field (Err cause) new = (cause ≡ TooMany) × (are_too_many limits (fs ++ field ∷ []) ≡ true)
