-- How much of a descriptor is read (our choice).
use Rattle.std.specs.Prelude.{ℕ, ◌*◌}
use Rattle.hid_report_descriptor.specs.declared.limits.TheConstants.{MAX_REPORT_BYTES, MAX_ELEMENTS, MAX_WIDTH, MAX_REAL_REPORT_BYTES, MAX_REAL_ELEMENTS}
use Rattle.hid_report_descriptor.specs.declared.limits.Limits.{Limits}
use Rattle.hid_report_descriptor.specs.declared.limits.Limits.TheVariants.{Bus, Real}

-- the longest report, in bytes with its ID
abbrev pub longest_report : Limits → ℕ
longest_report Bus = MAX_REPORT_BYTES
longest_report Real = MAX_REAL_REPORT_BYTES

-- the most data fields of all listed items together
abbrev pub most_elements : Limits → ℕ
most_elements Bus = MAX_ELEMENTS
most_elements Real = MAX_REAL_ELEMENTS

-- the widest data field, in bits
abbrev pub widest_field : Limits → ℕ
widest_field Bus = MAX_WIDTH
widest_field Real = 8 * MAX_REAL_REPORT_BYTES
