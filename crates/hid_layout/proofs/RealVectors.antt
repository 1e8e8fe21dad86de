-- Refusals of a real device's descriptor, worked out by hand (our choice of limits; HID 1.11, 6.2.2.7 and 6.2.2.8). A list of items stands nearest first, as the definitions look back.
use Rattle.std.proofs.Common.{◌≡◌, [], ◌∷◌, refl, Some, None}
use Rattle.hid_report_descriptor.specs.Fields.{add_field}
use Rattle.hid_report_descriptor.specs.Faults.{fault_of, report_limit, field_fault, are_too_many, numbers_from, report_ids}
use Rattle.hid_report_descriptor.specs.Limits.{longest_report, most_elements, widest_field}
use Rattle.hid_report_descriptor.specs.Reporting.{reports_of, reports_of_kind}
use Rattle.hid_report_descriptor.specs.declared.limits.Limits.TheVariants.{Real}
use Rattle.hid_report_descriptor.specs.declared.fault.Cause.TheVariants.{BadSize, ReportTooLong, TooMany}

-- the limits that the definitions and the code cite: bytes of a report, data fields, bits of a field
real_limits : longest_report Real ∷ most_elements Real ∷ widest_field Real ∷ [] ≡ 16384 ∷ 65536 ∷ 131072 ∷ []
real_limits = refl

-- a report without an ID has 131,072 bits at most, and one with an ID 131,064 after it
real_report_bits : report_limit Real 0 ∷ report_limit Real 1 ∷ [] ≡ 131072 ∷ 131064 ∷ []
real_report_bits = refl

-- 16,384 bytes
accepted-report_of_16384_bytes : fault_of Real ((0x96 ∷ 0x00 ∷ 0x40 ∷ []) ∷ (0x75 ∷ 0x08 ∷ []) ∷ []) (0x81 ∷ 0x01 ∷ []) ≡ None
unfolding field_fault are_too_many add_field reports_of reports_of_kind numbers_from report_ids
accepted-report_of_16384_bytes = refl

-- 16,385 bytes
refused-report_of_16385_bytes : fault_of Real ((0x96 ∷ 0x01 ∷ 0x40 ∷ []) ∷ (0x75 ∷ 0x08 ∷ []) ∷ []) (0x81 ∷ 0x01 ∷ []) ≡ Some ReportTooLong
unfolding field_fault are_too_many add_field reports_of reports_of_kind numbers_from report_ids
refused-report_of_16385_bytes = refl

-- 16,384 bytes and an ID
refused-report_of_16385_bytes_with_its_id : fault_of Real ((0x96 ∷ 0x00 ∷ 0x40 ∷ []) ∷ (0x75 ∷ 0x08 ∷ []) ∷ (0x85 ∷ 0x01 ∷ []) ∷ []) (0x81 ∷ 0x01 ∷ []) ≡ Some ReportTooLong
unfolding field_fault are_too_many add_field reports_of reports_of_kind numbers_from report_ids
refused-report_of_16385_bytes_with_its_id = refl

-- 65,536 data fields of a bit
accepted-elements_65536 : fault_of Real ((0x97 ∷ 0x00 ∷ 0x00 ∷ 0x01 ∷ 0x00 ∷ []) ∷ (0x75 ∷ 0x01 ∷ []) ∷ (0x25 ∷ 0x01 ∷ []) ∷ (0x09 ∷ 0x30 ∷ []) ∷ (0x05 ∷ 0x01 ∷ []) ∷ []) (0x81 ∷ 0x02 ∷ []) ≡ None
unfolding field_fault are_too_many add_field reports_of reports_of_kind numbers_from report_ids
accepted-elements_65536 = refl

-- 65,537 data fields of a bit
refused-elements_65537 : fault_of Real ((0x97 ∷ 0x01 ∷ 0x00 ∷ 0x01 ∷ 0x00 ∷ []) ∷ (0x75 ∷ 0x01 ∷ []) ∷ (0x25 ∷ 0x01 ∷ []) ∷ (0x09 ∷ 0x30 ∷ []) ∷ (0x05 ∷ 0x01 ∷ []) ∷ []) (0x81 ∷ 0x02 ∷ []) ≡ Some TooMany
unfolding field_fault are_too_many add_field reports_of reports_of_kind numbers_from report_ids
refused-elements_65537 = refl

-- a data field of 33 bits, as one of 32 that has no number in its range is refused and this one isn't asked
accepted-size_of_33 : fault_of Real ((0x95 ∷ 0x01 ∷ []) ∷ (0x75 ∷ 0x21 ∷ []) ∷ (0x25 ∷ 0x01 ∷ []) ∷ (0x09 ∷ 0x30 ∷ []) ∷ (0x05 ∷ 0x01 ∷ []) ∷ []) (0x81 ∷ 0x02 ∷ []) ≡ None
unfolding field_fault are_too_many add_field reports_of reports_of_kind numbers_from report_ids
accepted-size_of_33 = refl

-- a data field of no bits
refused-size_of_0 : fault_of Real ((0x95 ∷ 0x01 ∷ []) ∷ (0x75 ∷ 0x00 ∷ []) ∷ (0x25 ∷ 0x01 ∷ []) ∷ (0x09 ∷ 0x30 ∷ []) ∷ (0x05 ∷ 0x01 ∷ []) ∷ []) (0x81 ∷ 0x02 ∷ []) ≡ Some BadSize
unfolding field_fault are_too_many add_field reports_of reports_of_kind numbers_from report_ids
refused-size_of_0 = refl
