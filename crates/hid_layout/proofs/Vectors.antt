-- Layouts and refusals worked out by hand from descriptors (HID 1.11, 6.2.2, B.1, B.2 and E.10). A list of items stands nearest first, as the definitions look back.
use Rattle.std.proofs.Common.{◌≡◌, ℕ, List, [], ◌∷◌, refl, Some, None, pos, negsuc, true, false}
use Rattle.hid_report_descriptor.specs.Usages.{Entry}
use Rattle.hid_report_descriptor.specs.Fields.{fields, add_field}
use Rattle.hid_report_descriptor.specs.Bus.{fault_of, report_limit, first_fault}
use Rattle.hid_report_descriptor.specs.Faults.{field_fault, are_too_many, numbers_from, report_ids, is_mixed}
use Rattle.hid_report_descriptor.specs.declared.limits.TheConstants.{MAX_DESCRIPTOR, MAX_ITEMS, MAX_ELEMENTS, MAX_ENTRIES, MAX_OPEN_PUSHES, MAX_OPEN_COLLECTIONS, MAX_REPORT_IDS, MAX_REPORT_BYTES, MAX_WIDTH, MAX_KEYS}
use Rattle.hid_layout.specs.Layout.{layout_of}
use Rattle.hid_report_descriptor.specs.Reporting.{reports_of, reports_of_kind}
use Rattle.hid_report_descriptor.specs.declared.collection.Collection.{Collection}
use Rattle.hid_report_descriptor.specs.declared.report.ReportKind.TheVariants.{Input, Output}
use Rattle.hid_report_descriptor.specs.declared.shape.Shape.TheVariants.{Padding, Variable, Array}
use Rattle.hid_report_descriptor.specs.declared.fault.Cause.TheVariants.{PopEmpty, PushDepth, CollectionDepth, EndWithout, BadReportId, BadRange, BadSize, BadUsageRange, UnpairedUsage, Delimiter, ReportTooLong, TooMany}

abbrev range : ℕ → ℕ → ℕ → Entry
range page low high = (record { page = page; id = low }, record { page = page; id = high })

abbrev collection : ℕ → ℕ → ℕ → Collection
collection kind page id = record { kind = kind; usage = Some (record { page = page; id = id }) }

-- a Logical Maximum of FF is 255 over a minimum of 0
maximum_without_sign : fields ((0x81 ∷ 0x02 ∷ []) ∷ (0x95 ∷ 0x01 ∷ []) ∷ (0x75 ∷ 0x08 ∷ []) ∷ (0x25 ∷ 0xFF ∷ []) ∷ (0x15 ∷ 0x00 ∷ []) ∷ (0x09 ∷ 0x30 ∷ []) ∷ (0x05 ∷ 0x01 ∷ []) ∷ []) ≡ record { kind = Input; id = 0; offset = 0; size = 8; count = 1; flags = 0x2; min = pos 0; max = pos 255; shape = Variable; entries = range 0x01 0x30 0x30 ∷ []; path = [] } ∷ []
unfolding field_fault are_too_many add_field reports_of reports_of_kind numbers_from report_ids
maximum_without_sign = refl

-- a Pop brings the globals back, and a usage outlives Push and Pop
globals_popped : fields ((0x81 ∷ 0x06 ∷ []) ∷ (0xB4 ∷ []) ∷ (0x81 ∷ 0x02 ∷ []) ∷ (0x75 ∷ 0x01 ∷ []) ∷ (0x25 ∷ 0x01 ∷ []) ∷ (0x15 ∷ 0x00 ∷ []) ∷ (0x09 ∷ 0x01 ∷ []) ∷ (0x05 ∷ 0x09 ∷ []) ∷ (0xA4 ∷ []) ∷ (0x95 ∷ 0x01 ∷ []) ∷ (0x75 ∷ 0x08 ∷ []) ∷ (0x25 ∷ 0x7F ∷ []) ∷ (0x15 ∷ 0x81 ∷ []) ∷ (0x09 ∷ 0x30 ∷ []) ∷ (0x05 ∷ 0x01 ∷ []) ∷ []) ≡ record { kind = Input; id = 0; offset = 0; size = 1; count = 1; flags = 0x2; min = pos 0; max = pos 1; shape = Variable; entries = range 0x09 0x30 0x30 ∷ range 0x09 0x01 0x01 ∷ []; path = [] } ∷ record { kind = Input; id = 0; offset = 1; size = 8; count = 1; flags = 0x6; min = negsuc 126; max = pos 127; shape = Padding; entries = []; path = [] } ∷ []
unfolding field_fault are_too_many add_field reports_of reports_of_kind numbers_from report_ids
globals_popped = refl

-- the Usage Page at the main item counts
page_at_the_main_item : fields ((0x81 ∷ 0x02 ∷ []) ∷ (0x95 ∷ 0x01 ∷ []) ∷ (0x75 ∷ 0x01 ∷ []) ∷ (0x25 ∷ 0x01 ∷ []) ∷ (0x15 ∷ 0x00 ∷ []) ∷ (0x05 ∷ 0x09 ∷ []) ∷ (0x09 ∷ 0x30 ∷ []) ∷ (0x05 ∷ 0x01 ∷ []) ∷ []) ≡ record { kind = Input; id = 0; offset = 0; size = 1; count = 1; flags = 0x2; min = pos 0; max = pos 1; shape = Variable; entries = range 0x09 0x30 0x30 ∷ []; path = [] } ∷ []
unfolding field_fault are_too_many add_field reports_of reports_of_kind numbers_from report_ids
page_at_the_main_item = refl

-- a mouse with three buttons, X and Y
mouse : layout_of ((0xC0 ∷ []) ∷ (0xC0 ∷ []) ∷ (0x81 ∷ 0x06 ∷ []) ∷ (0x95 ∷ 0x02 ∷ []) ∷ (0x75 ∷ 0x08 ∷ []) ∷ (0x25 ∷ 0x7F ∷ []) ∷ (0x15 ∷ 0x81 ∷ []) ∷ (0x09 ∷ 0x31 ∷ []) ∷ (0x09 ∷ 0x30 ∷ []) ∷ (0x05 ∷ 0x01 ∷ []) ∷ (0x81 ∷ 0x01 ∷ []) ∷ (0x75 ∷ 0x05 ∷ []) ∷ (0x95 ∷ 0x01 ∷ []) ∷ (0x81 ∷ 0x02 ∷ []) ∷ (0x75 ∷ 0x01 ∷ []) ∷ (0x95 ∷ 0x03 ∷ []) ∷ (0x25 ∷ 0x01 ∷ []) ∷ (0x15 ∷ 0x00 ∷ []) ∷ (0x29 ∷ 0x03 ∷ []) ∷ (0x19 ∷ 0x01 ∷ []) ∷ (0x05 ∷ 0x09 ∷ []) ∷ (0xA1 ∷ 0x00 ∷ []) ∷ (0x09 ∷ 0x01 ∷ []) ∷ (0xA1 ∷ 0x01 ∷ []) ∷ (0x09 ∷ 0x02 ∷ []) ∷ (0x05 ∷ 0x01 ∷ []) ∷ [])
    ≡ record { reports = record { kind = Input; id = 0; bits = 24 } ∷ []; numbered = false; items = record { report = 0; offset = 0; size = 1; count = 3; flags = record { 0 = 0x2 }; min = pos 0; max = pos 1; shape = Variable } ∷ record { report = 0; offset = 3; size = 5; count = 1; flags = record { 0 = 0x1 }; min = pos 0; max = pos 1; shape = Padding } ∷ record { report = 0; offset = 8; size = 8; count = 2; flags = record { 0 = 0x6 }; min = negsuc 126; max = pos 127; shape = Variable } ∷ []; entries = (range 0x09 0x01 0x03 ∷ []) ∷ [] ∷ (range 0x01 0x30 0x30 ∷ range 0x01 0x31 0x31 ∷ []) ∷ []; paths = (collection 1 0x01 0x02 ∷ collection 0 0x01 0x01 ∷ []) ∷ (collection 1 0x01 0x02 ∷ collection 0 0x01 0x01 ∷ []) ∷ (collection 1 0x01 0x02 ∷ collection 0 0x01 0x01 ∷ []) ∷ [] }
unfolding field_fault are_too_many add_field reports_of reports_of_kind numbers_from report_ids
mouse = refl

-- a keyboard with modifiers, LEDs and an array of six keys
keyboard : layout_of ((0xC0 ∷ []) ∷ (0x81 ∷ 0x00 ∷ []) ∷ (0x29 ∷ 0x65 ∷ []) ∷ (0x19 ∷ 0x00 ∷ []) ∷ (0x05 ∷ 0x07 ∷ []) ∷ (0x25 ∷ 0x65 ∷ []) ∷ (0x15 ∷ 0x00 ∷ []) ∷ (0x75 ∷ 0x08 ∷ []) ∷ (0x95 ∷ 0x06 ∷ []) ∷ (0x91 ∷ 0x01 ∷ []) ∷ (0x75 ∷ 0x03 ∷ []) ∷ (0x95 ∷ 0x01 ∷ []) ∷ (0x91 ∷ 0x02 ∷ []) ∷ (0x29 ∷ 0x05 ∷ []) ∷ (0x19 ∷ 0x01 ∷ []) ∷ (0x05 ∷ 0x08 ∷ []) ∷ (0x75 ∷ 0x01 ∷ []) ∷ (0x95 ∷ 0x05 ∷ []) ∷ (0x81 ∷ 0x01 ∷ []) ∷ (0x75 ∷ 0x08 ∷ []) ∷ (0x95 ∷ 0x01 ∷ []) ∷ (0x81 ∷ 0x02 ∷ []) ∷ (0x95 ∷ 0x08 ∷ []) ∷ (0x75 ∷ 0x01 ∷ []) ∷ (0x25 ∷ 0x01 ∷ []) ∷ (0x15 ∷ 0x00 ∷ []) ∷ (0x29 ∷ 0xE7 ∷ []) ∷ (0x19 ∷ 0xE0 ∷ []) ∷ (0x05 ∷ 0x07 ∷ []) ∷ (0xA1 ∷ 0x01 ∷ []) ∷ (0x09 ∷ 0x06 ∷ []) ∷ (0x05 ∷ 0x01 ∷ []) ∷ [])
    ≡ record { reports = record { kind = Input; id = 0; bits = 64 } ∷ record { kind = Output; id = 0; bits = 8 } ∷ []; numbered = false; items = record { report = 0; offset = 0; size = 1; count = 8; flags = record { 0 = 0x2 }; min = pos 0; max = pos 1; shape = Variable } ∷ record { report = 0; offset = 8; size = 8; count = 1; flags = record { 0 = 0x1 }; min = pos 0; max = pos 1; shape = Padding } ∷ record { report = 1; offset = 0; size = 1; count = 5; flags = record { 0 = 0x2 }; min = pos 0; max = pos 1; shape = Variable } ∷ record { report = 1; offset = 5; size = 3; count = 1; flags = record { 0 = 0x1 }; min = pos 0; max = pos 1; shape = Padding } ∷ record { report = 0; offset = 16; size = 8; count = 6; flags = record { 0 = 0x0 }; min = pos 0; max = pos 101; shape = Array } ∷ []; entries = (range 0x07 0xE0 0xE7 ∷ []) ∷ [] ∷ (range 0x08 0x01 0x05 ∷ []) ∷ [] ∷ (range 0x07 0x00 0x65 ∷ []) ∷ []; paths = (collection 1 0x01 0x06 ∷ []) ∷ (collection 1 0x01 0x06 ∷ []) ∷ (collection 1 0x01 0x06 ∷ []) ∷ (collection 1 0x01 0x06 ∷ []) ∷ (collection 1 0x01 0x06 ∷ []) ∷ [] }
unfolding field_fault are_too_many add_field reports_of reports_of_kind numbers_from report_ids
keyboard = refl

-- a Pop before all Pushes
refused-pop_alone : first_fault [] 0 ((0xB4 ∷ []) ∷ []) ≡ Some (PopEmpty, 0)
unfolding field_fault are_too_many add_field reports_of reports_of_kind numbers_from report_ids
refused-pop_alone = refl

-- nine Pushes
refused-nine_pushes : first_fault [] 0 ((0xA4 ∷ []) ∷ (0xA4 ∷ []) ∷ (0xA4 ∷ []) ∷ (0xA4 ∷ []) ∷ (0xA4 ∷ []) ∷ (0xA4 ∷ []) ∷ (0xA4 ∷ []) ∷ (0xA4 ∷ []) ∷ (0xA4 ∷ []) ∷ []) ≡ Some (PushDepth, 8)
unfolding field_fault are_too_many add_field reports_of reports_of_kind numbers_from report_ids
refused-nine_pushes = refl

-- seventeen Collections
refused-seventeen_collections : first_fault [] 0 ((0xA1 ∷ 0x01 ∷ []) ∷ (0xA1 ∷ 0x01 ∷ []) ∷ (0xA1 ∷ 0x01 ∷ []) ∷ (0xA1 ∷ 0x01 ∷ []) ∷ (0xA1 ∷ 0x01 ∷ []) ∷ (0xA1 ∷ 0x01 ∷ []) ∷ (0xA1 ∷ 0x01 ∷ []) ∷ (0xA1 ∷ 0x01 ∷ []) ∷ (0xA1 ∷ 0x01 ∷ []) ∷ (0xA1 ∷ 0x01 ∷ []) ∷ (0xA1 ∷ 0x01 ∷ []) ∷ (0xA1 ∷ 0x01 ∷ []) ∷ (0xA1 ∷ 0x01 ∷ []) ∷ (0xA1 ∷ 0x01 ∷ []) ∷ (0xA1 ∷ 0x01 ∷ []) ∷ (0xA1 ∷ 0x01 ∷ []) ∷ (0xA1 ∷ 0x01 ∷ []) ∷ []) ≡ Some (CollectionDepth, 32)
unfolding field_fault are_too_many add_field reports_of reports_of_kind numbers_from report_ids
refused-seventeen_collections = refl

-- an End Collection alone
refused-end_alone : first_fault [] 0 ((0xC0 ∷ []) ∷ []) ≡ Some (EndWithout, 0)
unfolding field_fault are_too_many add_field reports_of reports_of_kind numbers_from report_ids
refused-end_alone = refl

-- Report ID 0
refused-report_id_zero : first_fault [] 0 ((0x85 ∷ 0x00 ∷ []) ∷ []) ≡ Some (BadReportId, 0)
unfolding field_fault are_too_many add_field reports_of reports_of_kind numbers_from report_ids
refused-report_id_zero = refl

-- minimum 5, maximum 4
refused-range_reversed : first_fault [] 0 ((0x05 ∷ 0x01 ∷ []) ∷ (0x09 ∷ 0x30 ∷ []) ∷ (0x15 ∷ 0x05 ∷ []) ∷ (0x25 ∷ 0x04 ∷ []) ∷ (0x75 ∷ 0x08 ∷ []) ∷ (0x95 ∷ 0x01 ∷ []) ∷ (0x81 ∷ 0x02 ∷ []) ∷ []) ≡ Some (BadRange, 12)
unfolding field_fault are_too_many add_field reports_of reports_of_kind numbers_from report_ids
refused-range_reversed = refl

-- 33 bits
refused-size_of_33 : first_fault [] 0 ((0x05 ∷ 0x01 ∷ []) ∷ (0x09 ∷ 0x30 ∷ []) ∷ (0x25 ∷ 0x01 ∷ []) ∷ (0x75 ∷ 0x21 ∷ []) ∷ (0x95 ∷ 0x01 ∷ []) ∷ (0x81 ∷ 0x02 ∷ []) ∷ []) ≡ Some (BadSize, 10)
unfolding field_fault are_too_many add_field reports_of reports_of_kind numbers_from report_ids
refused-size_of_33 = refl

-- usages 5 to 4
refused-usages_reversed : first_fault [] 0 ((0x05 ∷ 0x01 ∷ []) ∷ (0x19 ∷ 0x05 ∷ []) ∷ (0x29 ∷ 0x04 ∷ []) ∷ (0x25 ∷ 0x01 ∷ []) ∷ (0x75 ∷ 0x01 ∷ []) ∷ (0x95 ∷ 0x01 ∷ []) ∷ (0x81 ∷ 0x02 ∷ []) ∷ []) ≡ Some (BadUsageRange, 12)
unfolding field_fault are_too_many add_field reports_of reports_of_kind numbers_from report_ids
refused-usages_reversed = refl

-- a Usage Minimum without its Usage Maximum
refused-minimum_unpaired : first_fault [] 0 ((0x05 ∷ 0x01 ∷ []) ∷ (0x19 ∷ 0x05 ∷ []) ∷ (0x25 ∷ 0x01 ∷ []) ∷ (0x75 ∷ 0x01 ∷ []) ∷ (0x95 ∷ 0x01 ∷ []) ∷ (0x81 ∷ 0x02 ∷ []) ∷ []) ≡ Some (UnpairedUsage, 10)
unfolding field_fault are_too_many add_field reports_of reports_of_kind numbers_from report_ids
refused-minimum_unpaired = refl

-- a Delimiter
refused-delimiter : first_fault [] 0 ((0xA9 ∷ 0x01 ∷ []) ∷ []) ≡ Some (Delimiter, 0)
unfolding field_fault are_too_many add_field reports_of reports_of_kind numbers_from report_ids
refused-delimiter = refl

-- 257 bytes
refused-report_of_257_bytes : first_fault [] 0 ((0x75 ∷ 0x08 ∷ []) ∷ (0x96 ∷ 0x01 ∷ 0x01 ∷ []) ∷ (0x81 ∷ 0x01 ∷ []) ∷ []) ≡ Some (ReportTooLong, 5)
unfolding field_fault are_too_many add_field reports_of reports_of_kind numbers_from report_ids
refused-report_of_257_bytes = refl

-- 65 usages
refused-usages_65 : first_fault [] 0 ((0x05 ∷ 0x01 ∷ []) ∷ (0x09 ∷ 0x30 ∷ []) ∷ (0x09 ∷ 0x30 ∷ []) ∷ (0x09 ∷ 0x30 ∷ []) ∷ (0x09 ∷ 0x30 ∷ []) ∷ (0x09 ∷ 0x30 ∷ []) ∷ (0x09 ∷ 0x30 ∷ []) ∷ (0x09 ∷ 0x30 ∷ []) ∷ (0x09 ∷ 0x30 ∷ []) ∷ (0x09 ∷ 0x30 ∷ []) ∷ (0x09 ∷ 0x30 ∷ []) ∷ (0x09 ∷ 0x30 ∷ []) ∷ (0x09 ∷ 0x30 ∷ []) ∷ (0x09 ∷ 0x30 ∷ []) ∷ (0x09 ∷ 0x30 ∷ []) ∷ (0x09 ∷ 0x30 ∷ []) ∷ (0x09 ∷ 0x30 ∷ []) ∷ (0x09 ∷ 0x30 ∷ []) ∷ (0x09 ∷ 0x30 ∷ []) ∷ (0x09 ∷ 0x30 ∷ []) ∷ (0x09 ∷ 0x30 ∷ []) ∷ (0x09 ∷ 0x30 ∷ []) ∷ (0x09 ∷ 0x30 ∷ []) ∷ (0x09 ∷ 0x30 ∷ []) ∷ (0x09 ∷ 0x30 ∷ []) ∷ (0x09 ∷ 0x30 ∷ []) ∷ (0x09 ∷ 0x30 ∷ []) ∷ (0x09 ∷ 0x30 ∷ []) ∷ (0x09 ∷ 0x30 ∷ []) ∷ (0x09 ∷ 0x30 ∷ []) ∷ (0x09 ∷ 0x30 ∷ []) ∷ (0x09 ∷ 0x30 ∷ []) ∷ (0x09 ∷ 0x30 ∷ []) ∷ (0x09 ∷ 0x30 ∷ []) ∷ (0x09 ∷ 0x30 ∷ []) ∷ (0x09 ∷ 0x30 ∷ []) ∷ (0x09 ∷ 0x30 ∷ []) ∷ (0x09 ∷ 0x30 ∷ []) ∷ (0x09 ∷ 0x30 ∷ []) ∷ (0x09 ∷ 0x30 ∷ []) ∷ (0x09 ∷ 0x30 ∷ []) ∷ (0x09 ∷ 0x30 ∷ []) ∷ (0x09 ∷ 0x30 ∷ []) ∷ (0x09 ∷ 0x30 ∷ []) ∷ (0x09 ∷ 0x30 ∷ []) ∷ (0x09 ∷ 0x30 ∷ []) ∷ (0x09 ∷ 0x30 ∷ []) ∷ (0x09 ∷ 0x30 ∷ []) ∷ (0x09 ∷ 0x30 ∷ []) ∷ (0x09 ∷ 0x30 ∷ []) ∷ (0x09 ∷ 0x30 ∷ []) ∷ (0x09 ∷ 0x30 ∷ []) ∷ (0x09 ∷ 0x30 ∷ []) ∷ (0x09 ∷ 0x30 ∷ []) ∷ (0x09 ∷ 0x30 ∷ []) ∷ (0x09 ∷ 0x30 ∷ []) ∷ (0x09 ∷ 0x30 ∷ []) ∷ (0x09 ∷ 0x30 ∷ []) ∷ (0x09 ∷ 0x30 ∷ []) ∷ (0x09 ∷ 0x30 ∷ []) ∷ (0x09 ∷ 0x30 ∷ []) ∷ (0x09 ∷ 0x30 ∷ []) ∷ (0x09 ∷ 0x30 ∷ []) ∷ (0x09 ∷ 0x30 ∷ []) ∷ (0x09 ∷ 0x30 ∷ []) ∷ (0x09 ∷ 0x30 ∷ []) ∷ (0x25 ∷ 0x01 ∷ []) ∷ (0x75 ∷ 0x01 ∷ []) ∷ (0x95 ∷ 0x01 ∷ []) ∷ (0x81 ∷ 0x02 ∷ []) ∷ []) ≡ Some (TooMany, 138)
unfolding field_fault are_too_many add_field reports_of reports_of_kind numbers_from report_ids
refused-usages_65 = refl

-- 256 bytes
accepted-report_of_256_bytes : fault_of ((0x96 ∷ 0x00 ∷ 0x01 ∷ []) ∷ (0x75 ∷ 0x08 ∷ []) ∷ []) (0x81 ∷ 0x01 ∷ []) ≡ None
unfolding field_fault are_too_many add_field reports_of reports_of_kind numbers_from report_ids
accepted-report_of_256_bytes = refl

-- an item with bits before the Report ID
mixed : is_mixed ((0x85 ∷ 0x01 ∷ []) ∷ (0x81 ∷ 0x01 ∷ []) ∷ (0x95 ∷ 0x01 ∷ []) ∷ (0x75 ∷ 0x08 ∷ []) ∷ []) ≡ true
unfolding field_fault are_too_many add_field reports_of reports_of_kind numbers_from report_ids
mixed = refl

-- the limits that the definitions and the code cite
abbrev limits : List ℕ
limits = MAX_DESCRIPTOR ∷ MAX_ITEMS ∷ MAX_ELEMENTS ∷ MAX_ENTRIES ∷ MAX_OPEN_PUSHES ∷ MAX_OPEN_COLLECTIONS ∷ MAX_REPORT_IDS ∷ MAX_REPORT_BYTES ∷ MAX_WIDTH ∷ MAX_KEYS ∷ []

limits_there : limits ≡ 4096 ∷ 512 ∷ 4096 ∷ 64 ∷ 8 ∷ 16 ∷ 64 ∷ 256 ∷ 32 ∷ 65536 ∷ []
limits_there = refl

-- a report without an ID has 2,048 bits at most, and one with an ID 2,040 after it
longest_without_id : report_limit 0 ≡ 2048
longest_without_id = refl

longest_with_id : report_limit 1 ≡ 2040
longest_with_id = refl
