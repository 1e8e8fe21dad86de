-- Values of the definitions, worked out by hand.
use Rattle.std.specs.Prelude.{◌≡◌, ◌*◌, refl}
use Rattle.hid_report_descriptor.specs.declared.limits.TheConstants.{MAX_REAL_REPORT_BYTES}
use Rattle.hid_snapshots.specs.declared.numbers.TheConstants.{MAX_NUMBERS}

-- an item has at most one element for each bit of the longest report
most_numbers : MAX_NUMBERS ≡ 8 * MAX_REAL_REPORT_BYTES
most_numbers = refl
