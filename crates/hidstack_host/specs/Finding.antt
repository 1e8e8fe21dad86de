-- The data elements of an interface by their usage (HID 1.11, 6.2.2.8; our choice).
use Rattle.std.specs.Prelude.{◌≡◌, ℕ, ◌+◌, ◌==◌, ◌&&◌, Bool, List, length, filter, slice_get, Option, Some}
use Rattle.std.specs.Option.{option_and_then}
use Rattle.hid_report_descriptor.specs.declared.usage.Usage.{Usage}
use Rattle.hid_layout.specs.Layout.{Contents}
use Rattle.hid_driver.specs.Driver.{DriverValue}
use Rattle.hidstack_session.specs.declared.element.HidElement.{HidElement}
use Rattle.hidstack_session.specs.Tables.{elements_of}
use Rattle.hidstack_host.specs.declared.find.Sought.{Sought}
use Rattle.hidstack_host.specs.declared.find.Sought.TheVariants.{Found, Left}
use Rattle.hidstack_host.specs.Reading.{layout_shown}

-- whether an element stands in a report of this kind and has this usage
abbrev pub is_sought : ℕ → Usage → HidElement → Bool
is_sought kind u element = (element.kind == kind) && ((element.page == u.page) && (element.id == u.id))

-- of the elements of a list that pass a test, the one that comes after this many; or how many are left once those of the list are
-- counted
abbrev pub IsNth : (HidElement → Bool) → List HidElement → ℕ → Sought → Type 0
IsNth passes elements nth (Found element) = slice_get (filter passes elements) nth ≡ Some element
IsNth passes elements nth (Left rest) = length (filter passes elements) + rest ≡ nth

-- Of the elements of a layout that stand in reports of this kind and have this usage, item by item, the one that comes after this
-- many. Example: of the boot keyboard's Output report, kind 1, the first of 08:02 is the second bit: Caps Lock
abbrev pub nth_element : Contents → ℕ → Usage → ℕ → Option HidElement
nth_element layout kind u nth = slice_get (filter (is_sought kind u) (elements_of layout (length layout.items))) nth

-- that element of the interface at a place
abbrev pub element_found : DriverValue → ℕ → ℕ → Usage → ℕ → Option HidElement
element_found driver place kind u nth = option_and_then (λ layout. nth_element layout kind u nth) (layout_shown driver place)
