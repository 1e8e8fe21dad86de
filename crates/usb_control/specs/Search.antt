-- The first descriptor of a kind, and the bytes on both sides of it (USB 2.0, 9.5).
use Rattle.std.specs.Prelude.{◌≡◌, ℕ, Bool, List, find, Option, Some, None}
use Rattle.std.specs.List.{before_first, after_first}
use Rattle.usb_control.specs.declared.descriptor_list.Wanted.{Wanted}
use Rattle.usb_control.specs.declared.descriptor_list.Wanted.TheVariants.{Interface, HidInterface, Hid, InterruptIn}
use Rattle.usb_control.specs.declared.descriptor_list.Split.{Split}
use Rattle.usb_control.specs.Descriptors.{IsWalk, is_interface, is_hid_interface, is_hid, is_interrupt_in}

-- whether a descriptor is one that is looked for
abbrev pub is_wanted : Wanted → List ℕ → Bool
is_wanted Interface descriptor = is_interface descriptor
is_wanted HidInterface descriptor = is_hid_interface descriptor
is_wanted Hid descriptor = is_hid descriptor
is_wanted InterruptIn descriptor = is_interrupt_in descriptor

-- the descriptors are split at the first that passes the test
abbrev pub FindsDescriptor : (List ℕ → Bool) → List (List ℕ) → Option Split → Type 0
FindsDescriptor test descriptors None = find test descriptors ≡ None
FindsDescriptor test descriptors (Some split) =
    (find test descriptors ≡ Some split.found.now)
    × IsWalk split.before.now (before_first test descriptors)
    × IsWalk split.behind.now (after_first test descriptors)
