-- What a host reads of a configuration, and why one is refused (USB 2.0, 9.5, 9.6.3 and 9.6.5).
use Rattle.std.specs.Prelude.{◌≡◌, ◌≢◌, ℕ, nat_lt, not, ◌==◌, ◌||◌, if◌then◌else◌, List, [], length, slice_index, Result, Ok, Err}
use Rattle.usb_control.specs.Descriptors.{HasWalk, IsWalk, descriptor_type}
use Rattle.usb_control.specs.SetupBytes.{word_at}
use Rattle.hid_interfaces.specs.declared.configuration.Configuration.{Configuration}
use Rattle.hid_interfaces.specs.declared.configuration.TheConstants.{MAX_CONFIGURATION}
use Rattle.hid_interfaces.specs.declared.fault.ConfigurationFault.{ConfigurationFault}
use Rattle.hid_interfaces.specs.declared.fault.ConfigurationFault.TheVariants.{TooShort, WrongType, TotalLength, NoDescriptors, NoNumber, NoHidInterface, Memory}
use Rattle.hid_interfaces.specs.Interfaces.{interfaces_of}

-- a length of 9 to 4,096 bytes, or the refusal
abbrev pub length_in_range : ℕ → Result ℕ ConfigurationFault
length_in_range total = if nat_lt total 9 || nat_lt MAX_CONFIGURATION total then Err TotalLength else Ok total

-- the length of a configuration whose nine bytes came, if they are of that type (table 9-10)
abbrev pub length_by_type : List ℕ → Result ℕ ConfigurationFault
length_by_type bytes =
    if not (descriptor_type bytes == 2) then Err WrongType else length_in_range (word_at bytes 2)

-- The length of a configuration with all its descriptors, by its first nine bytes: wTotalLength (table 9-10). Example: 09
-- 02 3B 00 02 01 00 A0 32 say 59
abbrev pub total_length : List ℕ → Result ℕ ConfigurationFault
total_length bytes =
    if nat_lt (length bytes) 9 || nat_lt (slice_index bytes 0) 9 then Err TooShort else length_by_type bytes

-- as many bytes came as were announced, or the refusal
abbrev pub came_whole : ℕ → Result ℕ ConfigurationFault → Result (Unit {0}) ConfigurationFault
came_whole came (Err fault) = Err fault
came_whole came (Ok total) = if not (total == came) then Err TotalLength else Ok tt

-- as many bytes came as the first nine of them say, or the refusal
abbrev pub whole_length : List ℕ → Result (Unit {0}) ConfigurationFault
whole_length bytes = came_whole (length bytes) (total_length bytes)

-- What is read of a configuration that came whole: its number, which isn't 0, and the HID interfaces of its descriptors, of
-- which there are some.
pub record IsConfiguration (bytes : List ℕ) (configuration : Configuration) : Type 0 where
  pub whole : whole_length bytes ≡ Ok tt
  pub descriptors : List (List ℕ)
  pub walk : IsWalk bytes descriptors
  pub number : configuration.number ≡ slice_index bytes 5
  pub chosen : configuration.number ≢ 0
  pub interfaces : configuration.interfaces.items ≡ interfaces_of descriptors
  pub some : configuration.interfaces.items ≢ []

-- Why a configuration is refused: it didn't come whole; it is no list of descriptors; its number is 0; or none of them is a
-- HID interface. Or memory ran out.
abbrev pub Refuses : List ℕ → ConfigurationFault → Type 0
Refuses bytes TooShort = whole_length bytes ≡ Err TooShort
Refuses bytes WrongType = whole_length bytes ≡ Err WrongType
Refuses bytes TotalLength = whole_length bytes ≡ Err TotalLength
Refuses bytes NoDescriptors = (whole_length bytes ≡ Ok tt) × ¬ HasWalk bytes
Refuses bytes NoNumber = (whole_length bytes ≡ Ok tt) × HasWalk bytes × (slice_index bytes 5 ≡ 0)
Refuses bytes NoHidInterface =
    (whole_length bytes ≡ Ok tt)
    × ((descriptors : List (List ℕ)) × IsWalk bytes descriptors × (interfaces_of descriptors ≡ []))
Refuses bytes Memory = (whole_length bytes ≡ Ok tt) × HasWalk bytes
