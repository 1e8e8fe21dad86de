-- What is read of the descriptors of a device.
use Rattle.std.proofs.Common.{rules, ◌≡◌, ℕ, ◌+◌, ◌*◌, ◌/◌, ◌%◌, ◌^◌, ◌<◌, ◌≤◌, true, Ok, Result, refl, ap, sym, ◌∙◌, arith}
use Rattle.std.specs.Prelude.{nat_le}
use Rattle.std.proofs.lemmas.Bool.Decides.{nat_tests}
use Rattle.usb_control.specs.declared.descriptors.DeviceInfo.{DeviceInfo}
use Rattle.usb_control.specs.declared.descriptors.ConfigInfo.{ConfigInfo}
use Rattle.usb_control.specs.declared.fault.InfoFault.{InfoFault}
use Rattle.usb_control.specs.Descriptors.{ReadsConfig, configuration_of, device_info_of}
use Rattle.hid_requests.specs.Descriptors.{FitsConfig, FitsDevice, configuration_bytes, configuration_walk, device_bytes}

-- a word and its two bytes
word_back : (n : ℕ) → n < 2 ^ 16 → n % 256 + 256 * (n / 256 % 256) ≡ n
word_back n small = omega arith

abbrev device_of : ℕ → ℕ → DeviceInfo
device_of vendor product = record { vendor = vendor; product = product }

pub device_read : (info : DeviceInfo) → FitsDevice info → device_info_of (device_bytes info) ≡ info
device_read info fits =
    ap (λ (x : ℕ). device_of x (info.product % 256 + 256 * (info.product / 256 % 256))) (word_back info.vendor fits.vendor)
    ∙ ap (λ (x : ℕ). device_of info.vendor x) (word_back info.product fits.product)

abbrev config_with : ConfigInfo → ℕ → ℕ → Result ConfigInfo InfoFault
config_with info len endpoint =
    Ok (record { report_length = len; endpoint = endpoint; subclass = info.subclass; protocol = info.protocol })

config_is : (info : ConfigInfo) (interval : ℕ) → FitsConfig info
    → configuration_of (configuration_walk info interval) ≡ Ok info
config_is info interval fits =
    let low : info.endpoint ≤ 15 = fits.endpoint in
    let number : (128 + info.endpoint) % 16 ≡ info.endpoint = omega arith in
    let to_host : nat_le 128 (128 + info.endpoint) ≡ true = grind (arith, nat_tests) in
    rw to_host (ap (λ (x : ℕ). config_with info x ((128 + info.endpoint) % 16)) (word_back info.report_length fits.report_length)
    ∙ ap (λ (x : ℕ). config_with info info.report_length x) number)

pub configuration_read : (info : ConfigInfo) (interval : ℕ) → FitsConfig info → ReadsConfig (configuration_bytes info interval) (Ok info)
configuration_read info interval fits = (
  configuration_walk info interval,
  record { each = search rules; whole = refl },
  search rules,
  sym (config_is info interval fits),
)
