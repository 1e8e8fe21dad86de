-- Transfers as they are printed (USB 2.0, 8.5.3; our choice: docs/SCRIPT.md).
use Rattle.std.specs.Prelude.{ℕ, Bool, List, [], ◌∷◌, ◌++◌, if◌then◌else◌, codes}
use Rattle.std.specs.Fmt.{decimal}
use Rattle.usb_control.specs.Fault.{control_code_of}
use Rattle.usb_control.specs.declared.host.Progress.{Progress}
use Rattle.usb_control.specs.declared.host.Progress.TheVariants.{Running, Done, Failed}
use Rattle.hid_notation.specs.Text.{bytes_text}

-- how far a transfer has come; if it is done, its bytes; if it failed, the code
abbrev pub progress_words : Progress → List ℕ → List ℕ
progress_words Running got = codes "running"
progress_words Done got = codes "done" ++ bytes_text got
progress_words (Failed fault) got = codes "failed " ++ control_code_of fault

-- D control PROGRESS
abbrev pub progress_text : ℕ → Progress → List ℕ → List ℕ
progress_text dev progress got = decimal dev ++ codes " control " ++ progress_words progress got ++ 10 ∷ []

-- The line of a try: how far the transfer has come, with the bytes of a read that is done or the code of one that
-- failed; one that goes on has a line with --trace alone. Example: 1 control done 00 00
unfoldable pub transfer_text : Bool → ℕ → Progress → List ℕ → List ℕ
transfer_text trace dev Running got = if trace then progress_text dev Running got else []
transfer_text trace dev progress got = progress_text dev progress got
