-- What is printed of a step of the bus (our choice: docs/SCRIPT.md).
use Rattle.std.specs.Prelude.{Bool, List, [], ◌∷◌, ◌++◌, if◌then◌else◌, ℕ}
use Rattle.std.specs.List.{flat_map}
use Rattle.std.specs.Option.{option_map}
use Rattle.hid_bus.specs.declared.step.Step.{Step}
use Rattle.hid_bus.specs.declared.step.Step.TheVariants.{Poll, Control}
use Rattle.hid_bus.specs.declared.step.Told.{Told}
use Rattle.hid_bus.specs.declared.step.Told.TheVariants.{Polled, Transfer}
use Rattle.hid_bus.specs.declared.step.Delivered.{Delivered}
use Rattle.hid_text.specs.EventText.{event_text}
use Rattle.hid_text.specs.PollText.{poll_text}
use Rattle.hid_text.specs.TransferText.{transfer_text}

-- the line of a poll, with --trace alone, or of a try of a transfer; other steps have none
abbrev pub result_text : Bool → Step → Told → List ℕ → List ℕ
result_text trace (Poll dev fate) (Polled reply took) got =
    if trace then poll_text dev (option_map (λ bytes. bytes.items) reply) took else []
result_text trace (Control dev fate) (Transfer progress) got = transfer_text trace dev progress got
result_text trace step told got = []

-- a line for each event
abbrev pub events_text : List Delivered → List ℕ
events_text delivered = flat_map (λ d. event_text d.dev d.event ++ 10 ∷ []) delivered

-- what is printed of a step: its line, with the bytes that a transfer got, and its events
unfoldable pub step_text : Bool → Step → Told → List ℕ → List Delivered → List ℕ
step_text trace step told got delivered = result_text trace step told got ++ events_text delivered
