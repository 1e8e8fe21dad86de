-- What answers requests, as contracts see it: by what its calls may give (USB 2.0, 9.2 and 9.4).
use Rattle.std.specs.Prelude.{ℕ, Bool, List, Option}
use Rattle.usb_control.specs.declared.setup.Setup.{Setup}

-- what deciding on a request may say and leave
abbrev pub PrepareGives : Type 0 → Type 1
PrepareGives R = R → Setup → Bool → R → Type 0

-- what carrying out a write of these bytes may leave
abbrev pub ApplyGives : Type 0 → Type 1
ApplyGives R = R → List ℕ → R → Type 0

-- the answer that is fixed
abbrev pub AnswerOf : Type 0 → Type 0
AnswerOf R = R → Option (List ℕ)
