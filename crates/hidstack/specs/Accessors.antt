-- What a call that reads a handle answers (our choice).
use Rattle.std.specs.Prelude.{◌≡◌, ℕ, List, Option, Some, None}
use Rattle.hid_snapshots.specs.declared.control_state.ControlState.{ControlState}
use Rattle.hid_layout.specs.Layout.{Contents}
use Rattle.hidstack_session.specs.States.{SessionState}
use Rattle.hidstack.specs.declared.status.TheConstants.{OK, CLOSED, NONE}

-- what is there is written; where nothing is there, nothing changes
abbrev pub Answers : {A : Type 0} → Option A → A → ℕ → A → Type 0
Answers (Some x) old status new = (status ≡ OK) × (new ≡ x)
Answers None old status new = (status ≡ NONE) × (new ≡ old)

-- what a call that reads a session answers: a closed handle has none, and nothing changes
abbrev pub Shows : {A : Type 0} → (SessionState → Option A) → Option SessionState → A → ℕ → A → Type 0
Shows read None old status new = (status ≡ CLOSED) × (new ≡ old)
Shows read (Some s) old status new = Answers (read s) old status new

-- What a call that reads the layout of a handle's session answers: a closed handle is refused and nothing changes.
abbrev pub ShowsLayout : {A : Type 0} → (Contents → Option A) → Option SessionState → A → ℕ → A → Type 0
ShowsLayout read kept old status new = Shows (λ s. read s.layout) kept old status new

-- What a call that reads the view of a handle's session answers: a closed handle is refused and nothing changes.
abbrev pub ShowsView : {A : Type 0} → (List ControlState → Option A) → Option SessionState → A → ℕ → A
    → Type 0
ShowsView read kept old status new = Shows (λ s. read s.view) kept old status new
