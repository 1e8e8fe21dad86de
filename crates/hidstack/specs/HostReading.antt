-- What a call that reads a host answers (our choice).
use Rattle.std.specs.Prelude.{◌≡◌, ℕ, List, Option, Some, None}
use Rattle.hid_layout.specs.Layout.{Contents}
use Rattle.hid_driver.specs.Driver.{DriverValue}
use Rattle.hidstack_host.specs.Reading.{layout_shown}
use Rattle.hidstack.specs.declared.status.TheConstants.{CLOSED, NONE}
use Rattle.hidstack.specs.Accessors.{Answers}
use Rattle.hidstack.specs.Texts.{Leaves}
use Rattle.hidstack.specs.Writing.{BlankIsReturned}

-- What a call that reads a host answers: a closed handle has none, and nothing changes.
abbrev pub ShowsHost : {A : Type 0} → (DriverValue → Option A) → Option DriverValue → A → ℕ → A → Type 0
ShowsHost read None old status new = (status ≡ CLOSED) × (new ≡ old)
ShowsHost read (Some h) old status new = Answers (read h) old status new

-- the report of zeros of a layout that may be there
abbrev pub BlankIsReturnedOf : Option Contents → ℕ → ℕ → List ℕ → ℕ → List ℕ → ℕ → Type 0
BlankIsReturnedOf None kind id out status out' told = Leaves NONE out status out' told
BlankIsReturnedOf (Some layout) kind id out status out' told = BlankIsReturned layout kind id out status out' told

-- the report of zeros of the interface at a place, once its report descriptor is read
abbrev pub HostBlankIsReturned : DriverValue → ℕ → ℕ → ℕ → List ℕ → ℕ → List ℕ → ℕ → Type 0
HostBlankIsReturned h place = BlankIsReturnedOf (layout_shown h place)

-- the report of zeros of an interface of an open handle's host; a closed one is refused, and nothing is written
abbrev pub BlanksHost : Option DriverValue → ℕ → ℕ → ℕ → List ℕ → ℕ → List ℕ → ℕ → Type 0
BlanksHost None place kind id out status out' told = Leaves CLOSED out status out' told
BlanksHost (Some h) place kind id out status out' told = HostBlankIsReturned h place kind id out status out' told
