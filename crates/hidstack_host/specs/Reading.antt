-- What the layout and the view of an interface show (our choice; what stands there: hidstack_session and hid_snapshots).
use Rattle.std.specs.Prelude.{ℕ, Bool, ℤ, Option}
use Rattle.std.specs.Option.{option_map, option_and_then}
use Rattle.hid_layout.specs.Layout.{Contents}
use Rattle.hid_snapshots.specs.Snapshots.{is_pressed, state_at}
use Rattle.hid_snapshots.specs.Views.{value_in}
use Rattle.hid_driver.specs.Driver.{DriverValue}
use Rattle.hid_driver.specs.Holding.{pipe_at}
use Rattle.hidstack_session.specs.declared.element.HidElement.{HidElement}
use Rattle.hidstack_session.specs.Elements.{element_at}

-- the layout of the interface at a place, once its report descriptor is read
abbrev pub layout_shown : DriverValue → ℕ → Option Contents
layout_shown driver place = option_map (λ pipe. pipe.receiving.layout) (pipe_at driver.interfaces place)

-- the record of a data element of the interface at a place, by its item and its place there
abbrev pub element_shown : DriverValue → ℕ → ℕ → ℕ → Option HidElement
element_shown driver place item index = option_and_then (λ layout. element_at layout item index) (layout_shown driver place)

-- whether a switch or a key of the interface at a place is held
abbrev pub held_shown : DriverValue → ℕ → ℕ → ℕ → Option Bool
held_shown driver place item index =
    option_map (λ pipe. is_pressed (state_at pipe.receiving.view item) index) (pipe_at driver.interfaces place)

-- the value of an absolute control of the interface at a place
abbrev pub value_shown : DriverValue → ℕ → ℕ → ℕ → Option ℤ
value_shown driver place item index =
    option_and_then (λ pipe. value_in (state_at pipe.receiving.view item) index) (pipe_at driver.interfaces place)
