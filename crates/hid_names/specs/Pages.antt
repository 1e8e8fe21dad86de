-- The names of each page (HID Usage Tables; of pages 80 to F0 their own standards).
use Rattle.std.specs.Prelude.{ℕ, ◌==◌, nat_lt, Bool, true, false, ◌&&◌, List, [], ◌∷◌, map, if◌then◌else◌, Option, None, Some}
use Rattle.std.specs.Borrow.{Bor}
use Rattle.hid_names.specs.declared.table.TheConstants.{DESKTOP, SIMULATION, VR, SPORT, GAME, KEYBOARD, LEDS, TELEPHONY, CONSUMER, APPLICATION_CONTROLS, DIGITIZERS, PHYSICAL_INTERFACE, AUXILIARY_DISPLAY, SENSORS, SENSOR_FIELDS, MORE_SENSOR_FIELDS, SENSOR_VALUES, MONITOR, VESA_CONTROLS, POWER, BATTERY_SYSTEM, CASH_DEVICE}

-- IDs and names
abbrev pub table_rows : List (ℕ × Bor (List ℕ)) → List (ℕ × List ℕ)
table_rows rows = map (λ row. (row.0, row.1.now)) rows

-- what rows have under an ID
abbrev pub name_under : List (ℕ × List ℕ) → ℕ → Option (List ℕ)
name_under [] id = None
name_under (row ∷ more) id = if id == row.0 then Some row.1 else name_under more id

-- page 01
unfoldable pub desktop : List (ℕ × List ℕ)
desktop = map (λ row. (row.0, row.1.now)) DESKTOP

-- page 02
unfoldable pub simulation : List (ℕ × List ℕ)
simulation = map (λ row. (row.0, row.1.now)) SIMULATION

-- page 03
unfoldable pub vr : List (ℕ × List ℕ)
vr = map (λ row. (row.0, row.1.now)) VR

-- page 04
unfoldable pub sport : List (ℕ × List ℕ)
sport = map (λ row. (row.0, row.1.now)) SPORT

-- page 05
unfoldable pub game : List (ℕ × List ℕ)
game = map (λ row. (row.0, row.1.now)) GAME

-- page 07
unfoldable pub keyboard : List (ℕ × List ℕ)
keyboard = map (λ row. (row.0, row.1.now)) KEYBOARD

-- page 08
unfoldable pub leds : List (ℕ × List ℕ)
leds = map (λ row. (row.0, row.1.now)) LEDS

-- page 0B
unfoldable pub telephony : List (ℕ × List ℕ)
telephony = map (λ row. (row.0, row.1.now)) TELEPHONY

-- page 0C below 200
unfoldable pub consumer : List (ℕ × List ℕ)
consumer = map (λ row. (row.0, row.1.now)) CONSUMER

-- page 0C from 200 on
unfoldable pub application_controls : List (ℕ × List ℕ)
application_controls = map (λ row. (row.0, row.1.now)) APPLICATION_CONTROLS

-- page 0D
unfoldable pub digitizers : List (ℕ × List ℕ)
digitizers = map (λ row. (row.0, row.1.now)) DIGITIZERS

-- page 0F
unfoldable pub physical_interface : List (ℕ × List ℕ)
physical_interface = map (λ row. (row.0, row.1.now)) PHYSICAL_INTERFACE

-- page 14
unfoldable pub auxiliary_display : List (ℕ × List ℕ)
auxiliary_display = map (λ row. (row.0, row.1.now)) AUXILIARY_DISPLAY

-- page 20 below 200
unfoldable pub sensors : List (ℕ × List ℕ)
sensors = map (λ row. (row.0, row.1.now)) SENSORS

-- page 20 from 200 to 4FF
unfoldable pub sensor_fields : List (ℕ × List ℕ)
sensor_fields = map (λ row. (row.0, row.1.now)) SENSOR_FIELDS

-- page 20 from 500 to 7FF
unfoldable pub more_sensor_fields : List (ℕ × List ℕ)
more_sensor_fields = map (λ row. (row.0, row.1.now)) MORE_SENSOR_FIELDS

-- page 20 from 800 on
unfoldable pub sensor_values : List (ℕ × List ℕ)
sensor_values = map (λ row. (row.0, row.1.now)) SENSOR_VALUES

-- page 80
unfoldable pub monitor : List (ℕ × List ℕ)
monitor = map (λ row. (row.0, row.1.now)) MONITOR

-- page 82
unfoldable pub vesa_controls : List (ℕ × List ℕ)
vesa_controls = map (λ row. (row.0, row.1.now)) VESA_CONTROLS

-- page 84
unfoldable pub power : List (ℕ × List ℕ)
power = map (λ row. (row.0, row.1.now)) POWER

-- page 85
unfoldable pub battery_system : List (ℕ × List ℕ)
battery_system = map (λ row. (row.0, row.1.now)) BATTERY_SYSTEM

-- page F0
unfoldable pub cash_device : List (ℕ × List ℕ)
cash_device = map (λ row. (row.0, row.1.now)) CASH_DEVICE

-- what page 0C has under an ID
abbrev pub in_consumer : ℕ → Option (List ℕ)
in_consumer id = if nat_lt id 0x200 then name_under consumer id else name_under application_controls id

-- what page 20 has under an ID
abbrev pub in_sensors : ℕ → Option (List ℕ)
in_sensors id =
    if nat_lt id 0x200 then name_under sensors id
    else if nat_lt id 0x500 then name_under sensor_fields id
    else if nat_lt id 0x800 then name_under more_sensor_fields id else name_under sensor_values id

-- what the table of a page has under an ID
unfoldable pub in_page : ℕ → ℕ → Option (List ℕ)
in_page page id =
    if page == 0x01 then name_under desktop id
    else if page == 0x02 then name_under simulation id
    else if page == 0x03 then name_under vr id
    else if page == 0x04 then name_under sport id
    else if page == 0x05 then name_under game id
    else if page == 0x07 then name_under keyboard id
    else if page == 0x08 then name_under leds id
    else if page == 0x0B then name_under telephony id
    else if page == 0x0C then in_consumer id
    else if page == 0x0D then name_under digitizers id
    else if page == 0x0F then name_under physical_interface id
    else if page == 0x14 then name_under auxiliary_display id
    else if page == 0x20 then in_sensors id
    else if page == 0x80 then name_under monitor id
    else if page == 0x82 then name_under vesa_controls id
    else if page == 0x84 then name_under power id
    else if page == 0x85 then name_under battery_system id
    else if page == 0xF0 then name_under cash_device id
    else None

-- each number is below the one after it
abbrev pub are_rising : List ℕ → Bool
are_rising [] = true
are_rising (first ∷ []) = true
are_rising (first ∷ second ∷ more) = if nat_lt first second then are_rising (second ∷ more) else false

-- the IDs of each page rise
abbrev pub all_rise : Bool
all_rise =
    are_rising (map (λ row. row.0) DESKTOP)
    && are_rising (map (λ row. row.0) SIMULATION)
    && are_rising (map (λ row. row.0) VR)
    && are_rising (map (λ row. row.0) SPORT)
    && are_rising (map (λ row. row.0) GAME)
    && are_rising (map (λ row. row.0) KEYBOARD)
    && are_rising (map (λ row. row.0) LEDS)
    && are_rising (map (λ row. row.0) TELEPHONY)
    && are_rising (map (λ row. row.0) CONSUMER)
    && are_rising (map (λ row. row.0) APPLICATION_CONTROLS)
    && are_rising (map (λ row. row.0) DIGITIZERS)
    && are_rising (map (λ row. row.0) PHYSICAL_INTERFACE)
    && are_rising (map (λ row. row.0) AUXILIARY_DISPLAY)
    && are_rising (map (λ row. row.0) SENSORS)
    && are_rising (map (λ row. row.0) SENSOR_FIELDS)
    && are_rising (map (λ row. row.0) MORE_SENSOR_FIELDS)
    && are_rising (map (λ row. row.0) SENSOR_VALUES)
    && are_rising (map (λ row. row.0) MONITOR)
    && are_rising (map (λ row. row.0) VESA_CONTROLS)
    && are_rising (map (λ row. row.0) POWER)
    && are_rising (map (λ row. row.0) BATTERY_SYSTEM)
    && are_rising (map (λ row. row.0) CASH_DEVICE)
