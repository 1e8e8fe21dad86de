-- Worked values of what is printed, each by hand.
use Rattle.std.proofs.Common.{◌≡◌, [], ◌∷◌, ◌++◌, None, Some, true, false, refl, pos, negsuc}
use Rattle.std.specs.Prelude.{codes}
use Rattle.std.specs.Fmt.{digits}
use Rattle.hid_report_descriptor.specs.declared.report.ReportKind.TheVariants.{Input}
use Rattle.hid_layout.specs.declared.main_item.MainItem.{MainItem}
use Rattle.hid_report_descriptor.specs.declared.shape.Shape.TheVariants.{Variable}
use Rattle.hid_notation.specs.Text.{hex_text, range_text}
use Rattle.hid_text.specs.LayoutText.{item_head, item_line, collections_text}
use Rattle.hid_text.specs.ValuesText.{value_line}
use Rattle.hid_snapshots.specs.declared.event.Event.TheVariants.{Up, Value, Dropped}
use Rattle.hid_text.specs.EventText.{placed_event_text}
use Rattle.hid_text.specs.EventLines.{event_lines}
use Rattle.hid_text.specs.StepText.{events_text}
use Rattle.hid_text.specs.TransferText.{transfer_text}
use Rattle.usb_control.specs.declared.fault.ControlFault.TheVariants.{BusFault}
use Rattle.usb_control.specs.declared.host.Progress.TheVariants.{Running, Done, Failed}

-- a number below 0, and a usage that there isn't
a_value : value_line 2 1 (negsuc 126) None ≡ codes "value 2.1 -127 -" ++ 10 ∷ []
unfolding value_line digits
a_value = refl

-- the buttons of a mouse: variable, from 0 to 1, in its collections
buttons : MainItem
buttons = record { report = 0; offset = 0; size = 1; count = 3; flags = record { 0 = 0x02 }; min = pos 0; max = pos 1; shape = Variable }

mouse_buttons : item_line 0 (record { kind = Input; id = 0; bits = 24 }) buttons
    ((record { page = 0x09; id = 0x01 }, record { page = 0x09; id = 0x03 }) ∷ [])
    (record { kind = 1; usage = Some (record { page = 0x01; id = 0x02 }) } ∷ record { kind = 0; usage = None } ∷ [])
    ≡ codes "item 0 input 0 at 0 1x3 variable 0..1 09:01-09:03 in 1/01:02 0/-" ++ 10 ∷ []
unfolding buttons item_head range_text hex_text digits
mouse_buttons = refl

-- a finger of a touch screen: a logical collection in an application
a_finger : collections_text
    (record { kind = 1; usage = Some (record { page = 0x0D; id = 0x04 }) }
    ∷ record { kind = 2; usage = Some (record { page = 0x0D; id = 0x22 }) } ∷ [])
    ≡ codes "1/0D:04 2/0D:22"
unfolding hex_text digits
a_finger = refl

-- the second finger leaves the screen: its tip is the only element of its item
a_tip : placed_event_text 0 (Up (record { item = 7; index = 0 }) (record { page = 0x0D; id = 0x42 }))
    ≡ codes "0 up 0D:42 @7.0"
unfolding hex_text digits
a_tip = refl

-- the place stands before the number
a_placed_value : placed_event_text 0 (Value (record { item = 12; index = 1 }) (record { page = 0x01; id = 0x30 }) (negsuc 4))
    ≡ codes "0 value 01:30 @12.1 -5"
unfolding hex_text digits
a_placed_value = refl

-- the status of a device that was read, whatever is asked to be traced
a_status : transfer_text false 1 Done (0x00 ∷ 0x00 ∷ []) ≡ codes "1 control done 00 00" ++ 10 ∷ []
unfolding transfer_text hex_text digits
a_status = refl

three_lost_tokens : transfer_text false 1 (Failed BusFault) [] ≡ codes "1 control failed C2" ++ 10 ∷ []
unfolding transfer_text digits
three_lost_tokens = refl

-- a try after which there is another to make
one_try : transfer_text true 1 Running [] ≡ codes "1 control running" ++ 10 ∷ []
unfolding transfer_text digits
one_try = refl

one_try_untold : transfer_text false 1 Running [] ≡ []
unfolding transfer_text
one_try_untold = refl

-- what a reset tells of a button that was held, and of motion that hadn't crossed
a_reset : events_text
    (record { dev = 1; event = Up (record { item = 0; index = 0 }) (record { page = 0x09; id = 0x01 }) }
    ∷ record { dev = 1; event = Dropped (record { item = 2; index = 0 }) (record { page = 0x01; id = 0x30 }) (negsuc 4) } ∷ [])
    ≡ codes "1 up 09:01" ++ 10 ∷ codes "1 dropped 01:30 -5" ++ 10 ∷ []
unfolding hex_text digits
a_reset = refl

-- of a trace the events of device 1: not its polls and transfers, and not the events of device 11
events_of_device_1 : event_lines 1
    (codes "1 poll NAK nak" ++ 10 ∷ codes "1 down 07:04" ++ 10 ∷ codes "11 up 07:04" ++ 10 ∷ codes "value 1.0 1 07:04" ++ 10 ∷ codes "1 control done 00" ++ 10 ∷ codes "1 dropped 01:30 -3" ++ 10 ∷ [])
    ≡ codes "1 down 07:04" ∷ codes "1 dropped 01:30 -3" ∷ []
unfolding digits
events_of_device_1 = refl
