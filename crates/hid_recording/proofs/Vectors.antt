-- Worked values of what is printed of an event, each by hand.
use Rattle.std.proofs.Common.{◌≡◌, ℕ, List, [], ◌∷◌, ◌++◌, Some, true, false, refl, pos}
use Rattle.std.specs.Prelude.{codes}
use Rattle.std.specs.Fmt.{digits}
use Rattle.json.specs.Token.{begin_object, end_object, key, string, number}
use Rattle.hid_report_descriptor.specs.declared.collection.Collection.{Collection}
use Rattle.hid_report_descriptor.specs.declared.shape.Shape.TheVariants.{Variable}
use Rattle.hid_report_descriptor.specs.declared.usage.Usage.{Usage}
use Rattle.hid_layout.specs.declared.main_item.MainItem.{MainItem}
use Rattle.hid_layout.specs.Layout.{Contents}
use Rattle.hid_snapshots.specs.declared.event.Event.TheVariants.{Up}
use Rattle.hid_notation.specs.Text.{hex_text}
use Rattle.hid_recording.specs.declared.options.Options.{Options}
use Rattle.hid_recording.specs.EventJson.{event_tokens}
use Rattle.hid_recording.specs.EventLines.{event_line}

-- the collections round a finger of a touch screen, the outermost first
finger : List Collection
finger =
    record { kind = 1; usage = Some (record { page = 0x0D; id = 0x04 }) }
    ∷ record { kind = 2; usage = Some (record { page = 0x0D; id = 0x22 }) } ∷ []

-- the tip of a finger: a bit at this place of a report
tip_at : ℕ → MainItem
tip_at bit = record { report = 0; offset = bit; size = 1; count = 1; flags = record { 0 = 0x02 }; min = pos 0; max = pos 1; shape = Variable }

tip : Usage
tip = record { page = 0x0D; id = 0x42 }

-- a touch screen of two fingers
screen : Contents
screen = record {
  reports = [];
  numbered = false;
  items = tip_at 0 ∷ tip_at 1 ∷ [];
  entries = ((tip, tip) ∷ []) ∷ ((tip, tip) ∷ []) ∷ [];
  paths = finger ∷ finger ∷ [];
}

with_places : Options
with_places = record { layout = false; values = false; names = false; places = true; strict = false; json = false }

-- the second finger leaves the screen, as text
a_release : event_line (codes "1.5") 3 with_places screen (Up (record { item = 1; index = 0 }) tip)
    ≡ codes "1.5 3 up 0D:42 @1.0" ++ 10 ∷ []
unfolding event_line with_places tip hex_text digits
a_release = refl

-- the release without its place
a_release_by_usage : event_line (codes "1.5") 3 (record with_places { places = false }) screen (Up (record { item = 1; index = 0 }) tip)
    ≡ codes "1.5 3 up 0D:42" ++ 10 ∷ []
unfolding event_line with_places tip hex_text digits
a_release_by_usage = refl

-- the release as JSON
release_members : event_tokens (codes "1.5") 3 false screen (Up (record { item = 1; index = 0 }) tip)
    ≡ begin_object ∷ key (codes "time") ∷ string (codes "1.5") ∷ key (codes "device") ∷ number (codes "3")
    ∷ key (codes "event") ∷ string (codes "up") ∷ key (codes "page") ∷ number (codes "13") ∷ key (codes "id") ∷ number (codes "66")
    ∷ key (codes "item") ∷ number (codes "1") ∷ key (codes "index") ∷ number (codes "0")
    ∷ key (codes "path") ∷ string (codes "1/0D:04 2/0D:22") ∷ end_object ∷ []
unfolding event_tokens screen finger tip hex_text digits
release_members = refl
