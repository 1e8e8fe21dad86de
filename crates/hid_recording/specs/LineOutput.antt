-- The outcome of a line of a recording (our choice: docs/RECORDINGS.md).
use Rattle.std.specs.Prelude.{◌≡◌, ◌⊎◌, ℕ, ◌+◌, nat_lt, Bool, true, false, List, [], ◌∷◌, ◌++◌, length, if◌then◌else◌, Option, None, Some, Result, Ok, Err, slice_get, set, map, codes}
use Rattle.hid_snapshots.specs.declared.event.Event.{Event}
use Rattle.std.specs.Fmt.{decimal}
use Rattle.hid_report_descriptor.specs.Items.{EncodedItem}
use Rattle.hid_report_descriptor.specs.Real.{Accepts, Refuses}
use Rattle.hid_report_descriptor.specs.declared.fault.LayoutFault.{LayoutFault}
use Rattle.hid_report_descriptor.specs.declared.limits.Limits.TheVariants.{Real}
use Rattle.hid_report_descriptor.specs.declared.long_reports.LongReport.{LongReport}
use Rattle.hid_report_descriptor.specs.LongReports.{NamesReport}
use Rattle.hid_layout.specs.Layout.{Contents, layout_of}
use Rattle.hid_snapshots.specs.declared.fault.ReportFault.{ReportFault}
use Rattle.hid_usages.specs.Reading.{report_named}
use Rattle.hid_text.specs.LayoutText.{layout_text}
use Rattle.hid_text.specs.ValuesText.{value_at, values_at, values_text}
use Rattle.hid_text.specs.NamedText.{named_layout, named_value_at, named_values_at, named_values}
use Rattle.hid_recording.specs.declared.dump.Address.{Address}
use Rattle.hid_recording.specs.declared.dump.Content.{Content}
use Rattle.hid_recording.specs.declared.dump.Content.TheVariants as contents
use Rattle.hid_recording.specs.declared.fault.Cause.{Cause}
use Rattle.hid_recording.specs.declared.fault.Cause.TheVariants.{Refused, LineTooLong}
use Rattle.hid_recording.specs.declared.options.Options.{Options}
use Rattle.hid_recording.specs.declared.fault.Refusal.{Refusal}
use Rattle.hid_recording.specs.declared.fault.Refusal.TheVariants as refusals
use Rattle.hid_recording.specs.Session.{Session, PlayedDevice, Outcome, success, failure, saturating_sum, fresh_device}
use Rattle.hid_recording.specs.Taking.{read_member, member_events, member_events_back}
use Rattle.hid_recording.specs.Joining.{slot_after_doubt, past_chunk, bytes_with, ends_with, with_collected}
use Rattle.hid_recording.specs.EventLines.{event_lines}
use Rattle.hid_recording.specs.Refusals.{refusal_line}
use Rattle.hid_recording.specs.Records.{LineMeaning, Nothing, Blank, Device, Descriptor, Unread, Report, Begins, Bytes, record_of}
use Rattle.hid_recording.specs.Words.{time_of}
use Rattle.hid_recording.specs.Dumps.{no_dump, dropped_dump, empty_dump, described_device, number_of_address, with_address}

-- ---- refusals

-- the line of a refusal, with the number of what is played
abbrev pub session_refusal_line : Session → Refusal → List ℕ
session_refusal_line session refusal = refusal_line session.options session.counted session.lines refusal

-- one more refusal is counted
abbrev pub with_refusal : Session → Session
with_refusal session = record session { refused = saturating_sum session.refused 1 }

-- the outcome of a line that is refused: its place and why are printed, and it is counted
abbrev pub outcome_after_refusal : Session → Refusal → Outcome
outcome_after_refusal session refusal = success (session_refusal_line session refusal) (with_refusal session)

-- a line that is refused: of a strict run it is the end, else the run goes on
abbrev pub outcome_of_refusal : Session → Refusal → Outcome
outcome_of_refusal session refusal =
    if session.options.strict then failure (Refused refusal) else outcome_after_refusal session refusal

-- ---- descriptors

-- the session whose current device is this one
abbrev pub with_device : Session → Option PlayedDevice → Session
with_device session member = record session { devices = set session.devices session.current member }

-- the devices, of which a device that may be named has no descriptor
abbrev pub devices_without : List (Option PlayedDevice) → Option ℕ → List (Option PlayedDevice)
devices_without devices None = devices
devices_without devices (Some device) = set devices device None

-- a layout, with --names that of each usage
abbrev pub layout_shown : Bool → Contents → List ℕ
layout_shown names layout = if names then named_layout layout else layout_text layout

-- the text of a descriptor that is accepted: with --layout the number of the device, and its layout
abbrev pub described_text : Options → ℕ → Contents → List ℕ
described_text options device layout =
    if options.layout then codes "device " ++ decimal device ++ 10 ∷ layout_shown options.names layout else []

-- the current device has an accepted descriptor
abbrev pub with_descriptor : Session → PlayedDevice → Session
with_descriptor session member = record session {
  devices = set session.devices session.current (Some member);
  descriptors = saturating_sum session.descriptors 1;
}

-- a device whose descriptor is accepted
abbrev pub outcome_of_device : Session → PlayedDevice → Outcome
outcome_of_device session member =
    success (described_text session.options session.current member.layout) (with_descriptor session member)

-- a descriptor is refused, and the device has none
abbrev pub DescriptorIsRefused : List ℕ → LayoutFault → Session → Outcome → Type 0
DescriptorIsRefused bytes fault session o =
    (long : Option LongReport) × NamesReport Real bytes fault long
    × (o ≡ outcome_of_refusal (with_device session None) (refusals.Layout fault long))

-- the descriptor is accepted, with these items; or it is refused, and the device has none
abbrev pub DescriptorGives : List ℕ → Session → Outcome → Type 0
DescriptorGives bytes session o =
    ((items : List EncodedItem) × Accepts bytes items
    × (o ≡ outcome_of_device session (fresh_device (layout_of items))))
    ⊎ ((fault : LayoutFault) × Refuses bytes fault.cause fault.at × DescriptorIsRefused bytes fault session o)

-- ---- devices that let go

-- what stands at a place that there is
abbrev pub member_in_slot : Option (Option PlayedDevice) → Option PlayedDevice
member_in_slot None = None
member_in_slot (Some member) = member

-- what stands in the slot of a numbered device
abbrev pub member_of : Session → ℕ → Option PlayedDevice
member_of session device = member_in_slot (slice_get session.devices device)

-- the events that lead the device in a slot back to its initial view; none where there is no device
abbrev pub slot_events_back : Option PlayedDevice → List Event
slot_events_back None = []
slot_events_back (Some member) = member_events_back member

-- the lines of those events
abbrev pub slot_text_back : List ℕ → ℕ → Options → Option PlayedDevice → List ℕ
slot_text_back time device options None = []
slot_text_back time device options (Some member) =
    event_lines time device options member.layout (member_events_back member)

-- the lines of what a numbered device lets go of, at the time of the report that was read last
abbrev pub text_back : Session → ℕ → List ℕ
text_back session device = slot_text_back session.time device session.options (member_of session device)

-- the lines of what a device that may be named lets go of; none where none is named
abbrev pub named_text_back : Session → Option ℕ → List ℕ
named_text_back session None = []
named_text_back session (Some device) = text_back session device

-- how many events there are, with those of a device that may be named and lets go of what it holds
abbrev pub events_without : Session → Option ℕ → ℕ
events_without session None = session.events
events_without session (Some device) =
    saturating_sum session.events (length (slot_events_back (member_of session device)))

-- a device that may be named let go of what it held, and has no descriptor
abbrev pub without_named : Session → Option ℕ → Session
without_named session device = record session {
  devices = devices_without session.devices device;
  events = events_without session device;
}

-- a numbered device lets go of what it holds, by the events that lead back to its initial view, and has no descriptor then
abbrev pub outcome_of_release : Session → ℕ → Outcome
outcome_of_release session device = success (text_back session device) (without_named session (Some device))

-- an outcome of this text and end after another text, by its end
abbrev pub after_text_by : List ℕ → List ℕ → Result Session Cause → Outcome
after_text_by text rest (Ok next) = success (text ++ rest) next
after_text_by text rest (Err cause) = record { text = rest; end = Err cause }

-- an outcome after a text; of one that ends the run nothing is printed
abbrev pub after_text : List ℕ → Outcome → Outcome
after_text text o = after_text_by text o.text o.end

-- an outcome after the current device let go of what it held
abbrev pub AfterRelease : Session → (Session → Outcome → Type 0) → Outcome → Type 0
AfterRelease session Tells o =
    (described : Outcome) × Tells (without_named session (Some session.current)) described
    × (o ≡ after_text (text_back session session.current) described)

-- a descriptor of the current device, which may have had another one: it lets go of what it held before
abbrev pub DescriptionGives : List ℕ → Session → Outcome → Type 0
DescriptionGives bytes session o = AfterRelease session (DescriptorGives bytes) o

-- ---- reports

-- the line of an element, with --names that of its usage
abbrev pub value_shown : Bool → Contents → List ℕ → ℕ → ℕ → List ℕ
value_shown names layout bytes i j = if names then named_value_at layout bytes i j else value_at layout bytes i j

-- the lines of an item's elements, with --names those of their usages
abbrev pub values_shown_at : Bool → Contents → ℕ → List ℕ → ℕ → List ℕ
values_shown_at names layout report bytes i =
    if names then named_values_at layout report bytes i else values_at layout report bytes i

-- a line for each value of a report, with --names that of its usage
abbrev pub values_shown : Bool → Contents → ℕ → List ℕ → List ℕ
values_shown names layout report bytes =
    if names then named_values layout report bytes else values_text layout report bytes

-- a line for a report, and one for each of its values
abbrev pub values_output : Options → List ℕ → ℕ → Contents → Result ℕ ReportFault → List ℕ → List ℕ
values_output options time device layout (Ok report) bytes =
    time ++ 32 ∷ decimal device ++ codes " report" ++ 10 ∷ values_shown options.names layout report bytes
values_output options time device layout (Err fault) bytes = []

-- the values of a report, if they are asked for
abbrev pub values_asked : Options → List ℕ → ℕ → Contents → Result ℕ ReportFault → List ℕ → List ℕ
values_asked options time device layout named bytes =
    if options.values then values_output options time device layout named bytes else []

-- the text of a report: with --values its values, and then its events
unfoldable pub report_text : Options → List ℕ → ℕ → PlayedDevice → ℕ → List ℕ → List ℕ
report_text options time device member report bytes =
    values_asked options time device member.layout (Ok report) bytes
    ++ event_lines time device options member.layout (member_events member report bytes)

-- a report that is read: its text, and the session after it
abbrev pub outcome_of_report : Session → List ℕ → List ℕ → PlayedDevice → ℕ → Outcome
outcome_of_report session time bytes member report =
    success (report_text session.options time session.current member report bytes)
    (record session {
      devices = set session.devices session.current (Some (read_member member report bytes));
      time = time;
      reports = saturating_sum session.reports 1;
      events = saturating_sum session.events (length (member_events member report bytes));
    })

-- a report that the bytes name, or why they are none
abbrev pub outcome_of_named_report : Session → List ℕ → List ℕ → PlayedDevice → Result ℕ ReportFault → Outcome
outcome_of_named_report session time bytes member (Ok report) =
    outcome_of_report session time bytes member report
outcome_of_named_report session time bytes member (Err fault) =
    outcome_of_refusal session (refusals.Report fault)

-- a report of a device whose descriptor is known
abbrev pub outcome_of_report_of : Session → List ℕ → List ℕ → Option PlayedDevice → Outcome
outcome_of_report_of session time bytes None = outcome_of_refusal session refusals.NoLayout
outcome_of_report_of session time bytes (Some member) =
    outcome_of_named_report session time bytes member (report_named member.layout bytes)

-- a report of the device of these lines
abbrev pub report_outcome : List ℕ → List ℕ → Session → Outcome
report_outcome time bytes session =
    outcome_of_report_of session time bytes (member_of session session.current)

-- ---- dumps

-- no dump is open
abbrev pub without_dump : Session → Session
without_dump session = record session { gathered = no_dump }

-- the device whose descriptor the dump that may be open was to be
abbrev pub dumped_device : Session → Option ℕ
dumped_device session = described_device session.gathered.content session.gathered.device

-- The devices after a dump that may be open, and is dropped. The one whose descriptor it was to be has none. A part of
-- a report may be missing: of any device, since it isn't known of which the line was.
abbrev pub devices_after : Session → List (Option PlayedDevice)
devices_after session = map slot_after_doubt (devices_without session.devices (dumped_device session))

-- a dump that is open is dropped, and its further bytes are passed over
abbrev pub with_dropped_dump : Session → Session
with_dropped_dump session = record session {
  devices = devices_after session;
  events = events_without session (dumped_device session);
  gathered = dropped_dump;
}

-- what is printed where it is dropped for a refusal: what its device lets go of, and the refusal
abbrev pub dropped_dump_text : Session → Refusal → List ℕ
dropped_dump_text session refusal =
    named_text_back session (dumped_device session) ++ session_refusal_line session refusal

-- a line that is refused, and with it the dump in which it stands
abbrev pub outcome_of_dropped_dump : Session → Refusal → Outcome
outcome_of_dropped_dump session refusal =
    after_text (named_text_back session (dumped_device session)) (outcome_of_refusal (with_dropped_dump session) refusal)

-- the device whose descriptor can't be read: that of an R: line, or that of an interface, if it has a number
abbrev pub described_by : Session → Option Address → Option ℕ
described_by session None = Some session.current
described_by session (Some address) = number_of_address session.addresses address

-- the interfaces that came, with one that may be named
abbrev pub with_named_address : List Address → Option Address → List Address
with_named_address known None = known
with_named_address known (Some address) = with_address known address

-- a head of a dump may name a new interface
abbrev pub with_interface : Session → Option Address → Session
with_interface session interface =
    record session { addresses = with_named_address session.addresses interface }

-- the device of an R: line, or that of an interface, has no descriptor any more
abbrev pub without_descriptor : Session → Option Address → Session
without_descriptor session interface =
    without_named (with_interface session interface) (described_by session interface)

-- A descriptor can't be read: the device that it was for lets go of what it holds, and has none. Example: R: 2 05, then
-- E: 1 1 00, is R4, then R7
abbrev pub outcome_of_unread_descriptor : Session → Option Address → Refusal → Outcome
outcome_of_unread_descriptor session interface refusal =
    after_text (named_text_back session (described_by session interface))
    (outcome_of_dropped_dump (without_descriptor session interface) refusal)

-- a dump is open, of which no byte came yet
abbrev pub with_dump : Session → Address → Content → List ℕ → ℕ → Session
with_dump session address content time device =
    record session { addresses = with_address session.addresses address; gathered = empty_dump content device time }

-- a dump that begins: if another one is open, the line is refused, since that one should have been ended
abbrev pub outcome_of_dump_after : Option Content → Session → Session → Outcome
outcome_of_dump_after None session next = success [] next
outcome_of_dump_after (Some content) session next =
    after_text (named_text_back session (dumped_device session)) (outcome_of_refusal (record next {
      devices = devices_after session;
      events = events_without session (dumped_device session);
    }) refusals.Unended)

-- a dump that begins, of a device that may have a number
abbrev pub outcome_of_dump_of : Session → Address → Content → List ℕ → Option ℕ → Outcome
outcome_of_dump_of session address content time None =
    outcome_of_dropped_dump session refusals.TooManyDevices
outcome_of_dump_of session address content time (Some device) =
    outcome_of_dump_after session.gathered.content session (with_dump session address content time device)

-- the outcome of the head of a dump
abbrev pub outcome_of_dump_head : Session → Address → Content → List ℕ → Outcome
outcome_of_dump_head session address content time =
    outcome_of_dump_of session address content time (number_of_address session.addresses address)

-- a dump that is open, with more bytes
abbrev pub with_dump_bytes : Session → List ℕ → Session
with_dump_bytes session bytes = record session {
  gathered = record {
    content = session.gathered.content;
    is_dropped = session.gathered.is_dropped;
    device = session.gathered.device;
    time = session.gathered.time;
    bytes = session.gathered.bytes ++ bytes;
  };
}

-- bytes that no dump has: of one that was dropped, or of none
abbrev pub outcome_of_stray_bytes : Session → Outcome
outcome_of_stray_bytes session =
    if session.gathered.is_dropped then success [] session else outcome_of_dropped_dump session refusals.Syntax

-- bytes of a dump that is open, which has 16,384 at most
abbrev pub outcome_of_dump_bytes : Session → Result (List ℕ) Refusal → Option Content → Outcome
outcome_of_dump_bytes session bytes None = outcome_of_stray_bytes session
outcome_of_dump_bytes session (Err refusal) (Some content) = outcome_of_dropped_dump session refusal
outcome_of_dump_bytes session (Ok bytes) (Some content) =
    if nat_lt 16384 (length session.gathered.bytes + length bytes)
    then outcome_of_dropped_dump session refusals.DumpTooLong else success []
    (with_dump_bytes session bytes)

-- a dump is ended, and the next lines are of its device
abbrev pub after_dump : Session → Session
after_dump session = record session { current = session.gathered.device; gathered = no_dump }

-- the outcome of a chunk of a device: passed over where a part may be missing, else the report that it ends is printed
abbrev pub chunk_in : Session → List ℕ → List ℕ → PlayedDevice → Bool → Bool → Outcome
chunk_in session time chunk member true ends =
    outcome_of_refusal (with_device session (Some (past_chunk member chunk))) refusals.PartMissing
chunk_in session time chunk member false true =
    report_outcome time (bytes_with member chunk) (with_device session (Some (with_collected member [])))
chunk_in session time chunk member false false =
    success [] (with_device session (Some (with_collected member (bytes_with member chunk))))

-- a chunk of a device whose descriptor is known
abbrev pub chunk_of : Session → List ℕ → List ℕ → Option PlayedDevice → Outcome
chunk_of session time chunk None = outcome_of_refusal session refusals.NoLayout
chunk_of session time chunk (Some member) =
    chunk_in session time chunk member member.in_doubt (ends_with member chunk)

-- the outcome of a chunk of a report of the current device
abbrev pub chunk_outcome : List ℕ → List ℕ → Session → Outcome
chunk_outcome time chunk session =
    chunk_of session time chunk (member_of session session.current)

-- the outcome of a dump that is a chunk
abbrev pub stream_outcome : Option (List ℕ) → List ℕ → Session → Outcome
stream_outcome None chunk session = outcome_of_refusal session refusals.BadTime
stream_outcome (Some time) chunk session = chunk_outcome time chunk session

-- the outcome of an empty line: that of the dump that is open, if one is
abbrev pub DumpEndGives : Session → Option Content → Outcome → Type 0
DumpEndGives session None o = o ≡ success [] (without_dump session)
DumpEndGives session (Some contents.Descriptor) o =
    DescriptionGives session.gathered.bytes (after_dump session) o
DumpEndGives session (Some contents.Stream) o =
    o ≡ stream_outcome (time_of session.gathered.time) session.gathered.bytes (after_dump session)

-- ---- lines

-- the outcome of a record
abbrev pub RecordGives : Session → LineMeaning → Outcome → Type 0
RecordGives session Nothing o = o ≡ success [] session
RecordGives session Blank o = DumpEndGives session session.gathered.content o
RecordGives session (Begins address content time) o = o ≡ outcome_of_dump_head session address content time
RecordGives session (Bytes bytes) o = o ≡ outcome_of_dump_bytes session bytes session.gathered.content
RecordGives session (Device device) o = o ≡ success [] (record session { current = device })
RecordGives session (Descriptor bytes) o = DescriptionGives bytes session o
RecordGives session (Unread interface refusal) o = o ≡ outcome_of_unread_descriptor session interface refusal
RecordGives session (Report time bytes) o = o ≡ report_outcome time bytes session

-- The outcome of a line that was read: that of what it says. One that can't be read drops the dump in which it stands.
abbrev pub MeaningGives : Session → Result LineMeaning Refusal → Outcome → Type 0
MeaningGives session (Ok said) o = RecordGives session said o
MeaningGives session (Err refusal) o = o ≡ outcome_of_dropped_dump session refusal

-- the line that is being played is counted
abbrev pub with_line_counted : Session → Session
with_line_counted session = record session { lines = saturating_sum session.lines 1 }

-- the outcome of a line by its length: one of over 16,384 bytes ends the run
abbrev pub GivesByLength : Bool → Session → List ℕ → Outcome → Type 0
GivesByLength true session line o = o ≡ failure LineTooLong
GivesByLength false session line o = MeaningGives (with_line_counted session) (record_of line) o

-- The outcome of a line of these bytes: its text and the session that it leaves. Example: E: 1 1 00 as the first line
-- is R7
unfoldable pub LineGives : Session → List ℕ → Outcome → Type 0
LineGives session line o = GivesByLength (nat_lt 65536 (length line)) session line o

-- what a line prints that running out of memory or the writer ends: nothing, or all its text, of which a prefix is written
unfoldable pub LineBegins : Session → List ℕ → List ℕ → Type 0
LineBegins session line text = (text ≡ []) ⊎ ((next : Session) × LineGives session line (success text next))
