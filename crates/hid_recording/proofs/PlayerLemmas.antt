-- What a player gathers of a line, and what it writes.
use Rattle.std.proofs.Common.{◌≡◌, ℕ, ◌+◌, ◌<◌, ◌≤◌, nat_lt, zero, suc, Bool, true, false, List, [], ◌∷◌, ◌++◌, length, refl, sym, ap, ◌∙◌, subst, inr, append_assoc, arith, ◌-◌, get_or, take, drop, take_all, Option, None, Some, Result, Ok, Err, inl, IfErr, IsErrAnd}
use Rattle.std.specs.Prelude.{slice_get, set, map, is_some, if◌then◌else◌}
use Rattle.std.specs.Io.KnownBytes.{Appends}
use Rattle.std.proofs.KnownBytes.{Appends-nil, Appends-trans}
use Rattle.std.proofs.lemmas.Bool.{lt-ltb, le-ltb}
use Rattle.hid_report_descriptor.specs.declared.fault.Cause as layouts
use Rattle.hid_report_descriptor.specs.declared.fault.Cause.TheVariants as whys
use Rattle.hid_report_descriptor.specs.declared.fault.LayoutFault.{LayoutFault}
use Rattle.hid_report_descriptor.specs.declared.limits.Limits.TheVariants.{Real}
use Rattle.hid_report_descriptor.specs.declared.long_reports.LongReport.{LongReport}
use Rattle.hid_report_descriptor.specs.LongReports.{NamesReport}
use Rattle.hid_report_descriptor.specs.Faults.{is_memory}
use Rattle.hid_report_descriptor.specs.Items.{EncodedItem}
use Rattle.hid_report_descriptor.specs.Real.{Accepts, Explains, Refuses}
use Rattle.hid_layout.specs.Layout.{Contents, layout_of}
use Rattle.hid_snapshots.specs.declared.control_state.ControlState.{ControlState}
use Rattle.hid_snapshots.specs.declared.event.Event.{Event}
use Rattle.hid_usages.specs.Reading.{report_named}
use Rattle.hid_usages.specs.Taking.{read_view, read_events}
use Rattle.hid_text.specs.Output.{IsPrefix, AppendsPrefix}
use Rattle.hid_recording.specs.declared.fault.Cause.{Cause}
use Rattle.hid_recording.specs.declared.fault.Cause.TheVariants as causes
use Rattle.hid_recording.specs.declared.fault.TextFault.{TextFault}
use Rattle.hid_recording.specs.declared.fault.TextFault.TheVariants as faults
use Rattle.hid_recording.specs.declared.options.Options.{Options}
use Rattle.hid_recording.specs.declared.fault.Refusal.{Refusal as Why}
use Rattle.hid_recording.specs.declared.fault.Refusal.TheVariants as refusals
use Rattle.hid_recording.specs.declared.dump.Address.{Address}
use Rattle.hid_recording.specs.declared.dump.Content.{Content}
use Rattle.hid_recording.specs.declared.dump.Content.TheVariants as contents
use Rattle.hid_recording.specs.Session.{Session, PlayedDevice, Outcome, success, failure, saturating_sum, fresh_device}
use Rattle.hid_recording.specs.Records.{LineMeaning, record_of, text_record, report_record}
use Rattle.hid_recording.specs.EventLines.{event_lines}
use Rattle.hid_recording.specs.declared.device.Joined.{Joined}
use Rattle.hid_recording.specs.declared.device.Joined.TheVariants.{Unknown, Doubtful, Begun, Whole}
use Rattle.hid_recording.specs.Joining.{slot_after_doubt, IsRefusedAs, Joins, past_chunk, bytes_with, ends_with, with_collected}
use Rattle.hid_recording.specs.LineOutput.{AfterRelease, outcome_of_device, with_descriptor, described_text, text_back, without_named, session_refusal_line, outcome_of_dump_after, devices_after, events_without, outcome_of_refusal, with_device, DescriptionGives, after_text, outcome_after_refusal, outcome_of_dropped_dump, with_dropped_dump, dropped_dump_text, with_interface, with_dump, outcome_of_dump_of, outcome_of_dump_head, outcome_of_stray_bytes, outcome_of_dump_bytes, stream_outcome, with_refusal, named_text_back, dumped_device, without_descriptor, described_by, outcome_of_unread_descriptor, DescriptorIsRefused, RecordGives, values_asked, report_text, outcome_of_named_report, outcome_of_report_of, member_in_slot, report_outcome, chunk_in, chunk_of, chunk_outcome, after_dump, DumpEndGives, MeaningGives, GivesByLength, LineGives, LineBegins}
use Rattle.hid_recording.specs.Gathering.{Gathers, IsPartOf, StopsIn, Outputs, IsCauseOfLine}
use Rattle.hid_recording.specs.Pieces.{Carries, CutsOff, cause_of}
use Rattle.hid_recording.specs.Playing.{TakesOne, TakesPart, StopsPlaying, SlotStops, PlaysMember, PlaysAt}
use Rattle.std.specs.List.{position}
use Rattle.hid_recording.specs.Dumps.{is_same_address, number_of_address, number_or_next, addresses_with_number, with_address}
use Rattle.hid_recording.specs.Words.{time_of}
use Rattle.hid_recording.specs.Refusals.{refusal_line}
use Rattle.hid_recording.specs.Taking.{read_member, member_events}
use Rattle.hid_recording.specs.Runs.{ending_of, Ends}
use Rattle.hid_recording.specs.Place.{AppendsOutput}
use Rattle.hid_recording.proofs.PieceLemmas.{no_end, carries_more, cut_there, told_part, gathered_told, outputs_so, outputs_is}

-- ---- descriptors

explained : (why : layouts.Cause) (bytes : List ℕ) (at : ℕ) → is_memory why ≡ false → Explains bytes why at → Refuses bytes why at
explained whys.Memory bytes at other h = absurd (cc)
explained why bytes at other h = h

-- a descriptor that is refused for another cause than out of memory
pub descriptor_refused : (a b : Option (List ℕ)) (session : Session) (bytes : List ℕ) (fault : LayoutFault) (r : Result (Unit {0}) Cause) (text : List ℕ)
    (next : Session) → is_memory fault.cause ≡ false → Explains bytes fault.cause fault.at
    → Outputs a b (AfterRelease session (DescriptorIsRefused bytes fault)) r text next
    → Outputs a b (DescriptionGives bytes session) r text next
descriptor_refused a b session bytes fault r text next other told h =
    outputs_so a b (AfterRelease session (DescriptorIsRefused bytes fault)) (DescriptionGives bytes session) r text next
    (λ o k. (k.0, inr (fault, explained fault.cause bytes fault.at other told, k.1), k.2)) h

-- a descriptor that is accepted
pub descriptor_accepted : (a b : Option (List ℕ)) (session : Session) (bytes : List ℕ) (items : List EncodedItem) (member : PlayedDevice)
    (r : Result (Unit {0}) Cause) (text : List ℕ) (next : Session) → Accepts bytes items → member ≡ fresh_device (layout_of items)
    → Outputs a b (AfterRelease session (λ s o. o ≡ outcome_of_device s member)) r text next
    → Outputs a b (DescriptionGives bytes session) r text next
descriptor_accepted a b session bytes items member r text next accepted is h =
    outputs_so a b (AfterRelease session (λ s o. o ≡ outcome_of_device s member)) (DescriptionGives bytes session) r text next
    (λ o k. (
      k.0,
      inl (items, accepted, k.1 ∙ ap (outcome_of_device (without_named session (Some session.current))) is),
      k.2,
    )) h

-- a dump of a descriptor, told in the session that its end leaves
pub dump_described : (a b : Option (List ℕ)) (session : Session) (content : Option Content) (bytes : List ℕ) (now : Session)
    (r : Result (Unit {0}) Cause) (text : List ℕ) (next : Session) → Outputs a b (DescriptionGives bytes now) r text next
    → content ≡ Some contents.Descriptor → bytes ≡ session.gathered.bytes → now ≡ after_dump session
    → Outputs a b (DumpEndGives session content) r text next
dump_described a b session content bytes now r text next h is same after =
    subst (λ c. Outputs a b (DumpEndGives session c) r text next) (sym is)
    (subst (λ (s : Session). Outputs a b (DescriptionGives session.gathered.bytes s) r text next) after
    (subst (λ l. Outputs a b (DescriptionGives l now) r text next) same h))

-- one that is a chunk
pub dump_streamed : (a b : Option (List ℕ)) (session : Session) (content : Option Content) (time bytes : List ℕ) (now : Session)
    (r : Result (Unit {0}) Cause) (text : List ℕ) (next : Session) → Outputs a b (λ o. o ≡ stream_outcome (time_of time) bytes now) r text next
    → content ≡ Some contents.Stream → time ≡ session.gathered.time → bytes ≡ session.gathered.bytes → now ≡ after_dump session
    → Outputs a b (DumpEndGives session content) r text next
dump_streamed a b session content time bytes now r text next h is at same after =
    subst (λ c. Outputs a b (DumpEndGives session c) r text next) (sym is)
    (outputs_is a b (stream_outcome (time_of time) bytes now) (stream_outcome (time_of session.gathered.time) session.gathered.bytes (after_dump session)) r text next
    (ap (λ t. stream_outcome (time_of t) bytes now) at ∙ ap (λ l. stream_outcome (time_of session.gathered.time) l now) same
    ∙ ap (stream_outcome (time_of session.gathered.time) session.gathered.bytes) after) h)

-- ---- refusals

tell_refusal : (strict : Bool) (session : Session) (why : Why) → strict ≡ false
    → (if strict then failure (causes.Refused why) else outcome_after_refusal session why) ≡ outcome_after_refusal session why
tell_refusal true session why e = absurd (cc)
tell_refusal false session why e = refl

end_refusal : (strict : Bool) (session : Session) (why : Why) → strict ≡ true
    → (if strict then failure (causes.Refused why) else outcome_after_refusal session why) ≡ failure (causes.Refused why)
end_refusal true session why e = refl
end_refusal false session why e = absurd (cc)

-- a refusal of a run that isn't strict is told
pub refusal_told : (session : Session) (why : Why) → session.options.strict ≡ false
    → outcome_of_refusal session why ≡ outcome_after_refusal session why
refusal_told session why e = tell_refusal session.options.strict session why e

-- one of a strict run ends it
pub refusal_ends : (session : Session) (why : Why) → session.options.strict ≡ true
    → outcome_of_refusal session why ≡ failure (causes.Refused why)
refusal_ends session why e = end_refusal session.options.strict session why e

-- a dump that was dropped for a refusal
pub dropped_told : (session next : Session) (why : Why) → session.options.strict ≡ false → next ≡ with_refusal (with_dropped_dump session)
    → success (dropped_dump_text session why) next ≡ outcome_of_dropped_dump session why
dropped_told session next why e after =
    ap (λ (s : Session). success (dropped_dump_text session why) s) after
    ∙ sym (ap (after_text (named_text_back session (dumped_device session))) (refusal_told (with_dropped_dump session) why e))

-- a descriptor that can't be read, of a run that isn't strict
pub unread_told : (session next : Session) (interface : Option Address) (why : Why) → session.options.strict ≡ false
    → next ≡ with_refusal (with_dropped_dump (without_descriptor session interface))
    → success (named_text_back session (described_by session interface) ++ dropped_dump_text (without_descriptor session interface) why) next
    ≡ outcome_of_unread_descriptor session interface why
unread_told session next interface why e after =
    ap (after_text (named_text_back session (described_by session interface)))
    (dropped_told (without_descriptor session interface) next why e after)

-- the device that was to have it let go of what it held first
pub unread_whole : (session now next last : Session) (interface : Option Address) (device : Option ℕ) (why : Why) → session.options.strict ≡ false
    → now ≡ with_interface session interface → device ≡ described_by session interface → next ≡ without_named now device
    → last ≡ with_refusal (with_dropped_dump next)
    → success (named_text_back now device ++ dropped_dump_text next why) last ≡ outcome_of_unread_descriptor session interface why
unread_whole session now next last interface device why e named same gone after =
    let known = with_interface session interface in
    ap (λ (l : Session). success (named_text_back now device ++ dropped_dump_text next why) l) after
    ∙ ap (λ (n : Session). success (named_text_back now device ++ dropped_dump_text n why) (with_refusal (with_dropped_dump n))) gone
    ∙ ap (λ (s : Session).
    success (named_text_back s device ++ dropped_dump_text (without_named s device) why) (with_refusal (with_dropped_dump (without_named s device)))) named
    ∙ ap (λ d.
    success (named_text_back known d ++ dropped_dump_text (without_named known d) why) (with_refusal (with_dropped_dump (without_named known d)))) same
    ∙ unread_told session (with_refusal (with_dropped_dump (without_descriptor session interface))) interface why e refl

-- a dump that begins while another one is open, of a run that isn't strict
pub unended_told : (session next last : Session) (content : Option Content) → is_some content ≡ true → session.options.strict ≡ false
    → next.options ≡ session.options → next.counted ≡ session.counted → next.lines ≡ session.lines
    → last ≡ with_refusal (record next { devices = devices_after session; events = events_without session (dumped_device session) })
    → success (named_text_back session (dumped_device session) ++ session_refusal_line session refusals.Unended) last
    ≡ outcome_of_dump_after content session next
unended_told session next last None begun e options counted lines after = absurd (cc)
unended_told session next last (Some content) begun e options counted lines after =
    let here = named_text_back session (dumped_device session) in
    let now : Session = record next { devices = devices_after session; events = events_without session (dumped_device session) } in
    ap (λ (s : Session). success (here ++ session_refusal_line session refusals.Unended) s) after
    ∙ sym (ap (after_text here) (refusal_told now refusals.Unended (ap (λ (o : Options). o.strict) options ∙ e)
    ∙ ap (λ o. success (refusal_line o now.counted now.lines refusals.Unended) (with_refusal now)) options
    ∙ ap (λ c. success (refusal_line session.options c now.lines refusals.Unended) (with_refusal now)) counted
    ∙ ap (λ n. success (refusal_line session.options session.counted n refusals.Unended) (with_refusal now)) lines))

-- the session after a dump that begins while another one is open
abbrev pub begun_after : Session → Address → Content → List ℕ → ℕ → Session
begun_after session address content time device =
    with_refusal (record (with_dump session address content time device) {
      devices = devices_after session;
      events = events_without session (dumped_device session);
    })

-- of an interface that has a number
pub dump_begun_told : (session last : Session) (address : Address) (content : Content) (time : List ℕ) (number named : Option ℕ) (device : ℕ)
    → number ≡ number_of_address session.addresses address → number ≡ Some device → named ≡ dumped_device session
    → is_some session.gathered.content ≡ true → session.options.strict ≡ false → last ≡ begun_after session address content time device
    → success (named_text_back session named ++ session_refusal_line session refusals.Unended) last
    ≡ outcome_of_dump_head session address content time
dump_begun_told session last address content time number named device known is same begun e after =
    ap (λ d. success (named_text_back session d ++ session_refusal_line session refusals.Unended) last) same
    ∙ unended_told session (with_dump session address content time device) last session.gathered.content begun e refl refl refl after
    ∙ sym (ap (outcome_of_dump_of session address content time) (sym known ∙ is))

pub begun_session : (session now next last : Session) (address : Address) (content : Content) (time : List ℕ) (device : ℕ) (named : Option ℕ)
    → now ≡ with_dump session address content time device → named ≡ dumped_device session → next ≡ without_named now named
    → last ≡ with_refusal (record next { devices = map slot_after_doubt next.devices })
    → last ≡ begun_after session address content time device
begun_session session now next last address content time device named begun same gone after =
    let known = with_dump session address content time device in
    after
    ∙ ap (λ (n : Session). with_refusal (record n { devices = map slot_after_doubt n.devices })) gone
    ∙ ap (λ (s : Session). (let n : Session = without_named s named in with_refusal (record n { devices = map slot_after_doubt n.devices }))) begun
    ∙ ap (λ d. (let n : Session = without_named known d in with_refusal (record n { devices = map slot_after_doubt n.devices }))) same

-- of an interface too many
full_by : (room : Bool) (n : ℕ) (more known : List Address) → (if room then Some n else None) ≡ None → (if room then more else known) ≡ known
full_by true n more known e = absurd (cc)
full_by false n more known e = refl

kept_known : (place : Option ℕ) (known : List Address) (address : Address) → number_or_next place (length known) ≡ None
    → addresses_with_number place known address ≡ known
kept_known (Some place) known address e = absurd (cc)
kept_known None known address e = full_by (nat_lt (length known) 16) (length known) (known ++ address ∷ []) known e

pub too_many_told : (session : Session) (address : Address) (content : Content) (time : List ℕ) (known : List Address)
    → number_of_address session.addresses address ≡ None → known ≡ with_address session.addresses address
    → outcome_of_dropped_dump (record session { addresses = known }) refusals.TooManyDevices
    ≡ outcome_of_dump_head session address content time
too_many_told session address content time known none is =
    let same = is ∙ kept_known (position (is_same_address address) session.addresses) session.addresses address none in
    ap (λ k. outcome_of_dropped_dump (record session { addresses = k }) refusals.TooManyDevices) same
    ∙ sym (ap (outcome_of_dump_of session address content time) none)

-- a descriptor that is refused, of a run that isn't strict: the device let go of what it held
set_again : (devices : List (Option PlayedDevice)) (i : ℕ) (member : Option PlayedDevice)
    → set (set devices i member) i member ≡ set devices i member
set_again [] i member = refl
set_again (x ∷ devices) zero member = refl
set_again (x ∷ devices) (suc i) member = ap (λ l. x ∷ l) (set_again devices i member)

pub forgotten_told : (session next : Session) (bytes : List ℕ) (fault : LayoutFault) (long : Option LongReport) → session.options.strict ≡ false
    → NamesReport Real bytes fault long → next ≡ with_refusal (without_named session (Some session.current))
    → AfterRelease session (DescriptorIsRefused bytes fault)
    (success (text_back session session.current ++ session_refusal_line session (refusals.Layout fault long)) next)
forgotten_told session next bytes fault long e names after =
    let now = without_named session (Some session.current) in
    let why = refusals.Layout fault long in
    let same : with_device now None ≡ now = ap (λ d. (let s : Session = record now { devices = d } in s)) (set_again session.devices session.current None) in (
      outcome_after_refusal now why,
      (long, names, sym (refusal_told now why e) ∙ ap (λ (s : Session). outcome_of_refusal s why) (sym same)),
      ap (λ (s : Session). success (text_back session session.current ++ session_refusal_line session why) s) after,
    )

-- of a strict run nothing is told of it
pub forgotten_ends : (session : Session) (bytes : List ℕ) (fault : LayoutFault) (long : Option LongReport) → session.options.strict ≡ true
    → NamesReport Real bytes fault long
    → AfterRelease session (DescriptorIsRefused bytes fault) (failure (causes.Refused (refusals.Layout fault long)))
forgotten_ends session bytes fault long e names =
    let now = without_named session (Some session.current) in (
      failure (causes.Refused (refusals.Layout fault long)),
      (long, names, sym (refusal_ends (with_device now None) (refusals.Layout fault long) e)),
      refl,
    )

-- a descriptor that is accepted: the device let go of what it held
pub replaced_told : (session next : Session) (member : PlayedDevice)
    → next ≡ with_descriptor (without_named session (Some session.current)) member
    → AfterRelease session (λ s o. o ≡ outcome_of_device s member)
    (success (text_back session session.current ++ described_text session.options session.current member.layout) next)
replaced_told session next member after = (
  outcome_of_device (without_named session (Some session.current)) member,
  refl,
  ap (λ (s : Session). success (text_back session session.current ++ described_text session.options session.current member.layout) s) after,
)

-- a line that is a record
pub said_meant : (a b : Option (List ℕ)) (session : Session) (meant : Result LineMeaning Why) (said : LineMeaning)
    (r : Result (Unit {0}) Cause) (text : List ℕ) (next : Session) → meant ≡ Ok said
    → Outputs a b (RecordGives session said) r text next → Outputs a b (MeaningGives session meant) r text next
said_meant a b session meant said r text next e h = subst (λ m. Outputs a b (MeaningGives session m) r text next) (sym e) h

-- one that can't be read
pub refused_meant : (a b : Option (List ℕ)) (session : Session) (meant : Result LineMeaning Why) (why : Why)
    (r : Result (Unit {0}) Cause) (text : List ℕ) (next : Session) → meant ≡ Err why
    → Outputs a b (λ o. o ≡ outcome_of_dropped_dump session why) r text next → Outputs a b (MeaningGives session meant) r text next
refused_meant a b session meant why r text next e h = subst (λ m. Outputs a b (MeaningGives session m) r text next) (sym e) h

-- bytes that no dump has
stray_by : (passed : Bool) (x y : Outcome) → passed ≡ false → y ≡ (if passed then x else y)
stray_by true x y e = absurd (cc)
stray_by false x y e = refl

pub stray_told : (session : Session) → session.gathered.is_dropped ≡ false
    → outcome_of_dropped_dump session refusals.Syntax ≡ outcome_of_stray_bytes session
stray_told session e = stray_by session.gathered.is_dropped (success [] session) (outcome_of_dropped_dump session refusals.Syntax) e

pub stray_given : (session : Session) (bytes : Result (List ℕ) Why) (content : Option Content) → content ≡ None
    → outcome_of_stray_bytes session ≡ outcome_of_dump_bytes session bytes content
stray_given session bytes content none = sym (ap (outcome_of_dump_bytes session bytes) none)

-- bytes of a dump that can't be read, or are too many
pub unread_given : (session : Session) (bytes : Result (List ℕ) Why) (why : Why) (content : Option Content) → bytes ≡ Err why
    → is_some content ≡ true → outcome_of_dropped_dump session why ≡ outcome_of_dump_bytes session bytes content
unread_given session bytes why None is begun = absurd (cc)
unread_given session bytes why (Some content) is begun = sym (ap (λ b. outcome_of_dump_bytes session b (Some content)) is)

long_by : (long : Bool) (x y : Outcome) → long ≡ true → x ≡ (if long then x else y)
long_by true x y e = refl
long_by false x y e = absurd (cc)

pub long_given : (session : Session) (given : List ℕ) (bytes : Result (List ℕ) Why) (content : Option Content) → bytes ≡ Ok given
    → is_some content ≡ true → 16384 < length session.gathered.bytes + length given
    → outcome_of_dropped_dump session refusals.DumpTooLong ≡ outcome_of_dump_bytes session bytes content
long_given session given bytes None is begun long = absurd (cc)
long_given session given bytes (Some content) is begun long =
    long_by (nat_lt 16384 (length session.gathered.bytes + length given)) (outcome_of_dropped_dump session refusals.DumpTooLong) _
    (lt-ltb 16384 (length session.gathered.bytes + length given) long)
    ∙ sym (ap (λ b. outcome_of_dump_bytes session b (Some content)) is)

-- a line that begins with `E:` is a report
report_line : (line rest : List ℕ) → 2 ≤ length line → get_or line 0 0 ≡ 69 → get_or line 1 0 ≡ 58 → rest ≡ take (length line - 2) (drop 2 line)
    → record_of line ≡ report_record rest
unfolding record_of text_record
report_line [] rest long letter colon is = absurd (omega arith)
report_line (a ∷ []) rest long letter colon is = absurd (omega arith)
report_line (a ∷ b ∷ line) rest long letter colon is =
    let all : rest ≡ line = is ∙ take_all (length (a ∷ b ∷ line) - 2) line (omega arith) in
    ap (λ c. record_of (c ∷ b ∷ line)) letter ∙ ap (λ c. record_of (69 ∷ c ∷ line)) colon ∙ ap report_record (sym all)

pub report_meant : (a b : Option (List ℕ)) (session : Session) (line rest : List ℕ) (r : Result (Unit {0}) Cause) (text : List ℕ) (next : Session) → 2 ≤ length line
    → get_or line 0 0 ≡ 69 → get_or line 1 0 ≡ 58 → rest ≡ take (length line - 2) (drop 2 line)
    → Outputs a b (MeaningGives session (report_record rest)) r text next → Outputs a b (MeaningGives session (record_of line)) r text next
report_meant a b session line rest r text next long letter colon is h =
    subst (λ m. Outputs a b (MeaningGives session m) r text next) (sym (report_line line rest long letter colon is)) h

-- ---- reports

-- a device by its fields
is_member : (after : PlayedDevice) (layout : Contents) (states : List ControlState) (collected : List ℕ)
    (doubt : Bool)
    → after.layout ≡ layout → after.states ≡ states → after.collected ≡ collected → after.in_doubt ≡ doubt
    → after ≡ record { layout = layout; states = states; collected = collected; in_doubt = doubt }
is_member after layout states collected doubt l c k d =
    ap (λ x. (let m : PlayedDevice =
    record { layout = x; states = after.states; collected = after.collected; in_doubt = after.in_doubt } in m)) l
    ∙ ap (λ x.
    (let m : PlayedDevice =
    record { layout = layout; states = x; collected = after.collected; in_doubt = after.in_doubt } in m)) c
    ∙ ap (λ x.
    (let m : PlayedDevice =
    record { layout = layout; states = states; collected = x; in_doubt = after.in_doubt } in m)) k
    ∙ ap (λ x.
    (let m : PlayedDevice = record { layout = layout; states = states; collected = collected; in_doubt = x } in m)) d

-- a device after a report, by its fields
pub report_read : (after member : PlayedDevice) (bytes : List ℕ) (report : ℕ) → after.layout ≡ member.layout
    → after.states ≡ read_view member.layout report bytes member.states → after.collected ≡ member.collected
    → after.in_doubt ≡ member.in_doubt → after ≡ read_member member report bytes
report_read after member bytes report same read kept doubt =
    is_member after member.layout (read_view member.layout report bytes member.states) member.collected member.in_doubt same read kept doubt

-- the values and the events of a report that was read are its text
pub report_shown : (options : Options) (time : List ℕ) (device : ℕ) (bytes : List ℕ) (member : PlayedDevice) (layout : Contents) (none told : List Event)
    (report : ℕ) → report_named member.layout bytes ≡ Ok report → layout ≡ member.layout → none ≡ []
    → told ≡ none ++ read_events member.layout report bytes member.states
    → values_asked options time device layout (report_named layout bytes) bytes ++ event_lines time device options layout told
    ≡ report_text options time device member report bytes
unfolding report_text
report_shown options time device bytes member layout none told report named same nothing gives =
    ap (λ l. values_asked options time device l (report_named l bytes) bytes ++ event_lines time device options l told) same
    ∙ ap (λ n. values_asked options time device member.layout n bytes ++ event_lines time device options member.layout told) named
    ∙ ap (λ l. values_asked options time device member.layout (Ok report) bytes ++ event_lines time device options member.layout l)
    (gives ∙ ap (λ l. l ++ read_events member.layout report bytes member.states) nothing)

-- a report that was read, and its text was added
pub report_taken : (options : Options) (time : List ℕ) (device : ℕ) (bytes : List ℕ) (member after : PlayedDevice) (a b c : Option (List ℕ))
    (old asked left values lines : List ℕ) (events report : ℕ) → report_named member.layout bytes ≡ Ok report
    → after ≡ read_member member report bytes → events ≡ length (member_events member report bytes)
    → values ++ lines ≡ report_text options time device member report bytes
    → Carries a b old values asked → Carries b c asked lines left
    → TakesOne options time device bytes member a c old events after left
report_taken options time device bytes member after a b c old asked left values lines events report named read count shown h k = record {
  report = report;
  named = named;
  read = read;
  count = count;
  told = subst (λ l. Carries a c old l left) shown (carries_more a b c old values asked lines left h k);
}

stops_at : (options : Options) (time : List ℕ) (device : ℕ) (bytes : List ℕ) (member after : PlayedDevice) (a b : Option (List ℕ)) (old : List ℕ)
    (fault : TextFault) → TakesPart options time device bytes member a b old fault
    → StopsPlaying options time device bytes member a b old (cause_of fault) after
stops_at options time device bytes member after a b old faults.Memory h = h
stops_at options time device bytes member after a b old faults.Write h = h

-- one whose text was cut off
pub report_cut : (options : Options) (time : List ℕ) (device : ℕ) (bytes : List ℕ) (member after : PlayedDevice) (a b : Option (List ℕ))
    (old all left : List ℕ) (report : ℕ) (fault : TextFault) (r : Result ℕ Cause) → report_named member.layout bytes ≡ Ok report
    → all ≡ report_text options time device member report bytes → CutsOff a b (old ++ all) fault
    → IsErrAnd r (λ e. e ≡ cause_of fault)
    → PlaysMember options time device bytes member a b old r after left
report_cut options time device bytes member after a b old all left report fault (Ok n) named shown k is = absurd is
report_cut options time device bytes member after a b old all left report fault (Err e) named shown k is =
    subst (λ c. StopsPlaying options time device bytes member a b old c after) (sym is)
    (stops_at options time device bytes member after a b old fault (record {
      report = report;
      named = named;
      told = subst (λ l. CutsOff a b (old ++ l) fault) shown k;
    }))

-- what stands at a place, put there, changes nothing
kept_at : (devices : List (Option PlayedDevice)) (i : ℕ)
    → set devices i (member_in_slot (slice_get devices i)) ≡ devices
kept_at [] i = refl
kept_at (x ∷ devices) zero = refl
kept_at (x ∷ devices) (suc i) = ap (λ l. x ∷ l) (kept_at devices i)

-- a report that is refused
unread : (session : Session) (time bytes : List ℕ) (slot : Option PlayedDevice) (why : Why)
    (a b : Option (List ℕ)) (old : List ℕ) (next : Option PlayedDevice)
    → SlotStops session.options time session.current bytes slot a b old (causes.Refused why) next
    → (next ≡ slot) × (outcome_of_refusal session why ≡ outcome_of_report_of session time bytes slot) × (b ≡ a)
unread session time bytes None why a b old next h = (h.0, ap (outcome_of_refusal session) h.1, h.2)
unread session time bytes (Some member) why a b old next h = (
  h.1 ∙ ap (λ m. (let s : Option PlayedDevice = Some m in s)) h.2.0,
  ap (outcome_of_refusal session) h.2.3 ∙ sym (ap (outcome_of_named_report session time bytes member) h.2.2),
  h.2.4,
)

pub report_refused : (session : Session) (time bytes : List ℕ) (current : ℕ)
    (devices : List (Option PlayedDevice)) (why : Why) (a b : Option (List ℕ)) (old left : List ℕ) (r : Result (Unit {0}) Cause)
    (text : List ℕ) (next : Session) → current ≡ session.current
    → PlaysAt session.options time session.current bytes session.devices a b old (Err (causes.Refused why)) devices left
    → Gathers (λ o. o ≡ outcome_of_refusal (record session { current = current; devices = devices }) why) r text next
    → Outputs a b (λ o. o ≡ report_outcome time bytes session) r text next
report_refused session time bytes current devices why a b old left r text next here played h =
    let slot = member_in_slot (slice_get session.devices session.current) in
    let unread = unread session time bytes slot why a b old played.0 played.1 in
    let kept : devices ≡ session.devices = played.2 ∙ ap (λ m. set session.devices session.current m) unread.0 ∙ kept_at session.devices session.current in
    let same : (let s : Session = record session { current = current; devices = devices } in s) ≡ session = rw (here, kept) refl in
    subst (λ w. Outputs a w (λ o. o ≡ report_outcome time bytes session) r text next) (sym unread.2)
    (outputs_so a a (λ o. o ≡ outcome_of_refusal (record session { current = current; devices = devices }) why)
    (λ o. o ≡ report_outcome time bytes session) r text next
    (λ o e. e ∙ ap (λ s. outcome_of_refusal s why) same ∙ unread.1)
    (gathered_told a (λ o. o ≡ outcome_of_refusal (record session { current = current; devices = devices }) why) r text next h))

-- the session after a report
abbrev pub after_report : Session → List ℕ → List ℕ → PlayedDevice → ℕ → Session
after_report session time bytes member report = record session {
  devices = set session.devices session.current (Some (read_member member report bytes));
  time = time;
  reports = saturating_sum session.reports 1;
  events = saturating_sum session.events (length (member_events member report bytes));
}

named_told : (session : Session) (time bytes : List ℕ) (slot : Option PlayedDevice) (member : PlayedDevice) (report : ℕ) → slot ≡ Some member
    → report_named member.layout bytes ≡ Ok report
    → success (report_text session.options time session.current member report bytes) (after_report session time bytes member report)
    ≡ outcome_of_report_of session time bytes slot
named_told session time bytes slot member report there named =
    sym (ap (outcome_of_report_of session time bytes) there ∙ ap (outcome_of_named_report session time bytes member) named)

stops_told : (session : Session) (time bytes : List ℕ) (slot : Option PlayedDevice) (member : PlayedDevice) (a b : Option (List ℕ)) (old : List ℕ)
    (fault : TextFault) → slot ≡ Some member → old ≡ [] → TakesPart session.options time session.current bytes member a b old fault
    → StopsIn a b (λ o. o ≡ outcome_of_report_of session time bytes slot) (cause_of fault)
stops_told session time bytes slot member a b old fault there none h =
    let text = report_text session.options time session.current member h.report bytes in
    told_part a b (λ o. o ≡ outcome_of_report_of session time bytes slot) old text (after_report session time bytes member h.report) fault
    (Err (cause_of fault)) [] session h.told none (named_told session time bytes slot member h.report there h.named) refl

-- one whose text was cut off
slot_stopped : (session : Session) (time bytes : List ℕ) (slot : Option PlayedDevice) (a b : Option (List ℕ)) (old : List ℕ) (fault : TextFault)
    (next : Option PlayedDevice) → old ≡ [] → SlotStops session.options time session.current bytes slot a b old (cause_of fault) next
    → StopsIn a b (λ o. o ≡ outcome_of_report_of session time bytes slot) (cause_of fault)
slot_stopped session time bytes None a b old faults.Memory next none h = absurd h
slot_stopped session time bytes None a b old faults.Write next none h = absurd h
slot_stopped session time bytes (Some member) a b old faults.Memory next none h =
    stops_told session time bytes (Some member) member a b old faults.Memory refl none h.2
slot_stopped session time bytes (Some member) a b old faults.Write next none h =
    stops_told session time bytes (Some member) member a b old faults.Write refl none h.2

-- no other cause ends it
abbrev IsNoCause : Cause → Type 0
IsNoCause causes.LineTooLong = Unit {0}
IsNoCause causes.Read = Unit {0}
IsNoCause causes.TooManyReads = Unit {0}
IsNoCause causes.Unended = Unit {0}
IsNoCause causes.Memory = ⊥
IsNoCause causes.Write = ⊥
IsNoCause (causes.Refused why) = ⊥

never_stops : (session : Session) (time bytes : List ℕ) (slot : Option PlayedDevice) (a b : Option (List ℕ)) (old : List ℕ) (cause : Cause)
    (next : Option PlayedDevice) → IsNoCause cause → SlotStops session.options time session.current bytes slot a b old cause next → ⊥
never_stops session time bytes None a b old causes.LineTooLong next is h = h
never_stops session time bytes None a b old causes.Read next is h = h
never_stops session time bytes None a b old causes.TooManyReads next is h = h
never_stops session time bytes None a b old causes.Unended next is h = h
never_stops session time bytes (Some member) a b old causes.LineTooLong next is h = h.2
never_stops session time bytes (Some member) a b old causes.Read next is h = h.2
never_stops session time bytes (Some member) a b old causes.TooManyReads next is h = h.2
never_stops session time bytes (Some member) a b old causes.Unended next is h = h.2
never_stops session time bytes slot a b old causes.Memory next is h = absurd is
never_stops session time bytes slot a b old causes.Write next is h = absurd is
never_stops session time bytes slot a b old (causes.Refused why) next is h = absurd is

pub report_stopped : (session : Session) (time bytes : List ℕ) (a b : Option (List ℕ)) (old left : List ℕ) (fault : TextFault)
    (devices : List (Option PlayedDevice)) → old ≡ []
    → PlaysAt session.options time session.current bytes session.devices a b old (Err (cause_of fault)) devices left
    → StopsIn a b (λ o. o ≡ report_outcome time bytes session) (cause_of fault)
report_stopped session time bytes a b old left fault devices none played =
    slot_stopped session time bytes (member_in_slot (slice_get session.devices session.current)) a b old fault played.0 none played.1

pub report_other : (session : Session) (time bytes : List ℕ) (a b : Option (List ℕ)) (old left : List ℕ) (cause : Cause)
    (devices : List (Option PlayedDevice)) → ((why : Why) → cause ≡ causes.Refused why → ⊥) → old ≡ []
    → PlaysAt session.options time session.current bytes session.devices a b old (Err cause) devices left
    → StopsIn a b (λ o. o ≡ report_outcome time bytes session) cause
report_other session time bytes a b old left causes.Memory devices other none played = report_stopped session time bytes a b old left faults.Memory devices none played
report_other session time bytes a b old left causes.Write devices other none played = report_stopped session time bytes a b old left faults.Write devices none played
report_other session time bytes a b old left (causes.Refused why) devices other none played = absurd (other why refl)
report_other session time bytes a b old left causes.LineTooLong devices other none played =
    absurd (never_stops session time bytes (member_in_slot (slice_get session.devices session.current)) a b old causes.LineTooLong played.0 tt played.1)
report_other session time bytes a b old left causes.Read devices other none played =
    absurd (never_stops session time bytes (member_in_slot (slice_get session.devices session.current)) a b old causes.Read played.0 tt played.1)
report_other session time bytes a b old left causes.TooManyReads devices other none played =
    absurd (never_stops session time bytes (member_in_slot (slice_get session.devices session.current)) a b old causes.TooManyReads played.0 tt played.1)
report_other session time bytes a b old left causes.Unended devices other none played =
    absurd (never_stops session time bytes (member_in_slot (slice_get session.devices session.current)) a b old causes.Unended played.0 tt played.1)

cause_in : Result (Unit {0}) Cause → Cause
cause_in (Ok u) = causes.Memory
cause_in (Err cause) = cause

-- the cause of a report is that of its line
pub played_cause : (cause why : Cause) → (let r : Result (Unit {0}) Cause = Err cause in r) ≡ Err why → (let r : Result ℕ Cause = Err cause in r) ≡ Err why
unfolding cause_in
played_cause cause why e = ap (λ c. (let r : Result ℕ Cause = Err c in r)) (ap cause_in e)

-- one that was played, and memory ran out for its time
pub report_untimed : (session next : Session) (time bytes : List ℕ) (a b : Option (List ℕ)) (old left : List ℕ) (events : ℕ)
    (devices : List (Option PlayedDevice)) (r : Result (Unit {0}) Cause) (text : List ℕ) → old ≡ []
    → PlaysAt session.options time session.current bytes session.devices a b old (Ok events) devices left
    → IsErrAnd r (λ e. e ≡ causes.Memory)
    → Outputs a b (λ o. o ≡ report_outcome time bytes session) r text next
report_untimed session next time bytes a b old left events devices r text none played is =
    let slot = member_in_slot (slice_get session.devices session.current) in
    let h = played.1 in
    let all = report_text session.options time session.current h.member h.took.report bytes in
    told_part a b (λ o. o ≡ report_outcome time bytes session) old all (after_report session time bytes h.member h.took.report) faults.Memory
    r text next (cut_there a b old all left h.took.told) none
    (named_told session time bytes slot h.member h.took.report h.there h.took.named) is

-- ---- chunks

-- what is told of a chunk is told of the device after it
pub chunk_joined : (a b : Option (List ℕ)) (session : Session) (time chunk : List ℕ) (current : ℕ) (devices : List (Option PlayedDevice))
    (after : Option PlayedDevice) (tells : Session → Outcome) (r : Result (Unit {0}) Cause) (text : List ℕ)
    (next : Session)
    → current ≡ session.current → devices ≡ set session.devices session.current after
    → tells (with_device session after) ≡ chunk_outcome time chunk session
    → Outputs a b (λ o. o ≡ tells (record session { current = current; devices = devices })) r text next
    → Outputs a b (λ o. o ≡ chunk_outcome time chunk session) r text next
chunk_joined a b session time chunk current devices after tells r text next here kept is h =
    let same : (let s : Session = record session { current = current; devices = devices } in s) ≡ with_device session after = rw (here, kept) refl in
    outputs_so a b (λ o. o ≡ tells (record session { current = current; devices = devices }))
    (λ o. o ≡ chunk_outcome time chunk session) r text next (λ o e. e ∙ ap tells same ∙ is) h

-- a device without a descriptor
pub unknown_told : (session : Session) (time chunk : List ℕ) (after : Option PlayedDevice)
    → member_in_slot (slice_get session.devices session.current) ≡ None → after ≡ None
    → outcome_of_refusal (with_device session after) refusals.NoLayout ≡ chunk_outcome time chunk session
unknown_told session time chunk after none still =
    let kept : set session.devices session.current after ≡ session.devices = ap (λ m. set session.devices session.current m) (still ∙ sym none) ∙ kept_at session.devices session.current in
    ap (λ d. outcome_of_refusal (record session { devices = d }) refusals.NoLayout) kept
    ∙ sym (ap (chunk_of session time chunk) none)

-- a device that a chunk finds so
found_told : (session : Session) (time chunk : List ℕ) (member : PlayedDevice) (doubt ends : Bool)
    → member_in_slot (slice_get session.devices session.current) ≡ Some member → member.in_doubt ≡ doubt
    → ends_with member chunk ≡ ends
    → chunk_outcome time chunk session ≡ chunk_in session time chunk member doubt ends
found_told session time chunk member doubt ends slot doubts does =
    ap (chunk_of session time chunk) slot ∙ ap (λ b. chunk_in session time chunk member b (ends_with member chunk)) doubts ∙ ap (chunk_in session time chunk member doubt) does

-- a part of its report may be missing
pub doubtful_told : (session : Session) (time chunk : List ℕ) (member : PlayedDevice) (after : Option PlayedDevice)
    → member_in_slot (slice_get session.devices session.current) ≡ Some member → member.in_doubt ≡ true
    → after ≡ Some (past_chunk member chunk)
    → outcome_of_refusal (with_device session after) refusals.PartMissing ≡ chunk_outcome time chunk session
doubtful_told session time chunk member after slot doubts behind =
    ap (λ m. outcome_of_refusal (with_device session m) refusals.PartMissing) behind
    ∙ sym (found_told session time chunk member true (ends_with member chunk) slot doubts refl)

-- a chunk that is refused
pub refused_told : (session : Session) (time chunk : List ℕ) (joined : Joined) (refusal : Why)
    (after : Option PlayedDevice)
    → Joins (member_in_slot (slice_get session.devices session.current)) chunk joined after
    → IsRefusedAs joined refusal
    → outcome_of_refusal (with_device session after) refusal ≡ chunk_outcome time chunk session
refused_told session time chunk Unknown refusal after joins is =
    subst (λ r. outcome_of_refusal (with_device session after) r ≡ chunk_outcome time chunk session) (sym is)
    (unknown_told session time chunk after joins.0 joins.1)
refused_told session time chunk Doubtful refusal after joins is =
    subst (λ r. outcome_of_refusal (with_device session after) r ≡ chunk_outcome time chunk session) (sym is)
    (doubtful_told session time chunk joins.0 after joins.1 joins.2 joins.3)
refused_told session time chunk Begun refusal after joins is = absurd is
refused_told session time chunk (Whole bytes) refusal after joins is = absurd is

-- its report ends
pub whole_told : (session : Session) (time chunk bytes : List ℕ) (member : PlayedDevice) (after : Option PlayedDevice)
    → member_in_slot (slice_get session.devices session.current) ≡ Some member → member.in_doubt ≡ false
    → ends_with member chunk ≡ true
    → bytes ≡ bytes_with member chunk → after ≡ Some (with_collected member [])
    → report_outcome time bytes (with_device session after) ≡ chunk_outcome time chunk session
whole_told session time chunk bytes member after slot certain ends all behind =
    ap (λ m. report_outcome time bytes (with_device session m)) behind
    ∙ ap (λ b. report_outcome time b (with_device session (Some (with_collected member [])))) all
    ∙ sym (found_told session time chunk member false true slot certain ends)

-- a chunk that ends its report
abbrev pub IsWholeWith : Joined → List ℕ → Type 0
IsWholeWith Unknown given = ⊥
IsWholeWith Doubtful given = ⊥
IsWholeWith Begun given = ⊥
IsWholeWith (Whole bytes) given = given ≡ bytes.items

pub ended_told : (session : Session) (time chunk given : List ℕ) (joined : Joined) (after : Option PlayedDevice)
    → Joins (member_in_slot (slice_get session.devices session.current)) chunk joined after → IsWholeWith joined given
    → report_outcome time given (with_device session after) ≡ chunk_outcome time chunk session
ended_told session time chunk given Unknown after joins is = absurd is
ended_told session time chunk given Doubtful after joins is = absurd is
ended_told session time chunk given Begun after joins is = absurd is
ended_told session time chunk given (Whole bytes) after joins is =
    whole_told session time chunk given joins.0 after joins.1 joins.2 joins.3 (is ∙ joins.4) joins.5

-- ---- lines

short_line : (session : Session) (line : List ℕ) (lines' : ℕ) (o : Outcome) → length line ≤ 65536
    → lines' ≡ saturating_sum session.lines 1 → MeaningGives (record session { lines = lines' }) (record_of line) o
    → LineGives session line o
unfolding LineGives
short_line session line lines' o short count h =
    subst (λ long. GivesByLength long session line o) (sym (le-ltb 65536 (length line) short))
    (subst (λ n. MeaningGives (record session { lines = n }) (record_of line) o) count h)

-- a line that is too long
pub long_line_ends : (old : Option (List ℕ)) (session : Session) (line : List ℕ) → 65536 < length line
    → (x : List ℕ) × Appends old old x
    × Ends (LineGives session line) (LineBegins session line) x causes.LineTooLong
unfolding LineGives ending_of
long_line_ends old session line long = (
  [],
  Appends-nil old,
  subst (λ b. GivesByLength b session line (failure causes.LineTooLong)) (sym (lt-ltb 65536 (length line) long)) refl,
)

-- what begins the text of a line
part_begins : (session : Session) (line : List ℕ) (lines' : ℕ) (part : List ℕ) → length line ≤ 65536 → lines' ≡ saturating_sum session.lines 1
    → IsPartOf (MeaningGives (record session { lines = lines' }) (record_of line)) part
    → (text : List ℕ) × LineBegins session line text × IsPrefix part text
unfolding LineBegins
part_begins session line lines' part short count (inl none) = ([], inl refl, ([], rw none refl))
part_begins session line lines' part short count (inr h) =
    (h.0, inr (h.1, short_line session line lines' (success h.0 h.1) short count h.2), h.3)

stopped_ends : (a b : Option (List ℕ)) (session : Session) (line : List ℕ) (lines' : ℕ) (cause : Cause) → length line ≤ 65536
    → lines' ≡ saturating_sum session.lines 1
    → StopsIn a b (MeaningGives (record session { lines = lines' }) (record_of line)) cause
    → (x : List ℕ) × Appends a b x × Ends (LineGives session line) (LineBegins session line) x cause
unfolding ending_of LineBegins
stopped_ends a b session line lines' causes.Memory short count h =
    let begun = part_begins session line lines' h.0 short count h.2 in
    (h.0, h.1, (begun.0, begun.1, begun.2, h.3))
stopped_ends a b session line lines' (causes.Refused why) short count h = (
  [],
  subst (λ w. Appends a w []) (sym h.0) (Appends-nil a),
  short_line session line lines' (failure (causes.Refused why)) short count h.1,
)
stopped_ends a b session line lines' causes.Write short count h = (
  h.0,
  h.3,
  (h.1, inr (h.2, short_line session line lines' (success h.1 h.2) short count h.4), h.5),
)
stopped_ends a b session line lines' causes.LineTooLong short count h = absurd h
stopped_ends a b session line lines' causes.Read short count h = absurd h
stopped_ends a b session line lines' causes.TooManyReads short count h = absurd h
stopped_ends a b session line lines' causes.Unended short count h = absurd h

-- a line that wasn't played to its end
pub line_ends : (a b : Option (List ℕ)) (session : Session) (line : List ℕ) (lines' : ℕ) (cause : Cause)
    (r : Result (Unit {0}) Cause) (next : Session) → length line ≤ 65536 → lines' ≡ saturating_sum session.lines 1
    → StopsIn a b (MeaningGives (record session { lines = lines' }) (record_of line)) cause → IsErrAnd r (λ e. e ≡ cause)
    → AppendsOutput a b (LineGives session line) (LineBegins session line) r next
line_ends a b session line lines' cause (Ok u) next short count h is = absurd is
line_ends a b session line lines' cause (Err e) next short count h is =
    let ends = stopped_ends a b session line lines' cause short count h in
    (ends.0, ends.1, subst (λ c. Ends (LineGives session line) (LineBegins session line) ends.0 c) (sym is) ends.2)

-- what was gathered of a line, and what was written before
pub line_written : (a b c : Option (List ℕ)) (session : Session) (line : List ℕ) (lines' : ℕ)
    (written gathered text : List ℕ) (next : Session) → length line ≤ 65536
    → lines' ≡ saturating_sum session.lines 1 → Appends a b written
    → MeaningGives (record session { lines = lines' }) (record_of line) (success (written ++ gathered) next) → text ≡ gathered
    → Appends b c text
    → AppendsOutput a c (LineGives session line) (LineBegins session line) (Ok tt) next
line_written a b c session line lines' written gathered text next short count before told same grew = (
  written ++ text,
  Appends-trans a b c written text before grew,
  short_line session line lines' (success (written ++ text) next) short count
      (subst (λ t. MeaningGives (record session { lines = lines' }) (record_of line) (success (written ++ t) next)) (sym same) told),
)

-- the writer took a prefix of that
pub line_unwritten : (a b c : Option (List ℕ)) (session : Session) (line : List ℕ) (lines' : ℕ)
    (written gathered text : List ℕ) (r : Result (Unit {0}) Cause) (next last : Session) → length line ≤ 65536
    → lines' ≡ saturating_sum session.lines 1 → Appends a b written
    → MeaningGives (record session { lines = lines' }) (record_of line) (success (written ++ gathered) next) → text ≡ gathered
    → AppendsPrefix b c text → IsErrAnd r (λ e. e ≡ causes.Write)
    → AppendsOutput a c (LineGives session line) (LineBegins session line) r last
unfolding LineBegins ending_of
line_unwritten a b c session line lines' written gathered text (Ok u) next last short count before told same prefix is = absurd is
line_unwritten a b c session line lines' written gathered text (Err e) next last short count before told same prefix is = (
  written ++ prefix.0,
  Appends-trans a b c written prefix.0 before prefix.2,
  subst (λ x. Ends (LineGives session line) (LineBegins session line) (written ++ prefix.0) x) (sym is) (
    written ++ gathered,
    inr (next, short_line session line lines' (success (written ++ gathered) next) short count told),
    (prefix.1.0, ap (λ t. written ++ t) (sym same ∙ prefix.1.1) ∙ sym (append_assoc written prefix.0 prefix.1.0)),
  ),
)

-- ---- causes

stopped_cause : (a b : Option (List ℕ)) (session : Session) (line : List ℕ) (lines' : ℕ) (cause : Cause) → length line ≤ 65536
    → lines' ≡ saturating_sum session.lines 1
    → StopsIn a b (MeaningGives (record session { lines = lines' }) (record_of line)) cause → IsCauseOfLine session line cause
stopped_cause a b session line lines' (causes.Refused why) short count h = tt
stopped_cause a b session line lines' causes.LineTooLong short count h = tt
stopped_cause a b session line lines' causes.Read short count h = absurd h
stopped_cause a b session line lines' causes.Write short count h =
    (h.1, h.2, short_line session line lines' (success h.1 h.2) short count h.4, h.6)
stopped_cause a b session line lines' causes.Memory short count h = tt
stopped_cause a b session line lines' causes.TooManyReads short count h = absurd h
stopped_cause a b session line lines' causes.Unended short count h = absurd h

-- a line that wasn't played to its end
pub line_cause : (a b : Option (List ℕ)) (session : Session) (line : List ℕ) (lines' : ℕ) (cause : Cause) (r : Result (Unit {0}) Cause)
    → length line ≤ 65536 → lines' ≡ saturating_sum session.lines 1
    → StopsIn a b (MeaningGives (record session { lines = lines' }) (record_of line)) cause
    → IsErrAnd r (λ e. e ≡ cause) → IfErr r (λ e. IsCauseOfLine session line e)
line_cause a b session line lines' cause (Ok u) short count h is = absurd is
line_cause a b session line lines' cause (Err e) short count h is =
    subst (λ c. IsCauseOfLine session line c) (sym is) (stopped_cause a b session line lines' cause short count h)

-- a line whose text the writer refuses
pub written_cause : (session : Session) (line : List ℕ) (lines' : ℕ) (written gathered text : List ℕ) (fault : TextFault) (sent : Result (Unit {0}) TextFault)
    (r : Result (Unit {0}) Cause) (next : Session)
    → length line ≤ 65536 → lines' ≡ saturating_sum session.lines 1
    → MeaningGives (record session { lines = lines' }) (record_of line) (success (written ++ gathered) next) → text ≡ gathered
    → sent ≡ Err fault → (text ≡ [] → sent ≡ Ok tt)
    → IsErrAnd r (λ e. e ≡ causes.Write) → IfErr r (λ e. IsCauseOfLine session line e)
written_cause session line lines' written gathered text fault sent (Ok u) next short count told same failed nothing is = absurd is
written_cause session line lines' written gathered text fault sent (Err e) next short count told same failed nothing is =
    subst (λ c. IsCauseOfLine session line c) (sym is) (
      written ++ gathered,
      next,
      short_line session line lines' (success (written ++ gathered) next) short count told,
      λ empty. cc (nothing (same ∙ no_end written gathered empty), failed),
    )
