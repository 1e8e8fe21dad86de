-- A flush that fails ends a run at the line where it stood, whatever ended it there.
use Rattle.std.proofs.Common.{◌≡◌, ℕ, ◌+◌, ◌-◌, Bool, true, false, cond, List, [], ◌∷◌, length, refl, sym, ap, ◌∙◌, subst, inl, inr, arith, append-nil, Option, None, Some, Result, Ok, Err, nat_lt}
use Rattle.std.specs.Prelude.{slice_get}
use Rattle.std.specs.Str.Lines.{lines}
use Rattle.std.proofs.KnownBytes.{Appends-nil}
use Rattle.std.specs.Io.KnownBytes.{Appends, Consumes, Keeps}
use Rattle.hid_snapshots.specs.declared.fault.ReportFault.{ReportFault}
use Rattle.hid_usages.specs.Reading.{report_named}
use Rattle.hid_text.specs.Output.{IsPrefix}
use Rattle.hid_recording.specs.declared.fault.Cause.{Cause}
use Rattle.hid_recording.specs.declared.fault.Cause.TheVariants as causes
use Rattle.hid_recording.specs.declared.fault.Refusal.{Refusal as Why}
use Rattle.hid_recording.specs.declared.counted.Counted.TheVariants.{Lines}
use Rattle.hid_recording.specs.declared.options.Options.{Options}
use Rattle.hid_recording.specs.declared.fault.RecordingFault.{RecordingFault}
use Rattle.hid_recording.specs.declared.summary.Summary.{Summary}
use Rattle.hid_recording.specs.Session.{Session, PlayedDevice, Outcome, success, failure, at_first}
use Rattle.hid_recording.specs.Records.{LineMeaning, Nothing, Blank, Device, Descriptor, Unread, Report, Begins, Bytes, record_of}
use Rattle.hid_recording.specs.Words.{time_of}
use Rattle.hid_recording.specs.Dumps.{number_of_address}
use Rattle.hid_recording.specs.Joining.{bytes_with, ends_with, with_collected}
use Rattle.hid_recording.specs.declared.dump.Address.{Address}
use Rattle.hid_recording.specs.declared.dump.Content.{Content}
use Rattle.hid_recording.specs.declared.fault.Refusal.TheVariants as refusals
use Rattle.hid_recording.specs.declared.dump.Content.TheVariants as contents
use Rattle.hid_recording.specs.LineOutput.{outcome_after_refusal, outcome_of_refusal, outcome_of_named_report, outcome_of_report_of, member_in_slot, outcome_of_dump_after, outcome_of_dump_of, outcome_of_dump_bytes, after_dump, with_device, chunk_in, chunk_of, stream_outcome, DumpEndGives, RecordGives, MeaningGives, GivesByLength, with_line_counted, LineGives, LineBegins, DescriptorGives, DescriptionGives, after_text_by, outcome_of_dropped_dump, with_dropped_dump, named_text_back, dumped_device, outcome_of_unread_descriptor, without_descriptor, described_by, text_back, without_named, devices_after, events_without}
use Rattle.hid_recording.specs.Runs.{Ending, RefusedLine, OutOfMemory, PartlyWritten, NotRun, Never, ending_of, EndsAs, FirstGives, FirstBegins, PlayedTo, RunsTo, Stops, line_of, summary_until, AppendsRecording}
use Rattle.hid_recording.specs.Player.{summary_of}
use Rattle.hid_recording.specs.Place.{Place, Advances, RunsFrom, lines_at, AppendsFrom}
use Rattle.hid_recording.proofs.PlaceLemmas.{first_begins, broken_run}

-- ---- a line that ends the run prints nothing

-- how a line ended the run: with this text
abbrev ended_with : List ℕ → Cause → Outcome
ended_with text cause = record { text = text; end = Err cause }

not_accepted : (text other : List ℕ) (cause : Cause) (session : Session)
    → ended_with text cause ≡ success other session → text ≡ []
not_accepted text other cause session e =
    let ends : (let r : Result Session Cause = Err cause in r) ≡ Ok session = ap (λ (o : Outcome). o.end) e in absurd (cc)

no_text : (text : List ℕ) (cause why : Cause) → ended_with text cause ≡ failure why → text ≡ []
no_text text cause why e = ap (λ (o : Outcome). o.text) e

refusal_text : (strict : Bool) (session : Session) (why : Why) (text : List ℕ) (cause : Cause)
    → ended_with text cause ≡ cond strict (failure (causes.Refused why)) (outcome_after_refusal session why)
    → text ≡ []
refusal_text true session why text cause e = no_text text cause (causes.Refused why) e
refusal_text false session why text cause e = not_accepted text _ cause _ e

no_refusal_text : (session : Session) (why : Why) (text : List ℕ) (cause : Cause)
    → ended_with text cause ≡ outcome_of_refusal session why → text ≡ []
no_refusal_text session why text cause e = refusal_text session.options.strict session why text cause e

-- an outcome after a text ends the run as it does alone
behind_text : (before rest text : List ℕ) (end : Result Session Cause) (cause : Cause) → ended_with text cause ≡ after_text_by before rest end
    → (text ≡ rest) × (ended_with rest cause ≡ (let o : Outcome = record { text = rest; end = end } in o))
behind_text before rest text (Ok next) cause e =
    let ends : (let r : Result Session Cause = Err cause in r) ≡ Ok next = ap (λ (o : Outcome). o.end) e in absurd (cc)
behind_text before rest text (Err why) cause e =
    (ap (λ (o : Outcome). o.text) e, ap (λ (o : Outcome). (let p : Outcome = record { text = rest; end = o.end } in p)) e)

no_dropped_text : (session : Session) (why : Why) (text : List ℕ) (cause : Cause)
    → ended_with text cause ≡ outcome_of_dropped_dump session why → text ≡ []
no_dropped_text session why text cause e =
    let o = outcome_of_refusal (with_dropped_dump session) why in
    let b = behind_text (named_text_back session (dumped_device session)) o.text text o.end cause e in
    b.0 ∙ no_refusal_text (with_dropped_dump session) why o.text cause b.1

no_unread_text : (session : Session) (interface : Option Address) (why : Why) (text : List ℕ) (cause : Cause)
    → ended_with text cause ≡ outcome_of_unread_descriptor session interface why → text ≡ []
no_unread_text session interface why text cause e =
    let now = without_descriptor session interface in
    let o = outcome_of_dropped_dump now why in
    let b = behind_text (named_text_back session (described_by session interface)) o.text text o.end cause e in
    b.0 ∙ no_dropped_text now why o.text cause b.1

no_described_text : (session : Session) (bytes text : List ℕ) (cause : Cause)
    → DescriptorGives bytes session (ended_with text cause) → text ≡ []
no_described_text session bytes text cause (inl h) = not_accepted text _ cause _ h.2
no_described_text session bytes text cause (inr h) = no_refusal_text _ _ text cause h.2.2

no_description_text : (session : Session) (bytes text : List ℕ) (cause : Cause)
    → DescriptionGives bytes session (ended_with text cause) → text ≡ []
no_description_text session bytes text cause (o, h, e) =
    let b = behind_text (text_back session session.current) o.text text o.end cause e in
    b.0 ∙ no_described_text (without_named session (Some session.current)) bytes o.text cause
    (subst (λ (p : Outcome). DescriptorGives bytes (without_named session (Some session.current)) p) (sym b.1) h)

no_report_text : (session : Session) (time bytes text : List ℕ) (cause : Cause) (member : PlayedDevice)
    (r : Result ℕ ReportFault) → ended_with text cause ≡ outcome_of_named_report session time bytes member r
    → text ≡ []
no_report_text session time bytes text cause member (Ok report) e = not_accepted text _ cause _ e
no_report_text session time bytes text cause member (Err fault) e = no_refusal_text session _ text cause e

no_slot_text : (session : Session) (time bytes text : List ℕ) (cause : Cause) (slot : Option PlayedDevice)
    → ended_with text cause ≡ outcome_of_report_of session time bytes slot → text ≡ []
no_slot_text session time bytes text cause None e = no_refusal_text session _ text cause e
no_slot_text session time bytes text cause (Some member) e = no_report_text session time bytes text cause member (report_named member.layout bytes) e

no_begun_text : (content : Option Content) (session next : Session) (text : List ℕ) (cause : Cause)
    → ended_with text cause ≡ outcome_of_dump_after content session next → text ≡ []
no_begun_text None session next text cause e = not_accepted text _ cause _ e
no_begun_text (Some content) session next text cause e =
    let now : Session = record next { devices = devices_after session; events = events_without session (dumped_device session) } in
    let o = outcome_of_refusal now refusals.Unended in
    let b = behind_text (named_text_back session (dumped_device session)) o.text text o.end cause e in
    b.0 ∙ no_refusal_text now refusals.Unended o.text cause b.1

no_begin_text : (session : Session) (address : Address) (content : Content) (time : List ℕ) (device : Option ℕ)
    (text : List ℕ) (cause : Cause) → ended_with text cause ≡ outcome_of_dump_of session address content time device
    → text ≡ []
no_begin_text session address content time None text cause e = no_dropped_text session refusals.TooManyDevices text cause e
no_begin_text session address content time (Some device) text cause e = no_begun_text session.gathered.content session _ text cause e

room_text : (long : Bool) (session next : Session) (why : Why) (text : List ℕ) (cause : Cause)
    → ended_with text cause ≡ cond long (outcome_of_dropped_dump session why) (success [] next) → text ≡ []
room_text true session next why text cause e = no_dropped_text session why text cause e
room_text false session next why text cause e = not_accepted text _ cause _ e

passed_text : (passed : Bool) (session : Session) (why : Why) (text : List ℕ) (cause : Cause)
    → ended_with text cause ≡ cond passed (success [] session) (outcome_of_dropped_dump session why) → text ≡ []
passed_text true session why text cause e = not_accepted text _ cause _ e
passed_text false session why text cause e = no_dropped_text session why text cause e

no_gathered_text : (session : Session) (bytes : Result (List ℕ) Why) (content : Option Content) (text : List ℕ)
    (cause : Cause) → ended_with text cause ≡ outcome_of_dump_bytes session bytes content → text ≡ []
no_gathered_text session bytes None text cause e = passed_text session.gathered.is_dropped session refusals.Syntax text cause e
no_gathered_text session (Err why) (Some content) text cause e = no_dropped_text session why text cause e
no_gathered_text session (Ok bytes) (Some content) text cause e =
    room_text (nat_lt 16384 (length session.gathered.bytes + length bytes)) session _ refusals.DumpTooLong text cause e

no_chunk_text : (session : Session) (time chunk text : List ℕ) (cause : Cause) (member : PlayedDevice)
    (doubt ends : Bool) → ended_with text cause ≡ chunk_in session time chunk member doubt ends → text ≡ []
no_chunk_text session time chunk text cause member true ends e = no_refusal_text _ _ text cause e
no_chunk_text session time chunk text cause member false true e =
    let now =
    with_device session (Some (with_collected member [])) in
    no_slot_text now time (bytes_with member chunk) text cause
    (member_in_slot (slice_get now.devices now.current)) e
no_chunk_text session time chunk text cause member false false e = not_accepted text _ cause _ e

no_chunk_slot_text : (session : Session) (time chunk text : List ℕ) (cause : Cause) (slot : Option PlayedDevice)
    → ended_with text cause ≡ chunk_of session time chunk slot → text ≡ []
no_chunk_slot_text session time chunk text cause None e = no_refusal_text session _ text cause e
no_chunk_slot_text session time chunk text cause (Some member) e = no_chunk_text session time chunk text cause member member.in_doubt (ends_with member chunk) e

no_told_text : (session : Session) (time : Option (List ℕ)) (bytes text : List ℕ) (cause : Cause)
    → ended_with text cause ≡ stream_outcome time bytes session → text ≡ []
no_told_text session None bytes text cause e = no_refusal_text session _ text cause e
no_told_text session (Some time) bytes text cause e =
    no_chunk_slot_text session time bytes text cause (member_in_slot (slice_get session.devices session.current)) e

no_end_text : (session : Session) (content : Option Content) (text : List ℕ) (cause : Cause)
    → DumpEndGives session content (ended_with text cause) → text ≡ []
no_end_text session None text cause e = not_accepted text _ cause _ e
no_end_text session (Some contents.Descriptor) text cause h =
    no_description_text (after_dump session) session.gathered.bytes text cause h
no_end_text session (Some contents.Stream) text cause e =
    no_told_text (after_dump session) (time_of session.gathered.time) session.gathered.bytes text cause e

no_said_text : (session : Session) (said : LineMeaning) (text : List ℕ) (cause : Cause)
    → RecordGives session said (ended_with text cause) → text ≡ []
no_said_text session Nothing text cause e = not_accepted text _ cause _ e
no_said_text session Blank text cause h = no_end_text session session.gathered.content text cause h
no_said_text session (Begins address content time) text cause e =
    no_begin_text session address content time (number_of_address session.addresses address) text cause e
no_said_text session (Bytes bytes) text cause e = no_gathered_text session bytes session.gathered.content text cause e
no_said_text session (Device device) text cause e = not_accepted text _ cause _ e
no_said_text session (Descriptor bytes) text cause h = no_description_text session bytes text cause h
no_said_text session (Unread interface why) text cause e = no_unread_text session interface why text cause e
no_said_text session (Report time bytes) text cause e =
    no_slot_text session time bytes text cause (member_in_slot (slice_get session.devices session.current)) e

no_meant_text : (session : Session) (meant : Result LineMeaning Why) (text : List ℕ) (cause : Cause)
    → MeaningGives session meant (ended_with text cause) → text ≡ []
no_meant_text session (Ok said) text cause h = no_said_text session said text cause h
no_meant_text session (Err why) text cause e = no_dropped_text session why text cause e

unless_text : (long : Bool) (session : Session) (line text : List ℕ) (cause : Cause)
    → GivesByLength long session line (ended_with text cause) → text ≡ []
unless_text true session line text cause e = no_text text cause _ e
unless_text false session line text cause h = no_meant_text (with_line_counted session) (record_of line) text cause h

line_begins : (session : Session) (bytes text : List ℕ) (cause : Cause)
    → LineGives session bytes (ended_with text cause) → LineBegins session bytes text
unfolding LineGives LineBegins
line_begins session bytes text cause h = inl (unless_text (nat_lt 65536 (length bytes)) session bytes text cause h)

-- ---- a run that stopped may as well have been cut off there

cut_there : (ending : Ending) (session : Session) (recording : List (List ℕ)) (part : List ℕ) (cause : Cause)
    → EndsAs ending (FirstGives session recording) (FirstBegins session recording) part cause
    → (text : List ℕ) × FirstBegins session recording text × IsPrefix part text
cut_there RefusedLine session [] part cause h = absurd h
cut_there RefusedLine session (bytes ∷ more) part cause h =
    (part, line_begins session bytes part cause h, ([], sym (append-nil part)))
cut_there OutOfMemory session recording part cause h = (h.0, h.1, h.2)
cut_there PartlyWritten session recording part cause h = h
cut_there NotRun session recording part cause h = ([], first_begins session recording, rw h ([], refl))
cut_there Never session recording part cause h = absurd h

cut_stops : (session : Session) (recording : List (List ℕ)) (before : ℕ) (written : List ℕ) (first fault : RecordingFault) → fault.line ≡ first.line → fault.cause ≡ causes.Write → fault.played ≡ first.played
    → Stops session recording before written first → Stops session recording before written fault
unfolding ending_of
cut_stops session recording before written first fault at is same h = record {
  first = h.first;
  others = h.others;
  split = h.split;
  line = at ∙ h.line;
  text = h.text;
  now = h.now;
  all = h.all;
  played = same ∙ h.played ∙ ap (λ (n : ℕ). summary_of h.now (n - 1)) (sym at);
  part = h.part;
  ends = subst (λ c. EndsAs (ending_of c) (FirstGives h.now h.others) (FirstBegins h.now h.others) h.part c) (sym is)
      (cut_there (ending_of first.cause) h.now h.others h.part first.cause h.ends);
  whole = h.whole;
}

-- after the last line nothing is reported that could be lost
cut_at_end : (session : Session) (recording : List (List ℕ)) (written : List ℕ)
    (result : Result Summary RecordingFault) (fault : RecordingFault) → fault.line ≡ line_of result
    → fault.cause ≡ causes.Write → fault.played ≡ summary_until result
    → RunsTo session recording 0 written result → Stops session recording 0 written fault
unfolding ending_of
cut_at_end session recording written (Err first) fault at is same (inl h) = cut_stops session recording 0 written first fault at is same h
cut_at_end session recording written (Err first) fault at is same (inr h) = record {
  first = recording;
  others = [];
  split = sym (append-nil recording);
  line = omega (arith, at, h.line);
  text = written;
  now = h.last;
  all = h.all;
  played = same ∙ h.played ∙ ap (λ (n : ℕ). summary_of h.last (n - 1)) (sym at);
  part = [];
  ends = subst (λ c. EndsAs (ending_of c) (FirstGives h.last []) (FirstBegins h.last []) [] c) (sym is)
      ([], refl, ([], refl));
  whole = sym (append-nil written);
}
cut_at_end session recording written (Ok summary) fault at is same h = record {
  first = recording;
  others = [];
  split = sym (append-nil recording);
  line = omega (arith, at, h.lines);
  text = written;
  now = h.last;
  all = h.all;
  played = same ∙ h.counts ∙ ap (summary_of h.last) (omega (arith, at));
  part = [];
  ends = subst (λ c. EndsAs (ending_of c) (FirstGives h.last []) (FirstBegins h.last []) [] c) (sym is)
      ([], refl, ([], refl));
  whole = sym (append-nil written);
}

-- ---- what was reported is flushed

pub kept_written : (a b c : Option (List ℕ)) (written : List ℕ) → Appends a b written → Keeps b c → Appends a c written
kept_written None b c written h k = tt
kept_written (Some x) None c written h k = absurd h
kept_written (Some x) (Some y) None written h k = absurd k
kept_written (Some x) (Some y) (Some z) written h k = k ∙ h

pub flushed_run : (place : Place) (a c d e : Option (List ℕ)) (result : Result Summary RecordingFault) → AppendsFrom place a c d result → Keeps d e → AppendsFrom place a c e result
flushed_run place None c d e result h k = tt
flushed_run place (Some recording) c d e result h k = (h.0, kept_written c d e h.0 h.1 k, h.2)

-- the last flush failed
pub never_flushed : (options : Options) (a c d e : Option (List ℕ)) (result : Result Summary RecordingFault)
    (fault : RecordingFault) → fault.line ≡ line_of result → fault.cause ≡ causes.Write
    → fault.played ≡ summary_until result
    → AppendsRecording options a c d result → Keeps d e → AppendsRecording options a c e (Err fault)
never_flushed options None c d e result fault at is same h k = tt
never_flushed options (Some recording) c d e result fault at is same h k = (h.0, kept_written c d e h.0 h.1 k, inl (cut_at_end (at_first options Lines) (lines recording) h.0 result fault at is same h.2))

-- one before a read did
cut_here : (place : Place) (more : List ℕ) (fault : RecordingFault) → fault.cause ≡ causes.Write → fault.line ≡ place.lines + 1 → PlayedTo place.session fault → RunsFrom place more [] (Err fault)
unfolding ending_of
cut_here place more fault is at played = inl (record {
  first = [];
  others = lines_at place more;
  split = refl;
  line = omega (arith, at);
  text = [];
  now = place.session;
  all = (refl, refl);
  played = played;
  part = [];
  ends = subst
      (λ c. EndsAs (ending_of c) (FirstGives place.session (lines_at place more))
      (FirstBegins place.session (lines_at place more)) [] c) (sym is)
      ([], first_begins place.session (lines_at place more), ([], refl));
  whole = refl;
})

pub cut_run : (place : Place) (a b c d e : Option (List ℕ)) (read written : List ℕ) (now : Place) (fault : RecordingFault) → Consumes a b read → Appends c d written → Advances place read written now
    → Keeps d e → fault.cause ≡ causes.Write → fault.line ≡ now.lines + 1 → PlayedTo now.session fault → AppendsFrom place a c e (Err fault)
cut_run place a b c d e read written now fault from grew taken kept is at played =
    flushed_run place a c d e (Err fault) (broken_run place a b c d d read written [] now (Err fault) from grew taken (Appends-nil d) (λ more. cut_here now more fault is at played)) kept
