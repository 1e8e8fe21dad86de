-- A capture that comes in pieces, and what a run of it wrote.
use Rattle.std.proofs.Common.{◌≡◌, ◌⊎◌, ℕ, ◌-◌, ◌<◌, ◌≤◌, nat_eq, true, false, arith, length-drop, List, [], ◌∷◌, ◌++◌, length, take, drop, refl, sym, ap, ◌∙◌, subst, inl, inr, append-nil, append_assoc, take-append-drop, Option, None, Some, IfSome, Result, Ok, Err, IsErrAnd}
use Rattle.std.specs.Io.KnownBytes.{Appends, Consumes, Keeps, IsAtEnd}
use Rattle.std.proofs.lemmas.Bool.{eqb-true, eqb-false}
use Rattle.std.proofs.lemmas.List.{length-take, nil_from_length, take_rest}
use Rattle.std.proofs.KnownBytes.{Appends-nil, Appends-trans, Appends-kept, Consumes-trans, Consumes-whole}
use Rattle.usb_capture.specs.Blocks as blocks
use Rattle.usb_capture.specs.Capture.{refusal_of, place_by, end_by, end_in, Takes, CaptureState}
use Rattle.usb_capture.specs.FrameRecord.{FrameRecord}
use Rattle.usb_capture.specs.Place.{Place, step, fault_at}
use Rattle.usb_capture.specs.Reading.{Known}
use Rattle.usb_capture.specs.declared.capture.Part.{Part}
use Rattle.usb_capture.specs.declared.capture.Part.TheVariants as parts
use Rattle.usb_capture.specs.declared.fault.CaptureFault.{CaptureFault}
use Rattle.usb_capture.specs.declared.fault.Cause as formats
use Rattle.usb_capture.specs.declared.fault.Cause.TheVariants as format_causes
use Rattle.usb_capture.specs.declared.format.Format as Format_of
use Rattle.usb_capture.specs.declared.format.Format.TheVariants.{Unknown, Pcap, Section}
use Rattle.usb_capture.proofs.BlockLemmas.{any_cut}
use Rattle.hid_capture.specs.Tracking.{Tracking}
use Rattle.hid_capture.specs.declared.undescribed.UndescribedEndpoint.{UndescribedEndpoint}
use Rattle.hid_recording.specs.declared.capture_fault.CaptureCause.{CaptureCause}
use Rattle.hid_recording.specs.declared.capture_fault.CaptureCause.TheVariants.{Run, Format}
use Rattle.hid_recording.specs.declared.capture_fault.CaptureRunFault.{CaptureRunFault}
use Rattle.hid_recording.specs.declared.fault.Cause.{Cause}
use Rattle.hid_recording.specs.declared.fault.Cause.TheVariants as causes
use Rattle.hid_recording.specs.declared.summary.Summary.{Summary}
use Rattle.hid_recording.specs.Acts.{Act, FirstActEnds, ActsEnd}
use Rattle.hid_recording.specs.FrameActs.{Given, said_of_frame, FramesGive, WritesSaid}
use Rattle.hid_recording.specs.LineOutput.{with_line_counted}
use Rattle.hid_recording.specs.Moments.{time_text, frame_time}
use Rattle.hid_recording.specs.Player.{summary_of}
use Rattle.hid_recording.specs.Session.{Session, saturating_sum}
use Rattle.hid_recording.specs.CaptureRuns.{CapturePlace, PlaysOn, IsOutside, CaptureEnds, end_fault, CaptureStops, CaptureRunsTo, AppendsCaptureFrom, frame_of, capture_summary, cause_of_format, IsBetween, PieceTells, EndsSo}

-- ---- frames, one after the other

frames_more : (given : Option Given) (t t' t'' : Tracking) (s s' s'' : Session) (first more : List FrameRecord) (text rest : List ℕ)
    → FramesGive given t s first text t' s' → FramesGive given t' s' more rest t'' s''
    → FramesGive given t s (first ++ more) (text ++ rest) t'' s''
frames_more given t t' t'' s s' s'' [] more text rest h k =
    subst (λ (x : Tracking). FramesGive given x s more (text ++ rest) t'' s'') h.1
    (subst (λ (x : Session). FramesGive given t' x more (text ++ rest) t'' s'') h.2
    (subst (λ x. FramesGive given t' s' more (x ++ rest) t'' s'') (sym h.0) k))
frames_more given t t' t'' s s' s'' (frame ∷ first) more text rest h k = (
  h.0,
  h.1,
  h.2 ++ rest,
  h.3,
  frames_more given (said_of_frame given t frame).after t' t'' h.1 s' s'' first more h.2 rest h.4 k,
  ap (λ l. l ++ rest) h.5 ∙ append_assoc h.0 h.2 rest,
)

-- ---- pieces

pub plays_nothing : (given : Option Given) (p : CapturePlace) → IsBetween p → PlaysOn given p [] [] p
plays_nothing given p between = record {
  frames = [];
  blocks = record { blocks = []; all = (refl, refl, refl); split = append-nil p.place.begun; partial = between };
  told = (refl, refl, refl);
}

pub plays_more : (given : Option Given) (p q r : CapturePlace) (a b v w : List ℕ) → PlaysOn given p a v q → PlaysOn given q b w r
    → PlaysOn given p (a ++ b) (v ++ w) r
plays_more given p q r a b v w h k = record {
  frames = h.frames ++ k.frames;
  blocks = any_cut p.place q.place r.place a b h.frames k.frames h.blocks k.blocks;
  told = frames_more given p.tracking q.tracking r.tracking p.session q.session r.session h.frames k.frames v w h.told k.told;
}

-- a block without a frame
pub step_silent : (given : Option Given) (p q : CapturePlace) (bytes : List ℕ) (shown : Option FrameRecord)
    → blocks.Advances p.place bytes (blocks.with_frame shown []) q.place → shown ≡ None
    → q.tracking ≡ p.tracking → q.session ≡ p.session → PlaysOn given p bytes [] q
step_silent given p q bytes shown block none known same = record {
  frames = [];
  blocks = subst (λ f. blocks.Advances p.place bytes (blocks.with_frame f []) q.place) none block;
  told = (refl, known, same);
}

-- a block with a frame that was told
pub step_frame : (given : Option Given) (p q : CapturePlace) (bytes written : List ℕ) (shown : Option FrameRecord) (frame : FrameRecord)
    → blocks.Advances p.place bytes (blocks.with_frame shown []) q.place → shown ≡ Some frame
    → WritesSaid (time_text (frame_time frame.time)) (with_line_counted p.session) (said_of_frame given p.tracking frame) written
    (Ok tt) q.tracking q.session
    → PlaysOn given p bytes written q
step_frame given p q bytes written shown frame block some told = record {
  frames = frame ∷ [];
  blocks = subst (λ f. blocks.Advances p.place bytes (blocks.with_frame f []) q.place) some block;
  told = (written, q.session, [], told.0, (refl, told.1, refl), sym (append-nil written));
}

-- ---- ends

-- where a run ended, by what was played
pub end_is : (now : CapturePlace) (played : Summary) (cause why : CaptureCause) (fault : CaptureRunFault)
    → played ≡ summary_of now.session now.session.lines → cause ≡ why
    → fault ≡ record { frame = saturating_sum played.lines 1; cause = cause; played = played } → fault ≡ end_fault now why
end_is now played cause why fault was because is =
    is ∙ ap (λ (c : CaptureCause). (let f : CaptureRunFault = record { frame = saturating_sum played.lines 1; cause = c; played = played } in f)) because
    ∙ ap (λ (s : Summary). (let f : CaptureRunFault = record { frame = saturating_sum s.lines 1; cause = why; played = s } in f)) was

-- a run that ended at a place, before any later byte was played
ended_here : (given : Option Given) (now : CapturePlace) (bytes part : List ℕ) (cause : CaptureCause) (fault : CaptureRunFault)
    → IsBetween now → fault ≡ end_fault now cause → CaptureEnds given now bytes part cause → CaptureStops given now bytes part fault
ended_here given now bytes part cause fault between is ends =
    subst (λ (f : CaptureRunFault). CaptureStops given now bytes part f) (sym is) (record {
      first = [];
      rest = bytes;
      split = refl;
      text = [];
      now = now;
      plays = plays_nothing given now between;
      part = part;
      ends = ends;
      whole = refl;
      place = refl;
    })

-- a cause that comes between two frames
pub outside_stops : (given : Option Given) (now : CapturePlace) (bytes : List ℕ) (cause : Cause) (fault : CaptureRunFault)
    → IsBetween now → fault ≡ end_fault now (Run cause) → IsOutside cause → CaptureStops given now bytes [] fault
outside_stops given now bytes cause fault between is outside =
    ended_here given now bytes [] (Run cause) fault between is (inl (outside, refl))

-- ---- a block that is refused

-- memory isn't another cause
other_cause : (fault : CaptureFault) (place : Place) (bytes : List ℕ) (why : formats.Cause) → fault.cause ≡ why → (why ≡ format_causes.Memory → ⊥)
    → ((fault ≡ fault_at place format_causes.Memory) ⊎ (step place bytes ≡ Err fault)) → step place bytes ≡ Err fault
other_cause fault place bytes why is other (inl h) = absurd (other (sym is ∙ ap (λ (f : CaptureFault). f.cause) h))
other_cause fault place bytes why is other (inr h) = h

unread_by : (given : Option Given) (now : CapturePlace) (bytes more : List ℕ) (fault : CaptureFault) (why : formats.Cause)
    → fault.cause ≡ why → ((fault ≡ fault_at now.place format_causes.Memory) ⊎ (step now.place bytes ≡ Err fault))
    → CaptureEnds given now (bytes ++ more) [] (cause_of_format why fault)
unread_by given now bytes more fault format_causes.Memory is h = inl (tt, refl)
unread_by given now bytes more fault why is h =
    (refl, inl (bytes, more, refl, other_cause fault now.place bytes why is (λ e. cc) h))

-- bytes that can't be read
pub unread_stops : (given : Option Given) (now : CapturePlace) (old new : CaptureState) (bytes : List ℕ) (fault : CaptureFault)
    (end : CaptureRunFault) → old.place ≡ now.place → old.refusal ≡ None → Takes old bytes (Err fault) new → IsBetween now
    → end ≡ end_fault now (cause_of_format fault.cause fault) → (more : List ℕ) → CaptureStops given now (bytes ++ more) [] end
unread_stops given now old new bytes fault end here accepted taken between is more =
    let refused = rw accepted at taken in
    ended_here given now (bytes ++ more) [] (cause_of_format fault.cause fault) end between is
    (unread_by given now bytes more fault fault.cause refl
    (subst (λ (p : Place). (fault ≡ fault_at p format_causes.Memory) ⊎ (step p bytes ≡ Err fault)) here refused.0))

-- ---- a frame that ends the run

pub frame_stops : (given : Option Given) (p : CapturePlace) (after : Place) (bytes written : List ℕ) (n : ℕ) (shown : Option FrameRecord)
    (frame : FrameRecord) (cause : Cause) (t : Tracking) (s : Session) (fault : CaptureRunFault) → IsBetween p
    → blocks.Advances p.place (take n bytes) (blocks.with_frame shown []) after → shown ≡ Some frame
    → WritesSaid (time_text (frame_time frame.time)) (with_line_counted p.session) (said_of_frame given p.tracking frame) written
    (Err cause) t s
    → fault ≡ end_fault p (Run cause) → (more : List ℕ) → CaptureStops given p (bytes ++ more) written fault
frame_stops given p after bytes written n shown frame cause t s fault between block some told is more =
    ended_here given p (bytes ++ more) written (Run cause) fault between is (inr (record {
      piece = take n bytes;
      more = drop n bytes ++ more;
      split = ap (λ l. l ++ more) (sym (take-append-drop n bytes)) ∙ append_assoc (take n bytes) (drop n bytes) more;
      frame = frame;
      after = after;
      block = subst (λ f. blocks.Advances p.place (take n bytes) (blocks.with_frame f []) after) some block;
      ends = told;
    }))

-- ---- piece by piece

-- a run that ended after bytes that were played
pub stops_after : (given : Option Given) (p q : CapturePlace) (before rest text written : List ℕ) (fault : CaptureRunFault)
    → PlaysOn given p before text q → CaptureStops given q rest written fault → CaptureStops given p (before ++ rest) (text ++ written) fault
stops_after given p q before rest text written fault h k = record {
  first = before ++ k.first;
  rest = k.rest;
  split = ap (λ l. before ++ l) k.split ∙ sym (append_assoc before k.first k.rest);
  text = text ++ k.text;
  now = k.now;
  plays = plays_more given p q k.now before k.first text k.text h k.plays;
  part = k.part;
  ends = k.ends;
  whole = ap (λ l. text ++ l) k.whole ∙ sym (append_assoc text k.text k.part);
  place = k.place;
}

-- the first bytes of a piece ended the run
pub piece_stops : (given : Option Given) (p q r : CapturePlace) (bytes before rest text written : List ℕ) (fault : CaptureRunFault)
    (result : Result (Unit {0}) CaptureRunFault) → bytes ≡ before ++ rest → PlaysOn given p before text q
    → ((more : List ℕ) → CaptureStops given q (rest ++ more) written fault) → IsErrAnd result (λ e. e ≡ fault)
    → PieceTells given p bytes (text ++ written) result r
piece_stops given p q r bytes before rest text written fault (Ok u) parts h stops is = absurd is
piece_stops given p q r bytes before rest text written fault (Err e) parts h stops is = λ more.
    subst (λ (f : CaptureRunFault). CaptureStops given p (bytes ++ more) (text ++ written) f) (sym is)
    (subst (λ l. CaptureStops given p l (text ++ written) fault) (sym (ap (λ l. l ++ more) parts ∙ append_assoc before rest more))
    (stops_after given p q before (rest ++ more) text written fault h (stops more)))

-- what is left after bytes that were taken
pub rest_after : (bytes before rest : List ℕ) (n : ℕ) → bytes ≡ before ++ rest → bytes ≡ (before ++ take n rest) ++ drop n rest
rest_after bytes before rest n e =
    e ∙ ap (λ l. before ++ l) (sym (take-append-drop n rest)) ∙ sym (append_assoc before (take n rest) (drop n rest))

-- what is left of a piece is less of it
pub rest_smaller : (rest : List ℕ) (n : ℕ) → false ≡ nat_eq (length rest) 0 → (0 < length rest → 0 < n) → n ≤ length rest
    → length (take (length rest - n) (drop n rest)) < length rest
rest_smaller rest n e more within =
    let none : length rest ≡ 0 → ⊥ = eqb-false (length rest) 0 (sym e) in
    let some : 0 < length rest = omega (arith, none) in
    let taken = more some in simp (length-take, length-drop) (omega (arith, taken, some))

-- what is left of a piece after one more step
pub rest_next : (bytes before rest : List ℕ) (n : ℕ) → bytes ≡ before ++ rest
    → bytes ≡ (before ++ take n rest) ++ take (length rest - n) (drop n rest)
rest_next bytes before rest n e = rest_after bytes before rest n e ∙ ap (λ l. (before ++ take n rest) ++ l) (sym (take_rest rest n))

-- a piece of which nothing is left
pub piece_done : (given : Option Given) (p q : CapturePlace) (bytes before rest text : List ℕ) → bytes ≡ before ++ rest
    → true ≡ nat_eq (length rest) 0 → PlaysOn given p before text q → PlaysOn given p bytes text q
piece_done given p q bytes before rest text parts e h =
    let none = nil_from_length rest (eqb-true (length rest) 0 (sym e)) in
    subst (λ l. PlaysOn given p l text q) (sym (parts ∙ ap (λ l. before ++ l) none ∙ append-nil before)) h

-- bytes that were played, where the descriptor that is given is named otherwise
pub plays_as : (given other : Option Given) (p q : CapturePlace) (bytes text : List ℕ) → other ≡ given → PlaysOn other p bytes text q
    → PlaysOn given p bytes text q
plays_as given other p q bytes text same h = subst (λ x. PlaysOn x p bytes text q) same h

pub stops_as : (given other : Option Given) (q : CapturePlace) (bytes text : List ℕ) (fault : CaptureRunFault) → other ≡ given
    → ((more : List ℕ) → CaptureStops other q (bytes ++ more) text fault) → (more : List ℕ) → CaptureStops given q (bytes ++ more) text fault
stops_as given other q bytes text fault same h more = subst (λ x. CaptureStops x q (bytes ++ more) text fault) same (h more)

-- ---- the end of the bytes

ends_by : (part : Part) (known : Known) (at : ℕ) (block : List ℕ) (why : CaptureFault) → refusal_of part ≡ None
    → end_by part known.format at block ≡ Err why
    → end_in (place_by part known at block).known.format (place_by part known at block).at (place_by part known at block).begun ≡ Err why
ends_by parts.Begun known at block why accepted e = e
ends_by (parts.Whole head) known at block why accepted e = absurd (cc)
ends_by (parts.Refused fault) known at block why accepted e = absurd (cc)

pub end_refused : (part : Part) (known : Known) (at : ℕ) (block : List ℕ) (why : CaptureFault) → refusal_of part ≡ None
    → Err why ≡ end_by part known.format at block
    → end_in (place_by part known at block).known.format (place_by part known at block).at (place_by part known at block).begun ≡ Err why
end_refused part known at block why accepted e = ends_by part known at block why accepted (sym e)

module _ (at : ℕ) where
  begun_by : (format : Format_of.Format) (block : List ℕ) → end_in format at block ≡ Ok tt → block ≡ []
  begun_by format [] e = refl
  begun_by Unknown (b ∷ block) e = absurd (cc)
  begun_by (Pcap order fraction link) (b ∷ block) e = absurd (cc)
  begun_by (Section order) (b ∷ block) e = absurd (cc)

pub end_accepted : (part : Part) (known : Known) (at : ℕ) (block : List ℕ) → refusal_of part ≡ None
    → Ok tt ≡ end_by part known.format at block → (place_by part known at block).begun ≡ []
end_accepted parts.Begun known at block accepted e = begun_by at known.format block (sym e)
end_accepted (parts.Whole head) known at block accepted e = refl
end_accepted (parts.Refused fault) known at block accepted e = absurd (cc)

-- ---- whole runs

-- what holds whatever comes holds of what is known
known_rest : (a b : Option (List ℕ)) (read : List ℕ) (P : List ℕ → Type 0) → Consumes a b read → ((more : List ℕ) → P (read ++ more)) → IfSome a P
known_rest None b read P h f = tt
known_rest (Some xs) None read P h f = absurd h
known_rest (Some xs) (Some ys) read P h f = subst P (sym h) (f ys)

-- all that there was has come
ends_whole : (given : Option Given) (start now : CapturePlace) (read written : List ℕ) (result : Result Summary CaptureRunFault)
    → PlaysOn given start read written now → EndsSo now result → CaptureRunsTo given start read written result now.tracking.undescribed
ends_whole given start now read written (Ok summary) taken h =
    record { last = now; plays = taken; ended = h.0; counts = h.1; undescribed = refl }
ends_whole given start now read written (Err fault) taken h =
    subst (λ l. CaptureStops given start l written fault) (append-nil read)
    (subst (λ l. CaptureStops given start (read ++ []) l fault) (append-nil written)
    (stops_after given start now read [] written [] fault taken
    (ended_here given now [] [] (Format h.0) fault taken.blocks.partial h.2 (refl, inr (refl, h.1)))))

pub whole_capture : (given : Option Given) (start : CapturePlace) (a b c d e : Option (List ℕ)) (read written none : List ℕ) (now : CapturePlace)
    (result : Result Summary CaptureRunFault) → Consumes a b read → Appends c d written → PlaysOn given start read written now
    → Consumes b e none → none ≡ [] → IsAtEnd e → EndsSo now result → AppendsCaptureFrom given start a c d result now.tracking.undescribed
whole_capture given start a b c d e read written none now result from grew taken more nothing end ends =
    Consumes-whole a e (read ++ none) _ (Consumes-trans a b e read none from more) end
    (written, grew, rw nothing (subst (λ l. CaptureRunsTo given start l written result now.tracking.undescribed) (sym (append-nil read)) (ends_whole given start now read written result taken ends)))

-- a cause from outside
pub outside_capture : (given : Option Given) (start : CapturePlace) (a b c d : Option (List ℕ)) (read written : List ℕ) (now : CapturePlace)
    (cause : Cause) (fault : CaptureRunFault) (endpoints : List UndescribedEndpoint) → Consumes a b read → Appends c d written
    → PlaysOn given start read written now → IsOutside cause → fault ≡ end_fault now (Run cause)
    → AppendsCaptureFrom given start a c d (Err fault) endpoints
outside_capture given start a b c d read written now cause fault endpoints from grew taken outside is =
    known_rest a b read _ from (λ more. (
      written,
      grew,
      subst (λ l. CaptureStops given start (read ++ more) l fault) (append-nil written)
          (stops_after given start now read more written [] fault taken
          (outside_stops given now more cause fault taken.blocks.partial is outside)),
    ))

-- the piece that was read ended the run
pub piece_ends : (given : Option Given) (start : CapturePlace) (a b e c d f : Option (List ℕ)) (read written text piece : List ℕ)
    (now : CapturePlace) (fault : CaptureRunFault) (result : Result Summary CaptureRunFault) (endpoints : List UndescribedEndpoint)
    → Consumes a b read → Appends c d written → PlaysOn given start read written now → Consumes b e piece → Appends d f text
    → ((more : List ℕ) → CaptureStops given now (piece ++ more) text fault) → IsErrAnd result (λ x. x ≡ fault)
    → AppendsCaptureFrom given start a c f result endpoints
piece_ends given start a b e c d f read written text piece now fault (Ok u) endpoints from grew taken more last stops is = absurd is
piece_ends given start a b e c d f read written text piece now fault (Err x) endpoints from grew taken more last stops is =
    known_rest a e (read ++ piece) _ (Consumes-trans a b e read piece from more) (λ after. (
      written ++ text,
      Appends-trans c d f written text grew last,
      rw is (subst (λ all. CaptureStops given start all (written ++ text) fault) (sym (append_assoc read piece after))
          (stops_after given start now read (piece ++ after) written text fault taken (stops after))),
    ))

-- ---- the last flush

-- what was left of an act may as well have been cut off by the writer
cut_act : (time : List ℕ) (now : Session) (others : List Act) (part : List ℕ) (cause : Cause) → FirstActEnds time now others part cause
    → FirstActEnds time now others part causes.Write
cut_act time now others part (causes.Refused why) h = inl h.0
cut_act time now others part causes.Memory h = h.0
cut_act time now others part causes.Write h = h
cut_act time now others part causes.LineTooLong h = absurd h
cut_act time now others part causes.Read h = absurd h
cut_act time now others part causes.TooManyReads h = absurd h
cut_act time now others part causes.Unended h = absurd h

cut_acts : (time : List ℕ) (session : Session) (acts : List Act) (written : List ℕ) (cause : Cause) → ActsEnd time session acts written cause
    → ActsEnd time session acts written causes.Write
cut_acts time session acts written cause k = record {
  first = k.first;
  others = k.others;
  split = k.split;
  text = k.text;
  now = k.now;
  told = k.told;
  part = k.part;
  ends = cut_act time k.now k.others k.part cause k.ends;
  whole = k.whole;
}

cut_ends : (given : Option Given) (now : CapturePlace) (rest part : List ℕ) (cause : CaptureCause) → CaptureEnds given now rest part cause
    → CaptureEnds given now rest part (Run causes.Write)
cut_ends given now rest part (Format why) h = inl (tt, h.0)
cut_ends given now rest part (Run cause) (inl h) = inl (tt, h.1)
cut_ends given now rest part (Run cause) (inr h) = inr (record {
  piece = h.piece;
  more = h.more;
  split = h.split;
  frame = h.frame;
  after = h.after;
  block = h.block;
  ends = cut_acts (time_text (frame_time h.frame.time)) (with_line_counted now.session) (said_of_frame given now.tracking h.frame).acts part cause h.ends;
})

-- where the run ended, by its frame and what was played before it
cut_run : (given : Option Given) (start : CapturePlace) (bytes written : List ℕ) (result : Result Summary CaptureRunFault) (fault : CaptureRunFault)
    (endpoints : List UndescribedEndpoint)
    → fault ≡ record { frame = frame_of result; cause = Run causes.Write; played = capture_summary result }
    → CaptureRunsTo given start bytes written result endpoints → CaptureStops given start bytes written fault
cut_run given start bytes written (Err first) fault endpoints is h = subst (λ (f : CaptureRunFault). CaptureStops given start bytes written f) (sym is) (record {
  first = h.first;
  rest = h.rest;
  split = h.split;
  text = h.text;
  now = h.now;
  plays = h.plays;
  part = h.part;
  ends = cut_ends given h.now h.rest h.part first.cause h.ends;
  whole = h.whole;
  place = ap (λ (f : CaptureRunFault). (let g : CaptureRunFault = record { frame = f.frame; cause = Run causes.Write; played = f.played } in g)) h.place;
})
cut_run given start bytes written (Ok summary) fault endpoints is h = subst (λ (f : CaptureRunFault). CaptureStops given start bytes written f) (sym is) (record {
  first = bytes;
  rest = [];
  split = sym (append-nil bytes);
  text = written;
  now = h.last;
  plays = h.plays;
  part = [];
  ends = inl (tt, refl);
  whole = sym (append-nil written);
  place = ap (λ (x : Summary). (let g : CaptureRunFault = record { frame = saturating_sum x.lines 1; cause = Run causes.Write; played = x } in g)) h.counts;
})

pub kept_capture : (given : Option Given) (start : CapturePlace) (a c d e : Option (List ℕ)) (result : Result Summary CaptureRunFault)
    (endpoints : List UndescribedEndpoint) → AppendsCaptureFrom given start a c d result endpoints → Keeps d e
    → AppendsCaptureFrom given start a c e result endpoints
kept_capture given start None c d e result endpoints h k = tt
kept_capture given start (Some bytes) c d e result endpoints h k = (h.0, Appends-kept c d e h.0 h.1 k, h.2)

pub never_flushed : (given : Option Given) (start : CapturePlace) (a c d e : Option (List ℕ)) (result : Result Summary CaptureRunFault)
    (fault : CaptureRunFault) (endpoints others : List UndescribedEndpoint)
    → fault ≡ record { frame = frame_of result; cause = Run causes.Write; played = capture_summary result }
    → AppendsCaptureFrom given start a c d result endpoints → Keeps d e → AppendsCaptureFrom given start a c e (Err fault) others
never_flushed given start None c d e result fault endpoints others is h k = tt
never_flushed given start (Some bytes) c d e result fault endpoints others is h k =
    (h.0, Appends-kept c d e h.0 h.1 k, cut_run given start bytes h.0 result fault endpoints is h.2)

-- memory for the devices ran out before the first read
pub never_begun : (given : Option Given) (start : CapturePlace) (a c : Option (List ℕ)) (fault : CaptureRunFault)
    (endpoints : List UndescribedEndpoint) → IsBetween start → fault ≡ end_fault start (Run causes.Memory)
    → AppendsCaptureFrom given start a c c (Err fault) endpoints
never_begun given start None c fault endpoints between is = tt
never_begun given start (Some bytes) c fault endpoints between is = ([], Appends-nil c, outside_stops given start bytes causes.Memory fault between is tt)
