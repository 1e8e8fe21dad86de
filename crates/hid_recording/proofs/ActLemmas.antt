-- What acts of a capture tell, one after the other.
use Rattle.std.proofs.Common.{◌≡◌, ℕ, zero, suc, ◌+◌, ◌-◌, ◌<◌, List, [], ◌∷◌, ◌++◌, arith, refl, sym, ap, ◌∙◌, subst, inl, inr, append-nil, append_assoc, Option, Some, Result, Ok, Err, IsErrAnd}
use Rattle.std.specs.Io.KnownBytes.{Appends}
use Rattle.std.specs.Prelude.{slice_get}
use Rattle.std.proofs.KnownBytes.{Appends-nil, Appends-trans}
use Rattle.hid_text.specs.Output.{AppendsPrefix}
use Rattle.usb_capture.specs.UrbRecord.{UrbRecord}
use Rattle.usb_capture.specs.declared.urb_fault.UrbFault.{UrbFault}
use Rattle.hid_capture.specs.Tracking.{Tracking, Outcome as Tracked, outcome}
use Rattle.hid_capture.specs.declared.tables.TrackedInterface.{TrackedInterface}
use Rattle.hid_capture.specs.declared.tracker.Content.{Content}
use Rattle.hid_capture.specs.declared.tracker.Content.TheVariants as contents
use Rattle.hid_recording.specs.declared.fault.Cause.{Cause}
use Rattle.hid_recording.specs.declared.fault.Cause.TheVariants as causes
use Rattle.hid_recording.specs.Session.{Session, Outcome, success, failure}
use Rattle.hid_recording.specs.Gathering.{StopsIn}
use Rattle.hid_recording.specs.Acts.{Act, ActGives, ActsGive, FirstActGives, FirstActEnds, ActsEnd, AppendsActs}
use Rattle.hid_recording.specs.FrameActs.{Given, Said, acts_of_content, content_of_data, described_number, acts_of_given_by, acts_of_given, disconnection_in, first_disconnections, disconnections, said_of_content, said_of_urb, AppendsSaid}

-- ---- acts, one after the other

pub acts_more : (time : List ℕ) (session middle last : Session) (first more : List Act) (text rest : List ℕ)
    → ActsGive time session first text middle → ActsGive time middle more rest last
    → ActsGive time session (first ++ more) (text ++ rest) last
acts_more time session middle last [] more text rest h k =
    subst (λ (s : Session). ActsGive time s more (text ++ rest) last) h.1
    (subst (λ t. ActsGive time middle more (t ++ rest) last) (sym h.0) k)
acts_more time session middle last (act ∷ first) more text rest h k =
    (h.0, h.1, h.2 ++ rest, h.3, acts_more time h.1 middle last first more h.2 rest h.4 k, ap (λ l. l ++ rest) h.5 ∙ append_assoc h.0 h.2 rest)

-- acts after others, where those were told
pub ends_after : (time : List ℕ) (session middle : Session) (first more : List Act) (text rest : List ℕ) (cause : Cause)
    → ActsGive time session first text middle → ActsEnd time middle more rest cause
    → ActsEnd time session (first ++ more) (text ++ rest) cause
ends_after time session middle first more text rest cause h k = record {
  first = first ++ k.first;
  others = k.others;
  split = ap (λ l. first ++ l) k.split ∙ sym (append_assoc first k.first k.others);
  text = text ++ k.text;
  now = k.now;
  told = acts_more time session middle k.now first k.first text k.text h k.told;
  part = k.part;
  ends = k.ends;
  whole = ap (λ l. text ++ l) k.whole ∙ sym (append_assoc text k.text k.part);
}

first_before : (time : List ℕ) (now : Session) (others more : List Act) (o : Outcome) → FirstActGives time now others o
    → FirstActGives time now (others ++ more) o
first_before time now [] more o h = absurd h
first_before time now (act ∷ others) more o h = h

ends_before_by : (time : List ℕ) (now : Session) (others more : List Act) (part : List ℕ) (cause : Cause)
    → FirstActEnds time now others part cause → FirstActEnds time now (others ++ more) part cause
ends_before_by time now others more part (causes.Refused why) h = (h.0, first_before time now others more (failure (causes.Refused why)) h.1)
ends_before_by time now others more part causes.Memory (inl none, lines) = (inl none, lines)
ends_before_by time now others more part causes.Memory (inr h, lines) = (inr (h.0, h.1, first_before time now others more (success h.0 h.1) h.2, h.3), lines)
ends_before_by time now others more part causes.Write (inl h) = inl h
ends_before_by time now others more part causes.Write (inr h) = inr (h.0, h.1, first_before time now others more (success h.0 h.1) h.2, h.3)
ends_before_by time now others more part causes.LineTooLong h = absurd h
ends_before_by time now others more part causes.Read h = absurd h
ends_before_by time now others more part causes.TooManyReads h = absurd h
ends_before_by time now others more part causes.Unended h = absurd h

-- acts before others, where the run ended in them
pub ends_before : (time : List ℕ) (session : Session) (acts more : List Act) (written : List ℕ) (cause : Cause)
    → ActsEnd time session acts written cause → ActsEnd time session (acts ++ more) written cause
ends_before time session acts more written cause k = record {
  first = k.first;
  others = k.others ++ more;
  split = ap (λ l. l ++ more) k.split ∙ append_assoc k.first k.others more;
  text = k.text;
  now = k.now;
  told = k.told;
  part = k.part;
  ends = ends_before_by time k.now k.others more k.part cause k.ends;
  whole = k.whole;
}

-- ---- what is written

-- no act
pub nothing_said : (old : Option (List ℕ)) (time : List ℕ) (session : Session) (acts : List Act) → acts ≡ []
    → AppendsActs old old time session acts (Ok tt) session
nothing_said old time session acts none = ([], Appends-nil old, subst (λ a. ActsGive time session a [] session) (sym none) (refl, refl))

-- an act that wasn't played to its end
first_ends : (a b : Option (List ℕ)) (time : List ℕ) (session : Session) (act : Act) (cause : Cause) → StopsIn a b (ActGives time session act) cause
    → (x : List ℕ) × Appends a b x × FirstActEnds time session (act ∷ []) x cause
first_ends a b time session act causes.Memory h = (h.0, h.1, (h.2, h.3))
first_ends a b time session act (causes.Refused why) h = ([], subst (λ w. Appends a w []) (sym h.0) (Appends-nil a), (refl, h.1))
first_ends a b time session act causes.Write h = (h.0, h.3, inr (h.1, h.2, h.4, h.5))
first_ends a b time session act causes.LineTooLong h = absurd h
first_ends a b time session act causes.Read h = absurd h
first_ends a b time session act causes.TooManyReads h = absurd h
first_ends a b time session act causes.Unended h = absurd h

-- a run that ended in the first act, with this part of its text
at_first_act : (time : List ℕ) (session : Session) (acts : List Act) (part : List ℕ) (cause : Cause)
    → FirstActEnds time session acts part cause → ActsEnd time session acts part cause
at_first_act time session acts part cause h = record {
  first = [];
  others = acts;
  split = refl;
  text = [];
  now = session;
  told = (refl, refl);
  part = part;
  ends = h;
  whole = refl;
}

pub act_ends : (a b : Option (List ℕ)) (time : List ℕ) (session : Session) (act : Act) (cause : Cause)
    (r : Result (Unit {0}) Cause) (next : Session) → StopsIn a b (ActGives time session act) cause → IsErrAnd r (λ e. e ≡ cause)
    → AppendsActs a b time session (act ∷ []) r next
act_ends a b time session act cause (Ok u) next h is = absurd is
act_ends a b time session act cause (Err e) next h is =
    let ends = first_ends a b time session act cause h in (
      ends.0,
      ends.1,
      at_first_act time session (act ∷ []) ends.0 e
          (subst (λ c. FirstActEnds time session (act ∷ []) ends.0 c) (sym is) ends.2),
    )

-- memory ran out before the first act
pub memory_ends : (old : Option (List ℕ)) (time : List ℕ) (session : Session) (acts : List Act)
    (r : Result (Unit {0}) Cause) (next : Session) → IsErrAnd r (λ e. e ≡ causes.Memory)
    → AppendsActs old old time session acts r next
memory_ends old time session acts (Ok u) next is = absurd is
memory_ends old time session acts (Err e) next is = (
  [],
  Appends-nil old,
  at_first_act time session acts [] e (subst (λ c. FirstActEnds time session acts [] c) (sym is) (inl refl, inl refl)),
)

-- what was gathered of an act, and what was written before
pub act_written : (a b c : Option (List ℕ)) (time : List ℕ) (session : Session) (act : Act) (written gathered text : List ℕ)
    (next : Session) → Appends a b written → ActGives time session act (success (written ++ gathered) next) → text ≡ gathered
    → Appends b c text → AppendsActs a c time session (act ∷ []) (Ok tt) next
act_written a b c time session act written gathered text next before told same grew = (
  written ++ text,
  Appends-trans a b c written text before grew,
  (
    written ++ text,
    next,
    [],
    subst (λ t. ActGives time session act (success (written ++ t) next)) (sym same) told,
    (refl, refl),
    sym (append-nil (written ++ text)),
  ),
)

-- the writer took a prefix of that
pub act_unwritten : (a b c : Option (List ℕ)) (time : List ℕ) (session : Session) (act : Act) (written gathered text : List ℕ)
    (r : Result (Unit {0}) Cause) (next last : Session) → Appends a b written
    → ActGives time session act (success (written ++ gathered) next) → text ≡ gathered → AppendsPrefix b c text
    → IsErrAnd r (λ e. e ≡ causes.Write) → AppendsActs a c time session (act ∷ []) r last
act_unwritten a b c time session act written gathered text (Ok u) next last before told same prefix is = absurd is
act_unwritten a b c time session act written gathered text (Err e) next last before told same prefix is = (
  written ++ prefix.0,
  Appends-trans a b c written prefix.0 before prefix.2,
  at_first_act time session (act ∷ []) (written ++ prefix.0) e
      (subst (λ x. FirstActEnds time session (act ∷ []) (written ++ prefix.0) x) (sym is) (inr (
        written ++ gathered,
        next,
        told,
        (prefix.1.0, ap (λ t. written ++ t) (sym same ∙ prefix.1.1) ∙ sym (append_assoc written prefix.0 prefix.1.0)),
      ))),
)

-- acts after others that were told whole
pub acts_then : (a b c : Option (List ℕ)) (time : List ℕ) (session middle last : Session) (first more : List Act) (text : List ℕ)
    (r : Result (Unit {0}) Cause) → ActsGive time session first text middle → Appends a b text
    → AppendsActs b c time middle more r last → AppendsActs a c time session (first ++ more) r last
acts_then a b c time session middle last first more text (Ok u) h grew k =
    (text ++ k.0, Appends-trans a b c text k.0 grew k.1, acts_more time session middle last first more text k.0 h k.2)
acts_then a b c time session middle last first more text (Err cause) h grew k =
    (text ++ k.0, Appends-trans a b c text k.0 grew k.1, ends_after time session middle first more text k.0 cause h k.2)

-- acts that ended the run, before others
pub acts_early : (a b : Option (List ℕ)) (time : List ℕ) (session now next : Session) (first more : List Act) (cause : Cause)
    (r : Result (Unit {0}) Cause) → AppendsActs a b time session first (Err cause) now → IsErrAnd r (λ e. e ≡ cause)
    → AppendsActs a b time session (first ++ more) r next
acts_early a b time session now next first more cause (Ok u) h is = absurd is
acts_early a b time session now next first more cause (Err e) h is =
    (h.0, h.1, subst (λ c. ActsEnd time session (first ++ more) h.0 c) (sym is) (ends_before time session first more h.0 cause h.2))

-- what is written of acts, where time and acts are named otherwise
pub told_by : (a b : Option (List ℕ)) (time now : List ℕ) (session next : Session) (acts same : List Act) (r : Result (Unit {0}) Cause)
    → AppendsActs a b time session acts r next → time ≡ now → acts ≡ same → AppendsActs a b now session same r next
told_by a b time now session next acts same r h t e =
    subst (λ l. AppendsActs a b now session l r next) e (subst (λ x. AppendsActs a b x session acts r next) t h)

-- memory ran out for what a frame says
pub said_memory : (a : Option (List ℕ)) (time : List ℕ) (session next : Session) (said : Said) (after : Tracking)
    (r : Result (Unit {0}) Cause) → IsErrAnd r (λ e. e ≡ causes.Memory) → AppendsSaid a a time session said r after next
said_memory a time session next said after (Ok u) is = absurd is
said_memory a time session next said after (Err e) is = memory_ends a time session said.acts (Err e) next is

-- what a URB of a frame says
pub urb_told : (a b : Option (List ℕ)) (time now : List ℕ) (session here next : Session) (given : Option Given) (t known after : Tracking)
    (content : Content) (urb : UrbRecord) (u : Result UrbRecord UrbFault) (r : Result (Unit {0}) Cause) → u ≡ Ok urb
    → (let tracked : Tracked = record { content = content; after = known } in tracked) ≡ outcome t urb
    → now ≡ time → here ≡ session
    → AppendsSaid a b now here (said_of_content given urb known content) r after next
    → AppendsSaid a b time session (said_of_urb given t u) r after next
urb_told a b time now session here next given t known after content urb u r is gives at stands h =
    subst (λ x. AppendsSaid a b time session (said_of_urb given t x) r after next) (sym is)
    (subst (λ (o : Tracked). AppendsSaid a b time session (said_of_content given urb o.after o.content) r after next) gives
    (subst (λ x. AppendsSaid a b x session (said_of_content given urb known content) r after next) at
    (subst (λ (s : Session). AppendsSaid a b now s (said_of_content given urb known content) r after next) stands h)))

-- a frame that is no URB
pub no_urb_told : (a : Option (List ℕ)) (time : List ℕ) (session next : Session) (given : Option Given) (t after : Tracking)
    (fault : UrbFault) (u : Result UrbRecord UrbFault) → u ≡ Err fault → after ≡ t → next ≡ session
    → AppendsSaid a a time session (said_of_urb given t u) (Ok tt) after next
no_urb_told a time session next given t after fault u is known same =
    subst (λ x. AppendsSaid a a time session (said_of_urb given t x) (Ok tt) after next) (sym is)
    ([], Appends-nil a, ((refl, same), known))

-- what is said, by its acts and what is known then
pub said_told : (a b : Option (List ℕ)) (time : List ℕ) (session next : Session) (said : Said) (acts : List Act)
    (after : Tracking) (r : Result (Unit {0}) Cause) → AppendsActs a b time session acts r next → acts ≡ said.acts
    → after ≡ said.after → AppendsSaid a b time session said r after next
said_told a b time session next said acts after (Ok u) h is known =
    (h.0, h.1, (subst (λ l. ActsGive time session l h.0 next) is h.2, known))
said_told a b time session next said acts after (Err cause) h is known =
    (h.0, h.1, subst (λ l. ActsEnd time session l h.0 cause) is h.2)

-- ---- a descriptor that is given

pub given_early : (a b : Option (List ℕ)) (time : List ℕ) (session now next : Session) (bytes : List ℕ) (urb : UrbRecord) (content : Content)
    (n : ℕ) (cause : Cause) (r : Result (Unit {0}) Cause) → Some n ≡ described_number content
    → AppendsActs a b time session (acts_of_content bytes (contents.Descriptor n)) (Err cause) now → IsErrAnd r (λ e. e ≡ cause)
    → AppendsActs a b time session (acts_of_given bytes urb content) r next
given_early a b time session now next bytes urb content n cause r is h ends =
    subst (λ m. AppendsActs a b time session (acts_of_given_by bytes urb content m) r next) is
    (acts_early a b time session now next (acts_of_content bytes (contents.Descriptor n)) (acts_of_content urb.payload (content_of_data urb.is_truncated n)) cause r h ends)

pub given_told : (a b c : Option (List ℕ)) (time : List ℕ) (session middle last : Session) (bytes : List ℕ) (urb : UrbRecord) (content data' : Content)
    (n : ℕ) (text : List ℕ) (r : Result (Unit {0}) Cause) → Some n ≡ described_number content
    → ActsGive time session (acts_of_content bytes (contents.Descriptor n)) text middle → Appends a b text
    → data' ≡ content_of_data urb.is_truncated n → AppendsActs b c time middle (acts_of_content urb.payload data') r last
    → AppendsActs a c time session (acts_of_given bytes urb content) r last
given_told a b c time session middle last bytes urb content data' n text r is h grew kind k =
    subst (λ m. AppendsActs a c time session (acts_of_given_by bytes urb content m) r last) is
    (acts_then a b c time session middle last (acts_of_content bytes (contents.Descriptor n)) (acts_of_content urb.payload (content_of_data urb.is_truncated n)) text r h grew
    (subst (λ d. AppendsActs b c time middle (acts_of_content urb.payload d) r last) kind k))

-- ---- a device that is gone

-- those with fewer numbers come first
pub first_before_all : (bus device : ℕ) (interfaces : List TrackedInterface) (n d : ℕ)
    → (rest : List Act) × (first_disconnections bus device interfaces (n + d) ≡ first_disconnections bus device interfaces n ++ rest)
first_before_all bus device interfaces n zero =
    let same : n + 0 ≡ n = omega arith in
    ([], ap (first_disconnections bus device interfaces) same ∙ sym (append-nil (first_disconnections bus device interfaces n)))
first_before_all bus device interfaces n (suc d) =
    let h = first_before_all bus device interfaces n d in
    let same : n + suc d ≡ suc (n + d) = omega arith in
    let one = disconnection_in bus device (n + d) (slice_get interfaces (n + d)) in (
      h.0 ++ one,
      ap (first_disconnections bus device interfaces) same ∙ ap (λ l. l ++ one) h.1 ∙ append_assoc (first_disconnections bus device interfaces n) h.0 one,
    )

-- a run that ended at one of them
pub disconnection_ends : (a b c : Option (List ℕ)) (time : List ℕ) (session middle now next : Session) (bus device : ℕ) (interfaces : List TrackedInterface)
    (n : ℕ) (text : List ℕ) (cause : Cause) (r : Result (Unit {0}) Cause) → n < 16
    → ActsGive time session (first_disconnections bus device interfaces n) text middle → Appends a b text
    → AppendsActs b c time middle (disconnection_in bus device n (slice_get interfaces n)) (Err cause) now → IsErrAnd r (λ e. e ≡ cause)
    → AppendsActs a c time session (disconnections bus device interfaces) r next
disconnection_ends a b c time session middle now next bus device interfaces n text cause r small h grew k is =
    let rest = first_before_all bus device interfaces (suc n) (15 - n) in
    let all : suc n + (15 - n) ≡ 16 = omega arith in
    let here = acts_then a b c time session middle now (first_disconnections bus device interfaces n) (disconnection_in bus device n (slice_get interfaces n)) text (Err cause) h grew k in
    subst (λ l. AppendsActs a c time session l r next) (sym rest.1 ∙ ap (first_disconnections bus device interfaces) all)
    (acts_early a c time session now next (first_disconnections bus device interfaces (suc n)) rest.0 cause r here is)

-- one more of them
pub disconnections_more : (a b c : Option (List ℕ)) (time : List ℕ) (session middle last : Session) (bus device : ℕ) (interfaces : List TrackedInterface)
    (n : ℕ) (text : List ℕ) → ActsGive time session (first_disconnections bus device interfaces n) text middle → Appends a b text
    → (k : AppendsActs b c time middle (disconnection_in bus device n (slice_get interfaces n)) (Ok tt) last)
    → (written : List ℕ) × Appends a c written × ActsGive time session (first_disconnections bus device interfaces (n + 1)) written last
disconnections_more a b c time session middle last bus device interfaces n text h grew k =
    let next : suc n ≡ n + 1 = omega arith in (
      text ++ k.0,
      Appends-trans a b c text k.0 grew k.1,
      subst (λ m. ActsGive time session (first_disconnections bus device interfaces m) (text ++ k.0) last) next
          (acts_more time session middle last (first_disconnections bus device interfaces n) (disconnection_in bus device n (slice_get interfaces n)) text k.0 h k.2),
    )
