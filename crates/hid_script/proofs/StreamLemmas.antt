-- Lemmas on what the reader and the writer of a run answered.
use Rattle.std.proofs.Common.{◌≡◌, ℕ, ◌+◌, ◌<◌, ◌≤◌, true, false, zero, suc, List, [], ◌∷◌, ◌++◌, length, length-append, take, refl, sym, ap, ◌∙◌, append-nil, subst, inl, inr, arith, Result, Ok, Err, IfErr, IsErrAnd}
use Rattle.std.proofs.lemmas.List.{length-take}
use Rattle.std.specs.Prelude.{is_err}
use Rattle.std.specs.Str.Lines.{lines, strip_carriage_return}
use Rattle.hid_report_descriptor.specs.declared.fault.LayoutFault.{LayoutFault}
use Rattle.hid_report_descriptor.specs.declared.fault.Cause as layouts
use Rattle.hid_report_descriptor.specs.declared.fault.Cause.TheVariants as whys
use Rattle.hid_host.specs.declared.fault.StackFault.{StackFault}
use Rattle.hid_host.specs.declared.fault.StackFault.TheVariants as stack
use Rattle.hid_text.specs.declared.fault.LineFault.{LineFault}
use Rattle.hid_text.specs.declared.fault.LineFault.TheVariants as line_faults
use Rattle.hid_text.proofs.LineLemmas.{lines_first}
use Rattle.hid_script.specs.declared.fault.Cause.{Cause}
use Rattle.hid_script.specs.declared.fault.Cause.TheVariants as causes
use Rattle.hid_script.specs.declared.fault.ScriptFault.{ScriptFault}
use Rattle.hid_script.specs.declared.summary.Summary.{Summary}
use Rattle.hid_script.specs.declared.streams.WriteFailed.{WriteFailed as LostText}
use Rattle.hid_script.specs.declared.runs.TheConstants.{MAX_READS}
use Rattle.hid_script.specs.LineOutput.{line_cause, cause_from, stack_cause}
use Rattle.hid_text.specs.Lines.{IsUnbroken}
use Rattle.hid_script.specs.Place.{Place, Advances, lines_at, RunsFrom}
use Rattle.hid_script.specs.Streams.{Answer, Gave, Interrupted, GoesOn, bytes_read, ReadsOn, line_after, FewReads, LastRead, LastGives, ReadFault, ReadsTo, Reply, Took, Flushed, WriteFailed, flush_reply, Succeeds, CallsOn, AllSucceed, LastReplies, WriteFault, FromLine, EndsText, EndsLine, WritesTo, LosesText, CauseByWrites, EndsByWrites, Turns, FlushesBeforeReads, TurnsTo, EndsByTurns}

-- ---- the line in which a reader stands

pub stands_in : (place now : Place) (read written : List ℕ) → place.begun ≡ [] → place.lines ≡ 0
    → IsUnbroken now.begun → Advances place read written now → now.lines + 1 ≡ line_after read
stands_in place now read written none first whole h =
    let front : lines (place.begun ++ (read ++ 10 ∷ [])) ≡ h.ended ++ lines (now.begun ++ 10 ∷ []) = h.split (10 ∷ []) in
    let all : lines (read ++ 10 ∷ []) ≡ h.ended ++ (strip_carriage_return now.begun ∷ []) =
    sym (ap (λ b. lines (b ++ (read ++ 10 ∷ []))) none) ∙ front ∙ ap (λ l. h.ended ++ l) (lines_first now.begun [] whole) in
    let count : line_after read ≡ length h.ended + 1 =
    ap length all ∙ length-append h.ended (strip_carriage_return now.begun ∷ []) in
    omega (arith, count, h.count, first)

-- ---- reads, one after the other

pub no_reads : {R : Type 0} (reads : R → Answer → R → Type 0) (reader : R) → ReadsOn reads reader 0 [] reader
unfolding ReadsOn
no_reads reads reader = (refl, refl)

-- as many as a run makes
pub all_reads : {R : Type 0} (reads : R → Answer → R → Type 0) (first last : R) (n : ℕ) (bytes : List ℕ) → ReadsOn reads first n bytes last → n ≤ 1000000 → 1000000 ≤ n → ReadsOn reads first MAX_READS bytes last
all_reads reads first last n bytes h below above = let same : n ≡ MAX_READS = omega arith in subst (λ k. ReadsOn reads first k bytes last) same h

-- a read that wasn't the last gave a byte
pub some_given : (n : ℕ) (buffer : List ℕ) → (n ≡ 0 → ⊥) → n ≤ length buffer → GoesOn (Gave (take n buffer))
some_given n buffer some bound = omega (arith, length-take n buffer, some)

-- no read was made yet
pub none_read : {R : Type 0} (reads : R → Answer → R → Type 0) (reader : R) → FewReads reads reader reader
none_read reads reader = (0, [], no_reads reads reader, omega arith)

-- ---- calls of the writer, one after the other

pub no_calls : {W : Type 0} (calls : W → Reply → W → Type 0) (writer : W) → AllSucceed calls writer writer
unfolding CallsOn
no_calls calls writer = (0, refl)

pub one_call : {W : Type 0} (calls : W → Reply → W → Type 0) (first before last : W) (reply : Reply) → AllSucceed calls first before → calls before reply last → Succeeds reply → AllSucceed calls first last
unfolding CallsOn
one_call calls first before last reply h call done = (suc h.0, (before, reply, h.1, call, done))

more_calls : {W : Type 0} (calls : W → Reply → W → Type 0) (first middle last : W) (n : ℕ) → AllSucceed calls first middle → CallsOn calls middle n last → AllSucceed calls first last
unfolding CallsOn
more_calls calls first middle last zero h k = subst (λ w. AllSucceed calls first w) (sym k) h
more_calls calls first middle last (suc n) h k = one_call calls first k.0 last k.1 (more_calls calls first middle k.0 n h k.2) k.3 k.4

pub all_succeed : {W : Type 0} (calls : W → Reply → W → Type 0) (first middle last : W) → AllSucceed calls first middle → AllSucceed calls middle last → AllSucceed calls first last
all_succeed calls first middle last h k = more_calls calls first middle last k.0 h k.1

last_replies : {W : Type 0} (calls : W → Reply → W → Type 0) (first middle last : W) (reply : Reply) → AllSucceed calls first middle → LastReplies calls middle last reply → LastReplies calls first last reply
last_replies calls first middle last reply h k = (k.0, all_succeed calls first middle k.0 h k.1, k.2)

-- a write that took some bytes
pub took_some : {W : Type 0} (calls : W → Reply → W → Type 0) (first before last : W) (n : ℕ) (text : List ℕ) → AllSucceed calls first before → 0 < n → n ≤ length text → calls before (Took (take n text)) last → AllSucceed calls first last
took_some calls first before last n text h some bound call = one_call calls first before last (Took (take n text)) h call (omega (arith, length-take n text, some, bound))

-- calls that succeeded before a line don't change what its cause says
pub from_behind : {W : Type 0} (calls : W → Reply → W → Type 0) (first middle last : W) (cause : Cause) → AllSucceed calls first middle → FromLine calls middle last cause → FromLine calls first last cause
from_behind calls first middle last causes.Read h k = k
from_behind calls first middle last causes.TooManyReads h k = k
from_behind calls first middle last causes.Write h k = last_replies calls first middle last WriteFailed h k
from_behind calls first middle last cause h k = all_succeed calls first middle last h k

-- ---- what a fault says

pub from_layout : {W : Type 0} (calls : W → Reply → W → Type 0) (first last : W) (why : layouts.Cause) (fault : LayoutFault) → AllSucceed calls first last → FromLine calls first last (cause_from why fault)
from_layout calls first last whys.Memory fault h = h
from_layout calls first last why fault h = h

pub from_stack : {W : Type 0} (calls : W → Reply → W → Type 0) (first last : W) (fault : StackFault) → AllSucceed calls first last → FromLine calls first last (stack_cause fault)
from_stack calls first last stack.Memory h = h
from_stack calls first last fault h = h

pub from_line : {W : Type 0} (calls : W → Reply → W → Type 0) (first last : W) (fault : LineFault) → AllSucceed calls first last → FromLine calls first last (line_cause fault)
from_line calls first last line_faults.LineTooLong h = h
from_line calls first last line_faults.Syntax h = h
from_line calls first last line_faults.BadHex h = h

-- a line ends by this cause
pub ends_by : {W : Type 0} (calls : W → Reply → W → Type 0) (first last : W) (cause : Cause) (r : Result (Unit {0}) Cause) → FromLine calls first last cause → IsErrAnd r (λ e. e ≡ cause) → EndsText calls first last r
ends_by calls first last cause (Ok u) from is = absurd is
ends_by calls first last cause (Err e) from is = subst (FromLine calls first last) (sym is) from

-- lines end by this fault
pub ends_at : {W A : Type 0} (calls : W → Reply → W → Type 0) (first last : W) (fault : ScriptFault) (r : Result A ScriptFault) → FromLine calls first last fault.cause → IsErrAnd r (λ e. e ≡ fault) → EndsLine calls first last r
ends_at calls first last fault (Ok u) from is = absurd is
ends_at calls first last fault (Err e) from is = subst (λ (f : ScriptFault). FromLine calls first last f.cause) (sym is) from

-- the cause of a line is that of its fault
pub from_cause : {W : Type 0} (calls : W → Reply → W → Type 0) (first last : W) (fault : ScriptFault) (cause : Cause) → fault.cause ≡ cause → FromLine calls first last cause → FromLine calls first last fault.cause
from_cause calls first last fault cause is from = subst (FromLine calls first last) (sym is) from

-- a line that is too long
pub long_line : {W A : Type 0} (calls : W → Reply → W → Type 0) (first last : W) (r : Result A ScriptFault) → AllSucceed calls first last → IfErr r (λ fault. fault.cause ≡ causes.LineTooLong) → EndsLine calls first last r
long_line calls first last (Ok u) h is = h
long_line calls first last (Err fault) h is = from_cause calls first last fault causes.LineTooLong is h

-- ---- what the end of a line says of the reads

-- a fault of a line is no fault of the reader
line_fault : {R W : Type 0} (reads : R → Answer → R → Type 0) (first last : R) (calls : W → Reply → W → Type 0) (old new : W) (cause : Cause) (line : ℕ) → FromLine calls old new cause → LastGives reads first last line → ReadFault reads first last cause line
line_fault reads first last calls old new causes.Read line from given = absurd from
line_fault reads first last calls old new causes.TooManyReads line from given = absurd from
line_fault reads first last calls old new cause line from given = inr given

-- a line that the last read ended
pub line_reads : {R W : Type 0} (reads : R → Answer → R → Type 0) (first last : R) (calls : W → Reply → W → Type 0) (old new : W) (bytes given : List ℕ) (fault : ScriptFault) (r : Result Summary ScriptFault)
    → FromLine calls old new fault.cause → LastRead reads first last (Gave given) bytes → GoesOn (Gave given) → IsErrAnd r (λ e. e ≡ fault) → ReadsTo reads first last r
line_reads reads first last calls old new bytes given fault (Ok summary) from read some is = absurd is
line_reads reads first last calls old new bytes given fault (Err e) from read some is =
    let none : given ≡ [] → fault.line ≡ line_after bytes = λ none. absurd (let zero : length given ≡ 0 = ap (λ l. length l) none in omega (arith, zero, some)) in
    subst (λ (f : ScriptFault). ReadFault reads first last f.cause f.line) (sym is) (line_fault reads first last calls old new fault.cause fault.line from (bytes, given, read, none))

-- the lines of a script that ended at this place
pub counted_in : (place now : Place) (read written : List ℕ) (n : ℕ) → place.begun ≡ [] → place.lines ≡ 0 → Advances place read written now
    → n ≡ now.lines + length (lines_at now []) → n ≡ length (lines read)
counted_in place now read written n none first h is =
    let front : lines (place.begun ++ (read ++ [])) ≡ h.ended ++ lines_at now [] = h.split [] in
    let all : lines read ≡ h.ended ++ lines_at now [] =
    sym (ap (λ b. lines (b ++ (read ++ []))) none ∙ ap lines (append-nil read)) ∙ front in
    omega (arith, ap (λ l. length l) all, length-append h.ended (lines_at now []), h.count, first, is)

-- the last line, after a read that came to the end
pub end_reads : {R W : Type 0} (reads : R → Answer → R → Type 0) (first last : R) (calls : W → Reply → W → Type 0) (old new : W) (place now : Place) (read written text : List ℕ) (r : Result Summary ScriptFault)
    → LastRead reads first last (Gave []) read → place.begun ≡ [] → place.lines ≡ 0 → IsUnbroken now.begun → Advances place read written now
    → RunsFrom now [] text r → IfErr r (λ fault. fault.line ≡ now.lines + 1) → EndsLine calls old new r → ReadsTo reads first last r
end_reads reads first last calls old new place now read written text (Ok summary) h none begin whole taken runs at from = (read, h, counted_in place now read written summary.lines none begin taken runs.lines)
end_reads reads first last calls old new place now read written text (Err fault) h none begin whole taken runs at from =
    line_fault reads first last calls old new fault.cause fault.line from (read, [], h, λ _. at ∙ stands_in place now read written none begin whole taken)

-- ---- flushes

pub flush_done : {W : Type 0} (calls : W → Reply → W → Type 0) (before writer : W) (r : Result (Unit {0}) LostText)
    → is_err r ≡ false → calls before (flush_reply r) writer → calls before Flushed writer
flush_done calls before writer (Ok u) is h = h
flush_done calls before writer (Err e) is h = absurd (cc)

pub flush_lost : {W : Type 0} (calls : W → Reply → W → Type 0) (before writer : W) (r : Result (Unit {0}) LostText)
    → is_err r ≡ true → calls before (flush_reply r) writer → LastReplies calls before writer WriteFailed
flush_lost calls before writer (Ok u) is h = absurd (cc)
flush_lost calls before writer (Err e) is h = (before, no_calls calls before, h)

-- ---- turns

pub no_turns : {R W : Type 0} (reads : R → Answer → R → Type 0) (calls : W → Reply → W → Type 0) (reader : R) (writer : W) → Turns reads calls reader writer 0 [] reader writer
unfolding Turns
no_turns reads calls reader writer = (refl, refl, refl)

pub one_turn : {R W : Type 0} (reads : R → Answer → R → Type 0) (calls : W → Reply → W → Type 0) (reader r last : R) (writer w flushed end : W) (n : ℕ) (bytes : List ℕ) (answer : Answer) → Turns reads calls reader writer n bytes r w → calls w Flushed flushed
    → reads r answer last → GoesOn answer → AllSucceed calls flushed end
    → Turns reads calls reader writer (suc n) (bytes ++ bytes_read answer) last end
unfolding Turns
one_turn reads calls reader r last writer w flushed end n bytes answer h flush read on text = (bytes, r, w, flushed, answer, h, flush, read, on, text, refl)

-- one whose read was interrupted
pub quiet_turn : {R W : Type 0} (reads : R → Answer → R → Type 0) (calls : W → Reply → W → Type 0) (reader r last : R) (writer w flushed : W) (n : ℕ) (bytes : List ℕ) → Turns reads calls reader writer n bytes r w → calls w Flushed flushed
    → reads r Interrupted last → Turns reads calls reader writer (suc n) bytes last flushed
unfolding Turns
quiet_turn reads calls reader r last writer w flushed n bytes h flush read = (bytes, r, w, flushed, Interrupted, h, flush, read, tt, no_calls calls flushed, sym (append-nil bytes))

-- the reads of some turns
pub turns_read : {R W : Type 0} (reads : R → Answer → R → Type 0) (calls : W → Reply → W → Type 0) (reader r : R) (writer w : W) (n : ℕ) (bytes : List ℕ) → Turns reads calls reader writer n bytes r w → ReadsOn reads reader n bytes r
unfolding Turns ReadsOn
turns_read reads calls reader r writer w zero bytes h = (h.0, h.1)
turns_read reads calls reader r writer w (suc n) bytes h = (h.0, h.1, h.4, turns_read reads calls reader h.1 writer h.2 n h.0 h.5, h.7, h.8, h.10)

-- the calls of the writer in them
turns_write : {R W : Type 0} (reads : R → Answer → R → Type 0) (calls : W → Reply → W → Type 0) (reader r : R) (writer w : W) (n : ℕ) (bytes : List ℕ) → Turns reads calls reader writer n bytes r w → AllSucceed calls writer w
unfolding Turns
turns_write reads calls reader r writer w zero bytes h = subst (λ x. AllSucceed calls writer x) (sym h.2) (no_calls calls writer)
turns_write reads calls reader r writer w (suc n) bytes h =
    all_succeed calls writer h.3 w (one_call calls writer h.2 h.3 Flushed (turns_write reads calls reader h.1 writer h.2 n h.0 h.5) h.6 tt) h.9

-- a run that made no read after some turns
pub ends_before : {R W : Type 0} (reads : R → Answer → R → Type 0) (calls : W → Reply → W → Type 0) (reader r : R) (writer w : W) (n : ℕ) (bytes : List ℕ) (Ends : W → Type 0) → Turns reads calls reader writer n bytes r w → Ends w
    → FlushesBeforeReads reads calls reader writer r Ends
ends_before reads calls reader r writer w n bytes Ends h end = (n, bytes, r, w, h, inl (refl, end))

-- a run that made one read after them
pub ends_after : {R W : Type 0} (reads : R → Answer → R → Type 0) (calls : W → Reply → W → Type 0) (reader r last : R) (writer w flushed : W) (n : ℕ) (bytes : List ℕ) (answer : Answer) (Ends : W → Type 0) → Turns reads calls reader writer n bytes r w → calls w Flushed flushed
    → reads r answer last → Ends flushed → FlushesBeforeReads reads calls reader writer last Ends
ends_after reads calls reader r last writer w flushed n bytes answer Ends h flush read end = (n, bytes, r, w, h, inr (flushed, answer, flush, read, end))

from_writes : {W : Type 0} (calls : W → Reply → W → Type 0) (first last : W) (cause : Cause) → FromLine calls first last cause → WriteFault calls first last cause
from_writes calls first last causes.Read from = absurd from
from_writes calls first last causes.TooManyReads from = absurd from
from_writes calls first last causes.Write from = from
from_writes calls first last cause from = from

-- the writer of a run that ended in a line
pub line_writes : {W : Type 0} (calls : W → Reply → W → Type 0) (first last : W) (r : Result Summary ScriptFault) → EndsLine calls first last r → WritesTo calls first last r
line_writes calls first last (Ok summary) from = from
line_writes calls first last (Err fault) from = from_writes calls first last fault.cause from

-- ---- the last flush

done_behind : {W : Type 0} (calls : W → Reply → W → Type 0) (first middle last : W) (cause : Cause) → WriteFault calls first middle cause → calls middle Flushed last → CauseByWrites calls first last cause
done_behind calls first middle last causes.Write h flush = inr (middle, h, inl flush)
done_behind calls first middle last cause h flush = (middle, h, flush)

flush_behind : {W : Type 0} (calls : W → Reply → W → Type 0) (first middle last : W) (r : Result Summary ScriptFault) → WritesTo calls first middle r → calls middle Flushed last → EndsByWrites calls first last r
flush_behind calls first middle last (Ok summary) h flush = (middle, h, flush)
flush_behind calls first middle last (Err fault) h flush = done_behind calls first middle last fault.cause h flush

lost_cause : {W : Type 0} (calls : W → Reply → W → Type 0) (first middle last : W) (cause : Cause)
    → WriteFault calls first middle cause → calls middle WriteFailed last → LosesText calls first last
lost_cause calls first middle last causes.Write h flush = inr (middle, h, inr flush)
lost_cause calls first middle last cause h flush = inl (middle, h, flush)

lost_behind : {W : Type 0} (calls : W → Reply → W → Type 0) (first middle last : W) (r : Result Summary ScriptFault)
    → WritesTo calls first middle r → calls middle WriteFailed last → LosesText calls first last
lost_behind calls first middle last (Ok summary) h flush = inl (middle, h, flush)
lost_behind calls first middle last (Err other) h flush = lost_cause calls first middle last other.cause h flush

-- what holds from a writer on, wherever the turns led
turns_on : {R W : Type 0} (reads : R → Answer → R → Type 0) (calls : W → Reply → W → Type 0) (reader last : R) (writer : W) (Ends Ends' : W → Type 0) → ((w : W) → Ends w → Ends' w) → FlushesBeforeReads reads calls reader writer last Ends
    → FlushesBeforeReads reads calls reader writer last Ends'
turns_on reads calls reader last writer Ends Ends' f (n, bytes, r, w, h, inl (is, end)) = (n, bytes, r, w, h, inl (is, f w end))
turns_on reads calls reader last writer Ends Ends' f (n, bytes, r, w, h, inr (flushed, answer, flush, read, end)) = (n, bytes, r, w, h, inr (flushed, answer, flush, read, f flushed end))

pub turns_flushed : {R W : Type 0} (reads : R → Answer → R → Type 0) (calls : W → Reply → W → Type 0) (reader last : R) (writer middle end : W) (r : Result Summary ScriptFault) → TurnsTo reads calls reader writer last middle r → calls middle Flushed end
    → EndsByTurns reads calls reader writer last end r
turns_flushed reads calls reader last writer middle end r h flush =
    turns_on reads calls reader last writer _ _ (λ w k. flush_behind calls w middle end r k flush) h

pub turns_lost : {R W : Type 0} (reads : R → Answer → R → Type 0) (calls : W → Reply → W → Type 0) (reader last : R)
    (writer middle end : W) (r : Result Summary ScriptFault) (line : ℕ)
    → TurnsTo reads calls reader writer last middle r → calls middle WriteFailed end
    → EndsByTurns reads calls reader writer last end (Err (record { line = line; cause = causes.Write }))
turns_lost reads calls reader last writer middle end r line h flush =
    turns_on reads calls reader last writer _ _ (λ w k. lost_behind calls w middle end r k flush) h

-- what the writer answered after calls that succeeded, it answered after those before them
loses_behind : {W : Type 0} (calls : W → Reply → W → Type 0) (first middle last : W) → AllSucceed calls first middle → LosesText calls middle last → LosesText calls first last
loses_behind calls first middle last h (inl k) = inl (last_replies calls first middle last WriteFailed h k)
loses_behind calls first middle last h (inr (lost, k, flush)) =
    inr (lost, last_replies calls first middle lost WriteFailed h k, flush)

cause_behind : {W : Type 0} (calls : W → Reply → W → Type 0) (first middle last : W) (cause : Cause) → AllSucceed calls first middle → CauseByWrites calls middle last cause → CauseByWrites calls first last cause
cause_behind calls first middle last causes.Write h k = loses_behind calls first middle last h k
cause_behind calls first middle last cause h k = last_replies calls first middle last Flushed h k

writes_behind : {W : Type 0} (calls : W → Reply → W → Type 0) (first middle last : W) (r : Result Summary ScriptFault) → AllSucceed calls first middle → EndsByWrites calls middle last r → EndsByWrites calls first last r
writes_behind calls first middle last (Ok summary) h k = last_replies calls first middle last Flushed h k
writes_behind calls first middle last (Err fault) h k = cause_behind calls first middle last fault.cause h k

-- the calls of the writer are those of the turns, and then those of the end
pub turns_end : {R W : Type 0} (reads : R → Answer → R → Type 0) (calls : W → Reply → W → Type 0) (reader last : R) (writer end : W) (r : Result Summary ScriptFault) → EndsByTurns reads calls reader writer last end r → EndsByWrites calls writer end r
turns_end reads calls reader last writer end result (n, bytes, r, w, h, inl (is, k)) = writes_behind calls writer w end result (turns_write reads calls reader r writer w n bytes h) k
turns_end reads calls reader last writer end result (n, bytes, r, w, h, inr (flushed, answer, flush, read, k)) =
    writes_behind calls writer flushed end result (one_call calls writer w flushed Flushed (turns_write reads calls reader r writer w n bytes h) flush tt) k
