-- What the reader and the writer of a run answered (our choice).
use Rattle.std.specs.Prelude.{◌≡◌, ◌⊎◌, ℕ, ◌<◌, zero, suc, List, [], ◌∷◌, ◌++◌, length, take, ⊤, Result, Ok, Err, IsErrAnd, Option}
use Rattle.std.specs.Str.Lines.{lines}
use Rattle.std.specs.Io.KnownBytes.{Keeps, Consumes, Appends}
use Rattle.hid_script.specs.declared.fault.Cause.{Cause}
use Rattle.hid_script.specs.declared.fault.Cause.TheVariants as causes
use Rattle.hid_script.specs.declared.fault.ScriptFault.{ScriptFault}
use Rattle.hid_script.specs.declared.summary.Summary.{Summary}
use Rattle.hid_script.specs.declared.runs.TheConstants.{MAX_READS}
use Rattle.hid_script.specs.declared.streams.ReadResult.{ReadResult}
use Rattle.hid_script.specs.declared.streams.ReadResult.TheVariants as given
use Rattle.hid_script.specs.declared.streams.WriteFailed.{WriteFailed as LostText}
use Rattle.hid_script.specs.Runs.{line_of}

-- ---- the reader

-- a read gave these bytes, and none where the script is at its end; it was interrupted; or it failed
pub data Answer : Type 0 where
  Gave : List ℕ → Answer
  Interrupted : Answer
  Failed : Answer

-- what a read answered, by the buffer after it
abbrev pub answer_of : ReadResult → List ℕ → Answer
answer_of (given.Bytes n) buffer = Gave (take n buffer)
answer_of given.Interrupted buffer = Interrupted
answer_of given.Failed buffer = Failed

-- how many bytes came, if the read didn't fail
abbrev pub read_count : ReadResult → Result ℕ (Unit {0})
read_count (given.Bytes n) = Ok n
read_count given.Interrupted = Err tt
read_count given.Failed = Err tt

-- how known bytes of a reader change with an answer
abbrev pub AnswerConsumes : Option (List ℕ) → Answer → Option (List ℕ) → Type 0
AnswerConsumes old (Gave bytes) new = Consumes old new bytes
AnswerConsumes old Interrupted new = Keeps old new
AnswerConsumes old Failed new = Keeps old new

-- a run reads on after these answers: bytes came, or the read was interrupted
abbrev pub GoesOn : Answer → Type 0
GoesOn (Gave bytes) = 0 < length bytes
GoesOn Interrupted = ⊤
GoesOn Failed = ⊥

-- the bytes of an answer
abbrev pub bytes_read : Answer → List ℕ
bytes_read (Gave bytes) = bytes
bytes_read Interrupted = []
bytes_read Failed = []

-- Reads after which a run reads on: one after the other they led from one reader to another, each gave bytes or was
-- interrupted, and in all they gave these bytes.
unfoldable pub ReadsOn : {R : Type 0} → (R → Answer → R → Type 0) → R → ℕ → List ℕ → R → Type 0
ReadsOn {R} reads first zero bytes last = (bytes ≡ []) × (last ≡ first)
ReadsOn {R} reads first (suc n) bytes last =
    (front : List ℕ) × (before : R) × (answer : Answer) × ReadsOn reads first n front before
    × reads before answer last × GoesOn answer × (bytes ≡ front ++ bytes_read answer)

-- The number of the line in which the byte after these would stand: of the one that a line feed there would end.
-- Example: 2 after layout, a line feed and lay
abbrev pub line_after : List ℕ → ℕ
line_after bytes = length (lines (bytes ++ 10 ∷ []))

-- fewer reads were made than a run makes, and a run reads on after each
abbrev pub FewReads : {R : Type 0} → (R → Answer → R → Type 0) → R → R → Type 0
FewReads {R} reads first last = (n : ℕ) × (bytes : List ℕ) × ReadsOn reads first n bytes last × (n < MAX_READS)

-- the last read answered so, after some with which a run reads on, which gave these bytes
abbrev pub LastRead : {R : Type 0} → (R → Answer → R → Type 0) → R → R → Answer → List ℕ → Type 0
LastRead {R} reads first last answer bytes =
    (n : ℕ) × (before : R) × ReadsOn reads first n bytes before × reads before answer last × (n < MAX_READS)

-- the last read answered so, and the bytes before it end in this line
abbrev pub LastAnswers : {R : Type 0} → (R → Answer → R → Type 0) → R → R → Answer → ℕ → Type 0
LastAnswers reads first last answer line =
    (bytes : List ℕ) × LastRead reads first last answer bytes × (line ≡ line_after bytes)

-- the last read gave bytes, or it came to the end and the bytes before it end in this line
abbrev pub LastGives : {R : Type 0} → (R → Answer → R → Type 0) → R → R → ℕ → Type 0
LastGives reads first last line =
    (bytes : List ℕ) × (given : List ℕ) × LastRead reads first last (Gave given) bytes
    × (given ≡ [] → line ≡ line_after bytes)

-- as many reads as a run makes were made, and none of them came to the end
abbrev pub ReadsAll : {R : Type 0} → (R → Answer → R → Type 0) → R → R → ℕ → Type 0
ReadsAll {R} reads first last line =
    (bytes : List ℕ) × ReadsOn reads first MAX_READS bytes last × (line ≡ line_after bytes)

-- What the cause of a fault says of the reads. X5: the last one failed. X8: as many as a run makes came to no end. Any
-- other cause: the last one gave bytes, or came to the end in the line of the fault, or a run would have read on.
abbrev pub ReadFault : {R : Type 0} → (R → Answer → R → Type 0) → R → R → Cause → ℕ → Type 0
ReadFault reads first last causes.Read line = LastAnswers reads first last Failed line
ReadFault reads first last causes.TooManyReads line = ReadsAll reads first last line
ReadFault reads first last cause line = FewReads reads first last ⊎ LastGives reads first last line

-- What the reads of a run answered before its last flush. Where all lines were run, the last read came to the end, and
-- the lines of the bytes before it are those that were counted.
abbrev pub ReadsTo : {R : Type 0} → (R → Answer → R → Type 0) → R → R → Result Summary ScriptFault → Type 0
ReadsTo reads first last (Ok summary) =
    (bytes : List ℕ) × LastRead reads first last (Gave []) bytes × (summary.lines ≡ length (lines bytes))
ReadsTo reads first last (Err fault) = ReadFault reads first last fault.cause fault.line

-- What the reads of a run answered. X6 of the last flush stands in the place of another end of the run, at its line.
abbrev pub EndsByReads : {R : Type 0} → (R → Answer → R → Type 0) → R → R → Result Summary ScriptFault → Type 0
EndsByReads reads first last result =
    ReadsTo reads first last result
    ⊎ IsErrAnd result (λ fault. (fault.cause ≡ causes.Write)
    × ((end : Result Summary ScriptFault) × ReadsTo reads first last end × (fault.line ≡ line_of end)))

-- ---- the writer

-- a write took these bytes; a flush was done; or one of them failed, or took no byte
pub data Reply : Type 0 where
  Took : List ℕ → Reply
  Flushed : Reply
  WriteFailed : Reply

-- what a write answered
abbrev pub write_reply : Result ℕ LostText → List ℕ → Reply
write_reply (Ok n) text = Took (take n text)
write_reply (Err lost) text = WriteFailed

-- what a flush answered
abbrev pub flush_reply : Result (Unit {0}) LostText → Reply
flush_reply (Ok _) = Flushed
flush_reply (Err lost) = WriteFailed

-- how known bytes of a writer change with a reply
abbrev pub ReplyAppends : Option (List ℕ) → Reply → Option (List ℕ) → Type 0
ReplyAppends old (Took bytes) new = Appends old new bytes
ReplyAppends old Flushed new = Keeps old new
ReplyAppends old WriteFailed new = Keeps old new

-- a run goes on after these replies: a write took some bytes, or a flush was done
abbrev pub Succeeds : Reply → Type 0
Succeeds (Took bytes) = 0 < length bytes
Succeeds Flushed = ⊤
Succeeds WriteFailed = ⊥

-- A chain of calls that led from one writer to another, and none of them failed.
unfoldable pub CallsOn : {W : Type 0} → (W → Reply → W → Type 0) → W → ℕ → W → Type 0
CallsOn {W} calls first zero last = last ≡ first
CallsOn {W} calls first (suc n) last =
    (before : W) × (reply : Reply) × CallsOn calls first n before × calls before reply last × Succeeds reply

-- no call between these writers failed
abbrev pub AllSucceed : {W : Type 0} → (W → Reply → W → Type 0) → W → W → Type 0
AllSucceed calls first last = (n : ℕ) × CallsOn calls first n last

-- the last call answered so, and none before it failed
abbrev pub LastReplies : {W : Type 0} → (W → Reply → W → Type 0) → W → W → Reply → Type 0
LastReplies {W} calls first last reply = (before : W) × AllSucceed calls first before × calls before reply last

-- what a cause says of the calls of the writer: X6, that the last one failed, and no other; any other cause, that none did
abbrev pub WriteFault : {W : Type 0} → (W → Reply → W → Type 0) → W → W → Cause → Type 0
WriteFault calls first last causes.Write = LastReplies calls first last WriteFailed
WriteFault calls first last cause = AllSucceed calls first last

-- a cause that a line may have, and what it says of the calls of the writer: no line ends by X5 or X8
abbrev pub FromLine : {W : Type 0} → (W → Reply → W → Type 0) → W → W → Cause → Type 0
FromLine calls first last causes.Read = ⊥
FromLine calls first last causes.TooManyReads = ⊥
FromLine calls first last cause = WriteFault calls first last cause

-- what the writer answered to a line that was reported, or ended so
abbrev pub EndsText : {W : Type 0} → (W → Reply → W → Type 0) → W → W → Result (Unit {0}) Cause → Type 0
EndsText calls first last (Ok _) = AllSucceed calls first last
EndsText calls first last (Err cause) = FromLine calls first last cause

-- what it answered to lines that were reported, or ended a run
abbrev pub EndsLine : {W A : Type 0} → (W → Reply → W → Type 0) → W → W → Result A ScriptFault → Type 0
EndsLine calls first last (Ok _) = AllSucceed calls first last
EndsLine calls first last (Err fault) = FromLine calls first last fault.cause

-- what the writer of a run answered before the last flush
abbrev pub WritesTo : {W : Type 0} → (W → Reply → W → Type 0) → W → W → Result Summary ScriptFault → Type 0
WritesTo calls first last (Ok _) = AllSucceed calls first last
WritesTo calls first last (Err fault) = WriteFault calls first last fault.cause

-- X6: the last flush is the first call that failed, or it comes after that call
abbrev pub LosesText : {W : Type 0} → (W → Reply → W → Type 0) → W → W → Type 0
LosesText {W} calls first last =
    LastReplies calls first last WriteFailed
    ⊎ ((lost : W) × LastReplies calls first lost WriteFailed
    × (calls lost Flushed last ⊎ calls lost WriteFailed last))

-- what a cause says of the calls of the writer, the last flush among them
abbrev pub CauseByWrites : {W : Type 0} → (W → Reply → W → Type 0) → W → W → Cause → Type 0
CauseByWrites calls first last causes.Write = LosesText calls first last
CauseByWrites calls first last cause = LastReplies calls first last Flushed

-- What the writer of a run answered. X6 comes exactly where a call failed: a write or a flush, or a write that took no
-- byte. At any other end no call failed, and the last one was a flush.
abbrev pub EndsByWrites : {W : Type 0} → (W → Reply → W → Type 0) → W → W → Result Summary ScriptFault → Type 0
EndsByWrites calls first last (Ok _) = LastReplies calls first last Flushed
EndsByWrites calls first last (Err fault) = CauseByWrites calls first last fault.cause

-- ---- the reader and the writer

-- The turns led from a reader and a writer to others. In each the writer was flushed, then a read gave bytes or was
-- interrupted, so that a run reads on, and then no call of the writer failed. The reads gave these bytes in all.
unfoldable pub Turns : {R W : Type 0} → (R → Answer → R → Type 0) → (W → Reply → W → Type 0) → R → W → ℕ → List ℕ
    → R → W → Type 0
Turns {R} {W} reads calls reader writer zero bytes r w = (bytes ≡ []) × (r ≡ reader) × (w ≡ writer)
Turns {R} {W} reads calls reader writer (suc n) bytes r w =
    (front : List ℕ) × (r' : R) × (w' : W) × (flushed : W) × (answer : Answer)
    × Turns reads calls reader writer n front r' w' × calls w' Flushed flushed × reads r' answer r × GoesOn answer
    × AllSucceed calls flushed w × (bytes ≡ front ++ bytes_read answer)

-- Each read came after a flush of the writer: after some turns either no other read was made, or the writer was flushed
-- once more and the last read was made. From the writer there on the run ended in this way.
abbrev pub FlushesBeforeReads : {R W : Type 0} → (R → Answer → R → Type 0) → (W → Reply → W → Type 0) → R → W → R
    → (W → Type 0) → Type 0
FlushesBeforeReads {R} {W} reads calls reader writer last Ends =
    (n : ℕ) × (bytes : List ℕ) × (r : R) × (w : W) × Turns reads calls reader writer n bytes r w
    × (((last ≡ r) × Ends w)
    ⊎ ((flushed : W) × (answer : Answer) × calls w Flushed flushed × reads r answer last × Ends flushed))

-- each read came after a flush of the writer, and the writes after the last read end as those of a run without its last
-- flush
abbrev pub TurnsTo : {R W : Type 0} → (R → Answer → R → Type 0) → (W → Reply → W → Type 0) → R → W → R → W
    → Result Summary ScriptFault → Type 0
TurnsTo reads calls reader writer reader' writer' result =
    FlushesBeforeReads reads calls reader writer reader' (λ w. WritesTo calls w writer' result)

-- each read came after a flush of the writer, and the writes after the last read end as those of a run with its last flush
abbrev pub EndsByTurns : {R W : Type 0} → (R → Answer → R → Type 0) → (W → Reply → W → Type 0) → R → W → R → W
    → Result Summary ScriptFault → Type 0
EndsByTurns reads calls reader writer reader' writer' result =
    FlushesBeforeReads reads calls reader writer reader' (λ w. EndsByWrites calls w writer' result)
