-- Runs of lines, and that two of them which end by themselves are one.
use Rattle.std.proofs.Common.{◌≡◌, Bool, not, true, false, nat_eq, ℕ, ◌+◌, ◌-◌, ◌<◌, ◌≤◌, drop, drop_at, length-append, IfErr, IfSome, List, [], ◌∷◌, ◌++◌, length, refl, sym, ap, ◌∙◌, subst, inl, inr, ◌⊎◌, arith, append_assoc, append-nil, Option, None, Some, Result, Ok, Err}
use Rattle.std.proofs.lemmas.Bool.{eqb-true, eqb-false}
use Rattle.std.specs.Io.KnownBytes.{Appends, Consumes, IsAtEnd, Keeps}
use Rattle.std.proofs.KnownBytes.{Appends-nil, Appends-trans, Consumes-whole}
use Rattle.std.specs.List.{All}
use Rattle.std.specs.Option.{option_map}
use Rattle.std.specs.Result.{IsErrAnd}
use Rattle.std.specs.Str.Lines.{lines, strip_carriage_return}
use Rattle.std.proofs.lemmas.List.Elements.{All-nil, All-cons, All-head, All-tail}
use Rattle.hid_text.specs.Lines.{IsUnbroken}
use Rattle.hid_text.proofs.LineLemmas.{lines_first}
use Rattle.hid_text.proofs.PieceLemmas.{last_line, long_line}
use Rattle.hid_text.specs.Line.{meaning_of}
use Rattle.hid_script.specs.declared.fault.Cause.{Cause}
use Rattle.hid_script.specs.declared.fault.ScriptFault.{ScriptFault}
use Rattle.hid_script.specs.declared.summary.Summary.{Summary}
use Rattle.hid_script.specs.Laws.{LineHasOneOutcome}
use Rattle.hid_script.specs.LineOutput.{LineBegins, LinePrints}
use Rattle.hid_script.specs.Runs.{Ending, RefusedLine, EndsAs, Ends, FirstPrints, FirstBegins, AllPrint, RunsTo, Stops, ending_of}
use Rattle.hid_script.specs.Session.{Session, Outcome, success}
use Rattle.lab_session.specs.declared.fault.LabCause.{LabCause}
use Rattle.lab_session.specs.declared.fault.LabCause.TheVariants.{Script}
use Rattle.lab_session.specs.declared.runs.LabFault.{LabFault}
use Rattle.lab_session.specs.declared.runs.Ran.{Ran}
use Rattle.lab_session.specs.declared.runs.Ran.TheVariants as ran
use Rattle.lab_session.specs.declared.asked.Asked.{Asked}
use Rattle.lab_session.specs.declared.bench.Bench.{Bench}
use Rattle.lab_session.specs.Asking.{asked_said}
use Rattle.lab_session.specs.Bench.{DoesLine, moment_of}
use Rattle.lab_session.specs.Printed.{IsPlain}
use Rattle.lab_session.specs.Laws.{EndsByItself, RunsAreOne, ScriptsThatEndWell}
use Rattle.lab_session.specs.declared.ahead.Ahead.{Ahead}
use Rattle.lab_session.specs.declared.need.Need.{Need}
use Rattle.lab_session.specs.declared.runs.RunEnd.{RunEnd}
use Rattle.lab_session.specs.declared.runs.RunEnd.TheVariants as ended
use Rattle.lab_session.specs.Ahead.{unread}
use Rattle.lab_session.specs.Feeds.{BeginsTooLong, EndsReading, EndsTaking, IsOutside, TakesLine}
use Rattle.lab_session.specs.Scripts.{AheadRan, Fails, GoesOn, IsScripts, IsUndrawn, LineRan, PrintsAs, RunsAs, RunsAsScript, RunsFed, StopsHere}
use Rattle.hid_script.specs.declared.fault.Cause.TheVariants as causes
use Rattle.hid_script.proofs.PlaceLemmas.{first_begins}
use Rattle.lab_session.proofs.DoingLemmas.{said_of_meaning, script_does, stays_undrawn}
use Rattle.lab_session.proofs.ScriptLineLemmas.{asks_nothing, script_old, script_read}
use Rattle.hid_script.specs.Interpreter.{session_of}

-- ---- one line, and the run after it

-- a line that was carried out, and a run of the lines after it
runs_behind : (session next : Session) (line : List ℕ) (more : List (List ℕ)) (before : ℕ) (text rest : List ℕ) (result : Result Summary ScriptFault)
    → LinePrints session line (success text next) → RunsTo next more (before + 1) rest result → RunsTo session (line ∷ more) before (text ++ rest) result
runs_behind session next line more before text rest (Ok summary) h k = record {
  last = k.last;
  all = (text, next, rest, h, k.all, refl);
  lines = omega (arith, k.lines);
  events = k.events;
}
runs_behind session next line more before text rest (Err fault) h k = record {
  first = line ∷ k.first;
  others = k.others;
  split = ap (λ l. line ∷ l) k.split;
  line = omega (arith, k.line);
  text = text ++ k.text;
  now = k.now;
  all = (text, next, k.text, h, k.all, refl);
  part = k.part;
  ends = k.ends;
  whole = ap (λ l. text ++ l) k.whole ∙ sym (append_assoc text k.text k.part);
}

-- a line that the bench carried out, and a run of the lines after it
pub lab_behind : (u v w : Option (List ℕ)) (session next : Session) (script : List (List ℕ)) (line : List ℕ) (more : List (List ℕ)) (before : ℕ) (text : List ℕ) (end : Result Summary ScriptFault)
    → script ≡ line ∷ more → Appends u v text → LinePrints session line (success text next) → RunsAs v w next more (before + 1) end → RunsAs u w session script before end
lab_behind u v w session next script line more before text end is grew h k =
    (text ++ k.0, Appends-trans u v w text k.0 grew k.1, subst (λ l. RunsTo session l before (text ++ k.0) end) (sym is) (runs_behind session next line more before text k.0 end h k.2))

-- a line ended the run
pub lab_stops : (u v : Option (List ℕ)) (session : Session) (script : List (List ℕ)) (line : List ℕ) (more : List (List ℕ)) (before at : ℕ) (part : List ℕ) (cause : Cause)
    → script ≡ line ∷ more → at ≡ before + 1 → Appends u v part
    → Ends (LinePrints session line) (LineBegins session line) part cause → RunsAs u v session script before (Err (record { line = at; cause = cause }))
lab_stops u v session script line more before at part cause is place grew h = (
  part,
  grew,
  subst (λ l. Stops session l before part (record { line = at; cause = cause })) (sym is) (record {
    first = [];
    others = line ∷ more;
    split = refl;
    line = omega (arith, place);
    text = [];
    now = session;
    all = (refl, refl);
    part = part;
    ends = h;
    whole = refl;
  }),
)

-- no line is left
pub lab_finishes : (u : Option (List ℕ)) (session : Session) (script : List (List ℕ)) (before : ℕ) (summary : Summary)
    → script ≡ [] → summary.lines ≡ before → summary.events ≡ session.events → RunsAs u u session script before (Ok summary)
lab_finishes u session script before summary none lines events =
    ([], Appends-nil u, subst (λ l. RunsTo session l before [] (Ok summary)) (sym none) (record { last = session; all = (refl, refl); lines = omega (arith, lines); events = events }))

fault_of : (fault : LabFault) (cause : Cause) → fault.cause ≡ Script cause → fault ≡ record { line = fault.line; cause = Script cause }
fault_of fault cause is = ap (λ c. record fault { cause = c }) is

-- ---- a line of a run

none_asked : (o : Option Asked) → option_map asked_said o ≡ None → o ≡ None
none_asked None is = refl
none_asked (Some asked) is = absurd (cc)

-- a line was carried out
pub ran_on : (old new : Bench) (u v : Option (List ℕ)) (line : List ℕ) (count : ℕ) (asked : Option Asked) → IsScripts line → IsUndrawn (moment_of old)
    → DoesLine line (option_map asked_said asked) old new u v
    → PrintsAs u v (meaning_of line) (session_of old.interpreter) (Ok tt) (session_of new.interpreter) → LineRan old new u v line count (Ok asked)
unfolding LinePrints
ran_on old new u v line count asked script undrawn h (Ok t, ends, (written, grew, told)) =
    let read = script_read line h.said script h.read in
    let does = script_does h.said (meaning_of line) old new u v read h.does in (
      none_asked asked (h.asks ∙ asks_nothing h.said (meaning_of line) read),
      written,
      grew,
      told,
      stays_undrawn old.options.seed h.said (meaning_of line) (moment_of old) (moment_of new) does.parts does.text read does.done undrawn,
      does.options,
    )
ran_on old new u v line count asked script undrawn h (Err cause, ends, told) = absurd (cc)

-- a line ended the run
pub ran_out : (old new : Bench) (u v : Option (List ℕ)) (line : List ℕ) (count at : ℕ) (cause : LabCause) → at ≡ count + 1
    → PrintsAs u v (meaning_of line) (session_of old.interpreter) (Err cause) (session_of new.interpreter)
    → LineRan old new u v line count (Err (record { line = at; cause = cause }))
unfolding LinePrints LineBegins
ran_out old new u v line count at cause is (Ok t, ends, told) = absurd (cc)
ran_out old new u v line count at cause is (Err why, ends, (written, grew, told)) = let same : cause ≡ Script why = cc in (is, why, same, written, grew, told)

-- ---- the loop over the lines

pub goes_start : (first : Bench) (u : Option (List ℕ)) (text : List ℕ) (before : ℕ) → IsPlain first.options → IsUndrawn (moment_of first) → All IsScripts (lines text)
    → GoesOn first u text before first u text before
goes_start first u text before plain undrawn old = (plain, undrawn, old, λ w end h. h)

-- lines after others
pub goes_both : (first now next : Bench) (u v w : Option (List ℕ)) (text rest left : List ℕ) (before count n : ℕ)
    → GoesOn first u text before now v rest count → GoesOn now v rest count next w left n → GoesOn first u text before next w left n
goes_both first now next u v w text rest left before count n h k = (k.0, k.1, k.2, λ x end runs. h.3 x end (k.3 x end runs))

-- a fault after lines that were carried out
pub goes_fail : (first now : Bench) (u v w : Option (List ℕ)) (text rest : List ℕ) (before count : ℕ) (fault : LabFault)
    → GoesOn first u text before now v rest count → Fails v w (session_of now.interpreter) (lines rest) count fault → Fails u w (session_of first.interpreter) (lines text) before fault
goes_fail first now u v w text rest before count fault h k = (k.0, k.1, h.3 w (Err k.0) k.2)

pub lines_split : (rest last behind : List ℕ) → IsUnbroken last → rest ≡ last ++ 10 ∷ behind → lines rest ≡ strip_carriage_return last ∷ lines behind
lines_split rest last behind whole is = ap lines is ∙ lines_first last behind whole

pub behind_more : (rest last behind more : List ℕ) → rest ≡ last ++ 10 ∷ behind → rest ++ more ≡ last ++ 10 ∷ (behind ++ more)
behind_more rest last behind more is = ap (λ l. l ++ more) is ∙ append_assoc last (10 ∷ behind) more

-- the line that comes next is one of hidrun's
pub next_old : (first now : Bench) (u v : Option (List ℕ)) (text rest last behind : List ℕ) (before count : ℕ) → IsUnbroken last → rest ≡ last ++ 10 ∷ behind
    → GoesOn first u text before now v rest count → IsScripts (strip_carriage_return last)
next_old first now u v text rest last behind before count whole is h =
    All-head IsScripts (strip_carriage_return last) (lines behind) (subst (All IsScripts) (lines_split rest last behind whole is) h.2)

pub goes_on : (first now next : Bench) (u v w : Option (List ℕ)) (text rest last behind : List ℕ) (before count : ℕ) (asked : Option Asked) → IsUnbroken last → rest ≡ last ++ 10 ∷ behind
    → GoesOn first u text before now v rest count → LineRan now next v w (strip_carriage_return last) count (Ok asked) → GoesOn first u text before next w behind (count + 1)
goes_on first now next u v w text rest last behind before count asked whole is h k =
    let split = lines_split rest last behind whole is in (
      subst IsPlain (sym k.5) h.0,
      k.4,
      All-tail IsScripts (strip_carriage_return last) (lines behind) (subst (All IsScripts) split h.2),
      λ x end runs. h.3 x end (lab_behind v w x (session_of now.interpreter) (session_of next.interpreter) (lines rest) (strip_carriage_return last) (lines behind) count k.1 end split k.2 k.3 runs),
    )

pub goes_out : (first now next : Bench) (u v w : Option (List ℕ)) (text rest last behind : List ℕ) (before count : ℕ) (fault : LabFault) → IsUnbroken last → rest ≡ last ++ 10 ∷ behind
    → GoesOn first u text before now v rest count → LineRan now next v w (strip_carriage_return last) count (Err fault) → Fails u w (session_of first.interpreter) (lines text) before fault
goes_out first now next u v w text rest last behind before count fault whole is h k = (
  record { line = fault.line; cause = k.1 },
  fault_of fault k.1 k.2,
  h.3 w (Err (record { line = fault.line; cause = k.1 })) (lab_stops v w (session_of now.interpreter) (lines rest) (strip_carriage_return last) (lines behind) count fault.line k.3 k.1
      (lines_split rest last behind whole is) k.0 k.4 k.5),
)

-- ---- the last line, which no line feed ends

pub empty_lines : (line : List ℕ) → nat_eq (length line) 0 ≡ true → lines line ≡ []
empty_lines [] is = refl
empty_lines (b ∷ line) is = absurd (omega (arith, eqb-true (length (b ∷ line)) 0 is))

pub some_bytes : (line : List ℕ) → nat_eq (length line) 0 ≡ false → 0 < length line
some_bytes line is = let other = eqb-false (length line) 0 is in omega (arith, other)

pub one_line : (line : List ℕ) → IsUnbroken line → 0 < length line → lines line ≡ line ∷ []
one_line line whole some = ap lines (sym (append-nil line)) ∙ last_line line whole some

pub last_old : (line : List ℕ) → IsUnbroken line → 0 < length line → All IsScripts (lines line) → IsScripts line
last_old line whole some h =
    All-head IsScripts line [] (subst (All IsScripts) (one_line line whole some) h)

pub last_on : (now next : Bench) (u v : Option (List ℕ)) (line : List ℕ) (count : ℕ) (asked : Option Asked) (summary : Summary) → IsUnbroken line → 0 < length line
    → LineRan now next u v line count (Ok asked) → summary.lines ≡ count + 1 → summary.events ≡ (session_of next.interpreter).events
    → RunsAs u v (session_of now.interpreter) (lines line) count (Ok summary)
last_on now next u v line count asked summary whole some h lines' events' =
    lab_behind u v v (session_of now.interpreter) (session_of next.interpreter) (lines line) line [] count h.1 (Ok summary) (one_line line whole some) h.2 h.3
    (lab_finishes v (session_of next.interpreter) [] (count + 1) summary refl lines' events')

pub last_out : (now next : Bench) (u v : Option (List ℕ)) (line : List ℕ) (count : ℕ) (fault : LabFault) → IsUnbroken line → 0 < length line
    → LineRan now next u v line count (Err fault) → Fails u v (session_of now.interpreter) (lines line) count fault
last_out now next u v line count fault whole some h = (
  record { line = fault.line; cause = h.1 },
  fault_of fault h.1 h.2,
  lab_stops u v (session_of now.interpreter) (lines line) line [] count fault.line h.3 h.1 (one_line line whole some) h.0 h.4 h.5,
)

-- a run that went on after lines of a text that were carried out
pub runs_through : (first now : Bench) (u v w : Option (List ℕ)) (text rest : List ℕ) (before count : ℕ) (result : Result Ran LabFault)
    → GoesOn first u text before now v rest count → RunsAsScript v w (session_of now.interpreter) (lines rest) count result
    → RunsAsScript u w (session_of first.interpreter) (lines text) before result
runs_through first now u v w text rest before count (Ok (ran.All summary)) h k = h.3 w (Ok summary) k
runs_through first now u v w text rest before count (Ok (ran.Asks asked line left)) h k = k
runs_through first now u v w text rest before count (Err fault) h k = goes_fail first now u v w text rest before count fault h k

pub fed_through : (first now : Bench) (u v w : Option (List ℕ)) (text rest : List ℕ) (before count : ℕ) (result : Result RunEnd LabFault)
    → GoesOn first u text before now v rest count → RunsFed v w (session_of now.interpreter) (lines rest) count result
    → RunsFed u w (session_of first.interpreter) (lines text) before result
fed_through first now u v w text rest before count (Ok (ended.All summary)) h k = h.3 w (Ok summary) k
fed_through first now u v w text rest before count (Ok (ended.Asks need)) h k = k
fed_through first now u v w text rest before count (Err fault) h k = goes_fail first now u v w text rest before count fault h k

-- ---- pieces

-- what a text has behind its front
pub rest_left : (text front rest : List ℕ) → text ≡ front ++ rest → drop (length text - length rest) text ≡ rest
rest_left text front rest is =
    let len : length text - length rest ≡ length front = omega (arith, ap length is, length-append front rest) in
    ap (λ n. drop n text) len ∙ ap (drop (length front)) is ∙ drop_at front rest (length front) refl

-- all bytes that are left are the last line, if there are any
pub rest_taken : (bytes line left : List ℕ) (none : Bool) → IsUnbroken bytes → line ≡ bytes → left ≡ drop (length bytes - 0) bytes → none ≡ nat_eq (length bytes) 0
    → TakesLine bytes line left (not none)
rest_taken bytes line left true whole is after none = empty_lines bytes (sym none)
rest_taken bytes line left false whole is after none =
    let empty : left ≡ [] = after ∙ rest_left bytes bytes [] (sym (append-nil bytes)) in
    one_line bytes whole (some_bytes bytes (sym none)) ∙ ap (λ l. l ∷ []) (sym is) ∙ ap (λ l. line ∷ lines l) (sym empty)

pub no_longer : (text front rest : List ℕ) → text ≡ front ++ rest → length rest ≤ length text
no_longer text front rest is = omega (arith, ap length is, length-append front rest)

outside_ends : (session : Session) (script : List (List ℕ)) (cause : Cause) → IsOutside cause → Ends (FirstPrints session script) (FirstBegins session script) [] cause
unfolding ending_of
outside_ends session script causes.Memory h = first_begins session script
outside_ends session script causes.Write h = ([], first_begins session script, ([], refl))
outside_ends session script causes.Read h = refl
outside_ends session script causes.TooManyReads h = refl
outside_ends session script cause h = absurd h

-- memory, the reader or the writer ended the run before its next line
pub outside_fails : (u v : Option (List ℕ)) (session : Session) (script : List (List ℕ)) (count : ℕ) (cause : Cause) (fault : LabFault) → Appends u v [] → IsOutside cause
    → fault.line ≡ count + 1 → fault.cause ≡ Script cause → Fails u v session script count fault
outside_fails u v session script count cause fault grew out at is = (
  record { line = fault.line; cause = cause },
  fault_of fault cause is,
  (
    [],
    grew,
    record {
      first = [];
      others = script;
      split = refl;
      line = omega (arith, at);
      text = [];
      now = session;
      all = (refl, refl);
      part = [];
      ends = outside_ends session script cause out;
      whole = refl;
    },
  ),
)

-- a line that is too long is none of hidrun's
too_long : (rest more : List ℕ) → IsUnbroken rest → 16385 < length rest → All IsScripts (lines (rest ++ more)) → ⊥
too_long rest more whole long old =
    let first = long_line 16384 [] rest more (All-nil (λ b. nat_eq b 10 ≡ false)) whole (omega (arith, long)) in
    let script = All-head IsScripts first.0 first.1 (subst (All IsScripts) first.2 old) in
    omega (arith, first.3, script.room)

pub stops_here : (u v : Option (List ℕ)) (rest : List ℕ) (count : ℕ) (cause : Cause) (fault : LabFault) → Appends u v []
    → IsOutside cause ⊎ ((cause ≡ causes.LineTooLong) × (16385 < length rest)) → fault.line ≡ count + 1 → fault.cause ≡ Script cause → StopsHere u v rest count fault
stops_here u v rest count cause fault grew (inl out) at is = λ session more whole old. outside_fails u v session (lines (rest ++ more)) count cause fault grew out at is
stops_here u v rest count cause fault grew (inr long) at is = λ session more whole old. absurd (too_long rest more whole long.1 old)

-- more bytes were read behind those that were
pub reads_more : (a read given more : List ℕ) → a ++ (read ++ (given ++ more)) ≡ a ++ ((read ++ given) ++ more)
reads_more a read given more = ap (λ l. a ++ l) (sym (append_assoc read given more))

-- what holds whatever comes holds of what is known
pub known_rest : (a b : Option (List ℕ)) (read : List ℕ) (P : List ℕ → Type 0) → Consumes a b read → ((more : List ℕ) → P (read ++ more)) → IfSome a P
known_rest None b read P h f = tt
known_rest (Some xs) None read P h f = absurd h
known_rest (Some xs) (Some ys) read P h f = subst P (sym h) (f ys)

-- the state of a run that has read so much
abbrev pub HasRun : Bench → Option (List ℕ) → List ℕ → ℕ → List ℕ → Bench → Option (List ℕ) → List ℕ → ℕ → Type 0
HasRun first u ahead before read now v left count =
    IsPlain first.options → IsUndrawn (moment_of first) → (more : List ℕ) → All IsScripts (lines (ahead ++ (read ++ more)))
    → GoesOn first u (ahead ++ (read ++ more)) before now v (left ++ more) count

pub runs_first : (first : Bench) (u : Option (List ℕ)) (ahead : List ℕ) (before : ℕ) → HasRun first u ahead before [] first u ahead before
runs_first first u ahead before = λ plain undrawn more old. goes_start first u (ahead ++ more) before plain undrawn old

-- lines were carried out
pub runs_lines : (first now next : Bench) (u v w : Option (List ℕ)) (ahead read : List ℕ) (before : ℕ) (old new : Ahead)
    → HasRun first u ahead before read now v (unread old) old.lines
    → (IsPlain now.options → IsUndrawn (moment_of now) → (more : List ℕ) → All IsScripts (lines (unread old ++ more)) → AheadRan now next v w old new more (Ok None))
    → HasRun first u ahead before read next w (unread new) new.lines
runs_lines first now next u v w ahead read before old new h k = λ plain undrawn more scripts.
    let here = h plain undrawn more scripts in
    goes_both first now next u v w (ahead ++ (read ++ more)) (unread old ++ more) (unread new ++ more) before old.lines new.lines here (k here.0 here.1 more here.2)

-- what was handed on, and what was printed then
pub appends_from : (a b c : Option (List ℕ)) (bs : List ℕ) → Keeps a b → Appends b c bs → Appends a c bs
appends_from None b c bs k g = tt
appends_from (Some xs) None c bs k g = absurd k
appends_from (Some xs) (Some ys) None bs k g = absurd g
appends_from (Some xs) (Some ys) (Some zs) bs k g = g ∙ ap (λ l. l ++ bs) k

kept_goes : (first now : Bench) (u v w : Option (List ℕ)) (text rest : List ℕ) (before count : ℕ) → Keeps v w → GoesOn first u text before now v rest count → GoesOn first u text before now w rest count
kept_goes first now u v w text rest before count keeps h = (h.0, h.1, h.2, λ x end runs. h.3 x end (runs.0, appends_from v w x runs.0 keeps runs.1, runs.2))

-- bytes were read
pub runs_read : (first now : Bench) (u v w : Option (List ℕ)) (ahead read given left next : List ℕ) (before count n : ℕ) → Keeps v w → next ≡ left ++ given → n ≡ count
    → HasRun first u ahead before read now v left count → HasRun first u ahead before (read ++ given) now w next n
runs_read first now u v w ahead read given left next before count n keeps is same h = λ plain undrawn more scripts.
    let here = h plain undrawn (given ++ more) (subst (λ t. All IsScripts (lines t)) (sym (reads_more ahead read given more)) scripts) in
    let kept = kept_goes first now u v w (ahead ++ (read ++ (given ++ more))) (left ++ (given ++ more)) before count keeps here in
    let there = subst (λ t. GoesOn first u t before now w (left ++ (given ++ more)) count) (reads_more ahead read given more) kept in
    let rest = subst (λ r. GoesOn first u (ahead ++ ((read ++ given) ++ more)) before now w r count) (sym (ap (λ l. l ++ more) is ∙ append_assoc left given more)) there in
    subst (λ m. GoesOn first u (ahead ++ ((read ++ given) ++ more)) before now w (next ++ more) m) (sym same) rest

-- a run that ended here, whatever comes
pub run_fails : (first now : Bench) (u v w : Option (List ℕ)) (a b : Option (List ℕ)) (ahead read left : List ℕ) (before count : ℕ) (fault : LabFault) (result : Result RunEnd LabFault) → Consumes a b read
    → HasRun first u ahead before read now v left count
    → ((more : List ℕ) → IsPlain now.options → IsUndrawn (moment_of now) → All IsScripts (lines (left ++ more)) → Fails v w (session_of now.interpreter) (lines (left ++ more)) count fault)
    → result ≡ Err fault → IsPlain first.options → IsUndrawn (moment_of first)
    → IfSome a (λ more. All IsScripts (lines (ahead ++ more)) → RunsFed u w (session_of first.interpreter) (lines (ahead ++ more)) before result)
run_fails first now u v w a b ahead read left before count fault result from h k is plain undrawn =
    known_rest a b read (λ more. All IsScripts (lines (ahead ++ more)) → RunsFed u w (session_of first.interpreter) (lines (ahead ++ more)) before result) from (λ more scripts.
    let here = h plain undrawn more scripts in
    subst (λ r. RunsFed u w (session_of first.interpreter) (lines (ahead ++ (read ++ more))) before r) (sym is)
    (goes_fail first now u v w (ahead ++ (read ++ more)) (left ++ more) before count fault here (k more here.0 here.1 here.2)))

-- a run to its end
pub run_ends_well : (first now : Bench) (u v w : Option (List ℕ)) (a b : Option (List ℕ)) (ahead read left : List ℕ) (before count : ℕ) (result : Result RunEnd LabFault) → Consumes a b read → IsAtEnd b
    → HasRun first u ahead before read now v left count
    → (IsPlain now.options → IsUndrawn (moment_of now) → All IsScripts (lines left) → RunsFed v w (session_of now.interpreter) (lines left) count result)
    → IsPlain first.options → IsUndrawn (moment_of first)
    → IfSome a (λ more. All IsScripts (lines (ahead ++ more)) → RunsFed u w (session_of first.interpreter) (lines (ahead ++ more)) before result)
run_ends_well first now u v w a b ahead read left before count result from end h k plain undrawn =
    Consumes-whole a b read (λ more. All IsScripts (lines (ahead ++ more)) → RunsFed u w (session_of first.interpreter) (lines (ahead ++ more)) before result) from end (λ scripts.
    let whole = subst (λ l. All IsScripts (lines (ahead ++ l))) (sym (append-nil read)) scripts in
    let here = h plain undrawn [] whole in
    let there = subst (λ r. GoesOn first u (ahead ++ (read ++ [])) before now v r count) (append-nil left) here in
    let all = fed_through first now u v w (ahead ++ (read ++ [])) left before count result there (k there.0 there.1 there.2) in
    subst (λ l. RunsFed u w (session_of first.interpreter) (lines (ahead ++ l)) before result) (append-nil read) all)

-- what was read goes on where a line asks for something, which no script does
pub run_asks : (first now next : Bench) (u v w : Option (List ℕ)) (a b : Option (List ℕ)) (ahead read : List ℕ) (before : ℕ) (old new : Ahead) (need : Need) → Consumes a b read
    → HasRun first u ahead before read now v (unread old) old.lines
    → (IsPlain now.options → IsUndrawn (moment_of now) → (more : List ℕ) → All IsScripts (lines (unread old ++ more)) → AheadRan now next v w old new more (Ok (Some need)))
    → IsPlain first.options → IsUndrawn (moment_of first) → IfSome a (λ more. All IsScripts (lines (ahead ++ more)) → ⊥)
run_asks first now next u v w a b ahead read before old new need from h k plain undrawn =
    known_rest a b read (λ more. All IsScripts (lines (ahead ++ more)) → ⊥) from (λ more scripts.
    let here = h plain undrawn more scripts in
    k here.0 here.1 more here.2)

-- what is left of the bytes that were read
pub left_is : (ahead next : Ahead) (text front rest : List ℕ) → text ≡ unread ahead → text ≡ front ++ rest → unread next ≡ drop (length (unread ahead) - length rest) (unread ahead) → unread next ≡ rest
left_is ahead next text front rest same is h = h ∙ rest_left (unread ahead) front rest (sym same ∙ is)

-- lines of the bytes that were read were carried out
pub ahead_on : (old new : Bench) (u v : Option (List ℕ)) (ahead next : Ahead) (text rest more : List ℕ) (before count : ℕ)
    → text ≡ unread ahead → before ≡ ahead.lines → unread next ≡ rest → next.lines ≡ count
    → GoesOn old u (text ++ more) before new v (rest ++ more) count → GoesOn old u (unread ahead ++ more) ahead.lines new v (unread next ++ more) next.lines
ahead_on old new u v ahead next text rest more before count same at left n h =
    let a = subst (λ t. GoesOn old u (t ++ more) before new v (rest ++ more) count) same h in
    let b = subst (λ m. GoesOn old u (unread ahead ++ more) m new v (rest ++ more) count) at a in
    let d = subst (λ r. GoesOn old u (unread ahead ++ more) ahead.lines new v (r ++ more) count) (sym left) b in
    subst (λ m. GoesOn old u (unread ahead ++ more) ahead.lines new v (unread next ++ more) m) (sym n) d

-- no more lines had come whole, so what is left has no line feed
pub none_needed : (need : Option Need) → ((n : Need) → need ≡ Some n → ⊥) → need ≡ None
none_needed None h = refl
none_needed (Some n) h = absurd (h n refl)

-- ---- runs that end by themselves

-- lines up to the end, or up to the first that is refused: so many were carried out
abbrev RunEnds : Session → List (List ℕ) → List ℕ → ℕ → Result Session Cause → Type 0
RunEnds session [] text n end = (text ≡ []) × (n ≡ 0) × (end ≡ Ok session)
RunEnds session (line ∷ more) text n end =
    ((first : List ℕ) × (next : Session) × (rest : List ℕ) × (m : ℕ)
    × LinePrints session line (success first next) × RunEnds next more rest m end × (text ≡ first ++ rest) × (n ≡ m + 1))
    ⊎ ((cause : Cause) × LinePrints session line (record { text = text; end = Err cause }) × (n ≡ 0) × (end ≡ Err cause))

session_in : Session → Result Session Cause → Session
session_in d (Ok session) = session
session_in d (Err cause) = d

same_session : (text other : List ℕ) (a b : Session) → success text a ≡ success other b → a ≡ b
unfolding session_in
same_session text other a b e = ap (λ (o : Outcome). session_in a o.end) e

-- lines have one such end
one_end : LineHasOneOutcome → (script : List (List ℕ)) (session : Session) (text other : List ℕ) (n m : ℕ) (end last : Result Session Cause)
    → RunEnds session script text n end → RunEnds session script other m last → (text ≡ other) × (n ≡ m) × (end ≡ last)
one_end one [] session text other n m end last h k = (h.0 ∙ sym k.0, h.1 ∙ sym k.1, h.2 ∙ sym k.2)
one_end one (line ∷ more) session text other n m end last (inl h) (inl k) =
    let same = one session line (success h.0 h.1) (success k.0 k.1) h.4 k.4 in
    let next = same_session h.0 k.0 h.1 k.1 same in
    let rest = one_end one more k.1 h.2 k.2 h.3 k.3 end last (subst (λ s. RunEnds s more h.2 h.3 end) next h.5) k.5 in
    (h.6 ∙ ap (λ t. t ++ h.2) (ap (λ (o : Outcome). o.text) same) ∙ ap (λ t. k.0 ++ t) rest.0 ∙ sym k.6, h.7 ∙ ap (λ l. l + 1) rest.1 ∙ sym k.7, rest.2)
one_end one (line ∷ more) session text other n m end last (inl h) (inr k) =
    let ends = ap (λ (o : Outcome). o.end) (one session line (success h.0 h.1) (record { text = other; end = Err k.0 }) h.4 k.1) in absurd (cc)
one_end one (line ∷ more) session text other n m end last (inr h) (inl k) =
    let ends = ap (λ (o : Outcome). o.end) (one session line (record { text = text; end = Err h.0 }) (success k.0 k.1) h.1 k.4) in absurd (cc)
one_end one (line ∷ more) session text other n m end last (inr h) (inr k) =
    let same = one session line (record { text = text; end = Err h.0 }) (record { text = other; end = Err k.0 }) h.1 k.1 in
    let causes = ap (λ (o : Outcome). o.end) same in
    let cause : h.0 ≡ k.0 = cc in
    (ap (λ (o : Outcome). o.text) same, h.2 ∙ sym k.2, h.3 ∙ ap (λ c. Err c) cause ∙ sym k.3)

-- the answer of a run with so many lines before it, by its end
abbrev answer_of : ℕ → ℕ → Result Session Cause → Result Summary ScriptFault
answer_of before n (Ok session) = Ok (record { lines = before + n; events = session.events })
answer_of before n (Err cause) = Err (record { line = before + n + 1; cause = cause })

-- a run that ended by itself has such an end
abbrev HasEnd : Session → List (List ℕ) → ℕ → List ℕ → Result Summary ScriptFault → Type 0
HasEnd session script before written result =
    (n : ℕ) × (end : Result Session Cause) × RunEnds session script written n end × (result ≡ answer_of before n end)

all_ends : (script : List (List ℕ)) (session last : Session) (written : List ℕ) → AllPrint session script written last → RunEnds session script written (length script) (Ok last)
all_ends [] session last written h = (h.0, refl, ap (λ (s : Session). Ok s) h.1)
all_ends (line ∷ more) session last written h =
    inl (h.0, h.1, h.2, length more, h.3, all_ends more h.1 last h.2 h.4, h.5, omega arith)

first_refused : (session : Session) (others : List (List ℕ)) (part : List ℕ) (cause : Cause) (ending : Ending) → ending ≡ RefusedLine
    → EndsAs ending (FirstPrints session others) (FirstBegins session others) part cause → RunEnds session others part 0 (Err cause)
first_refused session [] part cause ending is h = absurd (subst (λ e. EndsAs e (FirstPrints session []) (FirstBegins session []) part cause) is h)
first_refused session (line ∷ more) part cause ending is h =
    inr (cause, subst (λ e. EndsAs e (FirstPrints session (line ∷ more)) (FirstBegins session (line ∷ more)) part cause) is h, refl, refl)

refused_behind : (first others : List (List ℕ)) (session now : Session) (text part : List ℕ) (cause : Cause) → AllPrint session first text now
    → RunEnds now others part 0 (Err cause) → RunEnds session (first ++ others) (text ++ part) (length first) (Err cause)
refused_behind [] others session now text part cause h k =
    subst (λ s. RunEnds s others (text ++ part) 0 (Err cause)) h.1 (subst (λ t. RunEnds now others (t ++ part) 0 (Err cause)) (sym h.0) k)
refused_behind (line ∷ first) others session now text part cause h k =
    inl (h.0, h.1, h.2 ++ part, length first, h.3, refused_behind first others h.1 now h.2 part cause h.4 k, ap (λ t. t ++ part) h.5 ∙ append_assoc h.0 h.2 part, omega arith)

summary_is : (summary : Summary) (lines events : ℕ) → summary.lines ≡ lines → summary.events ≡ events → summary ≡ record { lines = lines; events = events }
summary_is summary lines events l e = ap (λ n. record summary { lines = n }) l ∙ ap (λ n. record { lines = lines; events = n }) e

fault_is : (fault : ScriptFault) (at : ℕ) → fault.line ≡ at → fault ≡ record { line = at; cause = fault.cause }
fault_is fault at e = ap (λ n. record fault { line = n }) e

run_ends : (session : Session) (script : List (List ℕ)) (before : ℕ) (written : List ℕ) (result : Result Summary ScriptFault)
    → RunsTo session script before written result → EndsByItself result → HasEnd session script before written result
run_ends session script before written (Ok summary) h is =
    (length script, Ok h.last, all_ends script session h.last written h.all, ap (λ s. Ok s) (summary_is summary _ _ h.lines h.events))
run_ends session script before written (Err fault) h is = (
  length h.first,
  Err fault.cause,
  subst (λ l. RunEnds session l written (length h.first) (Err fault.cause)) (sym h.split)
      (subst (λ t. RunEnds session (h.first ++ h.others) t (length h.first) (Err fault.cause)) (sym h.whole)
      (refused_behind h.first h.others session h.now h.text h.part fault.cause h.all (first_refused h.now h.others h.part fault.cause (ending_of fault.cause) is h.ends))),
  ap (λ f. Err f) (fault_is fault _ h.line),
)

pub one_run : LineHasOneOutcome → RunsAreOne
one_run one session script before written other result end h k is too =
    let a = run_ends session script before written result h is in
    let b = run_ends session script before other end k too in
    let same = one_end one script session written other a.0 b.0 a.1 b.1 a.2 b.2 in
    (same.0, a.3 ∙ ap (λ n. answer_of before n a.1) same.1 ∙ ap (answer_of before b.0) same.2 ∙ sym b.3)

-- ---- scripts that end well

all_old : (script : List (List ℕ)) (session last : Session) (written : List ℕ) → AllPrint session script written last → All IsScripts script
unfolding LinePrints
all_old [] session last written h = All-nil IsScripts
all_old (line ∷ more) session last written h =
    let said = said_of_meaning session h.1 h.0 line (meaning_of line) refl h.3 in
    All-cons IsScripts line more (script_old line said.0 said.1) (all_old more h.1 last h.2 h.4)

pub ends_well : ScriptsThatEndWell
ends_well session script before written summary h = all_old script session h.last written h.all

-- ---- how taking a line ends

-- what holds of the fault that a result has
pub err_told : (P : LabFault → Type 0) (fault : LabFault) (r : Result Bool LabFault) → IsErrAnd r (λ y. y ≡ fault) → P fault → IfErr r P
err_told P fault (Ok some) is h = tt
err_told P fault (Err y) is h = subst P (sym is) h

-- what holds of the fault of a result, if another thing does
pub err_mapped : (P Q : LabFault → Type 0) (r : Result Bool LabFault) → ((fault : LabFault) → P fault → Q fault) → IfErr r P → IfErr r Q
err_mapped P Q (Ok some) f h = tt
err_mapped P Q (Err fault) f h = f fault h

-- memory ran out
pub ends_by_memory : (rest : List ℕ) (before : Option (List ℕ)) (count at : ℕ) (fault : LabFault) → at ≡ count
    → (fault.line ≡ at + 1) × (fault.cause ≡ Script causes.Memory) → EndsTaking rest before count fault
ends_by_memory rest before count at fault same h = (h.0 ∙ ap (λ (n : ℕ). n + 1) same, causes.Memory, h.1, inl tt)

-- a read ended it, after which bytes of the same line had come
pub ends_by_reading : (rest read now : List ℕ) (before after : Option (List ℕ)) (count at : ℕ) (fault : LabFault) → at ≡ count
    → Consumes before after read → now ≡ rest ++ read → IsUnbroken now → EndsReading now at fault → EndsTaking rest before count fault
ends_by_reading rest read now before after count at fault same took is whole h = (h.0 ∙ ap (λ (n : ℕ). n + 1) same, h.1, h.2, long h.3)
  where
    long : IsOutside h.1 ⊎ ((h.1 ≡ causes.LineTooLong) × (16385 < length now)) → IsOutside h.1 ⊎ ((h.1 ≡ causes.LineTooLong) × BeginsTooLong rest before)
    long (inl out) = inl out
    long (inr many) = inr (many.0, (read, after, took, subst IsUnbroken is whole, subst (λ (bytes : List ℕ). 16385 < length bytes) is many.1))
