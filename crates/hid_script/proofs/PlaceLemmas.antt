-- Lines of a script that comes in pieces, and what a run of them wrote.
use Rattle.std.proofs.Common.{◌≡◌, ℕ, ◌+◌, ◌<◌, List, [], ◌∷◌, ◌++◌, length, length-append, refl, sym, ap, ◌∙◌, arith, append-nil, append_assoc, subst, Result, Ok, Err, Option, None, Some, IfSome, IsErrAnd, nat_lt}
use Rattle.std.specs.Str.Lines.{lines, strip_carriage_return}
use Rattle.std.specs.Io.KnownBytes.{Appends, Consumes, IsAtEnd}
use Rattle.std.proofs.lemmas.Bool.{cond-true, lt-ltb}
use Rattle.std.proofs.KnownBytes.{Consumes-trans, Consumes-whole, Appends-trans, Appends-nil}
use Rattle.hid_script.specs.declared.fault.Cause.{Cause}
use Rattle.hid_script.specs.declared.fault.Cause.TheVariants as causes
use Rattle.hid_script.specs.declared.fault.ScriptFault.{ScriptFault}
use Rattle.hid_script.specs.declared.summary.Summary.{Summary}
use Rattle.hid_text.specs.Lines.{IsUnbroken}
use Rattle.hid_text.proofs.PieceLemmas.{gives_nothing, gives_more, gives_none, gives_line, last_line, long_line}
use Rattle.hid_text.specs.Words.{words_of}
use Rattle.hid_text.specs.Line.{line_meaning, meaning_of}
use Rattle.hid_script.specs.declared.options.Options.{Options}
use Rattle.hid_script.specs.Session.{Session, success, failure, at_first, Repeats}
use Rattle.hid_text.specs.declared.fault.LineFault.{LineFault}
use Rattle.hid_text.specs.declared.fault.LineFault.TheVariants as line_faults
use Rattle.hid_text.specs.declared.line.Line.{Line}
use Rattle.hid_script.specs.LineOutput.{LinePrints, LineBegins, BeginsMeant, MeaningPrints}
use Rattle.hid_script.specs.Runs.{NotRun, ending_of, EndsAs, Ends, FirstPrints, FirstBegins, AllPrint, RunsTo, AppendsScript}
use Rattle.hid_script.specs.Place.{Place, lines_at, Writes, Advances, RunsFrom, Takes, AppendsFrom}

-- ---- what lines tell, one after the other

-- a text that is two others, before a third
after_both : (a b c t u : List ℕ) → t ≡ a ++ b → t ++ u ≡ a ++ (b ++ u)
after_both a b c t u e = ap (λ l. l ++ u) e ∙ append_assoc a b u

-- lines that are reported after other lines
all_more : (session middle last : Session) (first more : List (List ℕ)) (text rest : List ℕ)
    → AllPrint session first text middle → AllPrint middle more rest last
    → AllPrint session (first ++ more) (text ++ rest) last
all_more session middle last [] more text rest h k =
    subst (λ (s : Session). AllPrint s more (text ++ rest) last) h.1
    (subst (λ t. AllPrint middle more (t ++ rest) last) (sym h.0) k)
all_more session middle last (line ∷ first) more text rest h k =
    (h.0, h.1, h.2 ++ rest, h.3, all_more h.1 middle last first more h.2 rest h.4 k, after_both h.0 h.2 [] text rest h.5)

-- one line that was reported
one_tells : (session next : Session) (line text : List ℕ) → LinePrints session line (success text next)
    → AllPrint session (line ∷ []) text next
one_tells session next line text h = (text, next, [], h, (refl, refl), sym (append-nil text))

-- ---- pieces

pub advances_nothing : (p : Place) → Advances p [] [] p
advances_nothing p = record { ended = []; all = (refl, refl); count = omega arith; split = gives_nothing p.begun }

pub advances_more : (p q r : Place) (a b v w : List ℕ) → Advances p a v q → Advances q b w r → Advances p (a ++ b) (v ++ w) r
advances_more p q r a b v w h k = record {
  ended = h.ended ++ k.ended;
  all = all_more p.session q.session r.session h.ended k.ended v w h.all k.all;
  count = omega (arith, h.count, k.count, length-append h.ended k.ended);
  split = gives_more p.begun q.begun r.begun a b h.ended k.ended h.split k.split;
}

-- bytes that end no line
pub advances_kept : (session : Session) (begun bytes left : List ℕ) (n : ℕ) → left ≡ begun ++ bytes
    → Advances (record { session = session; begun = begun; lines = n }) bytes [] (record { session = session; begun = left; lines = n })
advances_kept session begun bytes left n same = rw same (record { ended = []; all = (refl, refl); count = omega arith; split = gives_none begun bytes })

-- the last bytes of a line and its line feed, where the line was told whole
pub advances_line : (session next : Session) (begun last line : List ℕ) (n : ℕ) (written : List ℕ) → IsUnbroken begun → IsUnbroken last
    → line ≡ strip_carriage_return (begun ++ last) → LinePrints session line (success written next)
    → Advances (record { session = session; begun = begun; lines = n }) (last ++ 10 ∷ []) written (record { session = next; begun = []; lines = n + 1 })
advances_line session next begun last line n written whole apart same told = record {
  ended = line ∷ [];
  all = one_tells session next line written told;
  count = omega arith;
  split = gives_line begun last line whole apart same;
}

-- ---- ends

-- a run that ended in its first line
line_stops : (session : Session) (script others : List (List ℕ)) (before : ℕ) (line part : List ℕ) (cause : Cause) (fault : ScriptFault) → script ≡ line ∷ others → fault.line ≡ before + 1 → fault.cause ≡ cause
    → Ends (LinePrints session line) (LineBegins session line) part cause
    → RunsTo session script before part (Err fault)
line_stops session script others before line part cause fault e at is h = record {
  first = [];
  others = line ∷ others;
  split = e;
  line = omega (arith, at);
  text = [];
  now = session;
  all = (refl, refl);
  part = part;
  ends = subst (λ c. Ends (FirstPrints session (line ∷ others)) (FirstBegins session (line ∷ others)) part c)
      (sym is) h;
  whole = refl;
}

-- what runs on after lines that were reported
runs_more : (session middle : Session) (first others : List (List ℕ)) (before after : ℕ) (text rest : List ℕ)
    (result : Result Summary ScriptFault) → AllPrint session first text middle → after ≡ before + length first
    → RunsTo middle others after rest result → RunsTo session (first ++ others) before (text ++ rest) result
runs_more session middle first others before after text rest (Ok summary) h at k = record {
  last = k.last;
  all = all_more session middle k.last first others text rest h k.all;
  lines = omega (arith, k.lines, length-append first others);
  events = k.events;
}
runs_more session middle first others before after text rest (Err fault) h at k = record {
  first = first ++ k.first;
  others = k.others;
  split = ap (λ l. first ++ l) k.split ∙ sym (append_assoc first k.first k.others);
  line = omega (arith, k.line, length-append first k.first);
  text = text ++ k.text;
  now = k.now;
  all = all_more session middle k.now first k.first text k.text h k.all;
  part = k.part;
  ends = k.ends;
  whole = ap (λ l. text ++ l) k.whole ∙ sym (append_assoc text k.text k.part);
}

-- what runs on from a place that was advanced to
pub runs_after : (p q : Place) (bytes more written text : List ℕ) (result : Result Summary ScriptFault) → Advances p bytes written q → RunsFrom q more text result → RunsFrom p (bytes ++ more) (written ++ text) result
runs_after p q bytes more written text result h k =
    subst (λ script. RunsTo p.session script p.lines (written ++ text) result) (sym (h.split more))
    (runs_more p.session q.session h.ended (lines_at q more) p.lines q.lines written text result h.all h.count k)

-- a line that is too long ends the run
pub long_stops : (place : Place) (bytes more : List ℕ) (fault : ScriptFault) → IsUnbroken place.begun → IsUnbroken bytes → 1025 < length place.begun + length bytes → fault.line ≡ place.lines + 1 → fault.cause ≡ causes.LineTooLong
    → RunsFrom place (bytes ++ more) [] (Err fault)
unfolding LinePrints meaning_of ending_of
long_stops place bytes more fault whole apart long at is =
    let first = long_line 1024 place.begun bytes more whole apart long in
    let meant : meaning_of first.0 ≡ Err line_faults.LineTooLong =
    cond-true (nat_lt 1024 (length first.0)) (Err line_faults.LineTooLong) (line_meaning (words_of first.0))
    (lt-ltb 1024 (length first.0) first.3) in
    line_stops place.session (lines_at place (bytes ++ more)) first.1 place.lines first.0 [] causes.LineTooLong fault first.2 at is
    (subst (λ m. MeaningPrints place.session m (failure causes.LineTooLong)) (sym meant) refl)

-- one whose line feed came too
pub long_line_stops : (place : Place) (last more : List ℕ) (fault : ScriptFault) → IsUnbroken place.begun → IsUnbroken last → 1025 < length place.begun + length last → fault.line ≡ place.lines + 1 → fault.cause ≡ causes.LineTooLong
    → RunsFrom place ((last ++ 10 ∷ []) ++ more) [] (Err fault)
long_line_stops place last more fault whole apart long at is =
    subst (λ all. RunsFrom place all [] (Err fault)) (sym (append_assoc last (10 ∷ []) more)) (long_stops place last (10 ∷ more) fault whole apart long at is)

-- a line that ended the run at its line feed
pub line_feed_stops : (place : Place) (next : Session) (last line more written : List ℕ) (cause : Cause) (fault : ScriptFault) → IsUnbroken place.begun → IsUnbroken last → line ≡ strip_carriage_return (place.begun ++ last)
    → Writes (LinePrints place.session line) (LineBegins place.session line) written (Err cause) next
    → fault.line ≡ place.lines + 1 → fault.cause ≡ cause
    → RunsFrom place ((last ++ 10 ∷ []) ++ more) written (Err fault)
line_feed_stops place next last line more written cause fault whole apart same told at is =
    line_stops place.session (lines_at place ((last ++ 10 ∷ []) ++ more)) (lines more) place.lines line written cause fault (gives_line place.begun last line whole apart same more) at is told

-- ---- piece by piece

-- bytes that were taken after others
pub takes_more : (p q r : Place) (before bytes v w : List ℕ) (result : Result (Unit {0}) ScriptFault) → Advances p before v q → Takes q bytes w result r → Takes p (before ++ bytes) (v ++ w) result r
takes_more p q r before bytes v w (Ok u) h k = advances_more p q r before bytes v w h k
takes_more p q r before bytes v w (Err fault) h k = λ more.
    subst (λ all. RunsFrom p all (v ++ w) (Err fault)) (sym (append_assoc before bytes more)) (runs_after p q before (bytes ++ more) v w (Err fault) h (k more))

-- the last bytes of a piece
pub takes_last : (p q r : Place) (bytes before rest v : List ℕ) (result : Result (Unit {0}) ScriptFault) → bytes ≡ before ++ rest → Advances p before v q → Takes q rest [] result r → Takes p bytes v result r
takes_last p q r bytes before rest v result parts h k =
    subst (λ all. Takes p all v result r) (sym parts) (subst (λ text. Takes p (before ++ rest) text result r) (append-nil v) (takes_more p q r before rest v [] result h k))

-- a piece whose first bytes ended the run
pub stops_early : (p r : Place) (bytes front rest written : List ℕ) (fault : ScriptFault) (result : Result (Unit {0}) ScriptFault) → bytes ≡ front ++ rest → ((more : List ℕ) → RunsFrom p (front ++ more) written (Err fault))
    → IsErrAnd result (λ e. e ≡ fault) → Takes p bytes written result r
stops_early p r bytes front rest written fault (Ok u) parts stops is = absurd is
stops_early p r bytes front rest written fault (Err e) parts stops is = λ more.
    rw is (subst (λ all. RunsFrom p all written (Err fault)) (sym (ap (λ l. l ++ more) parts ∙ append_assoc front rest more)) (stops (rest ++ more)))

-- ---- whole runs

-- a fault that comes before any text of a line may come at any time
pub outside_stops : (place : Place) (more : List ℕ) (fault : ScriptFault) → ending_of fault.cause ≡ NotRun
    → fault.line ≡ place.lines + 1 → RunsFrom place more [] (Err fault)
outside_stops place more fault is at = record {
  first = [];
  others = lines_at place more;
  split = refl;
  line = omega (arith, at);
  text = [];
  now = place.session;
  all = (refl, refl);
  part = [];
  ends = subst
      (λ e. EndsAs e (FirstPrints place.session (lines_at place more))
      (FirstBegins place.session (lines_at place more)) [] fault.cause) (sym is) refl;
  whole = refl;
}

-- what holds whatever comes holds of what is known
known_rest : (a b : Option (List ℕ)) (read : List ℕ) (P : List ℕ → Type 0) → Consumes a b read → ((more : List ℕ) → P (read ++ more)) → IfSome a P
known_rest None b read P h f = tt
known_rest (Some xs) None read P h f = absurd h
known_rest (Some xs) (Some ys) read P h f = subst P (sym h) (f ys)

pub last_line_told : (place : Place) (next : Session) (written : List ℕ) (summary : Summary) → IsUnbroken place.begun
    → 0 < length place.begun → LinePrints place.session place.begun (success written next)
    → summary.lines ≡ place.lines + 1 → summary.events ≡ next.events → RunsFrom place [] written (Ok summary)
last_line_told place next written summary whole some told lines' events' =
    rw (last_line place.begun whole some) (record { last = next; all = one_tells place.session next place.begun written told; lines = omega (arith, lines'); events = events' })

pub last_line_stops : (place : Place) (next : Session) (written : List ℕ) (cause : Cause) (fault : ScriptFault)
    → IsUnbroken place.begun → 0 < length place.begun
    → Writes (LinePrints place.session place.begun) (LineBegins place.session place.begun) written (Err cause) next
    → fault.line ≡ place.lines + 1 → fault.cause ≡ cause → RunsFrom place [] written (Err fault)
last_line_stops place next written cause fault whole some told at is =
    line_stops place.session (lines_at place []) [] place.lines place.begun written cause fault (last_line place.begun whole some) at is told

pub no_last_line : (place : Place) (summary : Summary) → place.begun ≡ [] → summary.lines ≡ place.lines → summary.events ≡ place.session.events → RunsFrom place [] [] (Ok summary)
no_last_line place summary none lines' events' =
    let all : lines_at place [] ≡ [] = ap (λ bytes. lines (bytes ++ [])) none in
    rw all (record { last = place.session; all = (refl, refl); lines = omega (arith, lines'); events = events' })

-- the place of a script of which nothing has come
abbrev pub start : Options → Place
start options = record { session = at_first options; begun = []; lines = 0 }

-- a run to the end of all that the reader had
pub whole_run : (place : Place) (a b c d e f : Option (List ℕ)) (read written text none : List ℕ) (now : Place) (result : Result Summary ScriptFault)
    → Consumes a b read → Appends c d written → Advances place read written now → Consumes b e none → none ≡ [] → IsAtEnd e → Appends d f text → RunsFrom now [] text result
    → AppendsFrom place a c f result
whole_run place a b c d e f read written text none now result from grew taken more nothing end last runs =
    Consumes-whole a e (read ++ none) _ (Consumes-trans a b e read none from more) end
    (written ++ text, Appends-trans c d f written text grew last, rw nothing (runs_after place now read [] written text result taken runs))

-- a run that broke off
pub broken_run : (place : Place) (a b c d f : Option (List ℕ)) (read written text : List ℕ) (now : Place) (result : Result Summary ScriptFault)
    → Consumes a b read → Appends c d written → Advances place read written now → Appends d f text → ((more : List ℕ) → RunsFrom now more text result)
    → AppendsFrom place a c f result
broken_run place a b c d f read written text now result from grew taken last stops =
    known_rest a b read _ from (λ more. (written ++ text, Appends-trans c d f written text grew last, runs_after place now read more written text result taken (stops more)))

-- nothing more is written at a fault from outside
pub outside_run : (place : Place) (a b c d : Option (List ℕ)) (read written : List ℕ) (now : Place) (fault : ScriptFault) → Consumes a b read → Appends c d written → Advances place read written now
    → ending_of fault.cause ≡ NotRun → fault.line ≡ now.lines + 1 → AppendsFrom place a c d (Err fault)
outside_run place a b c d read written now fault from grew taken is at =
    broken_run place a b c d d read written [] now (Err fault) from grew taken (Appends-nil d) (λ more. outside_stops now more fault is at)

-- the piece that was read ended the run
pub piece_stops : (place : Place) (a b e c d f : Option (List ℕ)) (read written text piece : List ℕ) (now : Place) (fault : ScriptFault) (result : Result Summary ScriptFault)
    → Consumes a b read → Appends c d written → Advances place read written now → Consumes b e piece → Appends d f text
    → ((more : List ℕ) → RunsFrom now (piece ++ more) text (Err fault)) → IsErrAnd result (λ x. x ≡ fault) → AppendsFrom place a c f result
piece_stops place a b e c d f read written text piece now fault (Ok u) from grew taken more last stops is = absurd is
piece_stops place a b e c d f read written text piece now fault (Err x) from grew taken more last stops is =
    known_rest a e (read ++ piece) _ (Consumes-trans a b e read piece from more) (λ after. (
      written ++ text,
      Appends-trans c d f written text grew last,
      rw is (subst (λ all. RunsFrom place all (written ++ text) (Err fault)) (sym (append_assoc read piece after))
          (runs_after place now read (piece ++ after) written text (Err fault) taken (stops after))),
    ))

-- ---- a run that doesn't begin

pub begins_meant : (session : Session) (meaning : Result Line LineFault) → BeginsMeant session meaning []
unfolding Repeats
begins_meant session (Ok said) = (0, session, omega arith, refl)
begins_meant session (Err cause) = refl

pub begins_nothing : (session : Session) (line : List ℕ) → LineBegins session line []
unfolding LineBegins
begins_nothing session line = begins_meant session (meaning_of line)

pub first_begins : (session : Session) (script : List (List ℕ)) → FirstBegins session script []
first_begins session [] = refl
first_begins session (line ∷ more) = begins_nothing session line

no_line_run : (options : Options) (script : List ℕ) (fault : ScriptFault) → fault.line ≡ 1 → fault.cause ≡ causes.Memory → RunsTo (at_first options) (lines script) 0 [] (Err fault)
unfolding ending_of
no_line_run options script fault at is = record {
  first = [];
  others = lines script;
  split = refl;
  line = omega (arith, at);
  text = [];
  now = at_first options;
  all = (refl, refl);
  part = [];
  ends = subst
      (λ c. Ends (FirstPrints (at_first options) (lines script)) (FirstBegins (at_first options) (lines script)) [] c)
      (sym is) (first_begins (at_first options) (lines script));
  whole = refl;
}

-- memory for the devices ran out before the first read
pub never_begun : (options : Options) (a c : Option (List ℕ)) (fault : ScriptFault) → fault.line ≡ 1 → fault.cause ≡ causes.Memory → AppendsScript options a c c (Err fault)
never_begun options None c fault at is = tt
never_begun options (Some script) c fault at is = ([], Appends-nil c, no_line_run options script fault at is)
