-- Lines of a recording that comes in pieces, and what a run of them wrote.
use Rattle.std.proofs.Common.{◌≡◌, ℕ, ◌+◌, ◌<◌, List, [], ◌∷◌, ◌++◌, length, length-append, refl, sym, ap, inl, ◌∙◌, arith, append-nil, append_assoc, subst, inr, Result, Ok, Err, Option, None, Some, IfSome, IsErrAnd}
use Rattle.std.specs.Str.Lines.{lines, strip_carriage_return}
use Rattle.std.specs.Io.KnownBytes.{Appends, Consumes, IsAtEnd}
use Rattle.std.proofs.lemmas.Bool.{lt-ltb}
use Rattle.std.proofs.KnownBytes.{Consumes-trans, Consumes-whole, Appends-trans, Appends-nil}
use Rattle.hid_text.specs.Lines.{IsUnbroken}
use Rattle.hid_text.proofs.PieceLemmas.{gives_nothing, gives_more, gives_none, gives_line, last_line, long_line}
use Rattle.hid_recording.specs.declared.fault.Cause.{Cause}
use Rattle.hid_recording.specs.declared.fault.Cause.TheVariants as causes
use Rattle.hid_recording.specs.declared.fault.RecordingFault.{RecordingFault}
use Rattle.hid_recording.specs.declared.summary.Summary.{Summary}
use Rattle.hid_recording.specs.declared.counted.Counted.TheVariants.{Lines}
use Rattle.hid_recording.specs.declared.options.Options.{Options}
use Rattle.hid_recording.specs.Session.{Session, success, failure, at_first}
use Rattle.hid_recording.specs.LineOutput.{LineGives, LineBegins, GivesByLength}
use Rattle.hid_recording.specs.Player.{summary_of}
use Rattle.hid_recording.specs.Runs.{NotRun, ending_of, EndsAs, Ends, FirstGives, FirstBegins, AllGive, PlayedTo, RunsTo, AppendsRecording}
use Rattle.hid_recording.specs.Place.{Place, lines_at, Writes, Advances, RunsFrom, Takes, EndsAt, AppendsFrom}

-- ---- what lines tell, one after the other

-- two texts before a third
after_both : (a b c t u : List ℕ) → t ≡ a ++ b → t ++ u ≡ a ++ (b ++ u)
after_both a b c t u e = ap (λ l. l ++ u) e ∙ append_assoc a b u

-- lines after lines
all_more : (session middle last : Session) (first more : List (List ℕ)) (text rest : List ℕ)
    → AllGive session first text middle → AllGive middle more rest last
    → AllGive session (first ++ more) (text ++ rest) last
all_more session middle last [] more text rest h k =
    subst (λ (s : Session). AllGive s more (text ++ rest) last) h.1
    (subst (λ t. AllGive middle more (t ++ rest) last) (sym h.0) k)
all_more session middle last (line ∷ first) more text rest h k =
    (h.0, h.1, h.2 ++ rest, h.3, all_more h.1 middle last first more h.2 rest h.4 k, after_both h.0 h.2 [] text rest h.5)

-- one line
one_tells : (session next : Session) (line text : List ℕ) → LineGives session line (success text next)
    → AllGive session (line ∷ []) text next
one_tells session next line text h = (text, next, [], h, (refl, refl), sym (append-nil text))

-- ---- pieces

pub advances_nothing : (p : Place) → Advances p [] [] p
advances_nothing p = record { ended = []; all = (refl, refl); count = omega arith; split = gives_nothing p.begun }

pub advances_more : (p q r : Place) (a b v w : List ℕ) → Advances p a v q → Advances q b w r → Advances p (a ++ b) (v ++ w) r
advances_more p q r a b v w h k = record {
  ended = h.ended ++ k.ended;
  all = all_more p.session q.session r.session h.ended k.ended v w h.all k.all;
  count = omega (arith, h.count, k.count, length-append h.ended k.ended);
  split = gives_more p.begun q.begun r.begun a b h.ended k.ended h.split k.split;
}

-- bytes that end no line
pub advances_kept : (session : Session) (begun bytes left : List ℕ) (n : ℕ) → left ≡ begun ++ bytes
    → Advances (record { session = session; begun = begun; lines = n }) bytes [] (record { session = session; begun = left; lines = n })
advances_kept session begun bytes left n same = rw same (record { ended = []; all = (refl, refl); count = omega arith; split = gives_none begun bytes })

-- the last bytes of a line and its line feed, where the line was told whole
pub advances_line : (session next : Session) (begun last line : List ℕ) (n : ℕ) (written : List ℕ) → IsUnbroken begun → IsUnbroken last
    → line ≡ strip_carriage_return (begun ++ last) → LineGives session line (success written next)
    → Advances (record { session = session; begun = begun; lines = n }) (last ++ 10 ∷ []) written (record { session = next; begun = []; lines = n + 1 })
advances_line session next begun last line n written whole apart same told = record {
  ended = line ∷ [];
  all = one_tells session next line written told;
  count = omega arith;
  split = gives_line begun last line whole apart same;
}

-- ---- what was played

-- up to a line, by what was counted before it
pub stopped_at : (session : Session) (n : ℕ) (played : Summary) (fault : RecordingFault) → played.lines ≡ n → played ≡ summary_of session played.lines → fault.line ≡ played.lines + 1 → fault.played ≡ played
    → (fault.line ≡ n + 1) × PlayedTo session fault
stopped_at session n played fault count counts at is = (omega (arith, count, at), is ∙ counts ∙ ap (summary_of session) (omega (arith, at)))

-- ---- ends

-- a run that ended in its first line
line_stops : (session : Session) (recording others : List (List ℕ)) (before : ℕ) (line part : List ℕ) (cause : Cause) (fault : RecordingFault) → recording ≡ line ∷ others → fault.line ≡ before + 1 → fault.cause ≡ cause → PlayedTo session fault
    → Ends (LineGives session line) (LineBegins session line) part cause
    → RunsTo session recording before part (Err fault)
line_stops session recording others before line part cause fault e at is played h = inl (record {
  first = [];
  others = line ∷ others;
  split = e;
  line = omega (arith, at);
  text = [];
  now = session;
  all = (refl, refl);
  played = played;
  part = part;
  ends = subst (λ c. Ends (FirstGives session (line ∷ others)) (FirstBegins session (line ∷ others)) part c)
      (sym is) h;
  whole = refl;
})

-- what runs on after lines that were reported
runs_more : (session middle : Session) (first others : List (List ℕ)) (before after : ℕ) (text rest : List ℕ)
    (result : Result Summary RecordingFault) → AllGive session first text middle → after ≡ before + length first
    → RunsTo middle others after rest result → RunsTo session (first ++ others) before (text ++ rest) result
runs_more session middle first others before after text rest (Ok summary) h at k = record {
  last = k.last;
  all = all_more session middle k.last first others text rest h k.all;
  closed = k.closed;
  lines = omega (arith, k.lines, length-append first others);
  counts = k.counts;
}
runs_more session middle first others before after text rest (Err fault) h at (inl k) = inl (record {
  first = first ++ k.first;
  others = k.others;
  split = ap (λ l. first ++ l) k.split ∙ sym (append_assoc first k.first k.others);
  line = omega (arith, k.line, length-append first k.first);
  text = text ++ k.text;
  now = k.now;
  all = all_more session middle k.now first k.first text k.text h k.all;
  played = k.played;
  part = k.part;
  ends = k.ends;
  whole = ap (λ l. text ++ l) k.whole ∙ sym (append_assoc text k.text k.part);
})
runs_more session middle first others before after text rest (Err fault) h at (inr k) = inr (record {
  last = k.last;
  all = all_more session middle k.last first others text rest h k.all;
  unended = k.unended;
  line = omega (arith, k.line, length-append first others);
  played = k.played;
  cause = k.cause;
})

-- what runs on from a place that was advanced to
pub runs_after : (p q : Place) (bytes more written text : List ℕ) (result : Result Summary RecordingFault) → Advances p bytes written q → RunsFrom q more text result → RunsFrom p (bytes ++ more) (written ++ text) result
runs_after p q bytes more written text result h k =
    subst (λ recording. RunsTo p.session recording p.lines (written ++ text) result) (sym (h.split more))
    (runs_more p.session q.session h.ended (lines_at q more) p.lines q.lines written text result h.all h.count k)

-- a line that is too long ends the run
pub long_stops : (place : Place) (bytes more : List ℕ) (fault : RecordingFault) → IsUnbroken place.begun → IsUnbroken bytes → 65537 < length place.begun + length bytes → fault.line ≡ place.lines + 1 → fault.cause ≡ causes.LineTooLong → PlayedTo place.session fault
    → RunsFrom place (bytes ++ more) [] (Err fault)
unfolding LineGives ending_of
long_stops place bytes more fault whole apart long at is played =
    let first = long_line 65536 place.begun bytes more whole apart long in
    line_stops place.session (lines_at place (bytes ++ more)) first.1 place.lines first.0 [] causes.LineTooLong fault first.2 at is played
    (subst (λ long. GivesByLength long place.session first.0 (failure causes.LineTooLong))
    (sym (lt-ltb 65536 (length first.0) first.3)) refl)

-- one whose line feed came too
pub long_line_stops : (place : Place) (last more : List ℕ) (fault : RecordingFault) → IsUnbroken place.begun → IsUnbroken last → 65537 < length place.begun + length last → fault.line ≡ place.lines + 1 → fault.cause ≡ causes.LineTooLong → PlayedTo place.session fault
    → RunsFrom place ((last ++ 10 ∷ []) ++ more) [] (Err fault)
long_line_stops place last more fault whole apart long at is played =
    subst (λ all. RunsFrom place all [] (Err fault)) (sym (append_assoc last (10 ∷ []) more)) (long_stops place last (10 ∷ more) fault whole apart long at is played)

-- a line that ended the run at its line feed
pub line_feed_stops : (place : Place) (next : Session) (last line more written : List ℕ) (cause : Cause) (fault : RecordingFault) → IsUnbroken place.begun → IsUnbroken last → line ≡ strip_carriage_return (place.begun ++ last)
    → Writes (LineGives place.session line) (LineBegins place.session line) written (Err cause) next
    → fault.line ≡ place.lines + 1 → fault.cause ≡ cause → PlayedTo place.session fault
    → RunsFrom place ((last ++ 10 ∷ []) ++ more) written (Err fault)
line_feed_stops place next last line more written cause fault whole apart same told at is played =
    line_stops place.session (lines_at place ((last ++ 10 ∷ []) ++ more)) (lines more) place.lines line written cause fault (gives_line place.begun last line whole apart same more) at is played told

-- ---- piece by piece

-- bytes that were taken after others
pub takes_more : (p q r : Place) (before bytes v w : List ℕ) (result : Result (Unit {0}) RecordingFault) → Advances p before v q → Takes q bytes w result r → Takes p (before ++ bytes) (v ++ w) result r
takes_more p q r before bytes v w (Ok u) h k = advances_more p q r before bytes v w h k
takes_more p q r before bytes v w (Err fault) h k = λ more.
    subst (λ all. RunsFrom p all (v ++ w) (Err fault)) (sym (append_assoc before bytes more)) (runs_after p q before (bytes ++ more) v w (Err fault) h (k more))

-- the last bytes of a piece
pub takes_last : (p q r : Place) (bytes before rest v : List ℕ) (result : Result (Unit {0}) RecordingFault) → bytes ≡ before ++ rest → Advances p before v q → Takes q rest [] result r → Takes p bytes v result r
takes_last p q r bytes before rest v result parts h k =
    subst (λ all. Takes p all v result r) (sym parts) (subst (λ text. Takes p (before ++ rest) text result r) (append-nil v) (takes_more p q r before rest v [] result h k))

-- a piece whose first bytes ended the run
pub stops_early : (p r : Place) (bytes front rest written : List ℕ) (fault : RecordingFault) (result : Result (Unit {0}) RecordingFault) → bytes ≡ front ++ rest → ((more : List ℕ) → RunsFrom p (front ++ more) written (Err fault))
    → IsErrAnd result (λ e. e ≡ fault) → Takes p bytes written result r
stops_early p r bytes front rest written fault (Ok u) parts stops is = absurd is
stops_early p r bytes front rest written fault (Err e) parts stops is = λ more.
    rw is (subst (λ all. RunsFrom p all written (Err fault)) (sym (ap (λ l. l ++ more) parts ∙ append_assoc front rest more)) (stops (rest ++ more)))

-- ---- whole runs

-- a fault that comes before any text of a line may come at any time
pub outside_stops : (place : Place) (more : List ℕ) (fault : RecordingFault) → ending_of fault.cause ≡ NotRun
    → fault.line ≡ place.lines + 1 → PlayedTo place.session fault → RunsFrom place more [] (Err fault)
outside_stops place more fault is at played = inl (record {
  first = [];
  others = lines_at place more;
  split = refl;
  line = omega (arith, at);
  text = [];
  now = place.session;
  all = (refl, refl);
  played = played;
  part = [];
  ends = subst
      (λ e. EndsAs e (FirstGives place.session (lines_at place more))
      (FirstBegins place.session (lines_at place more)) [] fault.cause) (sym is) refl;
  whole = refl;
})

-- what holds whatever comes holds of what is known
known_rest : (a b : Option (List ℕ)) (read : List ℕ) (P : List ℕ → Type 0) → Consumes a b read → ((more : List ℕ) → P (read ++ more)) → IfSome a P
known_rest None b read P h f = tt
known_rest (Some xs) None read P h f = absurd h
known_rest (Some xs) (Some ys) read P h f = subst P (sym h) (f ys)

-- nothing more comes
ends_at : (session : Session) (before : ℕ) (result : Result Summary RecordingFault) → EndsAt session before result → RunsTo session [] before [] result
ends_at session before (Ok summary) h = record { last = session; all = (refl, refl); closed = h.0; lines = omega (arith, h.1); counts = h.2 }
ends_at session before (Err fault) h = inr (record { last = session; all = (refl, refl); unended = h.0; line = omega (arith, h.2); played = h.3; cause = h.1 })

pub last_line_told : (place : Place) (next : Session) (written : List ℕ) (result : Result Summary RecordingFault)
    → IsUnbroken place.begun → 0 < length place.begun → LineGives place.session place.begun (success written next)
    → EndsAt next (place.lines + 1) result → RunsFrom place [] written result
last_line_told place next written result whole some told ends =
    let runs = runs_more place.session next (place.begun ∷ []) [] place.lines (place.lines + 1) written [] result (one_tells place.session next place.begun written told) (omega arith) (ends_at next (place.lines + 1) result ends) in
    subst (λ recording. RunsTo place.session recording place.lines written result) (sym (last_line place.begun whole some)) (subst (λ text. RunsTo place.session (place.begun ∷ []) place.lines text result) (append-nil written) runs)

pub last_line_stops : (place : Place) (next : Session) (written : List ℕ) (cause : Cause) (fault : RecordingFault)
    → IsUnbroken place.begun → 0 < length place.begun
    → Writes (LineGives place.session place.begun) (LineBegins place.session place.begun) written (Err cause) next
    → fault.line ≡ place.lines + 1 → fault.cause ≡ cause → PlayedTo place.session fault → RunsFrom place [] written (Err fault)
last_line_stops place next written cause fault whole some told at is played =
    line_stops place.session (lines_at place []) [] place.lines place.begun written cause fault (last_line place.begun whole some) at is played told

pub no_last_line : (place : Place) (result : Result Summary RecordingFault) → place.begun ≡ [] → EndsAt place.session place.lines result → RunsFrom place [] [] result
no_last_line place result none ends =
    let all : lines_at place [] ≡ [] = ap (λ bytes. lines (bytes ++ [])) none in
    subst (λ recording. RunsTo place.session recording place.lines [] result) (sym all) (ends_at place.session place.lines result ends)

-- nothing has come
abbrev pub start : Options → Place
start options = record { session = at_first options Lines; begun = []; lines = 0 }

-- all that there was has come
pub whole_run : (place : Place) (a b c d e f : Option (List ℕ)) (read written text none : List ℕ) (now : Place) (result : Result Summary RecordingFault)
    → Consumes a b read → Appends c d written → Advances place read written now → Consumes b e none → none ≡ [] → IsAtEnd e → Appends d f text → RunsFrom now [] text result
    → AppendsFrom place a c f result
whole_run place a b c d e f read written text none now result from grew taken more nothing end last runs =
    Consumes-whole a e (read ++ none) _ (Consumes-trans a b e read none from more) end
    (written ++ text, Appends-trans c d f written text grew last, rw nothing (runs_after place now read [] written text result taken runs))

-- the run broke off
pub broken_run : (place : Place) (a b c d f : Option (List ℕ)) (read written text : List ℕ) (now : Place) (result : Result Summary RecordingFault)
    → Consumes a b read → Appends c d written → Advances place read written now → Appends d f text → ((more : List ℕ) → RunsFrom now more text result)
    → AppendsFrom place a c f result
broken_run place a b c d f read written text now result from grew taken last stops =
    known_rest a b read _ from (λ more. (written ++ text, Appends-trans c d f written text grew last, runs_after place now read more written text result taken (stops more)))

-- nothing more is written at a fault from outside
pub outside_run : (place : Place) (a b c d : Option (List ℕ)) (read written : List ℕ) (now : Place) (fault : RecordingFault) → Consumes a b read → Appends c d written → Advances place read written now
    → ending_of fault.cause ≡ NotRun → fault.line ≡ now.lines + 1 → PlayedTo now.session fault
    → AppendsFrom place a c d (Err fault)
outside_run place a b c d read written now fault from grew taken is at played =
    broken_run place a b c d d read written [] now (Err fault) from grew taken (Appends-nil d) (λ more. outside_stops now more fault is at played)

-- the piece that was read ended the run
pub piece_stops : (place : Place) (a b e c d f : Option (List ℕ)) (read written text piece : List ℕ) (now : Place) (fault : RecordingFault) (result : Result Summary RecordingFault)
    → Consumes a b read → Appends c d written → Advances place read written now → Consumes b e piece → Appends d f text
    → ((more : List ℕ) → RunsFrom now (piece ++ more) text (Err fault)) → IsErrAnd result (λ x. x ≡ fault) → AppendsFrom place a c f result
piece_stops place a b e c d f read written text piece now fault (Ok u) from grew taken more last stops is = absurd is
piece_stops place a b e c d f read written text piece now fault (Err x) from grew taken more last stops is =
    known_rest a e (read ++ piece) _ (Consumes-trans a b e read piece from more) (λ after. (
      written ++ text,
      Appends-trans c d f written text grew last,
      rw is (subst (λ all. RunsFrom place all (written ++ text) (Err fault)) (sym (append_assoc read piece after))
          (runs_after place now read (piece ++ after) written text (Err fault) taken (stops after))),
    ))

-- ---- a run that doesn't begin

pub begins_nothing : (session : Session) (line : List ℕ) → LineBegins session line []
unfolding LineBegins
begins_nothing session line = inl refl

pub first_begins : (session : Session) (recording : List (List ℕ)) → FirstBegins session recording []
first_begins session [] = refl
first_begins session (line ∷ more) = begins_nothing session line

no_line_run : (options : Options) (recording : List ℕ) (fault : RecordingFault) → fault.line ≡ 1 → fault.cause ≡ causes.Memory → PlayedTo (at_first options Lines) fault → RunsTo (at_first options Lines) (lines recording) 0 [] (Err fault)
unfolding ending_of
no_line_run options recording fault at is played = inl (record {
  first = [];
  others = lines recording;
  split = refl;
  line = omega (arith, at);
  text = [];
  now = at_first options Lines;
  all = (refl, refl);
  played = played;
  part = [];
  ends = subst
      (λ c. Ends (FirstGives (at_first options Lines) (lines recording))
      (FirstBegins (at_first options Lines) (lines recording)) [] c) (sym is)
      ([], first_begins (at_first options Lines) (lines recording), ([], refl), inl refl);
  whole = refl;
})

-- memory for the devices ran out before the first read
pub never_begun : (options : Options) (a c : Option (List ℕ)) (fault : RecordingFault) → fault.line ≡ 1 → fault.cause ≡ causes.Memory → PlayedTo (at_first options Lines) fault → AppendsRecording options a c c (Err fault)
never_begun options None c fault at is played = tt
never_begun options (Some recording) c fault at is played = ([], Appends-nil c, no_line_run options recording fault at is played)
