-- Runs of any lines, piece by piece.
use Rattle.std.proofs.Common.{◌≡◌, ◌⊎◌, ℕ, ◌+◌, ◌<◌, nat_eq, nat_lt, true, false, IfSome, List, [], ◌∷◌, ◌++◌, length, length-append, refl, sym, ap, ◌∙◌, subst, inl, inr, arith, append_assoc, append-nil, Option, None, Some, Result, Ok, Err}
use Rattle.std.proofs.lemmas.Bool.{cond-true, lt-ltb}
use Rattle.std.proofs.lemmas.List.Elements.{All-nil}
use Rattle.std.specs.Io.KnownBytes.{Appends, Consumes, IsAtEnd, Keeps}
use Rattle.std.proofs.KnownBytes.{Consumes-whole, Keeps-refl, Keeps-trans}
use Rattle.std.specs.Str.Lines.{lines, strip_carriage_return}
use Rattle.hid_text.specs.Lines.{IsUnbroken}
use Rattle.hid_text.proofs.PieceLemmas.{long_line}
use Rattle.hid_script.specs.declared.fault.Cause.{Cause}
use Rattle.hid_script.specs.declared.fault.Cause.TheVariants as causes
use Rattle.lab_lines.specs.LabLines.{Said, TooLong, lab_meaning}
use Rattle.lab_lines.specs.LabLines as lab
use Rattle.lab_session.specs.declared.ahead.Ahead.{Ahead}
use Rattle.lab_session.specs.declared.asked.Asked.{Asked}
use Rattle.lab_session.specs.declared.bench.Bench.{Bench}
use Rattle.lab_session.specs.declared.fault.LabCause.{LabCause}
use Rattle.lab_session.specs.declared.fault.LabCause.TheVariants.{Script, Unsettled}
use Rattle.lab_session.specs.declared.need.Need.{Need}
use Rattle.lab_session.specs.declared.runs.LabFault.{LabFault}
use Rattle.lab_session.specs.declared.runs.Ran.{Ran}
use Rattle.lab_session.specs.declared.runs.Ran.TheVariants as ran
use Rattle.lab_session.specs.declared.runs.RunEnd.{RunEnd}
use Rattle.lab_session.specs.declared.runs.RunEnd.TheVariants as ended
use Rattle.lab_session.specs.Ahead.{unread}
use Rattle.lab_session.specs.Bench.{Does, DoesSaid, Stays}
use Rattle.lab_session.specs.Lines.{LineDoes, Moment}
use Rattle.lab_session.specs.Parts.{Part}
use Rattle.lab_session.specs.Carrying.{AheadLines, AsksAfter, CarriedUpTo, CarriesLine, CarriesLines, EndsAt, FedLines, RanLines, RefusesLine, StopsAfter}
use Rattle.lab_session.specs.Expecting.{ReadExpects}
use Rattle.lab_session.specs.Feeds.{IsOutside, need_said}
use Rattle.lab_session.proofs.RunLemmas.{appends_from, known_rest, reads_more}

-- ---- lines in turn

-- what was handed on between two lines changes nothing of them
did_from : (Doing : Moment → List Part → List ℕ → Moment → Type 0) (a b : Bench) (t u v : Option (List ℕ)) → Keeps t u → Does Doing a b u v → Does Doing a b t v
did_from Doing a b t u v k h = record {
  parts = h.parts;
  text = h.text;
  done = h.done;
  options = h.options;
  written = λ plain. appends_from t u v h.text k (h.written plain);
  waits = h.waits;
}

stays_from : (a b : Bench) (t u v : Option (List ℕ)) → Keeps t u → Stays a b u v → Stays a b t v
stays_from a b t u v k h = record { moment = h.moment; options = h.options; written = Keeps-trans t u v k h.written }

said_from : (said : Said) (a b : Bench) (t u v : Option (List ℕ)) → Keeps t u → DoesSaid said a b u v → DoesSaid said a b t v
said_from (lab.Expect words) a b t u v k h = stays_from a b t u v k h
said_from lab.ExpectNone a b t u v k h = stays_from a b t u v k h
said_from lab.ExpectAny a b t u v k h = stays_from a b t u v k h
said_from said a b t u v k h = did_from (LineDoes a.options.seed said) a b t u v k h

line_from : (bytes : List ℕ) (asked : Option Said) (a b : Bench) (t u v : Option (List ℕ)) → Keeps t u → CarriesLine bytes asked a b u v → CarriesLine bytes asked a b t v
line_from bytes asked a b t u v k h = record {
  does = record { said = h.does.said; read = h.does.read; asks = h.does.asks; does = said_from h.does.said a b t u v k h.does.does };
  expects = h.expects;
}

lines_from : (done : List (List ℕ)) (a b : Bench) (t u v : Option (List ℕ)) → Keeps t u → CarriesLines a u done b v → CarriesLines a t done b v
lines_from [] a b t u v k h = (h.0, Keeps-trans t u v k h.1)
lines_from (line ∷ more) a b t u v k h = (h.0, h.1, line_from line None a h.0 t u h.1 k h.2, h.3)

lines_kept : (done : List (List ℕ)) (a b : Bench) (u v w : Option (List ℕ)) → Keeps v w → CarriesLines a u done b v → CarriesLines a u done b w
lines_kept [] a b u v w k h = (h.0, Keeps-trans u v w h.1 k)
lines_kept (line ∷ more) a b u v w k h = (h.0, h.1, h.2, lines_kept more h.0 b h.1 v w k h.3)

lines_both : (first more : List (List ℕ)) (a b c : Bench) (u v w : Option (List ℕ)) → CarriesLines a u first b v → CarriesLines b v more c w → CarriesLines a u (first ++ more) c w
lines_both [] more a b c u v w h k = subst (λ x. CarriesLines x u more c w) h.0 (lines_from more b c u v w h.1 k)
lines_both (line ∷ first) more a b c u v w h k = (h.0, h.1, h.2, lines_both first more h.0 b c h.1 v w h.3 k)

-- no line yet
pub carried_first : (all : List (List ℕ)) (before : ℕ) (a : Bench) (u : Option (List ℕ)) → CarriedUpTo all before all before a a u u
carried_first all before a u = record { done = []; split = refl; carried = (refl, Keeps-refl u); lines = omega arith }

-- one line
pub carried_one : (line : List ℕ) (left : List (List ℕ)) (n : ℕ) (a b : Bench) (u v : Option (List ℕ)) → CarriesLine line None a b u v → CarriedUpTo (line ∷ left) n left (n + 1) a b u v
carried_one line left n a b u v h = record { done = line ∷ []; split = refl; carried = (b, v, h, (refl, Keeps-refl v)); lines = omega arith }

-- lines after others
pub carried_both : (all left more : List (List ℕ)) (before n m : ℕ) (a b c : Bench) (u v w : Option (List ℕ)) → CarriedUpTo all before left n a b u v → CarriedUpTo left n more m b c v w
    → CarriedUpTo all before more m a c u w
carried_both all left more before n m a b c u v w h k = record {
  done = h.done ++ k.done;
  split = h.split ∙ ap (λ l. h.done ++ l) k.split ∙ sym (append_assoc h.done k.done more);
  carried = lines_both h.done k.done a b c u v w h.carried k.carried;
  lines = omega (arith, h.lines, k.lines, length-append h.done k.done);
}

-- the line that comes next
pub carried_next : (all left more : List (List ℕ)) (line : List ℕ) (before n : ℕ) (a b c : Bench) (u v w : Option (List ℕ)) → CarriedUpTo all before left n a b u v → left ≡ line ∷ more
    → CarriesLine line None b c v w → CarriedUpTo all before more (n + 1) a c u w
carried_next all left more line before n a b c u v w h is k =
    carried_both all left more before n (n + 1) a b c u v w h (subst (λ l. CarriedUpTo l n more (n + 1) b c v w) (sym is) (carried_one line more n b c v w k))

pub no_asked : (o : Option Asked) → ((asked : Asked) → o ≡ Some asked → ⊥) → o ≡ None
no_asked None h = refl
no_asked (Some asked) h = absurd (h asked refl)

-- what was printed was handed on
pub carried_kept : (all left : List (List ℕ)) (before n : ℕ) (a b : Bench) (u v w : Option (List ℕ)) → Keeps v w → CarriedUpTo all before left n a b u v → CarriedUpTo all before left n a b u w
carried_kept all left before n a b u v w k h = record { done = h.done; split = h.split; carried = lines_kept h.done a b u v w k h.carried; lines = h.lines }

pub asks_behind : (all left more : List (List ℕ)) (before n m : ℕ) (said : Said) (a b c : Bench) (u v w : Option (List ℕ)) → CarriedUpTo all before left n a b u v → AsksAfter left n said more m b c v w
    → AsksAfter all before said more m a c u w
asks_behind all left more before n m said a b c u v w h k = record {
  line = k.line;
  at = k.at;
  middle = k.middle;
  between = k.between;
  carried = carried_both all left (k.line ∷ more) before n k.at a b k.middle u v k.between h k.carried;
  asks = k.asks;
  lines = k.lines;
}

pub stops_behind : (all left : List (List ℕ)) (before n : ℕ) (fault : LabFault) (a b c : Bench) (u v w : Option (List ℕ)) → CarriedUpTo all before left n a b u v → StopsAfter left n fault b c v w
    → StopsAfter all before fault a c u w
stops_behind all left before n fault a b c u v w h k = record {
  left = k.left;
  at = k.at;
  middle = k.middle;
  between = k.between;
  carried = carried_both all left k.left before n k.at a b k.middle u v k.between h k.carried;
  line = k.line;
  ends = k.ends;
}

-- ---- a line after others

-- a line asks for something
pub asks_next : (all left : List (List ℕ)) (line : List ℕ) (before n m : ℕ) (said : Said) (a b c : Bench) (u v w : Option (List ℕ)) → CarriedUpTo all before (line ∷ left) n a b u v
    → CarriesLine line (Some said) b c v w → m ≡ n + 1 → AsksAfter all before said left m a c u w
asks_next all left line before n m said a b c u v w h k same =
    record { line = line; at = n; middle = b; between = v; carried = h; asks = k; lines = same }

-- a line is refused
pub refused_next : (all left : List (List ℕ)) (line : List ℕ) (before n : ℕ) (fault : LabFault) (a b c : Bench) (u v w : Option (List ℕ)) → CarriedUpTo all before (line ∷ left) n a b u v
    → fault.line ≡ n + 1 → RefusesLine line fault.cause b c v w → StopsAfter all before fault a c u w
refused_next all left line before n fault a b c u v w h at k =
    record { left = line ∷ left; at = n; middle = b; between = v; carried = h; line = at; ends = inl (line, left, refl, k) }

-- memory, the reader or the writer ended the run
pub outside_next : (all left : List (List ℕ)) (before n : ℕ) (cause : Cause) (fault : LabFault) (a b c : Bench) (u v w : Option (List ℕ)) → CarriedUpTo all before left n a b u v
    → fault.line ≡ n + 1 → fault.cause ≡ Script cause → IsOutside cause → StopsAfter all before fault a c u w
outside_next all left before n cause fault a b c u v w h at is out =
    record { left = left; at = n; middle = b; between = v; carried = h; line = at; ends = inr (cause, is, out) }

-- ---- lines that are too long

long_meaning : (line : List ℕ) → 16384 < length line → lab_meaning line ≡ Err TooLong
unfolding lab_meaning
long_meaning line long = cond-true (nat_lt 16384 (length line)) _ _ (lt-ltb 16384 (length line) long)

-- a line that is too long is refused for that, and is none of hidrun's
long_refused : (line : List ℕ) (cause : LabCause) (a : Bench) (u v : Option (List ℕ)) → 16384 < length line → cause ≡ Script causes.LineTooLong → RefusesLine line cause a a u v
long_refused line cause a u v long is = record {
  expects = subst (λ m. ReadExpects m a.printer.transcript a.printer.transcript a.came.items (Err cause)) (sym (long_meaning line long)) tt;
  unsettled = λ e. absurd (cc);
  prints = λ plain undrawn old. absurd (let room = old.room in omega (arith, long, room));
}

-- the line that has begun is too long, whatever comes then; or memory, the reader or the writer ended the run before it
pub read_stops : (rest more : List ℕ) (n : ℕ) (cause : Cause) (fault : LabFault) (a : Bench) (u v : Option (List ℕ)) → IsUnbroken rest
    → IsOutside cause ⊎ ((cause ≡ causes.LineTooLong) × (16385 < length rest)) → fault.line ≡ n + 1 → fault.cause ≡ Script cause → StopsAfter (lines (rest ++ more)) n fault a a u v
read_stops rest more n cause fault a u v whole (inl out) at is =
    outside_next (lines (rest ++ more)) (lines (rest ++ more)) n n cause fault a a a u u v (carried_first (lines (rest ++ more)) n a u) at is out
read_stops rest more n cause fault a u v whole (inr long) at is =
    let first = long_line 16384 [] rest more (All-nil (λ b. nat_eq b 10 ≡ false)) whole (omega (arith, long.1)) in
    let start = subst (λ l. CarriedUpTo (lines (rest ++ more)) n l n a a u u) first.2 (carried_first (lines (rest ++ more)) n a u) in
    refused_next (lines (rest ++ more)) first.1 first.0 n n fault a a a u u v start at (long_refused first.0 fault.cause a u v first.3 (is ∙ ap (λ c. Script c) long.0))

-- ---- pieces

-- lists of lines that are equal
pub carried_as : (all others left rest : List (List ℕ)) (before n m : ℕ) (a b : Bench) (u v : Option (List ℕ)) → all ≡ others → left ≡ rest → n ≡ m → CarriedUpTo all before left n a b u v
    → CarriedUpTo others before rest m a b u v
carried_as all others left rest before n m a b u v same too at h =
    record { done = h.done; split = sym same ∙ h.split ∙ ap (λ l. h.done ++ l) too; carried = h.carried; lines = sym at ∙ h.lines }

pub asks_as : (all others left rest : List (List ℕ)) (before n m : ℕ) (said other : Said) (a b : Bench) (u v : Option (List ℕ)) → all ≡ others → left ≡ rest → n ≡ m → said ≡ other
    → AsksAfter all before said left n a b u v → AsksAfter others before other rest m a b u v
asks_as all others left rest before n m said other a b u v same too at is h = record {
  line = h.line;
  at = h.at;
  middle = h.middle;
  between = h.between;
  carried = carried_as all others (h.line ∷ left) (h.line ∷ rest) before h.at h.at a h.middle u h.between same (ap (λ l. h.line ∷ l) too) refl h.carried;
  asks = subst (λ s. CarriesLine h.line (Some s) h.middle b h.between v) is h.asks;
  lines = sym at ∙ h.lines;
}

pub stops_as : (all others : List (List ℕ)) (before : ℕ) (fault : LabFault) (a b : Bench) (u v : Option (List ℕ)) → all ≡ others → StopsAfter all before fault a b u v → StopsAfter others before fault a b u v
stops_as all others before fault a b u v same h = subst (λ l. StopsAfter l before fault a b u v) same h

-- memory ran out for what a line asks for
pub asks_fail : (all left : List (List ℕ)) (before n : ℕ) (said : Said) (fault : LabFault) (a b : Bench) (u v : Option (List ℕ)) → AsksAfter all before said left n a b u v
    → fault.line ≡ n → fault.cause ≡ Script causes.Memory → StopsAfter all before fault a b u v
asks_fail all left before n said fault a b u v h at is = record {
  left = h.line ∷ left;
  at = h.at;
  middle = h.middle;
  between = h.between;
  carried = h.carried;
  line = at ∙ h.lines;
  ends = inr (causes.Memory, is, tt);
}

-- a run of a text that went on after lines that were carried out
pub ran_behind : (all left : List (List ℕ)) (before n : ℕ) (result : Result Ran LabFault) (a b c : Bench) (u v w : Option (List ℕ)) → CarriedUpTo all before left n a b u v
    → RanLines left n b c v w result → RanLines all before a c u w result
ran_behind all left before n (Ok (ran.All summary)) a b c u v w h k = (carried_both all left [] before n summary.lines a b c u v w h k.0, k.1)
ran_behind all left before n (Ok (ran.Asks asked line rest)) a b c u v w h k = asks_behind all left (lines rest.now) before n line _ a b c u v w h k
ran_behind all left before n (Err fault) a b c u v w h k = stops_behind all left before n fault a b c u v w h k

-- the lines that were carried out of what was read so far, whatever comes
abbrev pub HasCarried : Bench → Option (List ℕ) → List ℕ → ℕ → List ℕ → Bench → Option (List ℕ) → List ℕ → ℕ → Type 0
HasCarried first u ahead before read now v left count =
    (more : List ℕ) → CarriedUpTo (lines (ahead ++ (read ++ more))) before (lines (left ++ more)) count first now u v

pub carry_first : (first : Bench) (u : Option (List ℕ)) (ahead : List ℕ) (before : ℕ) → HasCarried first u ahead before [] first u ahead before
carry_first first u ahead before = λ more. carried_first (lines (ahead ++ more)) before first u

-- lines were carried out
pub carry_on : (first now next : Bench) (u v w : Option (List ℕ)) (ahead read : List ℕ) (before : ℕ) (old new : Ahead) → HasCarried first u ahead before read now v (unread old) old.lines
    → ((more : List ℕ) → AheadLines old new more now next v w (Ok None)) → HasCarried first u ahead before read next w (unread new) new.lines
carry_on first now next u v w ahead read before old new h k = λ more.
    carried_both (lines (ahead ++ (read ++ more))) (lines (unread old ++ more)) (lines (unread new ++ more)) before old.lines new.lines first now next u v w (h more) (k more)

-- bytes were read
pub carry_read : (first now : Bench) (u v w : Option (List ℕ)) (ahead read given left next : List ℕ) (before count n : ℕ) → Keeps v w → next ≡ left ++ given → n ≡ count
    → HasCarried first u ahead before read now v left count → HasCarried first u ahead before (read ++ given) now w next n
carry_read first now u v w ahead read given left next before count n keeps is same h = λ more.
    carried_as (lines (ahead ++ (read ++ (given ++ more)))) (lines (ahead ++ ((read ++ given) ++ more))) (lines (left ++ (given ++ more))) (lines (next ++ more)) before count n first now u w
    (ap lines (reads_more ahead read given more)) (ap lines (sym (ap (λ l. l ++ more) is ∙ append_assoc left given more))) (sym same)
    (carried_kept (lines (ahead ++ (read ++ (given ++ more)))) (lines (left ++ (given ++ more))) before count first now u v w keeps (h (given ++ more)))

-- a run that ended here, whatever comes
pub carry_fails : (first now next : Bench) (u v w : Option (List ℕ)) (a b rest : Option (List ℕ)) (ahead read left : List ℕ) (before count : ℕ) (after : Ahead) (fault : LabFault)
    (result : Result RunEnd LabFault) → Consumes a b read → HasCarried first u ahead before read now v left count
    → ((more : List ℕ) → StopsAfter (lines (left ++ more)) count fault now next v w) → result ≡ Err fault
    → IfSome a (λ more. FedLines (lines (ahead ++ more)) before after rest first next u w result)
carry_fails first now next u v w a b rest ahead read left before count after fault result from h k is =
    known_rest a b read (λ more. FedLines (lines (ahead ++ more)) before after rest first next u w result) from (λ more.
    subst (λ r. FedLines (lines (ahead ++ (read ++ more))) before after rest first next u w r) (sym is)
    (stops_behind (lines (ahead ++ (read ++ more))) (lines (left ++ more)) before count fault first now next u v w (h more) (k more)))

-- a run up to a line that asks for something
pub carry_asks : (first now next : Bench) (u v w : Option (List ℕ)) (a b : Option (List ℕ)) (ahead read : List ℕ) (before : ℕ) (old new : Ahead) (need : Need) → Consumes a b read
    → HasCarried first u ahead before read now v (unread old) old.lines → ((more : List ℕ) → AheadLines old new more now next v w (Ok (Some need)))
    → IfSome a (λ more. FedLines (lines (ahead ++ more)) before new b first next u w (Ok (ended.Asks need)))
carry_asks first now next u v w None b ahead read before old new need from h k = tt
carry_asks first now next u v w (Some xs) None ahead read before old new need from h k = absurd from
carry_asks first now next u v w (Some xs) (Some ys) ahead read before old new need from h k =
    subst (λ more. FedLines (lines (ahead ++ more)) before new (Some ys) first next u w (Ok (ended.Asks need))) (sym from) (
      ys,
      refl,
      asks_behind (lines (ahead ++ (read ++ ys))) (lines (unread old ++ ys)) (lines (unread new ++ ys)) before old.lines new.lines (need_said need) first now next u v w (h ys) (k ys),
    )

fed_behind : (all left : List (List ℕ)) (before n : ℕ) (after : Ahead) (rest : Option (List ℕ)) (result : Result RunEnd LabFault) (a b c : Bench) (u v w : Option (List ℕ))
    → CarriedUpTo all before left n a b u v → FedLines left n after rest b c v w result → FedLines all before after rest a c u w result
fed_behind all left before n after rest (Ok (ended.All summary)) a b c u v w h k = (carried_both all left [] before n summary.lines a b c u v w h k.0, k.1)
fed_behind all left before n after rest (Ok (ended.Asks need)) a b c u v w h k =
    (k.0, k.1, asks_behind all left (lines (unread after ++ k.0)) before n after.lines (need_said need) a b c u v w h k.2)
fed_behind all left before n after rest (Err fault) a b c u v w h k = stops_behind all left before n fault a b c u v w h k

-- a run to its end
pub carry_ends : (first now next : Bench) (u v w : Option (List ℕ)) (a b : Option (List ℕ)) (ahead read left : List ℕ) (before count : ℕ) (after : Ahead) (result : Result RunEnd LabFault)
    → Consumes a b read → IsAtEnd b → HasCarried first u ahead before read now v left count → FedLines (lines left) count after (Some []) now next v w result
    → IfSome a (λ more. FedLines (lines (ahead ++ more)) before after b first next u w result)
carry_ends first now next u v w None b ahead read left before count after result from end h k = tt
carry_ends first now next u v w (Some xs) None ahead read left before count after result from end h k = absurd from
carry_ends first now next u v w (Some xs) (Some ys) ahead read left before count after result from end h k =
    let here = carried_as (lines (ahead ++ (read ++ []))) (lines (ahead ++ (read ++ []))) (lines (left ++ [])) (lines left) before count count first now u v refl (ap lines (append-nil left)) refl (h []) in
    let all = fed_behind (lines (ahead ++ (read ++ []))) (lines left) before count after (Some []) result first now next u v w here k in
    subst (λ more. FedLines (lines (ahead ++ more)) before after (Some ys) first next u w result) (sym from)
    (subst (λ l. FedLines (lines (ahead ++ (read ++ l))) before after (Some l) first next u w result) (sym end) all)

-- ---- the bytes that were read

pub ahead_carried : (ahead next : Ahead) (text rest more : List ℕ) (before count : ℕ) (a b : Bench) (u v : Option (List ℕ)) → text ≡ unread ahead → before ≡ ahead.lines → unread next ≡ rest
    → next.lines ≡ count → CarriedUpTo (lines (text ++ more)) before (lines (rest ++ more)) count a b u v
    → CarriedUpTo (lines (unread ahead ++ more)) ahead.lines (lines (unread next ++ more)) next.lines a b u v
ahead_carried ahead next text rest more before count a b u v same at left n h =
    subst (λ m. CarriedUpTo (lines (unread ahead ++ more)) m (lines (unread next ++ more)) next.lines a b u v) at
    (carried_as (lines (text ++ more)) (lines (unread ahead ++ more)) (lines (rest ++ more)) (lines (unread next ++ more)) before count next.lines a b u v
    (ap (λ t. lines (t ++ more)) same) (ap (λ t. lines (t ++ more)) (sym left)) (sym n) h)

pub ahead_asks : (ahead next : Ahead) (text rest more : List ℕ) (before count : ℕ) (said other : Said) (a b : Bench) (u v : Option (List ℕ)) → text ≡ unread ahead → before ≡ ahead.lines → unread next ≡ rest
    → next.lines ≡ count → other ≡ said → AsksAfter (lines (text ++ more)) before said (lines (rest ++ more)) count a b u v
    → AsksAfter (lines (unread ahead ++ more)) ahead.lines other (lines (unread next ++ more)) next.lines a b u v
ahead_asks ahead next text rest more before count said other a b u v same at left n is h =
    subst (λ m. AsksAfter (lines (unread ahead ++ more)) m other (lines (unread next ++ more)) next.lines a b u v) at
    (asks_as (lines (text ++ more)) (lines (unread ahead ++ more)) (lines (rest ++ more)) (lines (unread next ++ more)) before count next.lines said other a b u v
    (ap (λ t. lines (t ++ more)) same) (ap (λ t. lines (t ++ more)) (sym left)) (sym n) (sym is) h)

pub ahead_stops : (ahead : Ahead) (text more : List ℕ) (before : ℕ) (fault : LabFault) (a b : Bench) (u v : Option (List ℕ)) → text ≡ unread ahead → before ≡ ahead.lines
    → StopsAfter (lines (text ++ more)) before fault a b u v → StopsAfter (lines (unread ahead ++ more)) ahead.lines fault a b u v
ahead_stops ahead text more before fault a b u v same at h =
    subst (λ m. StopsAfter (lines (unread ahead ++ more)) m fault a b u v) at (stops_as (lines (text ++ more)) (lines (unread ahead ++ more)) before fault a b u v (ap (λ t. lines (t ++ more)) same) h)

-- the bytes that were not taken, as a text
pub rest_as : (ahead : Ahead) (text : List ℕ) (before : ℕ) (left : List (List ℕ)) (count : ℕ) (said : Said) (a b : Bench) (u v : Option (List ℕ)) → text ≡ unread ahead → before ≡ ahead.lines
    → AsksAfter (lines text) before said left count a b u v → AsksAfter (lines (unread ahead)) ahead.lines said left count a b u v
rest_as ahead text before left count said a b u v same at h =
    subst (λ m. AsksAfter (lines (unread ahead)) m said left count a b u v) at (subst (λ t. AsksAfter (lines t) before said left count a b u v) same h)
