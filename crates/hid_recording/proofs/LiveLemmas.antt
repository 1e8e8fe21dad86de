-- Reports of a live device, one after the other, and what a run of them wrote.
use Rattle.std.proofs.Common.{◌≡◌, ℕ, List, [], ◌∷◌, ◌++◌, take, refl, sym, ap, ◌∙◌, subst, inl, inr, append-nil, append_assoc, Option, None, Some, IfSome, Result, Ok, Err, IsErrAnd}
use Rattle.std.specs.Prelude.{⊤}
use Rattle.std.specs.Io.KnownBytes.{Appends, Keeps}
use Rattle.std.proofs.KnownBytes.{Appends-nil, Appends-trans, Appends-kept}
use Rattle.hid_recording.specs.declared.fault.Cause.{Cause}
use Rattle.hid_recording.specs.declared.fault.Cause.TheVariants as causes
use Rattle.hid_recording.specs.declared.live.LiveFault.{LiveFault}
use Rattle.hid_recording.specs.declared.live.Received.TheVariants as received
use Rattle.hid_recording.specs.declared.options.Options.{Options}
use Rattle.hid_recording.specs.declared.summary.Summary.{Summary}
use Rattle.hid_recording.specs.Acts.{Descriptor, AppendsActs}
use Rattle.hid_recording.specs.CaptureRuns.{IsOutside}
use Rattle.hid_recording.specs.LiveReports.{TimedReport, timed_report, Receives}
use Rattle.hid_recording.specs.LiveRuns.{ReportGives, ReportsGive, live_fault, LiveStops, ReportsRunTo, before_first, AppendsLive, flush_failure, AppendsFlushed, ReportTells, AppendsReport, EndTells, AppendsEnd, AppendsReports}
use Rattle.hid_recording.specs.Moments.{time_text}
use Rattle.hid_recording.specs.Player.{summary_of}
use Rattle.hid_recording.specs.Session.{Session, with_options, saturating_sum}

-- ---- reports, one after the other

reports_more : (s m l : Session) (first more : List TimedReport) (text rest : List ℕ) → ReportsGive s first text m
    → ReportsGive m more rest l → ReportsGive s (first ++ more) (text ++ rest) l
reports_more s m l [] more text rest h k =
    subst (λ (x : Session). ReportsGive x more (text ++ rest) l) h.1
    (subst (λ t. ReportsGive m more (t ++ rest) l) (sym h.0) k)
reports_more s m l (report ∷ first) more text rest h k =
    (h.0, h.1, h.2 ++ rest, h.3, reports_more h.1 m l first more h.2 rest h.4 k, ap (λ t. t ++ rest) h.5 ∙ append_assoc h.0 h.2 rest)

one_report : (s next : Session) (report : TimedReport) (text : List ℕ) → ReportGives s report text next → ReportsGive s (report ∷ []) text next
one_report s next report text h = (text, next, [], h, (refl, refl), sym (append-nil text))

-- ---- reports that came, where they are known

pub Came : Option (List TimedReport) → Option (List TimedReport) → List TimedReport → Type 0
Came None left read = ⊤
Came (Some sent) None read = ⊥
Came (Some sent) (Some left) read = sent ≡ read ++ left

pub came_none : (a : Option (List TimedReport)) → Came a a []
unfolding Came
came_none None = tt
came_none (Some sent) = refl

pub came_more : (a b c : Option (List TimedReport)) (read : List TimedReport) (n time : ℕ) (buffer : List ℕ) → Came a b read
    → Receives b c (received.Report n time) buffer → Came a c (read ++ timed_report time (take n buffer) ∷ [])
unfolding Came
came_more None b c read n time buffer h k = tt
came_more (Some sent) None c read n time buffer h k = absurd h
came_more (Some sent) (Some left) None read n time buffer h k = absurd k
came_more (Some sent) (Some left) (Some rest) read n time buffer h k =
    h ∙ ap (λ l. read ++ l) k ∙ sym (append_assoc read (timed_report time (take n buffer) ∷ []) rest)

-- what holds whatever comes holds of what is known
came_all : (a b : Option (List TimedReport)) (read : List TimedReport) (P : List TimedReport → Type 0) → Came a b read
    → ((more : List TimedReport) → P (read ++ more)) → IfSome a P
unfolding Came
came_all None b read P h f = tt
came_all (Some sent) None read P h f = absurd h
came_all (Some sent) (Some left) read P h f = subst P (sym h) (f left)

-- where none is left, all has come
came_whole : (a b c : Option (List TimedReport)) (read : List TimedReport) (time : ℕ) (buffer : List ℕ) (P : List TimedReport → Type 0)
    → Came a b read → Receives b c (received.Gone time) buffer → P read → IfSome a P
unfolding Came
came_whole None b c read time buffer P h k p = tt
came_whole (Some sent) None c read time buffer P h k p = absurd h
came_whole (Some sent) (Some left) None read time buffer P h k p = absurd k
came_whole (Some sent) (Some left) (Some rest) read time buffer P h k p =
    subst P (sym (h ∙ ap (λ l. read ++ l) k ∙ append-nil read)) p

-- ---- ends

-- a cause that comes between two reports
outside_stops : (s now : Session) (read more : List TimedReport) (text : List ℕ) (cause : Cause) (fault : LiveFault)
    → ReportsGive s read text now → IsOutside cause → fault ≡ live_fault now cause → LiveStops s (read ++ more) text fault
outside_stops s now read more text cause fault h outside is =
    subst (λ (f : LiveFault). LiveStops s (read ++ more) text f) (sym is) (record {
      first = read;
      rest = more;
      split = refl;
      text = text;
      now = now;
      told = h;
      part = [];
      ends = inl (outside, refl);
      whole = sym (append-nil text);
      place = refl;
    })

pub outside_run : (s now : Session) (a b : Option (List TimedReport)) (c d : Option (List ℕ)) (read : List TimedReport) (text : List ℕ)
    (cause : Cause) (fault : LiveFault) → Came a b read → Appends c d text → ReportsGive s read text now → IsOutside cause
    → fault ≡ live_fault now cause → AppendsReports s a c d (Err fault)
outside_run s now a b c d read text cause fault from grew h outside is =
    came_all a b read (λ reports. (written : List ℕ) × Appends c d written × ReportsRunTo s reports written (Err fault)) from
    (λ more. (text, grew, outside_stops s now read more text cause fault h outside is))

-- a report that ended the run
report_stops : (s now next : Session) (read more : List TimedReport) (report : TimedReport) (text part : List ℕ) (fault : LiveFault)
    → ReportsGive s read text now → ReportTells now report part (Err fault) next
    → LiveStops s ((read ++ report ∷ []) ++ more) (text ++ part) fault
report_stops s now next read more report text part fault h k = record {
  first = read;
  rest = report ∷ more;
  split = append_assoc read (report ∷ []) more;
  text = text;
  now = now;
  told = h;
  part = part;
  ends = inr k.0;
  whole = refl;
  place = k.1;
}

pub report_ends : (s now next : Session) (a b e : Option (List TimedReport)) (c d f : Option (List ℕ)) (read : List TimedReport)
    (text : List ℕ) (n time : ℕ) (buffer bytes : List ℕ) (fault : LiveFault) (result : Result Summary LiveFault) → Came a b read → Appends c d text
    → ReportsGive s read text now → Receives b e (received.Report n time) buffer → bytes ≡ take n buffer
    → AppendsReport d f now (timed_report time bytes) (Err fault) next → IsErrAnd result (λ x. x ≡ fault)
    → AppendsReports s a c f result
report_ends s now next a b e c d f read text n time buffer bytes fault (Ok x) from grew h came is told last = absurd last
report_ends s now next a b e c d f read text n time buffer bytes fault (Err x) from grew h came is told last =
    let here = subst (λ l. AppendsReport d f now (timed_report time l) (Err fault) next) is told in
    came_all a e (read ++ timed_report time (take n buffer) ∷ []) (λ reports. (written : List ℕ) × Appends c f written × ReportsRunTo s reports written (Err x))
    (came_more a b e read n time buffer from came)
    (λ more. (
      text ++ here.0,
      Appends-trans c d f text here.0 grew here.1,
      subst (λ (y : LiveFault). LiveStops s ((read ++ timed_report time (take n buffer) ∷ []) ++ more) (text ++ here.0) y) (sym last)
          (report_stops s now next read more (timed_report time (take n buffer)) text here.0 fault h here.2),
    ))

-- a report more was played
pub report_played : (s now next : Session) (a b e : Option (List TimedReport)) (c d f : Option (List ℕ)) (read : List TimedReport)
    (text : List ℕ) (n time : ℕ) (buffer bytes : List ℕ) → Came a b read → Appends c d text
    → ReportsGive s read text now → Receives b e (received.Report n time) buffer → bytes ≡ take n buffer
    → AppendsReport d f now (timed_report time bytes) (Ok tt) next
    → (all : List TimedReport) × (written : List ℕ) × Came a e all × Appends c f written × ReportsGive s all written next
report_played s now next a b e c d f read text n time buffer bytes from grew h came is told =
    let here = subst (λ l. AppendsReport d f now (timed_report time l) (Ok tt) next) is told in
    let report = timed_report time (take n buffer) in (
      read ++ report ∷ [],
      text ++ here.0,
      came_more a b e read n time buffer from came,
      Appends-trans c d f text here.0 grew here.1,
      reports_more s now next read (report ∷ []) text here.0 h (one_report now next report here.0 here.2),
    )

-- the device is gone
end_runs : (s now : Session) (read : List TimedReport) (text part : List ℕ) (time : ℕ) (result : Result Summary LiveFault)
    → ReportsGive s read text now → EndTells now time part result → ReportsRunTo s read (text ++ part) result
end_runs s now read text part time (Ok summary) h k = record {
  text = text;
  now = now;
  told = h;
  time = time;
  part = part;
  last = k.0;
  gone = k.1;
  counts = k.2;
  whole = refl;
}
end_runs s now read text part time (Err fault) h k = record {
  first = read;
  rest = [];
  split = sym (append-nil read);
  text = text;
  now = now;
  told = h;
  part = part;
  ends = inr (time, k.0);
  whole = refl;
  place = k.1;
}

pub all_run : (s now : Session) (a b e : Option (List TimedReport)) (c d f : Option (List ℕ)) (read : List TimedReport)
    (text : List ℕ) (time : ℕ) (buffer : List ℕ) (result : Result Summary LiveFault) → Came a b read → Appends c d text
    → ReportsGive s read text now → Receives b e (received.Gone time) buffer → AppendsEnd d f now time result
    → AppendsReports s a c f result
all_run s now a b e c d f read text time buffer result from grew h gone told =
    came_whole a b e read time buffer (λ reports. (written : List ℕ) × Appends c f written × ReportsRunTo s reports written result) from gone
    (text ++ told.0, Appends-trans c d f text told.0 grew told.1, end_runs s now read text told.0 time result h told.2)

-- ---- the descriptor

-- memory ran out before it
pub never_begun : (options : Options) (bytes : List ℕ) (sent : Option (List TimedReport)) (c : Option (List ℕ)) (fault : LiveFault)
    → fault ≡ live_fault (before_first options) causes.Memory → AppendsLive options bytes sent c c (Err fault)
never_begun options bytes None c fault is = tt
never_begun options bytes (Some reports) c fault is =
    subst (λ (f : LiveFault). AppendsLive options bytes (Some reports) c c (Err f)) (sym is) ([], Appends-nil c, inr (inl (tt, refl), refl))

-- it ended the run
pub descriptor_ends : (options : Options) (bytes : List ℕ) (sent : Option (List TimedReport)) (c d : Option (List ℕ)) (now next : Session)
    (cause : Cause) (fault : LiveFault) → now ≡ before_first options
    → AppendsActs c d (time_text 0) now (Descriptor 0 bytes ∷ []) (Err cause) next
    → fault ≡ live_fault (before_first options) cause → AppendsLive options bytes sent c d (Err fault)
descriptor_ends options bytes None c d now next cause fault at told is = tt
descriptor_ends options bytes (Some reports) c d now next cause fault at told is =
    let here = subst (λ (s : Session). AppendsActs c d (time_text 0) s (Descriptor 0 bytes ∷ []) (Err cause) next) at told in
    subst (λ (f : LiveFault). AppendsLive options bytes (Some reports) c d (Err f)) (sym is) (here.0, here.1, inr (inr here.2, refl))

-- its reports were run
pub described_run : (options : Options) (bytes : List ℕ) (sent : Option (List TimedReport)) (c d e : Option (List ℕ)) (now described start : Session)
    (result : Result Summary LiveFault) → now ≡ before_first options
    → AppendsActs c d (time_text 0) now (Descriptor 0 bytes ∷ []) (Ok tt) described
    → start ≡ with_options described options → AppendsReports start sent d e result → AppendsLive options bytes sent c e result
described_run options bytes None c d e now described start result at told is run = tt
described_run options bytes (Some reports) c d e now described start result at told is run =
    let here = subst (λ (s : Session). AppendsActs c d (time_text 0) s (Descriptor 0 bytes ∷ []) (Ok tt) described) at told in (
      here.0 ++ run.0,
      Appends-trans c d e here.0 run.0 here.1 run.1,
      inl (record { text = here.0; start = start; described = (described, here.2, is); rest = run.0; run = run.2; whole = refl }),
    )

-- ---- the last flush

kept_live : (options : Options) (bytes : List ℕ) (sent : Option (List TimedReport)) (c d e : Option (List ℕ)) (result : Result Summary LiveFault)
    → AppendsLive options bytes sent c d result → Keeps d e → AppendsLive options bytes sent c e result
kept_live options bytes None c d e result h k = tt
kept_live options bytes (Some reports) c d e result h k = (h.0, Appends-kept c d e h.0 h.1 k, h.2)

pub flushed : (options : Options) (bytes : List ℕ) (sent : Option (List TimedReport)) (c d e : Option (List ℕ)) (result : Result Summary LiveFault)
    → AppendsLive options bytes sent c d result → Keeps d e → AppendsFlushed options bytes sent c e result
flushed options bytes sent c d e result h k = (result, kept_live options bytes sent c d e result h k, inl refl)

pub not_flushed : (options : Options) (bytes : List ℕ) (sent : Option (List TimedReport)) (c d e : Option (List ℕ)) (end result : Result Summary LiveFault)
    → AppendsLive options bytes sent c d end → Keeps d e → result ≡ Err (flush_failure end) → AppendsFlushed options bytes sent c e result
not_flushed options bytes sent c d e end result h k is = (end, kept_live options bytes sent c d e end h k, inr is)

-- ---- where a run ended

-- where a run ended, by what was played
pub live_end_is : (now : Session) (played : Summary) (cause why : Cause) (fault : LiveFault)
    → played ≡ summary_of now now.lines → cause ≡ why
    → fault ≡ record { report = saturating_sum played.lines 1; cause = cause; played = played } → fault ≡ live_fault now why
live_end_is now played cause why fault was because is =
    is ∙ ap (λ (c : Cause). (let f : LiveFault = record { report = saturating_sum played.lines 1; cause = c; played = played } in f)) because
    ∙ ap (λ (s : Summary). (let f : LiveFault = record { report = saturating_sum s.lines 1; cause = why; played = s } in f)) was
