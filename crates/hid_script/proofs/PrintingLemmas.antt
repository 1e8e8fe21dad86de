-- What the lines of a script do to its bus, and what they print of it.
use Rattle.std.proofs.Common.{◌≡◌, ℕ, zero, suc, ◌+◌, ◌-◌, ◌<◌, ◌≤◌, ◌⊎◌, List, [], ◌∷◌, ◌++◌, length, length-append, map, refl, sym, ap, ◌∙◌, subst, inl, inr, arith, append-nil, append_assoc, Option, None, Some, Result, Ok, Err}
use Rattle.std.specs.Prelude.{replicate}
use Rattle.std.specs.List.{All}
use Rattle.std.proofs.lemmas.Bool.{cond_both}
use Rattle.std.proofs.lemmas.List.{replicate-append-replicate}
use Rattle.std.proofs.lemmas.List.Elements.{All-cons, All-nil}
use Rattle.std.proofs.lemmas.Option.{slice_get_within}
use Rattle.hid_report_descriptor.specs.declared.usage.Usage.{Usage}
use Rattle.hid_layout.specs.Layout.{Contents, layout_of}
use Rattle.hid_snapshots.specs.declared.event.Event.{Event}
use Rattle.hid_snapshots.specs.declared.fault.ReportFault.{ReportFault}
use Rattle.hid_usages.specs.Reading.{report_named}
use Rattle.hid_requests.specs.declared.boot.Boot.{Boot}
use Rattle.hid_bus.specs.declared.start.Start.{Start}
use Rattle.hid_bus.specs.declared.start.Start.TheVariants.{Ready, Cold}
use Rattle.hid_device.specs.declared.config.Config.{Config}
use Rattle.hid_host.specs.declared.fault.StackFault.{StackFault}
use Rattle.hid_bus.specs.declared.step.Step.{Step}
use Rattle.hid_bus.specs.declared.step.Step.TheVariants.{Change, Frame, Poll, Begin, Control, Halt, Reset}
use Rattle.hid_bus.specs.declared.step.Delivered.{Delivered}
use Rattle.hid_bus.specs.Delivered.{from_device}
use Rattle.hid_stack.specs.declared.rig.TheConstants.{MAX_DEVICES}
use Rattle.hid_stack.specs.Attaching.{Attaches, member_at_start}
use Rattle.hid_stack.specs.Headline.{MemberFollowsHistory}
use Rattle.hid_stack.specs.Members.{Member}
use Rattle.hid_stack.specs.Rig.{bus_after, deliveries_of_step, member_at, with_device_number}
use Rattle.hid_stack.specs.BusHistory.{Action, Attached, HasMemoryFor, Taken, Unconcluded, bus_after_actions, bus_events_of_actions, deliveries_of_actions, device_actions, member_after_actions, next_number}
use Rattle.hid_stack.proofs.Isolation.{at_place, no_zero}
use Rattle.hid_stack.proofs.BusHistoryLemmas.{bus_append, delivered_append, its_own, nothing_of, same_many}
use Rattle.hid_text.specs.declared.fault.LineFault.{LineFault}
use Rattle.hid_text.specs.declared.line.Line.{Line}
use Rattle.hid_text.specs.declared.line.Line.TheVariants as line
use Rattle.hid_text.specs.declared.short.ShortLine.{ShortLine}
use Rattle.hid_text.specs.declared.short.ShortLine.TheVariants as short
use Rattle.hid_text.specs.Line.{meaning_of}
use Rattle.hid_text.specs.EventLines.{HaveOneDigit, ShowsEvents, event_lines}
use Rattle.hid_text.specs.EventText.{event_text}
use Rattle.hid_text.specs.LayoutText.{layout_text}
use Rattle.hid_text.proofs.ShownLemmas.{shows_both, shows_layout, shows_nothing, shows_step, shows_values}
use Rattle.hid_script.specs.declared.fault.Cause.{Cause}
use Rattle.hid_text.specs.declared.change_kind.ChangeKind.{ChangeKind}
use Rattle.hid_text.specs.declared.change_kind.ChangeKind.TheVariants as wanted
use Rattle.hid_script.specs.Laws.{LinesPrintLives, RunsPrintLives}
use Rattle.hid_script.specs.Printing.{AllDo, AttachesOne, BeginsToDo, ChangesOne, ScriptActs, DoesShort, DoUpTo, PrintsHistories}
use Rattle.hid_script.specs.Runs.{AllPrint, FirstBegins}
use Rattle.hid_script.proofs.FlushLemmas.{begun_there}
use Rattle.hid_script.specs.Session.{Session, Outcome, success, after_text, at_first, Repeats}
use Rattle.hid_script.specs.Steps.{LayoutPrints, ValuesPrint, DevicePrints, StepPrints, ChangePrints, attaches, change_of, config_of, saturating_sum, finished_read, lays_out, read_report, refuses_step, step_outcome, values_outcome}
use Rattle.hid_script.specs.LineOutput.{BeginsMeant, LineBegins, LineOutcomeOnce, LinePrints, MeaningPrints, ShortLinePrints, short_times, times}

-- ---- what a part does

-- no device is attached with an open round, and each step is taken
abbrev pub HaveNoRound : List Action → Type 0
HaveNoRound [] = Unit {0}
HaveNoRound (Attached m ∷ acts) = (m.link.current ≡ None) × HaveNoRound acts
HaveNoRound (Taken x ∷ acts) = HaveNoRound acts
HaveNoRound (Unconcluded dev fate ∷ acts) = ⊥

-- a part of a script did this to a bus, and printed the lines of its events
pub record Done (members : List Member) (text : List ℕ) (acts : List Action) (next : List Member) : Type 0 where
  pub shows : ShowsEvents text (deliveries_of_actions members acts)
  pub bus : next ≡ bus_after_actions members acts
  pub few : length next < 10
  pub no_round : HaveNoRound acts

no_rounds : (first rest : List Action) → HaveNoRound first → HaveNoRound rest → HaveNoRound (first ++ rest)
no_rounds [] rest h k = k
no_rounds (Attached m ∷ first) rest h k = (h.0, no_rounds first rest h.1 k)
no_rounds (Taken x ∷ first) rest h k = no_rounds first rest h k
no_rounds (Unconcluded dev fate ∷ first) rest h k = absurd h

pub done_both : (members middle next : List Member) (a b : List ℕ) (first rest : List Action)
    → Done members a first middle → Done middle b rest next → Done members (a ++ b) (first ++ rest) next
done_both members middle next a b first rest h k =
    let later : ShowsEvents b (deliveries_of_actions (bus_after_actions members first) rest) =
    subst (λ (ms : List Member). ShowsEvents b (deliveries_of_actions ms rest)) h.bus k.shows in
    record {
      shows = subst (ShowsEvents (a ++ b)) (sym (delivered_append first rest members))
          (shows_both a b (deliveries_of_actions members first)
          (deliveries_of_actions (bus_after_actions members first) rest) h.shows later);
      bus = k.bus ∙ ap (λ (ms : List Member). bus_after_actions ms rest) h.bus ∙ sym (bus_append first rest members);
      few = k.few;
      no_round = no_rounds first rest h.no_round k.no_round;
    }

-- a part that printed a text without events, and left the bus as it was
pub done_nothing : (members next : List Member) (text : List ℕ) → length members < 10 → ShowsEvents text [] → next ≡ members → Done members text [] next
done_nothing members next text few shows same = record { shows = shows; bus = same; few = subst (λ (ms : List Member). length ms < 10) (sym same) few; no_round = tt }

-- ---- what it leaves

text_is : (text : List ℕ) (next : Session) (o : Outcome) → success text next ≡ o → text ≡ o.text
text_is text next o e = ap (λ (p : Outcome). p.text) e

session_is : (text other : List ℕ) (next session : Session) → success text next ≡ success other session
    → next ≡ session
session_is text other next session e = let end : (let r : Result Session Cause = Ok next in r) ≡ Ok session = ap (λ (p : Outcome). p.end) e in cc

not_refused : (text : List ℕ) (next : Session) (fault : StackFault) → success text next ≡ refuses_step fault → ⊥
not_refused text next fault e = let end = ap (λ (p : Outcome). p.end) e in absurd (cc)

-- ---- steps

numbered : (members : List Member) (dev : ℕ) (m : Member) → length members < 10 → member_at members dev ≡ Some m → dev < 10
numbered members dev m few h =
    let within = slice_get_within members (dev - 1) m (sym (at_place members dev (no_zero members dev m h)) ∙ h) in omega (arith, few, within)

few_tagged : (dev : ℕ) (events : List Event) → dev < 10 → HaveOneDigit (map (with_device_number dev) events)
few_tagged dev [] few = tt
few_tagged dev (e ∷ events) few = (few, few_tagged dev events few)

few_of_one : (members : List Member) (dev : ℕ) (gives : Member → List Event) → length members < 10
    → HaveOneDigit (elim (member_at members dev) as
    (λ _. List Delivered) [ None ↦ [] | Some m ↦ map (with_device_number dev) (gives m) ])
few_of_one members dev gives few = by_member (member_at members dev) refl
  where
    by_member : (o : Option Member) → member_at members dev ≡ o
        → HaveOneDigit (elim o as (λ _. List Delivered) [ None ↦ [] | Some m ↦ map (with_device_number dev) (gives m) ])
    by_member None e = tt
    by_member (Some m) e = few_tagged dev (gives m) (numbered members dev m few e)

few_at : (members : List Member) (x : Step) → length members < 10 → HaveOneDigit (deliveries_of_step members x)
few_at members (Change dev change) few = tt
few_at members Frame few = tt
few_at members (Poll dev fate) few = few_of_one members dev _ few
few_at members (Begin dev request) few = tt
few_at members (Control dev fate) few = few_of_one members dev _ few
few_at members (Halt dev) few = few_of_one members dev _ few
few_at members (Reset dev) few = few_of_one members dev _ few

pub step_done : (x : Step) (session next : Session) (text : List ℕ) → length session.members < 10
    → StepPrints x session (success text next) → Done session.members text (Taken x ∷ []) next.members
step_done x session next text few (inr h) = absurd (not_refused text next h.0 h.2)
step_done x session next text few (inl h) =
    let members = session.members in
    let delivered = deliveries_of_step members x in
    let said = text_is text next (step_outcome session x h.0) h.3 in
    let left =
    ap (λ (s : Session). s.members)
    (session_is text (step_outcome session x h.0).text next
    (record session {
      members = bus_after members x;
      events =
          saturating_sum session.events (length delivered);
    }) h.3) in
    let same = same_many members x in
    record {
      shows = subst (ShowsEvents text) (sym (append-nil delivered))
          (subst (λ t. ShowsEvents t delivered) (sym said)
          (shows_step session.options.trace x h.0 (finished_read (bus_after members x) x) delivered
          (few_at members x few)));
      bus = left;
      few = subst (λ (ms : List Member). length ms < 10) (sym left) (omega (arith, same, few));
      no_round = tt;
    }

-- a step n times over
steps_done : (said : ShortLine) (x : Step)
    → ((s : Session) (o : Outcome) → ShortLinePrints said s o → StepPrints x s o)
    → (n : ℕ) (session next : Session) (text : List ℕ) → length session.members < 10
    → Repeats n (ShortLinePrints said) session (success text next)
    → Done session.members text (replicate n (Taken x)) next.members
unfolding Repeats
steps_done said x is zero session next text few h =
    let same = session_is text [] next session h in
    done_nothing session.members next.members text few
    (subst (λ t. ShowsEvents t []) (sym (text_is text next (success [] session) h)) shows_nothing)
    (ap (λ (s : Session). s.members) same)
steps_done said x is (suc n) session next text few (inr h) = let ends = ap (λ (o : Outcome). o.end) h.3 in absurd (cc)
steps_done said x is (suc n) session next text few (inl h) =
    let said_first = step_done x session h.1 h.0 few (is session (success h.0 h.1) h.3) in
    let end : (let r : Result Session Cause = Ok next in r) ≡ h.2.end = ap (λ (o : Outcome). o.end) h.5 in
    let rest : Repeats n (ShortLinePrints said) h.1 (success h.2.text next) =
    subst (λ e. Repeats n (ShortLinePrints said) h.1 (record { text = h.2.text; end = e })) (sym end) h.4 in
    let later = steps_done said x is n h.1 next h.2.text said_first.few rest in
    subst (λ t. Done session.members t (Taken x ∷ replicate n (Taken x)) next.members) (sym (ap (λ (o : Outcome). o.text) h.5))
    (done_both session.members h.1.members next.members h.0 h.2.text (Taken x ∷ []) (replicate n (Taken x)) said_first later)

-- a part that is carried out once
just_once : (Part : Session → Outcome → Type 0) (session next : Session) (text : List ℕ)
    → Repeats 1 Part session (success text next) → Part session (success text next)
unfolding Repeats
just_once Part session next text (inr h) = let ends = ap (λ (o : Outcome). o.end) h.3 in absurd (cc)
just_once Part session next text (inl h) =
    let same : success text next ≡ success h.0 h.1 =
    h.5 ∙ ap (after_text h.0) h.4 ∙ ap (λ t. success t h.1) (append-nil h.0) in
    subst (Part session) (sym same) h.3

-- ---- lines

-- what a line did, and printed
abbrev pub LineDone : Line → Session → List ℕ → Session → Type 0
LineDone said session text next =
    (acts : List Action) × ScriptActs said session.members acts × Done session.members text acts next.members

change_done : (dev : ℕ) (usage : Usage) (wanted : ChangeKind) (session next : Session) (text : List ℕ)
    → length session.members < 10 → ChangePrints dev usage wanted session (success text next)
    → (acts : List Action) × ChangesOne dev usage wanted session.members acts
    × Done session.members text acts next.members
change_done dev usage wanted session next text few (Ok control, finds, told) =
    (Taken (Change dev (change_of wanted control)) ∷ [], (control, finds, refl), step_done (Change dev (change_of wanted control)) session next text few told)
change_done dev usage wanted session next text few (Err fault, finds, told) = absurd (not_refused text next fault told)

starts_quiet : (start : Start) (dev : ℕ) (config : Config) (bytes : List ℕ) (layout : Contents)
    → (member_at_start start dev config bytes layout).link.current ≡ None
starts_quiet Ready dev config bytes layout = refl
starts_quiet Cold dev config bytes layout = refl

device_done : (start : Start) (boot : Boot) (bytes : List ℕ) (session next : Session) (text : List ℕ)
    → DevicePrints start boot bytes session (success text next)
    → (acts : List Action) × AttachesOne start boot bytes session.members acts
    × Done session.members text acts next.members
device_done start boot bytes session next text (inr h) = absurd (not_refused text next h.0 h.4)
device_done start boot bytes session next text (inl (dev, layout, after, attached, after_is, is)) =
    let m : Member = member_at_start start dev (config_of boot) bytes layout in
    let said = text_is text next (attaches session layout after) is in
    let left = ap (λ (s : Session). s.members) (session_is text (attaches session layout after).text next (record session { members = after }) is) in
    let shown = cond_both session.options.layout (layout_text layout) [] (λ t. ShowsEvents t []) (λ _. shows_layout layout) (λ _. shows_nothing) in
    let more : length (session.members ++ m ∷ []) ≡ length session.members + 1 = length-append session.members (m ∷ []) in
    let room = attached.0 in (
      Attached m ∷ [],
      (dev, m, subst (Attaches MAX_DEVICES (config_of boot) bytes start session.members (Ok dev)) after_is attached, refl),
      record {
        shows = subst (λ t. ShowsEvents t []) (sym said) shown;
        bus = left ∙ after_is;
        few = subst (λ (ms : List Member). length ms < 10) (sym (left ∙ after_is)) (omega (arith, more, room));
        no_round = (starts_quiet start dev (config_of boot) bytes layout, tt);
      },
    )

layout_done : (bytes : List ℕ) (session next : Session) (text : List ℕ) → length session.members < 10
    → LayoutPrints bytes session (success text next) → Done session.members text [] next.members
layout_done bytes session next text few (inr h) = let ends = ap (λ (o : Outcome). o.end) h.1.1 in absurd (cc)
layout_done bytes session next text few (inl h) =
    let layout = layout_of h.0 in
    let left = ap (λ (s : Session). s.members) (session_is text (layout_text layout) next (record session { layout = Some layout }) h.1.1) in
    done_nothing session.members next.members text few (subst (λ t. ShowsEvents t []) (sym (text_is text next (lays_out session layout) h.1.1)) (shows_layout layout)) left

values_done : (bytes : List ℕ) (session next : Session) (text : List ℕ) → length session.members < 10
    → ValuesPrint bytes session (success text next) → Done session.members text [] next.members
values_done bytes session next text few h = by_layout session.layout h
  where
    by_report : (layout : Contents) (found : Result ℕ ReportFault)
        → success text next ≡ read_report session layout bytes found → Done session.members text [] next.members
    by_report layout (Ok r) e =
        done_nothing session.members next.members text few (subst (λ t. ShowsEvents t []) (sym (ap (λ (o : Outcome). o.text) e)) (shows_values layout r bytes))
        (ap (λ (s : Session). s.members) (session_is text _ next session e))
    by_report layout (Err fault) e = let ends = ap (λ (o : Outcome). o.end) e in absurd (cc)

    by_layout : (o : Option Contents) → success text next ≡ values_outcome session bytes o
        → Done session.members text [] next.members
    by_layout None e = let ends = ap (λ (o : Outcome). o.end) e in absurd (cc)
    by_layout (Some layout) e = by_report layout (report_named layout bytes) e

-- what a short line did, and printed
abbrev ShortDone : ShortLine → Session → List ℕ → Session → Type 0
ShortDone said session text next =
    (acts : List Action) × DoesShort said session.members acts × Done session.members text acts next.members

short_done : (said : ShortLine) (session next : Session) (text : List ℕ) → length session.members < 10
    → Repeats (short_times said) (ShortLinePrints said) session (success text next) → ShortDone said session text next
unfolding ShortLinePrints short_times DoesShort
short_done (short.Press dev usage) session next text few h =
    change_done dev usage wanted.Press session next text few
    (just_once (ShortLinePrints (short.Press dev usage)) session next text h)
short_done (short.Release dev usage) session next text few h =
    change_done dev usage wanted.Release session next text few
    (just_once (ShortLinePrints (short.Release dev usage)) session next text h)
short_done (short.Null dev usage) session next text few h =
    change_done dev usage wanted.Null session next text few
    (just_once (ShortLinePrints (short.Null dev usage)) session next text h)
short_done (short.Set dev usage value) session next text few h =
    change_done dev usage (wanted.Set value) session next text few
    (just_once (ShortLinePrints (short.Set dev usage value)) session next text h)
short_done (short.Move dev usage by) session next text few h =
    change_done dev usage (wanted.Move by) session next text few
    (just_once (ShortLinePrints (short.Move dev usage by)) session next text h)
short_done (short.Frame count) session next text few h = (replicate count (Taken Frame), refl, steps_done (short.Frame count) Frame (λ s o told. told) count session next text few h)
short_done (short.Poll dev fate count) session next text few h = (replicate count (Taken (Poll dev fate)), refl, steps_done (short.Poll dev fate count) (Poll dev fate) (λ s o told. told) count session next text few h)
short_done (short.Control dev fate count) session next text few h = (replicate count (Taken (Control dev fate)), refl, steps_done (short.Control dev fate count) (Control dev fate) (λ s o told. told) count session next text few h)
short_done (short.Reset dev) session next text few h = (
  Taken (Reset dev) ∷ [],
  refl,
  step_done (Reset dev) session next text few (just_once (ShortLinePrints (short.Reset dev)) session next text h),
)
short_done (short.Halt dev) session next text few h = (
  Taken (Halt dev) ∷ [],
  refl,
  step_done (Halt dev) session next text few (just_once (ShortLinePrints (short.Halt dev)) session next text h),
)

pub line_done : (said : Line) (session next : Session) (text : List ℕ) → length session.members < 10
    → Repeats (times said) (LineOutcomeOnce said) session (success text next) → LineDone said session text next
unfolding LineOutcomeOnce times ScriptActs
line_done line.Nothing session next text few h =
    let e = just_once (LineOutcomeOnce line.Nothing) session next text h in
    ([], refl, done_nothing session.members next.members text few (subst (λ t. ShowsEvents t []) (sym (ap (λ (o : Outcome). o.text) e)) shows_nothing) (ap (λ (s : Session). s.members) (session_is text [] next session e)))
line_done (line.Layout bytes) session next text few h = (
  [],
  refl,
  layout_done bytes.items session next text few
      (just_once (LineOutcomeOnce (line.Layout bytes)) session next text h),
)
line_done (line.Values bytes) session next text few h = (
  [],
  refl,
  values_done bytes.items session next text few
      (just_once (LineOutcomeOnce (line.Values bytes)) session next text h),
)
line_done (line.Device start boot bytes) session next text few h =
    device_done start boot bytes.items session next text
    (just_once (LineOutcomeOnce (line.Device start boot bytes)) session next text h)
line_done (line.Begin dev request) session next text few h = (
  Taken (Begin dev request) ∷ [],
  refl,
  step_done (Begin dev request) session next text few
      (just_once (LineOutcomeOnce (line.Begin dev request)) session next text h),
)
line_done (line.Step said) session next text few h = short_done said session next text few h

meant_done : (session next : Session) (bytes text : List ℕ) (meaning : Result Line LineFault)
    → meaning_of bytes ≡ meaning → length session.members < 10 → MeaningPrints session meaning (success text next)
    → (said : Line) × (meaning_of bytes ≡ Ok said) × LineDone said session text next
meant_done session next bytes text (Ok said) is few h = (said, is, line_done said session next text few h)
meant_done session next bytes text (Err fault) is few h = let ends = ap (λ (o : Outcome). o.end) h in absurd (cc)

pub told_done : (session next : Session) (bytes text : List ℕ) → length session.members < 10
    → LinePrints session bytes (success text next)
    → (said : Line) × (meaning_of bytes ≡ Ok said) × LineDone said session text next
unfolding LinePrints
told_done session next bytes text few h = meant_done session next bytes text (meaning_of bytes) refl few h

-- ---- whole scripts

pub all_done : (script : List (List ℕ)) (session last : Session) (text : List ℕ) → length session.members < 10
    → AllPrint session script text last
    → (acts : List Action) × AllDo session.members script acts × Done session.members text acts last.members
all_done [] session last text few h = ([], refl, done_nothing session.members last.members text few (subst (λ t. ShowsEvents t []) (sym h.0) shows_nothing) (ap (λ (s : Session). s.members) h.1))
all_done (bytes ∷ more) session last text few h =
    let first = told_done session h.1 bytes h.0 few h.3 in
    let did = first.2.2 in
    let rest = all_done more h.1 last h.2 did.few h.4 in (
      first.2.0 ++ rest.0,
      (first.0, first.2.0, rest.0, first.1, first.2.1, subst (λ (ms : List Member). AllDo ms more rest.0) did.bus rest.1, refl),
      subst (λ t. Done session.members t (first.2.0 ++ rest.0) last.members) (sym h.5) (done_both session.members h.1.members last.members h.0 h.2 first.2.0 rest.0 did rest.2),
    )

no_round_there : (before since : List Action) (m : Member) → HaveNoRound (before ++ Attached m ∷ since)
    → m.link.current ≡ None
no_round_there [] since m h = h.0
no_round_there (Attached k ∷ before) since m h = no_round_there before since m h.1
no_round_there (Taken x ∷ before) since m h = no_round_there before since m h
no_round_there (Unconcluded dev fate ∷ before) since m h = absurd h

has_memory : (acts : List Action) (device : ℕ) → HaveNoRound acts → All (HasMemoryFor device) acts
has_memory [] device h = All-nil (HasMemoryFor device)
has_memory (Attached m ∷ acts) device h =
    All-cons (HasMemoryFor device) (Attached m) acts tt (has_memory acts device h.1)
has_memory (Taken x ∷ acts) device h = All-cons (HasMemoryFor device) (Taken x) acts tt (has_memory acts device h)
has_memory (Unconcluded dev fate ∷ acts) device h = absurd h

has_memory_since : (before since : List Action) (m : Member) (device : ℕ) → HaveNoRound (before ++ Attached m ∷ since)
    → All (HasMemoryFor device) since
has_memory_since [] since m device h = has_memory since device h.1
has_memory_since (Attached k ∷ before) since m device h = has_memory_since before since m device h.1
has_memory_since (Taken x ∷ before) since m device h = has_memory_since before since m device h
has_memory_since (Unconcluded dev fate ∷ before) since m device h = absurd h

-- the lines of a device's events in all that was printed
lines_are : (text : List ℕ) (delivered : List Delivered) (dev : ℕ) → ShowsEvents text delivered → event_lines dev text ≡ map (event_text dev) (from_device dev delivered)
lines_are text delivered dev h = ap (event_lines dev) (sym (append-nil text)) ∙ h dev [] ∙ append-nil (map (event_text dev) (from_device dev delivered))

pub lives_of : (Did : List Action → Type 0) (text : List ℕ) (last : List Member) (acts : List Action) → Did acts
    → Done [] text acts last → PrintsHistories Did text last
lives_of Did text last acts did it =
    record {
      acts = acts;
      done = did;
      bus = it.bus;
      history = λ before since m is.
          let dev = next_number before in
          let its = its_own before m since in
          let n = member_after_actions m (device_actions before since) in
          let told = from_device dev (deliveries_of_actions [] acts) in
          let quiet = no_round_there before since m (subst HaveNoRound is it.no_round) in
          let has = has_memory_since before since m dev (subst HaveNoRound is it.no_round) in (
            n,
            told,
            ap (λ (ms : List Member). member_at ms dev) (it.bus ∙ ap (bus_after_actions []) is) ∙ its.state,
            lines_are text (deliveries_of_actions [] acts) dev it.shows,
            subst (MemberFollowsHistory m (bus_events_of_actions m (device_actions before since)) n)
                (sym (ap (λ (a : List Action). from_device dev (deliveries_of_actions [] a)) is ∙ its.events_of_steps has))
                (its.history quiet),
          );
      none = λ dev absent.
          lines_are text (deliveries_of_actions [] acts) dev it.shows
          ∙ ap (map (event_text dev)) (nothing_of acts [] dev (ap (λ (ms : List Member). member_at ms dev) (sym it.bus) ∙ absent));
    }

pub lives_printed : LinesPrintLives
lives_printed options script text last h =
    let all = all_done script (at_first options) last text (omega arith) h in
    lives_of (AllDo [] script) text last.members all.0 all.1 all.2

-- ---- the line at which a run ends

-- what the first times of a line did, and printed
abbrev BegunDone : Line → Session → List ℕ → Session → Type 0
BegunDone said session text next =
    (acts : List Action) × ((acts ≡ []) ⊎ ((others : List Action) × ScriptActs said session.members (acts ++ others)))
    × Done session.members text acts next.members

-- a line that is carried out no times
nothing_begun : (said : Line) (session next : Session) (text : List ℕ) → length session.members < 10
    → success text next ≡ success [] session → BegunDone said session text next
nothing_begun said session next text few e = (
  [],
  inl refl,
  done_nothing session.members next.members text few
      (subst (λ t. ShowsEvents t []) (sym (text_is text next (success [] session) e)) shows_nothing)
      (ap (λ (s : Session). s.members) (session_is text [] next session e)),
)

-- a line that is carried out once
once_begun : (said : Line) (n : ℕ) (session next : Session) (text : List ℕ) → times said ≡ 1
    → length session.members < 10 → n ≤ times said → Repeats n (LineOutcomeOnce said) session (success text next)
    → BegunDone said session text next
unfolding Repeats
once_begun said zero session next text one few below h = nothing_begun said session next text few h
once_begun said (suc zero) session next text one few below h =
    let did =
    line_done said session next text few
    (subst (λ k. Repeats k (LineOutcomeOnce said) session (success text next)) (sym one) h) in
    (did.0, inr ([], subst (ScriptActs said session.members) (sym (append-nil did.0)) did.1), did.2)
once_begun said (suc (suc n)) session next text one few below h = absurd (omega (arith, one, below))

-- a step that is taken some times
steps_begun : (said : ShortLine) (x : Step) (n count : ℕ) (session next : Session) (text : List ℕ)
    → ((s : Session) (o : Outcome) → ShortLinePrints said s o → StepPrints x s o)
    → ((acts : List Action) → acts ≡ replicate count (Taken x) → DoesShort said session.members acts)
    → length session.members < 10 → n ≤ count → Repeats n (ShortLinePrints said) session (success text next)
    → BegunDone (line.Step said) session text next
unfolding ScriptActs
steps_begun said x n count session next text is does few below h =
    let whole : n + (count - n) ≡ count = omega (arith, below) in
    let parts : replicate n (Taken x) ++ replicate (count - n) (Taken x) ≡ replicate count (Taken x) = replicate-append-replicate n (count - n) (Taken x) ∙ ap (λ k. replicate k (Taken x)) whole in
    (replicate n (Taken x), inr (replicate (count - n) (Taken x), does (replicate n (Taken x) ++ replicate (count - n) (Taken x)) parts), steps_done said x is n session next text few h)

short_begun : (said : ShortLine) (n : ℕ) (session next : Session) (text : List ℕ) → length session.members < 10
    → n ≤ short_times said → Repeats n (ShortLinePrints said) session (success text next)
    → BegunDone (line.Step said) session text next
unfolding LineOutcomeOnce times ShortLinePrints short_times DoesShort
short_begun (short.Frame count) n session next text few below h = steps_begun (short.Frame count) Frame n count session next text (λ s o told. told) (λ acts is. is) few below h
short_begun (short.Poll dev fate count) n session next text few below h = steps_begun (short.Poll dev fate count) (Poll dev fate) n count session next text (λ s o told. told) (λ acts is. is) few below h
short_begun (short.Control dev fate count) n session next text few below h = steps_begun (short.Control dev fate count) (Control dev fate) n count session next text (λ s o told. told) (λ acts is. is) few below h
short_begun said n session next text few below h = once_begun (line.Step said) n session next text refl few below h

begun_done : (said : Line) (n : ℕ) (session next : Session) (text : List ℕ) → length session.members < 10
    → n ≤ times said → Repeats n (LineOutcomeOnce said) session (success text next) → BegunDone said session text next
unfolding LineOutcomeOnce times
begun_done (line.Step said) n session next text few below h = short_begun said n session next text few below h
begun_done said n session next text few below h = once_begun said n session next text refl few below h

-- what the first of some lines began to do, and printed
abbrev NextBegun : Session → List (List ℕ) → List ℕ → Type 0
NextBegun session others text =
    (next : List Member) × (acts : List Action) × BeginsToDo session.members others acts
    × Done session.members text acts next

no_next : (session : Session) (text : List ℕ) → length session.members < 10 → text ≡ [] → Done session.members text [] session.members
no_next session text few none = done_nothing session.members session.members text few (subst (λ t. ShowsEvents t []) (sym none) shows_nothing) refl

meant_begun : (session : Session) (bytes text : List ℕ) (more : List (List ℕ)) (meaning : Result Line LineFault) → meaning_of bytes ≡ meaning → length session.members < 10 → BeginsMeant session meaning text → NextBegun session (bytes ∷ more) text
meant_begun session bytes text more (Err fault) is few h = (session.members, [], inl refl, no_next session text few h)
meant_begun session bytes text more (Ok said) is few h = by_acts (begun_done said h.0 session h.1 text few h.2 h.3)
  where
    by_acts : BegunDone said session text h.1 → NextBegun session (bytes ∷ more) text
    by_acts (acts, inl none, did) = (h.1.members, acts, inl none, did)
    by_acts (acts, inr does, did) = (h.1.members, acts, inr (said, does.0, is, does.1), did)

next_begun : (session : Session) (others : List (List ℕ)) (text : List ℕ) → length session.members < 10 → FirstBegins session others text → NextBegun session others text
unfolding LineBegins
next_begun session [] text few h = (session.members, [], refl, no_next session text few h)
next_begun session (bytes ∷ more) text few h = meant_begun session bytes text more (meaning_of bytes) refl few h

pub runs_printed : RunsPrintLives
runs_printed options script written (Ok summary) h = (h.last.members, lives_printed options script written h.last h.all)
runs_printed options script written (Err fault) h =
    let all = all_done h.first (at_first options) h.now h.text (omega arith) h.all in
    let ends = begun_there h.now h.others h.part fault.cause h.ends in
    let begun = next_begun h.now h.others (h.part ++ ends.0) all.2.few ends.1 in
    let did : DoUpTo h.first h.others (all.0 ++ begun.1) = (all.0, begun.1, all.1, subst (λ (ms : List Member). BeginsToDo ms h.others begun.1) all.2.bus begun.2, refl) in
    let whole : h.text ++ (h.part ++ ends.0) ≡ written ++ ends.0 = sym (append_assoc h.text h.part ends.0) ∙ ap (λ t. t ++ ends.0) (sym h.whole) in
    let printed = subst (λ t. Done [] t (all.0 ++ begun.1) begun.0) whole (done_both [] h.now.members begun.0 h.text (h.part ++ ends.0) all.0 begun.1 all.2 begun.3) in (
      h.first,
      h.others,
      h.text,
      h.part,
      h.now.members,
      h.split,
      omega (arith, h.line),
      h.whole,
      lives_printed options h.first h.text h.now h.all,
      ends.0,
      begun.0,
      lives_of (DoUpTo h.first h.others) (written ++ ends.0) begun.0 (all.0 ++ begun.1) did printed,
      ends.2,
    )
