-- The devices of a script agree with their hosts where they have nothing to send, and last lines bring them there.
use Rattle.std.proofs.Common.{◌≡◌, ◌≢◌, ◌<◌, ◌≤◌, ◌==◌, ◌&&◌, not, cond, Bool, true, false, ℕ, zero, suc, ◌+◌, List, [], ◌∷◌, ◌++◌, length, Option, Result, Some, None, Ok, Err, refl, sym, ap, ◌∙◌, subst, arith}
use Rattle.std.specs.Prelude.{IfSome, replicate}
use Rattle.std.specs.List.{cons_option}
use Rattle.std.proofs.lemmas.Bool.Decides.{Decides-eqb}
use Rattle.std.proofs.lemmas.List.Elements.{All-replicate}
use Rattle.hid_report_descriptor.specs.declared.usage.Usage.{Usage}
use Rattle.hid_layout.specs.Controls.{Item, items_of}
use Rattle.hid_snapshots.specs.declared.change.Change.{Change}
use Rattle.usb_transact.specs.declared.transaction.Fate.{Fate}
use Rattle.usb_transact.specs.declared.transaction.Fate.TheVariants.{Clean, TokenLost, ReplyLost, AckLost}
use Rattle.hid_requests.specs.declared.boot.Boot.{Boot}
use Rattle.hid_bus.specs.declared.start.Start.{Start}
use Rattle.hid_bus.specs.declared.step.Step.{Step}
use Rattle.hid_bus.specs.declared.step.Step.TheVariants as step
use Rattle.hid_bus.specs.declared.step.Step.TheVariants.{Frame, Poll, Control}
use Rattle.hid_bus.specs.Rounds.{OwnStep, Changes, Polls, closed_count, is_clean}
use Rattle.hid_bus.specs.Rounds as own
use Rattle.hid_bus.specs.LinkState.{LinkState, state_after_step, state_after_steps}
use Rattle.hid_bus.specs.Convergence.{AreStill, IsStill, fates_of}
use Rattle.hid_bus.proofs.IdleLemmas.{steps_idle}
use Rattle.hid_stack.specs.declared.rig.TheConstants.{MAX_DEVICES}
use Rattle.hid_stack.specs.Attaching.{Attaches, member_at_start}
use Rattle.hid_stack.specs.Members.{Member, polls_it}
use Rattle.hid_stack.specs.Rig.{bus_after, bus_after_all, device_steps, is_scheduled, member_at, own_step}
use Rattle.hid_stack.specs.BusHistory.{Action, Attached, Taken, Unconcluded, bus_after_actions}
use Rattle.hid_stack.specs.Agreement.{AllStartUnpolled, StartsUnpolled}
use Rattle.hid_stack.proofs.AttachLemmas.{stands_last, stands_still}
use Rattle.hid_stack.proofs.AgreementLemmas.{agree_from_attach, attached_rests_by, stands_after, starts_unpolled}
use Rattle.hid_text.specs.declared.change_kind.ChangeKind.{ChangeKind}
use Rattle.hid_text.specs.declared.change_kind.ChangeKind.TheVariants as wanted
use Rattle.hid_text.specs.declared.fault.LineFault.{LineFault}
use Rattle.hid_text.specs.declared.line.Line.{Line}
use Rattle.hid_text.specs.declared.line.Line.TheVariants as line
use Rattle.hid_text.specs.declared.short.ShortLine.{ShortLine}
use Rattle.hid_text.specs.declared.short.ShortLine.TheVariants as short
use Rattle.hid_text.specs.Line.{meaning_of}
use Rattle.hid_script.specs.Laws.{AreLastLines, LeavesAlone, LinesAgree, PollsBringToRest, clean_polls}
use Rattle.hid_script.specs.Printing.{AllDo, ChangesOne, DoesShort, ScriptActs}
use Rattle.hid_script.specs.Runs.{AllPrint}
use Rattle.hid_script.specs.Session.{Session, at_first}
use Rattle.hid_script.specs.Steps.{change_of, config_of}
use Rattle.hid_script.proofs.PrintingLemmas.{LineDone, all_done, told_done}

-- ---- each device starts unpolled

start_both : (first rest : List Action) → AllStartUnpolled first → AllStartUnpolled rest → AllStartUnpolled (first ++ rest)
start_both [] rest h k = k
start_both (Attached m ∷ first) rest h k = (h.0, start_both first rest h.1 k)
start_both (Taken x ∷ first) rest h k = start_both first rest h k
start_both (Unconcluded dev fate ∷ first) rest h k = start_both first rest h k

taken_start : (count : ℕ) (x : Step) → AllStartUnpolled (replicate count (Taken x))
taken_start zero x = tt
taken_start (suc count) x = taken_start count x

same_last : (members : List Member) (a b : Member) → members ++ a ∷ [] ≡ members ++ b ∷ [] → a ≡ b
same_last members a b same =
    let here : Some a ≡ Some b =
    sym (stands_last members a) ∙ ap (λ (ms : List Member). member_at ms (length members + 1)) same ∙ stands_last members b in cc

attach_starts : (start : Start) (boot : Boot) (bytes : List ℕ) (members : List Member) (dev : ℕ) (m : Member)
    → Attaches MAX_DEVICES (config_of boot) bytes start members (Ok dev) (members ++ m ∷ []) → StartsUnpolled m
attach_starts start boot bytes members dev m (within, number, (layout, suits, is)) =
    subst StartsUnpolled (sym (same_last members m (member_at_start start dev (config_of boot) bytes layout) is))
    (starts_unpolled start dev (config_of boot) bytes layout suits)

change_starts : (dev : ℕ) (usage : Usage) (kind : ChangeKind) (members : List Member) (acts : List Action) → ChangesOne dev usage kind members acts
    → AllStartUnpolled acts
change_starts dev usage kind members acts (control, finds, is) = subst AllStartUnpolled (sym is) tt

short_starts : (said : ShortLine) (members : List Member) (acts : List Action) → DoesShort said members acts → AllStartUnpolled acts
unfolding DoesShort
short_starts (short.Press dev usage) members acts does = change_starts dev usage wanted.Press members acts does
short_starts (short.Release dev usage) members acts does = change_starts dev usage wanted.Release members acts does
short_starts (short.Null dev usage) members acts does = change_starts dev usage wanted.Null members acts does
short_starts (short.Set dev usage value) members acts does = change_starts dev usage (wanted.Set value) members acts does
short_starts (short.Move dev usage by) members acts does = change_starts dev usage (wanted.Move by) members acts does
short_starts (short.Frame count) members acts does = subst AllStartUnpolled (sym does) (taken_start count Frame)
short_starts (short.Poll dev fate count) members acts does = subst AllStartUnpolled (sym does) (taken_start count (Poll dev fate))
short_starts (short.Control dev fate count) members acts does = subst AllStartUnpolled (sym does) (taken_start count (Control dev fate))
short_starts (short.Reset dev) members acts does = subst AllStartUnpolled (sym does) tt
short_starts (short.Halt dev) members acts does = subst AllStartUnpolled (sym does) tt

line_starts : (said : Line) (members : List Member) (acts : List Action) → ScriptActs said members acts → AllStartUnpolled acts
unfolding ScriptActs
line_starts line.Nothing members acts does = subst AllStartUnpolled (sym does) tt
line_starts (line.Layout bytes) members acts does = subst AllStartUnpolled (sym does) tt
line_starts (line.Values bytes) members acts does = subst AllStartUnpolled (sym does) tt
line_starts (line.Device start boot bytes) members acts (dev, m, attaches, is) =
    subst AllStartUnpolled (sym is) (attach_starts start boot bytes.items members dev m attaches, tt)
line_starts (line.Begin dev request) members acts does = subst AllStartUnpolled (sym does) tt
line_starts (line.Step said) members acts does = short_starts said members acts does

all_start : (script : List (List ℕ)) (members : List Member) (acts : List Action) → AllDo members script acts → AllStartUnpolled acts
all_start [] members acts does = subst AllStartUnpolled (sym does) tt
all_start (bytes ∷ more) members acts (said, first, rest, means, does, later, is) =
    subst AllStartUnpolled (sym is)
    (start_both first rest (line_starts said members first does) (all_start more (bus_after_actions members first) rest later))

-- ---- after lines

pub lines_agree : LinesAgree
lines_agree options script text last h dev n there =
    let all = all_done script (at_first options) last text (omega arith) h in
    agree_from_attach all.0 (all_start script [] all.0 all.1) dev n (ap (λ (ms : List Member). member_at ms dev) (sym all.2.bus) ∙ there)

-- ---- lines that leave a device alone

abbrev line_or : Line → Result Line LineFault → Line
line_or other (Ok said) = said
line_or other (Err fault) = other

same_line : (a b : Line) (meaning : Result Line LineFault) → meaning ≡ Ok a → meaning ≡ Ok b → a ≡ b
same_line a b meaning is means = ap (line_or a) (sym is ∙ means)

-- what lines leave of a device: its own steps are polls and frames, of which so many polls lose nothing
record Leaves (dev : ℕ) (n : Member) (members : List Member) (polls : ℕ) : Type 0 where
  steps : List OwnStep
  there : member_at members dev ≡ Some (record n { link = state_after_steps (items_of n.layout) n.link steps })
  still : AreStill n.link.reports.idle steps
  enough : polls ≤ closed_count (fates_of steps)

leaves_all : (dev : ℕ) (n : Member) (members : List Member) → member_at members dev ≡ Some n → Leaves dev n members 0
leaves_all dev n members there = record { steps = []; there = there; still = tt; enough = omega arith }

apart_test : (a b : ℕ) → a ≢ b → (a == b) ≡ false
apart_test a b apart = by_test (a == b) refl
  where
    by_test : (same : Bool) → (a == b) ≡ same → (a == b) ≡ false
    by_test true e = absurd (apart ((Decides-eqb a b).0 e))
    by_test false e = e

-- steps that are taken, as many times as a line says

taken_all : (count : ℕ) (x : Step) (members : List Member)
    → bus_after_actions members (replicate count (Taken x)) ≡ bus_after_all members (replicate count x)
taken_all zero x members = refl
taken_all (suc count) x members = taken_all count x (bus_after members x)

abbrev many_steps : Option OwnStep → ℕ → List OwnStep
many_steps None count = []
many_steps (Some y) count = replicate count y

own_many : (dev : ℕ) (x : Step) (o : Option OwnStep) (count : ℕ) → own_step dev x ≡ o → device_steps dev (replicate count x) ≡ many_steps o count
own_many dev x None zero is = refl
own_many dev x None (suc count) is =
    ap (λ (o : Option OwnStep). cons_option o (device_steps dev (replicate count x))) is ∙ own_many dev x None count is
own_many dev x (Some y) zero is = refl
own_many dev x (Some y) (suc count) is =
    ap (λ (o : Option OwnStep). cons_option o (device_steps dev (replicate count x))) is
    ∙ ap (λ (xs : List OwnStep). y ∷ xs) (own_many dev x (Some y) count is)

many_still : (idle : List ℕ) (o : Option OwnStep) (count : ℕ) → IfSome o (IsStill idle) → AreStill idle (many_steps o count)
many_still idle None count still = tt
many_still idle (Some y) zero still = tt
many_still idle (Some y) (suc count) still = (still, many_still idle (Some y) count still)

taken_leaves : (dev : ℕ) (n : Member) (members : List Member) (x : Step) (o : Option OwnStep) (count polls : ℕ) → is_scheduled dev x ≡ true
    → own_step dev x ≡ o → IfSome o (IsStill n.link.reports.idle) → polls ≤ closed_count (fates_of (many_steps o count))
    → member_at members dev ≡ Some n → polls_it n ≡ true → Leaves dev n (bus_after_actions members (replicate count (Taken x))) polls
taken_leaves dev n members x o count polls scheduled is still enough there polled =
    let own : List OwnStep = many_steps o count in
    record {
      steps = own;
      there = ap (λ (ms : List Member). member_at ms dev) (taken_all count x members)
          ∙ stands_after dev n (replicate count x) members there polled (All-replicate (λ (y : Step). is_scheduled dev y ≡ true) count x scheduled)
          ∙ ap (λ (xs : List OwnStep). Some (record n { link = state_after_steps (items_of n.layout) n.link xs })) (own_many dev x o count is);
      still = many_still n.link.reports.idle o count still;
      enough = enough;
    }

-- a step of another device
other_leaves : (dev : ℕ) (n : Member) (members : List Member) (x : Step) (count : ℕ) → is_scheduled dev x ≡ true → own_step dev x ≡ None
    → member_at members dev ≡ Some n → polls_it n ≡ true → Leaves dev n (bus_after_actions members (replicate count (Taken x))) 0
other_leaves dev n members x count scheduled none there polled =
    taken_leaves dev n members x None count 0 scheduled none tt (omega arith) there polled

clean_many : (count : ℕ) (fate : Fate) → cond (is_clean fate) count 0 ≤ closed_count (fates_of (replicate count (Polls fate)))
clean_many count TokenLost = omega arith
clean_many count ReplyLost = omega arith
clean_many count AckLost = omega arith
clean_many zero Clean = omega arith
clean_many (suc count) Clean = omega (arith, clean_many count Clean)

poll_leaves : (dev : ℕ) (n : Member) (members : List Member) (other : ℕ) (fate : Fate) (count : ℕ) → member_at members dev ≡ Some n → polls_it n ≡ true
    → Leaves dev n (bus_after_actions members (replicate count (Taken (Poll other fate)))) (cond ((other == dev) && is_clean fate) count 0)
poll_leaves dev n members other fate count there polled = by_test (other == dev) refl
  where
    by_test : (b : Bool) → (other == dev) ≡ b
        → Leaves dev n (bus_after_actions members (replicate count (Taken (Poll other fate)))) (cond (b && is_clean fate) count 0)
    by_test true e =
        taken_leaves dev n members (Poll other fate) (Some (Polls fate)) count (cond (is_clean fate) count 0) refl
        (ap (λ (b : Bool). let o : Option OwnStep = cond b (Some (Polls fate)) None in o) e) tt (clean_many count fate) there polled
    by_test false e =
        other_leaves dev n members (Poll other fate) count refl
        (ap (λ (b : Bool). let o : Option OwnStep = cond b (Some (Polls fate)) None in o) e) there polled

change_leaves : (dev : ℕ) (n : Member) (members : List Member) (other : ℕ) (usage : Usage) (kind : ChangeKind) (acts : List Action)
    → ChangesOne other usage kind members acts → other ≢ dev → member_at members dev ≡ Some n → polls_it n ≡ true
    → Leaves dev n (bus_after_actions members acts) 0
change_leaves dev n members other usage kind acts (control, finds, is) apart there polled =
    let change : Change = change_of kind control in
    subst (λ (more : List Action). Leaves dev n (bus_after_actions members more) 0) (sym is)
    (other_leaves dev n members (step.Change other change) 1 refl
    (ap (λ (b : Bool). let o : Option OwnStep = cond b (Some (Changes change)) None in o) (apart_test other dev apart)) there polled)

short_leaves : (dev : ℕ) (n : Member) (members : List Member) (said : ShortLine) (acts : List Action) → DoesShort said members acts
    → LeavesAlone dev n.link.reports.idle (line.Step said) → member_at members dev ≡ Some n → polls_it n ≡ true
    → Leaves dev n (bus_after_actions members acts) (clean_polls dev (line.Step said))
unfolding DoesShort
short_leaves dev n members (short.Press other usage) acts does alone there polled = change_leaves dev n members other usage wanted.Press acts does alone there polled
short_leaves dev n members (short.Release other usage) acts does alone there polled = change_leaves dev n members other usage wanted.Release acts does alone there polled
short_leaves dev n members (short.Null other usage) acts does alone there polled = change_leaves dev n members other usage wanted.Null acts does alone there polled
short_leaves dev n members (short.Set other usage value) acts does alone there polled = change_leaves dev n members other usage (wanted.Set value) acts does alone there polled
short_leaves dev n members (short.Move other usage by) acts does alone there polled = change_leaves dev n members other usage (wanted.Move by) acts does alone there polled
short_leaves dev n members (short.Frame count) acts does alone there polled =
    subst (λ (more : List Action). Leaves dev n (bus_after_actions members more) 0) (sym does)
    (taken_leaves dev n members step.Frame (Some own.Frame) count 0 refl refl alone (omega arith) there polled)
short_leaves dev n members (short.Poll other fate count) acts does alone there polled =
    subst (λ (more : List Action). Leaves dev n (bus_after_actions members more) (clean_polls dev (line.Step (short.Poll other fate count)))) (sym does)
    (poll_leaves dev n members other fate count there polled)
short_leaves dev n members (short.Control other fate count) acts does alone there polled =
    subst (λ (more : List Action). Leaves dev n (bus_after_actions members more) 0) (sym does)
    (other_leaves dev n members (step.Control other fate) count (ap (λ (b : Bool). not b) (apart_test other dev alone)) refl there polled)
short_leaves dev n members (short.Reset other) acts does alone there polled =
    subst (λ (more : List Action). Leaves dev n (bus_after_actions members more) 0) (sym does)
    (other_leaves dev n members (step.Reset other) 1 (ap (λ (b : Bool). not b) (apart_test other dev alone)) refl there polled)
short_leaves dev n members (short.Halt other) acts does alone there polled =
    subst (λ (more : List Action). Leaves dev n (bus_after_actions members more) 0) (sym does)
    (other_leaves dev n members (step.Halt other) 1 (ap (λ (b : Bool). not b) (apart_test other dev alone)) refl there polled)

line_leaves : (dev : ℕ) (n : Member) (members : List Member) (said : Line) (acts : List Action) → ScriptActs said members acts
    → LeavesAlone dev n.link.reports.idle said → member_at members dev ≡ Some n → polls_it n ≡ true
    → Leaves dev n (bus_after_actions members acts) (clean_polls dev said)
unfolding ScriptActs
line_leaves dev n members line.Nothing acts does alone there polled =
    leaves_all dev n (bus_after_actions members acts) (ap (λ (more : List Action). member_at (bus_after_actions members more) dev) does ∙ there)
line_leaves dev n members (line.Layout bytes) acts does alone there polled =
    leaves_all dev n (bus_after_actions members acts) (ap (λ (more : List Action). member_at (bus_after_actions members more) dev) does ∙ there)
line_leaves dev n members (line.Values bytes) acts does alone there polled =
    leaves_all dev n (bus_after_actions members acts) (ap (λ (more : List Action). member_at (bus_after_actions members more) dev) does ∙ there)
line_leaves dev n members (line.Device start boot bytes) acts (number, m, attaches, is) alone there polled =
    leaves_all dev n (bus_after_actions members acts)
    (ap (λ (more : List Action). member_at (bus_after_actions members more) dev) is ∙ stands_still members (m ∷ []) dev n there)
line_leaves dev n members (line.Begin other request) acts does alone there polled =
    subst (λ (more : List Action). Leaves dev n (bus_after_actions members more) 0) (sym does)
    (other_leaves dev n members (step.Begin other request) 1 (ap (λ (b : Bool). not b) (apart_test other dev alone)) refl there polled)
line_leaves dev n members (line.Step said) acts does alone there polled = short_leaves dev n members said acts does alone there polled

-- one after the other

both_state : (items : List Item) (xs ys : List OwnStep) (s : LinkState)
    → state_after_steps items (state_after_steps items s xs) ys ≡ state_after_steps items s (xs ++ ys)
both_state items [] ys s = refl
both_state items (x ∷ xs) ys s = both_state items xs ys (state_after_step items s x)

both_still : (idle : List ℕ) (xs ys : List OwnStep) → AreStill idle xs → AreStill idle ys → AreStill idle (xs ++ ys)
both_still idle [] ys first later = later
both_still idle (x ∷ xs) ys first later = (first.0, both_still idle xs ys first.1 later)

both_clean : (xs ys : List OwnStep) → closed_count (fates_of (xs ++ ys)) ≡ closed_count (fates_of xs) + closed_count (fates_of ys)
both_clean [] ys = omega arith
both_clean (Changes change ∷ xs) ys = both_clean xs ys
both_clean (own.Frame ∷ xs) ys = both_clean xs ys
both_clean (Polls fate ∷ xs) ys = omega (arith, both_clean xs ys)

joined : (dev : ℕ) (n : Member) (members : List Member) (xs ys : List OwnStep)
    → member_at members dev ≡ Some (record n { link = state_after_steps (items_of n.layout) (state_after_steps (items_of n.layout) n.link xs) ys })
    → member_at members dev ≡ Some (record n { link = state_after_steps (items_of n.layout) n.link (xs ++ ys) })
joined dev n members xs ys there = there ∙ ap (λ (s : LinkState). Some (record n { link = s })) (both_state (items_of n.layout) xs ys n.link)

lines_leave : (dev : ℕ) (n : Member) (later : List (List ℕ)) (session last : Session) (text : List ℕ) (polls : ℕ) → length session.members < 10
    → AllPrint session later text last → AreLastLines dev n.link.reports.idle later polls → member_at session.members dev ≡ Some n → polls_it n ≡ true
    → Leaves dev n last.members polls
lines_leave dev n [] session last text polls few prints lines there polled =
    let all : Leaves dev n last.members 0 =
    leaves_all dev n last.members (ap (λ (s : Session). member_at s.members dev) prints.1 ∙ there) in
    subst (λ (k : ℕ). Leaves dev n last.members k) (sym lines) all
lines_leave dev n (bytes ∷ more) session last text polls few (first, next, rest, prints, prints_more, is) (said, count, means, alone, lines, sum) there polled =
    let told = told_done session next bytes first few prints in
    let done : LineDone said session first next =
    subst (λ (l : Line). LineDone l session first next) (same_line told.0 said (meaning_of bytes) told.1 means) told.2 in
    let one : Leaves dev n next.members (clean_polls dev said) =
    subst (λ (ms : List Member). Leaves dev n ms (clean_polls dev said)) (sym done.2.bus)
    (line_leaves dev n session.members said done.0 done.1 alone there polled) in
    let items : List Item = items_of n.layout in
    let o : Member = record n { link = state_after_steps items n.link one.steps } in
    let idle : o.link.reports.idle ≡ n.link.reports.idle = steps_idle items one.steps n.link in
    let others : Leaves dev o last.members count =
    lines_leave dev o more next last rest count done.2.few prints_more
    (subst (λ (i : List ℕ). AreLastLines dev i more count) (sym idle) lines) one.there polled in
    record {
      steps = one.steps ++ others.steps;
      there = joined dev n last.members one.steps others.steps others.there;
      still = both_still n.link.reports.idle one.steps others.steps one.still (subst (λ (i : List ℕ). AreStill i others.steps) idle others.still);
      enough = omega (arith, sum, one.enough, others.enough, both_clean one.steps others.steps);
    }

pub polls_bring_to_rest : PollsBringToRest
polls_bring_to_rest options script later text more mid last dev polls n h prints there polled going lines enough =
    let all = all_done script (at_first options) mid text (omega arith) h in
    let leaves : Leaves dev n last.members polls = lines_leave dev n later mid last more polls all.2.few prints lines there polled in (
      record n { link = state_after_steps (items_of n.layout) n.link leaves.steps },
      leaves.there,
      attached_rests_by all.0 (all_start script [] all.0 all.1) dev n leaves.steps
          (ap (λ (ms : List Member). member_at ms dev) (sym all.2.bus) ∙ there) going leaves.still (omega (arith, enough, leaves.enough)),
    )
