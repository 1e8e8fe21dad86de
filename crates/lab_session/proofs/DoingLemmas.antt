-- What a bench did, one thing after the other.
use Rattle.std.proofs.Common.{◌≡◌, Bool, true, false, ◌≢◌, ℕ, ◌+◌, ◌<◌, add-one, zero, suc, List, [], ◌∷◌, ◌++◌, refl, sym, ap, ◌∙◌, subst, Option, None, Some, Result, Ok, Err, OnOk, IsErrAnd, inl, inr, ⊎_elim, nat_eq}
use Rattle.std.proofs.lemmas.Bool.{cases_Bool, eqb-true, eqb-false}
use Rattle.std.specs.Io.KnownBytes.{Appends}
use Rattle.std.proofs.KnownBytes.{Appends-nil, Appends-trans, Keeps-refl}
use Rattle.std.specs.Prelude.{map}
use Rattle.usb_transact.specs.declared.transaction.Fate.{Fate}
use Rattle.usb_transact.specs.declared.transaction.Fate.TheVariants.{Clean}
use Rattle.hid_bus.specs.declared.step.Step.TheVariants as step
use Rattle.hid_text.specs.declared.line.Line.{Line}
use Rattle.hid_text.specs.declared.line.Line.TheVariants as line
use Rattle.hid_text.specs.declared.short.ShortLine.TheVariants as short
use Rattle.hid_script.specs.Session.{Session, Outcome, success}
use Rattle.hid_script.specs.Steps.{StepPrints}
use Rattle.hid_bus.specs.declared.step.Told.{Told}
use Rattle.hid_stack.specs.StepResult.{StepReturns}
use Rattle.hid_script.specs.declared.fault.Cause.{Cause}
use Rattle.hid_script.specs.Interpreter.{session_of}
use Rattle.hid_script.specs.Place.{AppendsOnce, AppendsOutput}
use Rattle.hid_script.specs.LineOutput.{CarriesOut, LineBegins, LineOutcomeOnce, LinePrints, MeaningPrints, ShortLinePrints, short_times, times}
use Rattle.hid_script.proofs.RepeatLemmas.{no_times, one_more}
use Rattle.hid_text.specs.declared.fault.LineFault.{LineFault}
use Rattle.hid_text.specs.Line.{meaning_of}
use Rattle.lab_session.specs.declared.bench.Bench.{Bench}
use Rattle.lab_session.specs.Bench.{Does, DoesSaid, Stays, moment_of}
use Rattle.hid_layout.specs.declared.control.ControlId.{ControlId}
use Rattle.hid_text.specs.Words.{Word, hex_of}
use Rattle.lab_lines.specs.declared.keys.Key.{Key}
use Rattle.lab_lines.specs.ControlNames.{Named}
use Rattle.lab_lines.specs.Keys.{key_of}
use Rattle.lab_lines.specs.Typing.{characters_of}
use Rattle.lab_session.specs.declared.fault.LabCause.{LabCause}
use Rattle.lab_session.specs.declared.fault.LabCause.TheVariants.{Unsettled}
use Rattle.lab_session.specs.Lines.{LineUnsettled, StaysUnsettled, Moment, ClicksKey, ClicksKeys, DoesBytes, DoesNamed, DoesNothing, DoesPart, DrawsOne, LineDoes, NamesControl, Often, PollsOnce, Polls, ScriptLineDoes, Settles, ShortLineDoes, Then, Tries, Types, has_nothing}
use Rattle.hid_text.specs.declared.short.ShortLine.{ShortLine}
use Rattle.lab_lines.specs.LabLines.{Said}
use Rattle.lab_lines.specs.LabLines as lab
use Rattle.lab_session.specs.Scripts.{IsUndrawn, script_said}
use Rattle.lab_session.specs.Parts.{Part, PartPrints, Says}
use Rattle.lab_session.specs.Chances.{Chance, chance_at, chance_after, fate_by}
use Rattle.lab_session.specs.Expecting.{Keeps}
use Rattle.lab_session.specs.Outputs.{awaited_at}
use Rattle.lab_session.specs.Waiting.{KeepsText, LeavesAwaited}
use Rattle.lab_session.proofs.PrintedLemmas.{part_done}
use Rattle.lab_session.proofs.WaitLemmas.{keeps_none, keeps_shown, keeps_then, leaves_awaited}
use Rattle.lab_session.specs.Printed.{IsPlain, PrintsPart, WritesText, is_styled}

-- one thing and then another
pub does_then : (First Next : Moment → List Part → List ℕ → Moment → Type 0) (a b c : Bench) (u v w : Option (List ℕ))
    → Does First a b u v → Does Next b c v w → Does (Then First Next) a c u w
does_then First Next a b c u v w h k = record {
  parts = h.parts ++ k.parts;
  text = h.text ++ k.text;
  done = record {
    middle = moment_of b;
    first_parts = h.parts;
    first_text = h.text;
    next_parts = k.parts;
    next_text = k.text;
    first = h.done;
    next = k.done;
    all_parts = refl;
    all_text = refl;
  };
  options = k.options ∙ h.options;
  written = λ plain. Appends-trans u v w h.text k.text (h.written plain)
      (k.written (subst IsPlain (sym h.options) plain));
  waits = keeps_then a b c h.parts k.parts h.text k.text h.options h.waits k.waits;
}

-- nothing was done
pub does_nothing : (a : Bench) (u : Option (List ℕ)) → Does DoesNothing a a u u
does_nothing a u = record {
  parts = [];
  text = [];
  done = (refl, refl, refl, λ dev. refl);
  options = refl;
  written = λ plain. Appends-nil u;
  waits = keeps_none a a refl (λ dev. refl);
}

-- a poll is a line that polls once
pub polled_once : (dev : ℕ) (fate : Fate) (session next : Session) (text : List ℕ)
    → StepPrints (step.Poll dev fate) session (success text next)
    → PartPrints (Says (line.Step (short.Poll dev fate 1))) session (success text next)
unfolding PartPrints LineOutcomeOnce ShortLinePrints times short_times
polled_once dev fate session next text h = one_more 0 (ShortLinePrints (short.Poll dev fate 1)) session session next [] text (no_times (ShortLinePrints (short.Poll dev fate 1)) session) h

-- a try is a line that tries once
pub tried_once : (dev : ℕ) (fate : Fate) (session next : Session) (text : List ℕ)
    → StepPrints (step.Control dev fate) session (success text next)
    → PartPrints (Says (line.Step (short.Control dev fate 1))) session (success text next)
unfolding PartPrints LineOutcomeOnce ShortLinePrints times short_times
tried_once dev fate session next text h = one_more 0 (ShortLinePrints (short.Control dev fate 1)) session session next [] text (no_times (ShortLinePrints (short.Control dev fate 1)) session) h

-- what follows where a part ended well
pub ok_so : {A B : Type 0} (r : Result A B) (P Q : Type 0) → (P → Q) → OnOk r P → OnOk r Q
ok_so (Ok x) P Q f h = f h
ok_so (Err e) P Q f h = tt

-- a text that was kept in a place that was empty
pub kept_text : (kept text written : List ℕ) → kept ≡ [] → Appends (Some kept) (Some text) written → text ≡ written
kept_text kept text written none h = h ∙ ap (λ l. l ++ written) none

-- a part was carried out, and its text was printed
pub did_part : (part : Part) (a b : Bench) (kept text shown written : List ℕ) (u v : Option (List ℕ)) (r : Result (Unit {0}) Cause)
    → kept ≡ [] → Appends (Some kept) (Some text) written → shown ≡ text
    → PartPrints part (session_of a.interpreter) (success written (session_of b.interpreter))
    → (is_styled a.options ≡ false → WritesText u v shown r)
    → ((dev : ℕ) → chance_at b.draws dev ≡ chance_at a.draws dev) → b.options ≡ a.options → LeavesAwaited part (awaited_at a.outputs) (awaited_at b.outputs)
    → OnOk r (Keeps a.printer.transcript b.printer.transcript shown)
    → OnOk r (Does (DoesPart part) a b u v)
did_part part a b kept text shown written u v (Err e) none h same prints k stays options leaves waits = tt
did_part part a b kept text shown written u v (Ok x) none h same prints k stays options leaves waits = record {
  parts = part ∷ [];
  text = written;
  done = (refl, prints, stays);
  options = options;
  written = λ plain. subst (Appends u v) (same ∙ kept_text kept text written none h) (k plain.style);
  waits = keeps_shown a.options.trace a.printer.transcript b.printer.transcript (awaited_at a.outputs) (awaited_at b.outputs) part shown written (same ∙ kept_text kept text written none h) leaves waits;
}

-- a line of a script was carried out, and its text was printed
pub did_line : (said : Line) (Begun : List ℕ → Type 0) (a b : Bench) (kept text shown : List ℕ) (u v : Option (List ℕ)) (part r : Result (Unit {0}) Cause)
    → kept ≡ [] → shown ≡ text
    → AppendsOutput (Some kept) (Some text) (CarriesOut (session_of a.interpreter) said) Begun part (session_of b.interpreter)
    → (is_styled a.options ≡ false → PrintsPart u v shown part r) → OnOk r (part ≡ Ok tt)
    → ((dev : ℕ) → chance_at b.draws dev ≡ chance_at a.draws dev) → b.options ≡ a.options → LeavesAwaited (Says said) (awaited_at a.outputs) (awaited_at b.outputs)
    → OnOk r (Keeps a.printer.transcript b.printer.transcript shown)
    → OnOk r (Does (DoesPart (Says said)) a b u v)
unfolding PartPrints
did_line said Begun a b kept text shown u v part (Err e) none same h k is stays options leaves waits = tt
did_line said Begun a b kept text shown u v part (Ok x) none same h k is stays options leaves waits =
    let told = subst (λ p. AppendsOutput (Some kept) (Some text) (CarriesOut (session_of a.interpreter) said) Begun p (session_of b.interpreter)) is h in
    record {
      parts = Says said ∷ [];
      text = told.0;
      done = (refl, told.2, stays);
      options = options;
      written = λ plain. subst (Appends u v) (same ∙ kept_text kept text told.0 none told.1) (part_done u v shown part is (k plain.style));
      waits = keeps_shown a.options.trace a.printer.transcript b.printer.transcript (awaited_at a.outputs) (awaited_at b.outputs) (Says said) shown told.0 (same ∙ kept_text kept text told.0 none told.1) leaves waits;
    }

-- a device was polled once, and what that printed was printed
pub did_poll : (dev : ℕ) (said fate : Fate) (idle : Bool) (told : Told) (a b : Bench) (kept text shown written : List ℕ) (u v : Option (List ℕ))
    → fate ≡ fate_by (chance_at a.draws dev) said
    → kept ≡ [] → Appends (Some kept) (Some text) written → shown ≡ text
    → StepPrints (step.Poll dev fate) (session_of a.interpreter) (success written (session_of b.interpreter))
    → StepReturns (session_of a.interpreter).members (step.Poll dev fate) told → idle ≡ has_nothing told
    → (is_styled a.options ≡ false → Appends u v shown)
    → chance_at b.draws dev ≡ chance_after (chance_at a.draws dev) said
    → ((other : ℕ) → other ≢ dev → chance_at b.draws other ≡ chance_at a.draws other) → b.options ≡ a.options
    → ((other : ℕ) → awaited_at b.outputs other ≡ awaited_at a.outputs other)
    → Keeps a.printer.transcript b.printer.transcript shown
    → Does (PollsOnce dev said idle) a b u v
did_poll dev said fate idle told a b kept text shown written u v is none h same prints returns answers k its others options stays waits =
    let drawn = fate_by (chance_at a.draws dev) said in
    record {
      parts = Says (line.Step (short.Poll dev drawn 1)) ∷ [];
      text = written;
      done = record {
        part = refl;
        prints = polled_once dev drawn (session_of a.interpreter) (session_of b.interpreter) written
            (subst (λ f. StepPrints (step.Poll dev f) (session_of a.interpreter) (success written (session_of b.interpreter))) is prints);
        answers = (told, subst (λ f. StepReturns (session_of a.interpreter).members (step.Poll dev f) told) is returns, sym answers);
        drawn = (its, others);
      };
      options = options;
      written = λ plain. subst (Appends u v) (same ∙ kept_text kept text written none h) (k plain.style);
      waits = keeps_shown a.options.trace a.printer.transcript b.printer.transcript (awaited_at a.outputs) (awaited_at b.outputs) (Says (line.Step (short.Poll dev drawn 1))) shown written (same ∙ kept_text kept text written none h)
          (leaves_awaited (Says (line.Step (short.Poll dev drawn 1))) (awaited_at a.outputs) (awaited_at b.outputs) (λ other request e. absurd (cc)) stays) waits;
    }

-- a try was made, and what that printed was printed
pub did_try : (dev : ℕ) (said fate : Fate) (a b : Bench) (kept text shown written : List ℕ) (u v : Option (List ℕ))
    → fate ≡ fate_by (chance_at a.draws dev) said
    → kept ≡ [] → Appends (Some kept) (Some text) written → shown ≡ text
    → StepPrints (step.Control dev fate) (session_of a.interpreter) (success written (session_of b.interpreter))
    → (IsPlain a.options → Appends u v shown)
    → chance_at b.draws dev ≡ chance_after (chance_at a.draws dev) said
    → ((other : ℕ) → other ≢ dev → chance_at b.draws other ≡ chance_at a.draws other) → b.options ≡ a.options
    → KeepsText a b (Says (line.Step (short.Control dev (fate_by (chance_at a.draws dev) said) 1)) ∷ []) shown
    → Does (Tries dev said) a b u v
did_try dev said fate a b kept text shown written u v is none h same prints k its others options waits =
    let drawn = fate_by (chance_at a.draws dev) said in
    record {
      parts = Says (line.Step (short.Control dev drawn 1)) ∷ [];
      text = written;
      done = record {
        part = refl;
        prints = tried_once dev drawn (session_of a.interpreter) (session_of b.interpreter) written
            (subst (λ f. StepPrints (step.Control dev f) (session_of a.interpreter) (success written (session_of b.interpreter))) is prints);
        drawn = (its, others);
      };
      options = options;
      written = λ plain. subst (Appends u v) (same ∙ kept_text kept text written none h) (k plain);
      waits = subst (KeepsText a b (Says (line.Step (short.Control dev drawn 1)) ∷ [])) (same ∙ kept_text kept text written none h) waits;
    }

-- one thing once more
pub often_more : (Doing : Moment → List Part → List ℕ → Moment → Type 0) (n : ℕ) (a b c : Bench) (u v w : Option (List ℕ))
    → Does (Often n Doing) a b u v → Does Doing b c v w → Does (Often (n + 1) Doing) a c u w
often_more Doing n a b c u v w h k =
    let both = does_then (Often n Doing) Doing a b c u v w h k in
    rw add-one (record { parts = both.parts; text = both.text; done = both.done; options = both.options; written = both.written; waits = both.waits })

-- one thing as often as it was to be done
pub all_often : (n count : ℕ) (Doing : Moment → List Part → List ℕ → Moment → Type 0) (a b : Bench) (u v : Option (List ℕ)) → n ≡ count
    → Does (Often n Doing) a b u v → Does (Often count Doing) a b u v
all_often n count Doing a b u v same h = subst (λ m. Does (Often m Doing) a b u v) same h

-- a poll, whatever the answer is
pub polled_some : (dev : ℕ) (said : Fate) (idle : Bool) (a b : Bench) (u v : Option (List ℕ))
    → Does (PollsOnce dev said idle) a b u v → Does (Polls dev said) a b u v
polled_some dev said idle a b u v h =
    record { parts = h.parts; text = h.text; done = (idle, h.done); options = h.options; written = h.written; waits = h.waits }

-- polls up to the one that found nothing to send
pub settled : (dev n : ℕ) (idle : Bool) (a b c : Bench) (u v w : Option (List ℕ)) → n < 100 → idle ≡ true
    → Does (Often n (PollsOnce dev Clean false)) a b u v → Does (PollsOnce dev Clean idle) b c v w → Does (Settles dev) a c u w
settled dev n idle a b c u v w few is h k =
    let last : Does (PollsOnce dev Clean true) b c v w = subst (λ i. Does (PollsOnce dev Clean i) b c v w) is k in
    let both = does_then (Often n (PollsOnce dev Clean false)) (PollsOnce dev Clean true) a b c u v w h last in
    record { parts = both.parts; text = both.text; done = (n, few, both.done); options = both.options; written = both.written; waits = both.waits }

-- one thing, and then another that ended well
pub ok_then : {B : Type 0} (r : Result (Unit {0}) B) (First Next : Moment → List Part → List ℕ → Moment → Type 0) (a b c : Bench) (u v w : Option (List ℕ))
    → Does First a b u v → OnOk r (Does Next b c v w) → OnOk r (Does (Then First Next) a c u w)
ok_then r First Next a b c u v w h k = ok_so r (Does Next b c v w) (Does (Then First Next) a c u w) (does_then First Next a b c u v w h) k

-- what holds however a part ended
pub however : {A B : Type 0} (r : Result A B) (Q : Type 0) → Q → OnOk r Q
however (Ok x) Q h = h
however (Err e) Q h = tt

-- what was done is also this
pub does_so : (A B : Moment → List Part → List ℕ → Moment → Type 0) (a b : Bench) (u v : Option (List ℕ))
    → ((parts : List Part) (text : List ℕ) → A (moment_of a) parts text (moment_of b) → B (moment_of a) parts text (moment_of b))
    → Does A a b u v → Does B a b u v
does_so A B a b u v f h =
    record { parts = h.parts; text = h.text; done = f h.parts h.text h.done; options = h.options; written = h.written; waits = h.waits }

-- what was done, where it ended well, is also this
pub ok_does_so : {C D : Type 0} (r : Result C D) (A B : Moment → List Part → List ℕ → Moment → Type 0) (a b : Bench) (u v : Option (List ℕ))
    → ((parts : List Part) (text : List ℕ) → A (moment_of a) parts text (moment_of b) → B (moment_of a) parts text (moment_of b))
    → OnOk r (Does A a b u v) → OnOk r (Does B a b u v)
ok_does_so r A B a b u v f h = ok_so r (Does A a b u v) (Does B a b u v) (does_so A B a b u v f) h

-- a part that is carried out once was carried out, and its text was printed
pub did_once : (what : Part) (a b : Bench) (kept text shown : List ℕ) (u v : Option (List ℕ)) (part r : Result (Unit {0}) Cause)
    → kept ≡ [] → shown ≡ text
    → AppendsOnce (Some kept) (Some text) (PartPrints what (session_of a.interpreter)) part (session_of b.interpreter)
    → (is_styled a.options ≡ false → PrintsPart u v shown part r) → OnOk r (part ≡ Ok tt)
    → ((dev : ℕ) → chance_at b.draws dev ≡ chance_at a.draws dev) → b.options ≡ a.options → LeavesAwaited what (awaited_at a.outputs) (awaited_at b.outputs)
    → OnOk r (Keeps a.printer.transcript b.printer.transcript shown)
    → OnOk r (Does (DoesPart what) a b u v)
did_once what a b kept text shown u v part (Err e) none same h k is stays options leaves waits = tt
did_once what a b kept text shown u v part (Ok x) none same h k is stays options leaves waits =
    let told = subst (λ p. AppendsOnce (Some kept) (Some text) (PartPrints what (session_of a.interpreter)) p (session_of b.interpreter)) is h in
    record {
      parts = what ∷ [];
      text = told.0;
      done = (refl, told.2, stays);
      options = options;
      written = λ plain. subst (Appends u v) (same ∙ kept_text kept text told.0 none told.1) (part_done u v shown part is (k plain.style));
      waits = keeps_shown a.options.trace a.printer.transcript b.printer.transcript (awaited_at a.outputs) (awaited_at b.outputs) what shown told.0 (same ∙ kept_text kept text told.0 none told.1) leaves waits;
    }

-- a line that was carried out says something
pub said_of_meaning : (session next : Session) (text bytes : List ℕ) (meaning : Result Line LineFault) → meaning_of bytes ≡ meaning
    → MeaningPrints session meaning (success text next)
    → (said : Line) × (meaning_of bytes ≡ Ok said) × CarriesOut session said (success text next)
said_of_meaning session next text bytes (Ok said) is h = (said, is, h)
said_of_meaning session next text bytes (Err fault) is h = let ends = ap (λ (o : Outcome). o.end) h in absurd (cc)

-- ---- typed keys

-- nothing is left to type
pub typed_none : (dev : ℕ) (rest : List ℕ) (a : Bench) (u : Option (List ℕ)) → characters_of rest ≡ [] → Does (Types dev rest) a a u u
typed_none dev rest a u none =
    let idle = does_nothing a u in
    record { parts = idle.parts; text = idle.text; done = ([], ap (map key_of) none, idle.done); options = idle.options; written = idle.written; waits = idle.waits }

-- a key was clicked, and then those that were still to come
pub typed_more : (dev character : ℕ) (key : Key) (rest more : List ℕ) (a b c : Bench) (u v w : Option (List ℕ))
    → characters_of rest ≡ character ∷ characters_of more → key_of character ≡ Some key
    → Does (ClicksKey dev key) a b u v → Does (Types dev more) b c v w → Does (Types dev rest) a c u w
typed_more dev character key rest more a b c u v w is typed h k =
    let keys = k.done.0 in
    let behind : Does (ClicksKeys dev keys) b c v w = record { parts = k.parts; text = k.text; done = k.done.2; options = k.options; written = k.written; waits = k.waits } in
    let both = does_then (ClicksKey dev key) (ClicksKeys dev keys) a b c u v w h behind in
    let all : map key_of (characters_of rest) ≡ map (λ (x : Key). Some x) (key ∷ keys) =
    ap (map key_of) is ∙ ap (λ o. o ∷ map key_of (characters_of more)) typed ∙ ap (λ l. Some key ∷ l) k.done.1 in
    record { parts = both.parts; text = both.text; done = (key ∷ keys, all, both.done); options = both.options; written = both.written; waits = both.waits }

-- ---- what lines say

-- what was done with the bytes of a line
pub does_bytes : {C D : Type 0} (r : Result C D) (part : List ℕ → Part) (words : List Word) (bytes : List ℕ) (a b : Bench) (u v : Option (List ℕ)) → hex_of words ≡ Some bytes
    → OnOk r (Does (DoesPart (part bytes)) a b u v) → OnOk r (Does (DoesBytes part words) a b u v)
does_bytes r part words bytes a b u v is h = ok_does_so r (DoesPart (part bytes)) (DoesBytes part words) a b u v (λ parts text k. (bytes, is, k)) h

-- what was done with the control that a line names
pub does_named : {C D : Type 0} (r : Result C D) (dev : ℕ) (named : Named) (control : ControlId) (Doing : ControlId → Moment → List Part → List ℕ → Moment → Type 0) (a b : Bench) (u v : Option (List ℕ))
    → NamesControl (session_of a.interpreter).members dev named control
    → OnOk r (Does (Doing control) a b u v) → OnOk r (Does (DoesNamed dev named Doing) a b u v)
does_named r dev named control Doing a b u v is h = ok_does_so r (Doing control) (DoesNamed dev named Doing) a b u v (λ parts text k. (control, is, k)) h

-- an expectation at a moment that stays
pub stays_there : (a b : Bench) (u : Option (List ℕ)) → moment_of b ≡ moment_of a → b.options ≡ a.options → Stays a b u u
stays_there a b u same options = record { moment = same; options = options; written = Keeps-refl u }

-- a line that says nothing prints nothing
pub nothing_said : (session : Session) → CarriesOut session line.Nothing (success [] session)
unfolding LineOutcomeOnce times
nothing_said session = one_more 0 (LineOutcomeOnce line.Nothing) session session session [] [] (no_times (LineOutcomeOnce line.Nothing) session) refl

-- ---- where nothing is drawn

-- the text of a try was kept
pub step_told : (dev : ℕ) (said fate : Fate) (chance : Option Chance) (kept text shown written : List ℕ) (session next : Session)
    → fate ≡ fate_by chance said → chance ≡ None → kept ≡ [] → Appends (Some kept) (Some text) written → shown ≡ text
    → StepPrints (step.Control dev fate) session (success written next) → StepPrints (step.Control dev said) session (success shown next)
step_told dev said fate chance kept text shown written session next is none empty grew same h =
    subst (λ f. StepPrints (step.Control dev f) session (success shown next)) (is ∙ ap (λ c. fate_by c said) none)
    (subst (λ t. StepPrints (step.Control dev fate) session (success t next)) (sym (same ∙ kept_text kept text written empty grew)) h)

-- what a result is whose cause is known
pub err_is : {A B : Type 0} (r : Result A B) (e : B) → IsErrAnd r (λ x. x ≡ e) → r ≡ Err e
err_is (Ok x) e h = absurd h
err_is (Err x) e h = ap (λ y. Err y) h

drawn_none : (dev : ℕ) (said : Fate) (before after : Moment) → DrawsOne dev said before after → IsUndrawn before → IsUndrawn after
drawn_none dev said before after h none = λ other. ⊎_elim
    (λ (same : nat_eq other dev ≡ true). rw (eqb-true other dev same) (h.0 ∙ ap (λ c. chance_after c said) (none dev)))
    (λ (apart : nat_eq other dev ≡ false). h.1 other (eqb-false other dev apart) ∙ none other)
    (cases_Bool (nat_eq other dev))

often_none : (Doing : Moment → List Part → List ℕ → Moment → Type 0) → ((before after : Moment) (parts : List Part) (text : List ℕ) → Doing before parts text after → IsUndrawn before → IsUndrawn after)
    → (n : ℕ) (before after : Moment) (parts : List Part) (text : List ℕ) → Often n Doing before parts text after → IsUndrawn before → IsUndrawn after
often_none Doing one zero before after parts text h none = λ dev. h.3 dev ∙ none dev
often_none Doing one (suc n) before after parts text h none =
    one h.middle after h.next_parts h.next_text h.next (often_none Doing one n before h.middle h.first_parts h.first_text h.first none)

part_none : (part : Part) (before after : Moment) (parts : List Part) (text : List ℕ) → DoesPart part before parts text after → IsUndrawn before → IsUndrawn after
part_none part before after parts text h none = λ dev. h.2 dev ∙ none dev

short_none : (said : ShortLine) (before after : Moment) (parts : List Part) (text : List ℕ) → ShortLineDoes said before parts text after → IsUndrawn before → IsUndrawn after
unfolding ShortLineDoes
short_none (short.Poll dev fate count) before after parts text (inl h) none = part_none _ before after parts text h.1 none
short_none (short.Poll dev fate count) before after parts text (inr h) none =
    often_none (Polls dev fate) (λ b a p t k. drawn_none dev fate b a k.1.drawn) count before after parts text h none
short_none (short.Control dev fate count) before after parts text (inl h) none = part_none _ before after parts text h.1 none
short_none (short.Control dev fate count) before after parts text (inr h) none =
    often_none (Tries dev fate) (λ b a p t k. drawn_none dev fate b a k.drawn) count before after parts text h none
short_none said before after parts text h none = part_none _ before after parts text h none

-- a line of hidrun draws no fates where none are drawn
pub stays_undrawn : (given : Option ℕ) (said : Said) (meaning : Result Line LineFault) (before after : Moment) (parts : List Part) (text : List ℕ)
    → script_said said ≡ Some meaning → LineDoes given said before parts text after → IsUndrawn before → IsUndrawn after
unfolding LineDoes
stays_undrawn given lab.Nothing meaning before after parts text is h none = λ dev. h.3 dev ∙ none dev
stays_undrawn given (lab.Script bytes) meaning before after parts text is h none = part_none _ before after parts text h.2 none
stays_undrawn given (lab.Short said) meaning before after parts text is h none = short_none said before after parts text h none
stays_undrawn given said meaning before after parts text is h none = absurd (cc)

-- a line of hidrun expects nothing, and does what it is defined to
pub script_does : (said : Said) (meaning : Result Line LineFault) (a b : Bench) (u v : Option (List ℕ)) → script_said said ≡ Some meaning → DoesSaid said a b u v
    → Does (LineDoes a.options.seed said) a b u v
script_does lab.Nothing meaning a b u v is h = h
script_does (lab.Script bytes) meaning a b u v is h = h
script_does (lab.Short said) meaning a b u v is h = h
script_does said meaning a b u v is h = absurd (cc)

-- a line that ended since a device had still something to send clicks controls of one
pub line_unsettled : (said : Said) (r : Result (Unit {0}) LabCause) (after : Moment) → LineUnsettled said r after → r ≡ Err Unsettled → (dev : ℕ) × StaysUnsettled dev after
line_unsettled (lab.Click dev named) r after h is = (dev, h is)
line_unsettled (lab.Typing dev bytes) r after h is = (dev, h is)
line_unsettled said r after h is = absurd (h is)
