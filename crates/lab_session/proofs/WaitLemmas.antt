-- What waits to be expected, one text after the other.
use Rattle.std.proofs.Common.{◌≡◌, ◌≢◌, ℕ, ◌<◌, Bool, true, false, List, [], ◌∷◌, ◌++◌, refl, sym, ap, ◌∙◌, subst, append_assoc, append-nil, Option, None, Some, Result, Ok, Err, OnOk}
use Rattle.usb_transact.specs.declared.transaction.Fate.{Fate}
use Rattle.hid_requests.specs.declared.request.Request.{Request}
use Rattle.hid_text.specs.declared.line.Line.{Line}
use Rattle.hid_text.specs.declared.line.Line.TheVariants as line
use Rattle.hid_text.specs.declared.short.ShortLine.TheVariants as short
use Rattle.lab_expectations.specs.declared.transcript.Transcript.{Transcript}
use Rattle.lab_expectations.specs.Expectations.{waits}
use Rattle.lab_session.specs.declared.bench.Bench.{Bench}
use Rattle.lab_session.specs.Expecting.{Keeps}
use Rattle.lab_session.specs.Outputs.{SetOutput, BeginsRequestOf, IsAwaited, awaited_at, output_set_by, output_text}
use Rattle.lab_session.specs.Parts.{Part, Says}
use Rattle.lab_session.specs.Waiting.{Carried, KeepsText, LeavesAwaited, TakeEffect, TakesEffect, Waits, carried_parts, carried_text, output_line, part_tries, waiting_of, waiting_output}

parts_join : (a b : List Carried) → carried_parts (a ++ b) ≡ carried_parts a ++ carried_parts b
parts_join [] b = refl
parts_join (one ∷ more) b = ap (λ l. one.part ∷ l) (parts_join more b)

printed_join : (a b : List Carried) → carried_text (a ++ b) ≡ carried_text a ++ carried_text b
printed_join [] b = refl
printed_join (one ∷ more) b = ap (λ l. one.text ++ l) (printed_join more b) ∙ sym (append_assoc one.text (carried_text more) (carried_text b))

waiting_join : (trace : Bool) (a b : List Carried) → waiting_of trace (a ++ b) ≡ waiting_of trace a ++ waiting_of trace b
waiting_join trace [] b = refl
waiting_join trace (one ∷ more) b =
    let text = one.text ++ output_line trace (part_tries one.part) one.output in
    ap (λ l. text ++ l) (waiting_join trace more b) ∙ sym (append_assoc text (waiting_of trace more) (waiting_of trace b))

-- what is awaited is read the same
effect_from : (part : Part) (output : Option SetOutput) (first before after : ℕ → Option SetOutput) → ((dev : ℕ) → before dev ≡ first dev) → TakesEffect part output before after → TakesEffect part output first after
effect_from part None first before after same h = record { begins = h.begins; others = λ dev not. h.others dev not ∙ same dev }
effect_from part (Some output) first before after same h = record {
  dev = h.dev;
  tries = h.tries;
  awaited = sym (same h.dev) ∙ h.awaited;
  once = h.once;
  others = λ other apart. h.others other apart ∙ same other;
}

effects_from : (all : List Carried) (first before after : ℕ → Option SetOutput) → ((dev : ℕ) → before dev ≡ first dev) → TakeEffect all before after → TakeEffect all first after
effects_from [] first before after same h = λ dev. h dev ∙ same dev
effects_from (one ∷ more) first before after same h = (h.0, effect_from one.part one.output first before h.0 same h.1, h.2)

effects_join : (a b : List Carried) (first middle last : ℕ → Option SetOutput) → TakeEffect a first middle → TakeEffect b middle last → TakeEffect (a ++ b) first last
effects_join [] b first middle last h k = effects_from b first middle last h k
effects_join (one ∷ more) b first middle last h k = (h.0, h.1, effects_join more b h.0 middle last h.2 k)

-- lines after others
both_kept : (a b c : Transcript) (x y : List ℕ) → Keeps a b x → Keeps b c y → Keeps a c (x ++ y)
both_kept a b c x y h k = λ whole.
    let later = k whole in
    let earlier = h later.1 in
    (later.0 ∙ ap (λ l. l ++ y) earlier.0 ∙ append_assoc (waits a) x y, earlier.1)

-- one text and then another
pub keeps_then : (a b c : Bench) (parts more : List Part) (x y : List ℕ) → b.options ≡ a.options → KeepsText a b parts x → KeepsText b c more y → KeepsText a c (parts ++ more) (x ++ y)
keeps_then a b c parts more x y same h k = record {
  all = h.all ++ k.all;
  carried = parts_join h.all k.all ∙ ap (λ l. l ++ carried_parts k.all) h.carried ∙ ap (λ l. parts ++ l) k.carried;
  printed = printed_join h.all k.all ∙ ap (λ l. l ++ carried_text k.all) h.printed ∙ ap (λ l. x ++ l) k.printed;
  effects = effects_join h.all k.all (awaited_at a.outputs) (awaited_at b.outputs) (awaited_at c.outputs) h.effects k.effects;
  keeps = subst (Keeps a.printer.transcript c.printer.transcript)
      (ap (λ o. waiting_of a.options.trace h.all ++ waiting_of o.trace k.all) same ∙ sym (waiting_join a.options.trace h.all k.all))
      (both_kept a.printer.transcript b.printer.transcript c.printer.transcript _ _ h.keeps k.keeps);
}

kept_nothing : (a b : Transcript) → b ≡ a → Keeps a b []
kept_nothing a b same = λ whole. (ap waits same ∙ sym (append-nil (waits a)), sym (ap (λ (t : Transcript). t.is_cut) same) ∙ whole)

-- nothing was done
pub keeps_none : (a b : Bench) → b.printer.transcript ≡ a.printer.transcript → ((dev : ℕ) → awaited_at b.outputs dev ≡ awaited_at a.outputs dev) → KeepsText a b [] []
keeps_none a b same stays = record {
  all = [];
  carried = refl;
  printed = refl;
  effects = stays;
  keeps = kept_nothing a.printer.transcript b.printer.transcript same;
}

-- a part that begins no request leaves what is awaited
pub leaves_awaited : (part : Part) (before after : ℕ → Option SetOutput) → ((dev : ℕ) (request : Request) → part ≡ Says (line.Begin dev request) → ⊥) → ((dev : ℕ) → after dev ≡ before dev) → LeavesAwaited part before after
leaves_awaited part before after none stays = record {
  begins = λ dev request is few. absurd (none dev request is);
  others = λ dev not. stays dev;
}

-- a line of a script was noted
pub noted : (said : Line) (before after : ℕ → Option SetOutput) → ((dev : ℕ) (request : Request) → dev < 8 → said ≡ line.Begin dev request → after dev ≡ output_set_by request)
    → ((dev : ℕ) → (BeginsRequestOf said dev → ⊥) → after dev ≡ before dev) → LeavesAwaited (Says said) before after
noted said before after its others = record {
  begins = λ dev request is few. its dev request few (cc);
  others = λ dev not. others dev (λ begins. not begins.0 (ap Says begins.1));
}

-- a part was printed, by which no Output report took effect
pub keeps_shown : (trace : Bool) (a b : Transcript) (before after : ℕ → Option SetOutput) (part : Part) (shown text : List ℕ) → shown ≡ text → LeavesAwaited part before after → Keeps a b shown
    → Waits trace a b before after (part ∷ []) text
keeps_shown trace a b before after part shown text same leaves h = record {
  all = record { part = part; text = text; output = None } ∷ [];
  carried = refl;
  printed = append-nil text;
  effects = (after, leaves, λ dev. refl);
  keeps = subst (Keeps a b) (same ∙ sym (append-nil text) ∙ sym (append-nil (text ++ [])) ∙ ap (λ l. (text ++ l) ++ []) (sym (no_line (part_tries part)))) h;
}
  where
    no_line : (dev : Option ℕ) → output_line trace dev None ≡ []
    no_line None = refl
    no_line (Some dev) = refl

-- a part that printed nothing
pub keeps_quiet : (a : Bench) (part : Part) → ((dev : ℕ) (request : Request) → part ≡ Says (line.Begin dev request) → ⊥) → KeepsText a a (part ∷ []) []
keeps_quiet a part none =
    keeps_shown a.options.trace a.printer.transcript a.printer.transcript (awaited_at a.outputs) (awaited_at a.outputs) part [] [] refl
    (leaves_awaited part (awaited_at a.outputs) (awaited_at a.outputs) none (λ dev. refl)) (kept_nothing a.printer.transcript a.printer.transcript refl)

waiting_line : (trace : Bool) (a b : Transcript) (line : List ℕ) → (trace ≡ true → Keeps a b line) → (trace ≡ false → Keeps a b (43 ∷ line)) → Keeps a b (waiting_output trace line)
waiting_line true a b line h k = h refl
waiting_line false a b line h k = k refl

-- a try was printed, and an Output report took effect
keeps_output : (trace : Bool) (a middle b : Transcript) (before after : ℕ → Option SetOutput) (text told : List ℕ) (dev : ℕ) (fate : Fate) (awaited : Option SetOutput) → Keeps a middle text → before dev ≡ awaited → IsAwaited awaited dev told
    → after dev ≡ None → ((other : ℕ) → other ≢ dev → after other ≡ before other) → Keeps middle b (waiting_output trace told)
    → Waits trace a b before after (Says (line.Step (short.Control dev fate 1)) ∷ []) text
keeps_output trace a middle b before after text told dev fate None h was is once others k = absurd is
keeps_output trace a middle b before after text told dev fate (Some output) h was is once others k =
    let shown = waiting_output trace (output_text dev output.id output.bytes) in record {
      all = record { part = Says (line.Step (short.Control dev fate 1)); text = text; output = Some output } ∷ [];
      carried = refl;
      printed = append-nil text;
      effects = (after, record { dev = dev; tries = refl; awaited = was; once = once; others = others }, λ other. refl);
      keeps = subst (Keeps a b) (sym (append-nil (text ++ shown))) (both_kept a middle b text shown h (subst (λ t. Keeps middle b (waiting_output trace t)) is k));
    }

pub ok_output : {B : Type 0} (r : Result (Unit {0}) B) (trace : Bool) (a middle b : Transcript) (before after : ℕ → Option SetOutput) (text told : List ℕ) (dev : ℕ) (fate : Fate) → Keeps a middle text
    → IsAwaited (before dev) dev told → after dev ≡ None → ((other : ℕ) → other ≢ dev → after other ≡ before other)
    → OnOk r (trace ≡ true → Keeps middle b told) → OnOk r (trace ≡ false → Keeps middle b (43 ∷ told)) → OnOk r (Waits trace a b before after (Says (line.Step (short.Control dev fate 1)) ∷ []) text)
ok_output (Ok u) trace a middle b before after text told dev fate h is once others k l =
    keeps_output trace a middle b before after text told dev fate (before dev) h refl is once others (waiting_line trace middle b told k l)
ok_output (Err e) trace a middle b before after text told dev fate h is once others k l = tt
