-- Short lines that are one part: what was done, what is printed, and how they end.
use Rattle.std.proofs.Common.{◌≡◌, true, ℕ, nat_eq, List, [], ◌∷◌, length, arith, append-nil, refl, sym, ap, ◌∙◌, subst, inl, Option, None, Some, Result, Ok, Err, OnOk}
use Rattle.std.proofs.lemmas.Bool.{eqb-true}
use Rattle.std.specs.Prelude.{IfOk, is_ok}
use Rattle.std.specs.Option.{option_map}
use Rattle.std.specs.Io.KnownBytes.{Appends}
use Rattle.std.proofs.KnownBytes.{Appends-nil}
use Rattle.hid_text.specs.declared.line.Line.TheVariants as line
use Rattle.hid_text.specs.declared.short.ShortLine.{ShortLine}
use Rattle.hid_text.specs.declared.short.ShortLine.TheVariants as short
use Rattle.hid_text.specs.Line.{meaning_of, short_of}
use Rattle.hid_script.specs.declared.fault.Cause.{Cause}
use Rattle.hid_script.specs.Interpreter.{session_of}
use Rattle.hid_script.specs.LineOutput.{BeginsMeant, MeaningPrints}
use Rattle.hid_script.specs.Place.{AppendsOutput}
use Rattle.hid_script.specs.Session.{Session}
use Rattle.lab_expectations.specs.declared.transcript.Transcript.{Transcript}
use Rattle.lab_expectations.specs.Expectations.{waits}
use Rattle.lab_lines.specs.LabLines.{lab_meaning}
use Rattle.lab_lines.specs.LabLines as lab
use Rattle.lab_session.specs.declared.asked.Asked.{Asked}
use Rattle.lab_session.specs.declared.bench.Bench.{Bench}
use Rattle.lab_session.specs.declared.fault.LabCause.{LabCause}
use Rattle.lab_session.specs.declared.fault.LabCause.TheVariants.{Unsettled}
use Rattle.lab_session.specs.Asking.{asked_said}
use Rattle.lab_session.specs.Bench.{Does, DoesLine, EndsPart, answer_of_end, moment_of}
use Rattle.lab_session.specs.Chances.{chance_at}
use Rattle.lab_session.specs.Expecting.{Keeps, ReadExpects}
use Rattle.lab_session.specs.Lines.{DoesPart, IsOnePart, LineDoes, Moment, ShortLineDoes}
use Rattle.lab_session.specs.Outputs.{awaited_at}
use Rattle.lab_session.specs.Parts.{Part, Says}
use Rattle.lab_session.specs.Printed.{IsPlain, PrintsPart, is_styled}
use Rattle.lab_session.specs.Scripts.{PrintsAs, end_of, lab_end}
use Rattle.lab_session.proofs.DoingLemmas.{did_line, ok_does_so}
use Rattle.lab_session.proofs.WaitLemmas.{leaves_awaited}
use Rattle.lab_session.proofs.PrintedLemmas.{kept_printed}
use Rattle.lab_session.proofs.ScriptLineLemmas.{short_read}

-- what a line does that is one part
pub one_part : (said : ShortLine) (before after : Moment) (parts : List Part) (text : List ℕ) → IsOnePart before said
    → DoesPart (Says (line.Step said)) before parts text after → ShortLineDoes said before parts text after
unfolding ShortLineDoes
one_part (short.Poll dev fate count) before after parts text none h = inl (none, h)
one_part (short.Control dev fate count) before after parts text none h = inl (none, h)
one_part said before after parts text none h = h

keeps_nothing : (t : Transcript) (text : List ℕ) → text ≡ [] → Keeps t t text
keeps_nothing t text none = subst (Keeps t t) (sym none) (λ whole. (sym (append-nil (waits t)), whole))

-- a part that printed nothing
pub quiet_end : (a : Bench) (u : Option (List ℕ)) (part : Result (Unit {0}) Cause) → part ≡ Ok tt → a.text.items ≡ [] → EndsPart a a u u part (Ok None)
quiet_end a u part is none = record {
  end = Ok tt;
  answer = refl;
  written = λ plain. subst (λ p. PrintsPart u u a.text.items p (Ok tt)) (sym is) (Ok tt, subst (Appends u u) (sym none) (Appends-nil u), refl);
  whole = is;
  waits = keeps_nothing a.printer.transcript a.text.items none;
  session = refl;
  draws = refl;
  outputs = refl;
  options = refl;
}

answer_end : (end : Result (Unit {0}) Cause) → end_of (answer_of_end end) ≡ lab_end end
answer_end (Ok t) = refl
answer_end (Err cause) = refl

never_unsettled : (end : Result (Unit {0}) Cause) → lab_end end ≡ Err Unsettled → ⊥
never_unsettled (Ok t) is = absurd (cc)
never_unsettled (Err cause) is = absurd (cc)

-- what `Bench::line` promises of a short line
pub record ShortEnds (bytes : List ℕ) (a b : Bench) (u v : Option (List ℕ)) (r : Result (Option Asked) LabCause) : Type 0 where
  pub does : IfOk r (λ asked. DoesLine bytes (option_map asked_said asked) a b u v)
  pub prints : IsPlain a.options → PrintsAs u v (meaning_of bytes) (session_of a.interpreter) (end_of r) (session_of b.interpreter)
  pub expects : ReadExpects (lab_meaning bytes) a.printer.transcript b.printer.transcript b.came.items (end_of r)
  pub settled : end_of r ≡ Err Unsettled → ⊥

line_done : (bytes : List ℕ) (said : ShortLine) (a b : Bench) (u v : Option (List ℕ)) (end : Result (Unit {0}) Cause)
    → short_of (meaning_of bytes) ≡ Some said → OnOk end (Does (ShortLineDoes said) a b u v)
    → IfOk (answer_of_end end) (λ asked. DoesLine bytes (option_map asked_said asked) a b u v)
unfolding LineDoes
line_done bytes said a b u v (Ok t) is h = record { said = lab.Short said; read = short_read bytes said is; asks = refl; does = h }
line_done bytes said a b u v (Err cause) is h = tt

-- a short line was carried out in one part, by way of a bench at which the part had ended
pub short_ends : {bytes : List ℕ} {said : ShortLine} {a m b : Bench} {kept : List ℕ} {u v : Option (List ℕ)} {part : Result (Unit {0}) Cause} {r : Result (Option Asked) LabCause}
    → EndsPart m b u v part r → meaning_of bytes ≡ Ok (line.Step said) → IsOnePart (moment_of a) said → kept ≡ []
    → AppendsOutput (Some kept) (Some m.text.items) (MeaningPrints (session_of a.interpreter) (Ok (line.Step said))) (BeginsMeant (session_of a.interpreter) (Ok (line.Step said))) part (session_of m.interpreter)
    → m.draws ≡ a.draws → m.options ≡ a.options → m.printer.transcript ≡ a.printer.transcript → m.outputs ≡ a.outputs → ShortEnds bytes a b u v r
short_ends {bytes} {said} {a} {m} {b} {kept} {u} {v} {part} {r} k is one none h draws options same outputs =
    let short : short_of (meaning_of bytes) ≡ Some said = ap short_of is in
    let Prints = MeaningPrints (session_of a.interpreter) (Ok (line.Step said)) in
    let Begins = BeginsMeant (session_of a.interpreter) (Ok (line.Step said)) in
    let told = subst (AppendsOutput (Some kept) (Some m.text.items) Prints Begins part) (sym k.session) h in
    let ends : end_of r ≡ lab_end k.end = ap end_of k.answer ∙ answer_end k.end in
    let waits : OnOk k.end (Keeps a.printer.transcript b.printer.transcript m.text.items) =
    subst (λ t. OnOk k.end (Keeps t b.printer.transcript m.text.items)) same k.waits in
    let done = did_line (line.Step said) Begins a b kept m.text.items m.text.items u v part k.end none refl told
    (λ plain. k.written (ap is_styled options ∙ plain)) k.whole (λ dev. ap (λ d. chance_at d dev) (k.draws ∙ draws)) (k.options ∙ options)
    (leaves_awaited (Says (line.Step said)) (awaited_at a.outputs) (awaited_at b.outputs) (λ dev request e. absurd (cc)) (λ dev. ap (λ o. awaited_at o dev) (k.outputs ∙ outputs))) waits in
    record {
      does = subst (λ x. IfOk x (λ asked. DoesLine bytes (option_map asked_said asked) a b u v)) (sym k.answer)
          (line_done bytes said a b u v k.end short (ok_does_so k.end (DoesPart (Says (line.Step said))) (ShortLineDoes said) a b u v
          (λ parts text. one_part said (moment_of a) (moment_of b) parts text one) done));
      prints = λ plain. subst (λ m. PrintsAs u v m (session_of a.interpreter) (end_of r) (session_of b.interpreter)) (sym is) (
        k.end,
        ends,
        kept_printed u v kept m.text.items m.text.items (session_of a.interpreter) (session_of b.interpreter) (Ok (line.Step said)) part k.end none refl told
            (k.written (ap is_styled options ∙ plain.style)),
      );
      expects = subst (λ m. ReadExpects m a.printer.transcript b.printer.transcript b.came.items (end_of r)) (sym (short_read bytes said short)) tt;
      settled = λ e. never_unsettled k.end (sym ends ∙ e);
    }

-- a short line that was carried out in several parts
pub parts_done : (bytes : List ℕ) (said : ShortLine) (a b : Bench) (u v : Option (List ℕ)) (r : Result (Option Asked) LabCause)
    → short_of (meaning_of bytes) ≡ Some said → IfOk r (λ asked. (asked ≡ None) × Does (ShortLineDoes said) a b u v)
    → IfOk r (λ asked. DoesLine bytes (option_map asked_said asked) a b u v)
unfolding LineDoes
parts_done bytes said a b u v (Ok asked) is h = record { said = lab.Short said; read = short_read bytes said is; asks = ap (option_map asked_said) h.0; does = h.1 }
parts_done bytes said a b u v (Err cause) is h = tt

-- a part ended well
pub ok_is : (r : Result (Unit {0}) Cause) → is_ok r ≡ true → r ≡ Ok tt
ok_is (Ok t) is = refl
ok_is (Err cause) is = absurd (cc)

-- where the number of bytes is none, there are none
pub none_there : (items : List ℕ) → nat_eq (length items) 0 ≡ true → items ≡ []
none_there [] is = refl
none_there (byte ∷ more) is = absurd (omega (arith, eqb-true (length (byte ∷ more)) 0 is))

-- what is printed of a short line whose one part printed nothing
pub quiet_prints : (bytes : List ℕ) (said : ShortLine) (session next : Session) (kept text : List ℕ) (u : Option (List ℕ)) (part : Result (Unit {0}) Cause)
    → meaning_of bytes ≡ Ok (line.Step said) → kept ≡ []
    → AppendsOutput (Some kept) (Some text) (MeaningPrints session (Ok (line.Step said))) (BeginsMeant session (Ok (line.Step said))) part next
    → part ≡ Ok tt → text ≡ [] → PrintsAs u u (meaning_of bytes) session (Ok tt) next
quiet_prints bytes said session next kept text u part is empty h ok none =
    let printed : PrintsPart u u text part (Ok tt) = subst (λ p. PrintsPart u u text p (Ok tt)) (sym ok) (Ok tt, subst (Appends u u) (sym none) (Appends-nil u), refl) in
    subst (λ m. PrintsAs u u m session (Ok tt) next) (sym is)
    (Ok tt, refl, kept_printed u u kept text text session next (Ok (line.Step said)) part (Ok tt) empty refl h printed)
