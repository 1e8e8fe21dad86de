-- Lines that say nothing to hidrun, which the bench passes over.
use Rattle.std.proofs.Common.{◌≡◌, ◌<◌, ◌≤◌, ◌-◌, ◌∙◌, ℕ, List, [], ◌∷◌, Option, None, Some, Result, Ok, Err, arith, ap, cond, get_or, get_or-take, length, nat_eq, nat_lt, refl, subst, sym, take}
use Rattle.std.specs.List.{position_or_len}
use Rattle.std.specs.Prelude.{position, slice_index}
use Rattle.std.specs.Str.Lines.{strip_carriage_return}
use Rattle.std.proofs.lemmas.Bool.{cond_both, cond-true, lt-ltb}
use Rattle.std.proofs.lemmas.List.{length-take-le}
use Rattle.std.proofs.lemmas.List.Sums.{position_or_len_is}
use Rattle.std.proofs.KnownBytes.{Appends-nil}
use Rattle.hid_text.specs.declared.line.Line.TheVariants as line
use Rattle.hid_text.specs.Line.{meaning_of}
use Rattle.hid_text.specs.Words.{is_no_blank}
use Rattle.hid_text.proofs.PartLemmas.{comment_line}
use Rattle.hid_script.specs.LineOutput.{LineBegins, LinePrints}
use Rattle.hid_script.specs.Session.{Session}
use Rattle.hid_script.specs.Interpreter.{session_of}
use Rattle.hid_script.proofs.SessionLemmas.{nothing_written}
use Rattle.lab_lines.specs.LabLines.{Said, Refusal, lab_meaning}
use Rattle.lab_lines.specs.LabLines as lab
use Rattle.lab_expectations.specs.declared.transcript.Transcript.{Transcript}
use Rattle.lab_session.specs.declared.bench.Bench.{Bench}
use Rattle.lab_session.specs.declared.fault.LabCause.{LabCause}
use Rattle.lab_session.specs.Expecting.{ReadExpects, SaidExpects}
use Rattle.lab_session.specs.Bench.{DoesLine}
use Rattle.lab_session.specs.Lines.{LineDoes}
use Rattle.lab_session.specs.Parts.{PartPrints, Says}
use Rattle.lab_session.specs.Scripts.{PrintsAs, script_said}
use Rattle.lab_session.proofs.DoingLemmas.{does_nothing, nothing_said}
use Rattle.lab_session.proofs.ScriptLineLemmas.{refused_there, script_old, script_read}
use Rattle.lab_session.proofs.WaitLemmas.{keeps_quiet}

-- whatever the bench reads in such a line, it does nothing
nothing_as : (bytes : List ℕ) (a : Bench) (u : Option (List ℕ)) (said : Said) → meaning_of bytes ≡ Ok line.Nothing → lab_meaning bytes ≡ Ok said
    → script_said said ≡ Some (meaning_of bytes) → DoesLine bytes None a a u u
unfolding LineDoes PartPrints
nothing_as bytes a u lab.Nothing is read same = record { said = lab.Nothing; read = read; asks = refl; does = does_nothing a u }
nothing_as bytes a u (lab.Script text) is read same = let means : meaning_of text ≡ Ok line.Nothing = cc in
    record {
      said = lab.Script text;
      read = read;
      asks = refl;
      does = record {
        parts = Says line.Nothing ∷ [];
        text = [];
        done = (line.Nothing, means, (refl, nothing_said (session_of a.interpreter), λ dev. refl));
        options = refl;
        written = λ plain. Appends-nil u;
        waits = keeps_quiet a (Says line.Nothing) (λ dev request e. absurd (cc));
      };
    }
nothing_as bytes a u said is read same = absurd (cc)

nothing_by : (bytes : List ℕ) (a : Bench) (u : Option (List ℕ)) (r : Result Said Refusal) → meaning_of bytes ≡ Ok line.Nothing → lab_meaning bytes ≡ r → DoesLine bytes None a a u u
nothing_by bytes a u (Ok said) is read = nothing_as bytes a u said is read (script_read bytes said (script_old bytes line.Nothing is) read)
nothing_by bytes a u (Err refusal) is read = let other = refused_there bytes refusal (script_old bytes line.Nothing is) read in absurd (cc)

pub nothing_done : (bytes : List ℕ) (a : Bench) (u : Option (List ℕ)) → meaning_of bytes ≡ Ok line.Nothing → DoesLine bytes None a a u u
nothing_done bytes a u is = nothing_by bytes a u (lab_meaning bytes) is refl

-- such a line expects nothing
nothing_expects_as : (bytes : List ℕ) (said : Said) (old new : Transcript) (came : List ℕ) (r : Result (Unit {0}) LabCause) → meaning_of bytes ≡ Ok line.Nothing
    → script_said said ≡ Some (meaning_of bytes) → SaidExpects said old new came r
nothing_expects_as bytes lab.Nothing old new came r is same = tt
nothing_expects_as bytes (lab.Script text) old new came r is same = tt
nothing_expects_as bytes said old new came r is same = absurd (cc)

nothing_expects_by : (bytes : List ℕ) (m : Result Said Refusal) (old new : Transcript) (came : List ℕ) (r : Result (Unit {0}) LabCause) → meaning_of bytes ≡ Ok line.Nothing
    → lab_meaning bytes ≡ m → ReadExpects m old new came r
nothing_expects_by bytes (Ok said) old new came r is read =
    nothing_expects_as bytes said old new came r is (script_read bytes said (script_old bytes line.Nothing is) read)
nothing_expects_by bytes (Err refusal) old new came r is read = tt

pub nothing_expects : (bytes : List ℕ) (old new : Transcript) (came : List ℕ) (r : Result (Unit {0}) LabCause) → meaning_of bytes ≡ Ok line.Nothing
    → ReadExpects (lab_meaning bytes) old new came r
nothing_expects bytes old new came r is = nothing_expects_by bytes (lab_meaning bytes) old new came r is refl

pub nothing_prints : (u : Option (List ℕ)) (session : Session) (bytes : List ℕ) → meaning_of bytes ≡ Ok line.Nothing → PrintsAs u u (meaning_of bytes) session (Ok tt) session
unfolding LinePrints LineBegins
nothing_prints u session bytes is = (Ok tt, refl, nothing_written u session bytes is)

-- the line has bytes, of which the first is the mark of a comment, and no more than so many
abbrev IsMarked : ℕ → List ℕ → Type 0
IsMarked most bytes = (0 < length bytes) × (length bytes ≤ most) × (get_or bytes 0 0 ≡ 35)

-- such a line still is so without the carriage return at its end
mark_stays : (bytes : List ℕ) → IsMarked 1024 bytes → IsMarked 1024 (strip_carriage_return bytes)
mark_stays [] marked = elim marked.0 [ ]
mark_stays (byte ∷ []) marked = subst (λ b. IsMarked 1024 (strip_carriage_return (b ∷ []))) (sym marked.2) (omega arith, omega arith, refl)
mark_stays (byte ∷ next ∷ more) marked =
    let all = byte ∷ next ∷ more in
    let end = length all - 1 in
    let short : length (take end all) ≡ end = length-take-le end all (omega arith) in
    cond_both (nat_eq (slice_index all end) 13) (take end all) all (IsMarked 1024)
    (λ _. (omega (arith, short), omega (arith, short, marked.1), get_or-take end all 0 0 (omega arith) ∙ marked.2)) (λ _. marked)

-- a comment from its first byte on
pub first_comment : (bytes : List ℕ) → length bytes ≤ 1024 → 0 < length bytes → get_or bytes 0 0 ≡ 35 → meaning_of (strip_carriage_return bytes) ≡ Ok line.Nothing
first_comment bytes room some mark =
    let marked = mark_stays bytes (some, room, mark) in
    let stripped = strip_carriage_return bytes in
    let first : position_or_len is_no_blank stripped ≡ 0 = position_or_len_is is_no_blank stripped 0 0 (omega arith) (λ k below. absurd (omega (arith, below))) (λ below. ap is_no_blank marked.2) in
    let found : position is_no_blank stripped ≡ Some 0 =
    ap (λ n. cond (nat_lt n (length stripped)) (Some n) None) first ∙ cond-true (nat_lt 0 (length stripped)) (Some 0) None (lt-ltb 0 (length stripped) marked.0) in
    comment_line stripped 0 marked.1 found marked.2
