-- A text that is written in pieces: what stands in it, and what was written, one after the other.
use Rattle.std.proofs.Common.{◌≡◌, ◌≤◌, ◌<◌, ℕ, ◌+◌, ◌-◌, length, get_or, zero, suc, List, [], ◌∷◌, ◌++◌, take, drop, refl, sym, ap, ◌∙◌, subst, inl, inr, append-nil, append_assoc, take-append-drop, arith, Option, Result, Ok, Err, IsErrAnd}
use Rattle.std.proofs.lemmas.List.{take_more}
use Rattle.std.specs.List.{flat_map}
use Rattle.std.proofs.lemmas.Grind.{flat_map-append}
use Rattle.std.specs.Io.KnownBytes.{Appends}
use Rattle.std.proofs.KnownBytes.{Appends-nil, Appends-trans}
use Rattle.hid_notation.specs.Text.{concat_below}
use Rattle.hid_recording.specs.declared.fault.Cause.{Cause}
use Rattle.hid_recording.specs.declared.fault.Cause.TheVariants as causes
use Rattle.hid_recording.specs.declared.fault.TextFault.{TextFault}
use Rattle.hid_recording.specs.declared.fault.TextFault.TheVariants as faults
use Rattle.hid_recording.specs.Gathering.{EndsIn, Gathers, StopsIn, Outputs}
use Rattle.hid_recording.specs.Pieces.{IsWholeLines, Carries, CutsOff, Flows, cause_of}
use Rattle.hid_recording.specs.Session.{Session, Outcome, success, failure}

-- ---- lists

no_front : (a b : List ℕ) → a ++ b ≡ [] → a ≡ []
no_front [] b e = refl
no_front (x ∷ a) b e = absurd (cc)

pub no_end : (a b : List ℕ) → a ++ b ≡ [] → b ≡ []
no_end [] b e = e
no_end (x ∷ a) b e = absurd (cc)

lines_more : (a b : List ℕ) → IsWholeLines a → IsWholeLines b → IsWholeLines (a ++ b)
lines_more a b h (inl none) = subst IsWholeLines (sym (ap (λ l. a ++ l) none ∙ append-nil a)) h
lines_more a b h (inr k) = inr (a ++ k.0, ap (λ l. a ++ l) k.1 ∙ sym (append_assoc a k.0 (10 ∷ [])))

-- ---- bytes that were added

-- bytes were added, and nothing was written
pub carried : (a : Option (List ℕ)) (text added left : List ℕ) → left ≡ text ++ added → Carries a a text added left
carried a text added left is = record { written = []; grew = Appends-nil a; lines = inl refl; all = is }

-- no byte was added
pub carried_none : (a : Option (List ℕ)) (text : List ℕ) → Carries a a text [] text
carried_none a text = carried a text [] text (sym (append-nil text))

-- bytes that were added, named otherwise
pub carries_same : (a b : Option (List ℕ)) (text x y left : List ℕ) → x ≡ y → Carries a b text x left → Carries a b text y left
carries_same a b text x y left same h = subst (λ l. Carries a b text l left) same h

-- all of the text was written, which ends with a line
ends_line : (text : List ℕ) → 1 ≤ length text → get_or text (length text - 1) 0 ≡ 10 → (before : List ℕ) × (text ≡ before ++ 10 ∷ [])
ends_line [] some last = absurd (omega arith)
ends_line (x ∷ []) some last = ([], ap (λ b. b ∷ []) last)
ends_line (x ∷ y ∷ text) some last =
    let on : length (x ∷ y ∷ text) - 1 ≡ suc (length (y ∷ text) - 1) = omega arith in
    let h = ends_line (y ∷ text) (omega arith) (sym (ap (λ n. get_or (x ∷ y ∷ text) n 0) on) ∙ last) in
    (x ∷ h.0, ap (λ l. x ∷ l) h.1)

pub carried_lines : (a b : Option (List ℕ)) (text bytes sent left : List ℕ) → bytes ≡ text → 1 ≤ length bytes
    → get_or bytes (length bytes - 1) 0 ≡ 10 → sent ≡ text → Appends a b sent → left ≡ [] → Carries a b text [] left
carried_lines a b text bytes sent left same some last is grew none =
    let ends = ends_line bytes some last in
    record {
      written = text;
      grew = subst (λ l. Appends a b l) is grew;
      lines = inr (ends.0, sym same ∙ ends.1);
      all = ap (λ l. text ++ l) none;
    }

pub carries_more : (a b c : Option (List ℕ)) (text x middle y left : List ℕ) → Carries a b text x middle → Carries b c middle y left
    → Carries a c text (x ++ y) left
carries_more a b c text x middle y left h k = record {
  written = h.written ++ k.written;
  grew = Appends-trans a b c h.written k.written h.grew k.grew;
  lines = lines_more h.written k.written h.lines k.lines;
  all = append_assoc h.written k.written left ∙ ap (λ l. h.written ++ l) k.all ∙ sym (append_assoc h.written middle y)
      ∙ ap (λ l. l ++ y) h.all ∙ append_assoc text x y;
}

-- ---- where it was cut off

-- the whole text after some was written is the text before
behind : (a b : Option (List ℕ)) (text x middle y : List ℕ) → (h : Carries a b text x middle)
    → text ++ (x ++ y) ≡ h.written ++ (middle ++ y)
behind a b text x middle y h = sym (append_assoc text x y) ∙ ap (λ l. l ++ y) (sym h.all) ∙ append_assoc h.written middle y

pub cut_after : (a b c : Option (List ℕ)) (text x middle y : List ℕ) (fault : TextFault) → Carries a b text x middle
    → CutsOff b c (middle ++ y) fault → CutsOff a c (text ++ (x ++ y)) fault
cut_after a b c text x middle y faults.Memory h k = (
  h.written ++ k.0,
  Appends-trans a b c h.written k.0 h.grew k.1,
  (k.2.0, behind a b text x middle y h ∙ ap (λ l. h.written ++ l) k.2.1 ∙ sym (append_assoc h.written k.0 k.2.0)),
  lines_more h.written k.0 h.lines k.3,
)
cut_after a b c text x middle y faults.Write h k = (
  h.written ++ k.0,
  Appends-trans a b c h.written k.0 h.grew k.1,
  (k.2.0, behind a b text x middle y h ∙ ap (λ l. h.written ++ l) k.2.1 ∙ sym (append_assoc h.written k.0 k.2.0)),
  λ none. k.3 (no_end h.written (middle ++ y) (sym (behind a b text x middle y h) ∙ none)),
)

pub cut_before : (a b : Option (List ℕ)) (text x y : List ℕ) (fault : TextFault) → CutsOff a b (text ++ x) fault
    → CutsOff a b (text ++ (x ++ y)) fault
cut_before a b text x y faults.Memory k = (
  k.0,
  k.1,
  (k.2.0 ++ y, sym (append_assoc text x y) ∙ ap (λ l. l ++ y) k.2.1 ∙ append_assoc k.0 k.2.0 y),
  k.3,
)
cut_before a b text x y faults.Write k = (
  k.0,
  k.1,
  (k.2.0 ++ y, sym (append_assoc text x y) ∙ ap (λ l. l ++ y) k.2.1 ∙ append_assoc k.0 k.2.0 y),
  λ none. k.3 (no_front (text ++ x) y (append_assoc text x y ∙ none)),
)

-- memory ran out after some was written
pub cut_there : (a b : Option (List ℕ)) (text added left : List ℕ) → Carries a b text added left → CutsOff a b (text ++ added) faults.Memory
cut_there a b text added left h = (h.written, h.grew, (left, sym h.all), h.lines)

-- ---- one after the other

-- the first one was cut off
pub flow_cut : {X : Type 0} (a b : Option (List ℕ)) (text x y : List ℕ) (fault : TextFault) (r : Result X TextFault) (left : List ℕ)
    → CutsOff a b (text ++ x) fault → IsErrAnd r (λ e. e ≡ fault) → Flows a b text (x ++ y) r left
flow_cut a b text x y fault (Ok u) left k is = absurd is
flow_cut a b text x y fault (Err e) left k is =
    subst (λ f. CutsOff a b (text ++ (x ++ y)) f) (sym is) (cut_before a b text x y fault k)

-- bytes of a flow, named otherwise
pub flow_same : {X : Type 0} (a b : Option (List ℕ)) (text x y : List ℕ) (r : Result X TextFault) (left : List ℕ) → x ≡ y
    → Flows a b text x r left → Flows a b text y r left
flow_same a b text x y r left same h = subst (λ l. Flows a b text l r left) same h

-- ---- line by line

-- a line was added, and what was long was written
pub carries_line : (a b c : Option (List ℕ)) (text x middle y longer left : List ℕ) → Carries a b text x middle → longer ≡ middle ++ y
    → Carries b c longer [] left → Carries a c text (x ++ y) left
carries_line a b c text x middle y longer left h is k =
    carries_more a b c text x middle y left h
    (record { written = k.written; grew = k.grew; lines = k.lines; all = k.all ∙ append-nil longer ∙ is })

-- what comes next was cut off
pub part_cut : {X : Type 0} (a b c : Option (List ℕ)) (text x middle y rest all : List ℕ) (fault : TextFault) (r : Result X TextFault)
    (left : List ℕ) → Carries a b text x middle → CutsOff b c (middle ++ y) fault → all ≡ (x ++ y) ++ rest
    → IsErrAnd r (λ e. e ≡ fault) → Flows a c text all r left
part_cut a b c text x middle y rest all fault r left h k whole ends =
    flow_same a c text ((x ++ y) ++ rest) all r left (sym whole)
    (flow_cut a c text (x ++ y) rest fault r left (cut_after a b c text x middle y fault h k) ends)

-- a line was added, and the writer failed
pub line_cut : {X : Type 0} (a b c : Option (List ℕ)) (text x middle y longer rest all : List ℕ) (fault : TextFault) (r : Result X TextFault)
    (left : List ℕ) → Carries a b text x middle → longer ≡ middle ++ y → CutsOff b c (longer ++ []) fault → all ≡ (x ++ y) ++ rest
    → IsErrAnd r (λ e. e ≡ fault) → Flows a c text all r left
line_cut a b c text x middle y longer rest all fault r left h is k whole ends =
    part_cut a b c text x middle y rest all fault r left h (subst (λ l. CutsOff b c l fault) (append-nil longer ∙ is) k) whole ends

-- memory ran out for a line
pub line_memory : {X : Type 0} (a b : Option (List ℕ)) (text x middle rest all : List ℕ) (r : Result X TextFault)
    (left : List ℕ) → Carries a b text x middle → all ≡ x ++ rest → IsErrAnd r (λ e. e ≡ faults.Memory) → Flows a b text all r left
line_memory a b text x middle rest all r left h whole ends =
    flow_same a b text (x ++ rest) all r left (sym whole)
    (flow_cut a b text x rest faults.Memory r left (cut_there a b text x middle h) ends)

-- the lines of the first ones, and of one more
pub lines_of_more : {X : Type 0} (f : X → List ℕ) (xs : List X) (i : ℕ) (d : X) → i < length xs
    → flat_map f (take (i + 1) xs) ≡ flat_map f (take i xs) ++ f (get_or xs i d)
lines_of_more f xs i d there =
    ap (flat_map f) (take_more xs i d there) ∙ flat_map-append f (take i xs) (get_or xs i d ∷ [])
    ∙ ap (λ l. flat_map f (take i xs) ++ l) (append-nil (f (get_or xs i d)))

-- the lines of the first ones and of the others are all lines
pub lines_of_all : {X : Type 0} (f : X → List ℕ) (xs : List X) (i : ℕ)
    → flat_map f xs ≡ flat_map f (take i xs) ++ flat_map f (drop i xs)
lines_of_all f xs i = ap (flat_map f) (sym (take-append-drop i xs)) ∙ flat_map-append f (take i xs) (drop i xs)

-- the texts of the first numbers, and of more
pub texts_past : (f : ℕ → List ℕ) (m d : ℕ) → (rest : List ℕ) × (concat_below (m + d) f ≡ concat_below m f ++ rest)
texts_past f m zero =
    let same : m + zero ≡ m = omega arith in
    ([], ap (λ n. concat_below n f) same ∙ sym (append-nil (concat_below m f)))
texts_past f m (suc d) =
    let more : m + suc d ≡ suc (m + d) = omega arith in
    let h = texts_past f m d in
    (h.0 ++ f (m + d), ap (λ n. concat_below n f) more ∙ ap (λ l. l ++ f (m + d)) h.1 ∙ append_assoc (concat_below m f) h.0 (f (m + d)))

pub texts_of_all : (f : ℕ → List ℕ) (m n : ℕ) → m ≤ n → (rest : List ℕ) × (concat_below n f ≡ concat_below m f ++ rest)
texts_of_all f m n le =
    let past = texts_past f m (n - m) in
    let whole : m + (n - m) ≡ n = omega arith in
    (past.0, ap (λ k. concat_below k f) (sym whole) ∙ past.1)

pub texts_of_more : (f : ℕ → List ℕ) (n : ℕ) → concat_below (n + 1) f ≡ concat_below n f ++ f n
texts_of_more f n = let more : n + 1 ≡ suc n = omega arith in ap (λ k. concat_below k f) more

-- ---- the output of a line

-- an output of which nothing was written
pub told_at_once : (a : Option (List ℕ)) (Tells : Outcome → Type 0) (text : List ℕ) (next : Session) → Tells (success text next)
    → Outputs a a Tells (Ok tt) text next
told_at_once a Tells text next h = ([], Appends-nil a, h)

-- a text that was empty
pub carried_told : (a b : Option (List ℕ)) (Tells : Outcome → Type 0) (text added left : List ℕ) (next : Session) → Carries a b text added left
    → text ≡ [] → Tells (success added next) → Outputs a b Tells (Ok tt) left next
carried_told a b Tells text added left next h none told =
    (h.written, h.grew, subst (λ t. Tells (success t next)) (sym (h.all ∙ ap (λ l. l ++ added) none)) told)

cut_stops : (a b : Option (List ℕ)) (Tells : Outcome → Type 0) (all : List ℕ) (last : Session) (fault : TextFault) → CutsOff a b all fault
    → Tells (success all last) → StopsIn a b Tells (cause_of fault)
cut_stops a b Tells all last faults.Memory k told = (k.0, k.1, inr (all, last, told, k.2), k.3)
cut_stops a b Tells all last faults.Write k told = (k.0, all, last, k.1, told, k.2, k.3)

-- an output that was cut off
pub told_part : (a b : Option (List ℕ)) (Tells : Outcome → Type 0) (text all : List ℕ) (last : Session) (fault : TextFault)
    (r : Result (Unit {0}) Cause) (left : List ℕ) (next : Session) → CutsOff a b (text ++ all) fault → text ≡ []
    → Tells (success all last) → IsErrAnd r (λ e. e ≡ cause_of fault) → Outputs a b Tells r left next
told_part a b Tells text all last fault (Ok u) left next k none told is = absurd is
told_part a b Tells text all last fault (Err e) left next k none told is =
    subst (λ c. StopsIn a b Tells c) (sym is)
    (cut_stops a b Tells all last fault (subst (λ l. CutsOff a b (l ++ all) fault) none k) told)

-- memory ran out before anything was written
pub told_nothing : (a : Option (List ℕ)) (Tells : Outcome → Type 0) (r : Result (Unit {0}) Cause) (left : List ℕ) (next : Session)
    → IsErrAnd r (λ e. e ≡ causes.Memory) → Outputs a a Tells r left next
told_nothing a Tells (Ok u) left next is = absurd is
told_nothing a Tells (Err e) left next is = subst (λ c. StopsIn a a Tells c) (sym is) ([], Appends-nil a, inl refl, inl refl)

-- memory ran out at once
pub memory_told : (a : Option (List ℕ)) (Tells : Outcome → Type 0) → StopsIn a a Tells causes.Memory
memory_told a Tells = ([], Appends-nil a, inl refl, inl refl)

ends_told : (a : Option (List ℕ)) (Tells : Outcome → Type 0) (cause : Cause) → EndsIn Tells cause → StopsIn a a Tells cause
ends_told a Tells causes.Memory h = memory_told a Tells
ends_told a Tells (causes.Refused why) h = (refl, h)
ends_told a Tells causes.LineTooLong h = absurd h
ends_told a Tells causes.Read h = absurd h
ends_told a Tells causes.Write h = absurd h
ends_told a Tells causes.TooManyReads h = absurd h
ends_told a Tells causes.Unended h = absurd h

-- what was gathered, and none of it was written
pub gathered_told : (a : Option (List ℕ)) (Tells : Outcome → Type 0) (r : Result (Unit {0}) Cause) (text : List ℕ) (next : Session)
    → Gathers Tells r text next → Outputs a a Tells r text next
gathered_told a Tells (Ok u) text next h = told_at_once a Tells text next h
gathered_told a Tells (Err cause) text next h = ends_told a Tells cause h

stops_so : (a b : Option (List ℕ)) (P Q : Outcome → Type 0) (cause : Cause) → ((o : Outcome) → P o → Q o) → StopsIn a b P cause
    → StopsIn a b Q cause
stops_so a b P Q causes.Memory f (part, grew, inl none, lines) = (part, grew, inl none, lines)
stops_so a b P Q causes.Memory f (part, grew, inr h, lines) = (part, grew, inr (h.0, h.1, f (success h.0 h.1) h.2, h.3), lines)
stops_so a b P Q (causes.Refused why) f h = (h.0, f (failure (causes.Refused why)) h.1)
stops_so a b P Q causes.LineTooLong f h = absurd h
stops_so a b P Q causes.Read f h = absurd h
stops_so a b P Q causes.Write f h = (h.0, h.1, h.2, h.3, f (success h.1 h.2) h.4, h.5, h.6)
stops_so a b P Q causes.TooManyReads f h = absurd h
stops_so a b P Q causes.Unended f h = absurd h

-- another outcome that the first one gives
pub outputs_so : (a b : Option (List ℕ)) (P Q : Outcome → Type 0) (r : Result (Unit {0}) Cause) (text : List ℕ) (next : Session)
    → ((o : Outcome) → P o → Q o) → Outputs a b P r text next → Outputs a b Q r text next
outputs_so a b P Q (Ok u) text next f h = (h.0, h.1, f (success (h.0 ++ text) next) h.2)
outputs_so a b P Q (Err cause) text next f h = stops_so a b P Q cause f h

pub outputs_is : (a b : Option (List ℕ)) (x y : Outcome) (r : Result (Unit {0}) Cause) (text : List ℕ) (next : Session) → x ≡ y
    → Outputs a b (λ o. o ≡ x) r text next → Outputs a b (λ o. o ≡ y) r text next
outputs_is a b x y r text next same h = outputs_so a b (λ o. o ≡ x) (λ o. o ≡ y) r text next (λ o e. e ∙ same) h
