-- A part that is reported some times over.
use Rattle.std.proofs.Common.{◌≡◌, ℕ, zero, suc, ◌<◌, List, [], ◌++◌, refl, sym, ap, ◌∙◌, subst, inl, inr, arith, append-nil, append_assoc, Option, Result, Ok, Err, IsErrAnd}
use Rattle.hid_script.specs.declared.fault.Cause.{Cause}
use Rattle.hid_script.specs.Session.{Session, Outcome, success, Repeats}
use Rattle.hid_script.specs.LineOutput.{Begins}
use Rattle.hid_script.specs.Runs.{Ending, RefusedLine, OutOfMemory, PartlyWritten, NotRun, ending_of, EndsAs, Ends}
use Rattle.hid_script.specs.Place.{AppendsOnce, AppendsOutput, IsBegun, OnceEndsAs, WritesOnce, Writes}

-- a part that is carried out no times
pub no_times : (Once : Session → Outcome → Type 0) (session : Session) → Repeats 0 Once session (success [] session)
unfolding Repeats
no_times Once session = refl

accepted_same : (a b : Session) → (let r : Result Session Cause = Ok a in r) ≡ Ok b → a ≡ b
accepted_same a b e = cc

-- a part that is carried out one time more
pub one_more : (n : ℕ) (Once : Session → Outcome → Type 0) (session now next : Session) (x y : List ℕ)
    → Repeats n Once session (success x now) → Once now (success y next)
    → Repeats (suc n) Once session (success (x ++ y) next)
unfolding Repeats
one_more zero Once session now next x y h k =
    let none : x ≡ [] = ap (λ (o : Outcome). o.text) h in
    let same : now ≡ session = accepted_same now session (ap (λ (o : Outcome). o.end) h) in
    rw none (inl (
      y,
      next,
      success [] next,
      subst (λ s. Once s (success y next)) same k,
      refl,
      ap (λ t. success t next) (sym (append-nil y)),
    ))
one_more (suc n) Once session now next x y (inr h) k = let ends : (let r : Result Session Cause = Ok now in r) ≡ Err h.1 = ap (λ (o : Outcome). o.end) h.3 in absurd (cc)
one_more (suc n) Once session now next x y (inl h) k =
    let text : x ≡ h.0 ++ h.2.text = ap (λ (o : Outcome). o.text) h.5 in
    let end : (let r : Result Session Cause = Ok now in r) ≡ h.2.end = ap (λ (o : Outcome). o.end) h.5 in
    let rest : Repeats n Once h.1 (success h.2.text now) =
    subst (λ e. Repeats n Once h.1 (record { text = h.2.text; end = e })) (sym end) h.4 in
    inl (
      h.0,
      h.1,
      success (h.2.text ++ y) next,
      h.3,
      one_more n Once h.1 now next h.2.text y rest k,
      ap (λ t. success t next) (ap (λ l. l ++ y) text ∙ append_assoc h.0 h.2.text y),
    )

-- a part that is refused after n times
pub refused_then : (n count : ℕ) (Once : Session → Outcome → Type 0) (session now : Session) (x y : List ℕ)
    (cause : Cause) → n < count → Repeats n Once session (success x now)
    → Once now (record { text = y; end = Err cause })
    → Repeats count Once session (record { text = x ++ y; end = Err cause })
unfolding Repeats
refused_then n zero Once session now x y cause below h k = absurd (omega arith)
refused_then zero (suc count) Once session now x y cause below h k =
    let none : x ≡ [] = ap (λ (o : Outcome). o.text) h in
    let same : now ≡ session = accepted_same now session (ap (λ (o : Outcome). o.end) h) in
    rw none (inr (y, cause, subst (λ s. Once s (record { text = y; end = Err cause })) same k, refl))
refused_then (suc n) (suc count) Once session now x y cause below (inr h) k = let ends : (let r : Result Session Cause = Ok now in r) ≡ Err h.1 = ap (λ (o : Outcome). o.end) h.3 in absurd (cc)
refused_then (suc n) (suc count) Once session now x y cause below (inl h) k =
    let text : x ≡ h.0 ++ h.2.text = ap (λ (o : Outcome). o.text) h.5 in
    let end : (let r : Result Session Cause = Ok now in r) ≡ h.2.end = ap (λ (o : Outcome). o.end) h.5 in
    let rest : Repeats n Once h.1 (success h.2.text now) =
    subst (λ e. Repeats n Once h.1 (record { text = h.2.text; end = e })) (sym end) h.4 in
    inl (h.0, h.1, record { text = h.2.text ++ y; end = Err cause }, h.3, refused_then n count Once h.1 now h.2.text y cause (omega arith) rest k, ap (λ t. record { text = t; end = Err cause }) (ap (λ l. l ++ y) text ∙ append_assoc h.0 h.2.text y))

-- what the end of the next time leaves
begun_behind : (n count : ℕ) (Once : Session → Outcome → Type 0) (session now : Session) (x y : List ℕ) → n < count
    → Repeats n Once session (success x now) → IsBegun (Once now) y → Begins count Once session (x ++ y)
begun_behind n count Once session now x y below h (inl none) =
    rw none (n, now, omega arith, subst (λ t. Repeats n Once session (success t now)) (sym (append-nil x)) h)
begun_behind n count Once session now x y below h (inr told) = (suc n, told.0, omega arith, one_more n Once session now told.0 x y h told.1)

ends_behind : (ending : Ending) (n count : ℕ) (Once : Session → Outcome → Type 0) (session now : Session)
    (x y : List ℕ) (cause : Cause) → n < count → Repeats n Once session (success x now)
    → OnceEndsAs ending (Once now) y cause
    → EndsAs ending (Repeats count Once session) (Begins count Once session) (x ++ y) cause
ends_behind RefusedLine n count Once session now x y cause below h k =
    refused_then n count Once session now x y cause below h k
ends_behind OutOfMemory n count Once session now x y cause below h k =
    begun_behind n count Once session now x y below h k
ends_behind PartlyWritten n count Once session now x y cause below h k =
    (x ++ k.0, begun_behind n count Once session now x k.0 below h k.1, (k.2.0, ap (λ l. x ++ l) k.2.1 ∙ sym (append_assoc x y k.2.0)))
ends_behind NotRun n count Once session now x y cause below h k = absurd k

-- the last time was refused, or broke off
pub last_time : (n count : ℕ) (Once : Session → Outcome → Type 0) (session now next other : Session) (x y : List ℕ)
    (cause : Cause) (r : Result (Unit {0}) Cause) → n < count → Repeats n Once session (success x now)
    → WritesOnce (Once now) y (Err cause) next → IsErrAnd r (λ e. e ≡ cause) → Writes (Repeats count Once session) (Begins count Once session) (x ++ y) r other
last_time n count Once session now next other x y cause (Ok u) below h k is = absurd is
last_time n count Once session now next other x y cause (Err e) below h k is =
    subst (λ c. Ends (Repeats count Once session) (Begins count Once session) (x ++ y) c) (sym is) (ends_behind (ending_of cause) n count Once session now x y cause below h k)

-- a part that is carried out as many times as were asked for
pub all_times : (n count : ℕ) (Once : Session → Outcome → Type 0) (session now : Session) (x : List ℕ) → n ≡ count
    → Repeats n Once session (success x now) → Repeats count Once session (success x now)
all_times n count Once session now x same h = subst (λ m. Repeats m Once session (success x now)) same h

-- a part that is reported once alone
once_alone : (Once : Session → Outcome → Type 0) (session next : Session) (y : List ℕ) (r : Result (Unit {0}) Cause) → WritesOnce (Once session) y r next → Writes (Repeats 1 Once session) (Begins 1 Once session) y r next
once_alone Once session next y (Ok u) told = one_more 0 Once session session next [] y (no_times Once session) told
once_alone Once session next y (Err cause) told = last_time 0 1 Once session session next next [] y cause (Err cause) (omega arith) (no_times Once session) told refl

pub told_once : (old new : Option (List ℕ)) (Once : Session → Outcome → Type 0) (session next : Session) (r : Result (Unit {0}) Cause) → AppendsOnce old new (Once session) r next
    → AppendsOutput old new (Repeats 1 Once session) (Begins 1 Once session) r next
told_once old new Once session next r told = (told.0, told.1, once_alone Once session next told.0 r told.2)
