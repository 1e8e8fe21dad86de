-- What parts give that come one after the other.
use Rattle.std.proofs.Common.{◌≡◌, ◌⊎◌, ℕ, List, [], ◌∷◌, ◌++◌, Result, Ok, Err, OnOk, IfErr, refl, subst, sym, inl, inr}
use Rattle.lab_lines.specs.Keys.{key_of}
use Rattle.lab_lines.specs.LabLines.{Said}
use Rattle.usbip_script.specs.declared.fault.LineCause.{LineCause}
use Rattle.usbip_script.specs.declared.fault.ServeFault.{ServeFault}
use Rattle.usbip_script.specs.declared.fault.ServeFault.TheVariants.{Memory, Line}
use Rattle.lab_serving.specs.Parts.{character_lines, typed_lines}
use Rattle.lab_serving.specs.declared.expecting.Expecting.{Expecting}
use Rattle.lab_serving.specs.declared.expecting.ExpectedKind.{ExpectedKind}
use Rattle.lab_serving.specs.Reading.{AllGive, ExpectsMore, IsExpecting, IsRefused, LabRead, PartGives}

-- all of some parts give something, and then all of others
pub all_then : (r middle after : LabRead) (number : ℕ) (parts more : List Said) → AllGive r number parts middle
    → AllGive middle number more after → AllGive r number (parts ++ more) after
all_then r middle after number [] more first then = let P : LabRead → Type 0 = λ x. AllGive x number more after in subst P first then
all_then r middle after number (part ∷ parts) more first then =
    (first.0, first.1, all_then first.0 middle after number parts more first.2 then)

-- all of some parts give something, and then one is refused
pub refused_then : (r middle : LabRead) (number : ℕ) (parts more : List Said) (cause : LineCause) → AllGive r number parts middle
    → IsRefused middle number more cause → IsRefused r number (parts ++ more) cause
refused_then r middle number [] more cause first then = let P : LabRead → Type 0 = λ x. IsRefused x number more cause in subst P first then
refused_then r middle number (part ∷ parts) more cause first then =
    inr (first.0, first.1, refused_then first.0 middle number parts more cause first.2 then)

-- one of some parts is refused, whatever comes after them
pub refused_first : (r : LabRead) (number : ℕ) (parts more : List Said) (cause : LineCause) → IsRefused r number parts cause
    → IsRefused r number (parts ++ more) cause
refused_first r number [] more cause first = absurd first
refused_first r number (part ∷ parts) more cause (inl now) = inl now
refused_first r number (part ∷ parts) more cause (inr later) =
    inr (later.0, later.1, refused_first later.0 number parts more cause later.2)

-- a character is typed, and then the text after it
pub typed_then : (r middle after : LabRead) (number dev character : ℕ) (text more : List ℕ) → text ≡ character ∷ more
    → AllGive r number (character_lines dev (key_of character)) middle → AllGive middle number (typed_lines dev more) after
    → AllGive r number (typed_lines dev text) after
typed_then r middle after number dev character text more is first then =
    let P : List ℕ → Type 0 = λ t. AllGive r number (typed_lines dev t) after in
    subst P (sym is) (all_then r middle after number (character_lines dev (key_of character)) (typed_lines dev more) first then)

-- a character is typed, and then the text after it is refused
pub typed_refused : (r middle : LabRead) (number dev character : ℕ) (text more : List ℕ) (cause : LineCause)
    → text ≡ character ∷ more → AllGive r number (character_lines dev (key_of character)) middle
    → IsRefused middle number (typed_lines dev more) cause → IsRefused r number (typed_lines dev text) cause
typed_refused r middle number dev character text more cause is first then =
    let P : List ℕ → Type 0 = λ t. IsRefused r number (typed_lines dev t) cause in
    subst P (sym is) (refused_then r middle number (character_lines dev (key_of character)) (typed_lines dev more) cause first then)

-- a character is refused, whatever comes after it
pub typed_not : (r : LabRead) (number dev character : ℕ) (text more : List ℕ) (cause : LineCause) → text ≡ character ∷ more
    → IsRefused r number (character_lines dev (key_of character)) cause → IsRefused r number (typed_lines dev text) cause
typed_not r number dev character text more cause is first =
    let P : List ℕ → Type 0 = λ t. IsRefused r number (typed_lines dev t) cause in
    subst P (sym is) (refused_first r number (character_lines dev (key_of character)) (typed_lines dev more) cause first)

-- nothing is left to type
pub typed_all : (r : LabRead) (number dev : ℕ) (text : List ℕ) → text ≡ [] → AllGive r number (typed_lines dev text) r
typed_all r number dev text is =
    let P : List ℕ → Type 0 = λ t. AllGive r number (typed_lines dev t) r in subst P (sym is) refl

-- one part gives what it gives
pub part_ok : (r after : LabRead) (number : ℕ) (part : Said) (result : Result (Unit {0}) ServeFault)
    → OnOk result (PartGives r number part (Ok after)) → OnOk result (AllGive r number (part ∷ []) after)
part_ok r after number part (Ok _) given = (after, given, refl)
part_ok r after number part (Err _) given = tt

-- one part is refused
pub part_err : (r : LabRead) (number : ℕ) (part : Said) (result : Result (Unit {0}) ServeFault)
    → IfErr result (λ fault. (fault ≡ Memory) ⊎ ((cause : LineCause) × (fault ≡ Line number cause) × PartGives r number part (Err cause)))
    → IfErr result (λ fault. (fault ≡ Memory) ⊎ ((cause : LineCause) × (fault ≡ Line number cause) × IsRefused r number (part ∷ []) cause))
part_err r number part (Ok _) given = tt
part_err r number part (Err fault) (inl memory) = inl memory
part_err r number part (Err fault) (inr found) = inr (found.0, found.1, inl found.2)

-- an expectation that is kept is one more
pub kept : (r after : LabRead) (number : ℕ) (words : List (List ℕ)) (kind : ExpectedKind) (x : Expecting) (result : Result (Unit {0}) ServeFault)
    → IsExpecting r number words kind x → OnOk result (after ≡ record r { expected = r.expected ++ x ∷ [] })
    → OnOk result (ExpectsMore r number words kind (Ok after))
kept r after number words kind x (Ok _) is given = (x, is, given)
kept r after number words kind x (Err _) is given = tt
