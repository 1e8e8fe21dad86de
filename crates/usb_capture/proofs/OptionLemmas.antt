-- The options that are left tell the clock that all tell.
use Rattle.std.proofs.Common.{◌≡◌, ℕ, zero, suc, ◌+◌, ◌-◌, ◌<◌, ◌≤◌, List, length, take, drop, refl, sym, ap, ◌∙◌, subst, arith, nat_eq, nat_lt, Result, Ok, Err, false}
use Rattle.std.proofs.lemmas.Bool.{cond-true, cond-false, le-ltb, lt-ltb, eq-eqb, ne_eqb}
use Rattle.std.proofs.lemmas.List.{length-drop}
use Rattle.usb_capture.specs.declared.fault.Cause.{Cause}
use Rattle.usb_capture.specs.declared.fault.Cause.TheVariants.{BadOption}
use Rattle.usb_capture.specs.declared.field.ByteOrder.{ByteOrder}
use Rattle.usb_capture.specs.declared.format.Clock.{Clock}
use Rattle.usb_capture.specs.Fields.{field}
use Rattle.usb_capture.proofs.GatherLemmas.{slice_from}
use Rattle.usb_capture.specs.Options.{padded_length, clock_with, clock_after, and_then}

-- less than an option's head is left
pub told_short : (n : ℕ) (order : ByteOrder) (clock : Clock) (rest : List ℕ) → length rest < 4 → clock_after n order clock rest ≡ Ok clock
unfolding clock_after
told_short zero order clock rest short = refl
told_short (suc n) order clock rest short = cond-true (nat_lt (length rest) 4) _ _ (lt-ltb (length rest) 4 short)

-- an option ends them
pub told_end : (n : ℕ) (order : ByteOrder) (clock : Clock) (rest : List ℕ) → 4 ≤ length rest → field order 0 2 rest ≡ 0
    → clock_after (suc n) order clock rest ≡ Ok clock
unfolding clock_after
told_end n order clock rest long is =
    cond-false (nat_lt (length rest) 4) _ _ (le-ltb (length rest) 4 long) ∙ cond-true (nat_eq (field order 0 2 rest) 0) _ _ (eq-eqb (field order 0 2 rest) 0 is)

-- an option ends behind its block
pub told_long : (n : ℕ) (order : ByteOrder) (clock : Clock) (rest : List ℕ) → 4 ≤ length rest → nat_eq (field order 0 2 rest) 0 ≡ false
    → length rest < 4 + padded_length (field order 2 2 rest) → clock_after (suc n) order clock rest ≡ Err BadOption
unfolding clock_after
told_long n order clock rest long is short =
    cond-false (nat_lt (length rest) 4) _ _ (le-ltb (length rest) 4 long) ∙ cond-false (nat_eq (field order 0 2 rest) 0) _ _ is
    ∙ cond-true (nat_lt (length rest) (4 + padded_length (field order 2 2 rest))) _ _ (lt-ltb (length rest) (4 + padded_length (field order 2 2 rest)) short)

-- an option, and those behind it
pub told_next : (n : ℕ) (order : ByteOrder) (clock : Clock) (rest : List ℕ) → 4 ≤ length rest → nat_eq (field order 0 2 rest) 0 ≡ false
    → 4 + padded_length (field order 2 2 rest) ≤ length rest
    → clock_after (suc n) order clock rest
    ≡ and_then (clock_with order clock (field order 0 2 rest) (take (field order 2 2 rest) (drop 4 rest)))
    (λ next. clock_after n order next (drop (4 + padded_length (field order 2 2 rest)) rest))
unfolding clock_after
told_next n order clock rest long is whole =
    cond-false (nat_lt (length rest) 4) _ _ (le-ltb (length rest) 4 long) ∙ cond-false (nat_eq (field order 0 2 rest) 0) _ _ is
    ∙ cond-false (nat_lt (length rest) (4 + padded_length (field order 2 2 rest))) _ _ (le-ltb (length rest) (4 + padded_length (field order 2 2 rest)) whole)

-- ---- the same, where so many options may come at most as bytes are left

pub ended : (n : ℕ) (order : ByteOrder) (clock : Clock) (rest : List ℕ) → 4 ≤ length rest → length rest ≤ n → field order 0 2 rest ≡ 0
    → clock_after n order clock rest ≡ Ok clock
ended zero order clock rest long most is = absurd (omega arith)
ended (suc n) order clock rest long most is = told_end n order clock rest long is

pub too_long : (n : ℕ) (order : ByteOrder) (clock : Clock) (rest : List ℕ) → 4 ≤ length rest → length rest ≤ n
    → nat_eq (field order 0 2 rest) 0 ≡ false → length rest < 4 + padded_length (field order 2 2 rest)
    → clock_after n order clock rest ≡ Err BadOption
too_long zero order clock rest long most is short = absurd (omega arith)
too_long (suc n) order clock rest long most is short = told_long n order clock rest long is short

pub refused : (n : ℕ) (order : ByteOrder) (clock : Clock) (rest : List ℕ) (cause : Cause) → 4 ≤ length rest → length rest ≤ n
    → nat_eq (field order 0 2 rest) 0 ≡ false → 4 + padded_length (field order 2 2 rest) ≤ length rest
    → clock_with order clock (field order 0 2 rest) (take (field order 2 2 rest) (drop 4 rest)) ≡ Err cause
    → clock_after n order clock rest ≡ Err cause
refused zero order clock rest cause long most is whole e = absurd (omega arith)
refused (suc n) order clock rest cause long most is whole e =
    told_next n order clock rest long is whole
    ∙ ap (λ (r : Result Clock Cause). and_then r (λ next. clock_after n order next (drop (4 + padded_length (field order 2 2 rest)) rest))) e

-- what is left after an option tells the same
abbrev pub Tells : ByteOrder → Clock → List ℕ → Result Clock Cause → Type 0
Tells order clock rest told = (n : ℕ) × (length rest ≤ n) × (clock_after n order clock rest ≡ told)

pub passed : (n : ℕ) (order : ByteOrder) (clock next : Clock) (rest : List ℕ) (told : Result Clock Cause) → 4 ≤ length rest → length rest ≤ n
    → nat_eq (field order 0 2 rest) 0 ≡ false → 4 + padded_length (field order 2 2 rest) ≤ length rest
    → clock_with order clock (field order 0 2 rest) (take (field order 2 2 rest) (drop 4 rest)) ≡ Ok next
    → clock_after n order clock rest ≡ told → Tells order next (drop (4 + padded_length (field order 2 2 rest)) rest) told
passed zero order clock next rest told long most is whole e same = absurd (omega arith)
passed (suc n) order clock next rest told long most is whole e same = (
  n,
  omega (arith, length-drop (4 + padded_length (field order 2 2 rest)) rest),
  sym (told_next n order clock rest long is whole
      ∙ ap (λ (r : Result Clock Cause). and_then r (λ next'. clock_after n order next' (drop (4 + padded_length (field order 2 2 rest)) rest))) e)
      ∙ same,
)

-- ---- the same, by the values of the program

-- a number of the program isn't 0
not_end : (code field : ℕ) → code ≡ field → (code ≡ 0 → ⊥) → nat_eq field 0 ≡ false
not_end code field is some = ne_eqb field 0 (λ e. some (is ∙ e))

pub cut_off : (n : ℕ) (order : ByteOrder) (clock : Clock) (rest : List ℕ) (code len pad : ℕ) → 4 ≤ length rest → length rest ≤ n
    → code ≡ field order 0 2 rest → len ≡ field order 2 2 rest → pad ≡ padded_length len → (code ≡ 0 → ⊥) → length rest < 4 + pad
    → clock_after n order clock rest ≡ Err BadOption
cut_off n order clock rest code len pad long most is size fill some short =
    too_long n order clock rest long most (not_end code (field order 0 2 rest) is some) (omega (arith, short, fill, ap padded_length size))

-- the value of an option
value_of : (rest : List ℕ) (len field : ℕ) → len ≡ field → take ((4 + len) - 4) (drop 4 rest) ≡ take field (drop 4 rest)
value_of rest len field is = ap (λ (k : ℕ). take k (drop 4 rest)) (omega (arith, is))

with_value : (order : ByteOrder) (clock : Clock) (rest : List ℕ) (code len : ℕ) → code ≡ field order 0 2 rest → len ≡ field order 2 2 rest
    → clock_with order clock code (take ((4 + len) - 4) (drop 4 rest))
    ≡ clock_with order clock (field order 0 2 rest) (take (field order 2 2 rest) (drop 4 rest))
with_value order clock rest code len is size =
    ap (λ (k : ℕ). clock_with order clock k (take ((4 + len) - 4) (drop 4 rest))) is
    ∙ ap (clock_with order clock (field order 0 2 rest)) (value_of rest len (field order 2 2 rest) size)

pub refused_option : (n : ℕ) (order : ByteOrder) (clock : Clock) (rest : List ℕ) (code len pad : ℕ) (cause : Cause) → 4 ≤ length rest
    → length rest ≤ n → code ≡ field order 0 2 rest → len ≡ field order 2 2 rest → pad ≡ padded_length len → (code ≡ 0 → ⊥)
    → 4 + pad ≤ length rest → clock_with order clock code (take ((4 + len) - 4) (drop 4 rest)) ≡ Err cause
    → clock_after n order clock rest ≡ Err cause
refused_option n order clock rest code len pad cause long most is size fill some whole e =
    refused n order clock rest cause long most (not_end code (field order 0 2 rest) is some)
    (omega (arith, whole, fill, ap padded_length size)) (sym (with_value order clock rest code len is size) ∙ e)

pub passed_option : (n : ℕ) (order : ByteOrder) (clock next : Clock) (rest : List ℕ) (code len pad : ℕ) (told : Result Clock Cause)
    → 4 ≤ length rest → length rest ≤ n → code ≡ field order 0 2 rest → len ≡ field order 2 2 rest → pad ≡ padded_length len
    → (code ≡ 0 → ⊥) → 4 + pad ≤ length rest → clock_with order clock code (take ((4 + len) - 4) (drop 4 rest)) ≡ Ok next
    → clock_after n order clock rest ≡ told → Tells order next (take (length rest - (4 + pad)) (drop (4 + pad) rest)) told
passed_option n order clock next rest code len pad told long most is size fill some whole e same =
    let pads : pad ≡ padded_length (field order 2 2 rest) = fill ∙ ap padded_length size in
    let rests : drop (4 + padded_length (field order 2 2 rest)) rest ≡ take (length rest - (4 + pad)) (drop (4 + pad) rest) =
    ap (λ (k : ℕ). drop (4 + k) rest) (sym pads) ∙ sym (slice_from (4 + pad) rest) in
    subst (λ (l : List ℕ). Tells order next l told) rests
    (passed n order clock next rest told long most (not_end code (field order 0 2 rest) is some)
    (omega (arith, whole, pads)) (sym (with_value order clock rest code len is size) ∙ e) same)
