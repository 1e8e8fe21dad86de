-- Where a block ends is told by its first bytes, whatever comes behind it.
use Rattle.std.proofs.Common.{◌≡◌, ℕ, ◌+◌, ◌%◌, ◌<◌, ◌≤◌, Bool, true, false, List, [], ◌++◌, length, length-append, take, refl, sym, ap, ◌∙◌, arith, nat_eq, nat_lt, if◌then◌else◌, Option, Some, None, Result, Ok, Err}
use Rattle.std.proofs.lemmas.Bool.{cond_both, cond-true, cond-false, ltb-false, ltb-true, le-ltb, lt-ltb}
use Rattle.std.proofs.lemmas.List.{take-append-le, take-take, length-take-le}
use Rattle.usb_capture.specs.declared.fault.Cause.{Cause}
use Rattle.usb_capture.specs.declared.fault.Cause.TheVariants.{NotCapture}
use Rattle.usb_capture.specs.declared.field.ByteOrder.{ByteOrder}
use Rattle.usb_capture.specs.declared.field.ByteOrder.TheVariants.{Little}
use Rattle.usb_capture.specs.declared.format.Format.{Format}
use Rattle.usb_capture.specs.declared.format.Format.TheVariants.{Unknown, Pcap, Section}
use Rattle.usb_capture.specs.declared.format.Fraction.{Fraction}
use Rattle.usb_capture.specs.Extent.{head_length, extent, first_extent, record_extent, section_extent, ordered_extent, section_order, section_type, block_extent, length_extent, pcap_kind}
use Rattle.usb_capture.specs.Fields.{field}
use Rattle.usb_capture.specs.Gathering.{block_length, whole_within}

-- ---- a block is no shorter than its head

length_least : (x n : ℕ) → length_extent x ≡ Ok n → 12 ≤ n
unfolding length_extent
length_least x n = cond_both (nat_lt x 12) _ _ (λ (r : Result ℕ Cause). r ≡ Ok n → 12 ≤ n) (λ _ e. absurd cc)
    (λ low. cond_both (nat_eq (x % 4) 0) _ _ (λ (r : Result ℕ Cause). r ≡ Ok n → 12 ≤ n)
    (λ _. cond_both (nat_lt 16777216 x) _ _ (λ (r : Result ℕ Cause). r ≡ Ok n → 12 ≤ n) (λ _ e. absurd cc)
    (λ _ e. let same : x ≡ n = cc in omega (arith, ltb-false x 12 low, same))) (λ _ e. absurd cc))

ordered_least : (order : Option ByteOrder) (head : List ℕ) (n : ℕ) → ordered_extent order head ≡ Ok n → 12 ≤ n
ordered_least None head n e = absurd cc
ordered_least (Some order) head n e = length_least (field order 4 4 head) n e

block_least : (order : ByteOrder) (head : List ℕ) (n : ℕ) → block_extent order head ≡ Ok n → 12 ≤ n
block_least order head n = cond_both (nat_eq (field order 0 4 head) section_type) _ _ (λ (r : Result ℕ Cause). r ≡ Ok n → 12 ≤ n)
    (λ _ e. ordered_least (section_order head) head n e) (λ _ e. length_least (field order 4 4 head) n e)

first_least : (kind : Option (ByteOrder × Fraction)) (head : List ℕ) (n : ℕ) → first_extent kind head ≡ Ok n → 12 ≤ n
first_least (Some kind) head n e = let same : 24 ≡ n = cc in omega (arith, same)
first_least None head n e =
    cond_both (nat_eq (field Little 0 4 head) section_type) (section_extent head) (Err NotCapture) (λ (r : Result ℕ Cause). r ≡ Ok n → 12 ≤ n)
    (λ _ t. ordered_least (section_order head) head n t) (λ _ t. absurd cc) e

record_least : (captured n : ℕ) → record_extent captured ≡ Ok n → 16 ≤ n
record_least captured n = cond_both (nat_lt 16777216 captured) _ _ (λ (r : Result ℕ Cause). r ≡ Ok n → 16 ≤ n) (λ _ e. absurd cc)
    (λ _ e. let same : 16 + captured ≡ n = cc in omega (arith, same))

pub extent_least : (format : Format) (head : List ℕ) (n : ℕ) → extent format head ≡ Ok n → head_length format ≤ n
unfolding extent
extent_least Unknown head n e = first_least (pcap_kind (field Little 0 4 head)) head n e
extent_least (Pcap order fraction link) head n e = record_least (field order 8 4 head) n e
extent_least (Section order) head n e = block_least order head n e

-- ---- the length of the block that bytes begin with

-- nothing has come
pub nothing_begun : (format : Format) → block_length format [] ≡ Ok None
unfolding block_length
nothing_begun Unknown = refl
nothing_begun (Pcap order fraction link) = refl
nothing_begun (Section order) = refl

-- what is made of a length, by whether so many bytes have come
abbrev made_of : Bool → ℕ → Result (Option ℕ) Cause
made_of b m = Ok (if b then None else Some m)

made_some : (b : Bool) (come m n : ℕ) → nat_lt come m ≡ b → made_of b m ≡ Ok (Some n) → (m ≡ n) × (n ≤ come)
made_some true come m n test e = absurd cc
made_some false come m n test e =
    let same : m ≡ n = cc in (same, omega (arith, ltb-false come m test, same))

-- a length, as it is told
abbrev told_as : ℕ → Result ℕ Cause
told_as n = Ok n

within_some : (come : ℕ) (r : Result ℕ Cause) (n : ℕ) → whole_within come r ≡ Ok (Some n) → (r ≡ Ok n) × (n ≤ come)
within_some come (Err cause) n e = absurd cc
within_some come (Ok m) n e = let parts = made_some (nat_lt come m) come m n refl e in (ap told_as parts.0, parts.1)

-- an extent that is told, where fewer bytes have come
made_none : (b : Bool) (come m : ℕ) → nat_lt come m ≡ b → made_of b m ≡ Ok None → come < m
made_none true come m test e = ltb-true come m test
made_none false come m test e = absurd cc

within_none : (come : ℕ) (r : Result ℕ Cause) (n : ℕ) → whole_within come r ≡ Ok None → r ≡ Ok n → come < n
within_none come (Err cause) n e is = absurd cc
within_none come (Ok m) n e is = let same : m ≡ n = cc in omega (arith, made_none (nat_lt come m) come m refl e, same)

-- a refusal, as it is told
abbrev refused_as : Cause → Result ℕ Cause
refused_as cause = Err cause

within_fault : (come : ℕ) (r : Result ℕ Cause) (cause : Cause) → whole_within come r ≡ Err cause → r ≡ Err cause
within_fault come (Err other) cause e = let same : other ≡ cause = cc in ap refused_as same
within_fault come (Ok m) cause e = absurd cc

-- the bytes that tell the length
abbrev pub head_of : Format → List ℕ → List ℕ
head_of format bytes = take (head_length format) bytes

-- by whether the head has come
abbrev length_by : Bool → ℕ → Result ℕ Cause → Result (Option ℕ) Cause
length_by b come r = if b then Ok None else whole_within come r

told_by : (b : Bool) (come head : ℕ) (r : Result ℕ Cause) (n : ℕ) → nat_lt come head ≡ b → length_by b come r ≡ Ok (Some n)
    → (head ≤ come) × (r ≡ Ok n) × (n ≤ come)
told_by true come head r n test e = absurd cc
told_by false come head r n test e = let parts = within_some come r n e in (ltb-false come head test, parts.0, parts.1)

refused_by : (b : Bool) (come head : ℕ) (r : Result ℕ Cause) (cause : Cause) → nat_lt come head ≡ b → length_by b come r ≡ Err cause
    → (head ≤ come) × (r ≡ Err cause)
refused_by true come head r cause test e = absurd cc
refused_by false come head r cause test e = (ltb-false come head test, within_fault come r cause e)

-- where a whole block has come, its head tells its length
pub whole_told : (format : Format) (bytes : List ℕ) (n : ℕ) → block_length format bytes ≡ Ok (Some n)
    → (head_length format ≤ length bytes) × (extent format (head_of format bytes) ≡ Ok n) × (n ≤ length bytes)
unfolding block_length
whole_told format bytes n e = told_by (nat_lt (length bytes) (head_length format)) (length bytes) (head_length format) (extent format (head_of format bytes)) n refl e

refused_told : (format : Format) (bytes : List ℕ) (cause : Cause) → block_length format bytes ≡ Err cause
    → (head_length format ≤ length bytes) × (extent format (head_of format bytes) ≡ Err cause)
unfolding block_length
refused_told format bytes cause e = refused_by (nat_lt (length bytes) (head_length format)) (length bytes) (head_length format) (extent format (head_of format bytes)) cause refl e

-- a head that has come, and its length, tell the rest
length_whole : (come head n : ℕ) (r : Result ℕ Cause) → head ≤ come → r ≡ Ok n → n ≤ come
    → length_by (nat_lt come head) come r ≡ Ok (Some n)
length_whole come head n r long is whole =
    cond-false (nat_lt come head) (Ok None) (whole_within come r) (le-ltb come head long) ∙ ap (whole_within come) is
    ∙ ap (λ b. made_of b n) (le-ltb come n whole)

length_partial : (come head n : ℕ) (r : Result ℕ Cause) → head ≤ come → r ≡ Ok n → come < n → length_by (nat_lt come head) come r ≡ Ok None
length_partial come head n r long is short =
    cond-false (nat_lt come head) (Ok None) (whole_within come r) (le-ltb come head long) ∙ ap (whole_within come) is
    ∙ ap (λ b. made_of b n) (lt-ltb come n short)

length_refused : (come head : ℕ) (r : Result ℕ Cause) (cause : Cause) → head ≤ come → r ≡ Err cause
    → length_by (nat_lt come head) come r ≡ Err cause
length_refused come head r cause long is =
    cond-false (nat_lt come head) (Ok None) (whole_within come r) (le-ltb come head long) ∙ ap (whole_within come) is

-- the bytes of the head have come, and say so
pub whole_here : (format : Format) (bytes : List ℕ) (n : ℕ) → head_length format ≤ length bytes
    → extent format (head_of format bytes) ≡ Ok n → n ≤ length bytes → block_length format bytes ≡ Ok (Some n)
unfolding block_length
whole_here format bytes n long is whole = length_whole (length bytes) (head_length format) n (extent format (head_of format bytes)) long is whole

pub partial_here : (format : Format) (bytes : List ℕ) (n : ℕ) → head_length format ≤ length bytes
    → extent format (head_of format bytes) ≡ Ok n → length bytes < n → block_length format bytes ≡ Ok None
unfolding block_length
partial_here format bytes n long is short = length_partial (length bytes) (head_length format) n (extent format (head_of format bytes)) long is short

pub refused_here : (format : Format) (bytes : List ℕ) (cause : Cause) → head_length format ≤ length bytes
    → extent format (head_of format bytes) ≡ Err cause → block_length format bytes ≡ Err cause
unfolding block_length
refused_here format bytes cause long is = length_refused (length bytes) (head_length format) (extent format (head_of format bytes)) cause long is

-- the head hasn't come
pub short_head : (format : Format) (bytes : List ℕ) → length bytes < head_length format → block_length format bytes ≡ Ok None
unfolding block_length
short_head format bytes short =
    cond-true (nat_lt (length bytes) (head_length format)) (Ok None) _ (lt-ltb (length bytes) (head_length format) short)

-- what comes behind the head doesn't change it
pub head_kept : (format : Format) (xs ys : List ℕ) → head_length format ≤ length xs → head_of format (xs ++ ys) ≡ head_of format xs
head_kept format xs ys long = take-append-le (head_length format) xs ys long

-- more bytes don't change a length that is told
pub whole_longer : (format : Format) (xs ys : List ℕ) (n : ℕ) → block_length format xs ≡ Ok (Some n)
    → block_length format (xs ++ ys) ≡ Ok (Some n)
whole_longer format xs ys n e =
    let told = whole_told format xs n e in
    let long : length xs ≤ length (xs ++ ys) = omega (arith, length-append xs ys) in
    whole_here format (xs ++ ys) n (omega (arith, told.0, long)) (ap (extent format) (head_kept format xs ys told.0) ∙ told.1)
    (omega (arith, told.2, long))

pub refused_longer : (format : Format) (xs ys : List ℕ) (cause : Cause) → block_length format xs ≡ Err cause
    → block_length format (xs ++ ys) ≡ Err cause
refused_longer format xs ys cause e =
    let told = refused_told format xs cause e in
    refused_here format (xs ++ ys) cause (omega (arith, told.0, length-append xs ys))
    (ap (extent format) (head_kept format xs ys told.0) ∙ told.1)

-- a block that more bytes complete is longer than those that came before
partial_by : (b : Bool) (come head : ℕ) (r : Result ℕ Cause) (n : ℕ) → nat_lt come head ≡ b → length_by b come r ≡ Ok None
    → (head ≤ come → r ≡ Ok n) → head ≤ n → come < n
partial_by true come head r n test e is least = omega (arith, ltb-true come head test, least)
partial_by false come head r n test e is least = within_none come r n e (is (ltb-false come head test))

pub partial_length : (format : Format) (bytes : List ℕ) (n : ℕ) → block_length format bytes ≡ Ok None
    → (head_length format ≤ length bytes → extent format (head_of format bytes) ≡ Ok n) → head_length format ≤ n → length bytes < n
unfolding block_length
partial_length format bytes n e is least =
    partial_by (nat_lt (length bytes) (head_length format)) (length bytes) (head_length format) (extent format (head_of format bytes)) n refl e is least

pub completed_longer : (format : Format) (begun bytes : List ℕ) (n : ℕ) → block_length format begun ≡ Ok None
    → block_length format (begun ++ bytes) ≡ Ok (Some n) → length begun < n
completed_longer format begun bytes n part e =
    let told = whole_told format (begun ++ bytes) n e in
    partial_length format begun n part (λ long. ap (extent format) (sym (head_kept format begun bytes long)) ∙ told.1)
    (extent_least format (head_of format (begun ++ bytes)) n told.1)

-- the block alone is whole
pub block_alone : (format : Format) (bytes : List ℕ) (n : ℕ) → block_length format bytes ≡ Ok (Some n)
    → block_length format (take n bytes) ≡ Ok (Some (length (take n bytes)))
block_alone format bytes n e =
    let told = whole_told format bytes n e in
    let least = extent_least format (head_of format bytes) n told.1 in
    let size : length (take n bytes) ≡ n = length-take-le n bytes told.2 in
    whole_here format (take n bytes) (length (take n bytes)) (omega (arith, size, least))
    (ap (extent format) (take-take (head_length format) n bytes least) ∙ told.1 ∙ ap told_as (sym size)) (omega arith)
