-- Bytes are added to a block up to its head, and then up to its end.
use Rattle.std.proofs.Common.{◌≡◌, ℕ, ◌+◌, ◌-◌, ◌<◌, ◌≤◌, min, List, ◌++◌, length, length-append, take, drop, sym, ap, ◌∙◌, arith, append_assoc, Option, None, Some, Result, Ok, Err}
use Rattle.std.proofs.lemmas.List.{length-take, length-drop, take-append-drop, take_all}
use Rattle.std.proofs.Math.Seq.{take-add}
use Rattle.usb_capture.specs.declared.fault.Cause.{Cause}
use Rattle.usb_capture.specs.declared.format.Format.{Format}
use Rattle.usb_capture.specs.Extent.{head_length, extent}
use Rattle.usb_capture.specs.Gathering.{block_length}
use Rattle.usb_capture.proofs.ExtentLemmas.{head_of, head_kept, extent_least, short_head, whole_here, partial_here, refused_here, partial_length}

-- what was added up to a number of bytes, and what is left
added : (begun bytes : List ℕ) (first : ℕ) → begun ++ bytes ≡ (begun ++ take first bytes) ++ drop first bytes
added begun bytes first = ap (λ l. begun ++ l) (sym (take-append-drop first bytes)) ∙ sym (append_assoc begun (take first bytes) (drop first bytes))

added_length : (begun bytes : List ℕ) (first : ℕ) → first ≤ length bytes → length (begun ++ take first bytes) ≡ length begun + first
added_length begun bytes first within = omega (arith, length-append begun (take first bytes), length-take first bytes, within)

-- where fewer bytes came than are wanted, all are added
pub all_added : (begun bytes : List ℕ) (first size : ℕ) → first ≡ min (size - length begun) (length bytes)
    → length (begun ++ take first bytes) < size → begun ++ take first bytes ≡ begun ++ bytes
all_added begun bytes first size is short =
    let within : first ≤ length bytes = omega (arith, is) in
    let all : length bytes ≤ first = omega (arith, is, short, added_length begun bytes first within) in
    ap (λ l. begun ++ l) (take_all first bytes all)

-- ---- the head

pub head_short : (format : Format) (begun bytes : List ℕ) (first : ℕ) → first ≡ min (head_length format - length begun) (length bytes)
    → length (begun ++ take first bytes) < head_length format → block_length format (begun ++ bytes) ≡ Ok None
head_short format begun bytes first is short =
    let same = all_added begun bytes first (head_length format) is short in
    ap (block_length format) (sym same) ∙ short_head format (begun ++ take first bytes) short

-- the head of what was added is that of all
whole_head : (format : Format) (begun bytes : List ℕ) (first : ℕ) → head_length format ≤ length (begun ++ take first bytes)
    → head_of format (begun ++ bytes) ≡ head_of format (begun ++ take first bytes)
whole_head format begun bytes first long =
    ap (head_of format) (added begun bytes first) ∙ head_kept format (begun ++ take first bytes) (drop first bytes) long

longer : (begun bytes : List ℕ) (first : ℕ) → length (begun ++ take first bytes) ≤ length (begun ++ bytes)
longer begun bytes first =
    omega (arith, ap length (added begun bytes first), length-append (begun ++ take first bytes) (drop first bytes))

pub head_refused : (format : Format) (begun bytes : List ℕ) (first : ℕ) (cause : Cause) → head_length format ≤ length (begun ++ take first bytes)
    → extent format (head_of format (begun ++ take first bytes)) ≡ Err cause → block_length format (begun ++ bytes) ≡ Err cause
head_refused format begun bytes first cause long is =
    refused_here format (begun ++ bytes) cause (omega (arith, long, longer begun bytes first)) (ap (extent format) (whole_head format begun bytes first long) ∙ is)

-- ---- the block

-- where all that was left is added, nothing is left out
pub rest_added : (begun bytes : List ℕ) (first second size : ℕ) → second ≡ min (size - length (begun ++ take first bytes)) (length (drop first bytes))
    → length ((begun ++ take first bytes) ++ take second (drop first bytes)) < size
    → (begun ++ take first bytes) ++ take second (drop first bytes) ≡ begun ++ bytes
rest_added begun bytes first second size is short =
    all_added (begun ++ take first bytes) (drop first bytes) second size is short ∙ sym (added begun bytes first)

pub block_short : (format : Format) (begun bytes : List ℕ) (first second size : ℕ) → head_length format ≤ length (begun ++ take first bytes)
    → extent format (head_of format (begun ++ take first bytes)) ≡ Ok size
    → second ≡ min (size - length (begun ++ take first bytes)) (length (drop first bytes))
    → length ((begun ++ take first bytes) ++ take second (drop first bytes)) < size → block_length format (begun ++ bytes) ≡ Ok None
block_short format begun bytes first second size long told is short =
    let same = rest_added begun bytes first second size is short in
    partial_here format (begun ++ bytes) size (omega (arith, long, longer begun bytes first))
    (ap (extent format) (whole_head format begun bytes first long) ∙ told) (omega (arith, short, ap length same))

-- what is added up to the head is no more than the block
head_within : (format : Format) (begun bytes : List ℕ) (first size : ℕ) → block_length format begun ≡ Ok None
    → first ≡ min (head_length format - length begun) (length bytes) → head_length format ≤ length (begun ++ take first bytes)
    → extent format (head_of format (begun ++ take first bytes)) ≡ Ok size → length begun + first ≤ size
head_within format begun bytes first size partial is long told =
    let least = extent_least format (head_of format (begun ++ take first bytes)) size told in
    let below = partial_length format begun size partial
    (λ all. ap (extent format) (sym (head_kept format begun (take first bytes) all)) ∙ told) least in
    omega (arith, least, below, is)

-- how many bytes a whole block took
pub whole_size : (format : Format) (begun bytes : List ℕ) (first second size : ℕ) → block_length format begun ≡ Ok None
    → first ≡ min (head_length format - length begun) (length bytes) → head_length format ≤ length (begun ++ take first bytes)
    → extent format (head_of format (begun ++ take first bytes)) ≡ Ok size
    → second ≡ min (size - length (begun ++ take first bytes)) (length (drop first bytes))
    → size ≤ length ((begun ++ take first bytes) ++ take second (drop first bytes))
    → (first + second ≤ length bytes) × (size ≡ length begun + (first + second))
whole_size format begun bytes first second size partial is long told next whole =
    let within : first ≤ length bytes = omega (arith, is) in
    let head = head_within format begun bytes first size partial is long told in
    let one = added_length begun bytes first within in
    let left = length-drop first bytes in
    let rest : second ≤ length (drop first bytes) = omega (arith, next) in
    let two = added_length (begun ++ take first bytes) (drop first bytes) second rest in
    (omega (arith, within, rest, left), omega (arith, head, one, two, next, whole))

-- where a block ends
abbrev ends_at : ℕ → Result (Option ℕ) Cause
ends_at n = Ok (Some n)

pub block_whole : (format : Format) (begun bytes : List ℕ) (first second size : ℕ) → block_length format begun ≡ Ok None
    → first ≡ min (head_length format - length begun) (length bytes) → head_length format ≤ length (begun ++ take first bytes)
    → extent format (head_of format (begun ++ take first bytes)) ≡ Ok size
    → second ≡ min (size - length (begun ++ take first bytes)) (length (drop first bytes))
    → size ≤ length ((begun ++ take first bytes) ++ take second (drop first bytes))
    → block_length format (begun ++ bytes) ≡ Ok (Some (length begun + (first + second)))
block_whole format begun bytes first second size partial is long told next whole =
    let sized = whole_size format begun bytes first second size partial is long told next whole in
    let here = whole_here format (begun ++ bytes) size (omega (arith, long, longer begun bytes first))
    (ap (extent format) (whole_head format begun bytes first long) ∙ told)
    (omega (arith, sized.0, sized.1, length-append begun bytes)) in
    here ∙ ap ends_at sized.1

-- what was added in both steps
pub both_added : (begun bytes : List ℕ) (first second : ℕ)
    → (begun ++ take first bytes) ++ take second (drop first bytes) ≡ begun ++ take (first + second) bytes
both_added begun bytes first second = append_assoc begun (take first bytes) (take second (drop first bytes)) ∙ ap (λ l. begun ++ l) (sym (take-add first second bytes))

-- ---- the same, by the values of the program

-- a part up to the end
pub slice_from : (n : ℕ) (l : List ℕ) → take (length l - n) (drop n l) ≡ drop n l
slice_from n l = take_all (length l - n) (drop n l) (omega (arith, length-drop n l))

pub gather_refused : (format : Format) (begun bytes block : List ℕ) (h first : ℕ) (cause : Cause) → h ≡ head_length format
    → block ≡ begun ++ take first bytes → h ≤ length block → extent format (take h block) ≡ Err cause
    → block_length format (begun ++ bytes) ≡ Err cause
gather_refused format begun bytes block h first cause head same long is =
    head_refused format begun bytes first cause (omega (arith, head, long, ap length same))
    (sym (ap (λ (k : ℕ). extent format (take k block)) head ∙ ap (λ (b : List ℕ). extent format (head_of format b)) same) ∙ is)

pub gather_whole : (format : Format) (begun bytes block rest after : List ℕ) (h first second size : ℕ) → block_length format begun ≡ Ok None
    → h ≡ head_length format → first ≡ min (h - length begun) (length bytes) → block ≡ begun ++ take first bytes → h ≤ length block
    → extent format (take h block) ≡ Ok size → rest ≡ drop first bytes → second ≡ min (size - length block) (length rest)
    → after ≡ block ++ take second rest → size ≤ length after
    → (first + second ≤ length bytes) × (block_length format (begun ++ bytes) ≡ Ok (Some (length begun + (first + second))))
    × (after ≡ begun ++ take (first + second) bytes)
gather_whole format begun bytes block rest after h first second size partial head is same long told left next grown whole =
    let here = sym (ap (λ (k : ℕ). extent format (take k block)) head ∙ ap (λ (b : List ℕ). extent format (head_of format b)) same) ∙ told in
    let count = is ∙ ap (λ (k : ℕ). min (k - length begun) (length bytes)) head in
    let all : head_length format ≤ length (begun ++ take first bytes) = omega (arith, head, long, ap length same) in
    let more = next ∙ ap (λ (b : List ℕ). min (size - length b) (length rest)) same
    ∙ ap (λ (r : List ℕ). min (size - length (begun ++ take first bytes)) (length r)) left in
    let sum = grown ∙ ap (λ (b : List ℕ). b ++ take second rest) same ∙ ap (λ (r : List ℕ). (begun ++ take first bytes) ++ take second r) left in
    let full : size ≤ length ((begun ++ take first bytes) ++ take second (drop first bytes)) = omega (arith, whole, ap length sum) in
    let sized = whole_size format begun bytes first second size partial count all here more full in (
      sized.0,
      block_whole format begun bytes first second size partial count all here more full,
      sum ∙ both_added begun bytes first second,
    )
