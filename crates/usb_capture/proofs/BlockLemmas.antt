-- Bytes are blocks in one way at most, and a step is one of these ways.
use Rattle.std.proofs.Common.{◌≡◌, ℕ, ◌+◌, ◌-◌, List, [], ◌∷◌, ◌++◌, length, take, refl, sym, ap, ◌∙◌, subst, arith, append-nil, append_assoc, Option, Some, None, Result, Ok, Err}
use Rattle.std.proofs.Math.Seq.{take-append_seam, take-append-add, take-length}
use Rattle.std.proofs.lemmas.List.{append_cancel_left, take-append-le}
use Rattle.usb_capture.specs.declared.fault.Cause.{Cause}
use Rattle.usb_capture.specs.declared.fault.CaptureFault.{CaptureFault}
use Rattle.usb_capture.specs.declared.reading.Reading.{Reading}
use Rattle.usb_capture.specs.FrameRecord.{FrameRecord, frame_in}
use Rattle.usb_capture.specs.Gathering.{block_length}
use Rattle.usb_capture.specs.Place.{Place, Taken, step, step_by, block_step, place_after, at_after}
use Rattle.usb_capture.specs.Reading.{Known, known_after, frame_head_of, reading}
use Rattle.usb_capture.specs.Blocks.{IsBlock, AllGive, Advances, bytes_of_blocks, with_frame}
use Rattle.usb_capture.proofs.ExtentLemmas.{nothing_begun, whole_longer, refused_longer, completed_longer, block_alone, whole_told}

-- what is told of the block that bytes begin with: where it ends, that it goes on, or why it is refused
abbrev ends_at : ℕ → Result (Option ℕ) Cause
ends_at n = Ok (Some n)

abbrev goes_on : Result (Option ℕ) Cause
goes_on = Ok None

abbrev refused_as : Cause → Result (Option ℕ) Cause
refused_as cause = Err cause

abbrev unread_as : Cause → Result Reading Cause
unread_as cause = Err cause

abbrev read_as : Reading → Result Reading Cause
read_as told = Ok told

-- ---- blocks behind others

frames_more : (frame : Option FrameRecord) (f g : List FrameRecord) → with_frame frame f ++ g ≡ with_frame frame (f ++ g)
frames_more None f g = refl
frames_more (Some frame) f g = refl

bytes_more : (xs ys : List (List ℕ)) (p : List ℕ) → bytes_of_blocks (xs ++ ys) ++ p ≡ bytes_of_blocks xs ++ (bytes_of_blocks ys ++ p)
bytes_more [] ys p = refl
bytes_more (x ∷ xs) ys p =
    append_assoc x (bytes_of_blocks (xs ++ ys)) p ∙ ap (λ l. x ++ l) (bytes_more xs ys p) ∙ sym (append_assoc x (bytes_of_blocks xs) (bytes_of_blocks ys ++ p))

all_more : (known middle last : Known) (at between end : ℕ) (xs ys : List (List ℕ)) (f g : List FrameRecord)
    → AllGive known at xs f middle between → AllGive middle between ys g last end → AllGive known at (xs ++ ys) (f ++ g) last end
all_more known middle last at between end [] ys f g a b =
    let moved = subst (λ (k : Known). AllGive k between ys g last end) a.1 b in
    let placed = subst (λ (n : ℕ). AllGive known n ys g last end) a.2 moved in
    subst (λ (l : List FrameRecord). AllGive known at ys (l ++ g) last end) (sym a.0) placed
all_more known middle last at between end (x ∷ xs) ys f g a b = (
  a.0,
  a.1 ++ g,
  a.2,
  a.3,
  all_more (known_after known a.0) middle last (at_after at (length x)) between end xs ys a.1 g a.4 b,
  ap (λ l. l ++ g) a.5 ∙ frames_more (frame_in at x (frame_head_of a.0)) a.1 g,
)

pub any_cut : (here middle last : Place) (a b : List ℕ) (f g : List FrameRecord) → Advances here a f middle → Advances middle b g last
    → Advances here (a ++ b) (f ++ g) last
any_cut here middle last a b f g x y = record {
  blocks = x.blocks ++ y.blocks;
  all = all_more here.known middle.known last.known here.at middle.at last.at x.blocks y.blocks f g x.all y.all;
  split =
      sym (append_assoc here.begun a b) ∙ ap (λ l. l ++ b) x.split ∙ append_assoc (bytes_of_blocks x.blocks) middle.begun b
      ∙ ap (λ l. bytes_of_blocks x.blocks ++ l) y.split ∙ sym (bytes_more x.blocks y.blocks last.begun);
  partial = y.partial;
}

-- ---- one reading

-- bytes that begin no whole block aren't blocks
none_begins : (known : Known) (x p rest : List ℕ) → IsBlock known.format x → block_length known.format p ≡ Ok None → p ≡ x ++ rest → ⊥
none_begins known x p rest is none e =
    let whole = whole_longer known.format x rest (length x) is in
    let same : goes_on ≡ ends_at (length x) = sym none ∙ ap (block_length known.format) e ∙ whole in absurd cc

some_is : (n m : ℕ) (r : Result (Option ℕ) Cause) → r ≡ Ok (Some n) → r ≡ Ok (Some m) → n ≡ m
some_is n m r a b = cc

-- two blocks that bytes begin with are one
same_block : (known : Known) (x y p q : List ℕ) → IsBlock known.format x → IsBlock known.format y → x ++ p ≡ y ++ q → x ≡ y
same_block known x y p q a b e =
    let same : length x ≡ length y = some_is (length x) (length y) (block_length known.format (x ++ p)) (whole_longer known.format x p (length x) a)
    (ap (block_length known.format) e ∙ whole_longer known.format y q (length y) b) in
    sym (take-append_seam x p) ∙ ap (λ n. take n (x ++ p)) same ∙ ap (take (length y)) e ∙ take-append_seam y q

told_is : (told other : Reading) (r : Result Reading Cause) → r ≡ Ok told → r ≡ Ok other → told ≡ other
told_is told other r a b = cc

abbrev SameEnds : List FrameRecord → List FrameRecord → Known → Known → ℕ → ℕ → List ℕ → List ℕ → Type 0
SameEnds f g last last' end end' p q = (f ≡ g) × (last ≡ last') × (end ≡ end') × (p ≡ q)

same_blocks : (known last last' : Known) (at end end' : ℕ) (xs ys : List (List ℕ)) (f g : List FrameRecord) (p q : List ℕ)
    → AllGive known at xs f last end → AllGive known at ys g last' end' → block_length last.format p ≡ Ok None
    → block_length last'.format q ≡ Ok None → bytes_of_blocks xs ++ p ≡ bytes_of_blocks ys ++ q → SameEnds f g last last' end end' p q
same_blocks known last last' at end end' [] [] f g p q a b m n e =
    (a.0 ∙ sym b.0, a.1 ∙ sym b.1, a.2 ∙ sym b.2, e)
same_blocks known last last' at end end' [] (y ∷ ys) f g p q a b m n e =
    absurd (none_begins known y p (bytes_of_blocks ys ++ q) b.2 (ap (λ (k : Known). block_length k.format p) (sym a.1) ∙ m) (e ∙ append_assoc y (bytes_of_blocks ys) q))
same_blocks known last last' at end end' (x ∷ xs) [] f g p q a b m n e =
    absurd (none_begins known x q (bytes_of_blocks xs ++ p) a.2 (ap (λ (k : Known). block_length k.format q) (sym b.1) ∙ n) (sym e ∙ append_assoc x (bytes_of_blocks xs) p))
same_blocks known last last' at end end' (x ∷ xs) (y ∷ ys) f g p q a b m n e =
    let both : x ++ (bytes_of_blocks xs ++ p) ≡ y ++ (bytes_of_blocks ys ++ q) = sym (append_assoc x (bytes_of_blocks xs) p) ∙ e ∙ append_assoc y (bytes_of_blocks ys) q in
    let same : x ≡ y = same_block known x y (bytes_of_blocks xs ++ p) (bytes_of_blocks ys ++ q) a.2 b.2 both in
    let place_after : bytes_of_blocks xs ++ p ≡ bytes_of_blocks ys ++ q =
    append_cancel_left y (bytes_of_blocks xs ++ p) (bytes_of_blocks ys ++ q) (subst (λ (l : List ℕ). l ++ (bytes_of_blocks xs ++ p) ≡ y ++ (bytes_of_blocks ys ++ q)) same both) in
    let told : a.0 ≡ b.0 =
    told_is a.0 b.0 (reading known.format known.interfaces x) a.3 (ap (reading known.format known.interfaces) same ∙ b.3) in
    let moved = subst (λ (t : Reading). AllGive (known_after known t) (at_after at (length y)) ys b.1 last' end') (sym told) b.4 in
    let placed = subst (λ (l : List ℕ). AllGive (known_after known a.0) (at_after at (length l)) ys b.1 last' end') (sym same) moved in
    let rest = same_blocks (known_after known a.0) last last' (at_after at (length x)) end end' xs ys a.1 b.1 p q a.4 placed m n place_after in (
      a.5
          ∙ ap (with_frame (frame_in at x (frame_head_of a.0))) rest.0
          ∙ ap (λ l. with_frame (frame_in at l (frame_head_of a.0)) b.1) same
          ∙ ap (λ t. with_frame (frame_in at y (frame_head_of t)) b.1) told
          ∙ sym b.5,
      rest.1,
      rest.2,
      rest.3,
    )

abbrev place_at : Known → ℕ → List ℕ → Place
place_at known at begun = record { known = known; at = at; begun = begun }

pub same_frames : (here last end : Place) (bytes : List ℕ) (f g : List FrameRecord) → Advances here bytes f last → Advances here bytes g end → f ≡ g
same_frames here last end bytes f g a b =
    (same_blocks here.known last.known end.known here.at last.at end.at a.blocks b.blocks f g last.begun end.begun a.all b.all a.partial b.partial
    (sym a.split ∙ b.split)).0

pub same_place : (here last end : Place) (bytes : List ℕ) (f g : List FrameRecord) → Advances here bytes f last → Advances here bytes g end → last ≡ end
same_place here last end bytes f g a b =
    let same = same_blocks here.known last.known end.known here.at last.at end.at a.blocks b.blocks f g last.begun end.begun a.all b.all a.partial b.partial
    (sym a.split ∙ b.split) in
    ap (λ k. place_at k last.at last.begun) same.1 ∙ ap (λ n. place_at end.known n last.begun) same.2 ∙ ap (place_at end.known end.at) same.3

-- ---- one step

abbrev Steps : Place → List ℕ → Taken → Type 0
Steps place bytes taken = Advances place (take taken.count bytes) (with_frame taken.frame []) taken.place

completed_step : (place : Place) (bytes : List ℕ) (n : ℕ) (taken : Taken) (r : Result Reading Cause)
    → block_length place.known.format place.begun ≡ Ok None
    → block_length place.known.format (place.begun ++ bytes) ≡ Ok (Some n)
    → reading place.known.format place.known.interfaces (take n (place.begun ++ bytes)) ≡ r
    → block_step place (n - length place.begun) (take n (place.begun ++ bytes)) r ≡ Ok taken → Steps place bytes taken
completed_step place bytes n taken (Err cause) part whole is e = absurd cc
completed_step place bytes n taken (Ok told) part whole is e =
    let block = take n (place.begun ++ bytes) in
    let count = n - length place.begun in
    let made : Taken = record { count = count; place = place_after place block told; frame = frame_in place.at block (frame_head_of told) } in
    let longer = completed_longer place.known.format place.begun bytes n part whole in
    let sum : n ≡ length place.begun + count = omega (arith, longer) in
    let seam : block ≡ place.begun ++ take count bytes =
    ap (λ k. take k (place.begun ++ bytes)) sum ∙ take-append-add place.begun bytes count in
    let same : made ≡ taken = cc in
    subst (Steps place bytes) same (record {
      blocks = block ∷ [];
      all = (told, [], block_alone place.known.format (place.begun ++ bytes) n whole, is, (refl, refl, refl), refl);
      split = sym seam ∙ sym (append-nil block) ∙ sym (append-nil (block ++ []));
      partial = nothing_begun (known_after place.known told).format;
    })

gathered_step : (place : Place) (bytes : List ℕ) (taken : Taken) (r : Result (Option ℕ) Cause)
    → block_length place.known.format place.begun ≡ Ok None
    → block_length place.known.format (place.begun ++ bytes) ≡ r
    → step_by place bytes (place.begun ++ bytes) r ≡ Ok taken → Steps place bytes taken
gathered_step place bytes taken (Err cause) part is e = absurd cc
gathered_step place bytes taken (Ok None) part is e =
    let made : Taken = record { count = length bytes; place = record place { begun = place.begun ++ bytes }; frame = None } in
    let same : made ≡ taken = cc in
    subst (Steps place bytes) same (record {
      blocks = [];
      all = (refl, refl, refl);
      split = ap (λ l. place.begun ++ l) (take-length bytes);
      partial = is;
    })
gathered_step place bytes taken (Ok (Some n)) part is e =
    completed_step place bytes n taken (reading place.known.format place.known.interfaces (take n (place.begun ++ bytes))) part is refl e

pub one_step : (place : Place) (bytes : List ℕ) (taken : Taken) → block_length place.known.format place.begun ≡ Ok None
    → step place bytes ≡ Ok taken → Advances place (take taken.count bytes) (with_frame taken.frame []) taken.place
unfolding step
one_step place bytes taken part e =
    gathered_step place bytes taken (block_length place.known.format (place.begun ++ bytes)) part refl e

-- ---- a refusal

-- where the next block's length is refused, no block follows
no_blocks : (blocks : List (List ℕ)) (here last : Place) (bytes : List ℕ) (f : List FrameRecord) (cause : Cause)
    → block_length here.known.format (here.begun ++ bytes) ≡ Err cause → AllGive here.known here.at blocks f last.known last.at
    → here.begun ++ bytes ≡ bytes_of_blocks blocks ++ last.begun → block_length last.known.format last.begun ≡ Ok None → ⊥
no_blocks [] here last bytes f cause is all split partial =
    let moved : block_length here.known.format last.begun ≡ Ok None = ap (λ (k : Known). block_length k.format last.begun) (sym all.1) ∙ partial in
    let same : refused_as cause ≡ goes_on = sym is ∙ ap (block_length here.known.format) split ∙ moved in absurd cc
no_blocks (x ∷ xs) here last bytes f cause is all split partial =
    let whole = whole_longer here.known.format x (bytes_of_blocks xs ++ last.begun) (length x) all.2 in
    let same : refused_as cause ≡ ends_at (length x) =
    sym is ∙ ap (block_length here.known.format) (split ∙ append_assoc x (bytes_of_blocks xs) last.begun) ∙ whole in absurd cc

-- where the next block is refused, it isn't there
no_reading : (blocks : List (List ℕ)) (here last : Place) (bytes : List ℕ) (n : ℕ) (f : List FrameRecord) (cause : Cause)
    → block_length here.known.format (here.begun ++ bytes) ≡ Ok (Some n)
    → reading here.known.format here.known.interfaces (take n (here.begun ++ bytes)) ≡ Err cause
    → AllGive here.known here.at blocks f last.known last.at
    → here.begun ++ bytes ≡ bytes_of_blocks blocks ++ last.begun → block_length last.known.format last.begun ≡ Ok None → ⊥
no_reading [] here last bytes n f cause is refused all split partial =
    let moved : block_length here.known.format last.begun ≡ Ok None = ap (λ (k : Known). block_length k.format last.begun) (sym all.1) ∙ partial in
    let same : ends_at n ≡ goes_on = sym is ∙ ap (block_length here.known.format) split ∙ moved in absurd cc
no_reading (x ∷ xs) here last bytes n f cause is refused all split partial =
    let rest = bytes_of_blocks xs ++ last.begun in
    let parts : here.begun ++ bytes ≡ x ++ rest = split ∙ append_assoc x (bytes_of_blocks xs) last.begun in
    let whole = whole_longer here.known.format x rest (length x) all.2 in
    let size : n ≡ length x = some_is n (length x) (block_length here.known.format (here.begun ++ bytes)) is (ap (block_length here.known.format) parts ∙ whole) in
    let block : take n (here.begun ++ bytes) ≡ x = ap (λ k. take k (here.begun ++ bytes)) size ∙ ap (take (length x)) parts ∙ take-append_seam x rest in
    let same : unread_as cause ≡ read_as all.0 = sym refused ∙ ap (reading here.known.format here.known.interfaces) block ∙ all.3 in absurd cc

refused_reading : (here last : Place) (bytes more : List ℕ) (n : ℕ) (f : List FrameRecord) (fault : CaptureFault) (r : Result Reading Cause)
    → block_length here.known.format (here.begun ++ bytes) ≡ Ok (Some n)
    → reading here.known.format here.known.interfaces (take n (here.begun ++ bytes)) ≡ r
    → block_step here (n - length here.begun) (take n (here.begun ++ bytes)) r ≡ Err fault → Advances here (bytes ++ more) f last → ⊥
refused_reading here last bytes more n f fault (Ok told) is told_so e a = absurd cc
refused_reading here last bytes more n f fault (Err cause) is told_so e a =
    let come : (here.begun ++ bytes) ++ more ≡ here.begun ++ (bytes ++ more) = append_assoc here.begun bytes more in
    let longer = ap (block_length here.known.format) (sym come) ∙ whole_longer here.known.format (here.begun ++ bytes) more n is in
    let whole = whole_told here.known.format (here.begun ++ bytes) n is in
    let same : take n (here.begun ++ (bytes ++ more)) ≡ take n (here.begun ++ bytes) =
    ap (take n) (sym come) ∙ take-append-le n (here.begun ++ bytes) more whole.2 in
    no_reading a.blocks here last (bytes ++ more) n f cause longer (ap (reading here.known.format here.known.interfaces) same ∙ told_so) a.all a.split a.partial

refused_length : (here last : Place) (bytes more : List ℕ) (f : List FrameRecord) (fault : CaptureFault) (r : Result (Option ℕ) Cause)
    → block_length here.known.format (here.begun ++ bytes) ≡ r → step_by here bytes (here.begun ++ bytes) r ≡ Err fault
    → Advances here (bytes ++ more) f last → ⊥
refused_length here last bytes more f fault (Ok None) is e a = absurd cc
refused_length here last bytes more f fault (Ok (Some n)) is e a =
    refused_reading here last bytes more n f fault (reading here.known.format here.known.interfaces (take n (here.begun ++ bytes))) is refl e a
refused_length here last bytes more f fault (Err cause) is e a =
    no_blocks a.blocks here last (bytes ++ more) f cause
    (ap (block_length here.known.format) (sym (append_assoc here.begun bytes more)) ∙ refused_longer here.known.format (here.begun ++ bytes) more cause is)
    a.all a.split a.partial

pub refused_step : (here last : Place) (bytes more : List ℕ) (f : List FrameRecord) (fault : CaptureFault) → step here bytes ≡ Err fault
    → Advances here (bytes ++ more) f last → ⊥
unfolding step
refused_step here last bytes more f fault e a =
    refused_length here last bytes more f fault (block_length here.known.format (here.begun ++ bytes)) refl e a
