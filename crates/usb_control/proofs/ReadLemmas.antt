-- One try of a data piece of a read that was accepted.
use Rattle.std.proofs.Common.{◌≡◌, ℕ, zero, suc, ◌+◌, ◌*◌, ◌<◌, ◌≤◌, ◌⊎◌, inl, inr, refl, sym, ◌∙◌, ap, subst, Bool, true, false, not, nat_lt, ◌==◌, ◌&&◌, List, [], ◌++◌, length, take, Option, Some, None, unwrap_or, arith}
use Rattle.std.specs.Prelude.{if◌then◌else◌}
use Rattle.std.proofs.lemmas.Bool.{ltb-true, lt-ltb}
use Rattle.std.proofs.lemmas.List.{length-take, take_all}
use Rattle.std.proofs.lemmas.Bool.Decides.{nat_tests}
use Rattle.usb_transact.specs.declared.transaction.Fate.{Fate}
use Rattle.usb_transact.specs.declared.transaction.Fate.TheVariants.{Clean, TokenLost, ReplyLost, AckLost}
use Rattle.usb_control.specs.declared.device.Stage.{Stage}
use Rattle.usb_control.specs.declared.device.Stage.TheVariants as stages
use Rattle.usb_control.specs.declared.host.HostStage.{HostStage}
use Rattle.usb_control.specs.declared.host.HostStage.TheVariants as tries
use Rattle.usb_control.specs.Requests.{PrepareGives, ApplyGives, AnswerOf}
use Rattle.usb_control.specs.Pieces.{piece_from}
use Rattle.usb_control.specs.Packets.{data_packet}
use Rattle.usb_control.specs.Device.{DevControlState, read_piece, read_goes_on, stage_after_ack}
use Rattle.usb_control.specs.Host.{HostTransferState, with_stage, transfer_after_reply_at, is_overrun, with_payload, after_read_piece}
use Rattle.usb_control.specs.Transaction.{TransactsAt, Arrives}
use Rattle.usb_control.specs.Transfer.{Shape, Decision, Accepted, Position, Piece, Status, Place, read_pieces, next_position, host_position_after, place_after_in, place_after_silence}
use Rattle.usb_control.specs.Positions.{piece_toggle, host_stage, bytes_before, accepted_stage, AreWithinAPiece, HostIsAt, BothAreAt, TransferIsAt}
use Rattle.usb_control.proofs.PieceLemmas.{take-next, length-piece, count_bounds, goes_on, is_last, follows}
use Rattle.usb_control.proofs.StepLemmas.{at, silent_stands, moved, has_stands, shaped}
use Rattle.usb_control.proofs.RefusedLemmas.{none_taken}
use Rattle.usb_control.proofs.PlaceLemmas.{Takes, in_place, in_shown}
use Rattle.usb_control.proofs.WriteLemmas.{same-piece_toggle, other-piece_toggle, is_within}

-- the bytes of the answer
abbrev pub cut_of : ℕ → Option (List ℕ) → List ℕ
cut_of len x = take len (unwrap_or x [])

cut_fits : (len : ℕ) (x : Option (List ℕ)) → length (cut_of len x) ≤ len
cut_fits len x = simp length-take (omega arith)

is_some_length : (len : ℕ) (x : Option (List ℕ)) (k : ℕ) → k < read_pieces len (length (cut_of len x)) → (len == 0) ≡ false
is_some_length zero x k here = absurd (omega (arith, here))
is_some_length (suc n) x k here = grind (arith, nat_tests)

-- the stages after a piece, by whether another one follows
read_next : (len : ℕ) (sends : List ℕ) (k count : ℕ) (a more : Bool) → (len == 0) ≡ false → (n : ℕ)
    → (more ≡ true → n ≡ 8 * suc k)
    → (if more then stages.ReadData len n (not (piece_toggle k)) else stages.StatusOut)
    ≡ accepted_stage (shaped true len) sends count a (if more then Piece (suc k) else Status)
read_next len sends k count a true some n sent = rw (some, sent refl) refl
read_next len sends k count a false some n sent = rw some refl

host_next : (len : ℕ) (k : ℕ) (more : Bool) → (len == 0) ≡ false
    → (if more then tries.DataIn (not (piece_toggle k)) else tries.StatusOut)
    ≡ host_stage (shaped true len) (if more then Piece (suc k) else Status)
host_next len k true some = refl
host_next len k false some = rw some refl

no_overrun : (len : ℕ) (k : ℕ) (more : Bool) → (len == 0) ≡ false → not (is_overrun (host_stage (shaped true len) (if more then Piece (suc k) else Status))) ≡ true
no_overrun len k true some = refl
no_overrun len k false some = rw some refl

bytes_next : (xs : List ℕ) (k : ℕ) (more : Bool) → (more ≡ false → take (8 * suc k) xs ≡ xs)
    → take (8 * k) xs ++ piece_from xs (8 * k) ≡ bytes_before xs (if more then Piece (suc k) else Status)
bytes_next xs k true last = take-next xs k
bytes_next xs k false last = take-next xs k ∙ last refl

near_late : (len : ℕ) (x : Option (List ℕ)) (k : ℕ) (a more : Bool) → (len == 0) ≡ false
    → (more ≡ true → suc k < read_pieces len (length (cut_of len x)))
    → (more ≡ false → suc k ≡ read_pieces len (length (cut_of len x)))
    → AreWithinAPiece (shaped true len) (Accepted x) a (if more then Piece (suc k) else Status) (Piece k)
near_late len x k a true some before last = (before refl, inr (k, refl, refl))
near_late len x k a false some before last = rw some (inr (inr (k, last refl, refl)))

near_next : (len : ℕ) (x : Option (List ℕ)) (k : ℕ) (a more : Bool) → (len == 0) ≡ false
    → (more ≡ true → suc k < read_pieces len (length (cut_of len x)))
    → AreWithinAPiece (shaped true len) (Accepted x) a (if more then Piece (suc k) else Status)
    (if more then Piece (suc k) else Status)
near_next len x k a true some before = (before refl, inl refl)
near_next len x k a false some before = rw some (inl refl)

-- the host with these bytes, at this stage
abbrev pub got_host : HostTransferState → List ℕ → HostStage → HostTransferState
got_host host bytes stage = record host { bytes = bytes; stage = stage; tries = 0 }

joined_is : (one : Bool) (payload : List ℕ) (host : HostTransferState) → length payload ≤ 8
    → length host.bytes + length payload ≤ host.setup.length
    → with_payload one payload host
    ≡ got_host host (host.bytes ++ payload)
    (after_read_piece (length host.bytes) (length payload) host.setup.length one)
joined_is one payload host short fits = rw (is_within (length payload) 8 short, is_within (length host.bytes + length payload) host.setup.length fits) refl

-- what is known of a piece
record PieceFacts (len : ℕ) (x : Option (List ℕ)) (k : ℕ) : Type 0 where
  some : (len == 0) ≡ false
  short : length (piece_from (cut_of len x) (8 * k)) ≤ 8
  before : length (take (8 * k) (cut_of len x)) ≡ 8 * k
  fits : 8 * k + length (piece_from (cut_of len x) (8 * k)) ≤ len
  full : nat_lt (suc k) (read_pieces len (length (cut_of len x))) ≡ true → 8 * k + length (piece_from (cut_of len x) (8 * k)) ≡ 8 * suc k
  more : nat_lt (suc k) (read_pieces len (length (cut_of len x))) ≡ true → suc k < read_pieces len (length (cut_of len x))
  last : nat_lt (suc k) (read_pieces len (length (cut_of len x))) ≡ false → suc k ≡ read_pieces len (length (cut_of len x))
  all : nat_lt (suc k) (read_pieces len (length (cut_of len x))) ≡ false → take (8 * suc k) (cut_of len x) ≡ cut_of len x
  test : ((length (piece_from (cut_of len x) (8 * k)) == 8) && nat_lt (8 * k + length (piece_from (cut_of len x) (8 * k))) len) ≡ nat_lt (suc k) (read_pieces len (length (cut_of len x)))

not_more : (a b : ℕ) → nat_lt a b ≡ false → ¬ (a < b)
not_more a b e h = grind (arith, nat_tests)

within_cut : (len : ℕ) (x : Option (List ℕ)) (k : ℕ) → k < read_pieces len (length (cut_of len x)) → 8 * k ≤ length (cut_of len x)
within_cut len x k here = omega (arith, count_bounds len (length (cut_of len x)) (cut_fits len x), here)

facts_of : (len : ℕ) (x : Option (List ℕ)) (k : ℕ) → k < read_pieces len (length (cut_of len x)) → PieceFacts len x k
facts_of len x k here =
    let fits = cut_fits len x in
    let within = within_cut len x k here in
    let size = length-piece (cut_of len x) (8 * k) in
    record {
      some = is_some_length len x k here;
      short = rw size (omega arith);
      before = rw (length-take (8 * k) (cut_of len x)) (omega arith);
      fits = rw size (omega arith);
      full = λ e. let h = goes_on len (length (cut_of len x)) k fits (ltb-true _ _ e) in rw size (omega (arith, h));
      more = λ e. ltb-true _ _ e;
      last = λ e. (is_last len (length (cut_of len x)) k fits here (not_more _ _ e)).2;
      all = λ e. let h = is_last len (length (cut_of len x)) k fits here (not_more _ _ e) in take_all (8 * suc k) (cut_of len x) (omega (arith, h));
      test = follows (cut_of len x) len k fits here;
    }

-- the host takes the piece that it waits for
level_takes : (len : ℕ) (sends : List ℕ) (x : Option (List ℕ)) (k : ℕ) (d : Position) (a : Bool) (t : ℕ)
    (host : HostTransferState) → PieceFacts len x k
    → HostIsAt (shaped true len) sends (at (Piece k) d (Accepted x) a t) host → let n =
    next_position (read_pieces len (length (cut_of len x))) (Piece k) in
    Takes host (got_host host (bytes_before (cut_of len x) n) (host_stage (shaped true len) n))
    (tries.DataIn (piece_toggle k)) (piece_toggle k) (piece_from (cut_of len x) (8 * k))
level_takes len sends x k d a t host f u =
    let xs = cut_of len x in
    let piece = piece_from xs (8 * k) in
    let n = next_position (read_pieces len (length xs)) (Piece k) in
    let host_position_after : length host.bytes ≡ 8 * k = ap (λ (b : List ℕ). length b) u.bytes ∙ f.before in
    let len_is : host.setup.length ≡ len = ap (λ (s : Shape). s.length) u.asked in
    let e1 : host.bytes ++ piece ≡ bytes_before xs n =
    ap (λ (b : List ℕ). b ++ piece) u.bytes ∙ bytes_next xs k _ f.all in
    let e2 : after_read_piece (length host.bytes) (length piece) host.setup.length (piece_toggle k)
    ≡ host_stage (shaped true len) n =
    ap (λ (m : ℕ). after_read_piece m (length piece) host.setup.length (piece_toggle k)) host_position_after
    ∙ ap (λ (m : ℕ). after_read_piece (8 * k) (length piece) m (piece_toggle k)) len_is
    ∙ rw f.test (host_next len k _ f.some)
    in
    record {
      asks = refl;
      takes = rw (same-piece_toggle (piece_toggle k))
          (joined_is (piece_toggle k) piece host f.short (rw (host_position_after, len_is) f.fits)
          ∙ ap (λ (b : List ℕ). got_host host b
          (after_read_piece (length host.bytes) (length piece) host.setup.length (piece_toggle k))) e1
          ∙ ap (λ (s : HostStage). got_host host (bytes_before xs n) s) e2);
      says = no_overrun len k _ f.some;
    }

-- the host throws away the piece that it has
behind_takes : (len : ℕ) (sends : List ℕ) (x : Option (List ℕ)) (j : ℕ) (d : Position) (a : Bool) (t : ℕ)
    (host : HostTransferState) (payload : List ℕ)
    → HostIsAt (shaped true len) sends (at (Piece (suc j)) d (Accepted x) a t) host
    → Takes host (with_stage host.stage host) (tries.DataIn (not (piece_toggle j))) (piece_toggle j) payload
behind_takes len sends x j d a t host payload u = record {
  asks = refl;
  takes = rw (other-piece_toggle (piece_toggle j)) refl;
  says = rw u.stage refl;
}

-- the device goes on after the ACK
device_next : {R : Type 0} (answer_of : AnswerOf R) (len : ℕ) (sends : List ℕ) (x : Option (List ℕ)) (j : ℕ)
    (a : Bool) (requests : R) → PieceFacts len x j → answer_of requests ≡ x
    → stage_after_ack (answer_of requests) (stages.ReadData len (8 * j) (piece_toggle j))
    ≡ accepted_stage (shaped true len) sends (read_pieces len (length (cut_of len x))) a
    (next_position (read_pieces len (length (cut_of len x))) (Piece j))
device_next answer_of len sends x j a requests f same =
    ap (λ (y : Option (List ℕ)). read_goes_on len (8 * j) (piece_toggle j) (length (read_piece y len (8 * j)))) same
    ∙ rw f.test (read_next len sends j (read_pieces len (length (cut_of len x))) a _ f.some (8 * j + length (piece_from (cut_of len x) (8 * j))) f.full)

-- a try that arrives, where the device sends piece j
read_arrives : {R : Type 0} (prepare_gives : PrepareGives R) (apply_gives : ApplyGives R) (answer_of : AnswerOf R)
    (len : ℕ) (sends : List ℕ) (fate : Fate) (k j : ℕ) (p_after : Position) (x : Option (List ℕ)) (a : Bool) (t : ℕ)
    (host host_after : HostTransferState) (old : DevControlState R) (after : HostTransferState)
    (new : DevControlState R) → let shape = shaped true len in let count =
    read_pieces len (length (cut_of len x)) in ¬ (fate ≡ TokenLost) → PieceFacts len x j → answer_of old.requests ≡ x
    → BothAreAt answer_of shape sends (at (Piece k) (Piece j) (Accepted x) a t) host old
    → Takes host host_after (tries.DataIn (piece_toggle k)) (piece_toggle j) (piece_from (cut_of len x) (8 * j))
    → HostIsAt shape sends (at p_after (Piece j) (Accepted x) a 0) host_after
    → AreWithinAPiece shape (Accepted x) a p_after (Piece j)
    → AreWithinAPiece shape (Accepted x) a p_after (next_position count (Piece j))
    → Arrives prepare_gives apply_gives answer_of fate (tries.DataIn (piece_toggle k))
    (stages.ReadData len (8 * j) (piece_toggle j)) host.bytes host old after new
    → (new.requests ≡ old.requests)
    × TransferIsAt answer_of shape sends
    (in_place fate (Piece k) (Piece j) p_after (next_position count (Piece j)) (Accepted x) a t) after new
read_arrives prepare_gives apply_gives answer_of len sends fate k j p_after x a t host host_after old after new arrives f same u takes sender late goes (mid, answer, does, e, h) =
    let shape = shaped true len in
    let count = read_pieces len (length (cut_of len x)) in
    let requests = ap (λ (c : DevControlState _). c.requests) does.0 in
    let mid_same = ap answer_of requests ∙ same in
    let said =
    does.1 ∙ ap (λ (y : Option (List ℕ)). Some (data_packet (piece_toggle j) (read_piece y len (8 * j)))) same in
    let shown =
    in_shown prepare_gives apply_gives answer_of shape sends fate (Piece k) (Piece j) p_after
    (next_position count (Piece j)) (Accepted x) a t host host_after (tries.DataIn (piece_toggle k))
    (stages.ReadData len (8 * j) (piece_toggle j)) (piece_toggle j)
    (piece_from (cut_of len x) (8 * j)) mid answer after new arrives tt takes
    (ap (λ (c : DevControlState _). c.stage) does.0) (ap (λ (c : DevControlState _). c.last_packet) does.0) said
    (record { whole = u.whole; sender = u.sender; near = u.near; device = (rw f.some (ap (λ (c : DevControlState _). c.stage) does.0), λ _. mid_same) })
    (record { whole = u.whole; sender = sender; near = late; device = (rw f.some (ap (λ (c : DevControlState _). c.stage) does.0), λ _. mid_same) })
    (λ m stage_is requests_are. record {
      whole = u.whole;
      sender = record { asked = sender.asked; stage = sender.stage; bytes = sender.bytes; tries = sender.tries };
      near = goes;
      device = has_stands answer_of shape sends (Accepted x) a (next_position count (Piece j)) m (
        stage_is ∙ device_next answer_of len sends x j a mid.requests f mid_same,
        λ _. ap answer_of requests_are
            ∙ mid_same,
      );
    })
    e h
    in
    (shown.0 ∙ requests, shown.1)

same_number : (k : ℕ) → (k == k) ≡ true
same_number k = grind (arith, nat_tests)

other_number : (k : ℕ) → (suc k == k) ≡ false
other_number k = grind (arith, nat_tests)

pub in_place_is : (fate : Fate) (count : ℕ) (p d p_after d_after : Position) (q : Decision) (a : Bool) (t : ℕ)
    → host_position_after count p d ≡ p_after → next_position count d ≡ d_after
    → in_place fate p d p_after d_after q a t ≡ place_after_in fate count (at p d q a t)
in_place_is TokenLost count p d p_after d_after q a t e f = refl
in_place_is ReplyLost count p d p_after d_after q a t e f = refl
in_place_is AckLost count p d p_after d_after q a t e f = ap (λ (x : Position). at x d q a 0) (sym e)
in_place_is Clean count p d p_after d_after q a t e f =
    ap (λ (x : Position). at x d_after q a 0) (sym e)
    ∙ ap (λ (x : Position). at (host_position_after count p d) x q a 0) (sym f)

pub arrives : {R : Type 0} (prepare_gives : PrepareGives R) (apply_gives : ApplyGives R) (answer_of : AnswerOf R)
    (fate : Fate) (stage : HostStage) (device_stage : Stage) (bytes : List ℕ) (host : HostTransferState)
    (old : DevControlState R) (after : HostTransferState) (new : DevControlState R)
    → TransactsAt prepare_gives apply_gives answer_of fate stage device_stage bytes host old after new
    → ((fate ≡ TokenLost) × (after ≡ transfer_after_reply_at stage None host) × (new ≡ old))
    ⊎ (¬ (fate ≡ TokenLost)
    × Arrives prepare_gives apply_gives answer_of fate stage device_stage bytes host old after new)
arrives prepare_gives apply_gives answer_of TokenLost stage device_stage bytes host old after new (e, f) = inl (refl, e, f)
arrives prepare_gives apply_gives answer_of Clean stage device_stage bytes host old after new h = inr ((λ e. cc), h)
arrives prepare_gives apply_gives answer_of ReplyLost stage device_stage bytes host old after new h = inr ((λ e. cc), h)
arrives prepare_gives apply_gives answer_of AckLost stage device_stage bytes host old after new h = inr ((λ e. cc), h)

-- a try that arrives, of the piece that the host waits for
read_level : {R : Type 0} (prepare_gives : PrepareGives R) (apply_gives : ApplyGives R) (answer_of : AnswerOf R)
    (len : ℕ) (sends : List ℕ) (fate : Fate) (k : ℕ) (x : Option (List ℕ)) (a : Bool) (t : ℕ)
    (host : HostTransferState) (old : DevControlState R) (after : HostTransferState) (new : DevControlState R)
    → let shape = shaped true len in let count =
    read_pieces len (length (cut_of len x)) in ¬ (fate ≡ TokenLost)
    → BothAreAt answer_of shape sends (at (Piece k) (Piece k) (Accepted x) a t) host old
    → Arrives prepare_gives apply_gives answer_of fate
    (tries.DataIn (piece_toggle k)) old.stage host.bytes host old after new
    → (new.requests ≡ old.requests)
    × TransferIsAt answer_of shape sends
    (place_after_in fate count (at (Piece k) (Piece k) (Accepted x) a t)) after new
read_level prepare_gives apply_gives answer_of len sends fate k x a t host old after new lost u h =
    let shape = shaped true len in
    let count = read_pieces len (length (cut_of len x)) in
    let f = facts_of len x k u.near.0 in
    let n = next_position count (Piece k) in
    let takes = level_takes len sends x k (Piece k) a t host f u.sender in
    let h' = subst
    (λ (s : Stage). Arrives prepare_gives apply_gives answer_of fate
    (tries.DataIn (piece_toggle k)) s host.bytes host old after new) (rw f.some at u.device.0) h in
    let shown =
    read_arrives prepare_gives apply_gives answer_of len sends fate k k n x a t host
    (got_host host (bytes_before (cut_of len x) n) (host_stage shape n)) old after new lost f
    (u.device.1 refl) u takes
    (record { asked = u.sender.asked; stage = refl; bytes = refl; tries = refl })
    (near_late len x k a _ f.some f.more f.last)
    (near_next len x k a _ f.some f.more)
    h'
    in (
      shown.0,
      subst (λ (p : Place). TransferIsAt answer_of shape sends p after new)
          (in_place_is fate count (Piece k) (Piece k) n n (Accepted x) a t (rw (same_number k) refl) refl) shown.1,
    )

-- a try that arrives, of the piece that the host has already
read_behind : {R : Type 0} (prepare_gives : PrepareGives R) (apply_gives : ApplyGives R) (answer_of : AnswerOf R)
    (len : ℕ) (sends : List ℕ) (fate : Fate) (j : ℕ) (x : Option (List ℕ)) (a : Bool) (t : ℕ)
    (host : HostTransferState) (old : DevControlState R) (after : HostTransferState) (new : DevControlState R)
    → let shape = shaped true len in let count =
    read_pieces len (length (cut_of len x)) in ¬ (fate ≡ TokenLost)
    → BothAreAt answer_of shape sends (at (Piece (suc j)) (Piece j) (Accepted x) a t) host old
    → Arrives prepare_gives apply_gives answer_of fate
    (tries.DataIn (piece_toggle (suc j))) old.stage host.bytes host old after new
    → (new.requests ≡ old.requests)
    × TransferIsAt answer_of shape sends
    (place_after_in fate count (at (Piece (suc j)) (Piece j) (Accepted x) a t)) after new
read_behind prepare_gives apply_gives answer_of len sends fate j x a t host old after new lost u h =
    let shape = shaped true len in
    let count = read_pieces len (length (cut_of len x)) in
    let f = facts_of len x j (omega (arith, u.near.0)) in
    let d_after : next_position count (Piece j) ≡ Piece (suc j) = rw (lt-ltb (suc j) count u.near.0) refl in
    let takes = behind_takes len sends x j (Piece j) a t host (piece_from (cut_of len x) (8 * j)) u.sender in
    let h' = subst
    (λ (s : Stage). Arrives prepare_gives apply_gives answer_of fate
    (tries.DataIn (piece_toggle (suc j))) s host.bytes host old after new) (rw f.some at u.device.0) h in
    let shown =
    read_arrives prepare_gives apply_gives answer_of len sends fate (suc j) j (Piece (suc j)) x a t host
    (with_stage host.stage host) old after new lost f (u.device.1 refl) u takes
    (record { asked = u.sender.asked; stage = u.sender.stage; bytes = u.sender.bytes; tries = refl })
    (u.near.0, inr (j, refl, refl))
    (rw d_after (u.near.0, inl refl))
    h'
    in (
      shown.0,
      subst (λ (p : Place). TransferIsAt answer_of shape sends p after new)
          (in_place_is fate count (Piece (suc j)) (Piece j) (Piece (suc j)) (next_position count (Piece j))
          (Accepted x) a t (rw (other_number j) refl) refl) shown.1,
    )

pub read_shown : {R : Type 0} (prepare_gives : PrepareGives R) (apply_gives : ApplyGives R) (answer_of : AnswerOf R)
    (len : ℕ) (sends : List ℕ) (fate : Fate) (k : ℕ) (d : Position) (x : Option (List ℕ)) (a : Bool) (t : ℕ)
    (host : HostTransferState) (old : DevControlState R) (after : HostTransferState) (new : DevControlState R)
    → let shape = shaped true len in let count =
    read_pieces len (length (cut_of len x)) in
    BothAreAt answer_of shape sends (at (Piece k) d (Accepted x) a t) host old
    → TransactsAt prepare_gives apply_gives answer_of fate
    (tries.DataIn (piece_toggle k)) old.stage host.bytes host old after new
    → (new.requests ≡ old.requests)
    × TransferIsAt answer_of shape sends (place_after_in fate count (at (Piece k) d (Accepted x) a t)) after new
read_shown prepare_gives apply_gives answer_of len sends fate k d x a t host old after new u tr =
    let shape = shaped true len in
    let count = read_pieces len (length (cut_of len x)) in
    elim (arrives prepare_gives apply_gives answer_of fate
    (tries.DataIn (piece_toggle k)) old.stage host.bytes host old after new tr) [
      | inl h ↦ (
        ap (λ (c : DevControlState _). c.requests) h.2,
        subst (λ (y : Fate). TransferIsAt answer_of shape sends
            (place_after_in y count (at (Piece k) d (Accepted x) a t)) after new) (sym h.0)
            (moved answer_of shape sends (place_after_silence (at (Piece k) d (Accepted x) a t)) _ after _ new
            (h.1 ∙ none_taken (tries.DataIn (piece_toggle k)) host tt) h.2
            (silent_stands answer_of shape sends (Piece k) d (Accepted x) a t host old u)),
      )
      | inr h ↦ elim u.near.1 [
        | inl level ↦
            subst (λ (p : Position). (new.requests ≡ old.requests)
            × TransferIsAt answer_of shape sends
            (place_after_in fate count (at (Piece k) p (Accepted x) a t)) after new) (sym level)
            (read_level prepare_gives apply_gives answer_of len sends fate k x a t host old after new h.0
            (subst (λ (p : Position). BothAreAt answer_of shape sends
            (at (Piece k) p (Accepted x) a t) host old) level u) h.1)
        | inr behind ↦
            let v = subst
            (λ (p : Position). BothAreAt answer_of shape sends
            (at (Piece k) p (Accepted x) a t) host old) behind.2 u in
            subst (λ (p : Position). (new.requests ≡ old.requests)
            × TransferIsAt answer_of shape sends
            (place_after_in fate count (at (Piece k) p (Accepted x) a t)) after new) (sym behind.2)
            (subst (λ (i : ℕ). BothAreAt answer_of shape sends
            (at (Piece i) (Piece behind.0) (Accepted x) a t) host old
            → Arrives prepare_gives apply_gives answer_of fate
            (tries.DataIn (piece_toggle i)) old.stage host.bytes host old after new
            → (new.requests ≡ old.requests)
            × TransferIsAt answer_of shape sends
            (place_after_in fate count (at (Piece i) (Piece behind.0) (Accepted x) a t)) after new) behind.1
            (λ w g. read_behind prepare_gives apply_gives answer_of len sends fate behind.0 x a t host old after new h.0 w g) v h.1)
      ]
    ]
