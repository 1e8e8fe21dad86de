-- The submits that wait for a report, oldest first, and how often each is answered (USB/IP).
use Rattle.std.specs.Prelude.{◌≡◌, ℕ, ◌+◌, ◌==◌, nat_lt, Bool, true, false, if◌then◌else◌, List, [], ◌∷◌, ◌++◌, length, drop, Option, Some, None}
use Rattle.usbip.specs.declared.message.Status.{Status}
use Rattle.usbip.specs.declared.message.Status.TheVariants.{Success, Unlinked, NoMemory}
use Rattle.usbip.specs.declared.message.Submit.{Submit}
use Rattle.usbip.specs.declared.message.Unlink.{Unlink}
use Rattle.usbip.specs.declared.message.SubmitReply.{SubmitReply}
use Rattle.usbip.specs.declared.message.UnlinkReply.{UnlinkReply}
use Rattle.usbip.specs.declared.pending.TheConstants.{MAX_PENDING}
use Rattle.usbip.specs.declared.pending.PendingSubmit.{PendingSubmit}

-- ---- what waits

-- some submit of this number waits
abbrev pub is_pending : ℕ → List PendingSubmit → Bool
is_pending n [] = false
is_pending n (p ∷ ps) = if p.seqnum == n then true else is_pending n ps

-- what waits without the oldest submit of this number
abbrev pub without : ℕ → List PendingSubmit → List PendingSubmit
without n [] = []
without n (p ∷ ps) = if p.seqnum == n then ps else p ∷ without n ps

-- The reply to a submit that would wait: none, but where too many wait already.
abbrev pub reply_to_submit : List PendingSubmit → Submit → Option SubmitReply
reply_to_submit ps s =
    if nat_lt (length ps) MAX_PENDING then None
    else Some (record { seqnum = s.seqnum; status = NoMemory; length = 0 })

-- what waits after a submit
abbrev pub pending_after_submit : List PendingSubmit → Submit → List PendingSubmit
pending_after_submit ps s =
    if nat_lt (length ps) MAX_PENDING then ps ++ record { seqnum = s.seqnum; length = s.length } ∷ [] else ps

-- the reply to the oldest submit that waits
abbrev pub reply_to_oldest : List PendingSubmit → Status → ℕ → Option SubmitReply
reply_to_oldest [] status n = None
reply_to_oldest (p ∷ ps) status n = Some (record { seqnum = p.seqnum; status = status; length = n })

-- The reply to an unlink. Example: of a submit that was answered before it has the status 0
abbrev pub reply_to_unlink : List PendingSubmit → Unlink → UnlinkReply
reply_to_unlink ps u =
    record { seqnum = u.seqnum; status = if is_pending u.submit ps then Unlinked else Success }

-- what waits after an unlink
abbrev pub pending_after_unlink : List PendingSubmit → Unlink → List PendingSubmit
pending_after_unlink ps u = without u.submit ps

-- ---- whole connections

-- What happens to what waits: a submit comes, an unlink comes, or the oldest submit is answered.
pub data Happening : Type 0 where
  Submits : (submit : Submit) → Happening
  Unlinks : (unlink : Unlink) → Happening
  Answers : (status : Status) → (count : ℕ) → Happening

-- what waits after something happened
abbrev pub pending_after : List PendingSubmit → Happening → List PendingSubmit
pending_after ps (Submits s) = pending_after_submit ps s
pending_after ps (Unlinks u) = pending_after_unlink ps u
pending_after ps (Answers status count) = drop 1 ps

-- what waits after all of these
abbrev pub pending_after_all : List PendingSubmit → List Happening → List PendingSubmit
pending_after_all ps [] = ps
pending_after_all ps (h ∷ hs) = pending_after_all (pending_after ps h) hs

-- 1 for the same number, else 0
abbrev pub one_if_same : ℕ → ℕ → ℕ
one_if_same n m = if m == n then 1 else 0

-- how many submits of this number wait
abbrev pub waiting : ℕ → List PendingSubmit → ℕ
waiting n [] = 0
waiting n (p ∷ ps) = one_if_same n p.seqnum + waiting n ps

-- 1 where there is a reply and it is one to this submit, else 0
abbrev pub one_if_to : ℕ → Option SubmitReply → ℕ
one_if_to n None = 0
one_if_to n (Some r) = one_if_same n r.seqnum

-- how often a submit of this number comes where something happens
abbrev pub submits_at : ℕ → Happening → ℕ
submits_at n (Submits s) = one_if_same n s.seqnum
submits_at n (Unlinks u) = 0
submits_at n (Answers status count) = 0

-- How often a submit of this number is answered where something happens: by RET_SUBMIT with its number, or by RET_UNLINK with
-- -104 in its place. A RET_UNLINK with 0 answers no submit.
abbrev pub answers_at : ℕ → List PendingSubmit → Happening → ℕ
answers_at n ps (Submits s) = one_if_to n (reply_to_submit ps s)
answers_at n ps (Unlinks u) = if is_pending u.submit ps then one_if_same n u.submit else 0
answers_at n ps (Answers status count) = one_if_to n (reply_to_oldest ps status count)

-- how often submits of this number come
abbrev pub submits_of : ℕ → List Happening → ℕ
submits_of n [] = 0
submits_of n (h ∷ hs) = submits_at n h + submits_of n hs

-- how often they are answered
abbrev pub answers_to : ℕ → List PendingSubmit → List Happening → ℕ
answers_to n ps [] = 0
answers_to n ps (h ∷ hs) = answers_at n ps h + answers_to n (pending_after ps h) hs

-- Each submit is answered once: of each number as many as came, and waited before, are answered or wait still.
abbrev pub IsAnsweredOnce : List PendingSubmit → List Happening → Type 0
IsAnsweredOnce ps hs =
    (n : ℕ) → answers_to n ps hs + waiting n (pending_after_all ps hs) ≡ submits_of n hs + waiting n ps
