-- The pieces of a report end where its host ends it, and together they are the report.
use Rattle.std.proofs.Common.{◌≡◌, ◌++◌, ℕ, zero, suc, ◌+◌, ◌-◌, ◌*◌, ◌/◌, ◌<◌, ◌≤◌, ◌⊎◌, inl, inr, Bool, true, false, ◌||◌, cond, List, [], ◌∷◌, length, take, drop, refl, ap, sym, ◌∙◌, append_assoc, length-append, length-drop, arith}
use Rattle.std.specs.Prelude.{nat_le, nat_lt}
use Rattle.std.proofs.lemmas.Bool.Decides.{nat_tests}
use Rattle.std.proofs.lemmas.List.{length-take-le, take-append-drop}
use Rattle.std.proofs.Math.Nat.{div-add-mod, mod-lt, mul-suc}
use Rattle.hid_layout.specs.Layout.{Contents}
use Rattle.hid_usages.specs.Reading.{bytes_awaited}
use Rattle.hid_any_device.specs.Sender.{ReportPieces, Last, More, bytes_of_pieces}
use Rattle.hid_any_device.specs.PipeSteps.{PipeStep, Queues, Polls, Clears}
use Rattle.hid_any_device.specs.SendQueue.{crossed_reports, queue_after_all, queued_reports, queue_at_start, reports_waiting}
use Rattle.hid_any_device.specs.Delivery.{ReportsEnd, AllClearNone, ReportEnds, StepReportsEnd, AllReportsEnd}
use Rattle.hid_any_device.specs.ReportPieces.{AllQueueShortReports, AreShortReports, IsShortReport, QueuesShortReports, pieces_of_report, cut_pieces, full_packet_count, HasRoomInPackets, IsSentWhole, ByteStep, Gives, Asks, AllHaveRoom, DeliversGivenReports, pipe_steps_of, reports_given}
use Rattle.hid_any_device.proofs.QueueLemmas.{headline}
use Rattle.hid_any_device.proofs.OnceLemmas.{once_each}

cut_joined : (packet_size n : ℕ) (bytes : List ℕ) → bytes_of_pieces (cut_pieces packet_size n bytes) ≡ bytes
cut_joined packet_size zero bytes = refl
cut_joined packet_size (suc n) bytes =
    ap (λ (rest : List ℕ). take packet_size bytes ++ rest) (cut_joined packet_size n (drop packet_size bytes))
    ∙ take-append-drop packet_size bytes

-- what is awaited is known from the first byte on
awaited_on : (layout : Contents) (begun more : List ℕ) → 0 < length begun → bytes_awaited layout begun ≡ bytes_awaited layout (begun ++ more)
awaited_on layout [] more some = absurd (omega (arith, some))
awaited_on layout (byte ∷ begun) more some = refl

pub whole_last : (packet_size last awaited have : ℕ) → (last < packet_size) ⊎ (awaited ≤ have)
    → nat_lt last packet_size || nat_le awaited have ≡ true
whole_last packet_size last awaited have ends = grind (arith, nat_tests, ends)

not_whole : (packet_size last awaited have : ℕ) → last ≡ packet_size → have < awaited
    → nat_lt last packet_size || nat_le awaited have ≡ false
not_whole packet_size last awaited have full more = grind (arith, nat_tests, full, more)

one_packet_more : (packet_size n : ℕ) → packet_size * suc n ≡ packet_size + packet_size * n
one_packet_more packet_size n = omega (arith, mul-suc packet_size n)

-- n full packets and the last one, after what came before, by the bytes of those packets
abbrev pub CutEnds : ℕ → Contents → ℕ → ℕ → List ℕ → List ℕ → Type 0
CutEnds packet_size layout n full earlier bytes =
    full ≤ length bytes → length earlier + full < bytes_awaited layout (earlier ++ bytes)
    → (length bytes - full < packet_size) ⊎ (bytes_awaited layout (earlier ++ bytes) ≤ length earlier + length bytes)
    → ReportEnds packet_size layout earlier (cut_pieces packet_size n bytes)

pub cut_ends : (packet_size : ℕ) (layout : Contents) (n : ℕ) (earlier bytes : List ℕ) → 0 < packet_size
    → CutEnds packet_size layout n (packet_size * n) earlier bytes
cut_ends packet_size layout zero earlier bytes some enough few ends =
    let all = length-append earlier bytes in
    let none : packet_size * zero ≡ 0 = omega arith in
    whole_last packet_size (length bytes) (bytes_awaited layout (earlier ++ bytes)) (length (earlier ++ bytes)) (grind (arith, ends, all, none))
cut_ends packet_size layout (suc n) earlier bytes some enough few ends =
    let piece : List ℕ = take packet_size bytes in
    let rest : List ℕ = drop packet_size bytes in
    let more : packet_size * suc n ≡ packet_size + packet_size * n = one_packet_more packet_size n in
    let full : length piece ≡ packet_size = length-take-le packet_size bytes (omega (arith, enough, more)) in
    let left : length rest ≡ length bytes - packet_size = length-drop packet_size bytes in
    let have : length (earlier ++ piece) ≡ length earlier + packet_size = length-append earlier piece ∙ ap (λ (k : ℕ). length earlier + k) full in
    let same : (earlier ++ piece) ++ rest ≡ earlier ++ bytes = append_assoc earlier piece rest ∙ ap (λ (l : List ℕ). earlier ++ l) (take-append-drop packet_size bytes) in
    let known : bytes_awaited layout (earlier ++ piece) ≡ bytes_awaited layout (earlier ++ bytes) =
    awaited_on layout (earlier ++ piece) rest (omega (arith, have, some)) ∙ ap (bytes_awaited layout) same in
    let awaited : bytes_awaited layout ((earlier ++ piece) ++ rest) ≡ bytes_awaited layout (earlier ++ bytes) = ap (bytes_awaited layout) same in (
      not_whole packet_size (length piece) (bytes_awaited layout (earlier ++ piece)) (length (earlier ++ piece)) full (omega (arith, have, known, few, more)),
      cut_ends packet_size layout n (earlier ++ piece) rest some
          (omega (arith, left, enough, more))
          (omega (arith, have, awaited, few, more))
          (grind (arith, ends, left, have, awaited, enough, more)),
    )

enough_full : (packet_size have awaited : ℕ) (b : Bool) → nat_lt have awaited ≡ b
    → packet_size * cond b (have / packet_size) ((have - 1) / packet_size) ≤ have
enough_full packet_size have awaited true is = omega (arith, div-add-mod have packet_size)
enough_full packet_size have awaited false is = omega (arith, div-add-mod (have - 1) packet_size)

ends_so : (packet_size have awaited : ℕ) (b : Bool) → 0 < packet_size → nat_lt have awaited ≡ b
    → (have - packet_size * cond b (have / packet_size) ((have - 1) / packet_size) < packet_size) ⊎ (awaited ≤ have)
ends_so packet_size have awaited true some is = inl (omega (arith, div-add-mod have packet_size, mod-lt have some))
ends_so packet_size have awaited false some is = inr (grind (arith, nat_tests, is))

pub is_sent : (packet_size : ℕ) (layout : Contents) (bytes : List ℕ) → 0 < packet_size
    → HasRoomInPackets packet_size layout bytes → IsSentWhole packet_size layout bytes
is_sent packet_size layout bytes some awaited =
    let have : ℕ = length bytes in
    let all : ℕ = bytes_awaited layout bytes in
    record {
      ends = cut_ends packet_size layout (full_packet_count packet_size layout bytes) [] bytes some
          (enough_full packet_size have all (nat_lt have all) refl)
          (omega (arith, awaited))
          (grind (arith, ends_so packet_size have all (nat_lt have all) some refl));
      same = cut_joined packet_size (full_packet_count packet_size layout bytes) bytes;
    }

-- ---- reports by their bytes

all_keep : (packet_size : ℕ) (layout : Contents) (outcomes : List ByteStep) → 0 < packet_size → AllHaveRoom packet_size layout outcomes
    → AllReportsEnd packet_size layout (pipe_steps_of packet_size layout outcomes)
all_keep packet_size layout [] some room = tt
all_keep packet_size layout (Gives bytes ∷ outcomes) some room =
    ((is_sent packet_size layout bytes some room.0).ends, all_keep packet_size layout outcomes some room.1)
all_keep packet_size layout (Asks readiness fate ∷ outcomes) some room = (tt, all_keep packet_size layout outcomes some room.1)

all_steady : (packet_size : ℕ) (layout : Contents) (outcomes : List ByteStep) → AllClearNone (pipe_steps_of packet_size layout outcomes)
all_steady packet_size layout [] = tt
all_steady packet_size layout (Gives bytes ∷ outcomes) = (tt, all_steady packet_size layout outcomes)
all_steady packet_size layout (Asks readiness fate ∷ outcomes) = (tt, all_steady packet_size layout outcomes)

all_given : (packet_size : ℕ) (layout : Contents) (outcomes : List ByteStep)
    → reports_given outcomes ≡ queued_reports (pipe_steps_of packet_size layout outcomes)
all_given packet_size layout [] = refl
all_given packet_size layout (Gives bytes ∷ outcomes) =
    ap (λ (first : List ℕ). first ∷ reports_given outcomes) (sym (cut_joined packet_size (full_packet_count packet_size layout bytes) bytes))
    ∙ ap (λ (rest : List (List ℕ)). bytes_of_pieces (pieces_of_report packet_size layout bytes) ∷ rest) (all_given packet_size layout outcomes)
all_given packet_size layout (Asks readiness fate ∷ outcomes) = all_given packet_size layout outcomes

pub read_as_given : (packet_size : ℕ) (addr endpoint : ℕ) (layout : Contents) (outcomes : List ByteStep) → 0 < packet_size
    → AllHaveRoom packet_size layout outcomes → DeliversGivenReports packet_size addr endpoint layout outcomes
read_as_given packet_size addr endpoint layout outcomes some room =
    let steps : List PipeStep = pipe_steps_of packet_size layout outcomes in
    record {
      crossed = crossed_reports queue_at_start steps;
      left = reports_waiting (queue_after_all queue_at_start steps);
      order = all_given packet_size layout outcomes ∙ once_each steps (all_steady packet_size layout outcomes);
      are_crossed = refl;
      events = (headline packet_size addr endpoint layout steps (all_keep packet_size layout outcomes some room)).events;
    }

-- ---- short reports

short_ends : (packet_size : ℕ) (layout : Contents) (report : ReportPieces) → IsShortReport packet_size report → ReportEnds packet_size layout [] report
short_ends packet_size layout (Last bytes) short = whole_last packet_size (length bytes) (bytes_awaited layout bytes) (length bytes) (inl short)
short_ends packet_size layout (More bytes rest) short = absurd short

short_end : (packet_size : ℕ) (layout : Contents) (queue : List ReportPieces) → AreShortReports packet_size queue → ReportsEnd packet_size layout queue
short_end packet_size layout [] short = tt
short_end packet_size layout (report ∷ queue) short = (short_ends packet_size layout report short.0, short_end packet_size layout queue short.1)

short_keeps : (packet_size : ℕ) (layout : Contents) (x : PipeStep) → QueuesShortReports packet_size x → StepReportsEnd packet_size layout x
short_keeps packet_size layout (Queues report) short = short_ends packet_size layout report short
short_keeps packet_size layout (Polls readiness fate) short = tt
short_keeps packet_size layout (Clears queue) short = short_end packet_size layout queue short

pub short_keep : (packet_size : ℕ) (layout : Contents) (steps : List PipeStep) → AllQueueShortReports packet_size steps → AllReportsEnd packet_size layout steps
short_keep packet_size layout [] short = tt
short_keep packet_size layout (x ∷ steps) short = (short_keeps packet_size layout x short.0, short_keep packet_size layout steps short.1)
