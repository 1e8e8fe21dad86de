-- A report that is cut in packets ends at its receiver with the last of them.
use Rattle.std.proofs.Common.{◌≡◌, ℕ, zero, suc, ◌+◌, ◌*◌, ◌%◌, ◌<◌, ◌≤◌, refl, sym, ◌∙◌, ap, Bool, true, false, cond, List, [], ◌∷◌, ◌++◌, length, length-append, length-drop, take, drop, append_assoc, Option, Some, None, Result, Ok, Err, arith}
use Rattle.std.specs.Prelude.{max, nat_le, nat_lt, not, ◌==◌, ◌&&◌, ◌||◌, option_map, position}
use Rattle.std.specs.Option.{option_and_then}
use Rattle.std.proofs.Math.Nat.{mod_self}
use Rattle.std.proofs.lemmas.Bool.{eq-eqb, le-leb, lt-leb, ne_eqb}
use Rattle.std.proofs.lemmas.List.{length-take-le, take-append-drop}
use Rattle.hid_layout.specs.Layout.{Contents}
use Rattle.hid_layout.specs.Reports.{report_bytes}
use Rattle.hid_snapshots.specs.declared.fault.ReportFault.{ReportFault}
use Rattle.hid_snapshots.specs.declared.fault.ReportFault.TheVariants.{Short, UnknownReport}
use Rattle.hid_usages.specs.Reading.{first_byte, is_input_with, report_begun, report_named, whole_report}
use Rattle.hid_driver.specs.Pipe.{has_packet_past, is_full, length_begun, transfer_ends}
use Rattle.hid_driver.specs.Transfers.{HasNonePast, IsReport, Last, ReportEnds, cut_in_packets, ends_after, sent_bytes}

-- the report that bytes are is the one that they begin
whole_by : (short : Bool) (k r : ℕ) → ◌≡◌ {A = Result ℕ ReportFault} (cond short (Err Short) (Ok k)) (Ok r) → ◌≡◌ {A = Option ℕ} (Some k) (Some r)
whole_by true k r is = let wrong : ◌≡◌ {A = Result ℕ ReportFault} (Err Short) (Ok r) = is in cc
whole_by false k r is = let same : ◌≡◌ {A = Result ℕ ReportFault} (Ok k) (Ok r) = is in cc

whole_is : (layout : Contents) (bytes : List ℕ) (o : Option ℕ) (r : ℕ) → whole_report layout bytes o ≡ Ok r → o ≡ Some r
whole_is layout bytes None r is = let wrong : ◌≡◌ {A = Result ℕ ReportFault} (Err UnknownReport) (Ok r) = is in cc
whole_is layout bytes (Some k) r is = whole_by (nat_lt (length bytes) (report_bytes layout k)) k r is

begun_is : (layout : Contents) (bytes : List ℕ) (numbered : Bool) (first : Option ℕ) (r : ℕ)
    → cond numbered
    (elim first as (λ _. Result ℕ ReportFault) [ None ↦ Err Short | Some id ↦ whole_report layout bytes (position (is_input_with id) layout.reports) ])
    (whole_report layout bytes (position (is_input_with 0) layout.reports)) ≡ Ok r
    → cond numbered (option_and_then (λ id. position (is_input_with id) layout.reports) first) (position (is_input_with 0) layout.reports) ≡ Some r
begun_is layout bytes false first r is = whole_is layout bytes (position (is_input_with 0) layout.reports) r is
begun_is layout bytes true None r is = let wrong : ◌≡◌ {A = Result ℕ ReportFault} (Err Short) (Ok r) = is in cc
begun_is layout bytes true (Some id) r is = whole_is layout bytes (position (is_input_with id) layout.reports) r is

pub report_begins : (layout : Contents) (bytes : List ℕ) (r : ℕ) → report_named layout bytes ≡ Ok r → report_begun layout bytes ≡ Some r
report_begins layout bytes r named = begun_is layout bytes layout.numbered (first_byte bytes) r named

-- the beginning of a report begins it too
pub same_first : (layout : Contents) (front bytes : List ℕ) (r : ℕ) → first_byte front ≡ first_byte bytes → report_begun layout bytes ≡ Some r
    → report_begun layout front ≡ Some r
same_first layout front bytes r same begun =
    ap (λ (first : Option ℕ). cond layout.numbered (option_and_then (λ id. position (is_input_with id) layout.reports) first)
    (position (is_input_with 0) layout.reports)) same ∙ begun

front_begins : (layout : Contents) (front bytes : List ℕ) (r : ℕ) → first_byte front ≡ first_byte bytes → report_named layout bytes ≡ Ok r
    → length_begun layout front ≡ Some (report_bytes layout r)
front_begins layout front bytes r same named =
    ap (option_map (report_bytes layout)) (same_first layout front bytes r same (report_begins layout bytes r named))

first_of_front : (earlier left : List ℕ) (size : ℕ) → 0 < size → 0 < length left → first_byte (earlier ++ take size left) ≡ first_byte (earlier ++ left)
first_of_front (y ∷ ys) left size some any = refl
first_of_front [] [] size some any = absurd (omega arith)
first_of_front [] (x ∷ xs) zero some any = absurd (omega arith)
first_of_front [] (x ∷ xs) (suc size) some any = refl

-- a full packet is received as one
packet_is_full : (size : ℕ) → 0 < size → is_full size size ≡ true
packet_is_full size some =
    ap (λ (b : Bool). not b && ((size % size) == 0)) (ne_eqb size 0 (λ e. absurd (omega (arith, e, some))))
    ∙ eq-eqb (size % size) 0 (mod_self size)

-- a packet with which a report goes on, and the last one
goes_on : (size : ℕ) (layout : Contents) (front : List ℕ) (awaited last : ℕ) → 0 < size → last ≡ size
    → length_begun layout front ≡ Some awaited → length front < awaited → ends_after size layout front last ≡ false
goes_on size layout front awaited last some is begun few =
    ap (λ (o : Option ℕ). transfer_ends size o (length front) last) begun
    ∙ ap (λ (n : ℕ). not (is_full size n) || nat_le awaited (length front)) is
    ∙ ap (λ (b : Bool). not b || nat_le awaited (length front)) (packet_is_full size some) ∙ lt-leb awaited (length front) few

ends : (last : Bool) (awaited came : ℕ) → awaited ≤ came → (last || nat_le awaited came) ≡ true
ends true awaited came enough = refl
ends false awaited came enough = le-leb awaited came enough

ends_with_all : (size : ℕ) (layout : Contents) (whole : List ℕ) (awaited last : ℕ) → length_begun layout whole ≡ Some awaited → awaited ≤ length whole
    → ends_after size layout whole last ≡ true
ends_with_all size layout whole awaited last begun all =
    ap (λ (o : Option ℕ). transfer_ends size o (length whole) last) begun ∙ ends (not (is_full size last)) awaited (length whole) all

-- nothing lies past the end of what is no longer than its report
none_past : (size : ℕ) (layout : Contents) (front : List ℕ) (awaited : ℕ) → length_begun layout front ≡ Some awaited → length front ≤ awaited
    → HasNonePast size layout front
none_past size layout front awaited begun few =
    ap (λ (o : Option ℕ). has_packet_past size o (length front)) begun
    ∙ lt-leb (max awaited 1 + max size 1) (length front) (omega (arith, few))

-- the last transfer of a report
last_ends : (size : ℕ) (layout : Contents) (whole earlier left : List ℕ) → earlier ++ left ≡ whole → IsReport layout whole → ReportEnds size layout earlier (Last left)
last_ends size layout whole earlier left all is =
    let len : length (earlier ++ left) ≡ length whole = ap (λ (bs : List ℕ). length bs) all in
    let bytes = is.whole in
    let awaited : ℕ = report_bytes layout is.report in
    let begun = front_begins layout (earlier ++ left) whole is.report (ap first_byte all) is.named in (
      none_past size layout (earlier ++ left) awaited begun (omega (arith, len, bytes)),
      ends_with_all size layout (earlier ++ left) awaited (length left) begun (omega (arith, len, bytes)),
    )

packets_end : (size full : ℕ) (layout : Contents) (whole earlier left : List ℕ) → 0 < size → earlier ++ left ≡ whole → IsReport layout whole
    → size * full < length left → ReportEnds size layout earlier (cut_in_packets size full left)
packets_end size zero layout whole earlier left some all is long = last_ends size layout whole earlier left all is
packets_end size (suc full) layout whole earlier left some all is long =
    let product : size * suc full ≡ size + size * full = omega arith in
    let fits : size ≤ length left = omega (arith, product, long) in
    let piece : List ℕ = take size left in
    let taken : length piece ≡ size = length-take-le size left fits in
    let split : piece ++ drop size left ≡ left = take-append-drop size left in
    let rest : length (drop size left) + size ≡ length left = omega (arith, length-drop size left, fits) in
    let len : length (earlier ++ piece) ≡ length earlier + size = length-append earlier piece ∙ ap (λ (n : ℕ). length earlier + n) taken in
    let total : length earlier + length left ≡ length whole = sym (length-append earlier left) ∙ ap (λ (bs : List ℕ). length bs) all in
    let bytes = is.whole in
    let awaited : ℕ = report_bytes layout is.report in
    let first : first_byte (earlier ++ piece) ≡ first_byte whole =
    first_of_front earlier left size some (omega (arith, fits, some)) ∙ ap first_byte all in
    let begun = front_begins layout (earlier ++ piece) whole is.report first is.named in
    let after : (earlier ++ piece) ++ drop size left ≡ whole = append_assoc earlier piece (drop size left) ∙ ap (λ (bs : List ℕ). earlier ++ bs) split ∙ all in (
      none_past size layout (earlier ++ piece) awaited begun (omega (arith, len, total, bytes, fits)),
      goes_on size layout (earlier ++ piece) awaited (length piece) some taken begun (omega (arith, len, total, bytes, rest, long, product)),
      packets_end size full layout whole (earlier ++ piece) (drop size left) some after is (omega (arith, rest, long, product)),
    )

pub report_in_packets : (size full : ℕ) (layout : Contents) (bytes : List ℕ) → 0 < size → IsReport layout bytes → size * full < length bytes
    → ReportEnds size layout [] (cut_in_packets size full bytes)
report_in_packets size full layout bytes some is long = packets_end size full layout bytes [] bytes some refl is long

pub report_at_once : (size : ℕ) (layout : Contents) (bytes : List ℕ) → IsReport layout bytes → ReportEnds size layout [] (Last bytes)
report_at_once size layout bytes is = last_ends size layout bytes [] bytes refl is

pub all_in_packets : (size full : ℕ) (bytes : List ℕ) → sent_bytes (cut_in_packets size full bytes) ≡ bytes
all_in_packets size zero bytes = refl
all_in_packets size (suc full) bytes =
    ap (λ (bs : List ℕ). take size bytes ++ bs) (all_in_packets size full (drop size bytes)) ∙ take-append-drop size bytes
