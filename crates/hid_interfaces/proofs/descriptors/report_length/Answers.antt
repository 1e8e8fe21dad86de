use Rattle.std.proofs.Common.{◌≡◌, ◌≢◌, ℕ, ◌+◌, ◌-◌, ◌*◌, ◌<◌, ◌≤◌, inl, inr, List, [], ◌∷◌, Some, None, length, get_or, take, drop, refl, ap, sym, ◌∙◌, arith}
use Rattle.std.specs.Prelude.{min}
use Rattle.std.proofs.Math.ListN.{drop_of_length-le}
use Rattle.std.proofs.lemmas.List.{take_all, length-drop}
use Rattle.std.proofs.lemmas.Bool.{cases_lt}
use Rattle.std.proofs.lemmas.Bool.Decides.{nat_tests}
use Rattle.usb_control.specs.Descriptors.{report_entry, report_length}
use Rattle.hid_interfaces.proofs.descriptors.report_length.Goals as goal

-- the entries that the loop begins with
entries_of : (hid : List ℕ) (count : ℕ) → count ≡ min (length hid) 6 → report_length hid ≡ report_entry (take (length hid - count) (drop count hid))
entries_of hid count is =
    let whole : take (length hid - count) (drop count hid) ≡ drop count hid = take_all (length hid - count) (drop count hid) (omega (arith, length-drop count hid)) in
    elim (cases_lt (length hid) 6) [
      | inl short ↦
          ap report_entry (drop_of_length-le hid {i = 6} (omega arith))
          ∙ sym (ap report_entry (whole ∙ drop_of_length-le hid {i = count} (omega arith)))
      | inr long ↦
          let six : count ≡ 6 = omega arith in
          sym (ap report_entry (whole ∙ ap (λ (n : ℕ). drop n hid) six))
    ]

none_left : (entries : List ℕ) → length entries < 3 → None ≡ report_entry entries
none_left [] few = refl
none_left (kind ∷ []) few = refl
none_left (kind ∷ low ∷ []) few = refl
none_left (kind ∷ low ∷ high ∷ rest) few = absurd (omega arith)

entry_found : (entries : List ℕ) → 3 ≤ length entries → get_or entries 0 0 ≡ 34 → report_entry entries ≡ Some (get_or entries 1 0 + 256 * get_or entries 2 0)
entry_found [] some is = absurd (omega arith)
entry_found (kind ∷ []) some is = absurd (omega arith)
entry_found (kind ∷ low ∷ []) some is = absurd (omega arith)
entry_found (kind ∷ low ∷ high ∷ rest) some is = rw is refl

entry_passed : (entries : List ℕ) → 3 ≤ length entries → get_or entries 0 0 ≢ 34 → report_entry entries ≡ report_entry (take (length entries - 3) (drop 3 entries))
entry_passed [] some other = absurd (omega arith)
entry_passed (kind ∷ []) some other = absurd (omega arith)
entry_passed (kind ∷ low ∷ []) some other = absurd (omega arith)
entry_passed (kind ∷ low ∷ high ∷ rest) some other =
    let whole : take (length (kind ∷ low ∷ high ∷ rest) - 3) rest ≡ rest = take_all _ rest (omega arith) in
    let passed : report_entry (kind ∷ low ∷ high ∷ rest) ≡ report_entry rest = grind (arith, nat_tests) in
    passed ∙ sym (ap report_entry whole)

pub loop-entries-init : goal.loop-entries-init
loop-entries-init c = entries_of c.args.hid.now c.min.result c.min.ensures

pub loop-entries-preserved : goal.loop-entries-preserved
loop-entries-preserved c =
    let known : report_length c.args.hid.now ≡ report_entry c.loop-entries.entries.now = c.loop-entries.invariant in
    known ∙ entry_passed c.loop-entries.entries.now c.in-len3-up.len_at_least c.if-kind-eq-REPORT.false

pub returns : goal.returns
returns c =
    let known : report_length c.args.hid.now ≡ report_entry c.loop-entries.entries.now = c.loop-entries.invariant in
    none_left c.loop-entries.entries.now c.in_default.len_below ∙ sym known

pub returns-then-kind-eq-REPORT : goal.returns-then-kind-eq-REPORT
returns-then-kind-eq-REPORT c =
    let entries = c.loop-entries.entries.now in
    let known : report_length c.args.hid.now ≡ report_entry entries = c.loop-entries.invariant in
    let word : c.from_le_bytes.result ≡ get_or entries 1 0 + 256 * get_or entries 2 0 = omega (arith, c.from_le_bytes.ensures) in
    ap (λ (n : ℕ). Some n) word ∙ sym (known ∙ entry_found entries c.in-len3-up.len_at_least c.if-kind-eq-REPORT.true)
