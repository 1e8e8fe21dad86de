use Rattle.std.proofs.Common.{◌≡◌, ◌-◌, ◌+◌, ◌∙◌, ap, refl, subst, arith}
use Rattle.hid_layout.specs.Controls.{items_of, form_at}
use Rattle.hid_layout.proofs.FindLemmas.{starts_at}
use Rattle.lab_lines.specs.ControlNames.{place_count}
use Rattle.lab_lines.proofs.ControlLemmas.{IsLeft, found_from, place_passed, place_found, place_counted, places_end}
use Rattle.lab_lines.proofs.RangeLemmas.{none_passed}
use Rattle.lab_lines.proofs.control_name.control_in_item.Goals as goal
use Rattle.lab_lines.proofs.control_name.control_in_item.Goals.{then-is_found+else-left-eq0, else-is_found}

pub loop-index-init : goal.loop-index-init
loop-index-init c =
    let form = form_at (items_of c.args.layout.now) c.args.item in
    let whole : place_count form ≡ place_count form - 0 = omega arith in
    let first =
    ap (λ m. found_from c.args.sought form c.args.item 0 m) whole
    ∙ none_passed c.args.layout.now c.args.item c.entries-entries.result.now c.args.sought (place_count form) 0 c.next_place-index.result c.requires c.entries-entries.ensures c.next_place-index.ensures.order c.next_place-index.ensures.passed in (
      grind arith,
      subst (λ l. IsLeft (found_from c.args.sought form c.args.item 0 (place_count form)) c.args.before l c.args.before) first (refl, omega arith),
    )

pub returns-then-left-eq0 : goal.returns-then-left-eq0
returns-then-left-eq0 c =
    let n = place_count (form_at (items_of c.args.layout.now) c.args.item) in
    place_found (items_of c.args.layout.now) c.args.sought c.args.item c.loop-index.index (n - c.loop-index.index) (n - (c.loop-index.index + 1)) _ c.args.before c.loop-index.left _ (omega (arith, c.loop-index.invariant.0)) c.loop-index.invariant.1
    c.is_found.ensures c.if-is_found.true c.if-left-eq0.true

pub next_place-index-requires-in-loop-index : goal.next_place-index-requires-in-loop-index
next_place-index-requires-in-loop-index c = starts_at _ c.args.layout.now.entries c.args.item c.starts-starts.result.now c.entries-entries.result.now refl c.starts-starts.ensures c.entries-entries.ensures

pub loop-index-preserved : goal.loop-index-preserved
loop-index-preserved c =
    let layout = c.args.layout.now in
    let item = c.args.item in
    let index = c.loop-index.index in
    let form = form_at (items_of layout) item in
    let n = place_count form in
    let all = found_from c.args.sought form item 0 n in
    let one : n - index ≡ (n - (index + 1)) + 1 = omega (arith, c.loop-index.invariant.0) in
    let left : IsLeft all c.args.before (found_from c.args.sought form item (index + 1) (n - (index + 1))) c.if-is_found.left = elim c.if-is_found.branch [
      | then-is_found+else-left-eq0 w ↦ subst (λ m. IsLeft all c.args.before (found_from c.args.sought form item (index + 1) (n - (index + 1))) m) (omega (arith, w.left-is))
          (place_counted (items_of layout) c.args.sought item index (n - index) (n - (index + 1)) all c.args.before c.loop-index.left _ (omega arith) c.loop-index.invariant.1 c.is_found.ensures w.if-is_found.true (omega arith))
      | else-is_found w ↦ subst (λ m. IsLeft all c.args.before (found_from c.args.sought form item (index + 1) (n - (index + 1))) m) (omega (arith, w.left-is))
          (place_passed (items_of layout) c.args.sought item index (n - index) (n - (index + 1)) all c.args.before c.loop-index.left _ (omega arith) c.loop-index.invariant.1 c.is_found.ensures w.if-is_found.false)
    ] in
    let next = c.next_place-index-in-loop-index in
    let passed = none_passed layout item c.entries-entries.result.now c.args.sought n (index + 1) next.result c.requires c.entries-entries.ensures next.ensures.order next.ensures.passed in (
      c.loop-index.invariant.0,
      subst (λ l. IsLeft all c.args.before l c.if-is_found.left) passed left,
    )

pub returns : goal.returns
returns c =
    let form = form_at (items_of c.args.layout.now) c.args.item in
    places_end c.args.sought form c.args.item c.loop-index.index (place_count form - c.loop-index.index) _ c.args.before c.loop-index.left (omega (arith, c.loop-index.invariant.0)) c.loop-index.invariant.1
