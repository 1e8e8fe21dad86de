-- The items of a plan stand in the order of their bits, and those that are passed over aren't gone to.
use Rattle.std.proofs.Common.{All, ◌≡◌, ℕ, zero, suc, ◌+◌, ◌-◌, ◌<◌, ◌≤◌, ◌==◌, ◌++◌, ◌⊎◌, inl, inr, Bool, true, false, cond, List, [], ◌∷◌, length, map, drop, get_or, Some, refl, sym, ap, ◌∙◌, subst, arith}
use Rattle.std.specs.List.{slice_get}
use Rattle.std.proofs.lemmas.Option.{slice_get_within, slice_get-get_or}
use Rattle.hid_report_descriptor.specs.Fields.{is_padding}
use Rattle.hid_layout.specs.declared.main_item.MainItem.{MainItem}
use Rattle.hid_layout.specs.Layout.{Contents}
use Rattle.hid_layout.specs.Reports.{IsLayout}
use Rattle.hid_layout.specs.ArrayCodes.{places_from, plan_of}
use Rattle.hid_snapshots.specs.declared.control_state.ControlState.{ControlState}
use Rattle.hid_snapshots.specs.declared.event.Event.{Event}
use Rattle.hid_snapshots.specs.Parts.{IsInput}
use Rattle.hid_snapshots.proofs.ItemLemmas.{got, set_same}
use Rattle.hid_snapshots.proofs.PlanLemmas.{IsAlong, along_start, along_step}
use Rattle.hid_usages.specs.declared.changed_bits.BitSpan.{BitSpan}
use Rattle.hid_usages.specs.declared.plan.PlannedItem.{PlannedItem}
use Rattle.hid_usages.specs.declared.plan.ReportPlan.{ReportPlan}
use Rattle.hid_usages.specs.declared.plan.PlannedKind.TheVariants as kind
use Rattle.hid_usages.specs.Plans.{place_of, IsPlan, IsPlannedItem, IsInOrder, IsPassed, ArePassed}
use Rattle.hid_usages.specs.Known.{Knows}
use Rattle.hid_usages.specs.Taking.{state_after_report_at, events_of_report_at, events_from_item, read_events}
use Rattle.hid_usages.proofs.BitLemmas.{same_number}
use Rattle.hid_usages.proofs.TakeLemmas.{HasTaken, taking_skips, read_start, read_next, events_from_item-next}
use Rattle.hid_usages.proofs.FixedLemmas.{padding_stays}
use Rattle.hid_usages.proofs.PassingLemmas.{place_at, planned_as, padding_planned, planned_there, next_planned, place_known, passed_stays, passed_silent}

-- a place is that of an item of the report
record IsPlaceFrom (i r p : ℕ) (items : List MainItem) : Type 0 where
  index : ℕ
  at : p ≡ i + index
  item : MainItem
  there : slice_get items index ≡ Some item
  in_report : (item.report == r) ≡ true

one_further : (i r p : ℕ) (item : MainItem) (items : List MainItem) → IsPlaceFrom (i + 1) r p items → IsPlaceFrom i r p (item ∷ items)
one_further i r p item items f = record { index = suc f.index; at = omega (arith, f.at); item = f.item; there = f.there; in_report = f.in_report }

place_from : (i r k p : ℕ) (items : List MainItem) → slice_get (places_from i r items) k ≡ Some p → IsPlaceFrom i r p items
place_from i r k p [] h = absurd (cc)
place_from i r k p (item ∷ items) h = by_report (item.report == r) refl k h (λ j g. place_from (i + 1) r j p items g)
  where
    by_report : (t : Bool) → (item.report == r) ≡ t → (k : ℕ) → slice_get (cond t (i ∷ places_from (i + 1) r items) (places_from (i + 1) r items)) k ≡ Some p
        → ((j : ℕ) → slice_get (places_from (i + 1) r items) j ≡ Some p → IsPlaceFrom (i + 1) r p items) → IsPlaceFrom i r p (item ∷ items)
    by_report true e zero g later =
        let at : i ≡ p = cc in
        record { index = 0; at = omega (arith, at); item = item; there = refl; in_report = e }
    by_report true e (suc k) g later = one_further i r p item items (later k g)
    by_report false e k g later = one_further i r p item items (later k g)

-- later places are greater
places_rise : (i r j k a b : ℕ) (items : List MainItem) → j < k → slice_get (places_from i r items) j ≡ Some a → slice_get (places_from i r items) k ≡ Some b → a < b
places_rise i r j k a b [] lt h g = absurd (cc)
places_rise i r j k a b (item ∷ items) lt h g = by_report (item.report == r) j k lt h g (λ m n e x y. places_rise (i + 1) r m n a b items e x y)
  where
    by_report : (t : Bool) (j k : ℕ) → j < k → slice_get (cond t (i ∷ places_from (i + 1) r items) (places_from (i + 1) r items)) j ≡ Some a
        → slice_get (cond t (i ∷ places_from (i + 1) r items) (places_from (i + 1) r items)) k ≡ Some b
        → ((m n : ℕ) → m < n → slice_get (places_from (i + 1) r items) m ≡ Some a → slice_get (places_from (i + 1) r items) n ≡ Some b → a < b) → a < b
    by_report false j k lt h g later = later j k lt h g
    by_report true (suc j) (suc k) lt h g later = later j k (omega arith) h g
    by_report true zero (suc k) lt h g later =
        let at : i ≡ a = cc in
        let f = place_from (i + 1) r k b items g in
        omega (arith, at, f.at)
    by_report true zero zero lt h g later = absurd (omega arith)
    by_report true (suc j) zero lt h g later = absurd (omega arith)

-- an item of the plan of a report is of that report
pub in_plan : (layout : Contents) (r k p : ℕ) (m : MainItem) → slice_get (plan_of layout r) k ≡ Some p → slice_get layout.items p ≡ Some m → m.report ≡ r
in_plan layout r k p m h listed =
    let f = place_from 0 r k p layout.items h in
    let at : f.index ≡ p = omega (arith, f.at) in
    let there : slice_get layout.items p ≡ Some f.item = subst (λ (n : ℕ). slice_get layout.items n ≡ Some f.item) at f.there in
    let same : Some f.item ≡ Some m = sym there ∙ listed in
    let is : f.item ≡ m = cc in
    ap (λ (x : MainItem). x.report) (sym is) ∙ same_number f.item.report r f.in_report

-- planned items stand in the order of their bits
pub plan_in_order : (layout : Contents) (r : ℕ) (items : List PlannedItem) → IsLayout layout → map place_of items ≡ plan_of layout r → All (IsPlannedItem layout) items → IsInOrder items
plan_in_order layout r items laid places each = record {
  forward = λ k item h.
      let p = planned_there layout items k item each h in
      omega (arith, p.end);
  apart = λ j k a b lt h g.
      let p = planned_there layout items j a each h in
      let q = planned_there layout items k b each g in
      let at_j : slice_get (plan_of layout r) j ≡ Some a.place = ap (λ (ps : List ℕ). slice_get ps j) (sym places) ∙ place_at items j a h in
      let at_k : slice_get (plan_of layout r) k ≡ Some b.place = ap (λ (ps : List ℕ). slice_get ps k) (sym places) ∙ place_at items k b g in
      let rise = places_rise 0 r j k a.place b.place layout.items lt at_j at_k in
      let same : p.item.report ≡ q.item.report = in_plan layout r j a.place p.item at_j p.listed ∙ sym (in_plan layout r k b.place q.item at_k q.listed) in
      let apart = laid.apart a.place b.place p.item q.item rise p.listed q.listed same in
      omega (arith, p.first, p.end, q.first, apart);
}

-- What is known when a report is read by its plan: its last one leaves the view.
pub record IsKnownPlan (layout : Contents) (r : ℕ) (bytes last : List ℕ) (span : BitSpan) (plan : List PlannedItem) (start now : List ControlState) : Type 0 where
  pub laid : IsLayout layout
  pub input : IsInput layout r
  pub places : map place_of plan ≡ plan_of layout r
  pub each : All (IsPlannedItem layout) plan
  pub known : Knows layout r bytes last span start
  pub all : length start ≡ length layout.items
  pub same : length now ≡ length start

pub known_plan : (layout : Contents) (r : ℕ) (bytes last : List ℕ) (span : BitSpan) (plan : ReportPlan) (start now : List ControlState) → IsLayout layout → IsInput layout r → IsPlan layout r plan → Knows layout r bytes last span start
    → length start ≡ length layout.items → length now ≡ length start → IsKnownPlan layout r bytes last span plan.items.items start now
known_plan layout r bytes last span plan start now laid input is known all same =
    record { laid = laid; input = input; places = is.places; each = is.each; known = known; all = all; same = same }

-- an item that is passed over, or padding, is read so
passed_step : (layout : Contents) (r : ℕ) (bytes last : List ℕ) (span : BitSpan) (plan : List PlannedItem) (start now : List ControlState) (before told : List Event) (len room k : ℕ) (item : PlannedItem)
    → IsKnownPlan layout r bytes last span plan start now → slice_get plan k ≡ Some item → IsPassed item span ⊎ (item.kind ≡ kind.Padding)
    → IsAlong layout r k (HasTaken layout r bytes start now before told len room) → IsAlong layout r (k + 1) (HasTaken layout r bytes start now before told len room)
passed_step layout r bytes last span plan start now before told len room k item known there passed along =
    let skips = taking_skips layout r bytes start now before told len room known.all known.same in
    let next = next_planned layout r k plan _ item skips known.places there along in
    let i = item.place in
    let h = next.holds in
    let within : i < length start = omega (arith, known.all, slice_get_within layout.items i next.item next.listed) in
    let state = got now i (omega (arith, within, known.same)) in
    let is : state.0 ≡ get_or now i state.0 = let e : Some state.0 ≡ Some (get_or now i state.0) = sym state.1 ∙ slice_get-get_or now i state.0 (omega (arith, within, known.same)) in cc in
    let at_start = read_start layout r bytes start now i state.0 h.states within known.same in
    let p = planned_there layout plan k item known.each there in
    let as_planned = planned_as layout item next.item p next.listed in
    let of_report = same_number next.item.report r next.in_report in
    let here = place_known layout r bytes last span start i (get_or now i state.0) known.known at_start in
    let stays : state_after_report_at layout r bytes i (get_or now i state.0) ≡ get_or now i state.0 =
    elim passed [
      | inl over ↦ passed_stays layout r bytes last span item next.item (get_or now i state.0) known.laid p next.listed of_report over here
      | inr padding ↦ (padding_stays layout r bytes i next.item (get_or now i state.0) next.listed (ap is_padding (padding_planned next.item (sym as_planned.2 ∙ padding)))).0
    ] in
    let silent : events_of_report_at layout r bytes i (get_or now i state.0) ≡ [] =
    elim passed [
      | inl over ↦ passed_silent layout r bytes last span item next.item (get_or now i state.0) known.laid known.input p next.listed of_report over here
      | inr padding ↦ (padding_stays layout r bytes i next.item (get_or now i state.0) next.listed (ap is_padding (padding_planned next.item (sym as_planned.2 ∙ padding)))).1
    ] in
    let left : events_from_item layout r bytes i (drop i start) ≡ events_from_item layout r bytes (i + 1) (drop (i + 1) start) =
    events_from_item-next layout r bytes start i (get_or now i state.0) at_start
    ∙ ap (λ (es : List Event). es ++ events_from_item layout r bytes (i + 1) (drop (i + 1) start)) silent
    in
    along_step layout r k i _ _ next (record {
      states = sym (set_same now i state.0 state.1) ∙ read_next layout r bytes start now i state.0 state.0 h.states within known.same (is ∙ sym stays);
      events = rw (← left) h.events;
      fits = rw (← left) h.fits;
    })

-- so are n items in a row
pub passed_over : (layout : Contents) (r : ℕ) (bytes last : List ℕ) (span : BitSpan) (plan : List PlannedItem) (start now : List ControlState) (before told : List Event) (len room n k : ℕ)
    → IsKnownPlan layout r bytes last span plan start now → k + n ≤ length plan → ((j : ℕ) (item : PlannedItem) → slice_get plan j ≡ Some item → k ≤ j → j < k + n → IsPassed item span ⊎ (item.kind ≡ kind.Padding))
    → IsAlong layout r k (HasTaken layout r bytes start now before told len room) → IsAlong layout r (k + n) (HasTaken layout r bytes start now before told len room)
passed_over layout r bytes last span plan start now before told len room zero k known within passed along =
    subst (λ (m : ℕ). IsAlong layout r m (HasTaken layout r bytes start now before told len room)) (let e : k ≡ k + 0 = omega arith in e) along
passed_over layout r bytes last span plan start now before told len room (suc n) k known within passed along =
    let item = got plan k (omega (arith, within)) in
    let next = passed_step layout r bytes last span plan start now before told len room k item.0 known item.1 (passed k item.0 item.1 (omega arith) (omega arith)) along in
    let rest = passed_over layout r bytes last span plan start now before told len room n (k + 1) known (omega (arith, within)) (λ j x h low high. passed j x h (omega arith) (omega arith)) next in
    subst (λ (m : ℕ). IsAlong layout r m (HasTaken layout r bytes start now before told len room)) (let e : (k + 1) + n ≡ k + suc n = omega arith in e) rest

-- up to an item after those that are passed
pub passed_to : (layout : Contents) (r : ℕ) (bytes last : List ℕ) (span : BitSpan) (plan : List PlannedItem) (start now : List ControlState) (before told : List Event) (len room from k : ℕ)
    → IsKnownPlan layout r bytes last span plan start now → from ≤ k → k ≤ length plan → ArePassed plan span from k
    → IsAlong layout r from (HasTaken layout r bytes start now before told len room) → IsAlong layout r k (HasTaken layout r bytes start now before told len room)
passed_to layout r bytes last span plan start now before told len room from k known order within passed along =
    let at : from + (k - from) ≡ k = omega (arith, order) in
    let over = passed_over layout r bytes last span plan start now before told len room (k - from) from known (omega (arith, order, within)) (λ j item there low high. inl (passed j item there low (omega (arith, high, order)))) along in
    subst (λ (m : ℕ). IsAlong layout r m (HasTaken layout r bytes start now before told len room)) at over

-- before the first item nothing is taken
pub none_taken : (layout : Contents) (r : ℕ) (bytes : List ℕ) (start : List ControlState) (before : List Event) (len room : ℕ) → len + length (read_events layout r bytes start) ≤ room
    → IsAlong layout r 0 (HasTaken layout r bytes start start before before len room)
none_taken layout r bytes start before len room fits = along_start layout r (HasTaken layout r bytes start start before before len room) (record { states = refl; events = refl; fits = fits })
