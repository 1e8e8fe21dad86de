-- Items of a plan: as what they are read, and those that are passed over.
use Rattle.std.proofs.Common.{All, ◌≡◌, ◌≢◌, ℕ, ◌+◌, ◌*◌, ◌<◌, ◌≤◌, inl, inr, Bool, true, false, cond, List, [], ◌∷◌, ◌++◌, length, map, drop, Some, refl, sym, ap, ◌∙◌, subst, arith, get_or, zero, suc}
use Rattle.std.specs.List.{slice_get}
use Rattle.std.specs.Bool.{OnTrue}
use Rattle.std.proofs.Math.Nat.{mul-le-mul_left}
use Rattle.std.proofs.lemmas.Bool.{cases_Bool}
use Rattle.std.proofs.lemmas.List.Elements.{All-push}
use Rattle.std.proofs.lemmas.Option.{slice_get_within, slice_get-get_or}
use Rattle.hid_fields.specs.Field.{bit_of}
use Rattle.hid_fields.specs.Value.{is_negative}
use Rattle.hid_report_descriptor.specs.Fields.{is_padding}
use Rattle.hid_report_descriptor.specs.declared.usage.Usage.{Usage}
use Rattle.hid_report_descriptor.specs.declared.shape.Shape.{Shape}
use Rattle.hid_report_descriptor.specs.declared.shape.Shape.TheVariants.{Padding, Variable, Array}
use Rattle.hid_layout.specs.declared.main_item.MainItem.{MainItem}
use Rattle.hid_layout.specs.declared.control.ControlKind.{ControlKind}
use Rattle.hid_layout.specs.declared.control.ControlKind.TheVariants.{Switch, Value, NullValue, Relative}
use Rattle.hid_layout.specs.Layout.{Contents}
use Rattle.hid_layout.specs.Reports.{IsLayout, first_bit, report_bytes}
use Rattle.hid_layout.specs.Controls.{form_of, element_kind}
use Rattle.hid_snapshots.specs.declared.control_state.ControlState.{ControlState}
use Rattle.hid_snapshots.specs.Parts.{IsInput}
use Rattle.hid_snapshots.proofs.NumberLemmas.{numbers_in-agree}
use Rattle.hid_snapshots.proofs.EncodingLemmas.{data_if}
use Rattle.hid_snapshots.proofs.PlanLemmas.{Skips, IsAlong, IsNext, along_next, plan_within}
use Rattle.hid_layout.specs.ArrayCodes.{plan_of}
use Rattle.hid_usages.specs.declared.changed_bits.BitSpan.{BitSpan}
use Rattle.hid_usages.specs.declared.plan.PlannedItem.{PlannedItem}
use Rattle.hid_usages.specs.declared.plan.PlannedKind.TheVariants as kind
use Rattle.hid_usages.specs.Bits.{are_bits}
use Rattle.hid_usages.specs.declared.plan.ReportPlan.{ReportPlan}
use Rattle.hid_usages.specs.ChangedBits.{IsOutsideSpan}
use Rattle.hid_usages.specs.Plans.{kind_of_controls, kind_of_shape, planned_kind, place_of, IsPlannedItem, IsPassed, IsPlan}
use Rattle.hid_usages.specs.Known.{Knows, KnowsPlace}
use Rattle.hid_usages.specs.Reading.{item_numbers}
use Rattle.hid_usages.specs.declared.take.ListedItem.{ListedItem}
use Rattle.hid_usages.specs.Taking.{IsFilled, list_at, state_after_report_at, events_of_report_at}
use Rattle.hid_usages.proofs.BitLemmas.{has_bits}
use Rattle.hid_usages.proofs.TakeLemmas.{form_of_item, read_view-at}
use Rattle.hid_usages.proofs.FixedLemmas.{TellsNoMotion, left_by_bits, silent_by_bits, padding_stays}

same_kind_of : (a b : ControlKind) → kind_of_controls a ≡ kind_of_controls b → a ≡ b
same_kind_of Switch Switch h = refl
same_kind_of Value Value h = refl
same_kind_of NullValue NullValue h = refl
same_kind_of Relative Relative h = refl
same_kind_of Switch Value h = absurd (cc)
same_kind_of Switch NullValue h = absurd (cc)
same_kind_of Switch Relative h = absurd (cc)
same_kind_of Value Switch h = absurd (cc)
same_kind_of Value NullValue h = absurd (cc)
same_kind_of Value Relative h = absurd (cc)
same_kind_of NullValue Switch h = absurd (cc)
same_kind_of NullValue Value h = absurd (cc)
same_kind_of NullValue Relative h = absurd (cc)
same_kind_of Relative Switch h = absurd (cc)
same_kind_of Relative Value h = absurd (cc)
same_kind_of Relative NullValue h = absurd (cc)

no_bits : (k : ControlKind) → kind.Bits ≡ kind_of_controls k → ⊥
no_bits Switch h = absurd (cc)
no_bits Value h = absurd (cc)
no_bits NullValue h = absurd (cc)
no_bits Relative h = absurd (cc)

no_keys : (k : ControlKind) → kind_of_controls k ≡ kind.Keys → ⊥
no_keys Switch h = absurd (cc)
no_keys Value h = absurd (cc)
no_keys NullValue h = absurd (cc)
no_keys Relative h = absurd (cc)

no_keys_elsewhere : (b : Bool) (k : ControlKind) → cond b kind.Bits (kind_of_controls k) ≡ kind.Keys → ⊥
no_keys_elsewhere true k h = absurd (cc)
no_keys_elsewhere false k h = no_keys k h

no_padding_elsewhere : (b : Bool) (k : ControlKind) → cond b kind.Bits (kind_of_controls k) ≡ kind.Padding → ⊥
no_padding_elsewhere true k h = absurd (cc)
no_padding_elsewhere false Switch h = absurd (cc)
no_padding_elsewhere false Value h = absurd (cc)
no_padding_elsewhere false NullValue h = absurd (cc)
no_padding_elsewhere false Relative h = absurd (cc)

bits_only : (b : Bool) (k : ControlKind) → cond b kind.Bits (kind_of_controls k) ≡ kind.Bits → b ≡ true
bits_only true k h = refl
bits_only false k h = absurd (no_bits k (sym h))

kind_only : (b : Bool) (a k : ControlKind) → cond b kind.Bits (kind_of_controls a) ≡ kind_of_controls k → a ≡ k
kind_only true a k h = absurd (no_bits k h)
kind_only false a k h = same_kind_of a k h

-- an item that is planned as bits has them
bits_shape : (m : MainItem) (shape : Shape) → kind_of_shape m shape ≡ kind.Bits → are_bits m ≡ true
bits_shape m Padding h = absurd (cc)
bits_shape m Array h = absurd (cc)
bits_shape m Variable h = bits_only (are_bits m) (element_kind m) h

pub bits_planned : (m : MainItem) → planned_kind m ≡ kind.Bits → are_bits m ≡ true
bits_planned m h = bits_shape m m.shape h

no_padding_kind : (k : ControlKind) → kind.Padding ≡ kind_of_controls k → ⊥
no_padding_kind Switch h = absurd (cc)
no_padding_kind Value h = absurd (cc)
no_padding_kind NullValue h = absurd (cc)
no_padding_kind Relative h = absurd (cc)

variable_shape : (m : MainItem) (shape : Shape) (k : ControlKind) → kind_of_shape m shape ≡ kind_of_controls k → (shape ≡ Variable) × (element_kind m ≡ k)
variable_shape m Padding k h = absurd (no_padding_kind k h)
variable_shape m Array k h = absurd (no_keys k (sym h))
variable_shape m Variable k h = (refl, kind_only (are_bits m) (element_kind m) k h)

-- an item that is planned as controls of a kind is a variable one with that kind
pub variable_planned : (m : MainItem) (k : ControlKind) → planned_kind m ≡ kind_of_controls k → (m.shape ≡ Variable) × (element_kind m ≡ k)
variable_planned m k h = variable_shape m m.shape k h

array_shape : (m : MainItem) (shape : Shape) → kind_of_shape m shape ≡ kind.Keys → shape ≡ Array
array_shape m Padding h = absurd (cc)
array_shape m Array h = refl
array_shape m Variable h = absurd (no_keys_elsewhere (are_bits m) (element_kind m) h)

-- an item that is planned as keys is an array
pub array_planned : (m : MainItem) → planned_kind m ≡ kind.Keys → m.shape ≡ Array
array_planned m h = array_shape m m.shape h

padding_shape : (m : MainItem) (shape : Shape) → kind_of_shape m shape ≡ kind.Padding → shape ≡ Padding
padding_shape m Padding h = refl
padding_shape m Array h = absurd (cc)
padding_shape m Variable h = absurd (no_padding_elsewhere (are_bits m) (element_kind m) h)

-- an item that is planned as padding is padding
pub padding_planned : (m : MainItem) → planned_kind m ≡ kind.Padding → m.shape ≡ Padding
padding_planned m h = padding_shape m m.shape h

-- the item of a plan is the one at its place
pub planned_is : (layout : Contents) (planned : PlannedItem) (m : MainItem) (p : IsPlannedItem layout planned) → slice_get layout.items planned.place ≡ Some m → p.item ≡ m
planned_is layout planned m p listed =
    let e : Some p.item ≡ Some m = sym p.listed ∙ listed in
    cc

-- a planned item is as the item at its place
pub planned_as : (layout : Contents) (planned : PlannedItem) (m : MainItem) → IsPlannedItem layout planned → slice_get layout.items planned.place ≡ Some m
    → (planned.first ≡ first_bit layout + m.offset) × (planned.end ≡ planned.first + m.size * m.count) × (planned.kind ≡ planned_kind m)
planned_as layout planned m p listed =
    subst (λ (x : MainItem). (planned.first ≡ first_bit layout + x.offset) × (planned.end ≡ planned.first + x.size * x.count) × (planned.kind ≡ planned_kind x))
    (planned_is layout planned m p listed) (p.first, p.end, p.kind)

-- an item that is passed over has the same numbers
passed_numbers : (layout : Contents) (r : ℕ) (planned : PlannedItem) (m : MainItem) (span : BitSpan) (now last : List ℕ) → IsLayout layout → IsPlannedItem layout planned → slice_get layout.items planned.place ≡ Some m → m.report ≡ r
    → IsPassed planned span → ((n : ℕ) → n < 8 * report_bytes layout r → IsOutsideSpan span n → bit_of now n ≡ bit_of last n) → item_numbers layout now m ≡ item_numbers layout last m
passed_numbers layout r planned m span now last laid p listed is passed same =
    let as_planned = planned_as layout planned m p listed in
    numbers_in-agree now last (first_bit layout + m.offset) m.size (is_negative m.min) m.count
    (λ k low high. same k (omega (arith, laid.inside planned.place m listed, ap (report_bytes layout) is))
    (elim passed.outside [ inl before ↦ inl (omega (arith, before, as_planned.0, as_planned.1)) | inr behind ↦ inr (omega (arith, behind, as_planned.0)) ]))

-- of an item with data that is passed over, the first bit lies outside of the span: the last report left it
passed_left : (layout : Contents) (r : ℕ) (bytes last : List ℕ) (span : BitSpan) (planned : PlannedItem) (m : MainItem) (state : ControlState) → IsLayout layout → IsPlannedItem layout planned → slice_get layout.items planned.place ≡ Some m → m.report ≡ r → is_padding m.shape ≡ false
    → IsPassed planned span → KnowsPlace layout r bytes last span planned.place state → state_after_report_at layout r last planned.place state ≡ state
passed_left layout r bytes last span planned m state laid p listed is data_ passed known =
    let as_planned = planned_as layout planned m p listed in
    let elements = laid.elements planned.place m listed data_ in
    let more : m.size * 1 ≤ m.size * m.count = mul-le-mul_left m.size elements.some in
    let some : planned.first < planned.end = omega (arith, elements.some_bits, more, as_planned.1) in
    known.left planned.first (omega (arith, as_planned.0, as_planned.1, some, laid.inside planned.place m listed, ap (report_bytes layout) is))
    (elim passed.outside [ inl before ↦ inl (omega (arith, before, some)) | inr behind ↦ inr behind ])

no_motion_kind : (b : Bool) (k : ControlKind) → cond b kind.Bits (kind_of_controls k) ≢ kind.Motions → (b ≡ true → k ≡ Switch) → k ≡ Relative → ⊥
no_motion_kind true k h bits e = let s = bits refl in cc
no_motion_kind false k h bits e = h (ap kind_of_controls e)

absolute_shape : (m : MainItem) (us : List Usage) (shape : Shape) → kind_of_shape m shape ≢ kind.Motions → TellsNoMotion (form_of m us shape)
absolute_shape m us Padding h = tt
absolute_shape m us Array h = tt
absolute_shape m us Variable h = no_motion_kind (are_bits m) (element_kind m) h (λ e. (has_bits m e).kind)

-- An item that is passed over stays, and gives no event.
pub passed_stays : (layout : Contents) (r : ℕ) (bytes last : List ℕ) (span : BitSpan) (planned : PlannedItem) (m : MainItem) (state : ControlState) → IsLayout layout → IsPlannedItem layout planned → slice_get layout.items planned.place ≡ Some m → m.report ≡ r
    → IsPassed planned span → KnowsPlace layout r bytes last span planned.place state → state_after_report_at layout r bytes planned.place state ≡ state
passed_stays layout r bytes last span planned m state laid p listed is passed known = elim (cases_Bool (is_padding m.shape)) [
  | inl padding ↦ (padding_stays layout r bytes planned.place m state listed padding).0
  | inr data_ ↦
      left_by_bits layout r last bytes planned.place m state listed (passed_numbers layout r planned m span bytes last laid p listed is passed known.same)
      (passed_left layout r bytes last span planned m state laid p listed is data_ passed known)
]

pub passed_silent : (layout : Contents) (r : ℕ) (bytes last : List ℕ) (span : BitSpan) (planned : PlannedItem) (m : MainItem) (state : ControlState) → IsLayout layout → IsInput layout r → IsPlannedItem layout planned → slice_get layout.items planned.place ≡ Some m → m.report ≡ r
    → IsPassed planned span → KnowsPlace layout r bytes last span planned.place state → events_of_report_at layout r bytes planned.place state ≡ []
passed_silent layout r bytes last span planned m state laid input p listed is passed known = elim (cases_Bool (is_padding m.shape)) [
  | inl padding ↦ (padding_stays layout r bytes planned.place m state listed padding).1
  | inr data_ ↦
      let as_planned = planned_as layout planned m p listed in
      silent_by_bits layout r last bytes planned.place m state listed (passed_numbers layout r planned m span bytes last laid p listed is passed known.same)
      (λ e. subst TellsNoMotion (sym (form_of_item layout r planned.place m laid input (data_if layout r planned.place m listed e)))
      (absolute_shape m (list_at layout planned.place) m.shape (λ k. passed.absolute (as_planned.2 ∙ k))))
      (passed_left layout r bytes last span planned m state laid p listed is data_ passed known)
]

-- what is known of a view is known of each of its control states
pub place_known : (layout : Contents) (r : ℕ) (bytes last : List ℕ) (span : BitSpan) (view : List ControlState) (i : ℕ) (state : ControlState) → Knows layout r bytes last span view → slice_get view i ≡ Some state → KnowsPlace layout r bytes last span i state
place_known layout r bytes last span view i state known h = record {
  same = known.same;
  left = λ n low outside.
      let e : Some (state_after_report_at layout r last i state) ≡ Some state = sym (read_view-at layout r last view i state h) ∙ ap (λ (cs : List ControlState). slice_get cs i) (known.left n low outside) ∙ h in
      cc;
}

-- of the control states that are lent
pub known_of : (layout : Contents) (r : ℕ) (bytes last : List ℕ) (span : BitSpan) (view states : List ControlState) → view ≡ states → Knows layout r bytes last span view → Knows layout r bytes last span states
known_of layout r bytes last span view states same h = subst (λ (cs : List ControlState). Knows layout r bytes last span cs) same h

-- the place of an item of a plan
pub place_at : (plan : List PlannedItem) (k : ℕ) (planned : PlannedItem) → slice_get plan k ≡ Some planned → slice_get (map place_of plan) k ≡ Some planned.place
place_at [] k planned h = absurd (cc)
place_at (p ∷ plan) zero planned h = let e : p ≡ planned = cc in ap (λ (x : PlannedItem). Some x.place) e
place_at (p ∷ plan) (suc k) planned h = place_at plan k planned h

pub holds_on : {P : Type 0} (b : Bool) → OnTrue b P → b ≡ true → P
holds_on true h e = h
holds_on false h e = absurd (cc)

-- the next item of a plan
pub next_planned : (layout : Contents) (r k : ℕ) (plan : List PlannedItem) (P : ℕ → Type 0) (planned : PlannedItem) → Skips layout r P → map place_of plan ≡ plan_of layout r → slice_get plan k ≡ Some planned → IsAlong layout r k P
    → IsNext layout r planned.place (drop (k + 1) (plan_of layout r)) P
next_planned layout r k plan P planned skips is there along =
    let at = place_at plan k planned there in
    let within : k < length (map place_of plan) = slice_get_within (map place_of plan) k planned.place at in
    let both : Some (get_or (map place_of plan) k 0) ≡ Some planned.place = sym (slice_get-get_or (map place_of plan) k 0 within) ∙ at in
    let e : get_or (map place_of plan) k 0 ≡ planned.place = cc in
    subst (λ (n : ℕ). IsNext layout r n (drop (k + 1) (plan_of layout r)) P) e (along_next layout r k (map place_of plan) P skips is within along)

pub places_length : (plan : List PlannedItem) → length (map place_of plan) ≡ length plan
places_length [] = refl
places_length (p ∷ plan) = ap suc (places_length plan)

-- the items of a plan are listed
pub planned_places : (layout : Contents) (r : ℕ) (plan : ReportPlan) → IsPlan layout r plan → All (λ place. place < length layout.items) (map place_of plan.items.items)
planned_places layout r plan is = subst (All (λ place. place < length layout.items)) (sym is.places) (plan_within layout r)

-- a variable item is planned by its bits, or by the kind of its controls
pub variable_kind : (m : MainItem) → m.shape ≡ Variable → planned_kind m ≡ cond (are_bits m) kind.Bits (kind_of_controls (element_kind m))
variable_kind m h = ap (kind_of_shape m) h

pub variable_by : (m : MainItem) (b : Bool) (k : ControlKind) → m.shape ≡ Variable → are_bits m ≡ b → element_kind m ≡ k → planned_kind m ≡ cond b kind.Bits (kind_of_controls k)
variable_by m b k h e f = variable_kind m h ∙ ap (λ (c : Bool). cond c kind.Bits (kind_of_controls (element_kind m))) e ∙ ap (λ (c : ControlKind). cond b kind.Bits (kind_of_controls c)) f

pub variable_bits : (m : MainItem) → m.shape ≡ Variable → are_bits m ≡ true → planned_kind m ≡ kind.Bits
variable_bits m h e = variable_kind m h ∙ ap (λ (c : Bool). cond c kind.Bits (kind_of_controls (element_kind m))) e

-- one item more is planned
pub planned_more : (layout : Contents) (plan : List PlannedItem) (planned : PlannedItem) → All (IsPlannedItem layout) plan → IsPlannedItem layout planned → All (IsPlannedItem layout) (plan ++ planned ∷ [])
planned_more layout plan planned all one = All-push (IsPlannedItem layout) plan planned all one

pub places_more : (plan : List PlannedItem) (planned : PlannedItem) → map place_of (plan ++ planned ∷ []) ≡ map place_of plan ++ planned.place ∷ []
places_more [] planned = refl
places_more (p ∷ plan) planned = ap (λ (ps : List ℕ). p.place ∷ ps) (places_more plan planned)

-- what stands at an index of a plan is a planned item
pub planned_there : (layout : Contents) (plan : List PlannedItem) (k : ℕ) (planned : PlannedItem) → All (IsPlannedItem layout) plan → slice_get plan k ≡ Some planned → IsPlannedItem layout planned
planned_there layout plan k planned all there =
    let within : k < length plan = slice_get_within plan k planned there in
    let both : Some (get_or plan k planned) ≡ Some planned = sym (slice_get-get_or plan k planned within) ∙ there in
    let is : get_or plan k planned ≡ planned = cc in
    subst (IsPlannedItem layout) is (all k planned within)

-- a listed item with data of a report that the bytes fill
pub is_filled : (listed : ListedItem) (r : ℕ) (bytes : List ℕ) → IsLayout listed.layout.now → IsInput listed.layout.now r → slice_get listed.layout.now.items listed.place ≡ Some listed.item.now → listed.item.now.report ≡ r → is_padding listed.item.now.shape ≡ false
    → report_bytes listed.layout.now r ≤ length bytes → IsFilled listed bytes
is_filled listed r bytes laid input there is data_ whole = record {
  layout = laid;
  input = form_of_item listed.layout.now r listed.place listed.item.now laid input (record { listed = there; in_report = is; no_padding = data_ });
  with_data = record { listed = there; in_report = refl; no_padding = data_ };
  whole = omega (arith, ap (report_bytes listed.layout.now) is, whole);
}
