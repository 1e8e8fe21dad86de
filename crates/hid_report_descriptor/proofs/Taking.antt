-- The items that were taken are those with which the descriptor begins.
use Rattle.std.proofs.Common.{◌≡◌, ℕ, ◌≤◌, List, [], ◌∷◌, ◌++◌, length, take, drop, reverse, All, refl, sym, ◌∙◌, ap, subst, arith, Some, None, Err, append-nil, append_assoc, length-append, inl, inr}
use Rattle.std.specs.List.{flat_map}
use Rattle.std.proofs.Math.Seq.{take-append_seam, drop-append_seam}
use Rattle.std.proofs.lemmas.List.Elements.{All-append, All-cons, All-nil}
use Rattle.std.proofs.lemmas.Grind.{common_steps, flat_map-append}
use Rattle.hid_items.specs.ItemEncoding.{IsItemEncoding, IsCut}
use Rattle.hid_items.specs.Reading.{GivesItem, GivesNext}
use Rattle.hid_items.specs.declared.ItemFault.{ItemFault}
use Rattle.hid_items.specs.declared.ItemFault.TheVariants as faults
use Rattle.hid_items.specs.declared.Item.{Item as Read}
use Rattle.hid_items.specs.declared.Items.{Items}
use Rattle.hid_report_descriptor.specs.declared.limits.Limits.{Limits}
use Rattle.hid_report_descriptor.specs.declared.fault.Cause.{Cause}
use Rattle.hid_report_descriptor.specs.declared.fault.Cause.TheVariants.{Memory, Truncated}
use Rattle.hid_report_descriptor.specs.declared.parser.Parser.{Parser}
use Rattle.hid_report_descriptor.specs.Items.{EncodedItem}
use Rattle.hid_report_descriptor.specs.Faults.{fault_of, Reaches, IsRefused, Refuses, Explains}
use Rattle.hid_report_descriptor.specs.Parser.{HasStateAfter, StepGives, fault_place, cut_item_place, HasTaken}

pub reverse_more : (before : List EncodedItem) (item : EncodedItem) → reverse (item ∷ before) ≡ reverse before ++ item ∷ []
reverse_more before item = grind (arith, common_steps)

joined_more : (before : List EncodedItem) (item : EncodedItem) → flat_map (λ i. i) (reverse (item ∷ before)) ≡ flat_map (λ i. i) (reverse before) ++ item
joined_more before item = ap (flat_map (λ i. i)) (reverse_more before item) ∙ flat_map-append (λ i. i) (reverse before) (item ∷ []) ∙ ap (λ t. flat_map (λ i. i) (reverse before) ++ t) (append-nil item)

-- the place after some items is in the descriptor, and the items are in front of it
pub reached : (limits : Limits) (bytes : List ℕ) (before : List EncodedItem) (rest : Items) (parser : Parser) → length bytes ≤ 4096 → HasTaken limits bytes before rest parser → Reaches limits bytes rest.at before
reached limits bytes before rest parser le t = record {
  short = le;
  within = omega (arith, ap length t.joined, length-append (flat_map (λ item. item) (reverse before)) rest.rest.now, t.place);
  items = record { joined = sym (ap (λ b. take rest.at b) (sym t.joined) ∙ ap (λ n. take n (flat_map (λ item. item) (reverse before) ++ rest.rest.now)) t.place ∙ take-append_seam _ _); encoded = t.encoded };
  accepted = t.accepted;
}

pub rest_dropped : (limits : Limits) (bytes : List ℕ) (before : List EncodedItem) (rest : Items) (parser : Parser) → HasTaken limits bytes before rest parser → drop rest.at bytes ≡ rest.rest.now
rest_dropped limits bytes before rest parser t = ap (drop rest.at) (sym t.joined) ∙ ap (λ n. drop n (flat_map (λ item. item) (reverse before) ++ rest.rest.now)) t.place ∙ drop-append_seam (flat_map (λ item. item) (reverse before)) rest.rest.now

pub next_taken : (limits : Limits) (bytes : List ℕ) (before : List EncodedItem) (old new : Items) (item : Read) (parser next : Parser) → HasTaken limits bytes before old parser → GivesItem old item new → fault_of limits before item.bytes.now ≡ None → HasStateAfter (item.bytes.now ∷ before) next → HasTaken limits bytes (item.bytes.now ∷ before) new next
next_taken limits bytes before old new item parser next t g f s = record {
  joined = ap (λ j. j ++ new.rest.now) (joined_more before item.bytes.now) ∙ append_assoc (flat_map (λ i. i) (reverse before)) item.bytes.now new.rest.now ∙ ap (λ r. flat_map (λ i. i) (reverse before) ++ r) (sym g.rest) ∙ t.joined;
  place = omega (arith, g.after, t.place, ap length (joined_more before item.bytes.now), length-append (flat_map (λ i. i) (reverse before)) item.bytes.now);
  encoded = subst (All IsItemEncoding) (sym (reverse_more before item.bytes.now)) (All-append IsItemEncoding (reverse before) (item.bytes.now ∷ []) t.encoded (All-cons IsItemEncoding item.bytes.now [] g.encoded (All-nil IsItemEncoding)));
  accepted = (t.accepted, f);
  stands = s;
}

took_err : (limits : Limits) (before : List EncodedItem) (item : EncodedItem) (cause : Cause) (parser : Parser) → StepGives limits before item (Err cause) parser → (cause ≡ Memory → ⊥) → fault_of limits before item ≡ Some cause
took_err limits before item Memory parser t n = absurd (n refl)
took_err limits before item cause parser t n = t

explains_refusal : (limits : Limits) (bytes : List ℕ) (cause : Cause) (at : ℕ) → (cause ≡ Memory → ⊥)
    → Refuses limits bytes cause at → Explains limits bytes cause (fault_place cause at)
explains_refusal limits bytes Memory at n r = absurd (n refl)
explains_refusal limits bytes cause at n r = r

-- a refused item explains the fault, unless memory ran out
pub item_explains : (limits : Limits) (bytes : List ℕ) (before : List EncodedItem) (old new : Items) (item : Read)
    (parser next : Parser) (cause : Cause) → length bytes ≤ 4096 → HasTaken limits bytes before old parser
    → GivesItem old item new → StepGives limits before item.bytes.now (Err cause) next
    → Explains limits bytes cause (fault_place cause item.at)
item_explains limits bytes before old new item parser next Memory le t g k = (le, refl)
item_explains limits bytes before old new item parser next cause le t g k =
    explains_refusal limits bytes cause item.at (λ e. cc) (inl (
      before,
      item.bytes.now,
      subst (λ n. IsRefused limits bytes cause n before item.bytes.now) (sym g.at) (record {
        reaches = reached limits bytes before old parser le t;
        encoded = g.encoded;
        next = (new.rest.now, rest_dropped limits bytes before old parser t ∙ g.rest);
        fault = k;
      }),
    ))

pub cut_explains : (limits : Limits) (bytes : List ℕ) (before : List EncodedItem) (old new : Items) (parser : Parser) (e : ItemFault) → length bytes ≤ 4096 → HasTaken limits bytes before old parser → GivesNext old (Some (Err e)) new → Explains limits bytes Truncated (cut_item_place e)
cut_explains limits bytes before old new parser (faults.Truncated at) le t k =
    subst (λ n. Explains limits bytes Truncated n) (sym k.0) (inr (before, reached limits bytes before old parser le t, subst IsCut (sym (rest_dropped limits bytes before old parser t)) k.1))

pub all_taken : (limits : Limits) (bytes : List ℕ) (before : List EncodedItem) (old : Items) (parser : Parser) → length bytes ≤ 4096 → HasTaken limits bytes before old parser → old.rest.now ≡ [] → Reaches limits bytes (length bytes) before
all_taken limits bytes before old parser le t e =
    let n : old.at ≡ length bytes = omega (arith, t.place, ap length t.joined, length-append (flat_map (λ i. i) (reverse before)) old.rest.now, ap length e) in
    subst (λ at. Reaches limits bytes at before) n (reached limits bytes before old parser le t)

pub explains_same : (limits : Limits) (bytes : List ℕ) (cause told : Cause) (at place : ℕ) → told ≡ cause → place ≡ at → Explains limits bytes cause at → Explains limits bytes told place
explains_same limits bytes cause told at place c p e = subst (λ n. Explains limits bytes told n) (sym p) (subst (λ k. Explains limits bytes k at) (sym c) e)
