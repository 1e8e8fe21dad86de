-- The items of a descriptor that were read, and what stands after them.
use Rattle.std.proofs.Common.{◌≡◌, false, Err, ℕ, ◌+◌, List, [], ◌∷◌, ◌++◌, length, drop, All, refl, sym, ◌∙◌, ap, arith, Option, None, Some, append-nil, append_assoc, length-append, true}
use Rattle.std.specs.List.{flat_map, list_all}
use Rattle.std.specs.Option.{option_and_then}
use Rattle.std.specs.Prelude.{◌==◌, ◌&&◌}
use Rattle.std.proofs.Math.Seq.{drop-append_seam}
use Rattle.std.proofs.lemmas.List.Elements.{All-append, All-cons, All-nil}
use Rattle.std.proofs.lemmas.Grind.{flat_map-append}
use Rattle.hid_items.specs.ItemEncoding.{IsItemEncoding, IsCut}
use Rattle.hid_items.specs.Reading.{GivesItem, GivesNext}
use Rattle.hid_items.specs.declared.fault.ItemFault.{ItemFault}
use Rattle.hid_items.specs.declared.fault.ItemFault.TheVariants.{Truncated}
use Rattle.hid_items.specs.declared.encoding.Item.{Item}
use Rattle.hid_items.specs.declared.reading.Items.{Items}
use Rattle.hid_input.specs.declared.whole.DescriptorFault.{DescriptorFault}
use Rattle.hid_input.specs.declared.whole.Progress.{Progress}
use Rattle.hid_input.specs.Descriptor.{cut_place, start, after_item, after_items, IsDescriptor, IsWrong, IsFault}

-- these items of a descriptor were read
pub record HasRead (bytes : List ℕ) (items : List (List ℕ)) (rest : Items) (progress : Progress) : Type 0 where
  pub joined : flat_map (λ item. item) items ++ rest.rest.now ≡ bytes
  pub place : rest.at ≡ length (flat_map (λ item. item) items)
  pub encoded : All IsItemEncoding items
  pub reached : after_items start items ≡ Some progress

joined_more : (items : List (List ℕ)) (item : List ℕ) → flat_map (λ i. i) (items ++ item ∷ []) ≡ flat_map (λ i. i) items ++ item
joined_more items item = flat_map-append (λ i. i) items (item ∷ []) ∙ ap (λ t. flat_map (λ i. i) items ++ t) (append-nil item)

and_then_some : (o : Option Progress) → option_and_then (λ q. Some q) o ≡ o
and_then_some None = refl
and_then_some (Some q) = refl

after_more : (items : List (List ℕ)) (item : List ℕ) (p : Progress) → after_items p (items ++ item ∷ []) ≡ option_and_then (λ q. after_item q item) (after_items p items)
after_more [] item p = and_then_some (after_item p item)
after_more (first ∷ items) item p =
    elim (after_item p first) as (λ o. option_and_then (λ q. after_items q (items ++ item ∷ [])) o ≡ option_and_then (λ q. after_item q item) (option_and_then (λ q. after_items q items) o)) [
      | None ↦ refl
      | Some q ↦ after_more items item q
    ]

-- one more item
pub read_more : (bytes : List ℕ) (items : List (List ℕ)) (old new : Items) (item : Item) (progress next : Progress) → HasRead bytes items old progress
    → GivesItem old item new → after_item progress item.bytes.now ≡ Some next → HasRead bytes (items ++ item.bytes.now ∷ []) new next
read_more bytes items old new item progress next h g is = record {
  joined = ap (λ j. j ++ new.rest.now) (joined_more items item.bytes.now) ∙ append_assoc (flat_map (λ i. i) items) item.bytes.now new.rest.now ∙ ap (λ r. flat_map (λ i. i) items ++ r) (sym g.rest) ∙ h.joined;
  place = omega (arith, g.after, h.place, ap length (joined_more items item.bytes.now), length-append (flat_map (λ i. i) items) item.bytes.now);
  encoded = All-append IsItemEncoding items (item.bytes.now ∷ []) h.encoded (All-cons IsItemEncoding item.bytes.now [] g.encoded (All-nil IsItemEncoding));
  reached = after_more items item.bytes.now start ∙ (ap (option_and_then (λ q. after_item q item.bytes.now)) h.reached ∙ is);
}

-- what was read doesn't reach past the end
pub read_within : (bytes : List ℕ) (items : List (List ℕ)) (rest : Items) (progress : Progress) → HasRead bytes items rest progress → rest.at + length rest.rest.now ≡ length bytes
read_within bytes items rest progress h = omega (arith, h.place, ap length h.joined, length-append (flat_map (λ i. i) items) rest.rest.now)

-- the last item closes all collections, and zeros follow
pub read_whole : (bytes zeros : List ℕ) (items : List (List ℕ)) (rest : Items) (progress : Progress) → HasRead bytes items rest progress
    → progress.is_closed ≡ true → zeros ≡ drop rest.at bytes → list_all (λ byte. byte == 0) zeros ≡ true → IsDescriptor bytes
read_whole bytes zeros items rest progress h closed is padded =
    let same : zeros ≡ rest.rest.now = is ∙ ap (drop rest.at) (sym h.joined) ∙ ap (λ n. drop n (flat_map (λ i. i) items ++ rest.rest.now)) h.place ∙ drop-append_seam (flat_map (λ i. i) items) rest.rest.now in
    record {
      items = items;
      zeros = zeros;
      joined = ap (λ z. flat_map (λ i. i) items ++ z) same ∙ h.joined;
      encoded = h.encoded;
      last = progress;
      nested = h.reached;
      closed = closed;
      padded = padded;
    }

-- zeros do not follow the end of a descriptor, or there is no end
abbrev pub IsOpen : Items → Progress → Type 0
IsOpen rest progress = (progress.is_closed && list_all (λ byte. byte == 0) rest.rest.now) ≡ false

-- the rest of what was read, from a place of the bytes
pub rest_is : (bytes : List ℕ) (items : List (List ℕ)) (rest : Items) (progress : Progress) → HasRead bytes items rest progress → drop rest.at bytes ≡ rest.rest.now
rest_is bytes items rest progress h =
    ap (drop rest.at) (sym h.joined) ∙ ap (λ n. drop n (flat_map (λ i. i) items ++ rest.rest.now)) h.place ∙ drop-append_seam (flat_map (λ i. i) items) rest.rest.now

-- what was read, and what is wrong after it
pub read_wrong : (bytes : List ℕ) (items : List (List ℕ)) (rest : Items) (progress : Progress) (fault : DescriptorFault) → HasRead bytes items rest progress
    → IsOpen rest progress → fault.at ≡ rest.at → IsWrong progress rest.rest.now fault.cause → IsFault bytes fault
read_wrong bytes items rest progress fault h unended at wrong = record {
  items = items;
  rest = rest.rest.now;
  joined = h.joined;
  place = at ∙ h.place;
  encoded = h.encoded;
  progress = progress;
  nested = h.reached;
  unended = unended;
  wrong = wrong;
}

-- where the next item is cut off
pub read_cut : (old new : Items) (cut : ItemFault) → GivesNext old (Some (Err cut)) new → (cut_place cut ≡ old.at) × IsCut old.rest.now
read_cut old new (Truncated at) steps = (steps.0, steps.1)
