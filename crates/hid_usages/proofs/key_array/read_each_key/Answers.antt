use Rattle.std.proofs.Common.{◌≡◌, ◌∙◌, [], ◌∷◌, ◌++◌, subst, refl, Some, true, false, not, ℤ, Bool, List, to_z, of_z, w64, take, take_all, ap, sym, length, arith, rules}
use Rattle.std.specs.List.{slice_get, list_any}
use Rattle.std.proofs.lemmas.Int.{to_z-of_z}
use Rattle.std.proofs.lemmas.List.{drop_all, take-replicate}
use Rattle.hid_snapshots.proofs.ListLemmas.{take_at}
use Rattle.hid_snapshots.proofs.FillLemmas.{any_from_hit, any_from_miss}
use Rattle.hid_usages.specs.Reading.{named_keys_from, names_rollover}
use Rattle.hid_usages.specs.KeyArrays.{keys_of_array, usages_of_array}
use Rattle.hid_usages.proofs.BoundLemmas.{fits_at}
use Rattle.hid_usages.proofs.KeyLemmas.{named_none, named_again}
use Rattle.hid_usages.proofs.PressLemmas.{is_not, is_so}
use Rattle.hid_usages.proofs.RoomLemmas.{none_on}
use Rattle.hid_usages.proofs.key_array.read_each_key.Goals as goal

pub loop-k-init : goal.loop-k-init
loop-k-init g c = record {
  so_far =
      ap (λ (ps : List Bool). take (length (keys_of_array c.args.array.now)) ps) c.requires.clear.none
      ∙ take-replicate (length (keys_of_array c.args.array.now)) (length c.args.named.now) false c.requires.clear.room
      ∙ named_none c.args.array.now.item.now 0 (keys_of_array c.args.array.now);
  others = λ i h. none_on c.args.named.now i c.requires.clear.none;
  len = refl;
  none = refl;
  rolls = tt;
  again = tt;
}

pub add_next_key-requires-clause-few : goal.add_next_key-requires-clause-few
add_next_key-requires-clause-few g c = omega (arith, c.usage_count.ensures.value, c.usage_count.ensures.few)

pub add_next_key-requires-clause-can : goal.add_next_key-requires-clause-can
add_next_key-requires-clause-can g c =
    let v = to_z w64 (of_z w64 c.number-number.result) in
    let number : v ≡ c.number-number.result = search (rules, to_z-of_z) in
    record {
      fits = fits_at c.args.array.now.item.now c.args.numbers.now c.loop-k.k v c.requires.fits (c.number-number.ensures ∙ ap (λ (n : ℤ). Some n) (sym number));
      room = omega (arith, c.loop-k.invariant.len, c.requires.clear.room);
    }

pub add_next_key-requires-clause-before : goal.add_next_key-requires-clause-before
add_next_key-requires-clause-before g c = c.loop-k.invariant.rolls

pub loop-k-preserved : goal.loop-k-preserved
loop-k-preserved g c =
    let us = usages_of_array c.args.array.now in
    let v = to_z w64 (of_z w64 c.number-number.result) in
    let number : v ≡ c.number-number.result = search (rules, to_z-of_z) in
    let here : slice_get c.args.numbers.now c.loop-k.k ≡ Some v = c.number-number.ensures ∙ ap (λ (n : ℤ). Some n) (sym number) in
    let on : c.add_next_key.result ≡ true = search rules in
    let off : names_rollover c.args.array.now.item.now us v ≡ false = is_not (names_rollover c.args.array.now.item.now us v) c.add_next_key.result c.add_next_key.ensures.rolls on in
    let more = take_at c.args.numbers.now c.loop-k.k v here in
    record {
      so_far = c.add_next_key.ensures.keys on
          (take c.loop-k.k c.args.numbers.now) c.loop-k.invariant.again c.loop-k.invariant.so_far
          ∙ ap (λ (vs : List ℤ). named_keys_from c.args.array.now.item.now vs 0
          (keys_of_array c.args.array.now)) (sym more);
      others = λ i h. c.add_next_key.ensures.others.others i h ∙ c.loop-k.invariant.others i h;
      len = c.add_next_key.ensures.others.len ∙ c.loop-k.invariant.len;
      none = sym (any_from_miss (names_rollover c.args.array.now.item.now us) c.args.numbers.now c.loop-k.k v here off) ∙ c.loop-k.invariant.none;
      rolls = off;
      again = subst
          (λ (vs : List ℤ). named_keys_from c.args.array.now.item.now vs 0 (keys_of_array c.args.array.now)
          ≡ named_keys_from c.args.array.now.item.now (vs ++ v ∷ []) 0 (keys_of_array c.args.array.now))
          (sym more)
          (named_again c.args.array.now.item.now (take c.loop-k.k c.args.numbers.now) v 0
          (keys_of_array c.args.array.now));
    }

pub returns-then-not-add_next_key : goal.returns-then-not-add_next_key
returns-then-not-add_next_key g c =
    let us = usages_of_array c.args.array.now in
    let v = to_z w64 (of_z w64 c.number-number.result) in
    let number : v ≡ c.number-number.result = search (rules, to_z-of_z) in
    let here : slice_get c.args.numbers.now c.loop-k.k ≡ Some v = c.number-number.ensures ∙ ap (λ (n : ℤ). Some n) (sym number) in
    let no : c.add_next_key.result ≡ false = search rules in
    let on : names_rollover c.args.array.now.item.now us v ≡ true = is_so (names_rollover c.args.array.now.item.now us v) c.add_next_key.result c.add_next_key.ensures.rolls no in
    record {
      rolls = ap not (sym (sym c.loop-k.invariant.none ∙ any_from_hit (names_rollover c.args.array.now.item.now us) c.args.numbers.now c.loop-k.k v here on));
      keys = λ e. absurd (cc);
      others = λ i h. c.add_next_key.ensures.others.others i h ∙ c.loop-k.invariant.others i h;
      len = c.add_next_key.ensures.others.len ∙ c.loop-k.invariant.len;
    }

pub returns : goal.returns
returns g c =
    let us = usages_of_array c.args.array.now in
    let rolls = names_rollover c.args.array.now.item.now us in
    let none : list_any rolls [] ≡ list_any rolls c.args.numbers.now = ap (list_any rolls) (sym (drop_all c.loop-k.k c.args.numbers.now (omega (arith, c.len-k-end.ensures, c.loop-k-test.false)))) ∙ c.loop-k.invariant.none in
    record {
      rolls = ap not none;
      keys = λ e. c.loop-k.invariant.so_far
          ∙ ap (λ (vs : List ℤ). named_keys_from c.args.array.now.item.now vs 0 (keys_of_array c.args.array.now))
          (take_all c.loop-k.k c.args.numbers.now (omega (arith, c.len-k-end.ensures, c.loop-k-test.false)));
      others = c.loop-k.invariant.others;
      len = c.loop-k.invariant.len;
    }
