-- The keys of an array that are held, and those that its elements name, word by word.
use Rattle.std.proofs.Common.{◌≡◌, ℕ, suc, ◌+◌, ◌-◌, ◌*◌, ◌<◌, ◌≤◌, ◌&&◌, inl, inr, Bool, true, false, List, [], ◌∷◌, ◌++◌, length, take, refl, sym, ap, ◌∙◌, arith}
use Rattle.std.specs.List.{zip}
use Rattle.std.proofs.lemmas.Bool.{cases_lt}
use Rattle.std.proofs.lemmas.List.{get_or-take, length-take}
use Rattle.std.proofs.lemmas.Option.{unwrap_or-slice_get}
use Rattle.hid_layout.specs.declared.control.ControlId.{ControlId}
use Rattle.hid_report_descriptor.specs.declared.usage.Usage.{Usage}
use Rattle.hid_snapshots.specs.declared.event.Event.{Event}
use Rattle.hid_snapshots.specs.Events.{control_at, down_event, element_list_events}
use Rattle.hid_snapshots.specs.Words.{is_on, IsFirst}
use Rattle.hid_usages.proofs.RoomLemmas.{off_past}

-- places that are pressed alike are the same
pub same_places : (ps qs : List Bool) → length ps ≡ length qs → ((i : ℕ) → is_on ps i ≡ is_on qs i) → ps ≡ qs
same_places [] [] e same = refl
same_places [] (q ∷ qs) e same = absurd (omega arith)
same_places (p ∷ ps) [] e same = absurd (omega arith)
same_places (p ∷ ps) (q ∷ qs) e same =
    let first : p ≡ q = same 0 in
    ap (λ (b : Bool). b ∷ ps) first ∙ ap (λ (t : List Bool). q ∷ t) (same_places ps qs (omega arith) (λ i. same (suc i)))

-- the first places are pressed as all are, where none after them is
pub on_first : (n : ℕ) (qs : List Bool) (i : ℕ) → ((j : ℕ) → n ≤ j → is_on qs j ≡ false) → is_on (take n qs) i ≡ is_on qs i
on_first n qs i none = elim (cases_lt i n) [
  | inl low ↦ unwrap_or-slice_get (take n qs) i false ∙ get_or-take n qs i false low ∙ sym (unwrap_or-slice_get qs i false)
  | inr past ↦ off_past (take n qs) i (omega (arith, length-take n qs)) ∙ sym (none i past)
]

-- the first bit of a word that is 1 is the first place from there on that passes
pub bit_first : (test s : ℕ → Bool) (k from end bit : ℕ) → ((b : ℕ) → b < 64 → s b ≡ test (64 * k + b)) → IsFirst s from 64 bit → ((j : ℕ) → test j ≡ true → j < end)
    → IsFirst test (64 * k + from) end (64 * k + bit)
bit_first test s k from end bit same first within =
    let low : from ≤ bit = first.low in
    let high : bit < 64 = first.high in
    let hit : test (64 * k + bit) ≡ true = sym (same bit high) ∙ first.hit in
    record {
      low = omega arith;
      high = within (64 * k + bit) hit;
      before = λ i a b.
          let at : 64 * k + (i - 64 * k) ≡ i = omega arith in
          ap test (sym at) ∙ sym (same (i - 64 * k) (omega arith)) ∙ first.before (i - 64 * k) (omega arith) (omega arith);
      hit = hit;
    }

-- no place of a word passes where none of its bits is 1
pub bits_none : (test s : ℕ → Bool) (k from j : ℕ) → ((b : ℕ) → b < 64 → s b ≡ test (64 * k + b)) → ((b : ℕ) → from ≤ b → b < 64 → s b ≡ false) → 64 * k + from ≤ j → j < 64 * (k + 1) → test j ≡ false
bits_none test s k from j same none low high =
    let at : 64 * k + (j - 64 * k) ≡ j = omega arith in
    ap test (sym at) ∙ sym (same (j - 64 * k) (omega arith)) ∙ none (j - 64 * k) (omega arith) (omega arith)

one_down : (c : ControlId) (u : Usage) (h g n : Bool) → h ≡ (g && n) → down_event c u h n ≡ down_event c u g n
one_down c u h true true e = ap (λ (b : Bool). down_event c u b true) e
one_down c u h true false e = ap (λ (b : Bool). down_event c u b false) e
one_down c u h false true e = ap (λ (b : Bool). down_event c u b true) e
one_down c u h false false e = ap (λ (b : Bool). down_event c u b false) e

-- keys are pressed alike after those that aren't named are released
pub downs_kept : (i j : ℕ) (us : List Usage) (hs gs ns : List Bool) → length hs ≡ length gs → ((k : ℕ) → is_on hs k ≡ (is_on gs k && is_on ns k))
    → element_list_events (λ j u (p : Bool × Bool). down_event (control_at i j) u p.0 p.1) j us (zip hs ns)
    ≡ element_list_events (λ j u (p : Bool × Bool). down_event (control_at i j) u p.0 p.1) j us (zip gs ns)
downs_kept i j [] hs gs ns e same = refl
downs_kept i j (u ∷ us) [] [] ns e same = refl
downs_kept i j (u ∷ us) [] (g ∷ gs) ns e same = absurd (omega arith)
downs_kept i j (u ∷ us) (h ∷ hs) [] ns e same = absurd (omega arith)
downs_kept i j (u ∷ us) (h ∷ hs) (g ∷ gs) [] e same = refl
downs_kept i j (u ∷ us) (h ∷ hs) (g ∷ gs) (n ∷ ns) e same =
    ap (λ (es : List Event). es ++ element_list_events (λ j u (p : Bool × Bool). down_event (control_at i j) u p.0 p.1) (j + 1) us (zip hs ns)) (one_down (control_at i j) u h g n (same 0))
    ∙ ap (λ (es : List Event). down_event (control_at i j) u g n ++ es) (downs_kept i (j + 1) us hs gs ns (omega arith) (λ k. same (suc k)))
