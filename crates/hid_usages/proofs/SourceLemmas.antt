-- The usages of an item's elements are those of its first ranges, as long as they follow each other.
use Rattle.std.proofs.Common.{◌≡◌, ℕ, ◌+◌, ◌-◌, ◌^◌, ◌<◌, ◌≤◌, ◌==◌, false, inl, inr, min, List, [], ◌∷◌, length, get_or, drop, Some, IfSome, refl, sym, ap, ◌∙◌, arith}
use Rattle.std.specs.List.{slice_get}
use Rattle.std.proofs.lemmas.Bool.{cases_lt}
use Rattle.std.proofs.lemmas.List.{drop_all}
use Rattle.hid_report_descriptor.specs.declared.shape.Shape.{Shape}
use Rattle.hid_report_descriptor.specs.declared.shape.Shape.TheVariants.{Padding, Variable, Array}
use Rattle.hid_report_descriptor.specs.declared.usage.Usage.{Usage}
use Rattle.hid_report_descriptor.specs.Usages.{Entry, entry_count, usage_list}
use Rattle.hid_report_descriptor.proofs.Places.{found, skipped, counted}
use Rattle.hid_layout.specs.Layout.{Contents}
use Rattle.hid_layout.specs.Reports.{IsLayout}
use Rattle.hid_snapshots.proofs.ItemLemmas.{same_entries}
use Rattle.hid_snapshots.specs.Events.{usage_place}
use Rattle.hid_usages.specs.declared.event_source.ItemUsages.{ItemUsages}
use Rattle.hid_usages.specs.declared.event_source.UsageRun.{UsageRun}
use Rattle.hid_usages.specs.EventSources.{AreUsages, Follows, IsRun}
use Rattle.hid_usages.proofs.UsageLemmas.{usage_here, usage_of-is, usage_there}

pub some_listed : {A : Type 0} (xs : List A) → false ≡ (length xs == 0) → 0 < length xs
some_listed [] h = absurd (cc)
some_listed (x ∷ xs) h = omega arith

-- a place of a list, of whatever shape the item is
capped : (shape : Shape) (us : List Usage) (j : ℕ) → usage_place shape us j < length us → usage_place shape us j ≡ min j (length us - 1)
capped Variable us j h = refl
capped Array us j h = omega arith
capped Padding us j h = omega arith

-- the first usage of a range
abbrev pub first_in : ItemUsages → Usage
first_in usages = record { page = usages.page; id = usages.id }

-- the first ranges, as a loop over them meets them, and how many usages they give
pub record AreInRun (es : List Entry) (first : Usage) (ranges count : ℕ) : Type 0 where
  pub within : ranges ≤ length es
  pub fits : first.id + count ≤ 2 ^ 16
  pub each : (j : ℕ) → j < count → slice_get (usage_list es) j ≡ Some (record { page = first.page; id = first.id + j })
  pub rest : (j : ℕ) → slice_get (usage_list es) (count + j) ≡ slice_get (usage_list (drop ranges es)) j
  pub all : length (usage_list es) ≡ count + length (usage_list (drop ranges es))

-- the first usage is that of the first range
pub first_of_all : (es : List Entry) (first : Usage) (d : Entry) → 0 < length es → IfSome (slice_get es 0) (λ e. e.0 ≡ first) → (get_or es 0 d).0 ≡ first
first_of_all [] first d some is = absurd (omega arith)
first_of_all (e ∷ es) first d some is = is

pub first_there : (es : List Entry) (first : Usage) (d : Entry) → 0 < length es → first ≡ (get_or es 0 d).0 → IfSome (slice_get es 0) (λ e. e.0 ≡ first)
first_there [] first d some is = absurd (omega arith)
first_there (e ∷ es) first d some is = sym is

pub run_begun : (es : List Entry) (first : Usage) (n : ℕ) (d : Entry) → 0 < length es → IfSome (slice_get es 0) (λ e. e.0 ≡ first) → n ≡ entry_count (get_or es 0 d) → (get_or es 0 d).0.id + n ≤ 2 ^ 16
    → AreInRun es first 1 n
run_begun es first n d some is count fits =
    let same = first_of_all es first d some is in
    let id : (get_or es 0 d).0.id ≡ first.id = ap (λ (u : Usage). u.id) same in
    record {
      within = omega arith;
      fits = omega (arith, fits, id);
      each = λ j low. found es 0 j d some (omega (arith, low, count)) ∙ ap (λ (u : Usage). Some (record { page = u.page; id = u.id + j })) same;
      rest = λ j.
          let left : n + j - entry_count (get_or es 0 d) ≡ j = omega (arith, count) in
          skipped es 0 (n + j) d some (omega (arith, count)) ∙ ap (slice_get (usage_list (drop 1 es))) left;
      all = omega (arith, counted es 0 d some, count);
    }

-- one range more
pub run_next : (es : List Entry) (first : Usage) (k n m : ℕ) (d : Entry) → AreInRun es first k n → k < length es → m ≡ entry_count (get_or es k d) → (get_or es k d).0.id + m ≤ 2 ^ 16 → Follows (get_or es k d) first n
    → AreInRun es first (k + 1) (n + m)
run_next es first k n m d run within count fits next = record {
  within = omega (arith, within);
  fits = omega (arith, fits, next.id);
  each = λ j low. elim (cases_lt j n) [
    | inl before ↦ run.each j before
    | inr behind ↦
        let at : j ≡ n + (j - n) = omega (arith, behind) in
        let id : (get_or es k d).0.id + (j - n) ≡ first.id + j = omega (arith, next.id, behind) in
        ap (slice_get (usage_list es)) at ∙ run.rest (j - n) ∙ found es k (j - n) d within (omega (arith, low, count, behind))
        ∙ ap (λ (p : ℕ). Some (record { page = p; id = (get_or es k d).0.id + (j - n) })) next.page ∙ ap (λ (i : ℕ). Some (record { page = first.page; id = i })) id
  ];
  rest = λ j.
      let at : n + m + j ≡ n + (m + j) = omega arith in
      let left : m + j - entry_count (get_or es k d) ≡ j = omega (arith, count) in
      ap (slice_get (usage_list es)) at ∙ run.rest (m + j) ∙ skipped es k (m + j) d within (omega (arith, count)) ∙ ap (slice_get (usage_list (drop (k + 1) es))) left;
  all = omega (arith, run.all, counted es k d within, count);
}

pub run_is : (es : List Entry) (first : Usage) (ranges count : ℕ) → AreInRun es first ranges count → IsRun es first (record { ranges = ranges; count = count })
run_is es first ranges count run = record { within = run.within; fits = run.fits; each = run.each; all = run.all }

-- before the end of the first ranges
pub run_known : (layout : Contents) (i : ℕ) (es : List Entry) (usages : ItemUsages) (run : UsageRun) → slice_get layout.entries i ≡ Some es → IsRun es (first_in usages) run → usages.more + 1 ≡ run.count → usages.end ≡ run.count
    → AreUsages layout i usages
run_known layout i es usages run there is more end = record {
  fits = omega (arith, is.fits, more);
  each = λ j low within.
      let place : min j usages.more ≡ j = omega (arith, low, end, more) in
      usage_here layout i j (record { page = usages.page; id = usages.id + j }) within (usage_of-is layout i es j there ∙ is.each j (omega (arith, low, end)))
      ∙ ap (λ (n : ℕ). Some (record { page = usages.page; id = usages.id + n })) (sym place);
}

-- of all elements, where there is no other range
pub run_only : (layout : Contents) (i : ℕ) (es : List Entry) (usages : ItemUsages) (run : UsageRun) → IsLayout layout → slice_get layout.entries i ≡ Some es → IsRun es (first_in usages) run → usages.more + 1 ≡ run.count
    → run.ranges ≡ length es → AreUsages layout i usages
run_only layout i es usages run laid there is more whole = record {
  fits = omega (arith, is.fits, more);
  each = λ j low within.
      let has = usage_there layout i j laid within in
      let e = same_entries layout i has.entries es has.entries_there there in
      let none : length (usage_list (drop run.ranges es)) ≡ 0 = ap (λ (fs : List Entry). length (usage_list fs)) (drop_all run.ranges es (omega (arith, whole))) in
      let long : length (usage_list has.entries) ≡ usages.more + 1 = ap (λ (fs : List Entry). length (usage_list fs)) e ∙ omega (arith, is.all, none, more) in
      let place : usage_place has.item.shape (usage_list has.entries) j ≡ min j usages.more =
      (let at = capped has.item.shape (usage_list has.entries) j has.within in omega (arith, at, long)) in
      has.is ∙ ap (slice_get (usage_list has.entries)) place ∙ ap (λ (fs : List Entry). slice_get (usage_list fs) (min j usages.more)) e ∙ is.each (min j usages.more) (omega (arith, more));
}
