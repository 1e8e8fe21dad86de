-- The lists of one more item, put after the others.
use Rattle.std.proofs.Common.{◌≡◌, ℕ, zero, suc, ◌+◌, ◌-◌, ◌≤◌, List, [], ◌∷◌, ◌++◌, length, map, take, drop, refl, sym, subst, ap, ◌∙◌, arith, length-append, append-nil, Option, Some, None}
use Rattle.std.specs.List.{slice_get, slice_range}
use Rattle.std.specs.Option.{option_map}
use Rattle.std.proofs.lemmas.List.{map-append, length-take-le, length-drop}
use Rattle.std.proofs.lemmas.Option.{slice_get-map}
use Rattle.hid_report_descriptor.specs.declared.locals.NamedUsage.{NamedUsage}
use Rattle.hid_report_descriptor.specs.Faults.{numbers_from}
use Rattle.hid_report_descriptor.specs.Locals.{entry_on_page}
use Rattle.hid_report_descriptor.specs.declared.collection.Collection.{Collection}
use Rattle.hid_report_descriptor.specs.declared.item_lists.ItemSpans.{ItemSpans}
use Rattle.hid_report_descriptor.specs.Usages.{Entry, entry_count, starts_from, starts_of}
use Rattle.hid_report_descriptor.specs.ListSpans.{lists_at, AreWithin}
use Rattle.hid_report_descriptor.specs.ItemLists.{lists_with, lists_of_spans, entry_spans, path_spans, AreSingle, AreStarts, AddsStarts, AreListed}
use Rattle.hid_report_descriptor.proofs.ListsLemmas.{lists_more, list_there, range_kept, range_added, within_more, Placed, earlier, last, placed}
use Rattle.hid_report_descriptor.proofs.StartLemmas.{starts-length}

-- the new places lie after the others
pub record IsBehind (entries more : List Entry) (paths path : List Collection) (s : ItemSpans) : Type 0 where
  pub start : s.entries.start ≡ length entries
  pub end : s.entries.end ≡ length entries + length more
  pub path_start : s.path.start ≡ length paths
  pub path_end : s.path.end ≡ length paths + length path

entries_more : (entries more : List Entry) (paths path : List Collection) (spans : List ItemSpans) (s : ItemSpans) → AreWithin entries (entry_spans spans) → IsBehind entries more paths path s
    → lists_at (entries ++ more) (entry_spans (spans ++ s ∷ [])) ≡ lists_at entries (entry_spans spans) ++ more ∷ []
entries_more entries more paths path spans s w b =
    ap (lists_at (entries ++ more)) (map-append (λ (x : ItemSpans). x.entries) spans (s ∷ [])) ∙ lists_more entries more (entry_spans spans) s.entries.start s.entries.end w b.start b.end

pub listed_added : (entries more : List Entry) (starts : List ℕ) (paths path : List Collection) (spans : List ItemSpans) (s : ItemSpans) → AreListed entries starts paths spans → IsBehind entries more paths path s
    → lists_of_spans (entries ++ more) (paths ++ path) (spans ++ s ∷ [])
    ≡ lists_with (lists_of_spans entries paths spans) more path
listed_added entries more starts paths path spans s l b =
    let e : lists_at (entries ++ more) (entry_spans (spans ++ s ∷ [])) ≡ lists_at entries (entry_spans spans) ++ more ∷ [] = entries_more entries more paths path spans s l.entries_within b in
    let p : lists_at (paths ++ path) (path_spans (spans ++ s ∷ [])) ≡ lists_at paths (path_spans spans) ++ path ∷ [] =
    ap (lists_at (paths ++ path)) (map-append (λ (x : ItemSpans). x.path) spans (s ∷ [])) ∙ lists_more paths path (path_spans spans) s.path.start s.path.end l.paths_within b.path_start b.path_end
    in
    cc

-- each range that is no last one has one usage: they begin at the first numbers
in_turn : (page n : ℕ) (named : List (NamedUsage × NamedUsage)) → AreSingle named
    → starts_from n (map (entry_on_page page) named) ≡ numbers_from n (length (map (entry_on_page page) named))
unfolding numbers_from
in_turn page n [] h = refl
in_turn page n (e ∷ []) h = refl
in_turn page n (e ∷ (f ∷ es)) h =
    let one : entry_count (entry_on_page page e) ≡ 1 = omega (arith, h 0 e refl (omega arith)) in
    ap (λ t. n ∷ t) (ap (λ k. starts_from (n + k) (map (entry_on_page page) (f ∷ es))) one ∙ in_turn page (n + 1) (f ∷ es) (λ i x at lt. h (suc i) x at (omega (arith, lt))))

pub single_starts : (page : ℕ) (named : List (NamedUsage × NamedUsage)) → AreSingle named
    → starts_of (map (entry_on_page page) named) ≡ numbers_from 0 (length (map (entry_on_page page) named))
single_starts page named h = in_turn page 0 named h

-- starts put after others leave those of an item where they stand
starts_kept : (es : List Entry) (at : Option ℕ) (starts more : List ℕ) → AreStarts es at starts → AreStarts es at (starts ++ more)
starts_kept es None starts more a = a
starts_kept es (Some at) starts more a = (omega (arith, a.0, length-append starts more), range_kept starts more at (at + length es) (omega arith) a.0 ∙ a.1)

starts_added : (es : List Entry) (at : Option ℕ) (old new : List ℕ) → length es ≤ 64 → AddsStarts es at old new → AreStarts es at new
starts_added es None old new few a = (a.0, few)
starts_added es (Some at) old new few a =
    let n : length (starts_of es) ≡ length es = starts-length 0 es in
    (omega (arith, a.0, ap length a.1, length-append old (starts_of es), n), ap (λ l. slice_range l at (at + length es)) a.1 ∙ range_added old (starts_of es) at (at + length es) a.0 (omega (arith, a.0, n)))

-- the starts that there were come first
starts_more : (es : List Entry) (at : Option ℕ) (old new : List ℕ) → AddsStarts es at old new → (more : List ℕ) × (new ≡ old ++ more)
starts_more es None old new a = ([], a.1 ∙ sym (append-nil old))
starts_more es (Some at) old new a = (starts_of es, a.1)

-- an item's lists stay as they are where others are put after them
kept_there : (entries more : List Entry) (starts others : List ℕ) (paths : List Collection) (spans : List ItemSpans) (i : ℕ) (s : ItemSpans) → AreListed entries starts paths spans → slice_get spans i ≡ Some s
    → AreStarts (slice_range (entries ++ more) s.entries.start s.entries.end) s.starts (starts ++ others)
kept_there entries more starts others paths spans i s l at =
    let w = l.entries_within i s.entries (slice_get-map (λ (x : ItemSpans). x.entries) spans i ∙ ap (option_map (λ (x : ItemSpans). x.entries)) at) in
    subst (λ es. AreStarts es s.starts (starts ++ others)) (sym (range_kept entries more s.entries.start s.entries.end w.0 w.1))
    (starts_kept (slice_range entries s.entries.start s.entries.end) s.starts starts others (l.starts_there i s at))

-- more collections after those of all paths change none of them
pub paths_longer : (entries : List Entry) (starts : List ℕ) (paths path : List Collection) (spans : List ItemSpans) → AreListed entries starts paths spans → AreListed entries starts (paths ++ path) spans
paths_longer entries starts paths path spans l = record {
  entries_within = l.entries_within;
  paths_within = λ i span e. let o = l.paths_within i span e in (o.0, omega (arith, o.1, length-append paths path));
  starts_there = l.starts_there;
}

-- starts that no item has yet, and more collections, change none of them
pub starts_longer : (entries : List Entry) (es : List Entry) (at : Option ℕ) (starts new : List ℕ) (paths path : List Collection) (spans : List ItemSpans) → AreListed entries starts paths spans → AddsStarts es at starts new → AreListed entries new (paths ++ path) spans
starts_longer entries es at starts new paths path spans l a =
    let m = starts_more es at starts new a in
    record {
      entries_within = l.entries_within;
      paths_within = (paths_longer entries starts paths path spans l).paths_within;
      starts_there = λ i s e. rw m.1 (subst (λ x. AreStarts (slice_range x s.entries.start s.entries.end) s.starts (starts ++ m.0)) (append-nil entries) (kept_there entries [] starts m.0 paths spans i s l e));
    }

pub still_listed : (entries more : List Entry) (starts new : List ℕ) (paths path : List Collection) (spans : List ItemSpans) (s : ItemSpans) → AreListed entries starts paths spans → IsBehind entries more paths path s
    → length more ≤ 64 → AddsStarts more s.starts starts new → AreListed (entries ++ more) new (paths ++ path) (spans ++ s ∷ [])
still_listed entries more starts new paths path spans s l b few a =
    let es : entry_spans (spans ++ s ∷ []) ≡ entry_spans spans ++ s.entries ∷ [] = map-append (λ (x : ItemSpans). x.entries) spans (s ∷ []) in
    let ps : path_spans (spans ++ s ∷ []) ≡ path_spans spans ++ s.path ∷ [] = map-append (λ (x : ItemSpans). x.path) spans (s ∷ []) in
    record {
      entries_within = subst (AreWithin (entries ++ more)) (sym es) (within_more entries more (entry_spans spans) s.entries l.entries_within b.start b.end);
      paths_within = subst (AreWithin (paths ++ path)) (sym ps) (within_more paths path (path_spans spans) s.path l.paths_within b.path_start b.path_end);
      starts_there = λ i x e. by_place i x (placed spans s i x e);
    }
  where
    by_place : (i : ℕ) (x : ItemSpans) → Placed spans s i x → AreStarts (slice_range (entries ++ more) x.entries.start x.entries.end) x.starts new
    by_place i x (earlier e) =
        let m = starts_more more s.starts starts new a in
        subst (AreStarts (slice_range (entries ++ more) x.entries.start x.entries.end) x.starts) (sym m.1) (kept_there entries more starts m.0 paths spans i x l e)
    by_place i x (last n e) =
        subst (λ (y : ItemSpans). AreStarts (slice_range (entries ++ more) y.entries.start y.entries.end) y.starts new) e
        (subst (λ r. AreStarts r s.starts new) (sym (range_added entries more s.entries.start s.entries.end b.start b.end)) (starts_added more s.starts starts new few a))

numbers_from-prefix : (from n m : ℕ) → take n (numbers_from from (n + m)) ≡ numbers_from from n
unfolding numbers_from
numbers_from-prefix from zero m = refl
numbers_from-prefix from (suc n) m =
    let e : suc n + m ≡ suc (n + m) = omega arith in
    ap (λ k. take (suc n) (numbers_from from k)) e ∙ ap (λ t. from ∷ t) (numbers_from-prefix (from + 1) n m)

-- the first of the first numbers
pub first_of : (n : ℕ) → n ≤ 64 → take n (numbers_from 0 64) ≡ numbers_from 0 n
first_of n le = ap (λ k. take n (numbers_from 0 k)) (omega (arith, le)) ∙ numbers_from-prefix 0 n (64 - n)

range-length : {T : Type 0} (values : List T) (a b : ℕ) → a ≤ b → b ≤ length values → length (slice_range values a b) ≡ b - a
range-length values a b le within = length-take-le (b - a) (drop a values) (omega (arith, length-drop a values))

-- an item's places lie among the values, and so does that of its starts, where they stand there
pub record HasPlaces (entries : List Entry) (starts : List ℕ) (paths : List Collection) (s : ItemSpans) : Type 0 where
  pub ordered : s.entries.start ≤ s.entries.end
  pub within : s.entries.end ≤ length entries
  pub path_ordered : s.path.start ≤ s.path.end
  pub path_within : s.path.end ≤ length paths
  pub stand : (at : ℕ) → s.starts ≡ Some at → at + (s.entries.end - s.entries.start) ≤ length starts
  pub first : s.starts ≡ None → s.entries.end - s.entries.start ≤ 64

pub has_places : (entries : List Entry) (starts : List ℕ) (paths : List Collection) (spans : List ItemSpans) (i : ℕ) (s : ItemSpans) → AreListed entries starts paths spans → slice_get spans i ≡ Some s → HasPlaces entries starts paths s
has_places entries starts paths spans i s l at =
    let w = l.entries_within i s.entries (slice_get-map (λ (x : ItemSpans). x.entries) spans i ∙ ap (option_map (λ (x : ItemSpans). x.entries)) at) in
    let p = l.paths_within i s.path (slice_get-map (λ (x : ItemSpans). x.path) spans i ∙ ap (option_map (λ (x : ItemSpans). x.path)) at) in
    let n : length (slice_range entries s.entries.start s.entries.end) ≡ s.entries.end - s.entries.start = range-length entries s.entries.start s.entries.end w.0 w.1 in
    record {
      ordered = w.0;
      within = w.1;
      path_ordered = p.0;
      path_within = p.1;
      stand = λ k e. let a = subst (λ o. AreStarts (slice_range entries s.entries.start s.entries.end) o starts) e (l.starts_there i s at) in omega (arith, a.0, n);
      first = λ e. let a = subst (λ o. AreStarts (slice_range entries s.entries.start s.entries.end) o starts) e (l.starts_there i s at) in omega (arith, a.1, n);
    }

-- the starts of an item, where they stand among others, or as the first numbers
pub starts_listed : (entries : List Entry) (starts : List ℕ) (paths : List Collection) (spans : List ItemSpans) (i : ℕ) (s : ItemSpans) (result : List ℕ) → AreListed entries starts paths spans → slice_get spans i ≡ Some s
    → ((at : ℕ) → s.starts ≡ Some at → result ≡ slice_range starts at (at + (s.entries.end - s.entries.start)))
    → (s.starts ≡ None → result ≡ numbers_from 0 (s.entries.end - s.entries.start))
    → slice_get (map starts_of (lists_at entries (entry_spans spans))) i ≡ Some result
starts_listed entries starts paths spans i s result l at some none =
    let span : slice_get (entry_spans spans) i ≡ Some s.entries = slice_get-map (λ (x : ItemSpans). x.entries) spans i ∙ ap (option_map (λ (x : ItemSpans). x.entries)) at in
    let w = l.entries_within i s.entries span in
    let es : List Entry = slice_range entries s.entries.start s.entries.end in
    let n : length es ≡ s.entries.end - s.entries.start = range-length entries s.entries.start s.entries.end w.0 w.1 in
    slice_get-map starts_of (lists_at entries (entry_spans spans)) i ∙ ap (option_map starts_of) (list_there entries (entry_spans spans) i s.entries span) ∙ ap Some (by_case s.starts refl n (l.starts_there i s at))
  where
    by_case : (o : Option ℕ) → s.starts ≡ o → length (slice_range entries s.entries.start s.entries.end) ≡ s.entries.end - s.entries.start → AreStarts (slice_range entries s.entries.start s.entries.end) o starts → starts_of (slice_range entries s.entries.start s.entries.end) ≡ result
    by_case None e n a = a.0 ∙ ap (numbers_from 0) n ∙ sym (none e)
    by_case (Some at) e n a = sym a.1 ∙ ap (λ k. slice_range starts at (at + k)) n ∙ sym (some at e)
