use Rattle.std.proofs.Common.{◌≡◌, List, map, ◌++◌, [], ◌∷◌, length, ap, ◌∙◌, arith, length-append}
use Rattle.std.proofs.lemmas.List.{length-map}
use Rattle.hid_report_descriptor.specs.declared.item_lists.ItemSpans.{ItemSpans}
use Rattle.hid_report_descriptor.specs.Usages.{Entry}
use Rattle.hid_report_descriptor.specs.Locals.{entry_on_page}
use Rattle.hid_report_descriptor.specs.ItemLists.{lists_with, lists_of_spans}
use Rattle.hid_report_descriptor.proofs.ItemListLemmas.{IsBehind, listed_added, paths_longer, starts_longer, still_listed}
use Rattle.hid_report_descriptor.proofs.item_lists.ItemLists.push.Goals as goal

pub returns : goal.returns
returns c =
    let ranges : List Entry = map (entry_on_page c.args.page) c.args.entries.now in
    let s : ItemSpans = record { entries = record { start = c.len-start.result; end = c.len.result }; path = record { start = c.len-path_start.result; end = c.len-2.result }; starts = c.in_ok-starts.starts } in
    let es : c.add_ranges.new.entries.items ≡ c.self.inside.entries.items ++ ranges = c.in_ok-add_ranges.ensures.more in
    let ps : c.add_path.new.paths.items ≡ c.self.inside.paths.items ++ c.args.path.now = c.in_ok-add_path.ensures.more in
    let ss : c.push_reserved.new.self.items ≡ c.self.inside.spans.items ++ s ∷ [] = c.push_reserved.ensures.items ∙ ap (λ l. l ++ s ∷ []) c.in_ok-reserve.ensures.items in
    let b : IsBehind c.self.inside.entries.items ranges c.self.inside.paths.items c.args.path.now s = record {
      start = omega (arith, c.len-start.ensures);
      end = omega (arith, c.len.ensures, ap length es, length-append c.self.inside.entries.items ranges);
      path_start = omega (arith, c.len-path_start.ensures);
      path_end = omega (arith, c.len-2.ensures, ap length ps, length-append c.self.inside.paths.items c.args.path.now);
    } in
    ap (λ l. lists_of_spans l c.add_path.new.paths.items c.push_reserved.new.self.items) es
    ∙ ap (λ l. lists_of_spans (c.self.inside.entries.items ++ ranges) l c.push_reserved.new.self.items) ps
    ∙ ap (lists_of_spans (c.self.inside.entries.items ++ ranges) (c.self.inside.paths.items ++ c.args.path.now)) ss
    ∙ listed_added c.self.inside.entries.items ranges c.self.inside.starts.items c.self.inside.paths.items c.args.path.now c.self.inside.spans.items s c.self.invariant b
    ∙ ap (λ l. lists_with l ranges c.args.path.now) c.self.view_is

pub invariant_of-self : goal.invariant_of-self
invariant_of-self c = rw c.in_err-reserve.ensures.items c.self.invariant

pub invariant_of-self-in_err-add_path : goal.invariant_of-self-in_err-add_path
invariant_of-self-in_err-add_path c = rw (c.in_err-add_path.ensures.kept, c.in_ok-reserve.ensures.items) c.self.invariant

pub invariant_of-self-in_err-starts : goal.invariant_of-self-in_err-starts
invariant_of-self-in_err-starts c =
    let ps : c.add_path.new.paths.items ≡ c.self.inside.paths.items ++ c.args.path.now = c.in_ok-add_path.ensures.more in
    rw (c.in_err-starts.ensures.kept, ps, c.in_ok-reserve.ensures.items) (paths_longer c.self.inside.entries.items c.self.inside.starts.items c.self.inside.paths.items c.args.path.now c.self.inside.spans.items c.self.invariant)

pub invariant_of-self-in_err-add_ranges : goal.invariant_of-self-in_err-add_ranges
invariant_of-self-in_err-add_ranges c =
    let ranges : List Entry = map (entry_on_page c.args.page) c.args.entries.now in
    let ps : c.add_path.new.paths.items ≡ c.self.inside.paths.items ++ c.args.path.now = c.in_ok-add_path.ensures.more in
    rw (c.in_err-add_ranges.ensures.kept, ps, c.in_ok-reserve.ensures.items)
    (starts_longer c.self.inside.entries.items ranges c.in_ok-starts.starts c.self.inside.starts.items c.add_starts.new.starts.items c.self.inside.paths.items c.args.path.now c.self.inside.spans.items c.self.invariant c.in_ok-starts.ensures.added)

pub invariant_of-self-2 : goal.invariant_of-self-2
invariant_of-self-2 c =
    let ranges : List Entry = map (entry_on_page c.args.page) c.args.entries.now in
    let s : ItemSpans = record { entries = record { start = c.len-start.result; end = c.len.result }; path = record { start = c.len-path_start.result; end = c.len-2.result }; starts = c.in_ok-starts.starts } in
    let es : c.add_ranges.new.entries.items ≡ c.self.inside.entries.items ++ ranges = c.in_ok-add_ranges.ensures.more in
    let ps : c.add_path.new.paths.items ≡ c.self.inside.paths.items ++ c.args.path.now = c.in_ok-add_path.ensures.more in
    let ss : c.push_reserved.new.self.items ≡ c.self.inside.spans.items ++ s ∷ [] = c.push_reserved.ensures.items ∙ ap (λ l. l ++ s ∷ []) c.in_ok-reserve.ensures.items in
    let b : IsBehind c.self.inside.entries.items ranges c.self.inside.paths.items c.args.path.now s = record {
      start = omega (arith, c.len-start.ensures);
      end = omega (arith, c.len.ensures, ap length es, length-append c.self.inside.entries.items ranges);
      path_start = omega (arith, c.len-path_start.ensures);
      path_end = omega (arith, c.len-2.ensures, ap length ps, length-append c.self.inside.paths.items c.args.path.now);
    } in
    rw (es, ps, ss) (still_listed c.self.inside.entries.items ranges c.self.inside.starts.items c.add_starts.new.starts.items c.self.inside.paths.items c.args.path.now c.self.inside.spans.items s c.self.invariant b (omega (arith, c.requires, length-map c.args.entries.now (entry_on_page c.args.page))) c.in_ok-starts.ensures.added)
