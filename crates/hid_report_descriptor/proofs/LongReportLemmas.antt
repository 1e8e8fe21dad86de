-- The report of an item, as a parser finds it.
use Rattle.std.proofs.Common.{◌≡◌, ℕ, ◌+◌, ◌*◌, ◌<◌, ◌≤◌, List, length, drop, true, sym, ap, subst, ◌∙◌, arith, Result, Ok, Err}
use Rattle.std.specs.Prelude.{IfOk, IfSome}
use Rattle.std.specs.Result.{result_ok}
use Rattle.std.proofs.lemmas.Nat.{mul-le}
use Rattle.hid_items.specs.Reading.{GivesItem, remaining_bytes}
use Rattle.hid_items.specs.declared.Item.{Item as Read}
use Rattle.hid_items.specs.declared.Items.{Items}
use Rattle.hid_report_descriptor.specs.declared.limits.Limits.{Limits}
use Rattle.hid_report_descriptor.specs.declared.long_reports.LongReport.{LongReport}
use Rattle.hid_report_descriptor.specs.declared.parser.Parser.{Parser}
use Rattle.hid_report_descriptor.specs.Items.{EncodedItem, is_field}
use Rattle.hid_report_descriptor.specs.Faults.{Reaches}
use Rattle.hid_report_descriptor.specs.Parser.{HasTaken}
use Rattle.hid_report_descriptor.specs.LongReports.{report_with, IsReportAt}
use Rattle.hid_report_descriptor.proofs.Taking.{reached, rest_dropped}

-- the bits of a report, and those of an item after them, can be counted
pub bits_fit : (offset size count : ℕ) → offset < 4294967296 → size < 4294967296 → count < 4294967296
    → offset + size * count < 18446744073709551616
bits_fit offset size count o s c =
    let most : size * count ≤ 4294967295 * 4294967295 = mul-le size count 4294967295 4294967295 (omega (arith, s)) (omega (arith, c)) in
    omega (arith, most, o)

-- the next item, after those that were taken
pub next_report : (limits : Limits) (bytes : List ℕ) (at : ℕ) (before : List EncodedItem) (old new : Items) (item : Read) (parser : Parser) (report : LongReport)
    → length bytes ≤ 4096 → HasTaken limits bytes before old parser → GivesItem old item new → item.at ≡ at
    → is_field item.bytes.now ≡ true → report ≡ report_with limits before item.bytes.now → IsReportAt limits bytes at report
next_report limits bytes at before old new item parser report le t g here f e =
    let place : old.at ≡ at = sym g.at ∙ here in
    record {
      before = before;
      item = item.bytes.now;
      reaches = subst (λ n. Reaches limits bytes n before) place (reached limits bytes before old parser le t);
      encoded = g.encoded;
      next = (remaining_bytes new, ap (λ n. drop n bytes) (sym place) ∙ rest_dropped limits bytes before old parser t ∙ g.rest);
      a_field = f;
      with_item = e;
    }

-- the report that is found, where one is
pub found_report : {E : Type 0} (limits : Limits) (bytes : List ℕ) (at : ℕ) (before : List EncodedItem) (old new : Items) (item : Read) (parser : Parser) (found : Result LongReport E)
    → length bytes ≤ 4096 → HasTaken limits bytes before old parser → GivesItem old item new → item.at ≡ at
    → IfSome (result_ok found) (λ r. is_field item.bytes.now ≡ true) → IfSome (result_ok found) (λ r. r ≡ report_with limits before item.bytes.now)
    → IfOk found (IsReportAt limits bytes at)
found_report limits bytes at before old new item parser (Err e) le t g here f e' = tt
found_report limits bytes at before old new item parser (Ok report) le t g here f e =
    next_report limits bytes at before old new item parser report le t g here f e
