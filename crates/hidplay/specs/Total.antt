-- What all files together had (our choice: docs/RECORDINGS.md).
use Rattle.std.specs.Prelude.{ℕ, ◌+◌, ◌-◌, ◌^◌, min, List, ◌++◌, codes, Result, Ok, Err}
use Rattle.std.specs.Fmt.{decimal}
use Rattle.hid_recording.specs.declared.summary.Summary.{Summary}
use Rattle.hidplay.specs.declared.fault.FileFault.{FileFault}
use Rattle.hidplay.specs.declared.total.Total.{Total}
use Rattle.hidplay.specs.EndLine.{refusals_of}

-- a count stops at the greatest number of 64 bits
abbrev pub plus : ℕ → ℕ → ℕ
plus count more = min (count + more) (2 ^ 64 - 1)

-- the counts of all files with what was played of one more; a count stops at the greatest number of 64 bits
abbrev pub with_summary : Total → Summary → Total
with_summary total played = record total {
  descriptors = plus total.descriptors played.descriptors;
  reports = plus total.reports played.reports;
  events = plus total.events played.events;
  refused = plus total.refused played.refused;
}

-- The counts with one more file: one that was played to its end counts as a file; of another one what was played is added,
-- and one refusal more if a refusal ended it.
abbrev pub with_result : Total → Result Summary FileFault → Total
with_result total (Ok summary) = with_summary (record total { files = plus total.files 1 }) summary
with_result total (Err fault) = with_summary total (record fault.played { refused = refusals_of fault })

-- the line of totals: files N, descriptors N, reports N, events N, refused N
abbrev pub total_text : Total → List ℕ
total_text total =
    codes "files " ++ (decimal total.files
    ++ (codes ", descriptors " ++ (decimal total.descriptors
    ++ (codes ", reports " ++ (decimal total.reports
    ++ (codes ", events " ++ (decimal total.events
    ++ (codes ", refused " ++ decimal total.refused))))))))
