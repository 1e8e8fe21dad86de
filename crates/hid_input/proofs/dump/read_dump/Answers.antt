use Rattle.std.proofs.Common.{◌≡◌, ◌+◌, ◌<◌, ◌≤◌, ℕ, List, [], None, Some, length, get_or, drop, subst, sym, ap, ◌∙◌}
use Rattle.std.proofs.lemmas.List.{drop_more}
use Rattle.std.proofs.Math.ListN.{drop_of_length-le}
use Rattle.hid_input.specs.Text.{lines_of}
use Rattle.hid_input.specs.Dump.{bases_of, row_size, rows_bytes, based_bytes, dump_bytes}
use Rattle.hid_input.proofs.DumpLemmas.{base_refused, base_read, no_dump, whole_dump}
use Rattle.hid_input.proofs.dump.read_dump.Goals as goal

pub loop-base-init : goal.loop-base-init
loop-base-init c =
    let lines = lines_of c.args.text.now in
    ap (λ (bases : List ℕ). based_bytes bases (row_size c.first_word-word.result.now) lines) c.bases_of-base-items.ensures
    ∙ ap (λ (word : List ℕ). based_bytes (bases_of word) (row_size word) lines) c.first_word-word.ensures

pub loop-base-preserved : goal.loop-base-preserved
loop-base-preserved c =
    let i = c.loop-base.base-index in
    let bases = c.bases_of-base-items.result.now in
    let size = row_size c.first_word-word.result.now in
    let lines = lines_of c.args.text.now in
    let read : rows_bytes (get_or bases i 0) size [] lines ≡ None =
    subst (λ (s : ℕ). rows_bytes (get_or bases i 0) s [] lines ≡ None) c.row_size.ensures.size (rw c.in-Err.is at c.in_ok-bytes.ensures) in
    sym (base_refused (get_or bases i 0) size (drop (i + 1) bases) lines read)
    ∙ (ap (λ (more : List ℕ). based_bytes more size lines) (sym (drop_more bases i 0 c.loop-base-test.true)) ∙ c.loop-base.invariant)

pub returns : goal.returns
returns c =
    let bases = c.bases_of-base-items.result.now in
    no_dump c.args.text.now c.of_line.result (sym c.loop-base.invariant
    ∙ ap (λ (more : List ℕ). based_bytes more (row_size c.first_word-word.result.now) (lines_of c.args.text.now)) (drop_of_length-le bases c.loop-base-test.false))

pub returns-in-Ok : goal.returns-in-Ok
returns-in-Ok c =
    let i = c.loop-base.base-index in
    let bases = c.bases_of-base-items.result.now in
    let size = row_size c.first_word-word.result.now in
    let lines = lines_of c.args.text.now in
    let bytes = c.in-Ok.bytes.items in
    let read : rows_bytes (get_or bases i 0) size [] lines ≡ Some bytes =
    subst (λ (s : ℕ). rows_bytes (get_or bases i 0) s [] lines ≡ Some bytes) c.row_size.ensures.size (rw c.in-Ok.is at c.in_ok-bytes.ensures) in
    whole_dump c.args.text.now bytes c.found_whole.result (sym c.loop-base.invariant
    ∙ (ap (λ (more : List ℕ). based_bytes more size lines) (drop_more bases i 0 c.loop-base-test.true) ∙ base_read (get_or bases i 0) size (drop (i + 1) bases) bytes lines read)) c.found_whole.ensures.answer
