use Rattle.std.proofs.Common.{◌≡◌, ◌∙◌, ◌<◌, ℕ, List, Some, ap, sym, length, get_or, arith}
use Rattle.std.specs.Int.{div_ceil}
use Rattle.std.proofs.lemmas.List.{get_or-take}
use Rattle.std.proofs.lemmas.Option.{slice_get-get_or, unwrap_or-slice_get, get_or_from_slice_get}
use Rattle.hid_snapshots.specs.Words.{words_of, word_at}
use Rattle.hid_snapshots.proofs.WordLemmas.{told}
use Rattle.hid_snapshots.proofs.NoteLemmas.{words_long}
use Rattle.hid_snapshots.proofs.PutLemmas.{word_read}
use Rattle.hid_snapshots.proofs.flags.Flags.word.Goals as goal

pub index-requires : goal.index-requires
index-requires c = omega (arith, c.requires, c.self.invariant.notes, (told _ _ _ c.self.invariant.words c.self.view_is).1)

pub returns : goal.returns
returns c = λ b h.
    let ws = c.self.inside.words.items in
    let n = c.self.inside.len in
    let k = c.args.k in
    let v = c.index.result.now in
    let tells = told _ _ _ c.self.invariant.words c.self.view_is in
    let within : k < div_ceil n 64 = omega (arith, c.requires, tells.1) in
    let there : k < length (words_of ws n) = omega (arith, within, words_long ws n c.self.inside.top c.self.invariant) in
    let read : v ≡ get_or (words_of ws n) k v = c.index.ensures ∙ sym (get_or-take (div_ceil n 64) ws k v within) in
    let zero : get_or (words_of ws n) k 0 ≡ v = get_or_from_slice_get (words_of ws n) k v 0 (slice_get-get_or (words_of ws n) k v there ∙ ap (λ (x : ℕ). Some x) (sym read)) in
    word_read c.args.self.now k b v (sym zero ∙ sym (unwrap_or-slice_get (words_of ws n) k 0) ∙ ap (λ (xs : List ℕ). word_at xs k) tells.0) h
