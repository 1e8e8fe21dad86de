use Rattle.std.proofs.Common.{◌∙◌, ◌/◌, ◌<◌, sym, ap, ℕ, List, length, arith}
use Rattle.std.specs.Int.{div_ceil}
use Rattle.hid_snapshots.specs.Words.{is_bit}
use Rattle.hid_snapshots.proofs.WordLemmas.{word_there, place_read}
use Rattle.hid_snapshots.proofs.NoteLemmas.{words_long, bit_first}
use Rattle.hid_snapshots.proofs.flags.Flags.get.Goals as goal

pub is_bit-requires : goal.is_bit-requires
is_bit-requires c =
    omega (arith, word_there _ _ _ c.args.index c.self.invariant.words c.self.view_is c.requires, words_long _ _ _ c.self.invariant, c.self.invariant.notes, ap length c.deref.ensures.value)

pub returns : goal.returns
returns c =
    let within : c.args.index / 64 < div_ceil c.self.inside.len 64 = omega (arith, word_there _ _ _ c.args.index c.self.invariant.words c.self.view_is c.requires, words_long _ _ _ c.self.invariant) in
    place_read _ _ _ c.args.index c.is_bit.result c.self.invariant.words c.self.view_is c.requires
    (c.is_bit.ensures ∙ ap (λ (ws : List ℕ). is_bit ws c.args.index) c.deref.ensures.value ∙ sym (bit_first c.self.inside.words.items (div_ceil c.self.inside.len 64) c.args.index within))
