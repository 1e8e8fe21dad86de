use Rattle.std.proofs.Common.{◌≡◌, ℕ, ◌+◌, ◌-◌, ◌*◌, ◌/◌, ◌%◌, ◌^◌, ◌≤◌, inl, inr, ◌∙◌, ap, sym, arith, rules, length, lit<}
use borrow.Rule.Slice.PartMut.{put_mid}
use Rattle.std.specs.List.{between}
use Rattle.std.proofs.lemmas.List.Edits.{length-between}
use Rattle.std.proofs.Math.Nat.{pow-le-pow_right}
use Rattle.hid_fields.specs.Field.{pattern_of}
use Rattle.hid_fields.specs.Word.{splice}
use Rattle.hid_fields.proofs.FieldLemmas.{pattern_of-lt}
use Rattle.hid_fields.proofs.PartLemmas.{pattern_of-put}
use Rattle.hid_fields.proofs.WordLemmas.{field_of_word, splice-lt, splice-field, put_elsewhere}
use Rattle.hid_fields.proofs.word_codec.put_spliced.Goals as goal

pub splice-word-requires-clause-word : goal.splice-word-requires-clause-word
splice-word-requires-clause-word c =
    let first = c.args.at / 8 in
    let last = first + c.touched_bytes.result in
    let part = between first last c.args.bytes.now in
    let len : length part ≡ last - first = length-between c.args.bytes.now first last (omega arith) in
    let small : 2 ^ (8 * length part) ≤ 2 ^ 40 = pow-le-pow_right {n = 2} (lit< tt) {i = 8 * length part} {j = 40} (omega arith) in
    rw c.gather.ensures (omega (arith, pattern_of-lt part 0 (8 * length part)))

pub scatter-requires-clause-fits : goal.scatter-requires-clause-fits
scatter-requires-clause-fits c =
    let first = c.args.at / 8 in
    let last = first + c.touched_bytes.result in
    let part = between first last c.args.bytes.now in
    let len : length part ≡ last - first = length-between c.args.bytes.now first last (omega arith) in
    rw (c.splice-word.ensures, c.gather.ensures)
    (splice-lt (c.args.at % 8) c.args.width c.args.pattern (pattern_of part 0 (8 * length part))
    (8 * length part) c.requires.fits (omega arith) (pattern_of-lt part 0 (8 * length part)))

pub returns-clause-field : goal.returns-clause-field
returns-clause-field c =
    let first = c.args.at / 8 in
    let shift = c.args.at % 8 in
    let last = first + c.touched_bytes.result in
    let part = between first last c.args.bytes.now in
    let ys = c.scatter.new.bytes in
    let part_len : length part ≡ last - first = length-between c.args.bytes.now first last (omega arith) in
    let len : length ys ≡ last - first = search rules in
    let here : c.args.at ≡ 8 * first + (0 + shift) = omega arith in
    let word : pattern_of ys 0 (8 * length ys) ≡ splice shift c.args.width c.args.pattern c.gather.result =
    c.scatter.ensures ∙ c.splice-word.ensures in
    ap (λ (a : ℕ). pattern_of (put_mid first (last - first) c.args.bytes.now ys) a c.args.width) here
    ∙ pattern_of-put c.args.bytes.now ys first last (0 + shift) c.args.width (omega arith) len (omega arith)
    ∙ sym (field_of_word ys 0 shift c.args.width (8 * length ys) (omega arith))
    ∙ rw word (splice-field shift c.args.width c.args.pattern c.gather.result c.requires.fits)

pub returns-clause-others : goal.returns-clause-others
returns-clause-others c = λ n outside.
    let first = c.args.at / 8 in
    let shift = c.args.at % 8 in
    let last = first + c.touched_bytes.result in
    let xs = c.args.bytes.now in
    let ys = c.scatter.new.bytes in
    let part = between first last xs in
    let part_len : length part ≡ last - first = length-between xs first last (omega arith) in
    let len : length ys ≡ last - first = search rules in
    let same_len : 8 * length ys ≡ 8 * length part = omega arith in
    let word : pattern_of ys 0 (8 * length part)
    ≡ splice shift c.args.width c.args.pattern (pattern_of part 0 (8 * length part)) =
    ap (λ (m : ℕ). pattern_of ys 0 m) (sym same_len) ∙ c.scatter.ensures ∙ c.splice-word.ensures
    ∙ ap (λ (x : ℕ). splice shift c.args.width c.args.pattern x) c.gather.ensures
    in
    put_elsewhere xs ys first last shift c.args.width c.args.pattern n (omega arith) (omega arith) part_len len c.requires.fits word
    (elim outside [ inl below ↦ inl (omega arith) | inr above ↦ inr (omega arith) ])
