use Rattle.std.proofs.Common.{rules, ◌≡◌, ◌<◌, ◌≤◌, ◌⊎◌, inl, inr, length, ℕ, ◌+◌, ◌*◌, w64, to_z, of_z, List, slice_index, Result, Ok, Err, arith, refl, sym, ap, ◌∙◌, subst}
use Rattle.std.proofs.lemmas.Int.{to_z-of_z}
use Rattle.hid_fields.specs.Field.{pattern_of}
use Rattle.hid_fields.specs.Value.{value_of}
use Rattle.hid_snapshots.specs.declared.fault.ReportFault.{ReportFault}
use Rattle.hidstack_session.specs.declared.element.HidElement.{HidElement}
use Rattle.hidstack_session.specs.Elements.{IsFound, IsNamed, LiesIn, is_signed}
use Rattle.hidstack_session.proofs.WritingLemmas.{named_still}
use Rattle.hidstack_session.proofs.writing.put_number.Goals as goal
use Rattle.hidstack_session.proofs.writing.put_number.Goals.{else-element-ne0-via-then-element-ne0+else-element-lt-ID_BITS, else-element-ne0-via-else-element-ne0}

found_if : (element : HidElement) (bytes : List ℕ) (result : Result (Unit {0}) ReportFault) → ((f : ReportFault) → result ≡ Err f → ⊥)
    → IsFound element bytes result → LiesIn element bytes × IsNamed element bytes
found_if element bytes (Ok _) not found = found
found_if element bytes (Err f) not found = absurd (not f refl)

pub returns : goal.returns
returns c =
    let found = found_if c.args.element.now c.args.bytes.now c.look_for.result (λ f is. c.in_default.not-Err f is) c.look_for.ensures in
    let after : (c.args.element.now.report ≡ 0) ⊎ (8 ≤ c.args.element.now.bit) =
    elim c.else-element-ne0.branch [ else-element-ne0-via-then-element-ne0+else-element-lt-ID_BITS w ↦ inr (omega (arith, w.if-element-lt-ID_BITS)) | else-element-ne0-via-else-element-ne0 w ↦ inl (omega (arith, w.if-element-ne0)) ] in
    let small : c.args.element.now.report < 256 = omega (arith) in
    let small' : slice_index c.put.new.bytes 0 < 256 = omega (arith, c.type_inv.bytes 0) in
    let element = c.args.element.now in
    let whole : to_z w64 (of_z w64 c.args.value) ≡ c.args.value = to_z-of_z w64 c.args.value (omega (arith, c.ranges.value.sfits)) in
    let read : value_of (pattern_of c.put.new.bytes element.bit element.width) element.width (is_signed element) ≡ c.args.value =
    ap (λ (p : ℕ). value_of p element.width (is_signed element)) c.put.ensures.field
    ∙ c.to_pattern-pattern.ensures.value (is_signed element) c.if-not-fits_field.ensures.fits ∙ whole in
    let lies : element.bit + element.width ≤ 8 * length c.put.new.bytes = omega (arith, found.0.2, c.put.auto.bytes) in
    let named = named_still element c.args.bytes.now c.put.new.bytes small small' after c.put.ensures.others found.1 in
    ((found.0, after), found.1, ((found.0.0, found.0.1, lies), named, sym read), c.put.auto.bytes, c.put.ensures.others)
