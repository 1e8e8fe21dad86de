use Rattle.std.proofs.Common.{◌≡◌, ◌+◌, ◌-◌, ◌++◌, arith, rules, length, length-append, slice_range, sym, ap, ◌∙◌}
use Rattle.std.proofs.lemmas.List.{places}
use Rattle.lab_lines.specs.Copies.{copies}
use Rattle.lab_lines.proofs.BodyLemmas.{gives_more, part_of}
use Rattle.lab_lines.proofs.body.Body.give_part.Goals as goal

pub loop-left-preserved : goal.loop-left-preserved
loop-left-preserved c =
    let before = c.loop-left.invariant.1 in
    let self = c.has_more.new.self in
    let part = slice_range self.text.items self.at (self.at + c.min-count.result) in
    let size : length part ≡ c.min-count.result = search (rules, places) in
    let both = gives_more _ _ _ before.0 part _ _ _ before.1 (sym c.has_more.ensures.same ∙ part_of self.at (self.at + c.min-count.result) self.text.items (copies (self.left - 1) self.text.items) (omega arith) (omega arith)) before.2 (rw c.as_slice.ensures.value at c.in_ok-extend_from_slice.ensures.items) in
    (omega arith, (before.0 ++ part, both.0, both.1, omega (arith, length-append before.0 part, size, before.3), λ h. absurd (cc), λ h e. absurd (omega (arith, ap length e, length-append before.0 part, size))))
