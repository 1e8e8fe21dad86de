use Rattle.std.proofs.Common.{◌≡◌, Err, inl, inr, rules}
use Rattle.lab_lines.specs.Typing.{characters_of}
use Rattle.lab_serving.specs.Reading.{lab_read_of}
use Rattle.lab_serving.proofs.PartLemmas.{typed_all, typed_not, typed_refused, typed_then}
use Rattle.lab_serving.proofs.lab_script.LabScript.take_text.Goals as goal

pub loop-character-preserved : goal.loop-character-preserved
loop-character-preserved c = record {
  goes_on = λ after rest. c.loop-character.invariant.goes_on after
      (typed_then (lab_read_of c.loop-character.self) (lab_read_of c.take_character.new.self) after c.args.number c.args.dev
      c.in-Some.character (characters_of c.loop-character.text.rest.now) (characters_of c.next_character.new.self.rest.now)
      c.in-Some.ensures.next c.in_ok-take_character.ensures.ok rest);
  ends = λ cause rest. c.loop-character.invariant.ends cause
      (typed_refused (lab_read_of c.loop-character.self) (lab_read_of c.take_character.new.self) c.args.number c.args.dev
      c.in-Some.character (characters_of c.loop-character.text.rest.now) (characters_of c.next_character.new.self.rest.now) cause
      c.in-Some.ensures.next c.in_ok-take_character.ensures.ok rest);
}

pub returns-in_err-take_character-clause-err : goal.returns-in_err-take_character-clause-err
returns-in_err-take_character-clause-err c =
    let e : c.from_residual.result ≡ Err c.in_err-take_character.field-0.0 = search rules in
    rw e (elim c.in_err-take_character.ensures.err [
      | inl memory ↦ inl memory
      | inr found ↦ inr (
        found.0,
        found.1,
        c.loop-character.invariant.ends found.0
            (typed_not (lab_read_of c.loop-character.self) c.args.number c.args.dev c.in-Some.character
            (characters_of c.loop-character.text.rest.now) (characters_of c.next_character.new.self.rest.now) found.0
            c.in-Some.ensures.next found.2),
      )
    ])

pub returns-clause-ok : goal.returns-clause-ok
returns-clause-ok c =
    c.loop-character.invariant.goes_on (lab_read_of c.loop-character.self)
    (typed_all (lab_read_of c.loop-character.self) c.args.number c.args.dev (characters_of c.loop-character.text.rest.now)
    c.in_default.ensures.next)
