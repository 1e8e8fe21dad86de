use Rattle.std.proofs.Common.{◌≡◌, Err, inl, inr, refl, rules}
use Rattle.lab_serving.specs.Reading.{lab_read_of}
use Rattle.lab_serving.proofs.lab_script.LabScript.take_shifted.Goals as goal

pub returns-in_err-take_short-2-clause-err : goal.returns-in_err-take_short-2-clause-err
returns-in_err-take_short-2-clause-err c =
    let e : c.from_residual-in_err-take_short-2.result ≡ Err c.in_err-take_short-2.field-0.0 = search rules in
    rw e (elim c.in_err-take_short-2.ensures.err [
      | inl memory ↦ inl memory
      | inr found ↦ inr (found.0, found.1, inr (lab_read_of c.take_short.new.self, c.in_ok-take_short.ensures.ok, inl found.2))
    ])

pub returns-clause-ok : goal.returns-clause-ok
returns-clause-ok c = (
  lab_read_of c.take_short.new.self,
  c.in_ok-take_short.ensures.ok,
  (
    lab_read_of c.take_short-2.new.self,
    c.in_ok-take_short-2.ensures.ok,
    (
      lab_read_of c.take_short-3.new.self,
      c.in_ok-take_short-3.ensures.ok,
      (lab_read_of c.take_short-4.new.self, c.in_ok-take_short-4.ensures.ok, refl),
    ),
  ),
)
