use Rattle.std.proofs.Common.{◌≡◌, refl, rules, sym, subst, Ok, Err}
use Rattle.hid_script.specs.LineOutput.{LineBegins, LinePrints}
use Rattle.lab_lines.specs.LabLines.{Script, lab_meaning}
use Rattle.lab_session.specs.declared.fault.LabCause.TheVariants as cause
use Rattle.lab_session.specs.Expecting.{ReadExpects}
use Rattle.lab_session.specs.Lines.{LineDoes}
use Rattle.lab_session.proofs.bench.Bench.longer_line.Goals as goal

pub returns-in-Ok-clause-does : goal.returns-in-Ok-clause-does
unfolding LineDoes
returns-in-Ok-clause-does g c =
    let read : lab_meaning c.args.line.now ≡ Ok (Script c.args.line.now) = c.begins_line_of_hidrun.ensures (search rules) c.requires in
    let h = c.in-Ok.ensures.does in
    record {
      said = Script c.args.line.now;
      read = read;
      asks = refl;
      does = record { parts = h.parts; text = h.text; done = h.done; options = h.options; written = h.written; waits = h.waits };
    }

pub returns-in-Ok-clause-prints : goal.returns-in-Ok-clause-prints
unfolding LinePrints LineBegins
returns-in-Ok-clause-prints g c = λ plain undrawn old. (Ok tt, refl, c.in-Ok.ensures.prints plain)

pub returns-in-Err-clause-prints : goal.returns-in-Err-clause-prints
unfolding LinePrints LineBegins
returns-in-Err-clause-prints g c = λ plain undrawn old. (Err c.in-Err.cause, refl, c.in-Err.ensures.prints plain)

pub returns-in-Ok-clause-expects : goal.returns-in-Ok-clause-expects
returns-in-Ok-clause-expects g c =
    let read : lab_meaning c.args.line.now ≡ Ok (Script c.args.line.now) = c.begins_line_of_hidrun.ensures (search rules) c.requires in
    subst (λ m. ReadExpects m c.args.self.now.printer.transcript c.script_line.new.self.printer.transcript c.script_line.new.self.came.items (Ok tt)) (sym read) tt

pub returns-in-Err-clause-expects : goal.returns-in-Err-clause-expects
returns-in-Err-clause-expects g c =
    let read : lab_meaning c.args.line.now ≡ Ok (Script c.args.line.now) = c.begins_line_of_hidrun.ensures (search rules) c.requires in
    subst (λ m. ReadExpects m c.args.self.now.printer.transcript c.script_line.new.self.printer.transcript c.script_line.new.self.came.items (Err (cause.Script c.in-Err.cause))) (sym read) tt
