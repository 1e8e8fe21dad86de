use Rattle.std.proofs.Common.{◌≡◌, true, refl, sym, subst, ◌∙◌, Ok}
use Rattle.hid_script.specs.LineOutput.{LineOutcomeOnce, times}
use Rattle.lab_session.specs.Expecting.{ReadExpects}
use Rattle.lab_session.specs.Scripts.{end_of}
use Rattle.hid_script.proofs.StreamLemmas.{no_calls}
use Rattle.lab_session.proofs.CallLemmas.{of_text}
use Rattle.lab_session.proofs.ScriptLineLemmas.{short_read}
use Rattle.lab_session.proofs.ShortLemmas.{none_there, ok_is, parts_done, quiet_end, quiet_prints, short_ends}
use Rattle.lab_session.proofs.bench.Bench.line.Goals as goal

pub returns-then-not-is_one_part-clause-does : goal.returns-then-not-is_one_part-clause-does
returns-then-not-is_one_part-clause-does g c =
    parts_done c.args.line.now c.in-Some.short _ _ _ _ c.some_parts.result (sym c.in-Some.ensures.exact) c.some_parts.ensures.does

pub returns-then-not-is_one_part-clause-expects : goal.returns-then-not-is_one_part-clause-expects
returns-then-not-is_one_part-clause-expects g c =
    subst (λ m. ReadExpects m c.args.self.now.printer.transcript c.some_parts.new.self.printer.transcript c.some_parts.new.self.came.items (end_of c.some_parts.result))
    (sym (short_read c.args.line.now c.in-Some.short (sym c.in-Some.ensures.exact))) tt

pub returns-then-is_empty-clause-does : goal.returns-then-is_empty-clause-does
unfolding LineOutcomeOnce times
returns-then-is_empty-clause-does g c =
    let one : c.is_one_part.result ≡ true = cc in
    let ok = ok_is c.repeat-part.result (sym c.is_ok.ensures.value ∙ c.if-is_ok.true) in
    let none = sym c.as_slice.ensures.value ∙ none_there c.as_slice.result.now (sym c.is_empty.ensures ∙ c.if-is_empty.true) in
    (short_ends {a = c.args.self.now} (quiet_end _ _ c.repeat-part.result ok none) c.in-Some.ensures.short (c.is_one_part.ensures.undrawn one) c.clear.ensures.items c.repeat-part.ensures.prints refl refl refl refl).does

pub returns-then-is_empty-clause-prints : goal.returns-then-is_empty-clause-prints
unfolding LineOutcomeOnce times
returns-then-is_empty-clause-prints g c = λ plain undrawn old.
    let ok = ok_is c.repeat-part.result (sym c.is_ok.ensures.value ∙ c.if-is_ok.true) in
    let none = sym c.as_slice.ensures.value ∙ none_there c.as_slice.result.now (sym c.is_empty.ensures ∙ c.if-is_empty.true) in
    quiet_prints c.args.line.now c.in-Some.short _ _ c.clear.new.self.items c.repeat-part.new.writer.items _ c.repeat-part.result c.in-Some.ensures.short c.clear.ensures.items c.repeat-part.ensures.prints ok none

pub returns-then-is_empty-clause-expects : goal.returns-then-is_empty-clause-expects
returns-then-is_empty-clause-expects g c =
    subst (λ m. ReadExpects m c.args.self.now.printer.transcript c.args.self.now.printer.transcript c.args.self.now.came.items (Ok tt))
    (sym (short_read c.args.line.now c.in-Some.short (sym c.in-Some.ensures.exact))) tt

pub returns-clause-does : goal.returns-clause-does
unfolding LineOutcomeOnce times
returns-clause-does g c =
    let one : c.is_one_part.result ≡ true = cc in
    (short_ends {a = c.args.self.now} c.end_part.ensures.ends c.in-Some.ensures.short (c.is_one_part.ensures.undrawn one) c.clear.ensures.items c.repeat-part.ensures.prints refl refl refl refl).does

pub returns-clause-prints : goal.returns-clause-prints
unfolding LineOutcomeOnce times
returns-clause-prints g c = λ plain undrawn old.
    let one : c.is_one_part.result ≡ true = cc in
    (short_ends {a = c.args.self.now} c.end_part.ensures.ends c.in-Some.ensures.short (c.is_one_part.ensures.undrawn one) c.clear.ensures.items c.repeat-part.ensures.prints refl refl refl refl).prints plain

pub returns-clause-expects : goal.returns-clause-expects
returns-clause-expects g c =
    subst (λ m. ReadExpects m c.args.self.now.printer.transcript c.end_part.new.self.printer.transcript c.end_part.new.self.came.items (end_of c.end_part.result))
    (sym (short_read c.args.line.now c.in-Some.short (sym c.in-Some.ensures.exact))) tt

pub returns-clause-unsettled : goal.returns-clause-unsettled
unfolding LineOutcomeOnce times
returns-clause-unsettled g c = λ is.
    let one : c.is_one_part.result ≡ true = cc in
    absurd ((short_ends {a = c.args.self.now} c.end_part.ensures.ends c.in-Some.ensures.short (c.is_one_part.ensures.undrawn one) c.clear.ensures.items c.repeat-part.ensures.prints refl refl refl refl).settled is)

pub returns-then-is_empty-clause-calls : goal.returns-then-is_empty-clause-calls
returns-then-is_empty-clause-calls g c = no_calls g.W.Sink.calls c.args.writer.now

pub returns-clause-calls : goal.returns-clause-calls
returns-clause-calls g c = c.end_part.ensures.calls (of_text _ c.clear.new.self c.repeat-part.new.writer c.repeat-part.result c.repeat-part.ensures.outside)
