use Rattle.std.proofs.Common.{◌≡◌, ◌<◌, ◌≤◌, ℕ, length, true, false, ap, sym, ◌∙◌, subst}
use Rattle.hid_layout.specs.Controls.{items_of}
use Rattle.hid_device.specs.Core.{CoreState}
use Rattle.hid_bus.specs.ReportState.{is_due}
use Rattle.hid_device.proofs.DueLemmas.{due_is, find_here, find_next, find_past}
use Rattle.hid_device.proofs.device_core.Core.first_due.Goals as goal

pub loop-report-preserved : goal.loop-report-preserved
loop-report-preserved c =
    let count : c.len-report-end.result ≡ length c.args.self.now.reports.frames =
    c.len-report-end.ensures ∙ c.self.inside.frames.ok.0
    ∙ ap (λ (core : CoreState). length core.reports.frames) c.self.view_is in
    let within : c.loop-report.report < length c.args.self.now.reports.frames =
    subst (λ (n : ℕ). c.loop-report.report < n) count c.loop-report-test.true in
    let missed : is_due (items_of c.args.self.now.layout) c.args.self.now.reports c.loop-report.report ≡ false =
    sym c.is_due.ensures ∙ c.if-is_due.false in
    c.loop-report.invariant
    ∙ find_next (is_due (items_of c.args.self.now.layout) c.args.self.now.reports)
    (length c.args.self.now.reports.frames) c.loop-report.report within missed

pub returns-then-is_due-clause-due : goal.returns-then-is_due-clause-due
returns-then-is_due-clause-due c =
    let core = c.args.self.now in
    let going : core.halted ≡ false = ap (λ (core : CoreState). core.halted) (sym c.self.view_is) ∙ sym c.halted.ensures ∙ c.if-halted.false in
    let count : c.len-report-end.result ≡ length core.reports.frames =
    c.len-report-end.ensures ∙ c.self.inside.frames.ok.0
    ∙ ap (λ (core : CoreState). length core.reports.frames) c.self.view_is in
    let hit : is_due (items_of core.layout) core.reports c.loop-report.report ≡ true =
    sym c.is_due.ensures ∙ c.if-is_due.true in
    due_is (items_of core.layout) core.reports core.halted _ going
    (c.loop-report.invariant
    ∙ find_here (is_due (items_of core.layout) core.reports) (length core.reports.frames) c.loop-report.report
    (subst (λ (n : ℕ). c.loop-report.report < n) count c.loop-report-test.true) hit)

pub returns-clause-due : goal.returns-clause-due
returns-clause-due c =
    let core = c.args.self.now in
    let going : core.halted ≡ false = ap (λ (core : CoreState). core.halted) (sym c.self.view_is) ∙ sym c.halted.ensures ∙ c.if-halted.false in
    let count : c.len-report-end.result ≡ length core.reports.frames =
    c.len-report-end.ensures ∙ c.self.inside.frames.ok.0
    ∙ ap (λ (core : CoreState). length core.reports.frames) c.self.view_is in
    due_is (items_of core.layout) core.reports core.halted _ going
    (c.loop-report.invariant
    ∙ find_past (is_due (items_of core.layout) core.reports) (length core.reports.frames) c.loop-report.report
    (subst (λ (n : ℕ). n ≤ c.loop-report.report) count c.loop-report-test.false))
