use Rattle.std.proofs.Common.{◌≡◌, ◌<◌, ℕ, List, length, false, Option, None, Some, refl, ap, ◌∙◌, subst, sym, arith}
use Rattle.std.specs.Prelude.{IsNone}
use Rattle.std.proofs.lemmas.List.{length-set}
use Rattle.hid_layout.specs.Controls.{items_of}
use Rattle.hid_snapshots.specs.Pieces.{piece_of}
use Rattle.hid_snapshots.proofs.PieceLemmas.{some_piece}
use Rattle.hid_snapshots.specs.PartBytes.{part_bytes}
use Rattle.usb_transact.specs.Device.{DevPipeState}
use Rattle.hid_device.specs.Core.{AreBytesOf, CoreState, piece_armed}
use Rattle.hid_device.specs.contracts.device_core.Core.{the_view}
use Rattle.hid_device.proofs.InputLemmas.{counted, counted_input}
use Rattle.hid_device.proofs.BusLemmas.{short_report}
use Rattle.hid_device.proofs.device_core.Core.open.Goals as goal

pub shown-requires-clause-input : goal.shown-requires-clause-input
shown-requires-clause-input c = counted_input (the_view c.self.inside) _ c.args.report c.self.invariant.sound c.self.view_is c.requires.input

pub take_motion-requires-clause-input : goal.take_motion-requires-clause-input
take_motion-requires-clause-input c = counted_input (the_view c.self.inside) _ c.args.report c.self.invariant.sound c.self.view_is c.requires.input

pub index_mut-requires : goal.index_mut-requires
index_mut-requires c =
    let sound = c.self.invariant.sound in
    subst (λ (n : ℕ). c.args.report < n) (sym (c.self.inside.frames.ok.0 ∙ sound.each_frames)) (counted (the_view c.self.inside) _ c.args.report sound c.self.view_is c.requires.input)

pub index_mut-requires-2 : goal.index_mut-requires-2
index_mut-requires-2 c =
    let sound = c.self.invariant.sound in
    subst (λ (n : ℕ). c.args.report < n) (sym (c.self.inside.aborted.ok.0 ∙ sound.each_cut)) (counted (the_view c.self.inside) _ c.args.report sound c.self.view_is c.requires.input)

pub write_report-requires-clause-input : goal.write_report-requires-clause-input
write_report-requires-clause-input c = counted_input (the_view c.self.inside) _ c.args.report c.self.invariant.sound c.self.view_is c.requires.input

pub arm-requires-clause-idle : goal.arm-requires-clause-idle
arm-requires-clause-idle c =
    let inside = c.self.inside in
    let none : inside.current ≡ None = ap (λ (core : CoreState). core.current) c.self.view_is ∙ c.requires.none in
    subst IsNone (sym (c.self.invariant.armed ∙ ap (λ (current : Option ℕ). piece_armed inside.layout inside.fixed current inside.piece) none)) refl

pub arm-requires-clause-going : goal.arm-requires-clause-going
arm-requires-clause-going c = ap (λ (core : CoreState). core.halted) c.self.view_is ∙ c.requires.going

pub invariant_of-self : goal.invariant_of-self
invariant_of-self c =
    let before = c.self.invariant.sound in
    let frames : length c.self.inside.frames.items ≡ length c.args.self.now.reports.frames =
    ap (λ (core : CoreState). length core.reports.frames) c.self.view_is in
    let going : c.arm.new.self.halted ≡ false = ap (λ (pipe : DevPipeState). pipe.halted) c.arm.ensures ∙ ap (λ (core : CoreState). core.halted) c.self.view_is ∙ c.requires.going in
    let part : List ℕ = part_bytes c.self.inside.layout c.args.report c.shown.new.parts in
    let is : c.write_report.new.bytes.items ≡ part = c.write_report.ensures.bytes in
    let shows : AreBytesOf c.self.inside.layout c.shown.new.parts c.args.report c.write_report.new.bytes.items
    = record { are_bytes = c.write_report.ensures.small; shows = c.write_report.ensures.shows; only = c.write_report.ensures.only } in
    let sent : c.piece_of.result.now ≡ piece_of part 0 = c.piece_of.ensures.piece ∙ ap (λ (bytes : List ℕ). piece_of bytes 0) (c.deref.ensures.0 ∙ is) in
    record {
      sound = record {
        lays = before.lays;
        empty_codes = before.empty_codes;
        zeros = before.zeros;
        inputs_first = before.inputs_first;
        snapshot = c.take_motion.ensures.fits;
        fixed = c.shown.ensures.fits;
        each_frames = length-set c.self.inside.frames.items c.args.report 0 ∙ before.each_frames;
        each_idle = before.each_idle;
        each_cut = length-set c.self.inside.aborted.items c.args.report false ∙ before.each_cut;
        of_input = omega (arith, frames, before.each_frames, c.requires.input);
        piece = some_piece (items_of c.self.inside.layout) c.args.report;
        sends = subst (λ (bytes : List ℕ). AreBytesOf c.self.inside.layout c.shown.new.parts c.args.report bytes) is shows;
        quiet = going;
        outputs = before.outputs;
      };
      room = c.self.invariant.room;
      round = is;
      nothing_due = tt;
      armed = ap (λ (pipe : DevPipeState). pipe.armed) c.arm.ensures ∙ ap Some sent;
    }

pub write_report-requires-clause-short : goal.write_report-requires-clause-short
write_report-requires-clause-short c = short_report (the_view c.self.inside) c.args.report c.self.invariant.sound
