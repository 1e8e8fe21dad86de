use Rattle.std.proofs.lemmas.Result.{err_from_is_err_and}
use Rattle.usb_capture.specs.Place.{Place}
use Rattle.usb_capture.proofs.StepLemmas.{stepped_refused, stepped_unread, step_goes_on, block_goes_on, step_completed, frame_fits, whole_has_head, whole_takes}
use Rattle.usb_capture.proofs.advance.advance.Goals as goal

pub returns-in_err-gather : goal.returns-in_err-gather
returns-in_err-gather c = λ at.
    let p = err_from_is_err_and c.from_residual.result c.from_residual.ensures.1 in
    let place : Place = record { known = record { format = c.args.format.now; interfaces = c.args.interfaces.now.items }; at = at; begun = c.args.block.now.items } in
    rw (p.1, p.2) (stepped_refused place c.args.bytes.now c.in_err-gather.field-0.0 c.in_err-gather.ensures)

pub accept-requires : goal.accept-requires
accept-requires c =
    let told = rw c.in-Whole.is at c.in_ok-gather.ensures in
    rw c.deref.ensures.value (whole_has_head c.args.format.now c.args.block.now.items c.args.bytes.now c.gather.new.block.items c.in-Whole.taken told.0 told.1 told.2)

pub returns-in_err-frame-in-Whole : goal.returns-in_err-frame-in-Whole
returns-in_err-frame-in-Whole c = λ at.
    let p = err_from_is_err_and c.from_residual-in_err-frame-in-Whole.result c.from_residual-in_err-frame-in-Whole.ensures.1 in
    let told = rw c.in-Whole.is at c.in_ok-gather.ensures in
    let place : Place = record { known = record { format = c.args.format.now; interfaces = c.args.interfaces.now.items }; at = at; begun = c.args.block.now.items } in
    rw (p.1, p.2) (stepped_unread place c.args.bytes.now c.gather.new.block.items c.in-Whole.taken c.in_err-frame-in-Whole.field-0.0 told.1 told.2
    (rw c.deref.ensures.value at c.in_err-frame-in-Whole.ensures))

pub returns-in-All : goal.returns-in-All
returns-in-All c = λ at.
    let told = rw c.in-All.is at c.in_ok-gather.ensures in
    let place : Place = record { known = record { format = c.args.format.now; interfaces = c.args.interfaces.now.items }; at = at; begun = c.args.block.now.items } in
    (step_goes_on place c.args.bytes.now c.gather.new.block.items told.0 told.1, block_goes_on c.args.format.now _ c.gather.new.block.items told.0 told.1)

pub returns-in_ok-frame-in-Whole : goal.returns-in_ok-frame-in-Whole
returns-in_ok-frame-in-Whole c = λ at.
    let told = rw c.in-Whole.is at c.in_ok-gather.ensures in
    let said = rw c.deref.ensures.value at c.in_ok-frame-in-Whole.ensures in
    let place : Place = record { known = record { format = c.args.format.now; interfaces = c.args.interfaces.now.items }; at = at; begun = c.args.block.now.items } in (
      step_completed place c.args.bytes.now c.gather.new.block.items c.in-Whole.taken said.0 c.accept.new.format c.accept.new.interfaces.items
          c.in_ok-frame-in-Whole.frame told.1 told.2 said.1 said.3 said.4 said.5,
      frame_fits said.0 c.gather.new.block.items c.in_ok-frame-in-Whole.frame said.2 said.5,
      told.0,
      whole_takes c.args.format.now c.args.block.now.items c.args.bytes.now c.in-Whole.taken c.requires told.1,
    )
