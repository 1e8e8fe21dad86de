use Rattle.std.proofs.Common.{ap, sym, ◌∙◌, None, length, []}
use Rattle.usb_capture.specs.Capture.{kept_place, state_of}
use Rattle.usb_capture.specs.FrameRecord.{frame_in}
use Rattle.usb_capture.specs.Place.{Place, is_begun, at_after}
use Rattle.usb_capture.proofs.CaptureLemmas.{whole_sound, takes_ok, advances_by}
use Rattle.usb_capture.proofs.capture.Capture.take.Goals as goal

pub invariant_of-self : goal.invariant_of-self
invariant_of-self c =
    let told = rw (c.in-Ok-All.is, c.in-Ok-All.field-0-is) at (c.advance.ensures c.begin_next.new.self.at) in
    record { sound = ap is_begun told.1 }

pub invariant_of-self-in-Ok-Whole : goal.invariant_of-self-in-Ok-Whole
invariant_of-self-in-Ok-Whole c =
    let told = rw (c.in-Ok-Whole.is, c.in-Ok-Whole.field-0-is) at (c.advance.ensures c.begin_next.new.self.at) in
    record { sound = whole_sound c.in-Ok-Whole.frame c.advance.new.format c.advance.new.block.items told.1 }

pub returns-in-Ok-All-clause-taken : goal.returns-in-Ok-All-clause-taken
returns-in-Ok-All-clause-taken c =
    let told = rw (c.in-Ok-All.is, c.in-Ok-All.field-0-is) at (c.advance.ensures c.begin_next.new.self.at) in
    let place : Place = record { known = record { format = c.advance.new.format; interfaces = c.advance.new.interfaces.items }; at = c.begin_next.new.self.at; begun = c.advance.new.block.items } in
    takes_ok (state_of c.args.self.now) (kept_place c.begin_next.new.self) c.args.bytes.now (length c.args.bytes.now) place None
    (sym c.in_default.is ∙ c.refusal.ensures) c.begin_next.ensures.place told.0

pub returns-in-Ok-All-clause-advanced : goal.returns-in-Ok-All-clause-advanced
returns-in-Ok-All-clause-advanced c =
    let told = rw (c.in-Ok-All.is, c.in-Ok-All.field-0-is) at (c.advance.ensures c.begin_next.new.self.at) in
    let place : Place = record { known = record { format = c.advance.new.format; interfaces = c.advance.new.interfaces.items }; at = c.begin_next.new.self.at; begun = c.advance.new.block.items } in
    advances_by c.args.self.now c.begin_next.new.self c.args.bytes.now (length c.args.bytes.now) place None c.begin_next.ensures.place
    c.begin_next.ensures.partial told.0

pub returns-in-Ok-Whole-clause-taken : goal.returns-in-Ok-Whole-clause-taken
returns-in-Ok-Whole-clause-taken c =
    let told = rw (c.in-Ok-Whole.is, c.in-Ok-Whole.field-0-is) at (c.advance.ensures c.begin_next.new.self.at) in
    let place : Place = record { known = record { format = c.advance.new.format; interfaces = c.advance.new.interfaces.items }; at = at_after c.begin_next.new.self.at (length c.advance.new.block.items); begun = [] } in
    takes_ok (state_of c.args.self.now) (kept_place c.begin_next.new.self) c.args.bytes.now c.in-Ok-Whole.taken place
    (frame_in c.begin_next.new.self.at c.advance.new.block.items c.in-Ok-Whole.frame)
    (sym c.in_default.is ∙ c.refusal.ensures) c.begin_next.ensures.place told.0

pub returns-in-Ok-Whole-clause-advanced : goal.returns-in-Ok-Whole-clause-advanced
returns-in-Ok-Whole-clause-advanced c =
    let told = rw (c.in-Ok-Whole.is, c.in-Ok-Whole.field-0-is) at (c.advance.ensures c.begin_next.new.self.at) in
    let place : Place = record { known = record { format = c.advance.new.format; interfaces = c.advance.new.interfaces.items }; at = at_after c.begin_next.new.self.at (length c.advance.new.block.items); begun = [] } in
    advances_by c.args.self.now c.begin_next.new.self c.args.bytes.now c.in-Ok-Whole.taken place
    (frame_in c.begin_next.new.self.at c.advance.new.block.items c.in-Ok-Whole.frame) c.begin_next.ensures.place
    c.begin_next.ensures.partial told.0

pub returns-in-Ok-Whole-clause-within : goal.returns-in-Ok-Whole-clause-within
returns-in-Ok-Whole-clause-within c =
    let told = rw (c.in-Ok-Whole.is, c.in-Ok-Whole.field-0-is) at (c.advance.ensures c.begin_next.new.self.at) in told.2

pub returns-in-Ok-Whole-clause-more : goal.returns-in-Ok-Whole-clause-more
returns-in-Ok-Whole-clause-more c = λ _.
    let told = rw (c.in-Ok-Whole.is, c.in-Ok-Whole.field-0-is) at (c.advance.ensures c.begin_next.new.self.at) in told.3
