use Rattle.std.proofs.Common.{arith, sym, ◌∙◌, inr}
use Rattle.std.proofs.lemmas.Result.{err_from_is_err_and}
use Rattle.usb_capture.proofs.GatherLemmas.{gather_refused, gather_whole, slice_from}
use Rattle.usb_capture.proofs.gather.gather.Goals as goal

pub returns-in_err-size : goal.returns-in_err-size
returns-in_err-size c =
    let p = err_from_is_err_and c.from_residual-in_err-size.result c.from_residual-in_err-size.ensures.1 in
    rw (p.1, p.2) (inr (gather_refused c.args.format c.args.block.now.items c.args.bytes.now c.fill.new.block.items c.head_length-head.result c.in_ok-first.first
    c.in_err-size.field-0.0 c.head_length-head.ensures c.in_ok-first.ensures.block (omega (arith, c.if-len-head.false, c.len.ensures))
    (rw c.deref.ensures.value at (sym c.extent.ensures ∙ c.in_err-size.was))))

pub returns : goal.returns
returns c =
    gather_whole c.args.format c.args.block.now.items c.args.bytes.now c.fill.new.block.items _ c.fill-2.new.block.items c.head_length-head.result
    c.in_ok-first.first c.in_ok-second.second c.in_ok-size.size c.requires c.head_length-head.ensures c.in_ok-first.ensures.taken
    c.in_ok-first.ensures.block (omega (arith, c.if-len-head.false, c.len.ensures))
    (rw c.deref.ensures.value at (sym c.extent.ensures ∙ c.in_ok-size.was)) (slice_from c.in_ok-first.first c.args.bytes.now)
    c.in_ok-second.ensures.taken c.in_ok-second.ensures.block (omega (arith, c.if-len-size.false, c.len-2.ensures))
