use Rattle.std.proofs.Common.{refl, subst}
use Rattle.hid_report_descriptor.specs.Parser.{IsOtherPrefix}
use Rattle.hid_report_descriptor.proofs.Frames.{locals_kept, stands_other, other_no_main}
use Rattle.hid_report_descriptor.proofs.parser.Parser.take_other.Goals as goal

pub returns : goal.returns
returns c limits before s =
    let o : IsOtherPrefix _ = subst IsOtherPrefix c.requires.prefix c.requires.other in
    stands_other limits before c.args.item.now.bytes.now _ _ o s (locals_kept before c.args.item.now.bytes.now _ (other_no_main _ o) c.requires.no_usage s.locals_there) (c.set.ensures before s.globals_there.in_force_now) refl refl refl refl
