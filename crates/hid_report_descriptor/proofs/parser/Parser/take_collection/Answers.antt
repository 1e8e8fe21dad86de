use Rattle.std.proofs.Common.{map, ap, refl, arith, ◌∙◌}
use Rattle.hid_report_descriptor.specs.Locals.{entry_on_page}
use Rattle.hid_report_descriptor.proofs.Frames.{stands_collection, collection_is_main, usages_there}
use Rattle.hid_report_descriptor.proofs.parser.Parser.take_collection.Goals as goal

pub returns : goal.returns
returns c limits before h s =
    stands_collection limits before _ _ _ h (omega arith) s refl (c.clear.ensures before _ (collection_is_main _ h))
    (c.begin.ensures before h (ap (map (entry_on_page c.args.self.now.globals.now.page)) c.deref.ensures.value ∙ usages_there before _ s) s.path_there) refl refl
