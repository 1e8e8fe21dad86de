use Rattle.std.proofs.Common.{◌≡◌, refl, sym, ◌∙◌}
use Rattle.hid_items.specs.ItemEncoding.{prefix_of}
use Rattle.hid_report_descriptor.specs.Items.{INPUT, OUTPUT, FEATURE}
use Rattle.hid_report_descriptor.proofs.parser.Parser.take_short.Goals as goal

pub returns-in-128 : goal.returns-in-128
returns-in-128 c before s =
    let p : prefix_of c.args.item.now.bytes.now ≡ INPUT = sym c.requires.prefix ∙ c.in-128.is in
    c.take_field.ensures before (rw p refl) (rw p refl) s

pub returns-in-144 : goal.returns-in-144
returns-in-144 c before s =
    let p : prefix_of c.args.item.now.bytes.now ≡ OUTPUT = sym c.requires.prefix ∙ c.in-144.is in
    c.take_field-in-144.ensures before (rw p refl) (rw p refl) s

pub returns-in-176 : goal.returns-in-176
returns-in-176 c before s =
    let p : prefix_of c.args.item.now.bytes.now ≡ FEATURE = sym c.requires.prefix ∙ c.in-176.is in
    c.take_field-in-176.ensures before (rw p refl) (rw p refl) s

pub returns-in-160 : goal.returns-in-160
returns-in-160 c before s = c.take_collection.ensures c.args.limits before (sym c.requires.prefix ∙ c.in-160.is) s

pub returns-in-192 : goal.returns-in-192
returns-in-192 c before s = c.take_end.ensures c.args.limits before _ (sym c.requires.prefix ∙ c.in-192.is) s

pub returns-in-164 : goal.returns-in-164
returns-in-164 c before s = c.take_push.ensures.step c.args.limits before _ (sym c.requires.prefix ∙ c.in-164.is) s

pub returns-in-180 : goal.returns-in-180
returns-in-180 c before s = c.take_pop.ensures.step c.args.limits before _ (sym c.requires.prefix ∙ c.in-180.is) s

pub returns-in-132 : goal.returns-in-132
returns-in-132 c = c.take_report_id.ensures c.args.limits

pub returns-in-8 : goal.returns-in-8
returns-in-8 c = c.take_usage.ensures c.args.limits

pub returns-in_default : goal.returns-in_default
returns-in_default c = c.take_other.ensures c.args.limits
