use Rattle.std.proofs.Common.{◌&&◌, sym, ap, ◌∙◌, nat_eq}
use Rattle.std.specs.List.{list_any}
use Rattle.hid_report_descriptor.specs.declared.field.KeptField.{KeptField}
use Rattle.hid_report_descriptor.proofs.Ends.{mixed_there}
use Rattle.hid_report_descriptor.proofs.parser.Parser.mixes_ids.Goals as goal

pub returns-then-self : goal.returns-then-self
returns-then-self c before s = c.lack_id.ensures ∙ ap (λ b. b && list_any (λ (f : KeptField). nat_eq f.id 0) c.args.self.now.fields.list.items) (sym c.if-self.true) ∙ mixed_there before c.args.self.now s

pub returns-else-self : goal.returns-else-self
returns-else-self c before s = c.if-self.false ∙ ap (λ b. b && list_any (λ (f : KeptField). nat_eq f.id 0) c.args.self.now.fields.list.items) (sym c.if-self.false) ∙ mixed_there before c.args.self.now s
