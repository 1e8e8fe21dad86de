use Rattle.std.proofs.Common.{length, ap, ◌∙◌, arith}
use Rattle.hid_layout.specs.Layout.{Contents}
use Rattle.hid_layout.specs.ArrayCodes.{plan_of}
use Rattle.hid_layout.proofs.IndexLemmas.{made_at, made_length}
use Rattle.hid_layout.proofs.layout.Layout.plan.Goals as goal

pub get-requires : goal.get-requires
get-requires c = omega (arith, c.requires, made_length _ _ _ c.self.invariant.2.plans_there, ap (λ (l : Contents). length l.reports) c.self.view_is)

pub returns : goal.returns
returns c = made_at _ _ c.args.r c.self.inside.plans c.get.result.now (omega (arith, c.requires, ap (λ (l : Contents). length l.reports) c.self.view_is)) c.self.invariant.2.plans_there c.get.ensures ∙ ap (λ l. plan_of l c.args.r) c.self.view_is
