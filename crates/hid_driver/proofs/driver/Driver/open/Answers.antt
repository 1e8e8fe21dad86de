use Rattle.std.proofs.Common.{ℕ, ◌<◌, ◌≤◌, vec_capacity, vec_len, length, subst, arith}
use Rattle.std.proofs.lemmas.Option.{slice_get_within}
use Rattle.hid_layout.specs.Layout.{Contents}
use Rattle.hid_layout.specs.Reports.{report_bytes}
use Rattle.hid_driver.specs.declared.interface.Reading.{Reading}
use Rattle.hid_driver.specs.declared.interface.Reading.TheVariants.{Open}
use Rattle.hid_driver.proofs.InterfaceLemmas.{all_fit_more, made_fits, room_at, settled_fits, settled_total}
use Rattle.hid_driver.proofs.driver.Driver.open.Goals as goal

pub invariant_of-self : goal.invariant_of-self
invariant_of-self c =
    let xs = c.self.inside.interfaces.items in
    let ys = c.settle-self-inside.new.interfaces.items in
    let reading : Reading = Open c.args.pipe in
    let sets = c.settle-self-inside.ensures.interfaces in
    let old = c.index.result.now in
    let within = slice_get_within xs c.args.interface sets.0 sets.1 in
    let all = c.self.invariant.0 in
    let some = c.in-Some.ensures in
    let one = c.max_events.ensures in
    let two = c.max_events-2.ensures in
    let part = room_at xs c.args.interface old within c.index.ensures in (
      settled_total c.args.interface reading xs ys old c.in-Some.most sets c.index.ensures (omega (arith, all, some.1, one, two, part)),
      settled_fits (vec_capacity c.reserve.new.self) c.args.interface reading xs ys sets
          (all_fit_more (vec_capacity c.self.inside.asked) (vec_capacity c.reserve.new.self) xs c.reserve.ensures.capacity c.self.invariant.1)
          (made_fits (length c.args.pipe.receiving.layout.reports) (report_bytes c.args.pipe.receiving.layout) c.longest_report-longest.result
          (vec_len c.reserve.new.self) (vec_capacity c.reserve.new.self)
          (subst (λ (layout : Contents). (r : ℕ) → r < length layout.reports → report_bytes layout r ≤ c.longest_report-longest.result)
          c.layout.ensures.layout c.longest_report-longest.ensures.all) c.in-Ok.ensures.ok),
    )
