use Rattle.std.proofs.Common.{◌≡◌, ◌∙◌, ◌<◌, ◌==◌, ◌&&◌, ℕ, Bool, Option, Some, ap, subst, sym}
use Rattle.std.specs.Prelude.{nat_le, slice_get}
use Rattle.std.proofs.lemmas.Option.{slice_get-get_or}
use Rattle.usb_control.specs.declared.device.TheConstants.{MAX_WRITE}
use Rattle.hid_device.specs.declared.decisions.PendingWrite.TheVariants.{Keep}
use Rattle.hid_device.specs.Core.{CoreState}
use Rattle.hid_device.specs.RequestTable.{Decides, sets_report}
use Rattle.hid_device.specs.RequestDecisions.{writes_if}
use Rattle.hid_device.specs.Outputs.{kept_bytes, kept_place}
use Rattle.hid_device.proofs.OutputLemmas.{kept_there, suits_is}
use Rattle.hid_device.proofs.device_core.Core.set_report.Goals as goal

pub index-requires : goal.index-requires
index-requires c =
    subst (λ (n : ℕ). c.in-Some.place < n) (sym c.self.inside.outputs.ok.0)
    (kept_there c.self.inside.layout c.self.inside.outputs.items c.in-Some.place c.self.invariant.sound.outputs c.in-Some.ensures.within)

pub returns-in-Some : goal.returns-in-Some
returns-in-Some c =
    let core = c.args.self.now in
    let outputs = c.self.inside.outputs.items in
    let place = c.in-Some.place in
    let are = c.self.invariant.sound.outputs in
    let found : kept_place core.layout.reports c.args.kind c.args.id ≡ Some place
    = ap (λ (core : CoreState). kept_place core.layout.reports c.args.kind c.args.id) (sym c.self.view_is) ∙ sym c.kept_place.ensures.place ∙ c.in-Some.is in
    let at : slice_get outputs place ≡ Some c.index.result.now
    = slice_get-get_or outputs place c.index.result.now (kept_there c.self.inside.layout outputs place are c.in-Some.ensures.within) ∙ ap Some (sym c.index.ensures) in
    let suits : (c.from.result == c.len.result) ≡ ((c.args.length == kept_bytes core.layout place) && nat_le c.args.length MAX_WRITE)
    = ap (λ (n : ℕ). n == c.len.result) c.from.ensures
    ∙ suits_is c.self.inside.layout outputs place c.len.result c.args.length c.index.result.now are at c.len.ensures.length c.len.ensures.short
    ∙ ap (λ (core : CoreState). (c.args.length == kept_bytes core.layout place) && nat_le c.args.length MAX_WRITE) c.self.view_is in
    subst (λ (o : Option ℕ). Decides core (sets_report core c.args.length o) c.write_if.result c.write_if.new.self)
    (sym found)
    (subst (λ (b : Bool). Decides core (writes_if b (Keep place)) c.write_if.result c.write_if.new.self) suits c.write_if.ensures)
