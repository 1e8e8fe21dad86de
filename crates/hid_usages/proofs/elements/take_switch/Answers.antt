use Rattle.std.proofs.Common.{◌≡◌, ◌∙◌, Bool, sym, subst, ap}
use Rattle.std.specs.List.{slice_set}
use Rattle.hid_snapshots.specs.Events.{control_at, switch_event}
use Rattle.hid_snapshots.proofs.ItemLemmas.{set_same}
use Rattle.hid_usages.specs.Appending.{Appends}
use Rattle.hid_usages.specs.Reading.{read_switch}
use Rattle.hid_usages.proofs.ElementLemmas.{same_flag, switch_stays}
use Rattle.hid_usages.proofs.EventLemmas.{nothing_appended}
use Rattle.hid_usages.proofs.elements.take_switch.Goals as goal

pub returns-then-before-after-clause-appends : goal.returns-then-before-after-clause-appends
returns-then-before-after-clause-appends c = λ usage before here there.
    let was : c.get-before.result ≡ before = let e = sym c.get-before.ensures ∙ there in cc in
    let n = c.args.number.now in
    let control = control_at c.args.source.now.item c.args.index in
    subst (λ (b : Bool). Appends c.args.out.now (switch_event control usage b (read_switch b n)) c.push_switch.new.out) was
    (subst (λ (a : Bool). Appends c.args.out.now (switch_event control usage c.get-before.result a) c.push_switch.new.out) c.read_switch-after.ensures (c.push_switch.ensures usage here))

pub returns-else-before-after-clause-held : goal.returns-else-before-after-clause-held
returns-else-before-after-clause-held c = λ before there.
    let was : c.get-before.result ≡ before = let e = sym c.get-before.ensures ∙ there in cc in
    let n = c.args.number.now in
    let stays : read_switch before n ≡ before =
    ap (λ (b : Bool). read_switch b n) (sym was) ∙ sym c.read_switch-after.ensures ∙ sym (same_flag c.get-before.result c.read_switch-after.result c.if-before-after.false) ∙ was in
    sym (ap (λ (b : Bool). slice_set c.args.held.now c.args.index b) stays ∙ set_same c.args.held.now c.args.index before there)

pub returns-else-before-after-clause-appends : goal.returns-else-before-after-clause-appends
returns-else-before-after-clause-appends c = λ usage before here there.
    let was : c.get-before.result ≡ before = let e = sym c.get-before.ensures ∙ there in cc in
    let n = c.args.number.now in
    let control = control_at c.args.source.now.item c.args.index in
    let stays : read_switch before n ≡ before =
    ap (λ (b : Bool). read_switch b n) (sym was) ∙ sym c.read_switch-after.ensures ∙ sym (same_flag c.get-before.result c.read_switch-after.result c.if-before-after.false) ∙ was in
    nothing_appended c.args.out.now _ (ap (λ (a : Bool). switch_event control usage before a) stays ∙ switch_stays control usage before)
