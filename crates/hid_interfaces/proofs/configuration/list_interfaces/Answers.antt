use Rattle.std.proofs.Common.{◌≡◌, ◌++◌, ◌∷◌, [], true, false, List, subst, sym}
use Rattle.hid_interfaces.specs.declared.interface.InterfaceInfo.{InterfaceInfo}
use Rattle.hid_interfaces.specs.Interfaces.{is_listed}
use Rattle.hid_interfaces.proofs.ListLemmas.{ListGoesOn, list_ends, list_passes, list_takes}
use Rattle.hid_interfaces.proofs.configuration.list_interfaces.Goals as goal

pub loop-found-preserved-in_ok-push : goal.loop-found-preserved-in_ok-push
loop-found-preserved-in_ok-push c = λ descriptors walk.
    let here : is_listed c.in-Some.found.now ≡ true = cc in
    let pushed : c.push.new.self.items ≡ c.loop-found.listed.items ++ c.interface_info.result ∷ [] = c.in_ok-push.ensures.items in
    subst (λ (infos : List InterfaceInfo). ListGoesOn descriptors infos c.in-Some.behind.now) (sym pushed)
    (list_takes descriptors c.loop-found.listed.items c.loop-found.rest.now c.in-Some.found.now c.in-Some.behind.now c.interface_info.result c.in-Some.ensures.found.0 c.in-Some.ensures.found.1 here c.interface_info.ensures (c.loop-found.invariant descriptors walk))

pub loop-found-preserved : goal.loop-found-preserved
loop-found-preserved c = λ descriptors walk.
    let other : is_listed c.in-Some.found.now ≡ false = cc in
    list_passes descriptors c.loop-found.listed.items c.loop-found.rest.now c.in-Some.found.now c.in-Some.behind.now c.in-Some.ensures.found.0 c.in-Some.ensures.found.1 other (c.loop-found.invariant descriptors walk)

pub returns : goal.returns
returns c = λ descriptors walk.
    list_ends descriptors c.loop-found.listed.items c.loop-found.rest.now c.in_default.ensures.none (c.loop-found.invariant descriptors walk)
