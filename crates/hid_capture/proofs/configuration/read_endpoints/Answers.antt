use Rattle.std.proofs.Common.{sym, ◌∙◌}
use Rattle.hid_capture.proofs.ConfigurationLemmas.{found_step, found_all}
use Rattle.hid_capture.proofs.configuration.read_endpoints.Goals as goal

pub descriptors-preserved : goal.descriptors-preserved
descriptors-preserved c =
    let is = sym c.has_descriptor.ensures.value ∙ c.descriptors-test.true in
    found_step c.args.configuration c.descriptors.here c.interface_after-here.result c.descriptors.rest.now c.descriptors.found.items c.add_endpoint.new.found.items _
    c.from.result is (c.has_descriptor.ensures.more c.descriptors-test.true) (c.has_descriptor.ensures.within c.descriptors-test.true)
    c.interface_after-here.ensures (c.from.ensures ∙ c.byte_at.ensures) c.in_ok-add_endpoint.ensures c.descriptors.invariant

pub returns : goal.returns
returns c =
    found_all c.args.configuration c.descriptors.here c.descriptors.rest.now c.descriptors.found.items _
    (sym c.has_descriptor.ensures.value ∙ c.descriptors-test.false) c.descriptors.invariant
