use Rattle.std.proofs.Common.{◌≡◌, ℕ, List, refl, sym, ◌∙◌, subst}
use Rattle.hid_report_descriptor.specs.Bus.{Accepts}
use Rattle.hid_report_descriptor.specs.Items.{EncodedItem}
use Rattle.hid_layout.specs.Layout.{Contents, layout_of}
use Rattle.hid_requests.specs.declared.fault.DeviceFault.{DeviceFault}
use Rattle.hid_device.specs.Creation.{ParsesTo, RefusesDescriptor}
use Rattle.hid_device.proofs.device_core.served_layout.Goals as goal

lays : (descriptor : List ℕ) (layout : Contents)
    → (items : List EncodedItem) × Accepts descriptor items × (layout ≡ layout_of items) → ParsesTo descriptor layout
lays descriptor layout (items, accepted, laid) = record { items = items; accepted = accepted; laid = laid }

pub returns-in-Err-clause-refused : goal.returns-in-Err-clause-refused
returns-in-Err-clause-refused c =
    subst (λ (fault : DeviceFault). RefusesDescriptor c.args.descriptor.now fault.cause fault.at) (sym c.from.ensures) c.in-Err.ensures.err

pub returns-then-not-has_empty_codes-clause-refused : goal.returns-then-not-has_empty_codes-clause-refused
returns-then-not-has_empty_codes-clause-refused c =
    (c.in-Ok.layout, lays c.args.descriptor.now c.in-Ok.layout c.in-Ok.ensures.ok, sym c.has_empty_codes.ensures ∙ c.if-not-has_empty_codes.true, refl)

pub returns-then-not-has_zeros-clause-refused : goal.returns-then-not-has_zeros-clause-refused
returns-then-not-has_zeros-clause-refused c =
    (c.in-Ok.layout, lays c.args.descriptor.now c.in-Ok.layout c.in-Ok.ensures.ok, sym c.has_empty_codes.ensures ∙ c.if-not-has_empty_codes.false, sym c.has_zeros.ensures ∙ c.if-not-has_zeros.true, refl)

pub returns-clause-served : goal.returns-clause-served
returns-clause-served c = record {
  lays = lays c.args.descriptor.now c.in-Ok.layout c.in-Ok.ensures.ok;
  empty_codes = sym c.has_empty_codes.ensures ∙ c.if-not-has_empty_codes.false;
  zeros = sym c.has_zeros.ensures ∙ c.if-not-has_zeros.false;
}
