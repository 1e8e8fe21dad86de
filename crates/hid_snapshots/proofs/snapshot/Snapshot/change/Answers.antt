use Rattle.std.proofs.Common.{length, ap, sym, ◌∙◌, arith}
use Rattle.std.proofs.lemmas.Option.{slice_get_within}
use Rattle.hid_layout.specs.Controls.{items_of}
use Rattle.hid_snapshots.proofs.ItemLemmas.{control_found, control_within}
use Rattle.hid_snapshots.proofs.SnapshotLemmas.{room_index, state_of_control, change_done}
use Rattle.hid_snapshots.proofs.snapshot.Snapshot.change.Goals as goal

pub controls-controls-requires : goal.controls-controls-requires
controls-controls-requires c = control_within c.args.layout.now c.target-id.result c.in-Some.control (sym c.control.ensures ∙ c.in-Some.is)

pub index_mut-requires : goal.index_mut-requires
index_mut-requires c =
    let found = control_found (items_of c.args.layout.now) c.target-id.result c.in-Some.control (sym c.control.ensures ∙ c.in-Some.is) in
    omega (arith, slice_get_within (items_of c.args.layout.now) c.target-id.result.item found.item found.there, c.requires.one_each, ap length c.self.view_is)

pub change_state-requires : goal.change_state-requires
change_state-requires c =
    let named = sym c.control.ensures ∙ c.in-Some.is in
    let found = control_found (items_of c.args.layout.now) c.target-id.result c.in-Some.control named in
    rw (← c.target-id.ensures)
    (room_index found.item.form c.index_mut.result.now c.target-id.result.index c.in-Some.control
    (c.requires.room c.target-id.result.item found.item c.index_mut.result.now found.there
    (state_of_control (items_of c.args.layout.now) c.self.inside.states.items c.args.self.now c.target-id.result c.in-Some.control c.index_mut.result.now named c.self.view_is c.requires c.index_mut.ensures.value)) found.is)

pub returns-clause-changes : goal.returns-clause-changes
returns-clause-changes c =
    (change_done (items_of c.args.layout.now) c.self.inside.states.items c.args.self.now c.target-id.result c.args.change.now c.in-Some.control c.controls-controls.result c.index_mut.result.now c.change_state.new.state c.change_state.result
    c.target-id.ensures (sym c.control.ensures ∙ c.in-Some.is) c.controls-controls.ensures c.self.view_is c.index_mut.ensures.value c.requires c.change_state.ensures).0

pub returns-clause-fits : goal.returns-clause-fits
returns-clause-fits c =
    (change_done (items_of c.args.layout.now) c.self.inside.states.items c.args.self.now c.target-id.result c.args.change.now c.in-Some.control c.controls-controls.result c.index_mut.result.now c.change_state.new.state c.change_state.result
    c.target-id.ensures (sym c.control.ensures ∙ c.in-Some.is) c.controls-controls.ensures c.self.view_is c.index_mut.ensures.value c.requires c.change_state.ensures).1
