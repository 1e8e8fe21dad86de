use Rattle.std.proofs.Common.{◌∙◌, arith, sym, subst}
use Rattle.hid_layout.specs.Controls.{items_of}
use Rattle.hid_snapshots.specs.ControlStates.{FitsView, blank_state}
use Rattle.hid_snapshots.proofs.BlankLemmas.{initial_fits, made_more, made_all}
use Rattle.hid_snapshots.proofs.blank.blank_states.Goals as goal

pub loop-i-preserved : goal.loop-i-preserved
loop-i-preserved c = record {
  states = c.push_reserved.ensures.items ∙ made_more blank_state (items_of c.args.layout.now) c.loop-i.i c.controls-controls.result c.in_ok-blank_state.field-0 c.loop-i.states.items (omega arith) c.controls-controls.ensures c.in_ok-blank_state.ensures c.loop-i.invariant.states;
  count_is = c.loop-i.invariant.count_is;
  long = omega (arith, c.push_reserved.ensures.len);
  room = omega (arith, c.push_reserved.ensures.capacity);
}

pub returns-clause-blank : goal.returns-clause-blank
returns-clause-blank c = made_all blank_state (items_of c.args.layout.now) c.loop-i.i c.loop-i.states.items (omega arith) c.loop-i.invariant.states

pub returns-clause-fits : goal.returns-clause-fits
returns-clause-fits c =
    subst (FitsView (items_of c.args.layout.now)) (sym (made_all blank_state (items_of c.args.layout.now) c.loop-i.i c.loop-i.states.items (omega arith) c.loop-i.invariant.states))
    (initial_fits c.args.layout.now c.item_count-count.ensures.layout)
