use Rattle.std.proofs.Common.{◌∙◌, arith}
use Rattle.hid_layout.specs.Controls.{items_of}
use Rattle.hid_snapshots.specs.ControlStates.{blank_state}
use Rattle.hid_snapshots.specs.Parts.{shown_state}
use Rattle.hid_snapshots.proofs.BlankLemmas.{made_more, made_all}
use Rattle.hid_snapshots.proofs.blank.blank_parts.Goals as goal

pub loop-i-preserved : goal.loop-i-preserved
loop-i-preserved c = record {
  states = c.push_reserved.ensures.items
      ∙ made_more (λ controls. shown_state controls (blank_state controls)) (items_of c.args.layout.now) c.loop-i.i c.controls-controls.result c.in_ok-blank_part.field-0 c.loop-i.states.items (omega arith) c.controls-controls.ensures c.in_ok-blank_part.ensures c.loop-i.invariant.states;
  count_is = c.loop-i.invariant.count_is;
  long = omega (arith, c.push_reserved.ensures.len);
  room = omega (arith, c.push_reserved.ensures.capacity);
}

pub returns-clause-blank : goal.returns-clause-blank
returns-clause-blank c = made_all (λ controls. shown_state controls (blank_state controls)) (items_of c.args.layout.now) c.loop-i.i c.loop-i.states.items (omega arith) c.loop-i.invariant.states
