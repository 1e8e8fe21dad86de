use Rattle.std.proofs.Common.{arith, sym, ap, ◌∙◌, ◌+◌, ◌++◌, drop, length}
use Rattle.std.specs.Prelude.{slice_get}
use Rattle.std.specs.List.{filter}
use Rattle.std.specs.Option.{option_map}
use Rattle.hid_layout.specs.Controls.{items_of, form_at}
use Rattle.lab_lines.specs.ControlNames.{sought_by, item_controls, controls_of_items}
use Rattle.lab_lines.proofs.ControlLemmas.{item_first, in_front, in_back, items_end}
use Rattle.lab_lines.proofs.control_name.control_after.Goals as goal

pub returns-in-Ok : goal.returns-in-Ok
returns-in-Ok c =
    let items = items_of c.args.layout.now in
    let i = c.loop-item.item in
    let mine = filter (λ d. sought_by c.args.sought d.1) (item_controls (form_at items i) i) in
    let more = filter (λ d. sought_by c.args.sought d.1) (controls_of_items (i + 1) (drop (i + 1) items)) in
    sym (ap (λ o. option_map (λ d. d.0) o) (c.loop-item.invariant ∙ ap (λ l. slice_get l c.loop-item.left) (item_first c.args.sought items i)) ∙ in_front mine more c.loop-item.left c.in-Ok.control c.in-Ok.ensures)

pub loop-item-preserved : goal.loop-item-preserved
loop-item-preserved c =
    let items = items_of c.args.layout.now in
    let i = c.loop-item.item in
    let mine = filter (λ d. sought_by c.args.sought d.1) (item_controls (form_at items i) i) in
    let more = filter (λ d. sought_by c.args.sought d.1) (controls_of_items (i + 1) (drop (i + 1) items)) in
    c.loop-item.invariant ∙ ap (λ l. slice_get l c.loop-item.left) (item_first c.args.sought items i) ∙ ap (λ n. slice_get (mine ++ more) n) c.in-Err.ensures ∙ in_back mine more c.in-Err.more

pub returns : goal.returns
returns c =
    sym (ap (λ o. option_map (λ d. d.0) o) (c.loop-item.invariant ∙ items_end c.args.sought c.args.layout.now c.loop-item.item c.loop-item.left (omega (arith, ap length c.items-item-end.ensures.items))))
