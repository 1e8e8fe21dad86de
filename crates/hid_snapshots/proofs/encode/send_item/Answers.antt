use Rattle.std.proofs.Common.{◌∙◌, sym, ap, subst}
use Rattle.std.proofs.lemmas.Option.{slice_get_within}
use Rattle.hid_report_descriptor.specs.Fields.{is_padding}
use Rattle.hid_snapshots.specs.Encoding.{CanSend}
use Rattle.hid_snapshots.proofs.EncodingLemmas.{sent_there}
use Rattle.hid_snapshots.proofs.encode.send_item.Goals as goal

pub codes-requires : goal.codes-requires
codes-requires c = slice_get_within c.args.layout.now.items c.args.i c.args.item.now c.requires.listed

pub send_array-requires-clause-codes : goal.send_array-requires-clause-codes
send_array-requires-clause-codes c =
    c.codes.ensures c.args.item.now c.entries-entries.result.now c.requires.listed c.entries-entries.ensures (ap is_padding c.in-Array.is)

pub send_elements-requires-clause-can : goal.send_elements-requires-clause-can
send_elements-requires-clause-can c = subst (CanSend c.args.item.now) (sent_there c.args.layout.now c.args.i c.args.item.now c.entries-entries.result.now c.args.state.now _ c.requires.listed c.entries-entries.ensures c.in-Variable.is) c.requires.can

pub send_array-requires-clause-few_entries : goal.send_array-requires-clause-few_entries
send_array-requires-clause-few_entries c = c.requires.layout.few_entries c.args.i c.entries-entries.result.now c.entries-entries.ensures

pub send_array-requires-clause-can : goal.send_array-requires-clause-can
send_array-requires-clause-can c = subst (CanSend c.args.item.now) (sent_there c.args.layout.now c.args.i c.args.item.now c.entries-entries.result.now c.args.state.now _ c.requires.listed c.entries-entries.ensures c.in-Array.is) c.requires.can

pub returns-in-Padding : goal.returns-in-Padding
returns-in-Padding c = c.none.ensures ∙ sym (sent_there c.args.layout.now c.args.i c.args.item.now c.entries-entries.result.now c.args.state.now _ c.requires.listed c.entries-entries.ensures c.in-Padding.is)

pub returns-in-Variable : goal.returns-in-Variable
returns-in-Variable c = c.send_elements.ensures ∙ sym (sent_there c.args.layout.now c.args.i c.args.item.now c.entries-entries.result.now c.args.state.now _ c.requires.listed c.entries-entries.ensures c.in-Variable.is)

pub returns-in-Array : goal.returns-in-Array
returns-in-Array c = c.send_array.ensures ∙ sym (sent_there c.args.layout.now c.args.i c.args.item.now c.entries-entries.result.now c.args.state.now _ c.requires.listed c.entries-entries.ensures c.in-Array.is)

pub entries-entries-requires : goal.entries-entries-requires
entries-entries-requires c = slice_get_within c.args.layout.now.items c.args.i c.args.item.now c.requires.listed

pub send_elements-requires-clause-elements : goal.send_elements-requires-clause-elements
send_elements-requires-clause-elements c = c.requires.elements

pub send_array-requires-clause-elements : goal.send_array-requires-clause-elements
send_array-requires-clause-elements c = c.requires.elements

pub send_array-requires-clause-places : goal.send_array-requires-clause-places
send_array-requires-clause-places c = c.requires.places
