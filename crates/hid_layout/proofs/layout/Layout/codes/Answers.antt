use Rattle.std.proofs.Common.{◌≡◌, false, true, length, refl, sym, ap, ◌∙◌, arith, Some}
use Rattle.std.specs.List.{slice_get}
use Rattle.std.proofs.lemmas.Option.{slice_get_read}
use Rattle.hid_report_descriptor.specs.Fields.{is_padding}
use Rattle.hid_layout.specs.Layout.{Contents}
use Rattle.hid_layout.proofs.IndexLemmas.{only_item}
use Rattle.hid_layout.proofs.layout.Layout.codes.Goals as goal

pub codes_of-requires-clause-elements : goal.codes_of-requires-clause-elements
codes_of-requires-clause-elements c =
    let at : slice_get c.self.inside.items.items c.args.item ≡ Some c.index-main.result.now = slice_get_read c.self.inside.items.items (length c.self.inside.items.items) c.args.item c.index-main.result.now refl (omega (arith, c.requires, ap (λ (l : Contents). length l.items) c.self.view_is)) c.index-main.ensures in
    c.self.invariant.1.elements c.args.item c.index-main.result.now at (ap is_padding c.in-Variable.is)

pub index-requires : goal.index-requires
index-requires c =
    let at : slice_get c.self.inside.items.items c.args.item ≡ Some c.index-main.result.now = slice_get_read c.self.inside.items.items (length c.self.inside.items.items) c.args.item c.index-main.result.now refl (omega (arith, c.requires, ap (λ (l : Contents). length l.items) c.self.view_is)) c.index-main.ensures in
    omega (arith, c.self.inside.codes.ok, c.self.invariant.2.codes_there.there c.args.item c.index-main.result.now at c.in-Array.is)

pub returns-in-Padding : goal.returns-in-Padding
returns-in-Padding c main es a b p =
    let at : slice_get c.self.inside.items.items c.args.item ≡ Some c.index-main.result.now = slice_get_read c.self.inside.items.items (length c.self.inside.items.items) c.args.item c.index-main.result.now refl (omega (arith, c.requires, ap (λ (l : Contents). length l.items) c.self.view_is)) c.index-main.ensures in
    let same : Some c.index-main.result.now ≡ Some main = sym at ∙ ap (λ (l : Contents). slice_get l.items c.args.item) c.self.view_is ∙ a in
    let padding : is_padding main.shape ≡ true = cc in
    absurd (cc)

pub returns-in-Variable : goal.returns-in-Variable
returns-in-Variable c main es a b p =
    let at : slice_get c.self.inside.items.items c.args.item ≡ Some c.index-main.result.now = slice_get_read c.self.inside.items.items (length c.self.inside.items.items) c.args.item c.index-main.result.now refl (omega (arith, c.requires, ap (λ (l : Contents). length l.items) c.self.view_is)) c.index-main.ensures in
    only_item (λ x. is_padding x.shape ≡ false) main c.index-main.result.now es c.entries.result.now c.codes_of.result (sym (ap (λ (l : Contents). slice_get l.items c.args.item) c.self.view_is ∙ a) ∙ at)
    (sym (ap (λ (l : Contents). slice_get l.entries c.args.item) c.self.view_is ∙ b) ∙ c.entries.ensures) (λ q. c.codes_of.ensures) p

pub returns-in-Array : goal.returns-in-Array
returns-in-Array c main es a b p =
    let at : slice_get c.self.inside.items.items c.args.item ≡ Some c.index-main.result.now = slice_get_read c.self.inside.items.items (length c.self.inside.items.items) c.args.item c.index-main.result.now refl (omega (arith, c.requires, ap (λ (l : Contents). length l.items) c.self.view_is)) c.index-main.ensures in
    let here : slice_get c.self.inside.lists.entries c.args.item ≡ Some es = ap (λ (l : Contents). slice_get l.entries c.args.item) c.self.view_is ∙ b in
    only_item (λ x. is_padding x.shape ≡ false) main c.index-main.result.now es es c.index.result.now (sym (ap (λ (l : Contents). slice_get l.items c.args.item) c.self.view_is ∙ a) ∙ at) refl
    (λ q. c.self.invariant.2.codes_there.theirs c.args.item c.index-main.result.now es c.index.result.now at here
    (slice_get_read c.self.inside.codes.items (length c.self.inside.codes.items) c.args.item c.index.result.now refl (c.self.invariant.2.codes_there.there c.args.item c.index-main.result.now at c.in-Array.is) c.index.ensures) c.in-Array.is) p
