-- What a layout shows is that of the listed fields.
use Rattle.std.proofs.Common.{◌≡◌, List, [], ◌∷◌, map, refl, ◌∙◌, ap}
use Rattle.std.specs.List.{list_any}
use Rattle.hid_layout.specs.declared.main_item.MainItem.{MainItem}
use Rattle.hid_layout.specs.Layout.{item_of, main_item, layout_of}
use Rattle.hid_report_descriptor.specs.declared.listing.ListedFields.{ListedFields}
use Rattle.hid_report_descriptor.specs.Items.{EncodedItem, is, REPORT_ID}
use Rattle.hid_report_descriptor.specs.Fields.{Field, fields}
use Rattle.hid_report_descriptor.specs.KeptFields.{kept_field_of}
use Rattle.hid_report_descriptor.specs.Listing.{ListsFields}
use Rattle.hid_report_descriptor.specs.Reporting.{reports_of}

map_map : {A B C : Type 0} (g : B → C) (f : A → B) (xs : List A) → map g (map f xs) ≡ map (λ x. g (f x)) xs
map_map g f [] = refl
map_map g f (x ∷ xs) = ap (λ t. g (f x) ∷ t) (map_map g f xs)

pub laid : (before : List EncodedItem) (listed : ListedFields) (items : List MainItem) → ListsFields before listed → items ≡ map (item_of listed.reports.items) listed.fields.items
    → record { reports = listed.reports.items; numbered = listed.numbered; items = items; entries = listed.lists.entries; paths = listed.lists.paths } ≡ layout_of before
laid before listed items k i =
    let r : listed.reports.items ≡ reports_of (fields before) = k.reports in
    let e : listed.lists.entries ≡ map (λ (x : Field). x.entries) (fields before) = k.entries in
    let p : listed.lists.paths ≡ map (λ (x : Field). x.path) (fields before) = k.paths in
    let n : listed.numbered ≡ list_any (is REPORT_ID) before = k.numbered in
    let j : items ≡ map (main_item (reports_of (fields before))) (fields before) =
    i ∙ ap (λ hs. map (item_of listed.reports.items) hs) k.heads
    ∙ map_map (item_of listed.reports.items) kept_field_of (fields before)
    ∙ ap (λ rs. map (main_item rs) (fields before)) r in
    cc
