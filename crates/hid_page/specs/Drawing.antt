-- What is drawn of a descriptor (our choice: docs/PICTURES.md).
use Rattle.std.specs.Prelude.{◌≡◌, ℕ, zero, suc, ◌+◌, nat_lt, nat_le, List, [], ◌∷◌, ◌++◌, length, slice_get, ◌&&◌, if◌then◌else◌, Option, None, Some}
use Rattle.hid_items.specs.declared.encoding.Item.{Item}
use Rattle.hid_layout.specs.Layout.{Contents}
use Rattle.hid_notation.specs.declared.causes.RefusalText.{RefusalText}
use Rattle.hid_notation.specs.Causes.{layout_refusal_text}
use Rattle.hid_notation.specs.Text.{concat_below}
use Rattle.hid_page.specs.declared.drawing.Form.{Form}
use Rattle.hid_page.specs.declared.drawing.Form.TheVariants.{Page, Svg, Characters}
use Rattle.hid_drawing.specs.Items.{AreItemsOf, item_place}
use Rattle.hid_page.specs.Page.{page_of, refused_page, svg_of, characters_of, is_drawn, mains_of}

-- the pictures of all reports in characters, an empty line after each
unfoldable pub all_characters : ℕ → Contents → List Item → List ℕ → List ℕ
all_characters width layout items mains =
    concat_below (length layout.reports) (λ r. characters_of width layout items mains r ++ 10 ∷ [])

-- what is drawn of a layout; no picture alone of a report that there isn't, or that isn't drawn
abbrev pub form_text : Form → Contents → List Item → List ℕ → Option (List ℕ)
form_text Page layout items mains = Some (page_of layout items mains)
form_text (Characters width) layout items mains = Some (all_characters width layout items mains)
form_text (Svg r) layout items mains =
    if nat_lt r (length layout.reports) && is_drawn layout r then Some (svg_of layout items mains r) else None

-- a text is drawn of a layout by the items of its descriptor
pub record IsDrawn (descriptor : List ℕ) (form : Form) (layout : Contents) (text : Option (List ℕ)) : Type 0 where
  pub items : List Item
  pub read : AreItemsOf descriptor items
  pub drawn : text ≡ form_text form layout items (mains_of items)

-- how many of the first items begin up to a place
abbrev pub begin_count : List Item → ℕ → ℕ → ℕ
begin_count items at zero = 0
begin_count items at (suc k) =
    if nat_le (item_place (slice_get items k)) at then k + 1 else begin_count items at k

-- a page shows the items up to the place of a refusal, and why
pub record IsDrawingRefusal (descriptor : List ℕ) (refusal : RefusalText) (text : List ℕ) : Type 0 where
  pub items : List Item
  pub read : AreItemsOf descriptor items
  pub shown : text ≡ refused_page items (begin_count items refusal.fault.at (length items))
      (layout_refusal_text refusal.fault refusal.report)
