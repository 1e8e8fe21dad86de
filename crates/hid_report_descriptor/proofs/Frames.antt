-- What each kind of item leaves of the parser's state, and what it changes.
use Rattle.std.proofs.Common.{◌≡◌, ◌≢◌, ℕ, ◌<◌, ◌≤◌, Bool, true, false, List, [], ◌∷◌, length, map, refl, sym, ◌∙◌, ap, subst, arith, nat_eq, None}
use Rattle.std.specs.List.{list_any}
use Rattle.std.proofs.lemmas.Grind.{common_steps}
use Rattle.std.proofs.lemmas.Bool.Decides.{nat_tests}
use Rattle.std.proofs.lemmas.List.{length-map}
use Rattle.hid_items.specs.ItemEncoding.{prefix_of, data_of, unsigned_of}
use Rattle.hid_report_descriptor.specs.declared.limits.Limits.{Limits}
use Rattle.hid_report_descriptor.specs.declared.globals.SavedGlobals.{SavedGlobals}
use Rattle.hid_report_descriptor.specs.declared.locals.Locals.{Locals}
use Rattle.hid_report_descriptor.specs.declared.parser.Parser.{Parser}
use Rattle.hid_report_descriptor.specs.Items.{EncodedItem, is, is_main, is_field, names_usage, INPUT, OUTPUT, FEATURE, DELIMITER, COLLECTION, END_COLLECTION, PUSH, POP, USAGE_PAGE, LOGICAL_MINIMUM, LOGICAL_MAXIMUM, REPORT_SIZE, REPORT_COUNT, REPORT_ID}
use Rattle.hid_report_descriptor.specs.Globals.{in_force, open_pushes}
use Rattle.hid_report_descriptor.specs.Path.{path}
use Rattle.hid_report_descriptor.specs.Fields.{fields, add_field}
use Rattle.hid_report_descriptor.specs.Faults.{fault_of}
use Rattle.hid_report_descriptor.specs.State.{globals_at, AreGlobals}
use Rattle.hid_report_descriptor.specs.Locals.{entry_on_page, AreLocals}
use Rattle.hid_report_descriptor.specs.Usages.{entries, following_entries, locals}
use Rattle.hid_items.specs.Reading.{first_kind}
use Rattle.hid_items.specs.declared.ItemKind.TheVariants.{Long}
use Rattle.hid_report_descriptor.specs.FieldList.{AreKept}
use Rattle.hid_report_descriptor.specs.declared.field_list.KeptFields.{KeptFields}
use Rattle.hid_report_descriptor.specs.Parser.{HasStateAfter, IsOtherPrefix}
use Rattle.hid_report_descriptor.proofs.LocalSteps.{locals_added}

pub main_no_push : (item : EncodedItem) → is_main item ≡ true → is PUSH item ≡ false
main_no_push item h = grind (arith, common_steps, nat_tests)

pub open_pushes_kept : (before : List EncodedItem) (item : EncodedItem) → prefix_of item ≢ PUSH → prefix_of item ≢ POP → open_pushes (item ∷ before) ≡ open_pushes before
open_pushes_kept before item a b = grind (arith, common_steps, nat_tests)

pub path_kept : (before : List EncodedItem) (item : EncodedItem) → prefix_of item ≢ COLLECTION → prefix_of item ≢ END_COLLECTION → path (item ∷ before) ≡ path before
path_kept before item a b = grind (arith, common_steps, nat_tests)

pub fields_kept : (before : List EncodedItem) (item : EncodedItem) → is_field item ≡ false → fields (item ∷ before) ≡ fields before
unfolding add_field
fields_kept before item h = rw h refl

-- the fields as they stand after an item that describes none
pub fields_same : (before : List EncodedItem) (item : EncodedItem) (old new : KeptFields) → is_field item ≡ false → new ≡ old → AreKept (fields before) old → AreKept (fields (item ∷ before)) new
fields_same before item old new h e k = subst (AreKept (fields (item ∷ before))) (sym e) (subst (λ fs. AreKept fs old) (sym (fields_kept before item h)) k)

pub push_accepted : (limits : Limits) (before : List EncodedItem) (item : EncodedItem) → prefix_of item ≡ PUSH → length (open_pushes before) < 8 → fault_of limits before item ≡ None
push_accepted limits before item h lt = grind (arith, common_steps, nat_tests)

pub locals_kept : (before : List EncodedItem) (item : EncodedItem) (kept : Locals) → is_main item ≡ false → names_usage item ≡ false → AreLocals before kept → AreLocals (item ∷ before) kept
locals_kept before item kept m u k = locals_added before item kept kept m k (record { entries_after = grind (arith, common_steps, nat_tests); minima_after = grind (arith, common_steps, nat_tests); maxima_after = grind (arith, common_steps, nat_tests) })

abbrev is_main_prefix : ℕ → Bool
is_main_prefix p = list_any (nat_eq p) (0x80 ∷ 0x90 ∷ 0xB0 ∷ 0xA0 ∷ 0xC0 ∷ [])

main_not : (item : EncodedItem) (prefix : ℕ) → is_main_prefix prefix ≡ false → is_main item ≡ true → prefix_of item ≢ prefix
main_not item prefix f m e = grind (arith, common_steps, nat_tests)

in_force_kept : (before : List EncodedItem) (item : EncodedItem) (prefix : ℕ) → prefix_of item ≢ PUSH → prefix_of item ≢ POP → prefix_of item ≢ prefix → in_force prefix (item ∷ before) ≡ in_force prefix before
in_force_kept before item prefix p q n = grind (arith, common_steps, nat_tests)

main_no_field : (item : EncodedItem) → is_main item ≡ false → is_field item ≡ false
main_no_field item m = grind (arith, common_steps, nat_tests)

path_unmoved : (before : List EncodedItem) (item : EncodedItem) → is_main item ≡ false → path (item ∷ before) ≡ path before
path_unmoved before item m = grind (arith, common_steps, nat_tests)

-- what changes no global leaves all of them in force
pub globals_at_kept : (before : List EncodedItem) (item : EncodedItem) → prefix_of item ≢ PUSH → prefix_of item ≢ POP → prefix_of item ≢ USAGE_PAGE → prefix_of item ≢ LOGICAL_MINIMUM → prefix_of item ≢ LOGICAL_MAXIMUM → prefix_of item ≢ REPORT_SIZE → prefix_of item ≢ REPORT_COUNT → prefix_of item ≢ REPORT_ID → globals_at (item ∷ before) ≡ globals_at before
globals_at_kept before item p q a b c d e f =
    let same : (prefix : ℕ) → prefix_of item ≢ prefix → in_force prefix (item ∷ before) ≡ in_force prefix before = λ prefix ne. in_force_kept before item prefix p q ne in
    let e1 : in_force USAGE_PAGE (item ∷ before) ≡ in_force USAGE_PAGE before = same USAGE_PAGE a in
    let e2 : in_force LOGICAL_MINIMUM (item ∷ before) ≡ in_force LOGICAL_MINIMUM before = same LOGICAL_MINIMUM b in
    let e3 : in_force LOGICAL_MAXIMUM (item ∷ before) ≡ in_force LOGICAL_MAXIMUM before = same LOGICAL_MAXIMUM c in
    let e4 : in_force REPORT_SIZE (item ∷ before) ≡ in_force REPORT_SIZE before = same REPORT_SIZE d in
    let e5 : in_force REPORT_COUNT (item ∷ before) ≡ in_force REPORT_COUNT before = same REPORT_COUNT e in
    let e6 : in_force REPORT_ID (item ∷ before) ≡ in_force REPORT_ID before = same REPORT_ID f in
    cc

-- the globals as they stand after an item that is no Push and no Pop
pub globals_set : (before : List EncodedItem) (item : EncodedItem) (old new : SavedGlobals) → prefix_of item ≢ PUSH → prefix_of item ≢ POP → AreGlobals before old → new.now ≡ globals_at (item ∷ before) → new.saved.items ≡ old.saved.items → AreGlobals (item ∷ before) new
globals_set before item old new p q g n s = record { in_force_now = n; at_pushes = s ∙ g.at_pushes ∙ ap (map (λ push. globals_at (push.0))) (sym (open_pushes_kept before item p q)) }

numbered_kept : (before : List EncodedItem) (item : EncodedItem) → prefix_of item ≢ REPORT_ID → list_any (is REPORT_ID) (item ∷ before) ≡ list_any (is REPORT_ID) before
numbered_kept before item h = grind (arith, common_steps, nat_tests)

-- an item that is no main item, no local and no Report ID leaves all but the globals
pub stands_global : (before : List EncodedItem) (item : EncodedItem) (old new : Parser) → is_main item ≡ false
    → names_usage item ≡ false → prefix_of item ≢ REPORT_ID → HasStateAfter before old
    → AreGlobals (item ∷ before) new.globals → new.locals ≡ old.locals → new.collections ≡ old.collections
    → new.fields ≡ old.fields → new.numbered ≡ old.numbered → HasStateAfter (item ∷ before) new
stands_global before item old new m u d s g e1 e2 e3 e4 = record {
  globals_there = g;
  locals_there = subst (AreLocals (item ∷ before)) (sym e1) (locals_kept before item old.locals m u s.locals_there);
  path_there = ap (λ x. x.open.items) e2 ∙ s.path_there ∙ sym (path_unmoved before item m);
  fields_there = fields_same before item old.fields new.fields (main_no_field item m) e3 s.fields_there;
  numbered_there = e4 ∙ s.numbered_there ∙ sym (numbered_kept before item d);
}

pub depth_kept : (before : List EncodedItem) (g : SavedGlobals) → AreGlobals before g → length (open_pushes before) ≡ length g.saved.items
depth_kept before g a = sym (ap length a.at_pushes ∙ length-map (open_pushes before) (λ push. globals_at (push.0)))

pub stands_pushed : (limits : Limits) (before : List EncodedItem) (item : EncodedItem) (old : Parser) (g : SavedGlobals) → prefix_of item ≡ PUSH → length old.globals.saved.items < 8 → HasStateAfter before old → AreGlobals (item ∷ before) g → (fault_of limits before item ≡ None) × HasStateAfter (item ∷ before) (record old { globals = g })
stands_pushed limits before item old g h lt s a =
    let n : length (open_pushes before) < 8 = omega (arith, depth_kept before old.globals s.globals_there) in (
      push_accepted limits before item h n,
      stands_global before item old (record old { globals = g }) (grind (arith, common_steps, nat_tests)) (grind (arith, common_steps, nat_tests)) (λ e. absurd (omega arith)) s a refl refl refl refl,
    )

pop_accepted : (limits : Limits) (before : List EncodedItem) (item : EncodedItem) → prefix_of item ≡ POP → 0 < length (open_pushes before) → fault_of limits before item ≡ None
pop_accepted limits before item h lt = grind (arith, common_steps, nat_tests)

pub stands_popped : (limits : Limits) (before : List EncodedItem) (item : EncodedItem) (old : Parser) (g : SavedGlobals) → prefix_of item ≡ POP → 0 < length (open_pushes before) → HasStateAfter before old → AreGlobals (item ∷ before) g → (fault_of limits before item ≡ None) × HasStateAfter (item ∷ before) (record old { globals = g })
stands_popped limits before item old g h lt s a = (
  pop_accepted limits before item h lt,
  stands_global before item old (record old { globals = g }) (grind (arith, common_steps, nat_tests)) (grind (arith, common_steps, nat_tests)) (λ e. absurd (omega arith)) s a refl refl refl refl,
)

-- an item that does nothing
pub stands_idle : (limits : Limits) (before : List EncodedItem) (item : EncodedItem) (old : Parser) → prefix_of item ≡ 0xFC → HasStateAfter before old → (fault_of limits before item ≡ None) × HasStateAfter (item ∷ before) old
stands_idle limits before item old h s = (
  grind (arith, common_steps, nat_tests),
  stands_global before item old old (grind (arith, common_steps, nat_tests)) (grind (arith, common_steps, nat_tests)) (λ e. absurd (omega arith)) s
      (globals_set before item old.globals old.globals (λ e. absurd (omega arith)) (λ e. absurd (omega arith)) s.globals_there
      (s.globals_there.in_force_now ∙ sym (globals_at_kept before item (λ e. absurd (omega arith)) (λ e. absurd (omega arith)) (λ e. absurd (omega arith)) (λ e. absurd (omega arith)) (λ e. absurd (omega arith)) (λ e. absurd (omega arith)) (λ e. absurd (omega arith)) (λ e. absurd (omega arith)))) refl)
      refl refl refl refl,
)

-- a global, local or reserved item
pub other_no_main : (item : EncodedItem) → IsOtherPrefix (prefix_of item) → is_main item ≡ false
other_no_main item o = grind (arith, common_steps, nat_tests, o.no_input, o.no_output, o.no_feature, o.no_collection, o.no_end)

other_accepted : (limits : Limits) (before : List EncodedItem) (item : EncodedItem) → IsOtherPrefix (prefix_of item) → fault_of limits before item ≡ None
other_accepted limits before item o = grind (arith, common_steps, nat_tests, o.no_input, o.no_output, o.no_feature, o.no_collection, o.no_end, o.no_push, o.no_pop, o.no_id, o.no_delimiter)

pub stands_other : (limits : Limits) (before : List EncodedItem) (item : EncodedItem) (old new : Parser) → IsOtherPrefix (prefix_of item) → HasStateAfter before old → AreLocals (item ∷ before) new.locals → new.globals.now ≡ globals_at (item ∷ before) → new.globals.saved.items ≡ old.globals.saved.items → new.collections ≡ old.collections → new.fields ≡ old.fields → new.numbered ≡ old.numbered → (fault_of limits before item ≡ None) × HasStateAfter (item ∷ before) new
stands_other limits before item old new o s l g sv e2 e3 e4 = (
  other_accepted limits before item o,
  record {
    globals_there = globals_set before item old.globals new.globals o.no_push o.no_pop s.globals_there g sv;
    locals_there = l;
    path_there = ap (λ x. x.open.items) e2 ∙ s.path_there ∙ sym (path_unmoved before item (other_no_main item o));
    fields_there = fields_same before item old.fields new.fields (main_no_field item (other_no_main item o)) e3 s.fields_there;
    numbered_there = e4 ∙ s.numbered_there ∙ sym (numbered_kept before item o.no_id);
  },
)

usage_is_not : (item : EncodedItem) (prefix : ℕ) → list_any (nat_eq prefix) (0x08 ∷ 0x18 ∷ 0x28 ∷ []) ≡ false → names_usage item ≡ true → prefix_of item ≢ prefix
usage_is_not item prefix f u e = grind (arith, common_steps, nat_tests)

usage_is_other : (item : EncodedItem) → names_usage item ≡ true → IsOtherPrefix (prefix_of item)
usage_is_other item u = record {
  no_input = usage_is_not item INPUT refl u;
  no_output = usage_is_not item OUTPUT refl u;
  no_feature = usage_is_not item FEATURE refl u;
  no_collection = usage_is_not item COLLECTION refl u;
  no_end = usage_is_not item END_COLLECTION refl u;
  no_push = usage_is_not item PUSH refl u;
  no_pop = usage_is_not item POP refl u;
  no_id = usage_is_not item REPORT_ID refl u;
  no_delimiter = usage_is_not item DELIMITER refl u;
}

pub usage_no_main : (item : EncodedItem) → names_usage item ≡ true → is_main item ≡ false
usage_no_main item u = other_no_main item (usage_is_other item u)

-- a Usage, a Usage Minimum or a Usage Maximum leaves all but the locals
pub stands_usage : (limits : Limits) (before : List EncodedItem) (item : EncodedItem) (old new : Parser) → names_usage item ≡ true → HasStateAfter before old → AreLocals (item ∷ before) new.locals → new.globals ≡ old.globals → new.collections ≡ old.collections → new.fields ≡ old.fields → new.numbered ≡ old.numbered → (fault_of limits before item ≡ None) × HasStateAfter (item ∷ before) new
stands_usage limits before item old new u s l e1 e2 e3 e4 =
    let kept : globals_at (item ∷ before) ≡ globals_at before = globals_at_kept before item (usage_is_not item PUSH refl u) (usage_is_not item POP refl u) (usage_is_not item USAGE_PAGE refl u) (usage_is_not item LOGICAL_MINIMUM refl u) (usage_is_not item LOGICAL_MAXIMUM refl u) (usage_is_not item REPORT_SIZE refl u) (usage_is_not item REPORT_COUNT refl u) (usage_is_not item REPORT_ID refl u) in
    stands_other limits before item old new (usage_is_other item u) s l (ap (λ g. g.now) e1 ∙ s.globals_there.in_force_now ∙ sym kept) (ap (λ g. g.saved.items) e1) e2 e3 e4

-- a Report ID that isn't refused
id_accepted : (limits : Limits) (before : List EncodedItem) (item : EncodedItem) → prefix_of item ≡ REPORT_ID → 0 < unsigned_of (data_of item) → unsigned_of (data_of item) ≤ 255 → fault_of limits before item ≡ None
id_accepted limits before item h a b = grind (arith, common_steps, nat_tests)

pub stands_id : (limits : Limits) (before : List EncodedItem) (item : EncodedItem) (old new : Parser) → prefix_of item ≡ REPORT_ID → 0 < unsigned_of (data_of item) → unsigned_of (data_of item) ≤ 255 → HasStateAfter before old → new.globals.now ≡ globals_at (item ∷ before) → new.globals.saved.items ≡ old.globals.saved.items → new.locals ≡ old.locals → new.collections ≡ old.collections → new.fields ≡ old.fields → new.numbered ≡ true → (fault_of limits before item ≡ None) × HasStateAfter (item ∷ before) new
stands_id limits before item old new h a b s g sv e1 e2 e3 e4 =
    let m : is_main item ≡ false = grind (arith, common_steps, nat_tests) in (
      id_accepted limits before item h a b,
      record {
        globals_there = globals_set before item old.globals new.globals (λ e. absurd (omega arith)) (λ e. absurd (omega arith)) s.globals_there g sv;
        locals_there = subst (AreLocals (item ∷ before)) (sym e1) (locals_kept before item old.locals m (grind (arith, common_steps, nat_tests)) s.locals_there);
        path_there = ap (λ x. x.open.items) e2 ∙ s.path_there ∙ sym (path_unmoved before item m);
        fields_there = fields_same before item old.fields new.fields (main_no_field item m) e3 s.fields_there;
        numbered_there = e4 ∙ rw h refl;
      },
    )

-- the globals after a main item
pub globals_main : (before : List EncodedItem) (item : EncodedItem) (old : SavedGlobals) → is_main item ≡ true → AreGlobals before old → AreGlobals (item ∷ before) old
globals_main before item old m g =
    globals_set before item old old (main_not item PUSH refl m) (main_not item POP refl m) g
    (g.in_force_now ∙ sym (globals_at_kept before item (main_not item PUSH refl m) (main_not item POP refl m) (main_not item USAGE_PAGE refl m) (main_not item LOGICAL_MINIMUM refl m) (main_not item LOGICAL_MAXIMUM refl m) (main_not item REPORT_SIZE refl m) (main_not item REPORT_COUNT refl m) (main_not item REPORT_ID refl m))) refl

collection_accepted : (limits : Limits) (before : List EncodedItem) (item : EncodedItem) → prefix_of item ≡ COLLECTION → length (path before) < 16 → fault_of limits before item ≡ None
collection_accepted limits before item h lt = grind (arith, common_steps, nat_tests)

end_accepted : (limits : Limits) (before : List EncodedItem) (item : EncodedItem) → prefix_of item ≡ END_COLLECTION → 0 < length (path before) → fault_of limits before item ≡ None
end_accepted limits before item h lt = grind (arith, common_steps, nat_tests)

-- a Collection or an End Collection ends the locals, and leaves globals and fields
pub stands_main : (before : List EncodedItem) (item : EncodedItem) (old new : Parser) → is_main item ≡ true
    → is_field item ≡ false → HasStateAfter before old → new.globals ≡ old.globals
    → AreLocals (item ∷ before) new.locals → new.collections.open.items ≡ path (item ∷ before)
    → new.fields ≡ old.fields → new.numbered ≡ old.numbered → HasStateAfter (item ∷ before) new
stands_main before item old new m f s e1 l p e3 e4 = record {
  globals_there = subst (AreGlobals (item ∷ before)) (sym e1) (globals_main before item old.globals m s.globals_there);
  locals_there = l;
  path_there = p;
  fields_there = fields_same before item old.fields new.fields f e3 s.fields_there;
  numbered_there = e4 ∙ s.numbered_there ∙ sym (numbered_kept before item (main_not item REPORT_ID refl m));
}

pub stands_collection : (limits : Limits) (before : List EncodedItem) (item : EncodedItem) (old new : Parser) → prefix_of item ≡ COLLECTION → length old.collections.open.items < 16 → HasStateAfter before old → new.globals ≡ old.globals → AreLocals (item ∷ before) new.locals → new.collections.open.items ≡ path (item ∷ before) → new.fields ≡ old.fields → new.numbered ≡ old.numbered → (fault_of limits before item ≡ None) × HasStateAfter (item ∷ before) new
stands_collection limits before item old new h lt s e1 l p e3 e4 =
    (collection_accepted limits before item h (omega (arith, ap length s.path_there)), stands_main before item old new (rw h refl) (rw h refl) s e1 l p e3 e4)

pub stands_end : (limits : Limits) (before : List EncodedItem) (item : EncodedItem) (old new : Parser) → prefix_of item ≡ END_COLLECTION → 0 < length old.collections.open.items → HasStateAfter before old → new.globals ≡ old.globals → AreLocals (item ∷ before) new.locals → new.collections.open.items ≡ path (item ∷ before) → new.fields ≡ old.fields → new.numbered ≡ old.numbered → (fault_of limits before item ≡ None) × HasStateAfter (item ∷ before) new
stands_end limits before item old new h lt s e1 l p e3 e4 =
    (end_accepted limits before item h (omega (arith, ap length s.path_there)), stands_main before item old new (rw h refl) (rw h refl) s e1 l p e3 e4)

-- the usages kept, on the page in force, are the entries of a main item that comes now
pub usages_there : (before : List EncodedItem) (p : Parser) → HasStateAfter before p
    → map (entry_on_page p.globals.now.page) p.locals.entries.items ≡ entries before
usages_there before p s =
    s.locals_there.all_entries p.globals.now.page
    ∙ ap (λ g. following_entries g [] (locals before)) (ap (λ g. g.page) s.globals_there.in_force_now)

pub end_is_main : (item : EncodedItem) → prefix_of item ≡ END_COLLECTION → is_main item ≡ true
end_is_main item h = rw h refl

pub collection_is_main : (item : EncodedItem) → prefix_of item ≡ COLLECTION → is_main item ≡ true
collection_is_main item h = rw h refl

-- a long item has no prefix that means anything
pub long_prefix : (bytes : List ℕ) (tag : ℕ) → first_kind bytes ≡ Long tag → prefix_of bytes ≡ 0xFC
long_prefix [] tag k = absurd (cc)
long_prefix (b ∷ bytes) tag k = grind (arith, common_steps, nat_tests)

pub field_is_main : (item : EncodedItem) → is_field item ≡ true → is_main item ≡ true
field_is_main item h = rw h refl

pub field_path_kept : (before : List EncodedItem) (item : EncodedItem) → is_field item ≡ true → path (item ∷ before) ≡ path before
field_path_kept before item h = grind (arith, common_steps, nat_tests)

pub field_no_id : (before : List EncodedItem) (item : EncodedItem) → is_field item ≡ true → list_any (is REPORT_ID) (item ∷ before) ≡ list_any (is REPORT_ID) before
field_no_id before item h = numbered_kept before item (main_not item REPORT_ID refl (field_is_main item h))
