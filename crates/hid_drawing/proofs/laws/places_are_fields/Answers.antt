use Rattle.hid_drawing.proofs.FieldLemmas.{all_fields, all_items}
use Rattle.hid_drawing.proofs.laws.places_are_fields.Goals as goal

pub returns-clause-fields : goal.returns-clause-fields
returns-clause-fields c limits = all_fields limits c.one_reading.ensures c.truncation_is_no_reading.ensures

pub returns-clause-items : goal.returns-clause-items
returns-clause-items c limits = all_items limits c.one_reading.ensures c.truncation_is_no_reading.ensures
