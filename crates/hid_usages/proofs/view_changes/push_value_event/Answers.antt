use Rattle.hid_usages.proofs.view_changes.push_value_event.Goals as goal

pub value_event-requires : goal.value_event-requires
value_event-requires c = c.requires.room c.usage_at.result c.usage_at.ensures
