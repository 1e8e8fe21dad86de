use Rattle.hid_usages.proofs.view_changes.push_switch_event.Goals as goal

pub switch_event-requires : goal.switch_event-requires
switch_event-requires c = c.requires.room c.usage_at.result c.usage_at.ensures
