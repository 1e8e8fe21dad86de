use Rattle.hid_usages.proofs.take.take_array.Goals as goal

pub take_keys-requires-clause-listed : goal.take_keys-requires-clause-listed
take_keys-requires-clause-listed g c = record { there = c.requires.array.there; entries = c.requires.array.listed }
