use Rattle.hid_driver.proofs.RoomLemmas.{has_room, heard_few, start_few}
use Rattle.hid_driver.proofs.laws.packets_have_room.Goals as goal

pub returns : goal.returns
returns c = record { begins = start_few; stays = heard_few; fits = has_room }
