use Rattle.law_complete.proofs.RoomsLaw.{guarded_room, quiet_all_taken}
use Rattle.law_complete.proofs.rooms.sound_servers_have_room.Goals as goal

pub returns : goal.returns
returns c = record { guarded = guarded_room; quiet = quiet_all_taken }
