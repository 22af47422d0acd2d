use Rattle.rules.proofs.theorems.engines_can_follow.Goals as goal
use Rattle.rules.proofs.Sounds.{sound_is_kept, sound_suffices}
use Rattle.rules.proofs.Books.{book_does}
use Rattle.rules.proofs.Rooms.{room_for_reports}

pub returns : goal.returns
returns c = record { sound = sound_is_kept; suffices = sound_suffices; book = book_does; room = room_for_reports }
