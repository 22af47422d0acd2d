-- That the reports of a message always have room.
use Rattle.std.specs.Prelude.{◌≤◌, length}
use Rattle.rules.specs.State.{State}
use Rattle.rules.specs.Calls.{Sent}
use Rattle.rules.specs.Step.{step}
use Rattle.rules.specs.History.{History}
use Rattle.rules.specs.Run.{Reached}

abbrev pub RoomForReports : Type 0
RoomForReports = (h : History) (s : State) (m : Sent) → Reached h s → length (step s m).reports ≤ 2048
