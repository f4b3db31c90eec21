use Rattle.std.proofs.Common.{◌≡◌, ℕ, ◌+◌, ◌<◌, ◌≤◌, length, take}
use Rattle.event_graph.specs.Network.{jobs}
use Rattle.line_worker.specs.Team.{member}
use Rattle.line_worker.specs.Teams.{index_in}
use Rattle.line_worker.specs.Worker.{IsWorker, with_team}
use Rattle.line_worker.specs.Work.{dates_of, dates_made, SteppedInOrder, IsSweeping, IsAlone}
use Rattle.line_worker.proofs.worker.Worker.sweep.Given as goal

abbrev pub invariant-loop-nth : goal.invariant-loop-nth
invariant-loop-nth g l = record {
  worker : IsWorker l.self;
  frame : l.self ≡ with_team l.initial.self l.self.team;
  sweeping : IsSweeping l.initial.self.order l.initial.self.team l.self.team l.nth;
  in_order : SteppedInOrder (take l.nth l.initial.self.order) l.initial.self.team l.self.team;
  made : dates_made l.self.team ≡ dates_made l.initial.self.team + l.fired;
  few : l.fired ≤ l.nth;
  alone : (times : ℕ) → IsAlone l.initial.self times → times < jobs l.initial.self.live.graph →
      (i : ℕ) → i < length l.initial.self.team.stations → index_in l.initial.self.order i < l.nth →
      dates_of (member l.self.team.stations i) ≡ times + 1;
}
