-- What the workers of a line are after some sweeps of each.
use Rattle.std.proofs.Common.{◌≡◌, ℕ, ◌<◌, List, [], take, length, set, refl, ap, ◌∙◌, sym, subst, arith, zero-add, ⊎_elim}
use Rattle.std.proofs.lemmas.Bool.{cases_eq}
use Rattle.std.proofs.lemmas.List.{length-set, get_or-set_same, get_or-set_other}
use Rattle.std.proofs.lemmas.List.FromFn.{get_or-map-range_with_len}
use Rattle.line_base.specs.declared.event.Parts.{Parts}
use Rattle.event_graph.specs.Network.{stations}
use Rattle.event_graph.specs.State.{log}
use Rattle.line_worker.specs.Team.{WorkTeam}
use Rattle.line_worker.specs.Teams.{team_at, station_of, state_among}
use Rattle.line_worker.specs.Worker.{LineWorker, with_team, teams_of}
use Rattle.line_worker.specs.Work.{TeamWorked, TeamsWorked}
use Rattle.line_worker.specs.Workers.{worker_at, no_worker, graph_of, begun_of, AreWorkers, AreSameWorkers}
use Rattle.line_workers.specs.Line.{LogsGrow}
use Rattle.line_workers.specs.Gather.{IsWorkerAfter, AreWorkersAfter}
use Rattle.line_worker.proofs.WorkedTeams.{idle_team, then_team, station-worked}
use Rattle.line_workers.proofs.AllWorkers.{ranked, workers_are_teams, workers-same}
use Rattle.line_worker.proofs.WorkerTeams.{count-teams, team_at-workers}

log-among : (g : Parts) (teams : List WorkTeam) (t : ℕ) → t < stations g → log (state_among g teams) t ≡ (station_of g teams t).log.dates
unfolding state_among
log-among g teams t there = get_or-map-range_with_len (λ u. (station_of g teams u).log.dates) 0 (stations g) t t [] there (zero-add t)

module _ (old new : List LineWorker) (are : AreWorkers old) (swept : AreWorkersAfter old new) where
  same : AreSameWorkers old new
  same = record { count = swept.count; each = λ w low. (swept.each w low).same }

  worked : TeamsWorked (teams_of old) (teams_of new)
  worked = record {
    count = count-teams new ∙ swept.count ∙ sym (count-teams old);
    each = λ w low.
        let w_old : w < length old = omega (arith, low, count-teams old) in
        let w_new : w < length new = omega (arith, w_old, swept.count) in
        subst (λ (t : WorkTeam). TeamWorked t (team_at (teams_of new) w)) (sym (team_at-workers old w w_old)) (
        subst (λ (t : WorkTeam). TeamWorked (worker_at old w).team t) (sym (team_at-workers new w w_new)) (swept.each w w_old).worked);
  }

  pub workers_after : AreWorkers new
  workers_after = workers-same old are new same worked

  pub logs_grow : LogsGrow (graph_of old) (state_among (graph_of old) (teams_of old)) (state_among (graph_of old) (teams_of new))
  logs_grow t there =
      let g = graph_of old in
      let before = station_of g (teams_of old) t in
      let after = station_of g (teams_of new) t in
      let has = station-worked g (begun_of old) (teams_of old) (teams_of new) (ranked old are).limits.some_station (workers_are_teams old are) worked t there in
      ap (λ l. take (length l) (log (state_among g (teams_of new)) t)) (log-among g (teams_of old) t there)
      ∙ ap (take (length before.log.dates)) (log-among g (teams_of new) t there)
      ∙ has.kept
      ∙ sym (log-among g (teams_of old) t there)

pub after_more : (worker later last : LineWorker) → IsWorkerAfter worker later → IsWorkerAfter later last → IsWorkerAfter worker last
after_more worker later last first next = record {
  same = record {
    worker = next.same.worker;
    frame = next.same.frame ∙ ap (λ (c : LineWorker). with_team c last.team) first.same.frame;
  };
  worked = then_team worker.team later.team last.team first.worked next.worked;
}

-- the workers of a line of which one is after some sweeps, and the others are as they were
pub one_after : (old : List LineWorker) → AreWorkers old → (k : ℕ) (new : LineWorker) → k < length old → IsWorkerAfter (worker_at old k) new → AreWorkersAfter old (set old k new)
one_after old are k new low_k is = record {
  count = length-set old k new;
  each = λ w low.
      ⊎_elim
      (λ here.
      subst (λ v. IsWorkerAfter (worker_at old v) (worker_at (set old k new) v)) (sym here) (
      subst (IsWorkerAfter (worker_at old k)) (sym (get_or-set_same old k new no_worker low_k)) is))
      (λ apart.
      subst (IsWorkerAfter (worker_at old w)) (sym (get_or-set_other old k w new no_worker apart)) (
      record { same = record { worker = are.each w low; frame = refl }; worked = idle_team (worker_at old w).team }))
      (cases_eq w k);
}
