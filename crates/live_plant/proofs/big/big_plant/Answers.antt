use Rattle.std.proofs.Common.{◌≡◌, length, sym, subst}
use Rattle.plant_model.specs.declared.plant.Plant.{Plant}
use Rattle.plant_model.specs.Line.{station_count}
use Rattle.plant_model.specs.Sound.{IsSound}
use Rattle.plant_model.specs.Graph.{graph}
use Rattle.event_graph.specs.Live.{IsLive}
use Rattle.live_plant.specs.Big.{big_plant}
use Rattle.live_plant.proofs.SoundPlant.{fifty_stations, jobs, big_plant-sound}
use Rattle.live_plant.proofs.BigIsLive.{big_plant-live}
use Rattle.live_plant.proofs.big.big_plant.Goals as goal

pub returns-clause-plant : goal.returns-clause-plant
unfolding big_plant
returns-clause-plant c = cc (c.in_ok-stages.ensures.stages, c.in_ok-stages.ensures.state, c.in_ok-demands.ensures)

pub returns-clause-sound : goal.returns-clause-sound
returns-clause-sound c = subst IsSound (sym (returns-clause-plant c)) (big_plant-sound c.args.seed)

pub returns-clause-live : goal.returns-clause-live
returns-clause-live c =
    subst (λ (p : Plant). IsLive (graph p)) (sym (returns-clause-plant c)) (big_plant-live c.args.seed)

pub returns-clause-stations : goal.returns-clause-stations
returns-clause-stations c =
    subst (λ (p : Plant). station_count p ≡ 50) (sym (returns-clause-plant c)) (fifty_stations c.args.seed)

pub returns-clause-jobs : goal.returns-clause-jobs
returns-clause-jobs c =
    subst (λ (p : Plant). length p.demands ≡ 2_000) (sym (returns-clause-plant c)) (jobs c.args.seed)
