use Rattle.std.proofs.Common.{◌≡◌, ◌∙◌, sym, subst}
use Rattle.line_base.specs.declared.event.Parts.{Parts}
use Rattle.line_core.specs.Consistent.{firing_count}
use Rattle.line_runs.specs.Headline.{EndsWell, MayBeResumed}
use Rattle.line_runs.specs.Stop.{CountsWell, IsStopAt}
use Rattle.live_plant.specs.Outside.{store_over}
use Rattle.commands.specs.FirstEnd.{IsDoneFirst, IsFirstEnd}
use Rattle.commands.specs.EndsAsAsked.{EndsAtFirst}
use Rattle.commands.proofs.Checkpoints.{fits_limit}
use Rattle.commands.proofs.Stops.{ends_run, stops_run, short_of}
use Rattle.commands.proofs.stopping.end_run.Goals as goal

pub report_of-requires-clause-table : goal.report_of-requires-clause-table
report_of-requires-clause-table g c = subst (EndsWell c.args.line.live.graph) c.in-Finished.is c.requires.outcome.well

pub save-requires : goal.save-requires
save-requires g c =
    let well : (c.in-Stopped.state.graph ≡ c.args.line.live.graph) ×
    MayBeResumed c.args.line.live.graph c.in-Stopped.state.state =
    subst (EndsWell c.args.line.live.graph) c.in-Stopped.is c.requires.outcome.well in
    sym well.0

pub returns-in-Finished : goal.returns-in-Finished
returns-in-Finished g c =
    let line = c.args.line in
    let first : IsDoneFirst line.live.graph c.args.stop.after c.args.workers =
    subst (EndsAtFirst line.live.graph c.args.stop.after c.args.workers) c.in-Finished.is c.requires.outcome.first in
    ends_run g.S.Store.tells (g.S.Store.shown c.args.store.now) line.plant c.args.workers c.args.stop.after
    c.args.stop.save c.report_of.result
    (short_of line.plant line.live.graph c.args.stop.after c.requires.plant.sound c.requires.plant.graph
    (subst (CountsWell line.live.graph c.args.stop.after 0) c.in-Finished.is c.requires.outcome.count))
    (subst (λ (h : Parts). IsDoneFirst h c.args.stop.after c.args.workers) c.requires.plant.graph first)
    c.report_of.ensures

pub returns-in-Stopped : goal.returns-in-Stopped
returns-in-Stopped g c =
    let line = c.args.line in
    let state = c.in-Stopped.state in
    let of_plant = c.requires.plant.graph in
    let well : (state.graph ≡ line.live.graph) × MayBeResumed line.live.graph state.state =
    subst (EndsWell line.live.graph) c.in-Stopped.is c.requires.outcome.well in
    let count : IsStopAt line.live.graph c.args.stop.after 0 (firing_count state.state) =
    subst (CountsWell line.live.graph c.args.stop.after 0) c.in-Stopped.is c.requires.outcome.count in
    let first : IsFirstEnd line.live.graph c.args.stop.after c.args.workers state.state =
    subst (EndsAtFirst line.live.graph c.args.stop.after c.args.workers) c.in-Stopped.is c.requires.outcome.first in
    stops_run (store_over g.S.Store.tells (g.S.Store.shown c.args.store.now) (g.S.Store.shown c.save.new.store))
    line.plant c.args.workers c.args.stop.after c.args.stop.save state c.save.result
    (fits_limit line c.requires.plant) (well.0 ∙ of_plant)
    (subst (λ (h : Parts). MayBeResumed h state.state) of_plant well.1)
    (subst (λ (h : Parts). IsStopAt h c.args.stop.after 0 (firing_count state.state)) of_plant count)
    (subst (λ (h : Parts). IsFirstEnd h c.args.stop.after c.args.workers state.state) of_plant first)
    c.save.ensures
