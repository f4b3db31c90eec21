use Rattle.std.proofs.Common.{ℕ, subst}
use Rattle.line_runs.specs.Stop.{CountsWell}
use Rattle.commands.proofs.Stops.{ends_at_first, fired_at_start}
use Rattle.commands.proofs.stopping.outcome_of.Goals as goal

pub returns : goal.returns
returns g c =
    let g = c.args.live.now.graph in
    let work = c.in_ok-work in
    record {
      well = c.run_until.ensures.headline;
      count = subst (λ (begun : ℕ). CountsWell g c.args.firings begun c.run_until.result)
          (fired_at_start g work.work.state work.ensures.stands.state_is) c.run_until.ensures.count;
      first = ends_at_first c.args.live.now c.args.firings c.args.workers work.work c.run_until.result
          work.ensures.stands c.run_until.ensures.stop;
    }
