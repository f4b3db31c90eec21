use Rattle.latest_dates.proofs.ArcBounds.{added-kept}
use Rattle.latest_dates.proofs.arc_bounds.added_time.Goals as goal

pub returns-in-Some : goal.returns-in-Some
returns-in-Some c = added-kept c.args.graph.now c.args.a c.args.n c.args.to_all _ c.in-Some.is c.requires.to_all
