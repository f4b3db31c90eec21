use Rattle.std.proofs.Common.{subst}
use Rattle.live_check.specs.Order.{LiveGraph}
use Rattle.checkpoint.specs.Kept.{Follows}
use Rattle.line_runs.proofs.slots.LastSave.none.Goals as goal

pub returns-clause-follows : goal.returns-clause-follows
returns-clause-follows c =
    let state = c.args.line.now.state in
    subst (λ (v : LiveGraph). Follows v.graph state c.in_ok-kept.kept) c.requires (c.in_ok-kept.ensures.follows state)
