use Rattle.std.proofs.Common.{sym, subst}
use Rattle.line_core.specs.Round.{HasFired}
use Rattle.line_core.specs.Run.{Run}
use Rattle.line_core.proofs.RoundLemmas.{begun-has_fired}
use Rattle.card_sizing.proofs.trying.late_in.Goals as goal

pub first_late-requires-clause-none_fired : goal.first_late-requires-clause-none_fired
first_late-requires-clause-none_fired c =
    subst (λ (r : Run). HasFired r 0) (sym c.in_ok-state.ensures.start) (begun-has_fired c.args.live.now.graph)
