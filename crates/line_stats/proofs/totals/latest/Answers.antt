use Rattle.std.proofs.Common.{◌≡◌, ℕ, max, Option, Bor, sym, ◌∙◌, ap}
use Rattle.std.specs.Option.{option_map, unwrap_or}
use Rattle.std.specs.List.{reduce}
use Rattle.std.proofs.lemmas.Iterator.{YieldsList-from_slice}
use Rattle.std.proofs.lemmas.Iterator.Consumers.{max_from_yields_List}
use Rattle.line_stats.proofs.Greatest.{greatest-reduce}
use Rattle.line_stats.proofs.totals.latest.Goals.{After-max}
use Rattle.line_stats.proofs.totals.latest.Goals as goal

picked : (c : After-max) → option_map (λ d. d.now) c.max.result ≡ reduce max c.args.dates.now
picked c = max_from_yields_List _ _ c.max.ensures.ran (YieldsList-from_slice c.args.dates.now cc)

pub returns-in-Some : goal.returns-in-Some
returns-in-Some c =
    ap (λ (o : Option (Bor ℕ)). unwrap_or (option_map (λ d. d.now) o) 0) (sym c.in-Some.is)
    ∙ ap (λ o. unwrap_or o 0) (picked (goal.at.returns-in-Some c).After-max)
    ∙ greatest-reduce c.args.dates.now

pub returns-in-None : goal.returns-in-None
returns-in-None c =
    ap (λ (o : Option (Bor ℕ)). unwrap_or (option_map (λ d. d.now) o) 0) (sym c.in-None.is)
    ∙ ap (λ o. unwrap_or o 0) (picked (goal.at.returns-in-None c).After-max)
    ∙ greatest-reduce c.args.dates.now
