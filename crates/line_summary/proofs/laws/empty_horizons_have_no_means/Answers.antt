use Rattle.std.proofs.Common.{◌≡◌, ◌*◌, ap, ◌∙◌, arith}
use Rattle.line_summary.specs.Thousandths.{thousandths}
use Rattle.line_summary.proofs.laws.empty_horizons_have_no_means.Goals as goal

pub returns-clause-means : goal.returns-clause-means
returns-clause-means c = λ p x none sum. ap (thousandths sum) none

pub returns-clause-shares : goal.returns-clause-shares
returns-clause-shares c = λ p x none busy servers.
    ap (λ n. thousandths busy (servers * n)) none ∙ (let zero_is : servers * 0 ≡ 0 = omega arith in ap (thousandths busy) zero_is)
