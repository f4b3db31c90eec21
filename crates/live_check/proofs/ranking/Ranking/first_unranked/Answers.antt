use Rattle.std.proofs.Common.{◌≡◌, ◌<◌, ap, ◌∙◌, arith, length, get_or, below_more}
use Rattle.live_check.specs.Ranking.{Ranks}
use Rattle.std.proofs.lemmas.List.{get_or_default}
use Rattle.live_check.proofs.ranking.Ranking.first_unranked.Goals as goal

pub loop-t-preserved : goal.loop-t-preserved
loop-t-preserved c =
    let ranks = c.args.self.now.ranks in
    let t = c.loop-t.t in
    let same : c.deref-rank-items.result.now ≡ ranks = c.deref-rank-items.ensures.value ∙ ap (λ (r : Ranks). r.ranks) c.self.view_is in
    let here : t < length ranks = omega (arith, c.loop-t-test.true, ap length same) in
    let count : c.len-stations.result ≡ length ranks = omega (arith, c.len-stations.ensures, c.deref-rank-items.ensures.len, ap length same) in
    let ranked : get_or ranks t 0 < length ranks = omega (arith, c.if-rank-stations.false, count, ap (λ l. get_or l t 0) same) in
    λ k d below. below_more (λ j. get_or ranks j d < length ranks) t (λ j under. c.loop-t.invariant j d under) (omega (arith, ranked, get_or_default ranks t 0 d here)) k below
