use Rattle.std.proofs.Common.{◌<◌, get_or, length, arith}
use Rattle.std.proofs.lemmas.List.{get_or_default}
use Rattle.std.proofs.lemmas.List.Edits.{map_over_more}
use Rattle.live_check.specs.Ranking.{from_end}
use Rattle.live_check.proofs.ranking.turn_round.Goals as goal

pub loop-rank-preserved : goal.loop-rank-preserved
loop-rank-preserved c =
    let before = c.deref_mut-rank-items.result.now in
    let now = c.loop-rank.rank-items in
    let i = c.loop-rank.rank-index in
    let within : i < length before = omega arith in
    let here : i < length now = omega arith in
    map_over_more (from_end c.len-stations.result) before now i (get_or now i 0) within c.loop-rank.invariant (get_or_default now i 0 (get_or now i 0) here)
