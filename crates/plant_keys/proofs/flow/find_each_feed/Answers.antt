use Rattle.std.proofs.Common.{map, arith}
use Rattle.toml.specs.View.{view}
use Rattle.plant_keys.specs.Code.{views}
use Rattle.plant_keys.specs.Readers.{name_in}
use Rattle.plant_keys.specs.Walk.{feeds_faults}
use Rattle.plant_keys.proofs.GatheredFaults.{gathered_none, gathers, gathered_all}
use Rattle.plant_keys.proofs.SeenNames.{none_seen, added_same, seen_more}
use Rattle.plant_keys.proofs.flow.find_each_feed.Goals as goal

pub loop-i-init : goal.loop-i-init
loop-i-init c = (gathered_none _ _ _, none_seen _ c.requires.none)

pub loop-i-preserved : goal.loop-i-preserved
loop-i-preserved c =
    let rows = c.args.stages.now in
    let names = map name_in (views rows) in
    let seen = seen_more rows c.loop-i.i c.index-stages-i.result _ _ c.loop-i.invariant.1 (added_same _ _ _ (rw c.text_at.ensures at c.in_ok-add.ensures.added)) (omega arith) c.index-stages-i.is in (
      gathers (λ i s. feeds_faults names i (view s)) rows c.loop-i.i c.index-stages-i.result _ _ _ c.loop-i.invariant.0 (omega arith) c.index-stages-i.is
          (c.find_feed.ensures names c.requires.all seen),
      seen,
    )

pub returns : goal.returns
returns c =
    gathered_all (λ i s. feeds_faults (map name_in (views c.args.stages.now)) i (view s)) c.args.stages.now c.loop-i.i _ _ c.loop-i.invariant.0 (omega arith)
