use Rattle.std.proofs.Common.{map, take, ap, arith}
use Rattle.toml.specs.View.{view}
use Rattle.plant_keys.specs.Code.{views}
use Rattle.plant_keys.specs.Readers.{name_in}
use Rattle.plant_keys.specs.Rules.{stage_name_twice}
use Rattle.plant_keys.specs.Faults.{plain}
use Rattle.plant_keys.proofs.FoundFaults.{finds_same}
use Rattle.plant_keys.proofs.GatheredFaults.{gathered_none, gathers, gathered_all}
use Rattle.plant_keys.proofs.SeenNames.{none_seen, added_same, seen_more, seen_exact, seen_all, stage_name_twice-same}
use Rattle.plant_keys.proofs.twice.find_twice.Goals as goal

pub loop-i-init : goal.loop-i-init
loop-i-init c = record { found = gathered_none _ _ _; same = none_seen _ c.requires; exact = λ none. c.requires }

pub loop-i-preserved : goal.loop-i-preserved
loop-i-preserved c =
    let rows = c.args.stages.now in
    let names = map name_in (views rows) in
    let i = c.loop-i.i in
    let x = c.index-stages-i.result in
    let added = c.in_ok-find_in_stage.ensures.added in
    record {
      found = gathers (λ i s. plain (stage_name_twice (take i names) i (view s))) rows i x _ _ _ c.loop-i.invariant.found (omega arith) c.index-stages-i.is
          (finds_same _ _ _ _ c.in_ok-find_in_stage.ensures.found
          (ap plain (stage_name_twice-same c.loop-i.seen (take i names) i (view x) c.loop-i.invariant.same)));
      same = seen_more rows i x _ _ c.loop-i.invariant.same (added_same _ _ _ added) (omega arith) c.index-stages-i.is;
      exact = seen_exact rows i x _ _ c.loop-i.invariant.exact added (omega arith) c.index-stages-i.is;
    }

pub returns-clause-found : goal.returns-clause-found
returns-clause-found c =
    let names = map name_in (views c.args.stages.now) in
    gathered_all (λ i s. plain (stage_name_twice (take i names) i (view s))) c.args.stages.now c.loop-i.i _ _ c.loop-i.invariant.found (omega arith)

pub returns-clause-names : goal.returns-clause-names
returns-clause-names c =
    seen_all c.args.stages.now c.loop-i.i _ c.loop-i.invariant.same c.loop-i.invariant.exact (omega arith)
