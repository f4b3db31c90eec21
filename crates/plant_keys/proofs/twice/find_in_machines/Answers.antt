use Rattle.std.proofs.Common.{map, take, ap, ◌∙◌, arith}
use Rattle.toml.specs.View.{view}
use Rattle.plant_model.specs.declared.place.FileTable.TheVariants.{InMachine}
use Rattle.plant_keys.specs.Code.{views}
use Rattle.plant_keys.specs.Readers.{name_in}
use Rattle.plant_keys.specs.Rules.{machine_name_twice}
use Rattle.plant_keys.specs.Faults.{plain}
use Rattle.plant_keys.proofs.FoundFaults.{finds_same}
use Rattle.plant_keys.proofs.GatheredFaults.{gathered_none, gathers, gathered_all}
use Rattle.plant_keys.proofs.SeenNames.{none_seen, added_same, seen_more, twice_found, name_twice-same}
use Rattle.plant_keys.proofs.twice.find_in_machines.Goals as goal

pub loop-j-init : goal.loop-j-init
loop-j-init c = (gathered_none _ _ _, none_seen _ c.requires)

pub loop-j-preserved : goal.loop-j-preserved
loop-j-preserved c =
    let x = c.index-machines-j.result in
    let j = c.loop-j.j in
    let rows = c.args.machines.now in
    let names = map name_in (views rows) in (
      gathers (λ j m. plain (machine_name_twice c.args.i names j (view m))) rows j x _ _ _ c.loop-j.invariant.0 (omega arith) c.index-machines-j.is
          (finds_same _ _ _ _ c.find_name.ensures
          (ap plain (twice_found (InMachine c.args.i j) c.loop-j.seen (name_in (view x)) _ (rw c.text_at.ensures at c.in_ok-is_new.ensures.differs) ∙ name_twice-same (InMachine c.args.i j) c.loop-j.seen (take j names) (name_in (view x)) c.loop-j.invariant.1))),
      seen_more rows j x _ _ c.loop-j.invariant.1 (added_same _ _ _ (rw c.text_at.ensures at c.in_ok-is_new.ensures.added)) (omega arith) c.index-machines-j.is,
    )

pub returns : goal.returns
returns c =
    let names = map name_in (views c.args.machines.now) in
    gathered_all (λ j m. plain (machine_name_twice c.args.i names j (view m))) c.args.machines.now c.loop-j.j _ _ c.loop-j.invariant.0 (omega arith)
