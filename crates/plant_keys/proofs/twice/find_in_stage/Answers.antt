use Rattle.std.proofs.Common.{ap}
use Rattle.std.proofs.lemmas.Result.{on_ok_weaker}
use Rattle.toml.specs.View.{view}
use Rattle.plant_model.specs.declared.place.FileTable.TheVariants.{InStage}
use Rattle.plant_keys.specs.Readers.{name_in}
use Rattle.plant_keys.specs.Faults.{plain}
use Rattle.plant_keys.proofs.FoundFaults.{finds_same, finds_then}
use Rattle.plant_keys.proofs.SeenNames.{twice_found}
use Rattle.plant_keys.proofs.FaultLists.{stage_twice_faults}
use Rattle.plant_keys.proofs.twice.find_in_stage.Goals as goal

pub returns-clause-found : goal.returns-clause-found
returns-clause-found c =
    rw (stage_twice_faults c.args.seen.now c.args.i (view c.args.stage.now) c.tables_at.result.now c.tables_at.ensures)
    (finds_then _ _ _ _ _ _
    (finds_same _ _ _ _ c.find_name.ensures
    (ap plain (twice_found (InStage c.args.i) c.args.seen.now (name_in (view c.args.stage.now)) _ (rw c.text_at.ensures at c.in_ok-is_new.ensures.differs))))
    c.find_in_machines-found.ensures)

pub returns-clause-added : goal.returns-clause-added
returns-clause-added c =
    on_ok_weaker c.find_in_machines-found.result
    (λ _. rw c.text_at.ensures at c.in_ok-is_new.ensures.added) c.find_in_machines-found.ensures
