use Rattle.plant_keys.proofs.NameLists.{texts_with}
use Rattle.plant_keys.proofs.names.Names.add.Goals as goal

pub returns-clause-added : goal.returns-clause-added
returns-clause-added c = rw (← c.self.view_is) (texts_with _ _ c.args.name c.in_ok-is_new.ensures.keys)
