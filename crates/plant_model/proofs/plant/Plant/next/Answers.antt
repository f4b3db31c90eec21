use Rattle.plant_model.proofs.Soundness.{IsSound-Parts, IsSound-FeedsLater, next-later, next-exists, next-none}
use Rattle.plant_model.proofs.plant.Plant.next.Goals as goal

pub returns-clause-later : goal.returns-clause-later
returns-clause-later c =
    rw c.next_stage.ensures (next-later c.args.self.now (IsSound-FeedsLater c.requires.sound) c.args.stage c.requires.exists)

pub returns-clause-exists : goal.returns-clause-exists
returns-clause-exists c =
    rw c.next_stage.ensures (next-exists c.args.self.now (IsSound-FeedsLater c.requires.sound) c.args.stage c.requires.exists)

pub returns-clause-last : goal.returns-clause-last
returns-clause-last c =
    rw c.next_stage.ensures (next-none c.args.self.now (IsSound-Parts c.requires.sound) c.args.stage c.requires.exists)
