use Rattle.live_plant.proofs.Draws.{next_state-wraps, draw-wraps}
use Rattle.live_plant.proofs.generator.Generator.draw.Goals as goal

pub returns-clause-draw : goal.returns-clause-draw
returns-clause-draw c = rw c.self.view_is (draw-wraps c.args.self.now)

pub returns-clause-state : goal.returns-clause-state
returns-clause-state c = rw c.self.view_is (next_state-wraps c.args.self.now)
