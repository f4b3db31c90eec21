use Rattle.std.proofs.Common.{refl}
use Rattle.plant_model.proofs.line.stock_under.Goals as goal

pub returns-in-Kanban : goal.returns-in-Kanban
returns-in-Kanban c = rw c.in-Kanban.is refl
