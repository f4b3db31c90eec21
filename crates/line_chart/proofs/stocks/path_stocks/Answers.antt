use Rattle.plant_model.proofs.Soundness.{IsSound-Parts}
use Rattle.line_chart.proofs.stocks.path_stocks.Goals as goal

pub of-requires : goal.of-requires
of-requires c = (IsSound-Parts c.requires).later
