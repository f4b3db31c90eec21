use Rattle.line_chart.proofs.PathParts.{serve-behind-stock}
use Rattle.line_chart.proofs.laws.parts_serve_behind_stock.Goals as goal

pub returns : goal.returns
returns c = serve-behind-stock
